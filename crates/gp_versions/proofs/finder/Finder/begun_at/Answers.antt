use Rattle.std.proofs.Common.{subst}
use Rattle.gp_versions.specs.declared.key.Key.{Key}
use Rattle.gp_versions.specs.Finding.{HasPlaces}
use Rattle.gp_versions.proofs.FinderLemmas.{has-begun}
use Rattle.gp_versions.proofs.finder.Finder.begun_at.Goals as goal

pub returns-then-branch : goal.returns-then-branch
returns-then-branch c =
    let finder = c.args.self.now in
    let places = c.push_places.new.found.items in
    has-begun finder c.args.version places (subst (λ (key : Key). HasPlaces key finder.begun places) c.key_of_number.ensures (c.in_ok-push_places.ensures.all c.if-branch.true))
