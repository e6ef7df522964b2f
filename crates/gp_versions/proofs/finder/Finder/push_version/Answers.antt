use Rattle.std.proofs.Common.{subst}
use Rattle.gp_versions.specs.declared.key.Key.{Key}
use Rattle.gp_versions.specs.Finding.{HasPlaces}
use Rattle.gp_versions.proofs.FinderLemmas.{has-version}
use Rattle.gp_versions.proofs.finder.Finder.push_version.Goals as goal

pub returns-clause-all : goal.returns-clause-all
returns-clause-all c = λ all.
    let finder = c.args.self.now in
    let few = c.push_places.new.found.items in
    let places = c.push_places-2.new.found.items in
    has-version finder c.args.version places few
    (subst (λ (key : Key). HasPlaces key finder.begun few) c.key_of_number.ensures (c.in_ok-push_places.ensures.all c.if-not-branch.false))
    c.in_ok-push_places-2.ensures.kept
    (subst (λ (key : Key). HasPlaces key finder.ended places) c.key_of_number-2.ensures (c.in_ok-push_places-2.ensures.all all))
