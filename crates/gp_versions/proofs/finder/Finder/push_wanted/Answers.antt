use Rattle.std.proofs.Common.{refl, subst}
use Rattle.gp_versions.specs.declared.key.Key.{Key}
use Rattle.gp_versions.specs.Finding.{HasPlaces}
use Rattle.gp_versions.proofs.FinderLemmas.{has-own}
use Rattle.gp_versions.proofs.finder.Finder.push_wanted.Goals as goal

pub returns : goal.returns
returns c = λ all.
    let finder = c.args.self.now in
    let wanted = c.args.wanted.now in
    let spans = c.args.spans.now in
    let places = c.push_places.new.found.items in
    let between = c.in_ok-push_between.ensures.all c.if-not-branch.false in
    let mine = has-own finder wanted.t places (subst (λ (key : Key). HasPlaces key finder.own places) c.key_of_number.ensures (c.in_ok-push_places.ensures.all c.if-not-branch-2.false)) spans c.requires in
    record {
      begun = λ q span at within. c.in_ok-push_cells.ensures.kept q (c.in_ok-push_places.ensures.kept q ((between span.from within.0 within.1).begun spans c.requires q span at refl));
      ended = λ to above below q span at ends. c.in_ok-push_cells.ensures.kept q (c.in_ok-push_places.ensures.kept q ((between to above below).ended spans c.requires q span at ends));
      own = λ q span at is. c.in_ok-push_cells.ensures.kept q (mine q span at is);
      cells = c.in_ok-push_cells.ensures.all all;
    }
