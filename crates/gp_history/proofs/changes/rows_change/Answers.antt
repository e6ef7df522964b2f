use Rattle.std.proofs.Common.{List, map, ap, refl, sym, ◌∙◌}
use Rattle.gp_base.specs.declared.cell.Cell.{Cell}
use Rattle.gp_history.specs.Agreement.{key_of, keys_agree}
use Rattle.gp_history.specs.Matching.{keys_of}
use Rattle.gp_history.specs.Noted.{row_view}
use Rattle.gp_history.proofs.changes.rows_change.Goals as goal
use Rattle.gp_base.proofs.SmallLemmas.{map-map}

pub returns-then-not-branch : goal.returns-then-not-branch
returns-then-not-branch g c =
    let expected = keys_of c.args.version (map (λ span. span.now) c.args.spans.now) in
    (ap (λ (keys : List (List Cell)). keys_agree keys expected) (map-map key_of row_view c.args.rows.now) ∙ sym c.in_ok-agree.ensures ∙ c.if-not-branch.true, (refl, refl))

pub returns : goal.returns
returns g c =
    let expected = keys_of c.args.version (map (λ span. span.now) c.args.spans.now) in
    (ap (λ (keys : List (List Cell)). keys_agree keys expected) (map-map key_of row_view c.args.rows.now) ∙ sym c.in_ok-agree.ensures ∙ c.if-not-branch.false, c.in_ok-notes_of.ensures)
