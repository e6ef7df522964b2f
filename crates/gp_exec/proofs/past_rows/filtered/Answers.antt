use Rattle.std.proofs.Common.{List, ◌∷◌, [], filter, map, ap, sym, ◌∙◌}
use Rattle.std.specs.List.{flat_map}
use Rattle.std.proofs.lemmas.List.{take_all}
use Rattle.gp_base.specs.declared.cell.Cell.{Cell}
use Rattle.gp_expr.specs.Values.{passes}
use Rattle.gp_expr.specs.Views.{cond_view}
use Rattle.gp_exec.specs.declared.past_rows.PastRow.{PastRow}
use Rattle.gp_exec.specs.PastRows.{past_row}
use Rattle.gp_exec.proofs.RelationLemmas.{filter_parts}
use Rattle.gp_exec.proofs.past_rows.filtered.Goals as goal

pub returns : goal.returns
returns c =
    let each = λ (row : List Cell). filter (passes (cond_view c.args.cond.now)) (row ∷ []) in
    c.loop-row.invariant
    ∙ (ap (λ (rows : List PastRow). flat_map each (map past_row rows)) (take_all c.loop-row.row-index c.args.rows.now c.loop-row-test.false)
    ∙ sym (filter_parts (passes (cond_view c.args.cond.now)) (map past_row c.args.rows.now)))
