use Rattle.std.proofs.Common.{List, ◌∷◌, [], filter, ap, sym, ◌∙◌, arith}
use Rattle.std.specs.List.{flat_map}
use Rattle.std.proofs.lemmas.List.{take_all}
use Rattle.gp_base.specs.declared.cell.Cell.{Cell}
use Rattle.gp_algebra.specs.Plain.{is_marked}
use Rattle.gp_exec.specs.Evaluating.{found_rows}
use Rattle.gp_exec.specs.PendingRows.{cell_there}
use Rattle.gp_exec.proofs.RelationLemmas.{filter_parts}
use Rattle.gp_exec.proofs.pending.Pending.marked.Goals as goal

pub returns : goal.returns
returns c =
    let marked = λ (row : List Cell). is_marked (cell_there c.args.self.now.mark row) in
    let each = λ (row : List Cell). filter marked (row ∷ []) in
    let rows = found_rows c.args.self.now.rows in
    c.loop-place.invariant ∙ (ap (flat_map each) (take_all c.loop-place.place rows (omega (arith, c.len-place-end.ensures, c.loop-place-test.false))) ∙ sym (filter_parts marked rows))
