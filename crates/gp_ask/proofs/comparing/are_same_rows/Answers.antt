use Rattle.std.proofs.Common.{sym, ◌∙◌}
use Rattle.std.specs.Cmp.Lexicographic.{slice_cmp}
use Rattle.std.specs.FinMap.{slice_cmp-IsAntisymmetric}
use Rattle.gp_base.specs.Order.{row_cmp}
use Rattle.gp_base.specs.RowOrder.{exact_rows}
use Rattle.gp_base.proofs.OrderLemmas.{equal_from_is_eq}
use Rattle.gp_ask.proofs.comparing.are_same_rows.Goals as goal

pub returns : goal.returns
returns c = λ same.
    slice_cmp-IsAntisymmetric exact_rows c.args.rows.now c.args.others.now (equal_from_is_eq (slice_cmp row_cmp c.args.rows.now c.args.others.now) (sym c.are_equal.ensures ∙ same))
