use Rattle.std.proofs.Common.{sym, ◌∙◌}
use Rattle.gp_base.specs.Order.{row_cmp}
use Rattle.gp_base.specs.RowOrder.{exact_rows}
use Rattle.gp_base.proofs.OrderLemmas.{equal_from_is_eq}
use Rattle.gp_versions.proofs.SameLemmas.{same-exact}
use Rattle.gp_ask.proofs.MadeSpans.{span-same}
use Rattle.gp_ask.proofs.made.is_same_span.Goals as goal

pub returns : goal.returns
returns c = λ same.
    let span = c.args.span.now in
    let other = c.args.other.now in
    span-same span other (same-exact span.id other.id (sym c.is_same_id.ensures ∙ c.if-not-is_same_id.false)) c.if-span-other.false (c.is_same_end.ensures c.if-not-is_same_end.false)
    (exact_rows span.row other.row (equal_from_is_eq (row_cmp span.row other.row) (sym c.is_same_row.ensures ∙ same)))
