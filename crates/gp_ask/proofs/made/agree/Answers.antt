use Rattle.std.proofs.Common.{List, ap, ◌∙◌, ◌≡◌}
use Rattle.std.specs.Cmp.Lexicographic.{slice_cmp}
use Rattle.std.specs.Ordering.{is_eq}
use Rattle.gp_base.specs.declared.cell.Cell.{Cell}
use Rattle.gp_base.specs.Order.{row_cmp, sorted_by}
use Rattle.gp_history.specs.Matching.{keys_of}
use Rattle.gp_ask.proofs.made.agree.Goals as goal

pub returns : goal.returns
returns c =
    let own : c.as_slice.result.now ≡ sorted_by row_cmp (keys_of c.args.version c.args.table.now.spans) =
    c.as_slice.ensures.value ∙ c.in_ok-sort_rows.ensures.unique ∙ ap (sorted_by row_cmp) c.in_ok-keys.ensures in
    let expected : c.as_slice-2.result.now ≡ sorted_by row_cmp (keys_of c.args.version c.args.other.now.spans) =
    c.as_slice-2.ensures.value ∙ c.in_ok-sort_rows-2.ensures.unique ∙ ap (sorted_by row_cmp) c.in_ok-others.ensures in
    c.are_equal.ensures
    ∙ ap (λ (keys : List (List Cell)). is_eq (slice_cmp row_cmp keys c.as_slice-2.result.now)) own
    ∙ ap (λ (keys : List (List Cell)). is_eq (slice_cmp row_cmp (sorted_by row_cmp (keys_of c.args.version c.args.table.now.spans)) keys)) expected
