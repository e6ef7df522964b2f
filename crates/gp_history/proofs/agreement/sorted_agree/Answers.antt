use Rattle.std.proofs.Common.{List, ap, map, ◌∙◌, ◌≡◌}
use Rattle.std.specs.Cmp.Lexicographic.{slice_cmp}
use Rattle.std.specs.Ordering.{is_eq}
use Rattle.gp_base.specs.declared.cell.Cell.{Cell}
use Rattle.gp_base.specs.Order.{row_cmp, sorted_by}
use Rattle.gp_history.specs.Matching.{keys_of}
use Rattle.gp_history.specs.Noted.{held_key}
use Rattle.gp_history.proofs.agreement.sorted_agree.Goals as goal

pub returns : goal.returns
returns g c =
    let own : c.as_slice.result.now ≡ sorted_by row_cmp (map held_key c.args.rows.now) =
    c.as_slice.ensures.value ∙ c.in_ok-sort_rows.ensures.unique ∙ ap (sorted_by row_cmp) c.in_ok-keys.ensures in
    let expected : c.as_slice-2.result.now ≡ sorted_by row_cmp (keys_of c.args.version (map (λ span. span.now) c.args.spans.now)) =
    c.as_slice-2.ensures.value ∙ c.in_ok-sort_rows-2.ensures.unique ∙ ap (sorted_by row_cmp) c.in_ok-due.ensures in
    c.are_equal.ensures
    ∙ ap (λ (keys : List (List Cell)). is_eq (slice_cmp row_cmp keys c.as_slice-2.result.now)) own
    ∙ ap (λ (keys : List (List Cell)). is_eq (slice_cmp row_cmp (sorted_by row_cmp (map held_key c.args.rows.now)) keys)) expected
