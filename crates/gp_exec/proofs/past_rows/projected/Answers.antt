use Rattle.std.proofs.Common.{◌≡◌, ◌<◌, ◌≤◌, true, List, Option, Some, Ok, Err, Vec, Global, length, map, sym, ap, subst, ◌∙◌, arith}
use Rattle.std.specs.List.{list_all}
use Rattle.std.specs.Option.{option_map}
use Rattle.std.proofs.lemmas.List.Folds.{list_all-map}
use Rattle.gp_base.specs.declared.cell.Cell.{Cell}
use Rattle.gp_base.specs.declared.limit.TheConstants.{MAX_ANSWER_ROWS}
use Rattle.gp_base.specs.declared.row.Row.{Row}
use Rattle.gp_base.proofs.SmallLemmas.{length-map}
use Rattle.gp_expr.specs.ExpressionForms.{is_simple}
use Rattle.gp_expr.specs.Views.{expr_view}
use Rattle.gp_algebra.specs.Answers.{values}
use Rattle.gp_algebra.specs.PlainViews.{query_view}
use Rattle.gp_exec.specs.declared.error.ExecStop.TheVariants.{Answer}
use Rattle.gp_exec.specs.declared.past_rows.PastRow.{PastRow}
use Rattle.gp_exec.specs.PastRows.{Runs, found_in, past_row}
use Rattle.gp_exec.proofs.PastLemmas.{projected_is}
use Rattle.gp_exec.proofs.past_rows.projected.Goals as goal

pub made-requires : goal.made-requires
made-requires c = list_all-map is_simple expr_view c.args.exprs.now ∙ (sym c.are_simple.ensures ∙ c.if-not-are_simple.false)

pub returns-then-chosen-gt-MAX_ANSWER_ROWS : goal.returns-then-chosen-gt-MAX_ANSWER_ROWS
returns-then-chosen-gt-MAX_ANSWER_ROWS c =
    let exprs = map expr_view c.args.exprs.now in
    let query = query_view c.args.input.now in
    let rows = map past_row c.args.rows.now in
    let chosen = c.as_slice-chosen.result.now in
    let simple : list_all is_simple exprs ≡ true = list_all-map is_simple expr_view c.args.exprs.now ∙ (sym c.are_simple.ensures ∙ c.if-not-are_simple.false) in
    let is : found_in c.args.at rows query ≡ Some (map past_row chosen) =
    sym c.in_ok-picks.ensures ∙ (ap (λ (found : Option (Vec PastRow Global)). option_map (λ picks. map past_row picks.items) found) c.in-Some.is ∙ ap (λ (picks : List PastRow). Some (map past_row picks)) (sym c.as_slice-chosen.ensures.value)) in
    let many : length (map (values exprs) (map past_row chosen)) ≡ length chosen = length-map (values exprs) (map past_row chosen) ∙ length-map past_row chosen in
    let over : MAX_ANSWER_ROWS < length chosen = c.if-chosen-gt-MAX_ANSWER_ROWS.true in
    subst (λ (found : Option (List (List Cell))). Runs {X = Vec Row Global} (λ found. found.items) (Err Answer) found) (sym (projected_is c.args.at rows (map past_row chosen) query exprs simple is))
    (subst (λ n. MAX_ANSWER_ROWS < n) (sym many) over)

pub returns : goal.returns
returns c =
    let exprs = map expr_view c.args.exprs.now in
    let query = query_view c.args.input.now in
    let rows = map past_row c.args.rows.now in
    let chosen = c.as_slice-chosen.result.now in
    let simple : list_all is_simple exprs ≡ true = list_all-map is_simple expr_view c.args.exprs.now ∙ (sym c.are_simple.ensures ∙ c.if-not-are_simple.false) in
    let is : found_in c.args.at rows query ≡ Some (map past_row chosen) =
    sym c.in_ok-picks.ensures ∙ (ap (λ (found : Option (Vec PastRow Global)). option_map (λ picks. map past_row picks.items) found) c.in-Some.is ∙ ap (λ (picks : List PastRow). Some (map past_row picks)) (sym c.as_slice-chosen.ensures.value)) in
    let many : length (map (values exprs) (map past_row chosen)) ≡ length chosen = length-map (values exprs) (map past_row chosen) ∙ length-map past_row chosen in
    let few : length (map (values exprs) (map past_row chosen)) ≤ MAX_ANSWER_ROWS = omega (arith, many, c.if-chosen-gt-MAX_ANSWER_ROWS.false) in
    subst (λ (found : Option (List (List Cell))). Runs {X = Vec Row Global} (λ found. found.items) (Ok (Some c.in_ok-made.field-0)) found) (sym (projected_is c.args.at rows (map past_row chosen) query exprs simple is)) (c.in_ok-made.ensures, few)
