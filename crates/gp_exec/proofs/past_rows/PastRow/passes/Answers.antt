use Rattle.std.proofs.Common.{◌≡◌, true, false, List, ◌∷◌, [], length, sym, ap, ◌∙◌}
use Rattle.gp_base.specs.declared.cell.Cell.{Cell}
use Rattle.gp_base.specs.declared.cell.Cell.TheVariants as cell
use Rattle.gp_expr.specs.Values.{holds}
use Rattle.gp_expr.specs.Views.{cond_view}
use Rattle.gp_exec.specs.Search.{cond_is_within}
use Rattle.gp_exec.proofs.EarlyLemmas.{truth_same}
use Rattle.gp_exec.proofs.past_rows.PastRow.passes.Goals as goal

pub returns-then-cond_is_within : goal.returns-then-cond_is_within
returns-then-cond_is_within c =
    let row = c.args.self.now.row.now in
    let tail = cell.Id c.args.self.now.id.now ∷ cell.Mark false ∷ [] in
    let cond = cond_view c.args.cond.now in
    let within : cond_is_within (length row) cond ≡ true = ap (λ (cells : List Cell). cond_is_within (length cells) cond) (sym c.cells.ensures.cells) ∙ (sym c.cond_is_within.ensures ∙ c.if-cond_is_within.true) in
    c.holds.ensures ∙ (ap holds c.truth.ensures ∙ sym (ap holds (truth_same cond row tail within)))
