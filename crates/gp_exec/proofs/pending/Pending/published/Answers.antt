use Rattle.std.proofs.Common.{List, Option, map, filter, ap, sym, ◌∙◌}
use Rattle.std.specs.Borrow.{Bor}
use Rattle.std.specs.Option.{option_map}
use Rattle.gp_base.specs.declared.cell.Cell.{Cell}
use Rattle.gp_expr.specs.declared.expr.Expr.{Expr}
use Rattle.gp_algebra.specs.Answers.{values}
use Rattle.gp_algebra.specs.Plain.{is_marked}
use Rattle.gp_expr.specs.Views.{expr_view}
use Rattle.gp_exec.specs.Evaluating.{found_rows}
use Rattle.gp_exec.specs.PendingRows.{exprs_of, cell_there, made_rows}
use Rattle.gp_exec.proofs.PublishingLemmas.{made_marked}
use Rattle.gp_exec.proofs.pending.Pending.published.Goals as goal

pub returns : goal.returns
returns c =
    let pending = c.args.self.now in
    let kept = filter (λ (row : List Cell). is_marked (cell_there pending.mark row)) (found_rows pending.rows) in
    c.in_ok-values_on-in-Some.ensures
    ∙ (ap (map (values (map expr_view c.in-Some.exprs.now))) c.in_ok-marked.ensures
    ∙ (ap (λ (exprs : Option (Bor (List Expr))). made_rows (option_map (λ e. map expr_view e.now) exprs) kept) (sym c.in-Some.is)
    ∙ made_marked c.args.at (exprs_of pending) (cell_there pending.mark) (found_rows pending.rows) c.requires.mark.cell))
