use Rattle.std.proofs.Common.{map, drop, ◌∷◌, []}
use Rattle.std.specs.List.{concat}
use Rattle.gp_expr.specs.Views.{expr_view}
use Rattle.gp_sql.specs.ItemTexts.{name_text, named_behind, separator}
use Rattle.gp_sql.specs.Spelling.{term_text}
use Rattle.gp_sql.specs.Translation.{expr_term, exprs_terms, first_due}
use Rattle.gp_sql.proofs.ItemLemmas.{exprs-more, loop-kept}
use Rattle.gp_sql.proofs.ListLemmas.{item-there}
use Rattle.gp_sql.proofs.item_writer.push_exprs.Goals as goal

pub loop-n-preserved : goal.loop-n-preserved
loop-n-preserved c =
    let tables = c.args.catalog.now in
    let types = c.args.types.now in
    let due = c.args.due.now in
    loop-kept (λ n xs. named_behind tables n (exprs_terms types (drop n due) (map expr_view xs)))
    (λ n x. concat (separator n ∷ term_text tables (expr_term types (first_due (drop n due)) (expr_view x)) ∷ name_text n ∷ []))
    (exprs-more tables types due) c.args.exprs.now c.loop-n.n c.index-exprs-n.result c.loop-n.out.items c.push_expr_item.new.out.items _
    (item-there c.args.exprs.now c.loop-n.n c.index-exprs-n.result c.loop-n-test.true c.index-exprs-n.is) c.in_ok-push_expr_item.ensures c.loop-n.invariant
