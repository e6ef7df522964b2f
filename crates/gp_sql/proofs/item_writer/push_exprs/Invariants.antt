use Rattle.std.proofs.Common.{◌≡◌, ◌++◌, map, drop}
use Rattle.gp_expr.specs.Views.{expr_view}
use Rattle.gp_sql.specs.ItemTexts.{named_behind}
use Rattle.gp_sql.specs.Spelling.{named_text}
use Rattle.gp_sql.specs.Translation.{exprs_terms}
use Rattle.gp_sql.proofs.item_writer.push_exprs.Given as goal

-- what was appended and the items that remain are all items
abbrev pub invariant-loop-n : goal.invariant-loop-n
invariant-loop-n l =
    l.out.items ++ named_behind l.catalog l.n (exprs_terms l.types (drop l.n l.due) (map expr_view (drop l.n l.exprs)))
    ≡ l.initial.out.items ++ named_text l.catalog 1 (exprs_terms l.types l.due (map expr_view l.exprs))
