use Rattle.std.proofs.Common.{◌≡◌, ◌++◌, map, drop}
use Rattle.gp_expr.specs.Views.{expr_view}
use Rattle.gp_syntax.specs.Views.{term_view}
use Rattle.gp_check.specs.Meaning.{expr_of}
use Rattle.gp_check.specs.Views.{source_view}
use Rattle.gp_check.proofs.meaning.term_exprs.Given as goal

abbrev pub invariant-loop-term : goal.invariant-loop-term
invariant-loop-term l =
    map expr_view l.exprs ++ map (expr_of (map source_view l.scope)) (map term_view (drop l.term-index l.terms))
    ≡ map (expr_of (map source_view l.scope)) (map term_view l.terms)
