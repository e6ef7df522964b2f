use Rattle.std.proofs.Common.{◌≡◌, map, drop}
use Rattle.gp_syntax.specs.Views.{term_view}
use Rattle.gp_check.specs.Faults.{first_fault, term_fault}
use Rattle.gp_check.specs.Views.{source_view}
use Rattle.gp_check.proofs.columns.known_term_columns.Given as goal

abbrev pub invariant-loop-term : goal.invariant-loop-term
invariant-loop-term l =
    first_fault (term_fault (map source_view l.scope)) (map term_view (drop l.term-index l.terms))
    ≡ first_fault (term_fault (map source_view l.scope)) (map term_view l.terms)
