use Rattle.std.proofs.Common.{◌≡◌, ◌++◌, map, drop}
use Rattle.gp_syntax.specs.Views.{term_view}
use Rattle.gp_check.specs.Typing.{type_of}
use Rattle.gp_check.specs.Views.{source_view}
use Rattle.gp_check.proofs.typing.term_types.Given as goal

abbrev pub invariant-loop-term : goal.invariant-loop-term
invariant-loop-term l =
    l.types ++ map (type_of (map source_view l.scope)) (map term_view (drop l.term-index l.terms))
    ≡ map (type_of (map source_view l.scope)) (map term_view l.terms)
