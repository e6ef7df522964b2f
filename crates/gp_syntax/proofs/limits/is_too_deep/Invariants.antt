use Rattle.std.proofs.Common.{◌≡◌, ◌+◌, ◌≤◌, drop}
use Rattle.gp_grammar.specs.declared.limits.TheConstants.{MAX_OPEN}
use Rattle.gp_grammar.specs.Depth.{is_too_deep}
use Rattle.gp_syntax.proofs.limits.is_too_deep.Given as goal

abbrev pub invariant-loop-lexeme : goal.invariant-loop-lexeme
invariant-loop-lexeme l =
    (is_too_deep l.room (drop l.lexeme-index l.lexemes) ≡ is_too_deep MAX_OPEN l.lexemes) × (l.room ≤ MAX_OPEN + l.lexeme-index)
