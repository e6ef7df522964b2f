use Rattle.std.proofs.Common.{◌≡◌, length}
use Rattle.gp_lexer.specs.Lexing.{quoted_text}
use Rattle.gp_lexer.proofs.TextLemmas.{with_bytes}
use Rattle.gp_lexer.proofs.lexer.quoted_text.Given as goal

-- the bytes so far, and the text that the rest is, are the text
abbrev pub invariant-loop-byte : goal.invariant-loop-byte
invariant-loop-byte l = with_bytes l.value.items (quoted_text l.rest) ≡ quoted_text l.fn.bytes

abbrev pub decreases-loop-byte : goal.decreases-loop-byte
decreases-loop-byte l = length l.rest
