-- Machinery: a text is read part by part. A part is a byte of the value or the closing quote.
use Rattle.std.specs.Prelude.{ℕ, List, [], Option, Some, None}
use Rattle.gp_lexer.specs.Lexing.{Quoted, with_byte, quoted_text}

-- the text that begins with this part; None as a part is a fault, and Some (None, rest) is the closing quote
abbrev pub text_of_part : Option (Option ℕ × List ℕ) → Quoted
text_of_part None = None
text_of_part (Some (None, rest)) = Some ([], rest)
text_of_part (Some (Some byte, rest)) = with_byte byte (quoted_text rest)
