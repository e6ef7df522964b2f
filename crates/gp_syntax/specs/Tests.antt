-- Machinery: the tests before a text is parsed.
use Rattle.std.specs.Prelude.{ℕ, List, Result, Ok, Err, if◌then◌else◌}
use Rattle.std.specs.Str.{is_utf8}
use Rattle.gp_lexer.specs.Lexing.{Lexed, lexed}
use Rattle.gp_grammar.specs.declared.limits.TheConstants.{MAX_OPEN}
use Rattle.gp_grammar.specs.Syntax.{Lexemes, Bytes}
use Rattle.gp_grammar.specs.Depth.{is_too_deep}
use Rattle.gp_grammar.specs.Limits.{depth}
use Rattle.gp_grammar.specs.LineReading.{Fault, not_utf8, lexical, over}

abbrev pub shallow : Lexed → Result (Lexemes × List ℕ) Fault
shallow (Err column) = Err (lexical column)
shallow (Ok l) = if is_too_deep MAX_OPEN l.0 then Err (over depth) else Ok l

-- the lexemes of a text and their columns, unless it is not UTF-8, has a lexical fault or opens too many brackets
abbrev pub tested_lexemes : Bytes → Result (Lexemes × List ℕ) Fault
tested_lexemes bytes = if is_utf8 bytes then shallow (lexed bytes) else Err not_utf8
