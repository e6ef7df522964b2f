-- Of the contract of `lex`: what the lexer returns.
use Rattle.std.specs.Prelude.{◌≡◌, ℕ, List, Option, Result, Ok, Err}
use Rattle.std.specs.Option.{option_map}
use Rattle.std.specs.Result.{result_ok}
use Rattle.gp_lexer.specs.declared.lexeme.Lexeme.{Lexeme}
use Rattle.gp_lexer.specs.declared.error.LexStop.{LexStop}
use Rattle.gp_lexer.specs.declared.error.LexStop.TheVariants.{Fault, NoMemory}
use Rattle.gp_lexer.specs.Lexing.{Lexed, lexed}

-- the lexemes of a line, without their columns
abbrev pub lexemes_of : List ℕ → Option (List Lexeme)
lexemes_of line = option_map (λ found. found.0) (result_ok (lexed line))

-- what the lexer answers; running out of memory says nothing about the line
abbrev pub GivesLexemes : Result (List Lexeme × List ℕ) LexStop → Lexed → Type 0
GivesLexemes (Ok found) line = line ≡ Ok found
GivesLexemes (Err (Fault column)) line = line ≡ Err column
GivesLexemes (Err NoMemory) line = Unit {0}
