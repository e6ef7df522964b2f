-- Part of the statement: how many brackets and CASEs are open. The count is over all lexemes of a line, those after a fault too.
use Rattle.std.specs.Prelude.{ℕ, zero, suc, Bool, true, false, [], ◌∷◌, if◌then◌else◌}
use Rattle.gp_lexer.specs.declared.lexeme.Symbol.TheVariants as s
use Rattle.gp_lexer.specs.declared.lexeme.Lexeme.{Lexeme}
use Rattle.gp_lexer.specs.declared.lexeme.Lexeme.TheVariants.{Symbol as Sign}
use Rattle.gp_grammar.specs.Syntax.{Lexemes}

abbrev pub opens : Lexeme → Bool
opens (Sign s.Open) = true
opens (Sign s.Case) = true
opens _ = false

abbrev pub closes : Lexeme → Bool
closes (Sign s.Close) = true
closes (Sign s.End) = true
closes _ = false

-- one more is open, where there is room
abbrev pub with_room : ℕ → (ℕ → Bool) → Bool
with_room zero rest = true
with_room (suc room) rest = rest room

-- at some lexeme more brackets and CASEs are open than there is room for. One that closes makes room, also where none was open.
abbrev pub is_too_deep : ℕ → Lexemes → Bool
is_too_deep room [] = false
is_too_deep room (t ∷ ts) =
    if opens t then with_room room (λ left. is_too_deep left ts) else (if closes t then is_too_deep (suc room) ts else is_too_deep room ts)
