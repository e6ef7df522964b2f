-- A line of a session with the canonical lexemes of a command is read as this command.
use Rattle.gp_grammar.proofs.Prelude.{◌≡◌, ℕ, ◌≤◌, List, ◌∷◌, length, Some, None, Ok, Err, refl, ap, ◌∙◌, result_ok, IsUtf8, Sign, Word, lexemes_of, Lexed, lexed, AreProper, MAX_LINE_LENGTH, command_lexemes, capped_line, IsCommand, IsScriptLine, session_of, script_line, command_shape, line_shape, passed_limit, script_line_of, Bytes, Command, Lexemes}
use Rattle.std.specs.Option.{option_map}
use Rattle.gp_lexer.specs.declared.lexeme.Symbol.TheVariants as s
use Rattle.gp_lexer.specs.ProperLexemes.{HaveUtf8Texts}
use Rattle.gp_grammar.specs.CommandGrammar as g
use Rattle.gp_grammar.proofs.CanonicalCommandDepth.{command-shallow}
use Rattle.gp_grammar.proofs.LineLaws.{lines-read}
use Rattle.gp_grammar.proofs.ParserLaws.{lawful-line}
use Rattle.gp_grammar.proofs.ShapeLemmas.{lines-fair}

-- a session in front of lexemes
abbrev pub session_lexemes : Bytes → Lexemes → Lexemes
session_lexemes name ls = Word name ∷ Sign s.Colon ∷ ls

-- the canonical lexemes of a command that is read again
pub record IsReadAgain (c : Command) : Type 0 where
  pub derived : IsCommand (command_lexemes c) c
  pub within : passed_limit (command_shape c) ≡ None
  pub are : AreProper (command_lexemes c)
  pub texts : HaveUtf8Texts (command_lexemes c)

-- lexemes that are found without their columns have columns
record Columns (bytes : Bytes) (ls : Lexemes) : Type 0 where
  columns : List ℕ
  found : lexed bytes ≡ Ok (ls, columns)

columns-by : (bytes : Bytes) (ls : Lexemes) (read : Lexed) → lexed bytes ≡ read → option_map (λ found. found.0) (result_ok read) ≡ Some ls → Columns bytes ls
columns-by bytes ls (Ok found) e h = let k : found.0 ≡ ls = cc in record { columns = found.1; found = e ∙ ap (λ z. Ok (z, found.1)) k }
columns-by bytes ls (Err column) e h = cc

pub line-read : (bytes name : Bytes) (n : ℕ) (c : Command) → IsReadAgain c → session_of name ≡ Some n → IsUtf8 bytes
    → lexemes_of bytes ≡ Some (session_lexemes name (command_lexemes c)) → length bytes ≤ MAX_LINE_LENGTH → script_line_of bytes ≡ Ok (record { session = n; command = c })
line-read bytes name n c again session utf8 lexemes short =
    let found = columns-by bytes (session_lexemes name (command_lexemes c)) (lexed bytes) refl lexemes in
    (lines-read script_line IsScriptLine capped_line line_shape lawful-line lines-fair bytes (record { session = n; command = c })).1 (record {
      short = short;
      text = record {
        lexemes = session_lexemes name (command_lexemes c);
        columns = found.columns;
        lexical = record { utf8 = utf8; found = found.found };
        shallow = command-shallow c again.within;
        derived = g.open_end (session_lexemes name (command_lexemes c)) (record { session = n; command = c }) (g.in_session name n (command_lexemes c) c session again.derived);
        within = again.within;
      };
    })
