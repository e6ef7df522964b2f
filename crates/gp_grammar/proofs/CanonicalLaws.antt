-- The laws of canonical lexemes.
use Rattle.gp_grammar.proofs.Prelude.{◌≡◌, ℕ, true, false, List, [], ◌∷◌, Some, None, Ok, Err, refl, ap, ◌∙◌, AllByRecursion, result_ok, IsUtf8, IsUtf8-from_is_utf8, laid_out, Lexed, lexed, lexemes_of, IsProper, AreProper, Lexemes, Bytes, Command, capped_command, IsCommand, command_shape, passed_limit, command_lexemes, command_text, ReadsText, command}
use Rattle.std.specs.Option.{option_map}
use Rattle.std.specs.Str.{chars, is_utf8}
use Rattle.gp_lexer.specs.Lexing as lex
use Rattle.gp_lexer.proofs.LayoutLemmas.{lexemes_of-laid_out}
use Rattle.gp_lexer.proofs.ProperLemmas.{lexemes-proper}
use Rattle.gp_lexer.specs.Lexemes.{symbol_text}
use Rattle.gp_grammar.specs.Syntax as y
use Rattle.gp_grammar.specs.Reading.{command_of}
use Rattle.gp_grammar.specs.Laws.{CanonicalIsDerived, CanonicalIsParsed, CanonicalIsShallow, CanonicalIsProper, CanonicalTextIsRead, CanonicalTextIsUtf8, CanonicalTextIsOneLine}
use Rattle.gp_grammar.proofs.ParserLaws.{lawful-command}
use Rattle.gp_grammar.proofs.ShapeLemmas.{command-exact, commands-fair}
use Rattle.gp_grammar.proofs.LineLaws.{texts-read}
use Rattle.gp_grammar.proofs.LineFeedLemmas.{has_line_feed, laid_out-plain}
use Rattle.gp_grammar.proofs.Utf8Lemmas.{HasUtf8, AllHaveUtf8, symbols-utf8, big-utf8, lexed-utf8, laid_out-utf8}
use Rattle.gp_grammar.proofs.CanonicalCommands.{command-canonical}
use Rattle.gp_grammar.proofs.CanonicalSource.{command-every}
use Rattle.gp_grammar.proofs.CanonicalCommandDepth.{command-shallow}

pub derived : CanonicalIsDerived
derived = command-canonical

pub parsed : CanonicalIsParsed
parsed ts x i h =
    (lawful-command.parses (command_lexemes x) (capped_command x)).1 (record { tree = x; is = command-canonical ts x i; same = refl })
    ∙ ap (λ z. Ok z) (command-exact x h)

pub shallow : CanonicalIsShallow
shallow = command-shallow

every-proper : (ts : Lexemes) → AreProper ts → AllByRecursion IsProper ts
every-proper [] h = tt
every-proper (t ∷ ts) h = (h.0, every-proper ts h.1)

proper-every : (ts : Lexemes) → AllByRecursion IsProper ts → AreProper ts
proper-every [] h = tt
proper-every (t ∷ ts) h = (h.0, proper-every ts h.1)

pub proper : CanonicalIsProper
proper ts x i h = proper-every (command_lexemes x) (command-every IsProper (λ symbol. tt) tt ts x i (every-proper ts h))

-- ---- canonical texts

-- the bytes are one line of UTF-8 with these lexemes
pub record IsLineOf (bytes : Bytes) (ts : Lexemes) : Type 0 where
  pub utf8 : IsUtf8 bytes
  pub one_line : has_line_feed bytes ≡ false
  pub lexemes : lexemes_of bytes ≡ Some ts

laid_out-line : (ts : Lexemes) → AreProper ts → AllHaveUtf8 ts → IsLineOf (laid_out ts) ts
laid_out-line ts are texts = record { utf8 = laid_out-utf8 ts are texts; one_line = laid_out-plain ts are; lexemes = lexemes_of-laid_out ts are }

-- the words in capitals are read as names
read_committed-line : IsLineOf (command_text (y.begin true)) (command_lexemes (y.begin true))
unfolding is_utf8 chars lib.Utf8.encode lex.lexed lex.lexed_from lex.lexeme_at lex.word_at lex.reserved_word symbol_text lex.number_at lex.sign_at
read_committed-line = record { utf8 = IsUtf8-from_is_utf8 (command_text (y.begin true)) refl; one_line = refl; lexemes = refl }

pub text-line : (x : Command) → AreProper (command_lexemes x) → AllHaveUtf8 (command_lexemes x) → IsLineOf (command_text x) (command_lexemes x)
text-line (y.begin true) are texts = read_committed-line
text-line x are texts = laid_out-line (command_lexemes x) are texts

pub lexed-lexemes : (bytes : Bytes) (ts : Lexemes) (cs : List ℕ) → lexed bytes ≡ Ok (ts, cs) → lexemes_of bytes ≡ Some ts
lexed-lexemes bytes ts cs e = ap (λ o. option_map (λ found. found.0) (result_ok o)) e

-- lexemes that are found without their columns have columns
record Columns (bytes : Bytes) (ts : Lexemes) : Type 0 where
  columns : List ℕ
  found : lexed bytes ≡ Ok (ts, columns)

columns-by : (bytes : Bytes) (ts : Lexemes) (o : Lexed) → lexed bytes ≡ o → option_map (λ found. found.0) (result_ok o) ≡ Some ts → Columns bytes ts
columns-by bytes ts (Ok found) e h = let k : found.0 ≡ ts = cc in record { columns = found.1; found = e ∙ ap (λ z. Ok (z, found.1)) k }
columns-by bytes ts (Err column) e h = cc

-- the canonical text of a command that is derived from lexemes of a text
canonical-line : (ts : Lexemes) (x : Command) → IsCommand ts x → AreProper ts → AllHaveUtf8 ts → IsLineOf (command_text x) (command_lexemes x)
canonical-line ts x i are texts = text-line x (proper ts x i are) (command-every HasUtf8 symbols-utf8 big-utf8 ts x i texts)

-- and is read as it within the limits
pub derived-read : (ts : Lexemes) (x : Command) → IsCommand ts x → passed_limit (command_shape x) ≡ None → AreProper ts → AllHaveUtf8 ts → command_of (command_text x) ≡ Ok x
derived-read ts x i within are texts =
    let w : IsLineOf (command_text x) (command_lexemes x) = canonical-line ts x i are texts in
    let c : Columns (command_text x) (command_lexemes x) = columns-by (command_text x) (command_lexemes x) (lexed (command_text x)) refl w.lexemes in
    (texts-read command IsCommand capped_command command_shape lawful-command commands-fair (command_text x) x).1 (record {
      lexemes = command_lexemes x;
      columns = c.columns;
      lexical = record { utf8 = w.utf8; found = c.found };
      shallow = command-shallow x within;
      derived = command-canonical ts x i;
      within = within;
    })

-- the lexemes that a command was read from
record WasRead (x : Command) : Type 0 where
  lexemes : Lexemes
  is : IsCommand lexemes x
  within : passed_limit (command_shape x) ≡ None
  proper : AreProper lexemes
  texts : AllHaveUtf8 lexemes

was-read : (bytes : Bytes) (x : Command) → command_of bytes ≡ Ok x → WasRead x
was-read bytes x e =
    let r : ReadsText IsCommand command_shape bytes x = (texts-read command IsCommand capped_command command_shape lawful-command commands-fair bytes x).0 e in
    record {
      lexemes = r.lexemes;
      is = r.derived;
      within = r.within;
      proper = lexemes-proper bytes r.lexemes (lexed-lexemes bytes r.lexemes r.columns r.lexical.found);
      texts = lexed-utf8 bytes r.lexemes r.columns r.lexical.utf8 r.lexical.found;
    }

pub text-utf8 : CanonicalTextIsUtf8
text-utf8 bytes x e = let w : WasRead x = was-read bytes x e in (canonical-line w.lexemes x w.is w.proper w.texts).utf8

pub text-one_line : CanonicalTextIsOneLine
text-one_line bytes x e = let w : WasRead x = was-read bytes x e in (canonical-line w.lexemes x w.is w.proper w.texts).one_line

pub text-read : CanonicalTextIsRead
text-read bytes x e = let w : WasRead x = was-read bytes x e in derived-read w.lexemes x w.is w.within w.proper w.texts
