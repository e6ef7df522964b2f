-- A line of session 1 with a command in canonical text is read as this command.
use Rattle.std.proofs.Common.{◌≡◌, ℕ, zero, suc, ◌+◌, ◌-◌, ◌≤◌, false, List, [], ◌∷◌, ◌++◌, length, Option, Some, None, Ok, Err, refl, sym, ap, subst, ◌∙◌, arith, inl, inr, lit≤}
use Rattle.std.specs.Prelude.{codes}
use Rattle.std.specs.List.{list_any}
use Rattle.std.specs.Char.{is_ascii_control}
use Rattle.std.specs.Option.{option_map}
use Rattle.std.specs.Result.{result_ok}
use Rattle.std.specs.Str.{IsUtf8}
use Rattle.std.proofs.lemmas.Bool.{cases_Bool}
use Rattle.gp_lexer.specs.declared.lexeme.Symbol.TheVariants as s
use Rattle.gp_lexer.specs.declared.lexeme.Lexeme.{Lexeme}
use Rattle.gp_lexer.specs.declared.lexeme.Lexeme.TheVariants.{Symbol as Sign, Word}
use Rattle.gp_lexer.specs.Layout.{laid_out}
use Rattle.gp_lexer.specs.Lexemes.{symbol_text}
use Rattle.gp_lexer.specs.Lexing.{Lexed, Scanned, is_blank, lexed, lexed_at, lexed_from, lexeme_at, reserved_word, sign_at, with_lexeme, word_at}
use Rattle.gp_lexer.specs.LexResults.{lexemes_of}
use Rattle.gp_lexer.proofs.LayoutLemmas.{lexemes_of-laid_out}
use Rattle.gp_lexer.proofs.LineLemmas.{rest-shorter}
use Rattle.gp_lexer.proofs.PrintableLemmas.{laid_out-plain, laid_out-utf8}
use Rattle.gp_grammar.specs.declared.limits.TheConstants.{MAX_LINE_LENGTH}
use Rattle.gp_grammar.specs.Canonical.{command_lexemes, command_text}
use Rattle.gp_grammar.specs.CommandGrammar as g
use Rattle.gp_grammar.specs.CommandGrammar.{session_of}
use Rattle.gp_grammar.specs.Reading.{script_line_of}
use Rattle.gp_grammar.specs.Syntax.{Command, Lexemes}
use Rattle.gp_grammar.proofs.Utf8Lemmas.{ascii-cons}
use Rattle.gp_grammar.proofs.WrittenLines.{IsReadAgain, session_lexemes, line-read as written-read}
use Rattle.gp_csv.specs.Scripts.{session_line}

-- ---- the lexemes of the end of a line do not depend on the line

abbrev found_in : Lexed → Option Lexemes
found_in read = option_map (λ found. found.0) (result_ok read)

found-with : (x : Lexeme) (c : ℕ) (read : Lexed) → found_in (with_lexeme x c read) ≡ option_map (λ (ls : Lexemes). x ∷ ls) (found_in read)
found-with x c (Ok p) = refl
found-with x c (Err p) = refl

same-at : (c d : ℕ) (o : Scanned) (f h : List ℕ → Lexed) → ((found : Lexeme × List ℕ) → o ≡ Some found → found_in (f found.1) ≡ found_in (h found.1)) → found_in (lexed_at c o f) ≡ found_in (lexed_at d o h)
same-at c d None f h same = refl
same-at c d (Some found) f h same =
    found-with found.0 c (f found.1) ∙ ap (option_map (λ (ls : Lexemes). found.0 ∷ ls)) (same found refl) ∙ sym (found-with found.0 d (h found.1))

same-lexemes : (bound other : ℕ) (line base text : List ℕ) → length text ≤ bound → length text ≤ other → found_in (lexed_from bound line text) ≡ found_in (lexed_from other base text)
unfolding lexed_from
same-lexemes zero zero line base [] h k = refl
same-lexemes zero (suc other) line base [] h k = refl
same-lexemes (suc bound) zero line base [] h k = refl
same-lexemes (suc bound) (suc other) line base [] h k = refl
same-lexemes zero other line base (x ∷ text) h k = absurd (omega (arith, h))
same-lexemes (suc bound) zero line base (x ∷ text) h k = absurd (omega (arith, k))
same-lexemes (suc bound) (suc other) line base (x ∷ text) h k = elim (cases_Bool (is_blank x)) [
  | inl blank ↦ rw blank (same-lexemes bound other line base text (omega (arith, h)) (omega (arith, k)))
  | inr seen ↦ rw seen (same-at _ _ (lexeme_at (x ∷ text)) (λ rest. lexed_from bound line rest) (λ rest. lexed_from other base rest) (λ found e.
      let shorter = rest-shorter (x ∷ text) found.1 found.0 (omega arith) e in
      same-lexemes bound other line base found.1 (omega (arith, h, shorter)) (omega (arith, k, shorter))))
]

-- ---- the session

abbrev s1_lexemes : Lexemes → Lexemes
s1_lexemes ls = session_lexemes (codes "s1") ls

after-session : (bound : ℕ) (line text : List ℕ) → found_in (lexed_from (suc (suc (suc bound))) line (codes "s1: " ++ text)) ≡ option_map s1_lexemes (found_in (lexed_from bound line text))
unfolding lexed_from lexeme_at word_at sign_at reserved_word symbol_text
after-session bound line text = by (lexed_from bound line text)
  where
    by : (read : Lexed) → found_in (with_lexeme (Word (codes "s1")) (length line - length (codes "s1: " ++ text) + 1) (with_lexeme (Sign s.Colon) (length line - length (codes ": " ++ text) + 1) read)) ≡ option_map s1_lexemes (found_in read)
    by (Ok p) = refl
    by (Err p) = refl

line-lexemes : (text : List ℕ) (ls : Lexemes) → lexemes_of text ≡ Some ls → lexemes_of (codes "s1: " ++ text) ≡ Some (s1_lexemes ls)
unfolding lexed
line-lexemes text ls e =
    after-session (suc (length text)) (codes "s1: " ++ text) text
    ∙ ap (option_map s1_lexemes) (same-lexemes (suc (length text)) (length text) (codes "s1: " ++ text) text text (omega arith) (omega arith) ∙ e)

session-one : session_of (codes "s1") ≡ Some 1
session-one = refl

-- ---- a line

-- what a command has that can be read from its canonical text
pub record IsReadable (c : Command) : Type 0 where
  pub laid : command_text c ≡ laid_out (command_lexemes c)
  pub again : IsReadAgain c
  pub short : length (session_line c) ≤ MAX_LINE_LENGTH

line-utf8 : (text : List ℕ) → IsUtf8 text → IsUtf8 (codes "s1: " ++ text)
line-utf8 text utf8 =
    ascii-cons 115 (49 ∷ 58 ∷ 32 ∷ text) (lit≤ tt) (ascii-cons 49 (58 ∷ 32 ∷ text) (lit≤ tt) (ascii-cons 58 (32 ∷ text) (lit≤ tt) (ascii-cons 32 text (lit≤ tt) utf8)))

pub line-read : (c : Command) → IsReadable c → script_line_of (session_line c) ≡ Ok (record { session = 1; command = c })
line-read c h =
    let a = h.again in
    written-read (session_line c) (codes "s1") 1 c a session-one (line-utf8 (command_text c) (subst IsUtf8 (sym h.laid) (laid_out-utf8 (command_lexemes c) a.are a.texts)))
    (line-lexemes (command_text c) (command_lexemes c) (ap lexemes_of h.laid ∙ lexemes_of-laid_out (command_lexemes c) a.are)) h.short

-- it has no control character, and so no line feed and no carriage return
pub line-plain : (c : Command) → IsReadable c → list_any is_ascii_control (session_line c) ≡ false
line-plain c h = ap (λ (text : List ℕ). list_any is_ascii_control (codes "s1: " ++ text)) h.laid ∙ (let a = h.again in laid_out-plain (command_lexemes c) a.are)
