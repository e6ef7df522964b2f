-- The script that is written of lines is read as these lines.
use Rattle.std.proofs.Common.{◌≡◌, ◌<◌, ◌≤◌, ℕ, zero, suc, ◌+◌, ◌-◌, Bool, true, false, not, ◌&&◌, nat_lt, ◌/◌, ◌%◌, List, [], ◌∷◌, ◌++◌, length, filter, Option, Some, None, Result, Ok, refl, ap, subst, ◌∙◌, eqb-true, leb, leb-true, leb-false, arith, if◌then◌else◌}
use Rattle.std.specs.Prelude.{◌==◌, replicate}
use Rattle.std.specs.Char.{is_ascii_control}
use Rattle.std.specs.Fmt.{decimal}
use Rattle.std.specs.List.{AllByRecursion, enumerate_from, list_any}
use Rattle.std.proofs.lemmas.Bool.{and_parts, ltb-false, ltb-true}
use Rattle.std.proofs.lemmas.Fmt.{decimal_digit, decimal_step}
use Rattle.gp_base.specs.Names.{is_name}
use Rattle.gp_base.proofs.SmallLemmas.{and_none}
use Rattle.gp_lexer.specs.declared.gap.Gap.TheVariants.{Start}
use Rattle.gp_lexer.specs.declared.lexeme.Lexeme.TheVariants.{Symbol as Sign, Word}
use Rattle.gp_lexer.specs.declared.lexeme.Symbol.TheVariants as s
use Rattle.gp_lexer.specs.Layout.{empty_page, next_gap}
use Rattle.gp_lexer.specs.LexResults.{lexemes_of}
use Rattle.gp_lexer.specs.ProperLexemes.{AreProper, HasUtf8Text, HaveUtf8Texts}
use Rattle.gp_lexer.proofs.LayoutLemmas.{added, lexemes_of-laid_out, written-added}
use Rattle.gp_lexer.proofs.PrintableLemmas.{laid_out-plain, laid_out-utf8}
use Rattle.gp_lexer.proofs.ProperLemmas.{lexemes-proper}
use Rattle.gp_lexer.proofs.Utf8Lemmas.{texts-utf8}
use Rattle.gp_grammar.specs.declared.limits.TheConstants.{MAX_LINE_LENGTH, MAX_SESSION}
use Rattle.gp_grammar.specs.Canonical.{command_lexemes, command_text}
use Rattle.gp_grammar.specs.Capping.{capped_command}
use Rattle.gp_grammar.specs.CommandGrammar.{IsCommand, session_of}
use Rattle.gp_grammar.specs.CommandParsing.{command as parser}
use Rattle.gp_grammar.specs.Limits.{command_shape}
use Rattle.gp_grammar.specs.LineReading.{Fault, ReadsText}
use Rattle.gp_grammar.specs.Reading.{command_of, script_line_of}
use Rattle.gp_grammar.specs.Syntax.{Command, Lexemes, ScriptLine}
use Rattle.gp_grammar.proofs.CanonicalCommands.{command-canonical}
use Rattle.gp_grammar.proofs.CanonicalLaws.{lexed-lexemes, proper}
use Rattle.gp_grammar.proofs.CanonicalSource.{command-every}
use Rattle.gp_grammar.proofs.LineLaws.{texts-read}
use Rattle.gp_grammar.proofs.ParserLaws.{lawful-command}
use Rattle.gp_grammar.proofs.ShapeLemmas.{commands-fair}
use Rattle.gp_grammar.proofs.WrittenLines.{IsReadAgain, line-read}
use Rattle.gp_syntax.specs.Lines.{answered_from, is_answered, script_lines}
use Rattle.gp_syntax.proofs.LinesLemmas.{first-line}
use Rattle.gp_machine.specs.Event.{Line}
use Rattle.gp_log.specs.ScriptLines.{AreLinesAfter, AreScriptLines, IsLineAfter as IsLine}
use Rattle.gp_log.proofs.LineCommands.{reads-parsed}
use Rattle.gp_script.specs.Scripts.{line_if_read, lines_if_read}
use Rattle.gp_replay.specs.Written.{AreShort, line_bytes, line_lexemes, script_from, script_of, session_name}

-- ---- the sessions, each of the few

is_some_of : ℕ → Option ℕ → Bool
is_some_of n None = false
is_some_of n (Some m) = m == n

-- the decimal digits of a number below 100
digits_of : ℕ → List ℕ
digits_of n = if nat_lt n 10 then (48 + n) ∷ [] else (48 + n / 10) ∷ (48 + n % 10) ∷ []

is_session : ℕ → Bool
unfolding is_some_of digits_of
is_session n = nat_lt (n / 10) 10 && (is_name (115 ∷ digits_of n) && is_some_of n (session_of (115 ∷ digits_of n)))

are_sessions : ℕ → Bool
are_sessions zero = true
are_sessions (suc n) = are_sessions n && is_session (suc n)

all-sessions : are_sessions 64 ≡ true
unfolding are_sessions is_session is_some_of digits_of
all-sessions = refl

each-session : (most n : ℕ) → are_sessions most ≡ true → 1 ≤ n → n ≤ most → is_session n ≡ true
unfolding are_sessions
each-session zero n all some few = absurd (omega (arith, some, few))
each-session (suc most) n all some few = by (leb n most) refl (and_parts (are_sessions most) (is_session (suc most)) all) (λ before below. each-session most n before some below)
  where
    by : (below : Bool) → leb n most ≡ below → (are_sessions most ≡ true) × (is_session (suc most) ≡ true) → (are_sessions most ≡ true → n ≤ most → is_session n ≡ true) → is_session n ≡ true
    by true is both rest = rest both.0 (leb-true n most is)
    by false is both rest =
        let over = leb-false n most is in
        let last : suc most ≡ n = omega (arith, over, few) in
        subst (λ m. is_session m ≡ true) last both.1

record IsSession (n : ℕ) : Type 0 where
  name : is_name (session_name n) ≡ true
  session : session_of (session_name n) ≡ Some n

session-by : (n : ℕ) (found : Option ℕ) → is_some_of n found ≡ true → found ≡ Some n
unfolding is_some_of
session-by n None e = absurd cc
session-by n (Some m) e = ap Some (eqb-true m n e)

decimal-is : (n : ℕ) → n < 100 → n / 10 < 10 → decimal n ≡ digits_of n
unfolding digits_of
decimal-is n small tens = by (nat_lt n 10) refl
  where
    by : (one : Bool) → nat_lt n 10 ≡ one → decimal n ≡ (if one then (48 + n) ∷ [] else (48 + n / 10) ∷ (48 + n % 10) ∷ [])
    by true is = decimal_digit n (ltb-true n 10 is)
    by false is =
        let many : 10 ≤ n = ltb-false n 10 is in
        decimal_step n many (omega (arith, small)) ∙ ap (λ (front : List ℕ). front ++ ((48 + n % 10) ∷ [])) (decimal_digit (n / 10) tens)

session-is : (n : ℕ) → 1 ≤ n → n ≤ MAX_SESSION → IsSession n
unfolding is_session
session-is n some few =
    let all = and_parts (nat_lt (n / 10) 10) (is_name (115 ∷ digits_of n) && is_some_of n (session_of (115 ∷ digits_of n))) (each-session 64 n all-sessions some few) in
    let both = and_parts (is_name (115 ∷ digits_of n)) (is_some_of n (session_of (115 ∷ digits_of n))) all.1 in
    let same : decimal n ≡ digits_of n = decimal-is n (omega (arith, few)) (ltb-true (n / 10) 10 all.0) in
    let named : session_name n ≡ 115 ∷ digits_of n = ap (λ (ds : List ℕ). 115 ∷ ds) same in
    record {
      name = ap is_name named ∙ both.0;
      session = ap session_of named ∙ session-by n (session_of (115 ∷ digits_of n)) both.1;
    }

-- ---- a line

texts-every : (ts : Lexemes) → HaveUtf8Texts ts → AllByRecursion HasUtf8Text ts
texts-every [] h = tt
texts-every (t ∷ ts) h = (h.0, texts-every ts h.1)

every-texts : (ts : Lexemes) → AllByRecursion HasUtf8Text ts → HaveUtf8Texts ts
every-texts [] h = tt
every-texts (t ∷ ts) h = (h.0, every-texts ts h.1)

read-again : (c : Command) → command_of (command_text c) ≡ Ok c → IsReadAgain c
read-again c e =
    let r : ReadsText IsCommand command_shape (command_text c) c = (texts-read parser IsCommand capped_command command_shape lawful-command commands-fair (command_text c) c).0 e in
    let found : lexemes_of (command_text c) ≡ Some r.lexemes = lexed-lexemes (command_text c) r.lexemes r.columns r.lexical.found in
    record {
      derived = command-canonical r.lexemes c r.derived;
      within = r.within;
      are = proper r.lexemes c r.derived (lexemes-proper (command_text c) r.lexemes found);
      texts = every-texts (command_lexemes c)
          (command-every HasUtf8Text (λ symbol. tt) tt r.lexemes c r.derived (texts-every r.lexemes (texts-utf8 (command_text c) r.lexemes r.lexical.utf8 found)));
    }

module _ (line : Line) (last : ℕ) (is : IsLine last line) where
  again : IsReadAgain line.command
  again = read-again line.command (reads-parsed (command_text line.command) line.command is.command)

  session : IsSession line.session
  session = session-is line.session is.first is.session

  all-proper : AreProper (line_lexemes line)
  all-proper = let a = again in let b = session in (b.name, (tt, a.are))

  all-texts : HaveUtf8Texts (line_lexemes line)
  all-texts = let a = again in (tt, (tt, a.texts))

  pub line-plain : list_any is_ascii_control (line_bytes line) ≡ false
  line-plain = laid_out-plain (line_lexemes line) all-proper

  pub line-reads : length (line_bytes line) ≤ MAX_LINE_LENGTH → script_line_of (line_bytes line) ≡ Ok (record { session = line.session; command = line.command })
  line-reads short =
      line-read (line_bytes line) (session_name line.session) line.session line.command again session.session (laid_out-utf8 (line_lexemes line) all-proper all-texts)
      (lexemes_of-laid_out (line_lexemes line) all-proper) short

begins : (line : Line) → line_bytes line ≡ 115 ∷ (decimal line.session ++ added (next_gap Start (Word (session_name line.session))) (Sign s.Colon ∷ command_lexemes line.command))
begins line = written-added empty_page (line_lexemes line)

pub line-answered : (line : Line) → is_answered (line_bytes line) ≡ true
line-answered line = ap is_answered (begins line) ∙ ap not (and_none _)

-- ---- numbered lines

abbrev kept : List (ℕ × List ℕ) → List (ℕ × List ℕ)
kept numbered = filter (λ (line : ℕ × List ℕ). is_answered line.1) numbered

one-line : (number : ℕ) (text rest : List ℕ) → list_any is_ascii_control text ≡ false → is_answered text ≡ true → answered_from number (text ++ (10 ∷ rest)) ≡ (number, text) ∷ answered_from (number + 1) rest
one-line number text rest plain answered =
    ap (λ (all : List (List ℕ)). kept (enumerate_from number all)) (first-line text rest plain)
    ∙ ap (λ (b : Bool). if b then (number, text) ∷ answered_from (number + 1) rest else answered_from (number + 1) rest) answered

one-blank : (number : ℕ) (rest : List ℕ) → answered_from number (10 ∷ rest) ≡ answered_from (number + 1) rest
one-blank number rest = ap (λ (all : List (List ℕ)). kept (enumerate_from number all)) (first-line [] rest refl)

blanks : (number count : ℕ) (rest : List ℕ) → answered_from number (replicate count 10 ++ rest) ≡ answered_from (number + count) rest
blanks number zero rest = ap (λ (n : ℕ). answered_from n rest) (omega arith)
blanks number (suc count) rest =
    one-blank number (replicate count 10 ++ rest) ∙ blanks (number + 1) count rest ∙ ap (λ (n : ℕ). answered_from n rest) (omega arith)

read-more : (line : Line) (others : List (ℕ × List ℕ)) → script_line_of (line_bytes line) ≡ Ok (record { session = line.session; command = line.command })
    → lines_if_read ((line.number, line_bytes line) ∷ others) ≡ line ∷ lines_if_read others
read-more line others read = ap (λ (r : Result ScriptLine Fault). line_if_read line.number r ++ lines_if_read others) read

written : (next last : ℕ) (all : List Line) → next ≡ suc last → AreLinesAfter last all → AreShort all → lines_if_read (answered_from next (script_from next all)) ≡ all
written next last [] follows are short = refl
written next last (line ∷ others) follows are short =
    let rises = are.0.rises in
    let rest : List ℕ = script_from (suc line.number) others in
    let here : next + (line.number - next) ≡ line.number = omega (arith, rises, follows) in
    let more : line.number + 1 ≡ suc line.number = omega arith in
    ap lines_if_read (
    blanks next (line.number - next) (line_bytes line ++ (10 ∷ rest))
    ∙ ap (λ (n : ℕ). answered_from n (line_bytes line ++ (10 ∷ rest))) here
    ∙ one-line line.number (line_bytes line) rest (line-plain line last are.0) (line-answered line)
    ∙ ap (λ (n : ℕ). (line.number, line_bytes line) ∷ answered_from n rest) more)
    ∙ read-more line (answered_from (suc line.number) rest) (line-reads line last are.0 short.0)
    ∙ ap (λ (ls : List Line). line ∷ ls) (written (suc line.number) line.number others refl are.1 short.1)

pub script-written : (all : List Line) → AreScriptLines all → AreShort all → lines_if_read (script_lines (script_of all)) ≡ all
script-written all are short = written 1 0 all (omega arith) are short
