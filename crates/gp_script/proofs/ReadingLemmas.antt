-- The session of a line that was read is one of those that the engine has.
use Rattle.std.proofs.Common.{◌≡◌, ℕ, ◌≤◌, Bool, true, false, cond, ◌&&◌, [], ◌∷◌, Some, None, Ok, refl, ap, subst, arith, nat_le, nat_lt, eqb}
use Rattle.std.proofs.lemmas.Bool.Decides.{nat_tests}
use Rattle.std.proofs.lemmas.Str.Parse.{digits_value-take-le}
use Rattle.std.specs.Str.{all_ascii_digits}
use Rattle.std.specs.Str.Parse.{digits_value}
use Rattle.std.specs.Char.{digit_value, is_ascii_digit}
use Rattle.gp_grammar.specs.declared.limits.TheConstants.{MAX_SESSION}
use Rattle.gp_grammar.specs.Syntax.{Bytes, Lexemes, ScriptLine}
use Rattle.gp_grammar.specs.CommandGrammar as g
use Rattle.gp_grammar.specs.CommandGrammar.{IsScriptLine, IsSessionCommand, is_number_without_zero, session_if, session_of}
use Rattle.gp_grammar.specs.CommandParsing.{script_line}
use Rattle.gp_grammar.specs.Capping.{capped_line}
use Rattle.gp_grammar.specs.Limits.{line_shape}
use Rattle.gp_grammar.specs.Reading.{script_line_of}
use Rattle.gp_grammar.proofs.LineLaws.{lines-read}
use Rattle.gp_grammar.proofs.ParserLaws.{lawful-line}
use Rattle.gp_grammar.proofs.ShapeLemmas.{lines-fair}
use Rattle.gp_base.proofs.SmallLemmas.{left_true, right_true}

-- a session of the engine
abbrev IsInRange : ℕ → Type 0
IsInRange session = (1 ≤ session) × (session ≤ MAX_SESSION)

digit-positive : (d : ℕ) → (is_ascii_digit d && true) ≡ true → nat_lt 48 d ≡ true → 1 ≤ digit_value d
digit-positive d digit positive = grind (arith, nat_tests)

number-positive : (digits : Bytes) → is_number_without_zero digits ≡ true → 1 ≤ digits_value 10 digits
number-positive [] h = absurd cc
number-positive (d ∷ ds) h =
    let all = left_true (all_ascii_digits (d ∷ ds)) (nat_lt 48 d) h in
    let first = digit-positive d (ap (λ b. b && true) (left_true (is_ascii_digit d) (all_ascii_digits ds) all)) (right_true (all_ascii_digits (d ∷ ds)) (nat_lt 48 d) h) in
    omega (arith, first, digits_value-take-le 10 (d ∷ ds) 1 (omega arith))

session-within : (valid few : Bool) (n session : ℕ) → (valid ≡ true → 1 ≤ n) → nat_le n MAX_SESSION ≡ few → cond (valid && few) (Some n) None ≡ Some session → IsInRange session
session-within true true n session positive few is = let same : n ≡ session = cc in subst IsInRange same (positive refl, grind (arith, nat_tests))
session-within true false n session positive few is = absurd cc
session-within false few n session positive is-few is = absurd cc

session-of-digits : (digits : Bytes) (session : ℕ) (test : Bool) → cond test (session_if (is_number_without_zero digits) (digits_value 10 digits)) None ≡ Some session → IsInRange session
session-of-digits digits session true is =
    session-within (is_number_without_zero digits) (nat_le (digits_value 10 digits) MAX_SESSION) (digits_value 10 digits) session (number-positive digits) refl is
session-of-digits digits session false is = absurd cc

session-range : (name : Bytes) (session : ℕ) → session_of name ≡ Some session → IsInRange session
session-range [] session is = absurd cc
session-range (b ∷ digits) session is = session-of-digits digits session (eqb b 115) is

command-range : (a : Lexemes) (x : ScriptLine) → IsSessionCommand a x → IsInRange x.session
command-range _ _ (g.in_session name session a x e i) = session-range name session e

line-range : (a : Lexemes) (x : ScriptLine) → IsScriptLine a x → IsInRange x.session
line-range _ _ (g.open_end a x i) = command-range a x i
line-range _ _ (g.semicolon a x i) = command-range a x i

pub read-range : (text : Bytes) (x : ScriptLine) → script_line_of text ≡ Ok x → IsInRange x.session
read-range text x is =
    let reads = (lines-read script_line IsScriptLine capped_line line_shape lawful-line lines-fair text x).0 is in
    line-range reads.text.lexemes x reads.text.derived
