-- A text that passes the tests before the parser is read as the parser finds it.
use Rattle.std.proofs.Common.{◌≡◌, ℕ, ◌+◌, Bool, true, false, cond, List, length, Option, Some, None, Result, Ok, Err, sym, ap, subst, ◌∙◌, inl, inr}
use Rattle.std.specs.Option.{option_map}
use Rattle.gp_base.specs.declared.limit.Limit.{Limit}
use Rattle.gp_base.specs.declared.refusal.Refusal.TheVariants.{E14}
use Rattle.gp_grammar.specs.Limits as g
use Rattle.std.specs.Str.{is_utf8, IsUtf8}
use Rattle.std.proofs.lemmas.Str.{IsUtf8-from_is_utf8, is_utf8-from_IsUtf8}
use Rattle.std.proofs.lemmas.Bool.{cases_Bool}
use Rattle.gp_lexer.specs.Lexing.{Lexed, lexed}
use Rattle.gp_grammar.specs.declared.limits.TheConstants.{MAX_OPEN}
use Rattle.gp_grammar.specs.Syntax.{Lexemes, Bytes}
use Rattle.gp_grammar.specs.Depth.{is_too_deep}
use Rattle.gp_grammar.specs.Limits.{Shape, depth, passed_limit}
use Rattle.gp_grammar.specs.LineReading.{Fault, not_utf8, over, syntax, lexeme_column}
use Rattle.gp_grammar.specs.Reading.{placed, read_lexed, read_text, within_shape}
use Rattle.gp_grammar.specs.Parsing.{Parser, whole}
use Rattle.gp_base.specs.declared.stop.Stop.{Stop}
use Rattle.gp_syntax.specs.Refusals.{limit_of}
use Rattle.gp_syntax.specs.ReadResults.{Returns, refusal_in}
use Rattle.gp_syntax.specs.Tests.{shallow, tested_lexemes}

module _ {A : Type 0} (parser : Parser A) (shape : A → Shape) where
  abbrev place : ℕ → Lexemes × List ℕ → Result A Fault
  place end l = placed shape l.0 l.1 end (whole parser l.0)

  by-depth : (end : ℕ) (m l : Lexemes × List ℕ) (deep : Bool) → cond {A = Result (Lexemes × List ℕ) Fault} deep (Err (over depth)) (Ok m) ≡ Ok l
      → cond deep (Err (over depth)) (place end m) ≡ place end l
  by-depth end m l true h = absurd cc
  by-depth end m l false h = let p : m ≡ l = cc in ap (place end) p

  by-lexed : (end : ℕ) (x : Lexed) (l : Lexemes × List ℕ) → shallow x ≡ Ok l → read_lexed parser shape end x ≡ place end l
  by-lexed end (Err column) l h = absurd cc
  by-lexed end (Ok m) l h = by-depth end m l (is_too_deep MAX_OPEN m.0) h

  by-utf8 : (end : ℕ) (u : Bool) (x : Lexed) (l : Lexemes × List ℕ) → cond u (shallow x) (Err not_utf8) ≡ Ok l → cond u (read_lexed parser shape end x) (Err not_utf8) ≡ place end l
  by-utf8 end true x l h = by-lexed end x l h
  by-utf8 end false x l h = absurd cc

  read-tested : (bytes : Bytes) (l : Lexemes × List ℕ) → tested_lexemes bytes ≡ Ok l → read_text parser shape bytes ≡ place (length bytes + 1) l
  read-tested bytes l h = by-utf8 (length bytes + 1) (is_utf8 bytes) (lexed bytes) l h

  pub read-parsed : (bytes : Bytes) (l : Lexemes × List ℕ) (x : A) → tested_lexemes bytes ≡ Ok l → whole parser l.0 ≡ Ok x
      → read_text parser shape bytes ≡ within_shape x (passed_limit (shape x))
  read-parsed bytes l x h e = read-tested bytes l h ∙ ap (placed shape l.0 l.1 (length bytes + 1)) e

  -- what the test of the limits gives is what reading gives
  pub parsed-returns : {X : Type 0} (view : X → A) (bytes : Bytes) (l : Lexemes × List ℕ) (lexemes : Lexemes) (x : A) (r : Result X Stop) → tested_lexemes bytes ≡ Ok l
      → lexemes ≡ l.0 → whole parser lexemes ≡ Ok x → Returns view r (within_shape x (passed_limit (shape x))) → Returns view r (read_text parser shape bytes)
  parsed-returns view bytes l lexemes x r h same e returned =
      let P : Result A Fault → Type 0 = λ o. Returns view r o in
      subst P (sym (read-parsed bytes l x h (ap (whole parser) (sym same) ∙ e))) returned

  pub read-stopped : (bytes : Bytes) (l : Lexemes × List ℕ) (rest : Lexemes) → tested_lexemes bytes ≡ Ok l → whole parser l.0 ≡ Err rest
      → read_text parser shape bytes ≡ Err (syntax (lexeme_column l.0 l.1 (length bytes + 1) rest))
  read-stopped bytes l rest h e = read-tested bytes l h ∙ ap (placed shape l.0 l.1 (length bytes + 1)) e

-- a command, a line or a question with the first limit that it passes
pub limited : {A : Type 0} (x : A) (o : Option g.Limit) (l : Limit) → option_map limit_of o ≡ Some l → refusal_in (within_shape x o) ≡ Some (E14 l)
limited x None l h = absurd cc
limited x (Some passed) l h = let p : limit_of passed ≡ l = cc in ap (λ (z : Limit). Some (E14 z)) p

pub ruleset limits = (limited)

-- the encoding
pub not-utf8 : (bytes : Bytes) → ¬ IsUtf8 bytes → is_utf8 bytes ≡ false
not-utf8 bytes h = elim (cases_Bool (is_utf8 bytes)) [ inl e ↦ absurd (h (IsUtf8-from_is_utf8 bytes e)) | inr e ↦ e ]

pub ruleset encodings = (is_utf8-from_IsUtf8, not-utf8)

pub ruleset readings = (read-parsed, read-stopped)
