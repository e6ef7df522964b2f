-- Lemmas of texts of users: a test of UTF-8 succeeds where all bytes are valid.
use Rattle.std.proofs.Common.{◌≡◌, ℕ, eqb, List, length, Result, Ok, Err, MatchResult, inl, inr, is_ok, sym, arith}
use Rattle.std.specs.Str.{IsUtf8, IsValidUpTo, is_utf8}
use Rattle.std.specs.Str.Lossy.{utf8_valid_len}
use Rattle.std.proofs.lemmas.Bool.{cases_Bool, eq-eqb, ne_eqb}
use Rattle.std.proofs.lemmas.Str.{IsUtf8-from_is_utf8, is_utf8-from_IsUtf8, utf8_valid_len-IsUtf8, utf8_valid_len-IsValidUpTo}

pub utf8-whole : {A E : Type 0} (P : A → Type 0) (n : E → ℕ) (r : Result A E) (bytes : List ℕ) → MatchResult r (λ s. P s × IsUtf8 bytes) (λ e. ¬ (IsUtf8 bytes) × IsValidUpTo bytes (n e)) → is_ok r ≡ eqb (utf8_valid_len bytes) (length bytes)
utf8-whole P n (Ok s) bytes h = sym (eq-eqb _ _ (utf8_valid_len-IsUtf8 bytes h.1))
utf8-whole P n (Err e) bytes h = sym (ne_eqb _ _ (λ same. omega (arith, h.1.short, utf8_valid_len-IsValidUpTo bytes (n e) h.1, same)))

pub utf8-test : {A E : Type 0} (P : A → Type 0) (Q : E → Type 0) (r : Result A E) (bytes : List ℕ) → MatchResult r (λ s. P s × IsUtf8 bytes) (λ e. ¬ (IsUtf8 bytes) × Q e) → is_ok r ≡ is_utf8 bytes
utf8-test P Q (Ok s) bytes h = sym (is_utf8-from_IsUtf8 bytes h.1)
utf8-test P Q (Err e) bytes h = elim (cases_Bool (is_utf8 bytes)) [
  | inl e ↦ absurd (h.0 (IsUtf8-from_is_utf8 bytes e))
  | inr e ↦ sym e
]
