-- One step of reading an identity, as the code takes it: its numbers, its sources, and the further sources behind those that were read.
use Rattle.std.proofs.Common.{◌≡◌, ℕ, zero, suc, ◌+◌, ◌*◌, ◌-◌, ◌<◌, ◌≤◌, min, true, leb, List, [], ◌∷◌, ◌++◌, length, get_or, drop, Option, Some, None, refl, sym, ap, ◌∙◌, arith, inl, inr}
use Rattle.std.proofs.lemmas.Bool.{cases_Bool}
use Rattle.std.proofs.lemmas.List.{drop_more}
use Rattle.std.proofs.Common.{option_and_then, ◌≢◌}
use Rattle.std.proofs.lemmas.Bool.{cond-true, cond-false, le-leb, lt-leb}
use Rattle.gp_base.specs.Identities.{Identity, Sources, identity, no_sources, source, nodes}
use Rattle.gp_base.specs.IdentityForms.{sources_of}
use Rattle.gp_dumpline.specs.Numbers.{after_byte}
use Rattle.gp_base.specs.Digits.{is_digit}
use Rattle.gp_dumpline.specs.RowForms.{Numbers, numbers_at, made, joined, identity_at, sources_at, others_at}
use Rattle.gp_base.specs.Leaves.{digits_at, if_there}
use Rattle.gp_dumpline.specs.Sources.{behind, before}

-- what digits give, each number above 10^9 as 10^9
abbrev pub capped : ℕ × List ℕ → ℕ × List ℕ
capped x = (min x.0 1000000000, x.1)

min-step : (n m d most : ℕ) → min n most ≡ min m most → min (n * 10 + d) most ≡ min (m * 10 + d) most
min-step n m d most h = omega arith

same : (n m : ℕ) (bytes : List ℕ) → min n 1000000000 ≡ min m 1000000000 → capped (digits_at n bytes) ≡ capped (digits_at m bytes)
same n m [] h = ap (λ (k : ℕ). (k, [])) h
same n m (b ∷ bytes) h = elim (cases_Bool (is_digit b)) [
  | inl d ↦ rw d (same (n * 10 + (b - 48)) (m * 10 + (b - 48)) bytes (min-step n m (b - 48) 1000000000 h))
  | inr o ↦ rw o (ap (λ (k : ℕ). (k, b ∷ bytes)) h)
]

pub digits-more : (n next at : ℕ) (bytes : List ℕ) → at < length bytes → is_digit (get_or bytes at 0) ≡ true → next ≡ min (n * 10 + (get_or bytes at 0 - 48)) 1000000000 → capped (digits_at next (drop (at + 1) bytes)) ≡ capped (digits_at n (drop at bytes))
digits-more n next at bytes within digit is =
    let h : min next 1000000000 ≡ min (n * 10 + (get_or bytes at 0 - 48)) 1000000000 = omega (arith, is) in
    let first : digits_at n (get_or bytes at 0 ∷ drop (at + 1) bytes) ≡ digits_at (n * 10 + (get_or bytes at 0 - 48)) (drop (at + 1) bytes) = rw digit refl in
    same next (n * 10 + (get_or bytes at 0 - 48)) (drop (at + 1) bytes) h ∙ ap capped (sym first) ∙ ap (λ (z : List ℕ). capped (digits_at n z)) (sym (drop_more bytes at 0 within))

-- ---- one step of reading

pub identity-zero : (steps : ℕ) (bytes : List ℕ) → steps ≡ 0 → identity_at steps bytes ≡ None
unfolding identity_at
identity-zero zero bytes is = refl
identity-zero (suc steps) bytes is = absurd (omega (arith, is))

identity-step : (steps prev : ℕ) (bytes : List ℕ) → steps ≡ suc prev → identity_at steps bytes ≡ option_and_then (λ (x : Numbers). option_and_then (made x) (sources_at prev x.rest)) (numbers_at bytes)
unfolding identity_at
identity-step steps prev bytes is = rw is refl

pub identity-no_numbers : (steps : ℕ) (bytes : List ℕ) → steps ≢ 0 → numbers_at bytes ≡ None → identity_at steps bytes ≡ None
identity-no_numbers steps bytes some nothing = identity-step steps (steps - 1) bytes (omega (arith, some)) ∙ ap (option_and_then _) nothing

pub identity-no_sources : (steps : ℕ) (bytes : List ℕ) (x : Numbers) → steps ≢ 0 → numbers_at bytes ≡ Some x → sources_at (steps - 1) x.rest ≡ None → identity_at steps bytes ≡ None
identity-no_sources steps bytes x some read nothing = identity-step steps (steps - 1) bytes (omega (arith, some)) ∙ ap (option_and_then _) read ∙ ap (option_and_then (made x)) nothing

pub identity-many : (steps : ℕ) (bytes : List ℕ) (x : Numbers) (y : Sources × List ℕ) → steps ≢ 0 → numbers_at bytes ≡ Some x → sources_at (steps - 1) x.rest ≡ Some y → 64 < nodes (identity x.t x.k x.n y.0) → identity_at steps bytes ≡ None
identity-many steps bytes x y some read sources many =
    identity-step steps (steps - 1) bytes (omega (arith, some)) ∙ ap (option_and_then _) read ∙ ap (option_and_then (made x)) sources
    ∙ cond-false (leb (nodes (identity x.t x.k x.n y.0)) 64) (Some (identity x.t x.k x.n y.0, y.1)) None (lt-leb (nodes (identity x.t x.k x.n y.0)) 64 many)

pub identity-some : (steps : ℕ) (bytes : List ℕ) (x : Numbers) (y : Sources × List ℕ) → steps ≢ 0 → numbers_at bytes ≡ Some x → sources_at (steps - 1) x.rest ≡ Some y → nodes (identity x.t x.k x.n y.0) ≤ 64 → identity_at steps bytes ≡ Some (identity x.t x.k x.n y.0, y.1)
identity-some steps bytes x y some read sources few =
    identity-step steps (steps - 1) bytes (omega (arith, some)) ∙ ap (option_and_then _) read ∙ ap (option_and_then (made x)) sources
    ∙ cond-true (leb (nodes (identity x.t x.k x.n y.0)) 64) (Some (identity x.t x.k x.n y.0, y.1)) None (le-leb (nodes (identity x.t x.k x.n y.0)) 64 few)

-- ---- one step of sources

pub sources-zero : (steps : ℕ) (bytes : List ℕ) → steps ≡ 0 → sources_at steps bytes ≡ None
unfolding identity_at
sources-zero zero bytes is = refl
sources-zero (suc steps) bytes is = absurd (omega (arith, is))

sources-step : (steps prev : ℕ) (bytes : List ℕ) → steps ≡ suc prev → sources_at steps bytes ≡ if_there (after_byte 40 bytes) (λ inside. option_and_then (λ (x : Identity × List ℕ). option_and_then (joined x.0) (others_at prev x.1)) (identity_at prev inside)) (Some (no_sources, bytes))
unfolding identity_at
sources-step steps prev bytes is = rw is refl

pub sources-none : (steps : ℕ) (bytes : List ℕ) → steps ≢ 0 → after_byte 40 bytes ≡ None → sources_at steps bytes ≡ Some (no_sources, bytes)
sources-none steps bytes some gone = sources-step steps (steps - 1) bytes (omega (arith, some)) ∙ rw gone refl

pub sources-bad : (steps : ℕ) (bytes inside : List ℕ) → steps ≢ 0 → after_byte 40 bytes ≡ Some inside → identity_at (steps - 1) inside ≡ None → sources_at steps bytes ≡ None
sources-bad steps bytes inside some here gone = sources-step steps (steps - 1) bytes (omega (arith, some)) ∙ rw here (ap (option_and_then _) gone)

behind-one : (id : Identity) (read : Option (Sources × List ℕ)) → option_and_then (joined id) read ≡ behind (id ∷ []) read
behind-one id None = refl
behind-one id (Some x) = refl

pub sources-some : (steps : ℕ) (bytes inside : List ℕ) (id : Identity) (rest : List ℕ) → steps ≢ 0 → after_byte 40 bytes ≡ Some inside → identity_at (steps - 1) inside ≡ Some (id, rest) → sources_at steps bytes ≡ behind (id ∷ []) (others_at (steps - 1) rest)
sources-some steps bytes inside id rest some here read = sources-step steps (steps - 1) bytes (omega (arith, some)) ∙ rw here (ap (option_and_then _) read ∙ behind-one id (others_at (steps - 1) rest))

-- ---- one step of further sources

pub others-zero : (steps : ℕ) (bytes : List ℕ) (ids : List Identity) → steps ≡ 0 → behind ids (others_at steps bytes) ≡ None
unfolding identity_at
others-zero zero bytes ids is = refl
others-zero (suc steps) bytes ids is = absurd (omega (arith, is))

others-step : (steps prev : ℕ) (bytes : List ℕ) → steps ≡ suc prev → others_at steps bytes ≡ if_there (after_byte 41 bytes) (λ rest. Some (no_sources, rest)) (if_there (after_byte 44 bytes) (λ inside. option_and_then (λ (x : Identity × List ℕ). option_and_then (joined x.0) (others_at prev x.1)) (identity_at prev inside)) None)
unfolding identity_at
others-step steps prev bytes is = rw is refl

before-none : (ids : List Identity) → before ids no_sources ≡ sources_of ids
before-none [] = refl
before-none (id ∷ ids) = ap (source id) (before-none ids)

pub others-end : (steps : ℕ) (bytes rest : List ℕ) (ids : List Identity) → steps ≢ 0 → after_byte 41 bytes ≡ Some rest → behind ids (others_at steps bytes) ≡ Some (sources_of ids, rest)
others-end steps bytes rest ids some here =
    let e : others_at steps bytes ≡ Some (no_sources, rest) = others-step steps (steps - 1) bytes (omega (arith, some)) ∙ rw here refl in
    ap (behind ids) e ∙ ap (λ (s : Sources). Some (s, rest)) (before-none ids)

pub others-bad : (steps : ℕ) (bytes : List ℕ) (ids : List Identity) → steps ≢ 0 → after_byte 41 bytes ≡ None → after_byte 44 bytes ≡ None → behind ids (others_at steps bytes) ≡ None
others-bad steps bytes ids some one two =
    let e : others_at steps bytes ≡ None = others-step steps (steps - 1) bytes (omega (arith, some)) ∙ rw (one, two) refl in
    ap (behind ids) e

pub others-fail : (steps : ℕ) (bytes inside : List ℕ) (ids : List Identity) → steps ≢ 0 → after_byte 41 bytes ≡ None → after_byte 44 bytes ≡ Some inside → identity_at (steps - 1) inside ≡ None → behind ids (others_at steps bytes) ≡ None
others-fail steps bytes inside ids some one two gone =
    let e : others_at steps bytes ≡ None = others-step steps (steps - 1) bytes (omega (arith, some)) ∙ rw (one, two) (ap (option_and_then _) gone) in
    ap (behind ids) e

before-push : (ids : List Identity) (id : Identity) (s : Sources) → before (ids ++ id ∷ []) s ≡ before ids (source id s)
before-push [] id s = refl
before-push (i ∷ ids) id s = ap (source i) (before-push ids id s)

behind-push : (ids : List Identity) (id : Identity) (read : Option (Sources × List ℕ)) → behind ids (option_and_then (joined id) read) ≡ behind (ids ++ id ∷ []) read
behind-push ids id None = refl
behind-push ids id (Some x) = ap (λ (s : Sources). Some (s, x.1)) (sym (before-push ids id x.0))

pub others-more : (steps : ℕ) (bytes inside rest : List ℕ) (ids : List Identity) (id : Identity) → steps ≢ 0 → after_byte 41 bytes ≡ None → after_byte 44 bytes ≡ Some inside → identity_at (steps - 1) inside ≡ Some (id, rest)
    → behind ids (others_at steps bytes) ≡ behind (ids ++ id ∷ []) (others_at (steps - 1) rest)
others-more steps bytes inside rest ids id some one two read =
    let e : others_at steps bytes ≡ option_and_then (joined id) (others_at (steps - 1) rest) = others-step steps (steps - 1) bytes (omega (arith, some)) ∙ rw (one, two) (ap (option_and_then _) read) in
    ap (behind ids) e ∙ behind-push ids id (others_at (steps - 1) rest)

-- identity-no_sources where the numbers are given one by one
pub identity-no_sources-parts : (steps : ℕ) (bytes : List ℕ) (t k n : ℕ) (rest : List ℕ) → steps ≢ 0 → numbers_at bytes ≡ Some (record { t = t; k = k; n = n; rest = rest }) → sources_at (steps - 1) rest ≡ None → identity_at steps bytes ≡ None
identity-no_sources-parts steps bytes t k n rest some read gone = identity-no_sources steps bytes (record { t = t; k = k; n = n; rest = rest }) some read gone

pub identity-many-parts : (steps : ℕ) (bytes : List ℕ) (t k n : ℕ) (rest : List ℕ) (s : Sources) (after : List ℕ) → steps ≢ 0 → numbers_at bytes ≡ Some (record { t = t; k = k; n = n; rest = rest }) → sources_at (steps - 1) rest ≡ Some (s, after) → 64 < nodes (identity t k n s) → identity_at steps bytes ≡ None
identity-many-parts steps bytes t k n rest s after some read sources many = identity-many steps bytes (record { t = t; k = k; n = n; rest = rest }) (s, after) some read sources many

pub identity-some-parts : (steps : ℕ) (bytes : List ℕ) (t k n : ℕ) (rest : List ℕ) (s : Sources) (after : List ℕ) → steps ≢ 0 → numbers_at bytes ≡ Some (record { t = t; k = k; n = n; rest = rest }) → sources_at (steps - 1) rest ≡ Some (s, after) → nodes (identity t k n s) ≤ 64 → identity_at steps bytes ≡ Some (identity t k n s, after)
identity-some-parts steps bytes t k n rest s after some read sources few = identity-some steps bytes (record { t = t; k = k; n = n; rest = rest }) (s, after) some read sources few

pub ruleset reading_steps = (identity-zero, identity-no_numbers, identity-no_sources-parts, identity-many-parts, identity-some-parts, sources-zero, sources-none, sources-bad, sources-some, others-zero, others-end, others-bad, others-fail, others-more)
