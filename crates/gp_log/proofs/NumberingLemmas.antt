-- The statements of a transaction are numbered from 1 to its count.
use Rattle.std.proofs.Common.{◌≡◌, ◌⊎◌, ℕ, zero, suc, ◌<◌, Bool, true, false, cond, List, [], ◌∷◌, Some, None, refl, arith, inl, inr}
use Rattle.std.specs.Prelude.{◌&&◌, ◌==◌}
use Rattle.std.proofs.lemmas.Bool.Decides.{nat_tests}
use Rattle.gp_machine.specs.Entries.{Entry, Created, Began, Ran, Committed, Ended, statement_at, statement_count}

-- 0 or above a count
abbrev Outside : ℕ → ℕ → Type 0
Outside n k = (k ≡ 0) ⊎ (n < k)

none_outside : (k : ℕ) → Outside 0 k
none_outside zero = inl refl
none_outside (suc k) = inr (omega arith)

one_less : (n k : ℕ) → Outside (suc n) k → Outside n k
one_less n k outside = elim outside [ inl e ↦ inl e | inr l ↦ inr (omega arith) ]

one_more : (n k : ℕ) → (suc n == k) ≡ false → Outside n k → Outside (suc n) k
one_more n k other outside = elim outside [ inl e ↦ inl e | inr l ↦ inr (grind (arith, nat_tests)) ]

other_number : (n k : ℕ) → Outside (suc n) k → (suc n == k) ≡ false
other_number n k outside = elim outside [ inl e ↦ grind (arith, nat_tests) | inr l ↦ grind (arith, nat_tests) ]

pub statement-outside : (t k : ℕ) (log : List Entry) → (k ≡ 0) ⊎ (statement_count t log < k) → statement_at t k log ≡ None
statement-outside t k [] outside = refl
statement-outside t k (Created line session table ∷ older) outside = statement-outside t k older outside
statement-outside t k (Began line session u level ∷ older) outside = statement-outside t k older outside
statement-outside t k (Ran line session command u statement ∷ older) outside = go (u == t) outside (statement-outside t k older)
  where
    passed : (same : Bool) → same ≡ false → statement_at t k older ≡ None → cond same (Some statement) (statement_at t k older) ≡ None
    passed true is e = absurd (cc)
    passed false is e = e

    go : (own : Bool) → Outside (cond own (suc (statement_count t older)) (statement_count t older)) k → (Outside (statement_count t older) k → statement_at t k older ≡ None)
        → cond (own && (suc (statement_count t older) == k)) (Some statement) (statement_at t k older) ≡ None
    go true outside before = passed (suc (statement_count t older) == k) (other_number (statement_count t older) k outside) (before (one_less (statement_count t older) k outside))
    go false outside before = before outside
statement-outside t k (Committed line session u ∷ older) outside = statement-outside t k older outside
statement-outside t k (Ended line session end u ∷ older) outside = statement-outside t k older outside

pub no-statement : (t k : ℕ) (log : List Entry) → statement_at t k log ≡ None → (k ≡ 0) ⊎ (statement_count t log < k)
no-statement t k [] e = none_outside k
no-statement t k (Created line session table ∷ older) e = no-statement t k older e
no-statement t k (Began line session u level ∷ older) e = no-statement t k older e
no-statement t k (Ran line session command u statement ∷ older) e = go (u == t) (suc (statement_count t older) == k) refl e (no-statement t k older)
  where
    go : (own same : Bool) → (suc (statement_count t older) == k) ≡ same → cond (own && same) (Some statement) (statement_at t k older) ≡ None
        → (statement_at t k older ≡ None → Outside (statement_count t older) k) → Outside (cond own (suc (statement_count t older)) (statement_count t older)) k
    go true true is e before = absurd (cc)
    go true false is e before = one_more (statement_count t older) k is (before e)
    go false same is e before = before e
no-statement t k (Committed line session u ∷ older) e = no-statement t k older e
no-statement t k (Ended line session end u ∷ older) e = no-statement t k older e
