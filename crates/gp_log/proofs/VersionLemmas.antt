-- The version that a statement read, where there is the statement.
use Rattle.std.proofs.Common.{◌≡◌, ◌<◌, ◌≤◌, ◌⊎◌, inl, inr, ⊎_elim, nat_le, nat_lt, ℕ, zero, suc, Bool, true, false, cond, List, [], ◌∷◌, refl, sym, ap, ◌∙◌, arith, Option, Some, None}
use Rattle.std.specs.Prelude.{◌&&◌, ◌==◌}
use Rattle.std.specs.Option.{option_map}
use Rattle.std.proofs.lemmas.Bool.Decides.{nat_tests}
use Rattle.gp_algebra.specs.Statements.{Statement}
use Rattle.gp_machine.specs.Entries as m
use Rattle.gp_machine.specs.Entries.{begin_version, is_read_committed, statement_at, statement_count, statement_version, versions_in}
use Rattle.gp_log.specs.Indexing.{AreSteady}
use Rattle.gp_log.specs.LogCounts.{numbered, version_read}
use Rattle.gp_log.proofs.NumberingLemmas.{no-statement, statement-outside}
use Rattle.std.proofs.lemmas.Bool.{and_right, leb-false}
use Rattle.gp_base.proofs.SmallLemmas.{some_none}

positive : (n : ℕ) → (suc n == zero) ≡ false
positive n = grind (arith, nat_tests)

-- there is no statement 0
none_read : (t : ℕ) (entries : List m.Entry) → version_read t zero entries ≡ None
none_read t [] = refl
none_read t (m.Created line session table ∷ older) = none_read t older
none_read t (m.Began line session u level ∷ older) = none_read t older
none_read t (m.Ran line session command u statement ∷ older) =
    ap (λ b. cond b (Some (cond (is_read_committed t older) (versions_in older) (begin_version t older))) (version_read t zero older)) (and_right (u == t) _ (positive (statement_count t older))) ∙ none_read t older
none_read t (m.Committed line session u ∷ older) = none_read t older
none_read t (m.Ended line session end u ∷ older) = none_read t older

none_at : (t : ℕ) (entries : List m.Entry) → statement_at t zero entries ≡ None
none_at t [] = refl
none_at t (m.Created line session table ∷ older) = none_at t older
none_at t (m.Began line session u level ∷ older) = none_at t older
none_at t (m.Ran line session command u statement ∷ older) = ap (λ b. cond b (Some statement) (statement_at t zero older)) (and_right (u == t) _ (positive (statement_count t older))) ∙ none_at t older
none_at t (m.Committed line session u ∷ older) = none_at t older
none_at t (m.Ended line session end u ∷ older) = none_at t older

pub version_read_is : (t k : ℕ) (entries : List m.Entry) → version_read t k entries ≡ option_map (λ (s : Statement). statement_version t k entries) (statement_at t k entries)
version_read_is t zero entries = none_read t entries ∙ sym (ap (λ (o : Option Statement). option_map (λ (s : Statement). statement_version t zero entries) o) (none_at t entries))
version_read_is t (suc k) [] = refl
version_read_is t (suc k) (m.Created line session table ∷ older) = version_read_is t (suc k) older
version_read_is t (suc k) (m.Began line session u level ∷ older) = version_read_is t (suc k) older
version_read_is t (suc k) (m.Ran line session command u statement ∷ older) =
    elim ((u == t) && (suc (statement_count t older) == suc k)) as (λ b. cond b (Some (cond (is_read_committed t older) (versions_in older) (begin_version t older))) (version_read t (suc k) older)
    ≡ option_map (λ (s : Statement). cond b (cond (is_read_committed t older) (versions_in older) (begin_version t older)) (statement_version t (suc k) older)) (cond b (Some statement) (statement_at t (suc k) older))) [
      | true ↦ refl
      | false ↦ version_read_is t (suc k) older
    ]
version_read_is t (suc k) (m.Committed line session u ∷ older) = version_read_is t (suc k) older
version_read_is t (suc k) (m.Ended line session end u ∷ older) = version_read_is t (suc k) older

-- ---- the version as a number, which is 0 where there is no statement

none-reads : (t k : ℕ) (entries : List m.Entry) → statement_at t (suc k) entries ≡ None → statement_version t (suc k) entries ≡ 0
none-reads t k [] none = refl
none-reads t k (m.Created line session table ∷ older) none = none-reads t k older none
none-reads t k (m.Began line session u level ∷ older) none = none-reads t k older none
none-reads t k (m.Ran line session command u statement ∷ older) none = go ((u == t) && (suc (statement_count t older) == suc k)) none (none-reads t k older)
  where
    go : (here : Bool) → cond here (Some statement) (statement_at t (suc k) older) ≡ None → (statement_at t (suc k) older ≡ None → statement_version t (suc k) older ≡ 0)
        → cond here (cond (is_read_committed t older) (versions_in older) (begin_version t older)) (statement_version t (suc k) older) ≡ 0
    go true some before = absurd (some_none statement some)
    go false none before = before none
none-reads t k (m.Committed line session u ∷ older) none = none-reads t k older none
none-reads t k (m.Ended line session end u ∷ older) none = none-reads t k older none

pub none-read : (t k : ℕ) (entries : List m.Entry) → 0 < k → None ≡ option_map (λ (s : Statement). statement_version t k entries) (statement_at t k entries) → 0 ≡ statement_version t k entries
none-read t zero entries positive is = absurd (omega (arith, positive))
none-read t (suc k) entries positive is = sym (none-reads t k entries (go (statement_at t (suc k) entries) refl is))
  where
    go : (found : Option Statement) → statement_at t (suc k) entries ≡ found → None ≡ option_map (λ (s : Statement). statement_version t (suc k) entries) found → found ≡ None
    go None found e = refl
    go (Some s) found e = absurd cc

-- where each transaction that is not read committed has read its begin version, the numbers of its statements are enough
pub steady_read : (t k : ℕ) (entries : List m.Entry) → AreSteady entries → is_read_committed t entries ≡ false
    → numbered k (statement_count t entries) (begin_version t entries) ≡ option_map (λ (s : Statement). statement_version t k entries) (statement_at t k entries)
steady_read t k entries steady kind = go (statement_at t k entries) refl (nat_lt 0 k) (nat_le k (statement_count t entries)) refl refl
  where
    inside : (k n : ℕ) → nat_lt 0 k ≡ true → nat_le k n ≡ true → (0 < k) × (k ≤ n)
    inside k n a b = (grind (arith, nat_tests), grind (arith, nat_tests))

    zero_is : (k : ℕ) → nat_lt 0 k ≡ false → k ≡ 0
    zero_is k a = grind (arith, nat_tests)

    apart : (k n : ℕ) → (0 < k) × (k ≤ n) → (k ≡ 0) ⊎ (n < k) → ⊥
    apart k n within outside = ⊎_elim (λ z. omega (arith, within.0)) (λ l. omega (arith, within.1)) outside

    go : (found : Option Statement) → statement_at t k entries ≡ found → (a b : Bool) → nat_lt 0 k ≡ a → nat_le k (statement_count t entries) ≡ b
        → cond (a && b) (Some (begin_version t entries)) None ≡ option_map (λ (s : Statement). statement_version t k entries) found
    go None is true true a b = absurd (apart k (statement_count t entries) (inside k (statement_count t entries) a b) (no-statement t k entries is))
    go None is true false a b = refl
    go None is false b' a b = refl
    go (Some s) is true true a b = ap (λ n. Some n) (sym (steady t k kind (inside k (statement_count t entries) a b).1))
    go (Some s) is true false a b = absurd (some_none s (sym is ∙ statement-outside t k entries (inr (leb-false k (statement_count t entries) b))))
    go (Some s) is false b' a b = absurd (some_none s (sym is ∙ statement-outside t k entries (inl (zero_is k a))))
