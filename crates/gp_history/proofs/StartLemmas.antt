-- Where annotating begins, and tables that are not there.
use Rattle.std.proofs.Common.{◌≡◌, ℕ, zero, suc, ◌+◌, ◌<◌, ◌≤◌, List, [], ◌∷◌, ◌++◌, length, get_or, map, take, add-one, refl, sym, ap, arith, None}
use Rattle.std.specs.Prelude.{slice_get}
use Rattle.std.proofs.lemmas.List.{get_or_past}
use Rattle.gp_log.specs.LogFacts.{tables_in}
use Rattle.gp_machine.specs.Entries.{Entry}
use Rattle.gp_reenact.specs.Reenacting.{spans_of}
use Rattle.gp_reenact.specs.Travel.{no_table}
use Rattle.gp_versions.specs.declared.span.Span.{Span}
use Rattle.gp_versions.specs.Spans.{Versions}
use Rattle.gp_history.specs.Sound.{IsSound}

-- a table that is not in the log has no spans
pub beyond : (entries : List Entry) (versions : List Versions) → IsSound entries versions → (table : ℕ) → length (tables_in entries) ≤ table → spans_of versions table ≡ []
beyond entries versions sound table past =
    ap (λ (t : Versions). t.spans) (get_or_past versions table no_table (omega (arith, sound.tables, past)))

-- a list without an item there has ended
pub ended : {X : Type 0} (xs : List X) (k : ℕ) → slice_get xs k ≡ None → length xs ≤ k
ended [] k is = omega arith
ended (x ∷ xs) zero is = absurd (cc)
ended (x ∷ xs) (suc k) is = let rest = ended xs k is in omega (arith, rest)

-- one more item
pub map_more : {X Y : Type 0} (f : X → Y) (xs : List X) (i : ℕ) (x : X) → i < length xs → x ≡ get_or xs i x → map f (take (i + 1) xs) ≡ map f (take i xs) ++ f x ∷ []
map_more f xs i x less is = rw add-one (go f xs i x less is)
  where
    go : {X Y : Type 0} (f : X → Y) (xs : List X) (i : ℕ) (x : X) → i < length xs → x ≡ get_or xs i x → map f (take (suc i) xs) ≡ map f (take i xs) ++ f x ∷ []
    go f [] i x less is = absurd (omega arith)
    go f (y ∷ xs) zero x less is = ap (λ z. f z ∷ []) (sym is)
    go f (y ∷ xs) (suc i) x less is = ap (λ rest. f y ∷ rest) (go f xs i x (omega arith) is)

-- one more span
pub ones_more : {M : Type 0} (one : M) (spans : List Span) (i : ℕ) → i < length spans → map (λ (span : Span). one) (take (i + 1) spans) ≡ map (λ (span : Span). one) (take i spans) ++ one ∷ []
ones_more one spans i less = rw add-one (go spans i less)
  where
    go : (spans : List Span) (i : ℕ) → i < length spans → map (λ (span : Span). one) (take (suc i) spans) ≡ map (λ (span : Span). one) (take i spans) ++ one ∷ []
    go [] i less = absurd (omega arith)
    go (span ∷ spans) zero less = refl
    go (span ∷ spans) (suc i) less = ap (λ (rest : List _). one ∷ rest) (go spans i (omega arith))
