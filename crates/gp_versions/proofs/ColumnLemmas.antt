-- Chains of spans with equal cells in a column, and walks along them.
use Rattle.std.proofs.Common.{◌≡◌, ℕ, zero, suc, ◌<◌, ◌≤◌, List, [], ◌∷◌, ◌++◌, get_or, reverse, slice_get, take, Option, Some, None, IfSome, IsSomeAnd, ap, subst, sym, ◌∙◌, arith}
use Rattle.std.specs.Prelude.{slice_set}
use Rattle.gp_base.specs.declared.cell.Cell.{Cell}
use Rattle.gp_versions.specs.declared.chains.Chains.{Chains}
use Rattle.gp_versions.specs.declared.columns.ColumnIndex.{ColumnIndex}
use Rattle.gp_versions.specs.declared.key.By.TheVariants as variant
use Rattle.gp_versions.specs.declared.span.Span.{Span}
use Rattle.gp_versions.specs.Chains.{AreChained, AreIndexes, IsIndex, IsLast, up_to}
use Rattle.gp_versions.specs.Keys.{key_of_cell, keys_by}
use Rattle.gp_versions.specs.Places.{holds_with, places_where}
use Rattle.gp_versions.specs.Search.{among}
use Rattle.gp_versions.proofs.PlaceLemmas.{no-key, places-begin, places-step}

-- ---- walks

up_to-at : {K : Type 0} (keys : List K) (key : K) (to : ℕ) (place : Option ℕ) → IfSome place (λ p. (p < to) × (slice_get keys p ≡ Some key)) → up_to place ≤ to
up_to-at keys key to None at = omega arith
up_to-at keys key to (Some p) at = omega (arith, at.0)

pub at-higher : {K : Type 0} (keys : List K) (key : K) (low high : ℕ) (place : Option ℕ) → low ≤ high → IfSome place (λ p. (p < low) × (slice_get keys p ≡ Some key)) → IfSome place (λ p. (p < high) × (slice_get keys p ≡ Some key))
at-higher keys key low high None le at = tt
at-higher keys key low high (Some p) le at = (omega (arith, at.0), at.1)

pub column-begin : (v column : ℕ) (x : Cell) (spans : List Span) (to : ℕ) (place : Option ℕ) → IsLast (keys_by (variant.Column column) spans) (key_of_cell x) to place
    → places_where (holds_with v column x) (take (up_to place) spans) ++ [] ≡ places_where (holds_with v column x) (take to spans)
column-begin v column x spans to place last =
    places-begin (holds_with v column x) spans (up_to place) to (up_to-at (keys_by (variant.Column column) spans) (key_of_cell x) to place last.at) (λ q above below. no-key v column x spans q (last.others q above below))

pub column-step : (v column : ℕ) (x : Cell) (spans : List Span) (place : ℕ) (next : Option ℕ) (found all : List ℕ) → IsLast (keys_by (variant.Column column) spans) (key_of_cell x) place next
    → places_where (holds_with v column x) (take (suc place) spans) ++ reverse found ≡ all
    → places_where (holds_with v column x) (take (up_to next) spans) ++ reverse (found ++ among (holds_with v column x) spans (place ∷ [])) ≡ all
column-step v column x spans place next found all last so_far =
    places-step (holds_with v column x) spans place (up_to next) found all (up_to-at (keys_by (variant.Column column) spans) (key_of_cell x) place next last.at) (λ q above below. no-key v column x spans q (last.others q above below)) so_far

-- ---- indexes

index-set : (indexes : List ColumnIndex) (spans : List Span) (place : ℕ) (index : ColumnIndex) → AreIndexes indexes spans → IsIndex spans index → AreIndexes (slice_set indexes place index) spans
index-set [] spans place index all is = tt
index-set (one ∷ indexes) spans zero index all is = (is, all.1)
index-set (one ∷ indexes) spans (suc place) index all is = (all.0, index-set indexes spans place index all.1 is)

pub column-at : (indexes : List ColumnIndex) (place column : ℕ) (index : ColumnIndex) → index ≡ get_or indexes place index → IsSomeAnd (slice_get indexes place) (λ (i : ColumnIndex). i.column ≡ column) → index.column ≡ column
column-at [] place column index is has = absurd has
column-at (one ∷ indexes) zero column index is has = ap (λ (i : ColumnIndex). i.column) is ∙ has
column-at (one ∷ indexes) (suc place) column index is has = column-at indexes place column index is has

-- spans are entered in one
pub index-entered : (indexes : List ColumnIndex) (spans : List Span) (place column : ℕ) (index : ColumnIndex) (chains : Chains) → index ≡ get_or indexes place index → IsSomeAnd (slice_get indexes place) (λ (i : ColumnIndex). i.column ≡ column)
    → AreIndexes indexes spans → AreChained chains (keys_by (variant.Column column) spans) → AreIndexes (slice_set indexes place (record { column = index.column; chains = chains })) spans
index-entered indexes spans place column index chains is has all chained =
    index-set indexes spans place (record { column = index.column; chains = chains }) all
    (subst (λ c. AreChained chains (keys_by (variant.Column c) spans)) (sym (column-at indexes place column index is has)) chained)
