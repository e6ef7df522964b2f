-- Row versions that are the same in order have the same rows in every version.
use Rattle.std.proofs.Common.{◌≡◌, ◌⊎◌, inl, inr, ℕ, zero, suc, ◌<◌, ◌≤◌, Bool, true, false, List, [], ◌∷◌, length, get_or, Option, Some, None, refl, sym, ap, ◌∙◌, subst, arith}
use Rattle.std.specs.Prelude.{slice_get}
use Rattle.std.specs.List.{flat_map, range_with_len}
use Rattle.std.specs.List.Sorted.{IsPermutation}
use Rattle.std.specs.Option.{is_some, option_or, option_to_list}
use Rattle.std.proofs.lemmas.Bool.{false≢true}
use Rattle.std.proofs.Math.Nat.{eq-or-lt_of_le}
use Rattle.std.proofs.lemmas.List.FromFn.{length-range_with_len}
use Rattle.std.proofs.lemmas.List.Sorted.{IsPermutation-sym, IsPermutation-trans, length_permutation}
use Rattle.gp_base.proofs.Bags.{filtered, mapped}
use Rattle.gp_base.proofs.Permutations.{permuted, unpermuted}
use Rattle.gp_base.specs.Annotated.{unannotated}
use Rattle.gp_base.specs.Order.{sorted_by}
use Rattle.gp_dump.proofs.SortLemmas.{somes}
use Rattle.gp_history.specs.Agreement.{key_of}
use Rattle.gp_history.specs.Matching.{keys_of}
use Rattle.gp_history.proofs.AgreementLemmas.{keys_permuted}
use Rattle.gp_versions.specs.declared.span.Span.{Span}
use Rattle.gp_reenact.specs.Reenacting.{spans_of}
use Rattle.gp_reenact.specs.Travel.{no_table}
use Rattle.gp_versions.specs.Spans.{Versions, holds_at, row_of, span_cmp}
use Rattle.gp_ask.specs.MadeForms.{HaveSameRows, has_none}
use Rattle.gp_ask.proofs.SpanLemmas as span

pub span-same : (span other : Span) → span.id ≡ other.id → span.from ≡ other.from → span.to ≡ other.to → span.row ≡ other.row → span ≡ other
span-same span other id from to row = λ i. record { id = id i; from = from i; to = to i; row = row i }

pub as-many : (spans : List Span) (places : List ℕ) → IsPermutation (range_with_len 0 (length spans)) places → length places ≡ length spans
as-many spans places moved = length_permutation (range_with_len 0 (length spans)) places moved ∙ length-range_with_len 0 (length spans)

-- ---- places of a list

pub flag-at : (flags : List Bool) (place : ℕ) (flag : Bool) → place < length flags → get_or flags place false ≡ flag → slice_get flags place ≡ Some flag
flag-at [] place flag below is = absurd (omega (arith, below))
flag-at (own ∷ flags) zero flag below is = ap (λ (b : Bool). Some b) is
flag-at (own ∷ flags) (suc place) flag below is = flag-at flags place flag (omega (arith, below)) is

within : {X : Type 0} (xs : List X) (n : ℕ) (d e : X) → n < length xs → get_or xs n d ≡ get_or xs n e
within [] n d e below = absurd (omega (arith, below))
within (x ∷ xs) zero d e below = refl
within (x ∷ xs) (suc n) d e below = within xs n d e (omega (arith, below))

pub table-at : (tables : List Versions) (place : ℕ) (own : Versions) → place < length tables → own ≡ get_or tables place own → spans_of tables place ≡ own.spans
table-at tables place own below is = ap (λ (table : Versions). table.spans) (within tables place no_table own below ∙ sym is)

listed : (spans : List Span) → flat_map option_to_list (somes spans) ≡ spans
listed [] = refl
listed (own ∷ spans) = ap (λ rest. own ∷ rest) (listed spans)

pub somes-same : (spans others : List Span) → somes spans ≡ somes others → spans ≡ others
somes-same spans others same = sym (listed spans) ∙ ap (flat_map option_to_list) same ∙ listed others

pub keys-moved : (version : ℕ) (spans others : List Span) → IsPermutation spans others → IsPermutation (keys_of version spans) (keys_of version others)
keys-moved version spans others moved = permuted _ _ (mapped key_of (mapped (row_of unannotated) (filtered (holds_at version) (unpermuted spans others moved))))

pub sorted-moved : (spans others : List Span) → sorted_by span_cmp spans ≡ sorted_by span_cmp others → IsPermutation spans others
sorted-moved spans others same =
    IsPermutation-trans spans (sorted_by span_cmp spans) others (span.permuted span_cmp spans)
    (subst (λ (own : List Span). IsPermutation own others) (sym same) (IsPermutation-sym others (sorted_by span_cmp others) (span.permuted span_cmp others)))

pub moved-rows : (spans others : List Span) → IsPermutation spans others → HaveSameRows spans others
moved-rows spans others moved = λ version. keys_permuted (keys_of version spans) (keys_of version others) (keys-moved version spans others moved)

-- where no flag is set, each is false
pub none-set : (flags : List Bool) → has_none flags ≡ true → (place : ℕ) → place < length flags → slice_get flags place ≡ Some false
none-set [] none place below = absurd (omega (arith, below))
none-set (true ∷ flags) none place below = absurd (false≢true none)
none-set (false ∷ flags) none zero below = refl
none-set (false ∷ flags) none (suc place) below = none-set flags none place (omega (arith, below))

-- the first that is found
pub first-found : {R : Type 0} (g f : ℕ → Option R) → ((n : ℕ) → g (suc n) ≡ option_or (g n) (f n)) → (at upto : ℕ) (r : R) → at < upto → g at ≡ None → f at ≡ Some r → g upto ≡ Some r
first-found g f next at zero r below none found = absurd (omega (arith, below))
first-found {R} g f next at (suc upto) r below none found = by (eq-or-lt_of_le (let own : at ≤ upto = omega (arith, below) in own)) (λ lower. first-found g f next at upto r lower none found)
  where
    by : (at ≡ upto) ⊎ (at < upto) → (at < upto → g upto ≡ Some r) → g (suc upto) ≡ Some r
    by (inl here) earlier =
        next upto ∙ ap (λ (o : Option R). option_or o (f upto)) (subst (λ n. g n ≡ None) here none) ∙ subst (λ n. f n ≡ Some r) here found
    by (inr lower) earlier = next upto ∙ ap (λ (o : Option R). option_or o (f upto)) (earlier lower)

pub first-some : {R : Type 0} (g f : ℕ → Option R) → ((n : ℕ) → g (suc n) ≡ option_or (g n) (f n)) → (at upto : ℕ) (found : Option R) → at < upto → g at ≡ None → found ≡ f at → is_some found ≡ true → found ≡ g upto
first-some g f next at upto None below none is some = absurd (false≢true some)
first-some g f next at upto (Some r) below none is some = sym (first-found g f next at upto r below none (sym is))

pub none-more : {R : Type 0} (g f : ℕ → Option R) → ((n : ℕ) → g (suc n) ≡ option_or (g n) (f n)) → (at : ℕ) → g at ≡ None → f at ≡ None → g (suc at) ≡ None
none-more {R} g f next at none same = next at ∙ ap (λ (o : Option R). option_or o (f at)) none ∙ same
