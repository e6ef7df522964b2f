-- Walks along chains that gather places, and what is found by them.
use Rattle.std.proofs.Common.{◌≡◌, ℕ, zero, suc, ◌<◌, ◌≤◌, List, [], ◌∷◌, ◌++◌, Contains, length, map, slice_get, slice_index_or, Option, Some, None, IfSome, IsPermutation, IsSomeAnd, drop, refl, ap, sym, ◌∙◌, subst, arith, inl, inr, take, true, ◌⊎◌}
use Rattle.std.proofs.lemmas.Bool.{cases_lt}
use Rattle.std.proofs.lemmas.List.{length-map}
use Rattle.std.proofs.lemmas.List.Elements.{Contains-append_left, Contains-push}
use Rattle.std.proofs.lemmas.List.Sorted.{Contains-permutation}
use Rattle.gp_base.specs.declared.cell.Cell.{Cell}
use Rattle.gp_base.specs.IdentityParts.{identity_transaction}
use Rattle.gp_versions.specs.declared.chains.Chains.{Chains}
use Rattle.gp_versions.specs.declared.finder.Finder.{Finder}
use Rattle.gp_versions.specs.declared.finder.Wanted.{Wanted}
use Rattle.gp_versions.specs.declared.key.By.{By}
use Rattle.gp_versions.specs.declared.key.By.TheVariants as variant
use Rattle.gp_versions.specs.declared.key.Key.{Key}
use Rattle.gp_versions.specs.declared.span.Span.{Span}
use Rattle.gp_versions.specs.Chains.{AreChained, AreIndexes, IsIndex, IsLast, entered, up_to}
use Rattle.gp_versions.specs.declared.columns.ColumnIndex.{ColumnIndex}
use Rattle.gp_versions.specs.declared.places.InColumn.{InColumn}
use Rattle.gp_versions.specs.Finding.{AreAmong, AreFound, HasBegun, HasCell, HasPlaces, HasThose, HasVersion, IsEntered, IsFinder}
use Rattle.gp_versions.specs.Keys.{key_by, key_of_cell, key_of_end, key_of_number, keys_by}
use Rattle.gp_versions.specs.Places.{are_equal, cell_at}
use Rattle.gp_versions.proofs.ColumnLemmas.{at-higher}
use Rattle.gp_versions.proofs.PlaceLemmas.{equal-keys, mapped-at}

-- ---- walks

-- the walk is at a place with the key, and behind it all places with the key are found
pub record Walks (keys : List Key) (key : Key) (to : ℕ) (next : Option ℕ) (found : List ℕ) : Type 0 where
  pub at : IfSome next (λ p. (p < to) × (slice_get keys p ≡ Some key))
  pub others : (q : ℕ) → up_to next ≤ q → q < to → slice_get keys q ≡ Some key → Contains found q

pub walks-begin : (keys : List Key) (key : Key) (to : ℕ) (next : Option ℕ) (found : List ℕ) → IsLast keys key to next → Walks keys key to next found
walks-begin keys key to next found last = record { at = last.at; others = λ q above below at. absurd (last.others q above below at) }

pub walks-on : (keys : List Key) (key : Key) (to place : ℕ) (next : Option ℕ) (found : List ℕ) → IsLast keys key place next → Walks keys key to (Some place) found → Walks keys key to next (found ++ place ∷ [])
walks-on keys key to place next found last walks = record {
  at = at-higher keys key place to next (omega (arith, walks.at.0)) last.at;
  others = others;
}
  where
    others : (q : ℕ) → up_to next ≤ q → q < to → slice_get keys q ≡ Some key → Contains (found ++ place ∷ []) q
    others q above below at = elim (cases_lt q place) [
      | inl early ↦ absurd (last.others q above early at)
      | inr late ↦ elim (cases_lt place q) [
        | inl behind ↦ Contains-append_left found (place ∷ []) q (walks.others q (omega (arith, behind)) below at)
        | inr same ↦ subst (Contains (found ++ place ∷ [])) (omega (arith, late, same)) (Contains-push found place)
      ]
    ]

-- the place before one is read
pub before-at : (befores : List (Option ℕ)) (place : ℕ) (before : Option ℕ) → place < length befores → IfSome (slice_get befores place) (λ b. before ≡ b) → slice_get befores place ≡ Some before
before-at [] place before within is = absurd (omega (arith, within))
before-at (b ∷ befores) zero before within is = ap (λ o. Some o) (sym is)
before-at (b ∷ befores) (suc place) before within is = before-at befores place before (omega (arith, within)) is

-- ---- what is found

pub among-longer : (few found : List ℕ) (place : ℕ) → AreAmong few found → AreAmong few (found ++ place ∷ [])
among-longer few found place among q there = Contains-append_left found (place ∷ []) q (among q there)

module _ (by_what : By) (spans : List Span) (chains : Chains) (is : IsEntered by_what spans chains) (key : Key) (places : List ℕ) (has : HasPlaces key chains places) where
  -- all spans that have the key
  pub has-all : HasThose (λ span. key_by by_what span ≡ key) spans places
  has-all q span at same =
      has (keys_by by_what spans) is.chained q (subst (λ n. q < n) (sym is.all) (within spans q span at)) (mapped-at (key_by by_what) spans q span at ∙ ap Some same)
    where
      within : (spans : List Span) (q : ℕ) (span : Span) → slice_get spans q ≡ Some span → q < length spans
      within [] q span at = absurd (cc)
      within (one ∷ spans) zero span at = omega arith
      within (one ∷ spans) (suc q) span at = let rest = within spans q span at in omega (arith, rest)

-- more places have no fewer spans
pub has-more : (is : Span → Type 0) (spans : List Span) (few places : List ℕ) → AreAmong few places → HasThose is spans few → HasThose is spans places
has-more is spans few places among has q span at here = among q (has q span at here)

module _ (finder : Finder) (version : ℕ) (places : List ℕ) where
  pub has-begun : HasPlaces (key_of_number version) finder.begun places → HasBegun version finder places
  has-begun has spans is q span at from = has-all variant.Begin spans finder.begun is.begun (key_of_number version) places has q span at (ap key_of_number from)

  pub has-ended : HasPlaces (key_of_number version) finder.ended places → (spans : List Span) → IsFinder spans finder → HasThose (λ span. span.to ≡ Some version) spans places
  has-ended has spans is q span at to = has-all variant.End spans finder.ended is.ended (key_of_number version) places has q span at (ap key_of_end to)

  pub has-own : HasPlaces (key_of_number version) finder.own places → (spans : List Span) → IsFinder spans finder → HasThose (λ span. identity_transaction span.id ≡ version) spans places
  has-own has spans is q span at own = has-all variant.Transaction spans finder.own is.own (key_of_number version) places has q span at (ap key_of_number own)

  pub has-version : (few : List ℕ) → HasPlaces (key_of_number version) finder.begun few → AreAmong few places → HasPlaces (key_of_number version) finder.ended places → HasVersion version finder places
  has-version few first among last = record {
    begun = λ spans is q span at from. among q (has-all variant.Begin spans finder.begun is.begun (key_of_number version) few first q span at (ap key_of_number from));
    ended = has-ended last;
  }

pub version-more : (finder : Finder) (version : ℕ) (few places : List ℕ) → AreAmong few places → HasVersion version finder few → HasVersion version finder places
version-more finder version few places among has = record {
  begun = λ spans is q span at from. among q (has.begun spans is q span at from);
  ended = λ spans is q span at to. among q (has.ended spans is q span at to);
}

-- ---- cells

pub index-at : (indexes : List ColumnIndex) (spans : List Span) (place column : ℕ) (index : ColumnIndex) → index ≡ slice_index_or indexes place index → IsSomeAnd (slice_get indexes place) (λ (i : ColumnIndex). i.column ≡ column) → AreIndexes indexes spans → IsIndex spans index
index-at [] spans place column index is has all = absurd has
index-at (one ∷ indexes) spans zero column index is has all = subst (IsIndex spans) (sym is) all.0
index-at (one ∷ indexes) spans (suc place) column index is has all = index-at indexes spans place column index is has all.1

-- an index that has all spans finds those with a cell
pub has-cell : (spans : List Span) (column : ℕ) (x : Cell) (chains : Chains) (places : List ℕ) → AreChained chains (keys_by (variant.Column column) spans) → length spans ≤ entered chains → HasPlaces (key_of_cell x) chains places → HasCell column x spans places
has-cell spans column x chains places chained all has =
    let few : entered chains ≤ length spans = omega (arith, chained.within, length-map spans (key_by (variant.Column column))) in
    λ q span at same.
    has-all (variant.Column column) spans chains (record { chained = chained; all = omega (arith, few, all) }) (key_of_cell x) places has q span at (equal-keys (cell_at column span.row) x same)

cell-first : (x : InColumn) (cells : List InColumn) (own : InColumn) → Contains (x ∷ cells) own → (x ≡ own) ⊎ Contains cells own
cell-first x cells own (zero, within, is) = inl is
cell-first x cells own (suc k, within, is) = inr (k, omega (arith, within), is)

-- the spans with one of the cells are found, or the cell is among those that remain
abbrev pub FindsCells : List Span → List InColumn → List InColumn → List ℕ → Type 0
FindsCells spans cells rest places = (own : InColumn) → Contains cells own → (HasCell own.column own.cell.now spans places) ⊎ Contains rest own

pub finds-next : (spans : List Span) (cells rest : List InColumn) (x : InColumn) (few places : List ℕ) → AreAmong few places → HasCell x.column x.cell.now spans places → FindsCells spans cells (x ∷ rest) few → FindsCells spans cells rest places
finds-next spans cells rest x few places among has finds own there = by (finds own there)
  where
    here : (x ≡ own) ⊎ Contains rest own → (HasCell own.column own.cell.now spans places) ⊎ Contains rest own
    here (inl same) = inl (subst (λ (y : InColumn). HasCell y.column y.cell.now spans places) same has)
    here (inr later) = inr later

    by : (HasCell own.column own.cell.now spans few) ⊎ Contains (x ∷ rest) own → (HasCell own.column own.cell.now spans places) ⊎ Contains rest own
    by (inl found) = inl (has-more (λ span. are_equal (cell_at own.column span.row) own.cell.now ≡ true) spans few places among found)
    by (inr later) = here (cell-first x rest own later)

pub drop-end : (n : ℕ) (cells : List InColumn) → length cells ≤ n → drop n cells ≡ []
drop-end zero [] past = refl
drop-end zero (x ∷ cells) past = absurd (omega (arith, past))
drop-end (suc n) [] past = refl
drop-end (suc n) (x ∷ cells) past = drop-end n cells (omega (arith, past))

none-left : (own : InColumn) → Contains [] own → ⊥
none-left own there = omega (arith, there.1)

pub finds-all : (spans : List Span) (cells : List InColumn) (places : List ℕ) → FindsCells spans cells [] places → (own : InColumn) → Contains cells own → HasCell own.column own.cell.now spans places
finds-all spans cells places finds own there = by (finds own there)
  where
    by : (HasCell own.column own.cell.now spans places) ⊎ Contains [] own → HasCell own.column own.cell.now spans places
    by (inl found) = found
    by (inr left) = absurd (none-left own left)

-- places in another order
pub found-permuted : (wanted : Wanted) (spans : List Span) (places others : List ℕ) → IsPermutation places others → AreFound wanted spans places → AreFound wanted spans others
found-permuted wanted spans places others same found = record {
  begun = λ q span at within. there q (found.begun q span at within);
  ended = λ to above below q span at ends. there q (found.ended to above below q span at ends);
  own = λ q span at mine. there q (found.own q span at mine);
  cells = λ own among q span at equal. there q (found.cells own among q span at equal);
}
  where
    there : AreAmong places others
    there q here = Contains-permutation places others q same here
