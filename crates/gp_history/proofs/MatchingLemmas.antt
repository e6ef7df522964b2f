-- Computed rows that stand in the order of the spans are those of the version.
use Rattle.std.proofs.Common.{◌≡◌, ℕ, zero, suc, ◌+◌, ◌<◌, ◌≤◌, ◌++◌, Bool, true, false, cond, List, [], ◌∷◌, length, get_or, take, drop, map, add-one, refl, sym, ap, ◌∙◌, subst, arith, Some}
use Rattle.std.specs.List.Sorted.{IsPermutation}
use Rattle.std.specs.Ordering.{is_eq}
use Rattle.std.proofs.lemmas.List.{map-append}
use Rattle.std.proofs.lemmas.List.Sorted.{IsPermutation-cons, IsPermutation-middle, IsPermutation-trans}
use Rattle.gp_base.specs.declared.cell.Cell.{Cell}
use Rattle.gp_base.specs.declared.cell.Cell.TheVariants as cell
use Rattle.gp_base.specs.Annotated.{unannotated}
use Rattle.gp_base.specs.IdentityOrder.{identity_cmp-exact}
use Rattle.gp_base.specs.Identities.{identity_cmp}
use Rattle.gp_base.specs.Order.{row_cmp}
use Rattle.gp_base.specs.RowOrder.{exact_rows}
use Rattle.gp_kexec.specs.declared.held.Held.{Held}
use Rattle.gp_versions.specs.declared.span.Span.{Span}
use Rattle.gp_versions.specs.Spans.{holds_at, row_of, spans_at}
use Rattle.gp_history.specs.Agreement.{key_of}
use Rattle.gp_history.specs.Matching.{TakesRow, keys_from, keys_of, span_key}
use Rattle.gp_history.specs.Noted.{held_key}
use Rattle.gp_history.specs.declared.matching.Places.{Places}
use Rattle.gp_base.proofs.OrderLemmas.{equal_from_is_eq}

-- ---- lists

pub drop_past : {X : Type 0} (xs : List X) (n : ℕ) → length xs ≤ n → drop n xs ≡ []
drop_past [] zero past = refl
drop_past [] (suc n) past = refl
drop_past (x ∷ xs) zero past = absurd (omega arith)
drop_past (x ∷ xs) (suc n) past = drop_past xs n (omega arith)

drop_first : {X : Type 0} (xs : List X) (n : ℕ) (x : X) → n < length xs → x ≡ get_or xs n x → drop n xs ≡ x ∷ drop (suc n) xs
drop_first [] n x less is = absurd (omega arith)
drop_first (y ∷ xs) zero x less is = ap (λ z. z ∷ xs) (sym is)
drop_first (y ∷ xs) (suc n) x less is = drop_first xs n x (omega arith) is

pub drop_more : {X : Type 0} (xs : List X) (n : ℕ) (x : X) → n < length xs → x ≡ get_or xs n x → drop n xs ≡ x ∷ drop (n + 1) xs
drop_more xs n x less is = rw add-one (drop_first xs n x less is)

take_drop : {X : Type 0} (n : ℕ) (xs : List X) → take n xs ++ drop n xs ≡ xs
take_drop zero xs = refl
take_drop (suc n) [] = refl
take_drop (suc n) (x ∷ xs) = ap (λ rest. x ∷ rest) (take_drop n xs)

pub split_keys : {M : Type 0} (rows kept written : List (Held M)) (n : ℕ) → kept ≡ take n rows → written ≡ drop n rows → map held_key kept ++ map held_key written ≡ map held_key rows
split_keys rows kept written n front back =
    (λ i. map held_key (front i) ++ map held_key (back i))
    ∙ sym (map-append held_key (take n rows) (drop n rows))
    ∙ ap (map held_key) (take_drop n rows)

-- ---- a row and a span

-- a row with the cells and the identity of a span
pub row_matches : {M : Type 0} (row : Held M) (span : Span) → is_eq (identity_cmp row.id span.id) ≡ true → is_eq (row_cmp row.cells span.row) ≡ true → held_key row ≡ span_key span
row_matches row span id cells =
    let same_id : row.id ≡ span.id = identity_cmp-exact row.id span.id (equal_from_is_eq (identity_cmp row.id span.id) id) in
    let same_cells : row.cells ≡ span.row = exact_rows row.cells span.row (equal_from_is_eq (row_cmp row.cells span.row) cells) in
    λ i. same_cells i ++ cell.Id (same_id i) ∷ []

-- the first row that is left
pub next_row : {M : Type 0} (rows : List (Held M)) (at : ℕ) (row : Held M) (key : List Cell) → at < length rows → row ≡ get_or rows at row → held_key row ≡ key
    → map held_key (drop at rows) ≡ key ∷ map held_key (drop (suc at) rows)
next_row rows at row key less is same = ap (map held_key) (drop_first rows at row less is) ∙ ap (λ k. k ∷ map held_key (drop (suc at) rows)) same

-- ---- one span

keys_more : (version : ℕ) (span : Span) (others : List Span) (b : Bool) → holds_at version span ≡ b
    → keys_of version (span ∷ others) ≡ map key_of (map (row_of unannotated) (cond b (span ∷ spans_at version others) (spans_at version others)))
keys_more version span others b is = ap (λ c. map key_of (map (row_of unannotated) (cond c (span ∷ spans_at version others) (spans_at version others)))) is

module _ {M : Type 0} (kept written : List (Held M)) (at : Places) (version : ℕ) (span : Span) where
  pub not_held : holds_at version span ≡ false → TakesRow kept written at version span (Some at)
  not_held not = λ others found. subst (λ (keys : List (List Cell)). IsPermutation (keys_from kept written at) keys) (sym (keys_more version span others false not)) found

  abbrev key : List Cell
  key = span_key span

  taken : (holds_at version span ≡ true) → (left : List (List Cell)) → ((keys : List (List Cell)) → IsPermutation left keys → IsPermutation (keys_from kept written at) (key ∷ keys))
      → (others : List Span) → IsPermutation left (keys_of version others) → IsPermutation (keys_from kept written at) (keys_of version (span ∷ others))
  taken held left more others found =
      subst (λ (keys : List (List Cell)). IsPermutation (keys_from kept written at) keys) (sym (keys_more version span others true held)) (more (keys_of version others) found)

  pub kept_taken : holds_at version span ≡ true → map held_key (drop at.kept kept) ≡ key ∷ map held_key (drop (suc at.kept) kept)
      → TakesRow kept written at version span (Some (record { kept = at.kept + 1; written = at.written }))
  kept_taken held first =
      rw add-one
      (taken held (map held_key (drop (suc at.kept) kept) ++ map held_key (drop at.written written))
      (λ keys found. subst (λ (own : List (List Cell)). IsPermutation (own ++ map held_key (drop at.written written)) (key ∷ keys)) (sym first)
      (IsPermutation-cons key (map held_key (drop (suc at.kept) kept) ++ map held_key (drop at.written written)) keys found)))

  pub written_taken : holds_at version span ≡ true → map held_key (drop at.written written) ≡ key ∷ map held_key (drop (suc at.written) written)
      → TakesRow kept written at version span (Some (record { kept = at.kept; written = at.written + 1 }))
  written_taken held first =
      rw add-one
      (taken held (map held_key (drop at.kept kept) ++ map held_key (drop (suc at.written) written))
      (λ keys found. subst (λ (own : List (List Cell)). IsPermutation (map held_key (drop at.kept kept) ++ own) (key ∷ keys)) (sym first)
      (IsPermutation-trans (map held_key (drop at.kept kept) ++ key ∷ map held_key (drop (suc at.written) written)) (key ∷ (map held_key (drop at.kept kept) ++ map held_key (drop (suc at.written) written))) (key ∷ keys)
      (IsPermutation-middle (map held_key (drop at.kept kept)) key (map held_key (drop (suc at.written) written)))
      (IsPermutation-cons key (map held_key (drop at.kept kept) ++ map held_key (drop (suc at.written) written)) keys found))))

-- all rows were taken
pub none_left : {M : Type 0} (kept written : List (Held M)) (at : Places) → length kept ≤ at.kept → length written ≤ at.written → keys_from kept written at ≡ []
none_left kept written at all every = λ i. map held_key (drop_past kept at.kept all i) ++ map held_key (drop_past written at.written every i)
