-- Tables agree exactly where they have the same rows in some order.
use Rattle.std.proofs.Common.{◌≡◌, ◌≢◌, suc, true, false, length, List, [], ◌∷◌, ◌++◌, map, refl, sym, ap, ◌∙◌, subst}
use Rattle.std.specs.Cmp.Lexicographic.{slice_cmp}
use Rattle.std.specs.FinMap.{slice_cmp-IsAntisymmetric}
use Rattle.std.specs.List.Sorted.{IsPermutation}
use Rattle.std.specs.Ordering.{is_eq, ordering_then}
use Rattle.std.specs.declared.cmp.Ordering.{Ordering}
use Rattle.std.specs.declared.cmp.Ordering.TheVariants.{Less, Equal, Greater}
use Rattle.std.proofs.lemmas.Cmp.{lists_total, tied_itself}
use Rattle.std.proofs.lemmas.List.Sorted.{IsPermutation-map, IsPermutation-sym, IsPermutation-trans}
use Rattle.std.proofs.lemmas.Map.Lookups.{CmpEqualImpliesEq}
use Rattle.gp_base.specs.declared.cell.Cell.{Cell}
use Rattle.gp_base.specs.declared.cell.Cell.TheVariants as cell
use Rattle.gp_base.specs.Annotated.{Annotated}
use Rattle.gp_base.specs.Identities.{Identity, identity, no_sources}
use Rattle.gp_base.specs.Order.{row_cmp, sorted_by}
use Rattle.gp_base.specs.RowOrder.{exact_rows, row_cmp_total}
use Rattle.gp_base.proofs.OrderLemmas.{rows_permuted, rows_sorted, sorted_rows_unique, equal_from_is_eq}
use Rattle.gp_machine.specs.QuestionForms.{identified}
use Rattle.gp_history.specs.Agreement.{agree, key_of, keys_agree}

-- ---- keys

-- lists of different lengths differ
pub lengths_differ : (xs ys : List (List Cell)) → length xs ≢ length ys → is_eq (slice_cmp row_cmp xs ys) ≡ false
lengths_differ [] [] other = absurd (other refl)
lengths_differ [] (y ∷ ys) other = refl
lengths_differ (x ∷ xs) [] other = refl
lengths_differ (x ∷ xs) (y ∷ ys) other = by (row_cmp x y) (lengths_differ xs ys (λ same. other (ap suc same)))
  where
    by : (o : Ordering) → is_eq (slice_cmp row_cmp xs ys) ≡ false → is_eq (ordering_then o (slice_cmp row_cmp xs ys)) ≡ false
    by Less rest = refl
    by Equal rest = rest
    by Greater rest = refl

-- the order does not matter
pub same_order : (keys others : List (List Cell)) → IsPermutation keys others → sorted_by row_cmp keys ≡ sorted_by row_cmp others
same_order keys others moved =
    sorted_rows_unique others (sorted_by row_cmp keys) (IsPermutation-trans others keys (sorted_by row_cmp keys) (IsPermutation-sym keys others moved) (rows_permuted keys))
    (rows_sorted keys)

pub keys_moved : (keys others expected : List (List Cell)) → IsPermutation keys others → keys_agree keys expected ≡ keys_agree others expected
keys_moved keys others expected moved = ap (λ (sorted : List (List Cell)). is_eq (slice_cmp row_cmp sorted (sorted_by row_cmp expected))) (same_order keys others moved)

agree_itself : (keys : List (List Cell)) → keys_agree keys keys ≡ true
agree_itself keys = ap is_eq (tied_itself (lists_total row_cmp_total) (sorted_by row_cmp keys))

pub keys_permuted : (keys others : List (List Cell)) → IsPermutation keys others → keys_agree keys others ≡ true
keys_permuted keys others moved = keys_moved keys others others moved ∙ agree_itself others

exact_lists : CmpEqualImpliesEq (slice_cmp row_cmp)
exact_lists = slice_cmp-IsAntisymmetric exact_rows

pub keys_from : (keys others : List (List Cell)) → keys_agree keys others ≡ true → IsPermutation keys others
keys_from keys others same =
    let sorted : sorted_by row_cmp keys ≡ sorted_by row_cmp others =
    exact_lists (sorted_by row_cmp keys) (sorted_by row_cmp others) (equal_from_is_eq (slice_cmp row_cmp (sorted_by row_cmp keys) (sorted_by row_cmp others)) same) in
    IsPermutation-trans keys (sorted_by row_cmp keys) others (rows_permuted keys)
    (subst (λ (rows : List (List Cell)). IsPermutation rows others) (sym sorted) (IsPermutation-sym others (sorted_by row_cmp others) (rows_permuted others)))

-- ---- what a key says

-- the identity and the cells of a key
abbrev of_cells : Cell → Identity × List Cell
of_cells (cell.Id id) = (id, [])
of_cells _ = (identity 0 0 0 no_sources, [])

abbrev with_cell : Cell → Identity × List Cell → Identity × List Cell
with_cell first rest = (rest.0, first ∷ rest.1)

abbrev parts : List Cell → Identity × List Cell
parts [] = (identity 0 0 0 no_sources, [])
parts (last ∷ []) = of_cells last
parts (first ∷ next ∷ cells) = with_cell first (parts (next ∷ cells))

parts_are : (cells : List Cell) (id : Identity) → parts (cells ++ cell.Id id ∷ []) ≡ (id, cells)
parts_are [] id = refl
parts_are (first ∷ []) id = refl
parts_are (first ∷ next ∷ cells) id = ap (with_cell first) (parts_are (next ∷ cells) id)

module _ {M : Type 0} where
  parts_of : (rows : List (Annotated M)) → map parts (map key_of rows) ≡ identified rows
  parts_of [] = refl
  parts_of (row ∷ rows) = λ i. parts_are row.cells row.identity i ∷ parts_of rows i

  pub key_from : (rows : List (Annotated M)) → map (λ (p : Identity × List Cell). p.1 ++ cell.Id p.0 ∷ []) (identified rows) ≡ map key_of rows
  key_from [] = refl
  key_from (row ∷ rows) = ap (λ (keys : List (List Cell)). key_of row ∷ keys) (key_from rows)

  pub agree_from : (rows others : List (Annotated M)) → IsPermutation (identified rows) (identified others) → agree rows others ≡ true
  agree_from rows others moved =
      keys_permuted (map key_of rows) (map key_of others)
      (subst (λ (keys : List (List Cell)). IsPermutation keys (map key_of others)) (key_from rows)
      (subst (λ (keys : List (List Cell)). IsPermutation (map (λ (p : Identity × List Cell). p.1 ++ cell.Id p.0 ∷ []) (identified rows)) keys) (key_from others)
      (IsPermutation-map (λ (p : Identity × List Cell). p.1 ++ cell.Id p.0 ∷ []) (identified rows) (identified others) moved)))

  pub agree_is : (rows others : List (Annotated M)) → agree rows others ≡ true → IsPermutation (identified rows) (identified others)
  agree_is rows others same =
      subst (λ (ids : List (Identity × List Cell)). IsPermutation ids (identified others)) (parts_of rows)
      (subst (λ (ids : List (Identity × List Cell)). IsPermutation (map parts (map key_of rows)) ids) (parts_of others)
      (IsPermutation-map parts (map key_of rows) (map key_of others) (keys_from (map key_of rows) (map key_of others) same)))
