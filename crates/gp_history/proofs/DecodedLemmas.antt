-- Rows with system columns stand for the rows that they encode.
use Rattle.std.proofs.Common.{◌≡◌, ℕ, zero, suc, ◌+◌, ◌-◌, true, List, [], ◌∷◌, ◌++◌, length, get_or, take, map, refl, ap, ◌∙◌, arith, Some, length-append}
use Rattle.gp_base.proofs.Bags.{SameBag, none, first, swapped, through}
use Rattle.gp_base.specs.declared.cell.Cell.{Cell}
use Rattle.gp_base.specs.declared.cell.Cell.TheVariants as cell
use Rattle.gp_base.specs.Annotated.{Annotated}
use Rattle.gp_base.specs.Tokens.{Monomial}
use Rattle.gp_expr.specs.Results.{identity_in, monomial_in}
use Rattle.gp_prov.specs.Encoding.{encoded_row}
use Rattle.gp_history.specs.Decoded.{cells_of, decoded, decoded_row, identity_of, is_marked, mark_in, monomial_of, row_from, with_row}

-- ---- the last three cells

take_front : (cells others : List Cell) → take (length cells) (cells ++ others) ≡ cells
take_front [] others = refl
take_front (x ∷ cells) others = ap (λ (rest : List Cell). x ∷ rest) (take_front cells others)

get_behind : (cells others : List Cell) (k n : ℕ) → n ≡ length cells + k → get_or (cells ++ others) n cell.Null ≡ get_or others k cell.Null
get_behind [] others k n is = let same : n ≡ k = omega arith in ap (λ (m : ℕ). get_or others m cell.Null) same
get_behind (x ∷ cells) others k zero is = absurd (omega arith)
get_behind (x ∷ cells) others k (suc n) is = get_behind cells others k n (omega arith)

module _ (row : Annotated Monomial) where
  abbrev system : List Cell
  system = cell.Id row.identity ∷ cell.Mark row.mark ∷ cell.Mono row.annotation ∷ []

  count : length (row.cells ++ system) ≡ length row.cells + 3
  count = length-append row.cells system

  cells_are : cells_of (encoded_row true row) ≡ row.cells
  cells_are =
      let at : length (row.cells ++ system) - 3 ≡ length row.cells = omega (arith, count) in
      ap (λ n. take n (row.cells ++ system)) at ∙ take_front row.cells system

  identity_is : identity_of (encoded_row true row) ≡ Some row.identity
  identity_is =
      let at : length (row.cells ++ system) - 3 ≡ length row.cells + 0 = omega (arith, count) in
      ap identity_in (get_behind row.cells system 0 (length (row.cells ++ system) - 3) at)

  monomial_is : monomial_of (encoded_row true row) ≡ Some row.annotation
  monomial_is =
      let at : length (row.cells ++ system) - 1 ≡ length row.cells + 2 = omega (arith, count) in
      ap monomial_in (get_behind row.cells system 2 (length (row.cells ++ system) - 1) at)

  mark_is : is_marked (encoded_row true row) ≡ row.mark
  mark_is =
      let at : length (row.cells ++ system) - 2 ≡ length row.cells + 1 = omega (arith, count) in
      ap mark_in (get_behind row.cells system 1 (length (row.cells ++ system) - 2) at)

  pub row_is : decoded_row (encoded_row true row) ≡ Some row
  row_is = λ i. row_from (cells_are i) (mark_is i) (identity_is i) (monomial_is i)

pub rows_decoded : (rows : List (Annotated Monomial)) → decoded (map (encoded_row true) rows) ≡ rows
rows_decoded [] = refl
rows_decoded (row ∷ rows) = λ i. with_row (row_is row i) (rows_decoded rows i)

-- ---- rows in another order

-- what a list in another order is made of
pub unmapped : {X Y : Type 0} (f : X → Y) {zs ws : List Y} → SameBag zs ws → (xs : List X) → ws ≡ map f xs → (ys : List X) × (zs ≡ map f ys) × SameBag ys xs
unmapped f none [] e = ([], refl, none)
unmapped f none (x ∷ xs) e = absurd (cc)
unmapped f (first s) [] e = absurd (cc)
unmapped f (first {x = z} {xs = us} {ys = vs} s) (x ∷ xs) e =
    let head : z ≡ f x = cc in
    let tail : vs ≡ map f xs = cc in
    let rest = unmapped f s xs tail in
    (x ∷ rest.0, (λ i. head i ∷ rest.1 i), first rest.2)
unmapped f swapped [] e = absurd (cc)
unmapped f swapped (x ∷ []) e = absurd (cc)
unmapped f (swapped {x = z} {y = w} {xs = us}) (x ∷ x' ∷ xs) e =
    let one : w ≡ f x = cc in
    let two : z ≡ f x' = cc in
    let tail : us ≡ map f xs = cc in
    (x' ∷ x ∷ xs, (λ i. two i ∷ one i ∷ tail i), swapped)
unmapped f (through s t) xs e =
    let later = unmapped f t xs e in
    let sooner = unmapped f s later.0 later.1 in
    (sooner.0, sooner.1, through sooner.2 later.2)
