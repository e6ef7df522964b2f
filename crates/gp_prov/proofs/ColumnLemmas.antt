-- What is in the columns of encoded rows side by side: user columns, identities and monomials.
use Rattle.std.proofs.Common.{◌≡◌, ℕ, suc, ◌+◌, Bool, true, false, List, [], ◌∷◌, ◌++◌, length, refl, sym, ap, ◌∙◌, subst, arith, map, Some}
use Rattle.std.specs.Prelude.{get_or}
use Rattle.std.specs.List.{flat_map}
use Rattle.std.proofs.lemmas.List.{append_assoc, length-append, map-append}
use Rattle.std.proofs.Math.Seq.{get_or-append_seam}
use Rattle.gp_base.specs.declared.cell.Cell.{Cell}
use Rattle.gp_base.specs.declared.cell.Cell.TheVariants as cell
use Rattle.gp_base.specs.Identities.{Sources, no_sources, source}
use Rattle.gp_base.specs.Annotated.{Annotated}
use Rattle.gp_base.specs.Tokens.{Monomial, times as product}
use Rattle.gp_expr.specs.Expressions.{Expr, col, times}
use Rattle.gp_expr.specs.Values.{value, identities, column, with_source, multiplied}
use Rattle.gp_algebra.specs.Answers.{values}
use Rattle.gp_prov.specs.Encoding.{noted, encoded_row}
use Rattle.gp_prov.specs.ToPlain.{system_width, users_from, identities_from, times_from, product_of}
use Rattle.gp_algebra.specs.Statements.{columns_behind}

pub cell_at : (front back : List Cell) (c : Cell) (n : ℕ) → length front ≡ n → column (suc n) (front ++ (c ∷ back)) ≡ c
cell_at front back c n e = subst (λ n. get_or (front ++ (c ∷ back)) n cell.Null ≡ c) e (get_or-append_seam front c back cell.Null)

length_grown : (front : List Cell) (c : Cell) (n : ℕ) → length front ≡ n → length (front ++ (c ∷ [])) ≡ suc n
length_grown front c n e = let l : length (front ++ (c ∷ [])) ≡ length front + 1 = length-append front (c ∷ []) in omega arith

columns_are : (front cells back : List Cell) (at : ℕ) → length front ≡ at → values (columns_behind at (length cells)) (front ++ (cells ++ back)) ≡ cells
columns_are front [] back at e = refl
columns_are front (c ∷ cells) back at e =
    let others : values (columns_behind (suc at) (length cells)) (front ++ (c ∷ (cells ++ back))) ≡ cells =
    subst (λ row. values (columns_behind (suc at) (length cells)) row ≡ cells) (append_assoc front (c ∷ []) (cells ++ back))
    (columns_are (front ++ (c ∷ [])) cells back (suc at) (length_grown front c at e)) in
    λ i. cell_at front (cells ++ back) c at e i ∷ others i

-- a system cell of a row, with rows before and after it
system_cell : (front cells before after others : List Cell) (c : Cell) (n : ℕ) → length front + (length cells + length before) ≡ n →
    column (suc n) (front ++ ((cells ++ (before ++ (c ∷ after))) ++ others)) ≡ c
system_cell front cells before after others c n e = subst (λ row. column (suc n) row ≡ c) shape (cell_at (front ++ (cells ++ before)) (after ++ others) c n long)
  where
    own : (cells ++ before) ++ (c ∷ (after ++ others)) ≡ (cells ++ (before ++ (c ∷ after))) ++ others
    own =
        append_assoc cells before (c ∷ (after ++ others))
        ∙ sym (append_assoc cells (before ++ (c ∷ after)) others ∙ ap (λ row. cells ++ row) (append_assoc before (c ∷ after) others))

    shape : (front ++ (cells ++ before)) ++ (c ∷ (after ++ others)) ≡ front ++ ((cells ++ (before ++ (c ∷ after))) ++ others)
    shape = append_assoc front (cells ++ before) (c ∷ (after ++ others)) ∙ ap (λ row. front ++ row) own

    long : length (front ++ (cells ++ before)) ≡ n
    long = length-append front (cells ++ before) ∙ ap (λ m. length front + m) (length-append cells before) ∙ e

length_encoded : (prov : Bool) (row : Annotated Monomial) → length (encoded_row prov row) ≡ length row.cells + system_width prov
length_encoded true row = length-append row.cells (cell.Id row.identity ∷ cell.Mark row.mark ∷ cell.Mono row.annotation ∷ [])
length_encoded false row = length-append row.cells (cell.Id row.identity ∷ cell.Mark row.mark ∷ [])

-- ---- rows side by side

abbrev pub width : Annotated Monomial → ℕ
width row = length row.cells

abbrev pub cells_of : Annotated Monomial → List Cell
cells_of row = row.cells

abbrev pub sources_of : List (Annotated Monomial) → Sources
sources_of [] = no_sources
sources_of (row ∷ rows) = source row.identity (sources_of rows)

-- a monomial times those of the rows, from the left
abbrev pub product_onto : Monomial → List (Annotated Monomial) → Monomial
product_onto m [] = m
product_onto m (row ∷ rows) = product_onto (product m row.annotation) rows

module _ (prov : Bool) where
  abbrev side_by_side : List (Annotated Monomial) → List Cell
  side_by_side rows = flat_map (encoded_row prov) rows

  -- the cells of a row behind its user columns
  abbrev system : Annotated Monomial → List Cell
  system row = cell.Id row.identity ∷ cell.Mark row.mark ∷ noted prov (cell.Mono row.annotation)

  -- the column before those of the next row
  abbrev after : ℕ → Annotated Monomial → ℕ
  after at row = at + (width row + system_width prov)

  next_long : (front : List Cell) (row : Annotated Monomial) (at : ℕ) → length front ≡ at → length (front ++ encoded_row prov row) ≡ after at row
  next_long front row at e = length-append front (encoded_row prov row) ∙ (λ i. e i + length_encoded prov row i)

  pub users_are : (rows : List (Annotated Monomial)) (front : List Cell) (at : ℕ) → length front ≡ at →
      values (users_from prov at (map width rows)) (front ++ side_by_side rows) ≡ flat_map cells_of rows
  users_are [] front at e = refl
  users_are (row ∷ rows) front at e =
      let own : values (columns_behind at (width row)) (front ++ (encoded_row prov row ++ side_by_side rows)) ≡ row.cells =
      subst (λ r. values (columns_behind at (width row)) (front ++ r) ≡ row.cells) (sym (append_assoc row.cells (system row) (side_by_side rows)))
      (columns_are front row.cells (system row ++ side_by_side rows) at e) in
      let others : values (users_from prov (after at row) (map width rows)) (front ++ (encoded_row prov row ++ side_by_side rows)) ≡ flat_map cells_of rows =
      subst (λ r. values (users_from prov (after at row) (map width rows)) r ≡ flat_map cells_of rows) (append_assoc front (encoded_row prov row) (side_by_side rows))
      (users_are rows (front ++ encoded_row prov row) (after at row) (next_long front row at e)) in
      map-append (λ x. value x (front ++ (encoded_row prov row ++ side_by_side rows))) (columns_behind at (width row)) (users_from prov (after at row) (map width rows))
      ∙ (λ i. own i ++ others i)

  pub identities_are : (rows : List (Annotated Monomial)) (front : List Cell) (at : ℕ) → length front ≡ at →
      identities (identities_from prov at (map width rows)) (front ++ side_by_side rows) ≡ Some (sources_of rows)
  identities_are [] front at e = refl
  identities_are (row ∷ rows) front at e =
      let own : column (suc (at + width row)) (front ++ (encoded_row prov row ++ side_by_side rows)) ≡ cell.Id row.identity =
      system_cell front row.cells [] (cell.Mark row.mark ∷ noted prov (cell.Mono row.annotation)) (side_by_side rows) (cell.Id row.identity) (at + width row)
      (omega arith) in
      let others : identities (identities_from prov (after at row) (map width rows)) (front ++ (encoded_row prov row ++ side_by_side rows)) ≡ Some (sources_of rows) =
      subst (λ r. identities (identities_from prov (after at row) (map width rows)) r ≡ Some (sources_of rows)) (append_assoc front (encoded_row prov row) (side_by_side rows))
      (identities_are rows (front ++ encoded_row prov row) (after at row) (next_long front row at e)) in
      λ i. with_source (own i) (others i)

-- ---- products of monomials

abbrev noted_rows : List (Annotated Monomial) → List Cell
noted_rows rows = flat_map (encoded_row true) rows

annotation_there : (front : List Cell) (row : Annotated Monomial) (others : List Cell) (at : ℕ) → length front ≡ at →
    column (suc (suc (suc (at + width row)))) (front ++ (encoded_row true row ++ others)) ≡ cell.Mono row.annotation
annotation_there front row others at e =
    system_cell front row.cells (cell.Id row.identity ∷ cell.Mark row.mark ∷ []) [] others (cell.Mono row.annotation) (suc (suc (at + width row))) (omega arith)

pub times_are : (rows : List (Annotated Monomial)) (front : List Cell) (at : ℕ) (expr : Expr) (m : Monomial) → length front ≡ at →
    value expr (front ++ noted_rows rows) ≡ cell.Mono m → value (times_from true at (map width rows) expr) (front ++ noted_rows rows) ≡ cell.Mono (product_onto m rows)
times_are [] front at expr m e is = is
times_are (row ∷ rows) front at expr m e is =
    subst (λ r. value (times_from true next (map width rows) times_own) r ≡ cell.Mono (product_onto own rows)) shape
    (times_are rows (front ++ encoded_row true row) next times_own own (next_long true front row at e) (subst (λ r. value times_own r ≡ cell.Mono own) (sym shape) here))
  where
    next : ℕ
    next = at + (width row + 3)

    own : Monomial
    own = product m row.annotation

    times_own : Expr
    times_own = times expr (col (suc (suc (suc (at + width row)))))

    shape : (front ++ encoded_row true row) ++ noted_rows rows ≡ front ++ (encoded_row true row ++ noted_rows rows)
    shape = append_assoc front (encoded_row true row) (noted_rows rows)

    here : value times_own (front ++ (encoded_row true row ++ noted_rows rows)) ≡ cell.Mono own
    here = λ i. multiplied (is i) (annotation_there front row (noted_rows rows) at e i)

pub product_is : (row : Annotated Monomial) (rows : List (Annotated Monomial)) →
    value (product_of true (map width (row ∷ rows))) (noted_rows (row ∷ rows)) ≡ cell.Mono (product_onto row.annotation rows)
product_is row rows =
    times_are rows (encoded_row true row) (width row + 3) (col (suc (suc (suc (width row))))) row.annotation (length_encoded true row)
    (system_cell [] row.cells (cell.Id row.identity ∷ cell.Mark row.mark ∷ []) [] (noted_rows rows) (cell.Mono row.annotation) (suc (suc (width row))) (omega arith))
