-- The rows of an answer with their monomials are as the code lists them, by occurrences.
use Rattle.std.proofs.Common.{◌≡◌, ◌-◌, Bool, true, false, cond, List, [], ◌∷◌, ◌++◌, length, length-append, map, take, refl, sym, ap, ◌∙◌, append_assoc, arith}
use Rattle.std.specs.Prelude.{slice_index_or}
use Rattle.std.specs.Ordering.{is_eq, is_le}
use Rattle.std.specs.declared.cmp.Ordering.{Ordering}
use Rattle.std.specs.declared.cmp.Ordering.TheVariants.{Less, Equal, Greater}
use Rattle.std.proofs.Math.Seq.{get_or-append_seam, take-append_seam}
use Rattle.gp_base.specs.declared.cell.Cell.{Cell}
use Rattle.gp_base.specs.declared.cell.Cell.TheVariants as cell
use Rattle.gp_base.specs.Order.{insert_sorted, row_cmp, sorted_by}
use Rattle.gp_base.specs.RowOrder.{exact_rows}
use Rattle.gp_base.specs.Tokens.{Monomial}
use Rattle.gp_algebra.specs.Answers.{Element}
use Rattle.gp_history.specs.Agreement.{occurrence}
use Rattle.gp_semiring.specs.declared.listed.Listed.{Listed}
use Rattle.gp_semiring.specs.Listing as code
use Rattle.gp_ask.specs.Asking.{element_cmp, grouped, put_first}
use Rattle.gp_base.proofs.OrderLemmas.{equal_from_is_eq}

-- ---- an occurrence

before-last : (cells : List Cell) (own : Cell) → length (cells ++ own ∷ []) - 1 ≡ length cells
before-last cells own = let e = length-append cells (own ∷ []) in omega (arith, e)

cells-are : (element : Element Monomial) → code.cells_of (occurrence element) ≡ element.cells
cells-are element =
    ap (λ n. take n (occurrence element)) (before-last element.cells (cell.Mono element.annotation)) ∙ take-append_seam element.cells (cell.Mono element.annotation ∷ [])

monomial-is : (element : Element Monomial) → code.monomial_of (occurrence element) ≡ element.annotation
monomial-is element =
    ap code.monomial_in
    (ap (λ n. slice_index_or (occurrence element) n cell.Null) (before-last element.cells (cell.Mono element.annotation))
    ∙ get_or-append_seam element.cells (cell.Mono element.annotation) [] cell.Null)

-- ---- groups

abbrev group : List Cell → List Monomial → Listed
group cells monomials = record { row = cells; monomials = monomials }

-- a group put to those behind it, of which the first may be of the same row
abbrev joined : List Cell → List Monomial → List Listed → List Listed
joined cells monomials [] = group cells monomials ∷ []
joined cells monomials (next ∷ others) =
    cond (is_eq (row_cmp cells next.row)) (group cells (monomials ++ next.monomials) ∷ others) (group cells monomials ∷ next ∷ others)

one-joined : (element : Element Monomial) (groups : List Listed) → joined element.cells (element.annotation ∷ []) groups ≡ put_first element groups
one-joined element [] = refl
one-joined element (next ∷ others) = refl

-- a group, and one behind it of the same row
same-joined : (cells : List Cell) (monomials : List Monomial) (element : Element Monomial) (groups : List Listed) → is_eq (row_cmp cells element.cells) ≡ true
    → joined cells (monomials ++ element.annotation ∷ []) groups ≡ joined cells monomials (put_first element groups)
same-joined cells monomials element groups is = by groups
  where
    same : cells ≡ element.cells
    same = exact_rows cells element.cells (equal_from_is_eq (row_cmp cells element.cells) is)

    first : (rest others : List Listed) (own : List Monomial) → cond (is_eq (row_cmp cells element.cells)) (group cells (monomials ++ own) ∷ others) rest ≡ group cells (monomials ++ own) ∷ others
    first rest others own = ap (λ b. cond b (group cells (monomials ++ own) ∷ others) rest) is

    more : (next : Listed) (others : List Listed) (b : Bool) → is_eq (row_cmp element.cells next.row) ≡ b
        → cond b (group cells ((monomials ++ element.annotation ∷ []) ++ next.monomials) ∷ others) (group cells (monomials ++ element.annotation ∷ []) ∷ next ∷ others)
        ≡ joined cells monomials (cond b (group element.cells (element.annotation ∷ next.monomials) ∷ others) (group element.cells (element.annotation ∷ []) ∷ next ∷ others))
    more next others true e =
        ap (λ (own : List Monomial). group cells own ∷ others) (append_assoc monomials (element.annotation ∷ []) next.monomials)
        ∙ sym (first (group cells monomials ∷ group element.cells (element.annotation ∷ next.monomials) ∷ others) others (element.annotation ∷ next.monomials))
    more next others false e =
        sym (first (group cells monomials ∷ group element.cells (element.annotation ∷ []) ∷ next ∷ others) (next ∷ others) (element.annotation ∷ []))

    by : (groups : List Listed) → joined cells (monomials ++ element.annotation ∷ []) groups ≡ joined cells monomials (put_first element groups)
    by [] = sym (first (group cells monomials ∷ group element.cells (element.annotation ∷ []) ∷ []) [] (element.annotation ∷ []))
    by (next ∷ others) =
        ap (λ (own : List Cell). cond (is_eq (row_cmp own next.row)) (group cells ((monomials ++ element.annotation ∷ []) ++ next.monomials) ∷ others) (group cells (monomials ++ element.annotation ∷ []) ∷ next ∷ others)) same
        ∙ more next others (is_eq (row_cmp element.cells next.row)) refl

-- a group, and one behind it of another row
other-joined : (cells : List Cell) (monomials : List Monomial) (element : Element Monomial) (groups : List Listed) → is_eq (row_cmp cells element.cells) ≡ false
    → group cells monomials ∷ put_first element groups ≡ joined cells monomials (put_first element groups)
other-joined cells monomials element groups is = by groups
  where
    apart : (others : List Listed) (own : List Monomial) → group cells monomials ∷ group element.cells own ∷ others
        ≡ joined cells monomials (group element.cells own ∷ others)
    apart others own =
        sym (ap (λ b. cond b (group cells (monomials ++ own) ∷ others) (group cells monomials ∷ group element.cells own ∷ others)) is)

    more : (next : Listed) (others : List Listed) (b : Bool)
        → group cells monomials ∷ cond b (group element.cells (element.annotation ∷ next.monomials) ∷ others) (group element.cells (element.annotation ∷ []) ∷ next ∷ others)
        ≡ joined cells monomials (cond b (group element.cells (element.annotation ∷ next.monomials) ∷ others) (group element.cells (element.annotation ∷ []) ∷ next ∷ others))
    more next others true = apart others (element.annotation ∷ next.monomials)
    more next others false = apart (next ∷ others) (element.annotation ∷ [])

    by : (groups : List Listed) → group cells monomials ∷ put_first element groups ≡ joined cells monomials (put_first element groups)
    by [] = apart [] (element.annotation ∷ [])
    by (next ∷ others) = more next others (is_eq (row_cmp element.cells next.row))

-- ---- occurrences in order

step-are : (cells : List Cell) (monomials : List Monomial) (element : Element Monomial) (elements : List (Element Monomial))
    → code.grouped_after cells (monomials ++ element.annotation ∷ []) (map occurrence elements) ≡ joined cells (monomials ++ element.annotation ∷ []) (grouped elements)
    → code.grouped_after element.cells (element.annotation ∷ []) (map occurrence elements) ≡ joined element.cells (element.annotation ∷ []) (grouped elements)
    → (b : Bool) → is_eq (row_cmp cells element.cells) ≡ b
    → cond b (code.grouped_after cells (monomials ++ element.annotation ∷ []) (map occurrence elements)) (group cells monomials ∷ code.grouped_after element.cells (element.annotation ∷ []) (map occurrence elements))
    ≡ joined cells monomials (put_first element (grouped elements))
step-are cells monomials element elements same other true is = same ∙ same-joined cells monomials element (grouped elements) is
step-are cells monomials element elements same other false is =
    ap (λ (groups : List Listed). group cells monomials ∷ groups) (other ∙ one-joined element (grouped elements)) ∙ other-joined cells monomials element (grouped elements) is

after-are : (cells : List Cell) (monomials : List Monomial) (elements : List (Element Monomial)) → code.grouped_after cells monomials (map occurrence elements) ≡ joined cells monomials (grouped elements)
after-are cells monomials [] = refl
after-are cells monomials (element ∷ elements) =
    (λ i. cond (is_eq (row_cmp cells (cells-are element i))) (code.grouped_after cells (monomials ++ monomial-is element i ∷ []) (map occurrence elements))
    (group cells monomials ∷ code.grouped_after (cells-are element i) (monomial-is element i ∷ []) (map occurrence elements)))
    ∙ step-are cells monomials element elements (after-are cells (monomials ++ element.annotation ∷ []) elements) (after-are element.cells (element.annotation ∷ []) elements) (is_eq (row_cmp cells element.cells)) refl

groups-are : (elements : List (Element Monomial)) → code.grouped (map occurrence elements) ≡ grouped elements
groups-are [] = refl
groups-are (element ∷ elements) =
    (λ i. code.grouped_after (cells-are element i) (monomial-is element i ∷ []) (map occurrence elements))
    ∙ after-are element.cells (element.annotation ∷ []) elements ∙ one-joined element (grouped elements)

-- ---- occurrences in any order

inserted-occurrence : (element : Element Monomial) (elements : List (Element Monomial))
    → insert_sorted row_cmp (occurrence element) (map occurrence elements) ≡ map occurrence (insert_sorted element_cmp element elements)
inserted-occurrence element [] = refl
inserted-occurrence element (other ∷ elements) =
    elim (is_le (element_cmp element other)) as (λ b. cond b (occurrence element ∷ occurrence other ∷ map occurrence elements) (occurrence other ∷ insert_sorted row_cmp (occurrence element) (map occurrence elements))
    ≡ map occurrence (cond b (element ∷ other ∷ elements) (other ∷ insert_sorted element_cmp element elements))) [
      | true ↦ refl
      | false ↦ ap (λ (rows : List (List Cell)). occurrence other ∷ rows) (inserted-occurrence element elements)
    ]

sorted-occurrences : (elements : List (Element Monomial)) → sorted_by row_cmp (map occurrence elements) ≡ map occurrence (sorted_by element_cmp elements)
sorted-occurrences [] = refl
sorted-occurrences (element ∷ elements) =
    ap (insert_sorted row_cmp (occurrence element)) (sorted-occurrences elements) ∙ inserted-occurrence element (sorted_by element_cmp elements)

pub listed-are : (elements : List (Element Monomial)) → code.listed (map occurrence elements) ≡ grouped (sorted_by element_cmp elements)
listed-are elements = ap code.grouped (sorted-occurrences elements) ∙ groups-are (sorted_by element_cmp elements)
