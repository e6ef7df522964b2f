-- The items of a SELECT, one behind the others.
use Rattle.gp_sql.proofs.Prelude.{◌≡◌, ℕ, zero, suc, ◌+◌, ◌<◌, ◌≤◌, true, false, List, [], ◌∷◌, ◌++◌, map, drop, length, Some, pos, refl, sym, ap, ◌∙◌, append_assoc, append-nil, arith, Option, slice_get, decimal, concat, Cell, Table}
use Rattle.gp_base.specs.Texts.{cell_text}
use Rattle.std.specs.Option.{option_map_or}
use Rattle.std.proofs.Common.{codes}
use Rattle.gp_base.specs.declared.cell.Cell.TheVariants as cell
use Rattle.gp_base.specs.declared.table.Column.{Column}
use Rattle.gp_expr.specs.declared.expr.Expr.{Expr as Code}
use Rattle.gp_expr.specs.SizeForms.{parts_size}
use Rattle.gp_expr.specs.Sizes.{size}
use Rattle.gp_expr.specs.Views.{expr_view, parts_of}
use Rattle.gp_sql.specs.declared.cell_type.CellType.{CellType}
use Rattle.gp_sql.specs.declared.cell_type.CellType.TheVariants.{Id}
use Rattle.gp_sql.specs.ItemTexts.{columns_text, name_text, named_behind, separator, stored_text}
use Rattle.gp_sql.specs.NamedQueries.{columns_of, stored_terms}
use Rattle.gp_sql.specs.Spelling.{column_name, named_text, others_joined, others_named, prefix_text, term_text}
use Rattle.gp_sql.specs.Sql as s
use Rattle.gp_sql.specs.Sql.{Alias, Term, Terms}
use Rattle.gp_sql.specs.Translation.{cell_term, cells_terms, expr_term, exprs_terms, first_due, other_parts}
use Rattle.gp_sql.proofs.IdentityTexts.{concat-onto}
use Rattle.gp_sql.proofs.ListLemmas.{drop-get, drop-one, length-drop, one-more}

-- ---- terms

pub behind-none : (tables : List Table) (n : ℕ) → named_behind tables n s.no_terms ≡ []
behind-none tables zero = refl
behind-none tables (suc n) = refl

-- a text, its name and what follows
named-onto : (text : List ℕ) (n : ℕ) (rest : List ℕ) → concat (text ∷ codes " AS c" ∷ decimal (suc n) ∷ rest ∷ []) ≡ text ++ (name_text n ++ rest)
named-onto text n rest =
    ap (λ (z : List ℕ). text ++ (codes " AS c" ++ (decimal (suc n) ++ z))) (append-nil rest)
    ∙ ap (λ (z : List ℕ). text ++ z) (sym (concat-onto (codes " AS c" ∷ decimal (suc n) ∷ []) rest))

pub behind-more : (tables : List Table) (n : ℕ) (a : Term) (others : Terms)
    → named_behind tables n (s.term a others) ≡ separator n ++ (term_text tables a ++ (name_text n ++ named_behind tables (suc n) others))
behind-more tables zero a others = named-onto (term_text tables a) 0 (others_named tables 2 others)
behind-more tables (suc n) a others = ap (λ (z : List ℕ). codes ", " ++ z) (named-onto (term_text tables a) (suc n) (others_named tables (suc (suc (suc n))) others))

-- ---- columns of a source

columns-more : (prefix : List ℕ) (n k count : ℕ)
    → columns_text prefix n k (suc count) ≡ separator n ++ (prefix ++ (codes "c" ++ (decimal k ++ (name_text n ++ columns_text prefix (suc n) (suc k) count))))
columns-more prefix n k count = ap (λ (z : List ℕ). separator n ++ (prefix ++ (codes "c" ++ (decimal k ++ (name_text n ++ z))))) (append-nil (columns_text prefix (suc n) (suc k) count))

none-more : (n : ℕ) → n ≡ n + 0
none-more n = omega arith

moved : (n count : ℕ) → suc n + count ≡ n + suc count
moved n count = omega arith

-- so many columns of an alias before other terms
columns-behind : (tables : List Table) (alias : Alias) (n k count : ℕ) (others : Terms)
    → named_behind tables n (columns_of alias k count others) ≡ columns_text (prefix_text alias) n k count ++ named_behind tables (n + count) others
columns-behind tables alias n k zero others = ap (λ (m : ℕ). named_behind tables m others) (none-more n)
columns-behind tables alias n k (suc count) others =
    let prefix : List ℕ = prefix_text alias in
    let rest : List ℕ = named_behind tables (n + suc count) others in
    behind-more tables n (s.column alias (s.numbered k)) (columns_of alias (suc k) count others)
    ∙ ap (λ (z : List ℕ). separator n ++ ((prefix ++ concat (codes "c" ∷ decimal k ∷ [])) ++ (name_text n ++ z)))
    (columns-behind tables alias (suc n) (suc k) count others ∙ ap (λ (m : ℕ). columns_text prefix (suc n) (suc k) count ++ named_behind tables m others) (moved n count))
    ∙ ap (λ (z : List ℕ). separator n ++ z)
    (append_assoc prefix (concat (codes "c" ∷ decimal k ∷ [])) (name_text n ++ (columns_text prefix (suc n) (suc k) count ++ rest))
    ∙ ap (λ (z : List ℕ). prefix ++ z)
    (concat-onto (codes "c" ∷ decimal k ∷ []) (name_text n ++ (columns_text prefix (suc n) (suc k) count ++ rest))))
    ∙ sym (ap (λ (z : List ℕ). z ++ rest) (columns-more prefix n k count)
    ∙ five (separator n) prefix (codes "c") (decimal k) (name_text n) (columns_text prefix (suc n) (suc k) count) rest)
  where
    five : (a b c d e f g : List ℕ) → (a ++ (b ++ (c ++ (d ++ (e ++ f))))) ++ g ≡ a ++ (b ++ (c ++ (d ++ (e ++ (f ++ g)))))
    five a b c d e f g =
        append_assoc a (b ++ (c ++ (d ++ (e ++ f)))) g
        ∙ ap (λ (z : List ℕ). a ++ z) (append_assoc b (c ++ (d ++ (e ++ f))) g
        ∙ ap (λ (z : List ℕ). b ++ z) (append_assoc c (d ++ (e ++ f)) g
        ∙ ap (λ (z : List ℕ). c ++ z) (append_assoc d (e ++ f) g
        ∙ ap (λ (z : List ℕ). d ++ z) (append_assoc e f g))))

-- the items of a PRODUCT
pub crossed-items : (tables : List Table) (width other : ℕ)
    → named_text tables 1 (columns_of s.x 1 width (columns_of s.y 1 other s.no_terms)) ≡ columns_text (codes "x.") 0 1 width ++ columns_text (codes "y.") (0 + width) 1 other
crossed-items tables width other =
    columns-behind tables s.x 0 1 width (columns_of s.y 1 other s.no_terms)
    ∙ ap (λ (z : List ℕ). columns_text (codes "x.") 0 1 width ++ z)
    (columns-behind tables s.y (0 + width) 1 other s.no_terms
    ∙ ap (λ (z : List ℕ). columns_text (codes "y.") (0 + width) 1 other ++ z) (behind-none tables ((0 + width) + other))
    ∙ append-nil (columns_text (codes "y.") (0 + width) 1 other))

-- ---- columns of a table

stored-one : (tables : List Table) (place n : ℕ) (columns : List Column) → stored_text n [] ≡ named_behind tables n (stored_terms place n 0)
stored-one tables place n columns =
    sym (behind-more tables n (s.column s.no_alias s.identity) (s.term (s.number (pos 0)) s.no_terms)
    ∙ ap (λ (z : List ℕ). separator n ++ (codes "\"$id\"" ++ (name_text n ++ z)))
    (behind-more tables (suc n) (s.number (pos 0)) s.no_terms))

named-column : (tables : List Table) (place : ℕ) (table : Table) (n : ℕ) (column : Column) → slice_get tables place ≡ Some table → slice_get table.cols n ≡ Some column → column_name (slice_get tables place) n ≡ column.name
named-column tables place table n column there is = ap (λ (own : Option Table). column_name own n) there ∙ ap (λ (own : Option Column). option_map_or (λ (one : Column). one.name) own []) is

get-first : {X : Type 0} (xs : List X) (n : ℕ) (x : X) (post : List X) → drop n xs ≡ x ∷ post → (slice_get xs n ≡ Some x) × (drop (suc n) xs ≡ post)
get-first [] zero x post e = absurd cc
get-first [] (suc n) x post e = absurd cc
get-first (y ∷ xs) zero x post e = (ap (λ ys. slice_get ys 0) e, ap (drop 1) e)
get-first (y ∷ xs) (suc n) x post e = get-first xs n x post e

pub stored-items : (tables : List Table) (place : ℕ) (table : Table) → slice_get tables place ≡ Some table → (n : ℕ) (post : List Column) → drop n table.cols ≡ post
    → stored_text n post ≡ named_behind tables n (stored_terms place n (length post))
stored-items tables place table there n [] e = stored-one tables place n []
stored-items tables place table there n (column ∷ post) e =
    let found = get-first table.cols n column post e in
    let rest : List ℕ = stored_text (suc n) post in
    let name = named-column tables place table n column there found.0 in
    sym (behind-more tables n (s.column s.no_alias (s.stored place n)) (stored_terms place (suc n) (length post))
    ∙ ap (λ (z : List ℕ). separator n ++ (concat (codes "\"" ∷ z ∷ codes "\"" ∷ []) ++ (name_text n ++ named_behind tables (suc n) (stored_terms place (suc n) (length post))))) name
    ∙ ap (λ (z : List ℕ). separator n ++ (concat (codes "\"" ∷ column.name ∷ codes "\"" ∷ []) ++ (name_text n ++ z))) (sym (stored-items tables place table there (suc n) post found.1))
    ∙ ap (λ (z : List ℕ). separator n ++ z) (concat-onto (codes "\"" ∷ column.name ∷ codes "\"" ∷ []) (name_text n ++ rest))
    ∙ ap (λ (z : List ℕ). separator n ++ (codes "\"" ++ (column.name ++ (codes "\"" ++ (name_text n ++ z))))) (sym (append-nil rest)))

pub stored-none : (tables : List Table) (place : ℕ) → stored_text 0 [] ≡ named_text tables 1 (stored_terms place 0 0)
stored-none tables place = stored-one tables place 0 []

-- ---- cells do without a catalogue

pub cell-anywhere : (tables : List Table) (due : CellType) (x : Cell) → term_text tables (cell_term due x) ≡ term_text [] (cell_term due x)
cell-anywhere tables due cell.Null = refl
cell-anywhere tables due (cell.Int number) = refl
cell-anywhere tables due (cell.Text text) = refl
cell-anywhere tables due (cell.Id id) = refl
cell-anywhere tables due (cell.Mark true) = refl
cell-anywhere tables due (cell.Mark false) = refl
cell-anywhere tables due (cell.Mono monomial) = refl

cells-behind : (tables : List Table) (due : List CellType) (n : ℕ) (row : List Cell) → named_behind tables n (cells_terms due row) ≡ named_behind [] n (cells_terms due row)
cells-behind tables due n [] = behind-none tables n ∙ sym (behind-none [] n)
cells-behind tables due n (x ∷ row) =
    behind-more tables n (cell_term (first_due due) x) (cells_terms (drop 1 due) row)
    ∙ (λ i. separator n ++ (cell-anywhere tables (first_due due) x i ++ (name_text n ++ cells-behind tables (drop 1 due) (suc n) row i)))
    ∙ sym (behind-more [] n (cell_term (first_due due) x) (cells_terms (drop 1 due) row))

pub cells-anywhere : (tables : List Table) (due : List CellType) (row : List Cell) → named_text tables 1 (cells_terms due row) ≡ named_text [] 1 (cells_terms due row)
cells-anywhere tables due row = cells-behind tables due 0 row

-- ---- a loop over items

-- where the text of items is that of the first one before that of the others, what was appended and the items that remain are all items
pub loop-kept : {X : Type 0} (all_text : ℕ → List X → List ℕ) (own : ℕ → X → List ℕ) → ((n : ℕ) (x : X) (xs : List X) → all_text n (x ∷ xs) ≡ own n x ++ all_text (suc n) xs)
    → (xs : List X) (n : ℕ) (x : X) (out later all : List ℕ) → slice_get xs n ≡ Some x → later ≡ out ++ own n x → out ++ all_text n (drop n xs) ≡ all
    → later ++ all_text (n + 1) (drop (n + 1) xs) ≡ all
loop-kept all_text own more xs n x out later all is text same =
    ap (λ (m : ℕ). later ++ all_text m (drop m xs)) (one-more n)
    ∙ ap (λ (z : List ℕ). z ++ all_text (suc n) (drop (suc n) xs)) text
    ∙ append_assoc out (own n x) (all_text (suc n) (drop (suc n) xs))
    ∙ ap (λ (z : List ℕ). out ++ z) (sym (more n x (drop (suc n) xs)))
    ∙ ap (λ ys. out ++ all_text n ys) (sym (drop-get xs n x is))
    ∙ same

pub exprs-more : (tables : List Table) (types due : List CellType) (n : ℕ) (x : Code) (xs : List Code)
    → named_behind tables n (exprs_terms types (drop n due) (map expr_view (x ∷ xs)))
    ≡ concat (separator n ∷ term_text tables (expr_term types (first_due (drop n due)) (expr_view x)) ∷ name_text n ∷ []) ++ named_behind tables (suc n) (exprs_terms types (drop (suc n) due) (map expr_view xs))
exprs-more tables types due n x xs =
    let text : List ℕ = term_text tables (expr_term types (first_due (drop n due)) (expr_view x)) in
    let rest : List ℕ = named_behind tables (suc n) (exprs_terms types (drop (suc n) due) (map expr_view xs)) in
    behind-more tables n (expr_term types (first_due (drop n due)) (expr_view x)) (exprs_terms types (drop 1 (drop n due)) (map expr_view xs))
    ∙ ap (λ (due : List CellType). separator n ++ (text ++ (name_text n ++ named_behind tables (suc n) (exprs_terms types due (map expr_view xs))))) (drop-one n due)
    ∙ sym (concat-onto (separator n ∷ text ∷ name_text n ∷ []) rest)

pub cells-more : (due : List CellType) (n : ℕ) (x : Cell) (xs : List Cell)
    → named_behind [] n (cells_terms (drop n due) (x ∷ xs)) ≡ concat (separator n ∷ term_text [] (cell_term (first_due (drop n due)) x) ∷ name_text n ∷ []) ++ named_behind [] (suc n) (cells_terms (drop (suc n) due) xs)
cells-more due n x xs =
    let text : List ℕ = term_text [] (cell_term (first_due (drop n due)) x) in
    let rest : List ℕ = named_behind [] (suc n) (cells_terms (drop (suc n) due) xs) in
    behind-more [] n (cell_term (first_due (drop n due)) x) (cells_terms (drop 1 (drop n due)) xs)
    ∙ ap (λ (due : List CellType). separator n ++ (text ++ (name_text n ++ named_behind [] (suc n) (cells_terms due xs)))) (drop-one n due)
    ∙ sym (concat-onto (separator n ∷ text ∷ name_text n ∷ []) rest)

-- ---- the parts of a new identity

parts-more : (tables : List Table) (types : List CellType) (n : ℕ) (x : Code) (xs : List Code)
    → others_joined tables (other_parts types (parts_of (x ∷ xs))) ≡ concat (codes " || ',' || " ∷ term_text tables (expr_term types Id (expr_view x)) ∷ [] ∷ []) ++ others_joined tables (other_parts types (parts_of xs))
parts-more tables types n x xs =
    let text : List ℕ = term_text tables (expr_term types Id (expr_view x)) in
    let rest : List ℕ = others_joined tables (other_parts types (parts_of xs)) in
    ap (λ (z : List ℕ). codes " || " ++ (cell_text (cell.Text (codes ",")) ++ z)) (append-nil (codes " || " ++ (text ++ (rest ++ []))) ∙ ap (λ (z : List ℕ). codes " || " ++ (text ++ z)) (append-nil rest))
    ∙ sym (concat-onto (codes " || ',' || " ∷ text ∷ [] ∷ []) rest)

pub parts-kept : (tables : List Table) (types : List CellType) (parts : List Code) (n : ℕ) (x : Code) (out later all : List ℕ) → slice_get parts n ≡ Some x
    → later ≡ out ++ concat (codes " || ',' || " ∷ term_text tables (expr_term types Id (expr_view x)) ∷ [] ∷ [])
    → out ++ others_joined tables (other_parts types (parts_of (drop n parts))) ≡ all
    → later ++ others_joined tables (other_parts types (parts_of (drop (n + 1) parts))) ≡ all
parts-kept tables types parts n x out later all is text same =
    loop-kept (λ n xs. others_joined tables (other_parts types (parts_of xs))) (λ n x. concat (codes " || ',' || " ∷ term_text tables (expr_term types Id (expr_view x)) ∷ [] ∷ [])) (parts-more tables types) parts n x out later all is text same

pub parts-less : (parts : List Code) (n : ℕ) (x : Code) → slice_get parts n ≡ Some x → parts_size (parts_of (drop (n + 1) parts)) ≤ parts_size (parts_of (drop n parts))
parts-less parts n x is =
    let here : parts_size (parts_of (drop n parts)) ≡ size (expr_view x) + parts_size (parts_of (drop (suc n) parts)) = ap (λ xs. parts_size (parts_of xs)) (drop-get parts n x is) in
    let next : parts_size (parts_of (drop (n + 1) parts)) ≡ parts_size (parts_of (drop (suc n) parts)) = ap (λ m. parts_size (parts_of (drop m parts))) (one-more n) in
    omega (arith, here, next)

-- ---- a loop over columns of a source

pub columns-kept : (prefix : List ℕ) (types : List CellType) (n next others : ℕ) (out later all : List ℕ) → others < length types → next ≡ suc n
    → later ≡ out ++ concat (separator n ∷ prefix ∷ codes "c" ∷ decimal (suc others) ∷ name_text n ∷ [])
    → out ++ columns_text prefix n (suc others) (length (drop others types)) ≡ all
    → later ++ columns_text prefix next (suc (others + 1)) (length (drop (others + 1) types)) ≡ all
columns-kept prefix types n next others out later all within number text same =
    let rest : List ℕ = columns_text prefix (suc n) (suc (suc others)) (length (drop (suc others) types)) in
    (λ i. text i ++ columns_text prefix (number i) (suc (one-more others i)) (length (drop (one-more others i) types)))
    ∙ append_assoc out (concat (separator n ∷ prefix ∷ codes "c" ∷ decimal (suc others) ∷ name_text n ∷ [])) rest
    ∙ ap (λ (z : List ℕ). out ++ z)
    (concat-onto (separator n ∷ prefix ∷ codes "c" ∷ decimal (suc others) ∷ name_text n ∷ []) rest
    ∙ sym (columns-more prefix n (suc others) (length (drop (suc others) types)))
    ∙ ap (columns_text prefix n (suc others)) (sym (length-drop types others within)))
    ∙ same
