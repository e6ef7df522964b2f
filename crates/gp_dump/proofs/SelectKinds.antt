-- The rows that a query of the right types gives fit the columns that its types agree with.
use Rattle.gp_dump.proofs.Prelude.{◌≡◌, ℕ, zero, suc, ◌+◌, true, true≢false, List, [], ◌∷◌, ◌++◌, length, map, get_or, Option, Some, None, slice_get, refl, sym, ap, subst, ◌∙◌, arith, append_assoc, length-append, list_all, Cell, Column, Kind, Table, is_user_cell, Bytes, Term, Item, values, TermType, Scope, columns_of, scope_behind, scope_of, kind_type, agrees, operands_agree, type_of, table_fault, kind_types, all_agree, cells_agree, expr_of, number_of_table, term_is_valid, items_are_valid, holds_if, and_parts, same_Some}
use Rattle.std.proofs.Common.{is_some, option_and_then, unwrap_or, append-nil}
use Rattle.std.specs.Option.{option_map_or}
use Rattle.std.proofs.lemmas.List.{get_or_at}
use Rattle.gp_base.specs.declared.cell.Cell.TheVariants as cell
use Rattle.gp_base.specs.declared.table.Kind.TheVariants as kind
use Rattle.gp_base.specs.Catalogs.{place_of}
use Rattle.gp_grammar.specs.Syntax as y
use Rattle.gp_grammar.specs.Syntax.{Items}
use Rattle.gp_check.specs.Typing.{cell_type}
use Rattle.gp_check.specs.Faults.{scope_types, items_types, width_behind}
use Rattle.gp_algebra.specs.Statements.{columns_behind}
use Rattle.gp_check.specs.Meaning.{exprs_of}
use Rattle.gp_dump.specs.Dumps.{is_of_kind, fits_columns}
use Rattle.gp_dump.proofs.KindLemmas.{FitsAt, FitsScope, agreeing_fits, fits_type, kind_fits, value_fits}

-- ---- rows

pub fits_length : (cols : List Column) (cells : List Cell) → fits_columns cols cells ≡ true → length cells ≡ length cols
fits_length [] [] f = refl
fits_length [] (x ∷ cells) f = absurd (true≢false (sym f))
fits_length (col ∷ cols) [] f = absurd (true≢false (sym f))
fits_length (col ∷ cols) (x ∷ cells) f = ap suc (fits_length cols cells (and_parts (is_of_kind col.kind x) _ f).1)

-- a row among others
pub row_fits_at : (cols : List Column) (cells front back : List Cell) (before : ℕ) → length front ≡ before → fits_columns cols cells ≡ true → FitsAt before cols (front ++ (cells ++ back))
row_fits_at [] cells front back before l f = tt
row_fits_at (col ∷ cols) [] front back before l f = absurd (true≢false (sym f))
row_fits_at (col ∷ cols) (x ∷ cells) front back before l f =
    let b = and_parts (is_of_kind col.kind x) (fits_columns cols cells) f in (
      subst (λ y. is_of_kind col.kind y ≡ true) (sym (get_or_at front x (cells ++ back) cell.Null before l)) b.0,
      subst (FitsAt (suc before) cols) (append_assoc front (x ∷ []) (cells ++ back))
          (row_fits_at cols cells (front ++ x ∷ []) back (suc before) (length-append front (x ∷ []) ∙ omega (arith, l)) b.1),
    )

pub row_fits : (cols : List Column) (cells : List Cell) → fits_columns cols cells ≡ true → FitsAt 0 cols cells
row_fits cols cells f = subst (FitsAt 0 cols) (append-nil cells) (row_fits_at cols cells [] [] 0 refl f)

-- ---- values of types

-- each value has its type, where there is one
abbrev pub HaveTypes : List (Option TermType) → List Cell → Type 0
HaveTypes [] [] = Unit {0}
HaveTypes [] (x ∷ cells) = ⊥
HaveTypes (o ∷ types) [] = ⊥
HaveTypes (o ∷ types) (x ∷ cells) = ((a : TermType) → o ≡ Some a → fits_type a x ≡ true) × HaveTypes types cells

types_append : (types others : List (Option TermType)) (cells more : List Cell) → HaveTypes types cells → HaveTypes others more → HaveTypes (types ++ others) (cells ++ more)
types_append [] others [] more f g = g
types_append [] others (x ∷ cells) more f g = absurd f
types_append (o ∷ types) others [] more f g = absurd f
types_append (o ∷ types) others (x ∷ cells) more f g = (f.0, types_append types others cells more f.1 g)

pub agreeing : (k : Kind) (o : Option TermType) (x : Cell) → operands_agree (Some (kind_type k)) o ≡ true → ((a : TermType) → o ≡ Some a → fits_type a x ≡ true) → is_of_kind k x ≡ true
agreeing k None x e f = absurd (true≢false (sym e))
agreeing k (Some b) x e f = agreeing_fits k b x e (f b refl)

-- values of types that agree with columns fit them
pub types_fit : (cols : List Column) (types : List (Option TermType)) (cells : List Cell) → all_agree (kind_types cols) types ≡ true → HaveTypes types cells → fits_columns cols cells ≡ true
types_fit [] [] [] e f = refl
types_fit [] [] (x ∷ cells) e f = absurd f
types_fit [] (o ∷ types) cells e f = absurd (true≢false (sym e))
types_fit (col ∷ cols) [] cells e f = absurd (true≢false (sym e))
types_fit (col ∷ cols) (o ∷ types) [] e f = absurd f
types_fit (col ∷ cols) (o ∷ types) (x ∷ cells) e f =
    let b = and_parts (operands_agree (Some (kind_type col.kind)) o) (all_agree (kind_types cols) types) e in
    rw (agreeing col.kind o x b.0 f.0) (types_fit cols types cells b.1 f.1)

-- the cells of a VALUES row
cell_fits : (k : Kind) (x : Cell) → agrees (kind_type k) (cell_type x) ≡ true → is_user_cell x ≡ true → is_of_kind k x ≡ true
cell_fits kind.Int cell.Null e v = refl
cell_fits kind.Int (cell.Int n) e v = v
cell_fits kind.Int (cell.Text t) e v = absurd (true≢false (sym e))
cell_fits kind.Int (cell.Id i) e v = absurd (true≢false (sym v))
cell_fits kind.Int (cell.Mark m) e v = absurd (true≢false (sym v))
cell_fits kind.Int (cell.Mono m) e v = absurd (true≢false (sym v))
cell_fits kind.Text cell.Null e v = refl
cell_fits kind.Text (cell.Int n) e v = absurd (true≢false (sym e))
cell_fits kind.Text (cell.Text t) e v = v
cell_fits kind.Text (cell.Id i) e v = absurd (true≢false (sym v))
cell_fits kind.Text (cell.Mark m) e v = absurd (true≢false (sym v))
cell_fits kind.Text (cell.Mono m) e v = absurd (true≢false (sym v))

pub given_fits : (cols : List Column) (cells : List Cell) → cells_agree cols cells ≡ true → list_all is_user_cell cells ≡ true → fits_columns cols cells ≡ true
given_fits [] [] e v = refl
given_fits [] (x ∷ cells) e v = absurd (true≢false (sym e))
given_fits (col ∷ cols) [] e v = absurd (true≢false (sym e))
given_fits (col ∷ cols) (x ∷ cells) e v =
    let b = and_parts (agrees (kind_type col.kind) (cell_type x)) (cells_agree cols cells) e in
    let w = and_parts (is_user_cell x) (list_all is_user_cell cells) v in
    rw (cell_fits col.kind x b.0 w.0) (given_fits cols cells b.1 w.1)

-- ---- select lists

-- `*`: the cells of the columns
columns_have : (before : ℕ) (cols : List Column) (row : List Cell) → FitsAt before cols row → HaveTypes (kind_types cols) (values (columns_behind before (length cols)) row)
columns_have before [] row f = tt
columns_have before (col ∷ cols) row f =
    (λ a e. subst (λ a. fits_type a (get_or row before cell.Null) ≡ true) (same_Some (kind_type col.kind) a e) (kind_fits col.kind (get_or row before cell.Null) ∙ f.0), columns_have (suc before) cols row f.1)

-- the number of columns of a FROM
abbrev total : List Table → List Item → ℕ
total tables [] = 0
total tables (item ∷ items) = length (columns_of tables item.table) + total tables items

width_is : (tables : List Table) (before : ℕ) (items : List Item) → width_behind before (scope_behind before tables items) ≡ before + total tables items
width_is tables before [] = omega arith
width_is tables before (item ∷ items) = width_is tables (before + length (columns_of tables item.table)) items ∙ omega arith

columns_more : (before count more : ℕ) (row : List Cell) → values (columns_behind before (count + more)) row ≡ values (columns_behind before count) row ++ values (columns_behind (before + count) more) row
columns_more before zero more row =
    let all : zero + more ≡ more = omega arith in
    let start : before ≡ before + zero = omega arith in
    ap (λ n. values (columns_behind before n) row) all ∙ ap (λ n. values (columns_behind n more) row) start
columns_more before (suc count) more row =
    let all : suc count + more ≡ suc (count + more) = omega arith in
    let start : suc before + count ≡ before + suc count = omega arith in
    ap (λ n. values (columns_behind before n) row) all
    ∙ ap (λ cells. get_or row before cell.Null ∷ cells)
    (columns_more (suc before) count more row ∙ ap (λ n. values (columns_behind (suc before) count) row ++ values (columns_behind n more) row) start)

star_has : (tables : List Table) (before : ℕ) (items : List Item) (row : List Cell) → FitsScope (scope_behind before tables items) row
    → HaveTypes (scope_types (scope_behind before tables items)) (values (columns_behind before (total tables items)) row)
star_has tables before [] row f = tt
star_has tables before (item ∷ items) row f =
    subst (HaveTypes (scope_types (scope_behind before tables (item ∷ items)))) (sym (columns_more before (length (columns_of tables item.table)) (total tables items) row))
    (types_append _ _ _ _ (columns_have before (columns_of tables item.table) row f.0) (star_has tables (before + length (columns_of tables item.table)) items row f.1))

terms_have : (scope : Scope) (row : List Cell) → FitsScope scope row → (terms : List Term) → list_all term_is_valid terms ≡ true → HaveTypes (map (type_of scope) terms) (values (map (expr_of scope) terms) row)
terms_have scope row f [] v = tt
terms_have scope row f (x ∷ terms) v =
    let b = and_parts (term_is_valid x) (list_all term_is_valid terms) v in
    (λ a e. value_fits scope row f x a b.0 e, terms_have scope row f terms b.1)

pub items_have : (tables : List Table) (from : List Item) (row : List Cell) → FitsScope (scope_of tables from) row → (items : Items) → items_are_valid items ≡ true
    → HaveTypes (items_types (scope_of tables from) items) (values (exprs_of (scope_of tables from) items) row)
items_have tables from row f y.star v =
    subst (λ n. HaveTypes (scope_types (scope_of tables from)) (values (columns_behind 0 n) row)) (sym (width_is tables 0 from ∙ omega arith)) (star_has tables 0 from row f)
items_have tables from row f (y.list terms) v = terms_have (scope_of tables from) row f terms (and_parts _ (list_all term_is_valid terms) v).1

-- ---- tables by name

-- a table that is there, by its number
pub record IsTarget (tables : List Table) (name : Bytes) (table : Table) : Type 0 where
  pub there : slice_get tables (number_of_table tables name) ≡ Some table
  pub cols : columns_of tables name ≡ table.cols

pub named : (tables : List Table) (name : Bytes) (table : Table) → table_fault tables name ≡ None → slice_get tables (number_of_table tables name) ≡ Some table → IsTarget tables name table
named tables name table none there = record { there = there; cols = by (place_of name tables) refl (holds_if _ _ none) }
  where
    by : (o : Option ℕ) → place_of name tables ≡ o → is_some (place_of name tables) ≡ true → columns_of tables name ≡ table.cols
    by None at some = absurd (true≢false (sym (sym (ap is_some at) ∙ some)))
    by (Some i) at some =
        ap (λ o. option_map_or (λ (t : Table). t.cols) (option_and_then (slice_get tables) o) []) at
        ∙ ap (λ o. option_map_or (λ (t : Table). t.cols) o []) (sym (ap (λ o. slice_get tables (unwrap_or o 0)) at) ∙ there)
