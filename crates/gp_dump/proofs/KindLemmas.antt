-- The value of a well typed term, on a row whose cells are of the kinds of their columns: NULL, or a cell of the type of the term.
use Rattle.gp_dump.proofs.Prelude.{◌≡◌, ℕ, suc, Bool, true, false, true≢false, ◌&&◌, List, [], ◌∷◌, get_or, Option, Some, None, if◌then◌else◌, refl, sym, subst, ◌∙◌, AllByRecursion, cons_option, Cell, Column, Kind, Bytes, Term, value, Place, TermType, Scope, place_behind, only_place, resolution, kind_type, agrees, column_type, type_of, expr_of, term_is_valid, same_Some, and_parts}
use Rattle.std.proofs.Common.{ℤ, bytes_eq, filter_map}
use Rattle.std.specs.Prelude.{◌+ℤ◌, ◌-ℤ◌, ◌*ℤ◌, neg_ℤ}
use Rattle.gp_base.specs.declared.cell.Cell.TheVariants as cell
use Rattle.gp_base.specs.declared.table.Kind.TheVariants as kind
use Rattle.gp_base.specs.Cells.{fits_number}
use Rattle.gp_grammar.specs.declared.op.Op.TheVariants as op
use Rattle.gp_grammar.specs.Syntax as y
use Rattle.gp_expr.specs.Values.{column, number, on_numbers, negated, is_null, holds, truth}
use Rattle.gp_check.specs.declared.place.Resolution.{Resolution}
use Rattle.gp_check.specs.declared.place.Resolution.TheVariants.{Absent, Found, Ambiguous}
use Rattle.gp_check.specs.declared.types.TermType.TheVariants.{Null, Int, Text, Condition}
use Rattle.gp_check.specs.Scopes.{Source, ColumnName, may_be_of, place_in}
use Rattle.gp_check.specs.Typing.{common_type, typed_if, is_condition, choice_type}
use Rattle.gp_check.specs.Meaning.{column_expr, cond_of}
use Rattle.gp_dump.specs.Dumps.{is_of_kind}

-- ---- cells of a type

-- NULL has every type; a condition is no value
abbrev pub fits_type : TermType → Cell → Bool
fits_type Null x = is_null x
fits_type Int x = is_of_kind kind.Int x
fits_type Text x = is_of_kind kind.Text x
fits_type Condition x = true

null_fits : (a : TermType) (x : Cell) → is_null x ≡ true → fits_type a x ≡ true
null_fits Null x e = e
null_fits Int cell.Null e = refl
null_fits Int (cell.Int n) e = absurd (true≢false (sym e))
null_fits Int (cell.Text t) e = absurd (true≢false (sym e))
null_fits Int (cell.Id i) e = absurd (true≢false (sym e))
null_fits Int (cell.Mark m) e = absurd (true≢false (sym e))
null_fits Int (cell.Mono m) e = absurd (true≢false (sym e))
null_fits Text cell.Null e = refl
null_fits Text (cell.Int n) e = absurd (true≢false (sym e))
null_fits Text (cell.Text t) e = absurd (true≢false (sym e))
null_fits Text (cell.Id i) e = absurd (true≢false (sym e))
null_fits Text (cell.Mark m) e = absurd (true≢false (sym e))
null_fits Text (cell.Mono m) e = absurd (true≢false (sym e))
null_fits Condition x e = refl

pub kind_fits : (k : Kind) (x : Cell) → fits_type (kind_type k) x ≡ is_of_kind k x
kind_fits kind.Int x = refl
kind_fits kind.Text x = refl

number_fits : (z : ℤ) → is_of_kind kind.Int (number z) ≡ true
number_fits z = elim (fits_number z) as (λ b. fits_number z ≡ b → is_of_kind kind.Int (if b then cell.Int z else cell.Null) ≡ true) [ true ↦ λ e. e | false ↦ λ e. refl ] refl

on_numbers_fits : (f : ℤ → ℤ → ℤ) (x z : Cell) → is_of_kind kind.Int (on_numbers f x z) ≡ true
on_numbers_fits f (cell.Int m) (cell.Int n) = number_fits (f m n)
on_numbers_fits f _ _ = refl

negated_fits : (x : Cell) → is_of_kind kind.Int (negated x) ≡ true
negated_fits (cell.Int m) = number_fits (neg_ℤ m)
negated_fits _ = refl

-- ---- what two types have in common

first_common : (a b : TermType) (x : Cell) → agrees a b ≡ true → fits_type a x ≡ true → fits_type (common_type a b) x ≡ true
first_common Null b x e f = null_fits b x f
first_common Int b x e f = f
first_common Text b x e f = f
first_common Condition b x e f = f

second_common : (a b : TermType) (x : Cell) → agrees a b ≡ true → fits_type b x ≡ true → fits_type (common_type a b) x ≡ true
second_common Null b x e f = f
second_common Int Null x e f = null_fits Int x f
second_common Int Int x e f = f
second_common Int Text x e f = absurd (true≢false (sym e))
second_common Int Condition x e f = absurd (true≢false (sym e))
second_common Text Null x e f = null_fits Text x f
second_common Text Int x e f = absurd (true≢false (sym e))
second_common Text Text x e f = f
second_common Text Condition x e f = absurd (true≢false (sym e))
second_common Condition b x e f = refl

-- a cell of a type that agrees with that of a column
pub agreeing_fits : (k : Kind) (b : TermType) (x : Cell) → agrees (kind_type k) b ≡ true → fits_type b x ≡ true → is_of_kind k x ≡ true
agreeing_fits k b x e f = sym (kind_fits k x) ∙ go k b e f
  where
    go : (k : Kind) (b : TermType) → agrees (kind_type k) b ≡ true → fits_type b x ≡ true → fits_type (kind_type k) x ≡ true
    go kind.Int Null e f = null_fits Int x f
    go kind.Int Int e f = f
    go kind.Int Text e f = absurd (true≢false (sym e))
    go kind.Int Condition e f = absurd (true≢false (sym e))
    go kind.Text Null e f = null_fits Text x f
    go kind.Text Int e f = absurd (true≢false (sym e))
    go kind.Text Text e f = f
    go kind.Text Condition e f = absurd (true≢false (sym e))

-- ---- rows of a scope

-- the cells of a row, behind this many others, are of the kinds of these columns
abbrev pub FitsAt : ℕ → List Column → List Cell → Type 0
FitsAt before [] row = Unit {0}
FitsAt before (col ∷ cols) row = (is_of_kind col.kind (get_or row before cell.Null) ≡ true) × FitsAt (suc before) cols row

-- the cells of a row are of the kinds of the columns of a scope
abbrev pub FitsScope : Scope → List Cell → Type 0
FitsScope [] row = Unit {0}
FitsScope (source ∷ sources) row = FitsAt source.before source.columns row × FitsScope sources row

-- the cell of a column
abbrev pub FitsPlace : List Cell → Place → Type 0
FitsPlace row place = is_of_kind place.kind (column place.number row) ≡ true

some_place : (place other : Place) → Some place ≡ Some other → place ≡ other
some_place place other e = cc

no_place : (place : Place) → None ≡ Some place → ⊥
no_place place e = cc

pub placed_fits : (before : ℕ) (name : Bytes) (cols : List Column) (row : List Cell) (place : Place) → place_behind before name cols ≡ Some place → FitsAt before cols row → FitsPlace row place
placed_fits before name [] row place e f = absurd (no_place place e)
placed_fits before name (col ∷ cols) row place e f = go (bytes_eq name col.name) e (λ rest. placed_fits (suc before) name cols row place rest f.1)
  where
    go : (b : Bool) → (if b then Some (record { number = suc before; kind = col.kind }) else place_behind (suc before) name cols) ≡ Some place
        → (place_behind (suc before) name cols ≡ Some place → FitsPlace row place) → FitsPlace row place
    go true e rest = subst (FitsPlace row) (some_place (record { number = suc before; kind = col.kind }) place e) f.0
    go false e rest = rest e

source_fits : (name : ColumnName) (source : Source) (row : List Cell) (place : Place) → FitsAt source.before source.columns row → place_in name source ≡ Some place → FitsPlace row place
source_fits name source row place f e = go (may_be_of name.item source) e
  where
    go : (b : Bool) → (if b then place_behind source.before name.col source.columns else None) ≡ Some place → FitsPlace row place
    go true e = placed_fits source.before name.col source.columns row place e f
    go false e = absurd (no_place place e)

places_fit : (name : ColumnName) (scope : Scope) (row : List Cell) → FitsScope scope row → AllByRecursion (FitsPlace row) (filter_map (place_in name) scope)
places_fit name [] row f = tt
places_fit name (source ∷ sources) row f = go (place_in name source) refl (places_fit name sources row f.1)
  where
    go : (o : Option Place) → place_in name source ≡ o → AllByRecursion (FitsPlace row) (filter_map (place_in name) sources) → AllByRecursion (FitsPlace row) (filter_map (place_in name) (source ∷ sources))
    go None e rest = subst (λ o. AllByRecursion (FitsPlace row) (cons_option o (filter_map (place_in name) sources))) (sym e) rest
    go (Some place) e rest = subst (λ o. AllByRecursion (FitsPlace row) (cons_option o (filter_map (place_in name) sources))) (sym e) (source_fits name source row place f.0 e, rest)

only_fits : (row : List Cell) (places : List Place) (place : Place) → AllByRecursion (FitsPlace row) places → only_place places ≡ Found place → FitsPlace row place
only_fits row [] place all e = cc
only_fits row (one ∷ []) place all e = subst (FitsPlace row) (same e) all.0
  where
    same : Found one ≡ Found place → one ≡ place
    same e = cc
only_fits row (one ∷ other ∷ others) place all e = cc

pub found_fits : (scope : Scope) (name : ColumnName) (row : List Cell) (place : Place) → FitsScope scope row → resolution scope name ≡ Found place → FitsPlace row place
found_fits scope name row place f e = only_fits row (filter_map (place_in name) scope) place (places_fit name scope row f) e

-- ---- terms

no_type : (a : TermType) → None ≡ Some a → ⊥
no_type a e = cc

typed : (b : Bool) (type a : TermType) → typed_if b type ≡ Some a → type ≡ a
typed true type a e = same_Some type a e
typed false type a e = absurd (no_type a e)

agreed : (b : Bool) (type a : TermType) → typed_if b type ≡ Some a → b ≡ true
agreed true type a e = refl
agreed false type a e = absurd (no_type a e)

fits_as : (type a : TermType) (x : Cell) → type ≡ a → fits_type type x ≡ true → fits_type a x ≡ true
fits_as type a x e f = subst (λ a. fits_type a x ≡ true) e f

module _ (scope : Scope) (row : List Cell) (fits : FitsScope scope row) where
  column_fits : (name : ColumnName) (r : Resolution) (a : TermType) → resolution scope name ≡ r → column_type r ≡ Some a → fits_type a (value (column_expr r) row) ≡ true
  column_fits name Absent a is e = absurd (no_type a e)
  column_fits name Ambiguous a is e = absurd (no_type a e)
  column_fits name (Found place) a is e = fits_as (kind_type place.kind) a _ (same_Some _ a e) (kind_fits place.kind (column place.number row) ∙ found_fits scope name row place fits is)

  choice_fits : (b : Bool) (o p : Option TermType) (a : TermType) (test : Bool) (x z : Cell) → ((a : TermType) → o ≡ Some a → fits_type a x ≡ true) → ((a : TermType) → p ≡ Some a → fits_type a z ≡ true)
      → (if b then choice_type o p else None) ≡ Some a → fits_type a (if test then x else z) ≡ true
  choice_fits false o p a test x z f g e = absurd (no_type a e)
  choice_fits true None p a test x z f g e = absurd (no_type a e)
  choice_fits true (Some c) None a test x z f g e = absurd (no_type a e)
  choice_fits true (Some c) (Some d) a true x z f g e = fits_as (common_type c d) a x (typed (agrees c d) _ a e) (first_common c d x (agreed (agrees c d) _ a e) (f c refl))
  choice_fits true (Some c) (Some d) a false x z f g e = fits_as (common_type c d) a z (typed (agrees c d) _ a e) (second_common c d z (agreed (agrees c d) _ a e) (g d refl))

  pub value_fits : (x : Term) (a : TermType) → term_is_valid x ≡ true → type_of scope x ≡ Some a → fits_type a (value (expr_of scope x) row) ≡ true
  value_fits y.null a v e = fits_as Null a _ (same_Some Null a e) refl
  value_fits (y.int n) a v e = fits_as Int a _ (same_Some Int a e) v
  value_fits (y.text bytes) a v e = fits_as Text a _ (same_Some Text a e) v
  value_fits (y.col item name) a v e = column_fits (record { item = item; col = name }) (resolution scope (record { item = item; col = name })) a refl e
  value_fits (y.binary op.Add x z) a v e = fits_as Int a _ (typed _ Int a e) (on_numbers_fits ◌+ℤ◌ (value (expr_of scope x) row) (value (expr_of scope z) row))
  value_fits (y.binary op.Sub x z) a v e = fits_as Int a _ (typed _ Int a e) (on_numbers_fits ◌-ℤ◌ (value (expr_of scope x) row) (value (expr_of scope z) row))
  value_fits (y.binary op.Mul x z) a v e = fits_as Int a _ (typed _ Int a e) (on_numbers_fits ◌*ℤ◌ (value (expr_of scope x) row) (value (expr_of scope z) row))
  value_fits (y.binary op.Eq x z) a v e = fits_as Condition a _ (typed _ Condition a e) refl
  value_fits (y.binary op.Ne x z) a v e = fits_as Condition a _ (typed _ Condition a e) refl
  value_fits (y.binary op.Lt x z) a v e = fits_as Condition a _ (typed _ Condition a e) refl
  value_fits (y.binary op.Le x z) a v e = fits_as Condition a _ (typed _ Condition a e) refl
  value_fits (y.binary op.Gt x z) a v e = fits_as Condition a _ (typed _ Condition a e) refl
  value_fits (y.binary op.Ge x z) a v e = fits_as Condition a _ (typed _ Condition a e) refl
  value_fits (y.binary op.And x z) a v e = fits_as Condition a _ (typed _ Condition a e) refl
  value_fits (y.binary op.Or x z) a v e = fits_as Condition a _ (typed _ Condition a e) refl
  value_fits (y.neg x) a v e = fits_as Int a _ (typed _ Int a e) (negated_fits (value (expr_of scope x) row))
  value_fits (y.not x) a v e = fits_as Condition a _ (typed _ Condition a e) refl
  value_fits (y.is_null x wanted) a v e = fits_as Condition a _ (typed _ Condition a e) refl
  value_fits (y.is_true x wanted) a v e = fits_as Condition a _ (typed _ Condition a e) refl
  value_fits (y.case x z u) a v e =
      let w = and_parts (term_is_valid z) (term_is_valid u) (and_parts (term_is_valid x) (term_is_valid z && term_is_valid u) v).1 in
      choice_fits (is_condition (type_of scope x)) (type_of scope z) (type_of scope u) a (holds (truth (cond_of scope x) row)) (value (expr_of scope z) row) (value (expr_of scope u) row)
      (λ a is. value_fits z a w.0 is) (λ a is. value_fits u a w.1 is) e
