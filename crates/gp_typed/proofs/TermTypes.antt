-- A well-typed term has the type as an expression that it has as a term, over the columns of its FROM.
use Rattle.gp_typed.proofs.Prelude.{◌≡◌, ℕ, suc, ◌+◌, Bool, true, false, List, [], ◌∷◌, ◌++◌, length, map, Some, None, refl, sym, ap, subst, ◌∙◌, append_assoc, length-append, arith, Option, is_some, AllByRecursion, option_map_or, and_from, false≢true, none-some, same_Some, Column, Kind, Table, length-map, none_parts, Bytes, Item, Term, Place, Found, TermType, first_fault, table_fault, cond_of, expr_of, number_of_table, Scope, columns_of, resolution, scope_of, agrees, common_type, is_value, holds_if, CellType, Null, Int, Text, case_type, column_types, common, cond_is_typed, expr_type, kind_type, type_at, is_into, joined_types, table_types}
use Rattle.std.proofs.Common.{filter_map, bytes_eq, option_and_then, unwrap_or, slice_get, if◌then◌else◌}
use Rattle.std.specs.List.{cons_option}
use Rattle.gp_base.specs.declared.table.Kind.TheVariants as kind
use Rattle.gp_base.specs.Catalogs.{place_of}
use Rattle.gp_grammar.specs.declared.op.Op.{Op}
use Rattle.gp_grammar.specs.declared.op.Op.TheVariants as op
use Rattle.gp_grammar.specs.Syntax as y
use Rattle.gp_check.specs.declared.types.TermType.TheVariants as t
use Rattle.gp_check.specs.Meaning.{column_expr}
use Rattle.gp_check.specs.Scopes.{ColumnName, Source, may_be_of, only_place, place_behind, place_in, scope_behind}
use Rattle.gp_check.specs.Typing as check
use Rattle.gp_check.specs.Typing.{arithmetic, comparison, connective, is_number, operation}
use Rattle.gp_check.specs.TypingRules as r
use Rattle.gp_check.specs.TypingRules.{HasType}
use Rattle.gp_sql.specs.Types.{are_comparable, arithmetic_type, is_numeric, negation_type}
use Rattle.gp_typed.proofs.TypeLists.{type_behind}

-- the type of a value as that of an expression; a condition is none
abbrev pub as_cell : TermType → CellType
as_cell t.Null = Null
as_cell t.Int = Int
as_cell t.Text = Text
as_cell t.Condition = Null

pub kind_as_cell : (k : Kind) → as_cell (check.kind_type k) ≡ kind_type k
kind_as_cell kind.Int = refl
kind_as_cell kind.Text = refl

-- ---- types that agree

condition_agrees : (b : TermType) → agrees t.Condition b ≡ true → ⊥
condition_agrees t.Null so = false≢true so
condition_agrees t.Int so = false≢true so
condition_agrees t.Text so = false≢true so
condition_agrees t.Condition so = false≢true so

pub agrees_values : (a b : TermType) → agrees a b ≡ true → (is_value a ≡ true) × (is_value b ≡ true)
agrees_values t.Null t.Null so = (refl, refl)
agrees_values t.Null t.Int so = (refl, refl)
agrees_values t.Null t.Text so = (refl, refl)
agrees_values t.Int t.Null so = (refl, refl)
agrees_values t.Int t.Int so = (refl, refl)
agrees_values t.Text t.Null so = (refl, refl)
agrees_values t.Text t.Text so = (refl, refl)
agrees_values t.Condition b so = absurd (condition_agrees b so)
agrees_values a b so = absurd (false≢true so)

pub agrees_common : (a b : TermType) → agrees a b ≡ true → common (as_cell a) (as_cell b) ≡ Some (as_cell (common_type a b))
agrees_common t.Null t.Null so = refl
agrees_common t.Null t.Int so = refl
agrees_common t.Null t.Text so = refl
agrees_common t.Int t.Null so = refl
agrees_common t.Int t.Int so = refl
agrees_common t.Text t.Null so = refl
agrees_common t.Text t.Text so = refl
agrees_common t.Condition b so = absurd (condition_agrees b so)
agrees_common a b so = absurd (false≢true so)

agrees_comparable : (a b : TermType) → agrees a b ≡ true → are_comparable (Some (as_cell a)) (Some (as_cell b)) ≡ true
agrees_comparable t.Null t.Null so = refl
agrees_comparable t.Null t.Int so = refl
agrees_comparable t.Null t.Text so = refl
agrees_comparable t.Int t.Null so = refl
agrees_comparable t.Int t.Int so = refl
agrees_comparable t.Text t.Null so = refl
agrees_comparable t.Text t.Text so = refl
agrees_comparable t.Condition b so = absurd (condition_agrees b so)
agrees_comparable a b so = absurd (false≢true so)

agrees_numeric : (a : TermType) → is_number a ≡ true → is_numeric (as_cell a) ≡ true
agrees_numeric t.Null so = refl
agrees_numeric t.Int so = refl
agrees_numeric a so = absurd cc

-- a value that agrees with a column can stand in it
pub agrees_into : (k : Kind) (a : TermType) → agrees (check.kind_type k) a ≡ true → is_into (kind_type k) (as_cell a) ≡ true
agrees_into kind.Int t.Null so = refl
agrees_into kind.Int t.Int so = refl
agrees_into kind.Text t.Null so = refl
agrees_into kind.Text t.Text so = refl
agrees_into k a so = absurd cc

-- ---- columns

abbrev pub kinds_types : List Column → List CellType
kinds_types cols = map (λ (column : Column). kind_type column.kind) cols

-- the types of the columns of a FROM
abbrev pub scope_cells : Scope → List CellType
scope_cells [] = []
scope_cells (source ∷ sources) = kinds_types source.columns ++ scope_cells sources

-- the place has the type of its column
abbrev HasKind : List CellType → Place → Type 0
HasKind types place = type_at place.number types ≡ Some (kind_type place.kind)

placed : (types before others : List CellType) (n : ℕ) (col : Bytes) (columns : List Column) (place : Place) → types ≡ before ++ (kinds_types columns ++ others) → n ≡ length before
    → place_behind n col columns ≡ Some place → HasKind types place
placed types before others n col [] place are at is = absurd (none-some place is)
placed types before others n col (column ∷ columns) place are at is =
    go (bytes_eq col column.name) is
    (placed types (before ++ kind_type column.kind ∷ []) others (suc n) col columns place (are ∙ sym (append_assoc before (kind_type column.kind ∷ []) (kinds_types columns ++ others))) (omega (arith, more, at)))
  where
    more : length (before ++ kind_type column.kind ∷ []) ≡ length before + length (kind_type column.kind ∷ [])
    more = length-append before (kind_type column.kind ∷ [])

    here : slice_get types n ≡ Some (kind_type column.kind)
    here = (λ i. slice_get (are i) (at i)) ∙ type_behind before (kind_type column.kind) (kinds_types columns ++ others)

    go : (b : Bool) → (if b then Some (record { number = suc n; kind = column.kind }) else place_behind (suc n) col columns) ≡ Some place
        → (place_behind (suc n) col columns ≡ Some place → HasKind types place) → HasKind types place
    go true is rest = subst (HasKind types) (same_Some (record { number = suc n; kind = column.kind }) place is) here
    go false is rest = rest is

in_source : (types before others : List CellType) (n : ℕ) (name : ColumnName) (source : Source) (place : Place) → types ≡ before ++ (kinds_types source.columns ++ others) → n ≡ length before
    → source.before ≡ n → place_in name source ≡ Some place → HasKind types place
in_source types before others n name source place are at from is = go (may_be_of name.item source) is
  where
    go : (b : Bool) → (if b then place_behind source.before name.col source.columns else None) ≡ Some place → HasKind types place
    go true is = placed types before others source.before name.col source.columns place are (from ∙ at) is
    go false is = absurd (none-some place is)

all_placed : (tables : List Table) (types before : List CellType) (n : ℕ) (name : ColumnName) (items : List Item)
    → types ≡ before ++ scope_cells (scope_behind n tables items) → n ≡ length before → AllByRecursion (HasKind types) (filter_map (place_in name) (scope_behind n tables items))
all_placed tables types before n name [] are at = tt
all_placed tables types before n name (item ∷ items) are at =
    go (place_in name source) refl
    (all_placed tables types (before ++ kinds_types cols) (n + length cols) name items
    (are ∙ sym (append_assoc before (kinds_types cols) (scope_cells (scope_behind (n + length cols) tables items)))) (omega (arith, more, width, at)))
  where
    cols : List Column
    cols = columns_of tables item.table

    source : Source
    source = record { name = item.name; before = n; columns = cols }

    more : length (before ++ kinds_types cols) ≡ length before + length (kinds_types cols)
    more = length-append before (kinds_types cols)

    width : length (kinds_types cols) ≡ length cols
    width = length-map (λ (column : Column). kind_type column.kind) cols

    go : (o : Option Place) → place_in name source ≡ o → AllByRecursion (HasKind types) (filter_map (place_in name) (scope_behind (n + length cols) tables items))
        → AllByRecursion (HasKind types) (filter_map (place_in name) (scope_behind n tables (item ∷ items)))
    go None is rest = subst (λ o. AllByRecursion (HasKind types) (cons_option o (filter_map (place_in name) (scope_behind (n + length cols) tables items)))) (sym is) rest
    go (Some place) is rest =
        subst (λ o. AllByRecursion (HasKind types) (cons_option o (filter_map (place_in name) (scope_behind (n + length cols) tables items)))) (sym is)
        (in_source types before (scope_cells (scope_behind (n + length cols) tables items)) n name source place are at refl is, rest)

only_placed : (types : List CellType) (places : List Place) (place : Place) → AllByRecursion (HasKind types) places → only_place places ≡ Found place → HasKind types place
only_placed types [] place all is = absurd cc
only_placed types (one ∷ []) place all is = let same : one ≡ place = cc in subst (HasKind types) same all.0
only_placed types (one ∷ other ∷ others) place all is = absurd cc

-- the types of what a FROM's names stand for
abbrev pub ResolvesIn : Scope → List CellType → Type 0
ResolvesIn scope types = (name : ColumnName) (place : Place) → resolution scope name ≡ Found place → type_at place.number types ≡ Some (kind_type place.kind)

pub scope_resolves : (tables : List Table) (items : List Item) → ResolvesIn (scope_of tables items) (scope_cells (scope_of tables items))
scope_resolves tables items name place is =
    only_placed (scope_cells (scope_of tables items)) (filter_map (place_in name) (scope_of tables items)) place
    (all_placed tables (scope_cells (scope_of tables items)) [] 0 name items refl refl) is

abbrev pub numbers_of : List Table → List Item → List ℕ
numbers_of tables items = map (λ (item : Item). number_of_table tables item.table) items

pub table_cells : (tables : List Table) (name : Bytes) → table_fault tables name ≡ None → kinds_types (columns_of tables name) ≡ table_types tables (number_of_table tables name)
table_cells tables name none = go (place_of name tables) (holds_if _ _ none)
  where
    at : (found : Option Table) → kinds_types (option_map_or (λ (table : Table). table.cols) found []) ≡ option_map_or column_types found []
    at None = refl
    at (Some table) = refl

    go : (o : Option ℕ) → is_some o ≡ true → kinds_types (option_map_or (λ (table : Table). table.cols) (option_and_then (slice_get tables) o) []) ≡ option_map_or column_types (slice_get tables (unwrap_or o 0)) []
    go None some = absurd (false≢true some)
    go (Some place) some = at (slice_get tables place)

scope_types_behind : (tables : List Table) (n : ℕ) (items : List Item) → first_fault (λ (item : Item). table_fault tables item.table) items ≡ None
    → scope_cells (scope_behind n tables items) ≡ joined_types tables (numbers_of tables items)
scope_types_behind tables n [] none = refl
scope_types_behind tables n (item ∷ items) none =
    let parts = none_parts (table_fault tables item.table) (first_fault (λ (item : Item). table_fault tables item.table) items) none in
    λ i. table_cells tables item.table parts.0 i ++ scope_types_behind tables (n + length (columns_of tables item.table)) items parts.1 i

pub scope_joined : (tables : List Table) (items : List Item) → first_fault (λ (item : Item). table_fault tables item.table) items ≡ None
    → scope_cells (scope_of tables items) ≡ joined_types tables (numbers_of tables items)
scope_joined tables items none = scope_types_behind tables 0 items none

pub from_resolves : (tables : List Table) (items : List Item) → first_fault (λ (item : Item). table_fault tables item.table) items ≡ None
    → ResolvesIn (scope_of tables items) (joined_types tables (numbers_of tables items))
from_resolves tables items none = subst (ResolvesIn (scope_of tables items)) (scope_joined tables items none) (scope_resolves tables items)

-- ---- terms

module _ (scope : Scope) (types : List CellType) (resolves : ResolvesIn scope types) where
  abbrev typing : Term → Option CellType
  typing x = expr_type types (expr_of scope x)

  abbrev holds_of : Term → Bool
  holds_of x = cond_is_typed types (cond_of scope x)

  -- a term of this type has it as an expression, or as a condition
  abbrev pub Means : TermType → Term → Type 0
  Means t.Condition x = holds_of x ≡ true
  Means t.Null x = typing x ≡ Some Null
  Means t.Int x = typing x ≡ Some Int
  Means t.Text x = typing x ≡ Some Text

  pub value_means : (a : TermType) (x : Term) → is_value a ≡ true → Means a x → typing x ≡ Some (as_cell a)
  value_means t.Null x so is = is
  value_means t.Int x so is = is
  value_means t.Text x so is = is
  value_means t.Condition x so is = absurd (false≢true so)

  column_means : (item : Option Bytes) (name : Bytes) (place : Place) → resolution scope (record { item = item; col = name }) ≡ Found place → Means (check.kind_type place.kind) (y.col item name)
  column_means item name place found =
      go place.kind (ap (λ r. expr_type types (column_expr r)) found ∙ resolves (record { item = item; col = name }) place found)
    where
      go : (k : Kind) → typing (y.col item name) ≡ Some (kind_type k) → Means (check.kind_type k) (y.col item name)
      go kind.Int is = is
      go kind.Text is = is

  numeric : (a b : TermType) (u v : Term) → is_number a ≡ true → is_number b ≡ true → Means a u → Means b v → arithmetic_type (typing u) (typing v) ≡ Some Int
  numeric a b u v nu nv mu mv =
      let left = value_means a u (agrees_values t.Int a nu).1 mu in
      let right = value_means b v (agrees_values t.Int b nv).1 mv in
      (λ i. arithmetic_type (left i) (right i)) ∙ ap (λ c. if c then Some Int else None) (and_from _ _ (agrees_numeric a nu) (agrees_numeric b nv))

  number_means : (o : Op) (u v : Term) → operation o ≡ arithmetic → arithmetic_type (typing u) (typing v) ≡ Some Int → Means t.Int (y.binary o u v)
  number_means op.Add u v is so = so
  number_means op.Sub u v is so = so
  number_means op.Mul u v is so = so
  number_means o u v is so = absurd cc

  compared : (a b : TermType) (u v : Term) → agrees a b ≡ true → Means a u → Means b v → are_comparable (typing u) (typing v) ≡ true
  compared a b u v same mu mv =
      let values = agrees_values a b same in
      let left = value_means a u values.0 mu in
      let right = value_means b v values.1 mv in
      (λ i. are_comparable (left i) (right i)) ∙ agrees_comparable a b same

  compared_means : (o : Op) (u v : Term) → operation o ≡ comparison → are_comparable (typing u) (typing v) ≡ true → Means t.Condition (y.binary o u v)
  compared_means op.Eq u v is so = so
  compared_means op.Ne u v is so = so
  compared_means op.Lt u v is so = so
  compared_means op.Le u v is so = so
  compared_means op.Gt u v is so = so
  compared_means op.Ge u v is so = so
  compared_means o u v is so = absurd cc

  connected_means : (o : Op) (u v : Term) → operation o ≡ connective → holds_of u ≡ true → holds_of v ≡ true → Means t.Condition (y.binary o u v)
  connected_means op.And u v is hu hv = and_from _ _ hu hv
  connected_means op.Or u v is hu hv = and_from _ _ hu hv
  connected_means o u v is hu hv = absurd cc

  choice_means : (a b : TermType) (u v w : Term) → agrees a b ≡ true → holds_of u ≡ true → typing v ≡ Some (as_cell a) → typing w ≡ Some (as_cell b) → Means (common_type a b) (y.case u v w)
  choice_means t.Null t.Null u v w same hu hv hw = λ i. case_type (hu i) (hv i) (hw i)
  choice_means t.Null t.Int u v w same hu hv hw = λ i. case_type (hu i) (hv i) (hw i)
  choice_means t.Null t.Text u v w same hu hv hw = λ i. case_type (hu i) (hv i) (hw i)
  choice_means t.Int t.Null u v w same hu hv hw = λ i. case_type (hu i) (hv i) (hw i)
  choice_means t.Int t.Int u v w same hu hv hw = λ i. case_type (hu i) (hv i) (hw i)
  choice_means t.Text t.Null u v w same hu hv hw = λ i. case_type (hu i) (hv i) (hw i)
  choice_means t.Text t.Text u v w same hu hv hw = λ i. case_type (hu i) (hv i) (hw i)
  choice_means t.Condition b u v w same hu hv hw = absurd (condition_agrees b same)
  choice_means a b u v w same hu hv hw = absurd (false≢true same)

  pub means : (x : Term) (a : TermType) → HasType scope x a → Means a x
  means x a r.null = refl
  means x a (r.int n) = refl
  means x a (r.text bytes) = refl
  means x a (r.column item name place found) = column_means item name place found
  means x a (r.number o u v b d is hu hv nu nv) = number_means o u v is (numeric b d u v nu nv (means u b hu) (means v d hv))
  means x a (r.compared o u v b d is hu hv same) = compared_means o u v is (compared b d u v same (means u b hu) (means v d hv))
  means x a (r.connected o u v is hu hv) = connected_means o u v is (means u t.Condition hu) (means v t.Condition hv)
  means x a (r.signed u b hu nu) =
      ap negation_type (value_means b u (agrees_values t.Int b nu).1 (means u b hu)) ∙ ap (λ c. if c then Some Int else None) (agrees_numeric b nu)
  means x a (r.negated u hu) = means u t.Condition hu
  means x a (r.null_test u holds b hu vu) = ap (λ (o : Option CellType). is_some o) (value_means b u vu (means u b hu))
  means x a (r.true_test u holds hu) = means u t.Condition hu
  means x a (r.choice u v w b d hu hv hw same) =
      let values = agrees_values b d same in
      choice_means b d u v w same (means u t.Condition hu) (value_means b v values.0 (means v b hv)) (value_means d w values.1 (means w d hw))
