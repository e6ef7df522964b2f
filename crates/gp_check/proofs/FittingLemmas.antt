-- What the check gives fits the catalogue: each fact of the statement comes from a phase that found no fault, or from the command itself.
use Rattle.std.proofs.Common.{◌≡◌, ◌<◌, ◌≤◌, ◌+◌, ◌^◌, ℕ, zero, suc, Bool, true, false, true≢false, ◌&&◌, ◌==◌, nat_lt, List, [], ◌∷◌, length, map, filter_map, bytes_eq, get_or, inl, inr, Option, Some, None, is_some, option_and_then, unwrap_or, slice_get, if◌then◌else◌, Result, Ok, Err, IfOk, zero-add, add-zero, refl, sym, ap, subst, ◌∙◌, arith}
use Rattle.std.specs.List.{list_all, cons_option}
use Rattle.std.specs.Option.{option_map, option_map_or, option_or}
use Rattle.std.specs.Result.{result_unwrap_or}
use Rattle.std.proofs.lemmas.Bool.{lt-ltb, ltb-true, and_from, and_parts, le-leb}
use Rattle.std.proofs.lemmas.Option.{slice_get_cases}
use Rattle.std.proofs.lemmas.List.Sums.{AllPass-from_list_all}
use Rattle.std.proofs.lemmas.List.{length-map}
use Rattle.std.proofs.lemmas.List.Quantifiers.{position-Some}
use Rattle.gp_base.specs.declared.cell.Cell.{Cell}
use Rattle.gp_base.specs.declared.refusal.Refusal.{Refusal}
use Rattle.gp_base.specs.declared.refusal.Refusal.TheVariants.{E15}
use Rattle.gp_base.specs.declared.table.Column.{Column}
use Rattle.gp_base.specs.declared.table.Table.{Table}
use Rattle.gp_base.specs.Catalogs.{place_of, table_names}
use Rattle.gp_base.specs.UserCells.{is_user_cell}
use Rattle.gp_grammar.specs.declared.op.Op.TheVariants as op
use Rattle.gp_grammar.specs.Syntax as y
use Rattle.gp_grammar.specs.Syntax.{Bytes, Term, SetTerm, Item, Items, Block, Query, Command, is_statement}
use Rattle.gp_expr.specs.ExpressionForms.{is_simple, cond_is_simple, all_leaves, cond_all_leaves}
use Rattle.gp_algebra.specs.Fitting.{is_there, joined_width, is_column, expr_fits, cond_fits, optional_cond_fits, row_fits, branch_fits, set_fits, branches_fit, is_countable, select_fits, statement_fits}
use Rattle.gp_algebra.specs.Statements.{columns_behind, width_of}
use Rattle.gp_check.specs.declared.place.Place.{Place}
use Rattle.gp_check.specs.declared.place.Resolution.{Resolution}
use Rattle.gp_check.specs.declared.place.Resolution.TheVariants.{Absent, Found, Ambiguous}
use Rattle.gp_check.specs.Scopes.{Source, Scope, ColumnName, columns_of, scope_behind, scope_of, target_scope, place_behind, may_be_of, place_in, only_place, resolution}
use Rattle.gp_check.specs.Faults.{unless, first_fault, table_fault, items_fault, block_columns_fault, column_fault, resolution_fault, set_name, set_fault, widths_agree, first_refusal, width_behind, scope_width, items_width, block_width, have_width, have_one_width, block_tables_fault, query_tables_fault}
use Rattle.gp_check.specs.Meaning.{column_expr, expr_of, cond_of, where_of, exprs_of, number_of_table, branch_of, select_of, column_number, set_expr_of, meant_statement}
use Rattle.gp_check.specs.Valid.{is_valid, tables_are_valid, set_is_valid, term_is_valid, condition_is_valid, items_are_valid, block_is_valid, query_is_valid, table_is_valid}
use Rattle.gp_check.specs.Checking.{refused_by, checked, checked_query}
use Rattle.gp_check.specs.Views.{Checks}
use Rattle.gp_base.specs.declared.stop.Stop.{Stop}
use Rattle.gp_algebra.specs.declared.statement.Select.{Select}
use Rattle.gp_algebra.specs.declared.statement.Stmt.{Stmt}
use Rattle.gp_algebra.specs.Views.{select_view, statement_view}
use Rattle.gp_base.proofs.SmallLemmas.{eq_itself}

-- ---- tests and phases

pub none_of : (a b : Option Refusal) → option_or a b ≡ None → (a ≡ None) × (b ≡ None)
none_of None b none = (refl, none)
none_of (Some refusal) b none = cc

pub holds_if : (holds : Bool) (refusal : Refusal) → unless holds refusal ≡ None → holds ≡ true
holds_if true refusal none = refl
holds_if false refusal none = cc

pub all_of_two : {A : Type 0} (one other test : A → Bool) → ((x : A) → one x ≡ true → other x ≡ true → test x ≡ true)
    → (xs : List A) → list_all one xs ≡ true → list_all other xs ≡ true → list_all test xs ≡ true
all_of_two one other test holds [] a b = refl
all_of_two one other test holds (x ∷ xs) a b =
    let m = and_parts (one x) (list_all one xs) a in let n = and_parts (other x) (list_all other xs) b in
    and_from _ _ (holds x m.0 n.0) (all_of_two one other test holds xs m.1 n.1)

-- ---- tables

pub known : (tables : List Table) (name : Bytes) → table_fault tables name ≡ None → is_there tables (number_of_table tables name) ≡ true
known tables name none = by (place_of name tables) refl (holds_if _ _ none)
  where
    by : (o : Option ℕ) → place_of name tables ≡ o → is_some (place_of name tables) ≡ true → is_there tables (number_of_table tables name) ≡ true
    by None at some = absurd (true≢false (sym (sym (ap is_some at) ∙ some)))
    by (Some i) at some =
        let l = position-Some (bytes_eq name) (table_names tables) i [] at in
        let less : i < length tables = subst (λ n. i < n) (length-map tables _) l.0 in
        ap (λ o. is_there tables (unwrap_or o 0)) at ∙ lt-ltb i (length tables) less

pub width_known : (tables : List Table) (name : Bytes) → table_fault tables name ≡ None → width_of tables (number_of_table tables name) ≡ length (columns_of tables name)
width_known tables name none = by (place_of name tables) refl (holds_if _ _ none)
  where
    of_table : (o : Option Table) → option_map_or (λ (t : Table). length t.cols) o 0 ≡ length (option_map_or (λ (t : Table). t.cols) o [])
    of_table None = refl
    of_table (Some t) = refl

    by : (o : Option ℕ) → place_of name tables ≡ o → is_some (place_of name tables) ≡ true → width_of tables (number_of_table tables name) ≡ length (columns_of tables name)
    by None at some = absurd (true≢false (sym (sym (ap is_some at) ∙ some)))
    by (Some i) at some =
        ap (λ o. width_of tables (unwrap_or o 0)) at ∙ of_table (slice_get tables i)
        ∙ sym (ap (λ o. length (option_map_or (λ (t : Table). t.cols) (option_and_then (slice_get tables) o) [])) at)

-- the columns of a FROM whose tables are known are those of its tables side by side
pub joined : (tables : List Table) (before : ℕ) (items : List Item) → first_fault (λ (item : Item). table_fault tables item.table) items ≡ None
    → width_behind before (scope_behind before tables items) ≡ before + joined_width tables (map (λ (item : Item). number_of_table tables item.table) items)
joined tables before [] none = omega arith
joined tables before (item ∷ items) none =
    let n = none_of (table_fault tables item.table) _ none in
    let w = width_known tables item.table n.0 in
    let rest = joined tables (before + length (columns_of tables item.table)) items n.1 in
    rest ∙ omega (arith, w)

-- ---- columns

abbrev Within : ℕ → Scope → Type 0
Within width [] = Unit {0}
Within width (source ∷ sources) = (source.before + length source.columns ≤ width) × Within width sources

grows : (tables : List Table) (before : ℕ) (items : List Item) → before ≤ width_behind before (scope_behind before tables items)
grows tables before [] = omega arith
grows tables before (item ∷ items) = let g = grows tables (before + length (columns_of tables item.table)) items in omega (arith, g)

pub within : (tables : List Table) (before : ℕ) (items : List Item) → Within (width_behind before (scope_behind before tables items)) (scope_behind before tables items)
within tables before [] = tt
within tables before (item ∷ items) =
    (grows tables (before + length (columns_of tables item.table)) items, within tables (before + length (columns_of tables item.table)) items)

-- the number of a column of this width
abbrev Numbered : ℕ → Place → Type 0
Numbered width place = (1 ≤ place.number) × (place.number ≤ width)

abbrev number_or : ℕ → Option Place → ℕ
number_or default None = default
number_or default (Some place) = place.number

placed : (before : ℕ) (col : Bytes) (columns : List Column) (place : Place) → place_behind before col columns ≡ Some place
    → (suc before ≤ place.number) × (place.number ≤ before + length columns)
placed before col [] place is = cc
placed before col (column ∷ columns) place is = by (bytes_eq col column.name) refl (placed (suc before) col columns place)
  where
    by : (b : Bool) → bytes_eq col column.name ≡ b
        → (place_behind (suc before) col columns ≡ Some place → (suc (suc before) ≤ place.number) × (place.number ≤ suc before + length columns))
        → (suc before ≤ place.number) × (place.number ≤ before + length (column ∷ columns))
    by true at rest =
        let number : suc before ≡ place.number = ap (number_or 0) (sym (ap (λ b. if b then Some (record { number = suc before; kind = column.kind }) else place_behind (suc before) col columns) at) ∙ is) in
        (omega (arith, number), omega (arith, number))
    by false at rest =
        let h = rest (sym (ap (λ b. if b then Some (record { number = suc before; kind = column.kind }) else place_behind (suc before) col columns) at) ∙ is) in
        (omega (arith, h.0), omega (arith, h.1))

in_source : (width : ℕ) (name : ColumnName) (source : Source) (place : Place) → source.before + length source.columns ≤ width
    → place_in name source ≡ Some place → Numbered width place
in_source width name source place fits is = by (may_be_of name.item source) refl
  where
    by : (b : Bool) → may_be_of name.item source ≡ b → Numbered width place
    by true at =
        let h = placed source.before name.col source.columns place (sym (ap (λ b. if b then place_behind source.before name.col source.columns else None) at) ∙ is) in
        (omega (arith, h.0), omega (arith, h.1, fits))
    by false at = let no : None ≡ Some place = sym (ap (λ b. if b then place_behind source.before name.col source.columns else None) at) ∙ is in cc

abbrev AllNumbered : ℕ → List Place → Type 0
AllNumbered width [] = Unit {0}
AllNumbered width (place ∷ places) = Numbered width place × AllNumbered width places

all_numbered : (width : ℕ) (name : ColumnName) (scope : Scope) → Within width scope → AllNumbered width (filter_map (place_in name) scope)
all_numbered width name [] fits = tt
all_numbered width name (source ∷ sources) fits = by (place_in name source) refl (all_numbered width name sources fits.1)
  where
    by : (o : Option Place) → place_in name source ≡ o → AllNumbered width (filter_map (place_in name) sources) → AllNumbered width (filter_map (place_in name) (source ∷ sources))
    by None at rest = subst (λ o. AllNumbered width (cons_option o (filter_map (place_in name) sources))) (sym at) rest
    by (Some place) at rest =
        subst (λ o. AllNumbered width (cons_option o (filter_map (place_in name) sources))) (sym at) (in_source width name source place fits.0 at, rest)

abbrev found_or : Place → Resolution → Place
found_or other (Found place) = place
found_or other Absent = other
found_or other Ambiguous = other

only_numbered : (width : ℕ) (places : List Place) (place : Place) → AllNumbered width places → only_place places ≡ Found place → Numbered width place
only_numbered width [] place all is = cc
only_numbered width (one ∷ []) place all is = subst (Numbered width) (ap (found_or one) is) all.0
only_numbered width (one ∷ other ∷ others) place all is = cc

pub numbered : (width : ℕ) (scope : Scope) (name : ColumnName) (place : Place) → Within width scope → resolution scope name ≡ Found place → Numbered width place
numbered width scope name place fits is = only_numbered width _ place (all_numbered width name scope fits) is

pub is_column-numbered : (width : ℕ) (n : ℕ) → 1 ≤ n → n ≤ width → is_column width n ≡ true
is_column-numbered width n one most = and_from _ _ (le-leb 1 n one) (le-leb n width most)

-- ---- expressions

column_simple : (r : Resolution) → is_simple (column_expr r) ≡ true
column_simple (Found place) = refl
column_simple Absent = refl
column_simple Ambiguous = refl

mutual
  pub simple : (scope : Scope) (x : Term) → is_simple (expr_of scope x) ≡ true
  simple scope (y.col item name) = column_simple (resolution scope (record { item = item; col = name }))
  simple scope (y.binary op.Add x z) = and_from _ _ (simple scope x) (simple scope z)
  simple scope (y.binary op.Sub x z) = and_from _ _ (simple scope x) (simple scope z)
  simple scope (y.binary op.Mul x z) = and_from _ _ (simple scope x) (simple scope z)
  simple scope (y.neg x) = simple scope x
  simple scope (y.case x z u) = and_from _ _ (cond_simple scope x) (and_from _ _ (simple scope z) (simple scope u))
  simple scope _ = refl

  pub cond_simple : (scope : Scope) (x : Term) → cond_is_simple (cond_of scope x) ≡ true
  cond_simple scope (y.binary op.Eq x z) = and_from _ _ (simple scope x) (simple scope z)
  cond_simple scope (y.binary op.Ne x z) = and_from _ _ (simple scope x) (simple scope z)
  cond_simple scope (y.binary op.Lt x z) = and_from _ _ (simple scope x) (simple scope z)
  cond_simple scope (y.binary op.Le x z) = and_from _ _ (simple scope x) (simple scope z)
  cond_simple scope (y.binary op.Gt x z) = and_from _ _ (simple scope x) (simple scope z)
  cond_simple scope (y.binary op.Ge x z) = and_from _ _ (simple scope x) (simple scope z)
  cond_simple scope (y.binary op.And x z) = and_from _ _ (cond_simple scope x) (cond_simple scope z)
  cond_simple scope (y.binary op.Or x z) = and_from _ _ (cond_simple scope x) (cond_simple scope z)
  cond_simple scope (y.not x) = cond_simple scope x
  cond_simple scope (y.is_null x holds) = simple scope x
  cond_simple scope (y.is_true x holds) = cond_simple scope x
  cond_simple scope _ = refl

module _ (width : ℕ) (scope : Scope) (fits : Within width scope) where
  column_leaf : (name : ColumnName) (r : Resolution) → resolution scope name ≡ r → all_leaves (is_column width) is_user_cell (column_expr r) ≡ true
  column_leaf name (Found place) is = let n = numbered width scope name place fits is in is_column-numbered width place.number n.0 n.1
  column_leaf name Absent is = refl
  column_leaf name Ambiguous is = refl

  mutual
    leaves : (x : Term) → term_is_valid x ≡ true → all_leaves (is_column width) is_user_cell (expr_of scope x) ≡ true
    leaves (y.int n) valid = valid
    leaves (y.text bytes) valid = valid
    leaves (y.col item name) valid = column_leaf (record { item = item; col = name }) (resolution scope (record { item = item; col = name })) refl
    leaves (y.binary op.Add x z) valid = let v = and_parts _ _ valid in and_from _ _ (leaves x v.0) (leaves z v.1)
    leaves (y.binary op.Sub x z) valid = let v = and_parts _ _ valid in and_from _ _ (leaves x v.0) (leaves z v.1)
    leaves (y.binary op.Mul x z) valid = let v = and_parts _ _ valid in and_from _ _ (leaves x v.0) (leaves z v.1)
    leaves (y.neg x) valid = leaves x valid
    leaves (y.case x z u) valid =
        let v = and_parts _ _ valid in let w = and_parts _ _ v.1 in and_from _ _ (cond_leaves x v.0) (and_from _ _ (leaves z w.0) (leaves u w.1))
    leaves _ valid = refl

    cond_leaves : (x : Term) → term_is_valid x ≡ true → cond_all_leaves (is_column width) is_user_cell (cond_of scope x) ≡ true
    cond_leaves (y.binary op.Eq x z) valid = let v = and_parts _ _ valid in and_from _ _ (leaves x v.0) (leaves z v.1)
    cond_leaves (y.binary op.Ne x z) valid = let v = and_parts _ _ valid in and_from _ _ (leaves x v.0) (leaves z v.1)
    cond_leaves (y.binary op.Lt x z) valid = let v = and_parts _ _ valid in and_from _ _ (leaves x v.0) (leaves z v.1)
    cond_leaves (y.binary op.Le x z) valid = let v = and_parts _ _ valid in and_from _ _ (leaves x v.0) (leaves z v.1)
    cond_leaves (y.binary op.Gt x z) valid = let v = and_parts _ _ valid in and_from _ _ (leaves x v.0) (leaves z v.1)
    cond_leaves (y.binary op.Ge x z) valid = let v = and_parts _ _ valid in and_from _ _ (leaves x v.0) (leaves z v.1)
    cond_leaves (y.binary op.And x z) valid = let v = and_parts _ _ valid in and_from _ _ (cond_leaves x v.0) (cond_leaves z v.1)
    cond_leaves (y.binary op.Or x z) valid = let v = and_parts _ _ valid in and_from _ _ (cond_leaves x v.0) (cond_leaves z v.1)
    cond_leaves (y.not x) valid = cond_leaves x valid
    cond_leaves (y.is_null x holds) valid = leaves x valid
    cond_leaves (y.is_true x holds) valid = cond_leaves x valid
    cond_leaves _ valid = refl

  pub expr_fit : (x : Term) → term_is_valid x ≡ true → expr_fits width (expr_of scope x) ≡ true
  expr_fit x valid = and_from _ _ (simple scope x) (leaves x valid)

  pub cond_fit : (x : Term) → term_is_valid x ≡ true → cond_fits width (cond_of scope x) ≡ true
  cond_fit x valid = and_from _ _ (cond_simple scope x) (cond_leaves x valid)

  pub where_fit : (cond : Option Term) → condition_is_valid cond ≡ true → cond_fits width (where_of scope cond) ≡ true
  where_fit None valid = refl
  where_fit (Some x) valid = cond_fit x valid

  pub exprs_fit : (xs : List Term) → list_all term_is_valid xs ≡ true → list_all (expr_fits width) (map (expr_of scope) xs) ≡ true
  exprs_fit [] valid = refl
  exprs_fit (x ∷ xs) valid = let v = and_parts (term_is_valid x) _ valid in and_from _ _ (expr_fit x v.0) (exprs_fit xs v.1)

-- ---- select lists

pub length-columns : (before count : ℕ) → length (columns_behind before count) ≡ count
length-columns before zero = refl
length-columns before (suc count) = ap suc (length-columns (suc before) count)

pub columns_fit : (width before count : ℕ) → before + count ≤ width → list_all (expr_fits width) (columns_behind before count) ≡ true
columns_fit width before zero fits = refl
columns_fit width before (suc count) fits =
    and_from _ _ (is_column-numbered width (suc before) (omega arith) (omega (arith, fits))) (columns_fit width (suc before) count (omega (arith, fits)))

pub items_length : (scope : Scope) (items : Items) → length (exprs_of scope items) ≡ items_width scope items
items_length scope y.star = length-columns 0 (scope_width scope)
items_length scope (y.list xs) = length-map xs _

pub items_fit : (width : ℕ) (scope : Scope) → Within width scope → scope_width scope ≡ width → (items : Items) → items_are_valid items ≡ true
    → list_all (expr_fits width) (exprs_of scope items) ≡ true
items_fit width scope fits is y.star valid = columns_fit width 0 (scope_width scope) (omega (arith, is))
items_fit width scope fits is (y.list xs) valid = exprs_fit width scope fits xs (and_parts (nat_lt 0 (length xs)) _ valid).1

-- the FROM of a block: its width, and that its columns are within it
pub record FromFits (tables : List Table) (from : List Item) : Type 0 where
  pub width : scope_width (scope_of tables from) ≡ joined_width tables (map (λ (item : Item). number_of_table tables item.table) from)
  pub inside : Within (joined_width tables (map (λ (item : Item). number_of_table tables item.table) from)) (scope_of tables from)

pub from_fits : (tables : List Table) (from : List Item) → first_fault (λ (item : Item). table_fault tables item.table) from ≡ None → FromFits tables from
from_fits tables from none =
    let is : scope_width (scope_of tables from) ≡ joined_width tables (map (λ (item : Item). number_of_table tables item.table) from) = joined tables 0 from none ∙ zero-add _ in
    record { width = is; inside = subst (λ w. Within w (scope_of tables from)) is (within tables 0 from) }

-- ---- tables with columns

pub has_columns : (tables : List Table) (name : Bytes) → list_all table_is_valid tables ≡ true → table_fault tables name ≡ None → 0 < length (columns_of tables name)
has_columns tables name valid none = by (place_of name tables) refl (holds_if _ _ none)
  where
    by : (o : Option ℕ) → place_of name tables ≡ o → is_some (place_of name tables) ≡ true → 0 < length (columns_of tables name)
    by None at some = absurd (true≢false (sym (sym (ap is_some at) ∙ some)))
    by (Some i) at some =
        let l = position-Some (bytes_eq name) (table_names tables) i [] at in
        let less : i < length tables = subst (λ n. i < n) (length-map tables _) l.0 in
        let is : columns_of tables name ≡ option_map_or (λ (t : Table). t.cols) (slice_get tables i) [] =
        ap (λ o. option_map_or (λ (t : Table). t.cols) (option_and_then (slice_get tables) o) []) at in
        let positive : (t : Table) → slice_get tables i ≡ Some t → get_or tables i t ≡ t → 0 < length (columns_of tables name) =
        λ t there own.
        let test : table_is_valid t ≡ true = subst (λ u. table_is_valid u ≡ true) own (AllPass-from_list_all table_is_valid tables valid i t less) in
        subst (λ cols. 0 < length cols) (sym (is ∙ ap (λ o. option_map_or (λ (t : Table). t.cols) o []) there)) (ltb-true 0 (length t.cols) test) in
        elim (slice_get_cases tables i).1 [ inl h ↦ positive h.0 h.2 h.3 | inr h ↦ absurd (omega (arith, less, h.0)) ]

pub positive_width : (tables : List Table) (from : List Item) → list_all table_is_valid tables ≡ true → nat_lt 0 (length from) ≡ true
    → first_fault (λ (item : Item). table_fault tables item.table) from ≡ None
    → 0 < joined_width tables (map (λ (item : Item). number_of_table tables item.table) from)
positive_width tables [] valid some none = absurd (true≢false (sym some))
positive_width tables (item ∷ items) valid some none =
    let n = none_of (table_fault tables item.table) _ none in
    let c = has_columns tables item.table valid n.0 in let w = width_known tables item.table n.0 in omega (arith, c, w)

pub items_some : (scope : Scope) (items : Items) → items_are_valid items ≡ true → 0 < scope_width scope → nat_lt 0 (length (exprs_of scope items)) ≡ true
items_some scope y.star valid some = lt-ltb 0 _ (subst (λ n. 0 < n) (sym (length-columns 0 (scope_width scope))) some)
items_some scope (y.list xs) valid some = subst (λ n. nat_lt 0 n ≡ true) (sym (length-map xs _)) (and_parts (nat_lt 0 (length xs)) _ valid).0

-- ---- blocks

pub branch_width : (tables : List Table) (block : Block) → length (branch_of tables block).items ≡ block_width tables block
unfolding branch_of block_width
branch_width tables block = items_length (scope_of tables block.from) block.items

tables_there : (tables : List Table) (from : List Item) → first_fault (λ (item : Item). table_fault tables item.table) from ≡ None
    → list_all (is_there tables) (map (λ (item : Item). number_of_table tables item.table) from) ≡ true
tables_there tables [] none = refl
tables_there tables (item ∷ items) none =
    let n = none_of (table_fault tables item.table) _ none in and_from _ _ (known tables item.table n.0) (tables_there tables items n.1)

optional_fit : (width : ℕ) (scope : Scope) → Within width scope → (cond : Option Term) → condition_is_valid cond ≡ true
    → optional_cond_fits width (option_map (cond_of scope) cond) ≡ true
optional_fit width scope fits None valid = refl
optional_fit width scope fits (Some x) valid = cond_fit width scope fits x valid

pub branch_fit : (tables : List Table) (width : ℕ) (block : Block) → list_all table_is_valid tables ≡ true → block_is_valid block ≡ true
    → block_tables_fault tables block ≡ None → (block_width tables block == width) ≡ true → branch_fits tables width (branch_of tables block) ≡ true
unfolding branch_of block_width
branch_fit tables width block columns valid none same =
    let v = and_parts (nat_lt 0 (length block.from)) _ valid in
    let w = and_parts (items_are_valid block.items) _ v.1 in
    let scope : Scope = scope_of tables block.from in
    let f = from_fits tables block.from none in
    let some : 0 < scope_width scope = subst (λ n. 0 < n) (sym f.width) (positive_width tables block.from columns v.0 none) in
    and_from _ _ (subst (λ n. nat_lt 0 n ≡ true) (sym (length-map block.from _)) v.0)
    (and_from _ _ (tables_there tables block.from none)
    (and_from _ _ (items_some scope block.items w.0 some)
    (and_from _ _ (subst (λ n. (n == width) ≡ true) (sym (items_length scope block.items)) same)
    (and_from _ _ (items_fit _ scope f.inside f.width block.items w.0) (optional_fit _ scope f.inside block.cond w.1)))))

pub blocks_fit : (tables : List Table) (width : ℕ) (query : Query) → list_all table_is_valid tables ≡ true → list_all block_is_valid query ≡ true
    → query_tables_fault tables query ≡ None → have_width tables query width ≡ true → list_all (branch_fits tables width) (select_of tables query) ≡ true
blocks_fit tables width [] columns valid none same = refl
blocks_fit tables width (block ∷ query) columns valid none same =
    let v = and_parts (block_is_valid block) _ valid in let n = none_of (block_tables_fault tables block) _ none in let s = and_parts (block_width tables block == width) _ same in
    and_from _ _ (branch_fit tables width block columns v.0 n.0 s.0) (blocks_fit tables width query columns v.1 n.1 s.1)

countable : (tables : List Table) (query : Query) → is_countable query ≡ true → is_countable (select_of tables query) ≡ true
countable tables query some = subst (λ n. nat_lt 0 n && nat_lt n (2 ^ 32) ≡ true) (sym (length-map query _)) some

pub query_fit : (tables : List Table) (width : ℕ) (query : Query) → list_all table_is_valid tables ≡ true → query_is_valid query ≡ true
    → query_tables_fault tables query ≡ None → have_width tables query width ≡ true → branches_fit tables width (select_of tables query) ≡ true
query_fit tables width query columns valid none same =
    let v = and_parts (is_countable query) _ valid in and_from _ _ (countable tables query v.0) (blocks_fit tables width query columns v.1 none same)

pub select_fit : (tables : List Table) (query : Query) → list_all table_is_valid tables ≡ true → query_is_valid query ≡ true
    → query_tables_fault tables query ≡ None → have_one_width tables query ≡ true → select_fits tables (select_of tables query) ≡ true
select_fit tables [] columns valid none same = absurd (true≢false (sym valid))
select_fit tables (block ∷ query) columns valid none same =
    query_fit tables _ (block ∷ query) columns valid none
    (subst (λ n. have_width tables (block ∷ query) n ≡ true) (sym (branch_width tables block)) (and_from _ _ (eq_itself (block_width tables block)) same))

-- ---- statements

set_column : (scope : Scope) (width : ℕ) → Within width scope → (name : ColumnName) → column_fault scope name ≡ None
    → is_column width (column_number (resolution scope name)) ≡ true
set_column scope width fits name none = by (resolution scope name) refl none
  where
    by : (r : Resolution) → resolution scope name ≡ r → resolution_fault name r ≡ None → is_column width (column_number (resolution scope name)) ≡ true
    by Absent is fault = cc
    by Ambiguous is fault = cc
    by (Found place) is fault =
        let n = numbered width scope name place fits is in
        ap (λ r. is_column width (column_number r)) is ∙ is_column-numbered width place.number n.0 n.1

sets_fit : (scope : Scope) (width : ℕ) → Within width scope → (sets : List SetTerm) → list_all set_is_valid sets ≡ true
    → first_fault (set_fault scope) sets ≡ None → list_all (set_fits width) (map (set_expr_of scope) sets) ≡ true
sets_fit scope width fits [] valid none = refl
sets_fit scope width fits (set ∷ sets) valid none =
    let v = and_parts (set_is_valid set) _ valid in let n = none_of (set_fault scope set) _ none in
    let m = none_of (column_fault scope (set_name set)) _ n.0 in
    and_from _ _ (and_from _ _ (set_column scope width fits (set_name set) m.0) (expr_fit width scope fits set.term v.0)) (sets_fit scope width fits sets v.1 n.1)

-- the one table of an UPDATE or a DELETE
target_inside : (tables : List Table) (table : Bytes) → table_fault tables table ≡ None → Within (width_of tables (number_of_table tables table)) (target_scope tables table)
target_inside tables table none =
    let f = from_fits tables (record { table = table; name = table } ∷ []) (ap (λ fault. option_or fault None) none) in
    subst (λ n. Within n (target_scope tables table)) (add-zero _) f.inside

rows_fit : (width : ℕ) (rows : List (List Cell)) → list_all (list_all is_user_cell) rows ≡ true → list_all (λ (row : List Cell). length row == width) rows ≡ true
    → list_all (row_fits width) rows ≡ true
rows_fit width rows valid same = all_of_two _ _ _ (λ row cells width. and_from _ _ width cells) rows valid same

pub fits : (tables : List Table) (command : Command) → list_all table_is_valid tables ≡ true → is_statement command ≡ true → is_valid command ≡ true
    → first_refusal tables command ≡ None → statement_fits tables (meant_statement tables command) ≡ true
fits tables (y.create table) columns statement valid none = absurd (true≢false (sym statement))
fits tables (y.begin read_committed) columns statement valid none = absurd (true≢false (sym statement))
fits tables y.Command.commit columns statement valid none = absurd (true≢false (sym statement))
fits tables y.rollback columns statement valid none = absurd (true≢false (sym statement))
fits tables (y.insert table rows) columns statement valid none =
    let n = none_of (table_fault tables table) _ none in let m = none_of (unless (widths_agree tables (y.insert table rows)) E15) _ n.1 in
    let v = and_parts (is_countable rows) _ valid in
    and_from _ _ (known tables table n.0) (and_from _ _ v.0 (rows_fit _ rows v.1
    (subst (λ w. list_all (λ (row : List Cell). length row == w) rows ≡ true) (sym (width_known tables table n.0)) (holds_if _ _ m.0))))
fits tables (y.insert_select table query) columns statement valid none =
    let n = none_of (option_or (table_fault tables table) (query_tables_fault tables query)) _ none in let t = none_of (table_fault tables table) _ n.0 in
    let names = none_of (first_fault items_fault query) _ n.1 in let cols = none_of (first_fault (block_columns_fault tables) query) _ names.1 in
    let w = none_of (unless (widths_agree tables (y.insert_select table query)) E15) _ cols.1 in
    and_from _ _ (known tables table t.0)
    (query_fit tables _ query columns valid t.1 (subst (λ w. have_width tables query w ≡ true) (sym (width_known tables table t.0)) (holds_if _ _ w.0)))
fits tables (y.update table sets cond) columns statement valid none =
    let n = none_of (table_fault tables table) _ none in let c = none_of (option_or (first_fault (set_fault (target_scope tables table)) sets) _) _ n.1 in
    let s = none_of (first_fault (set_fault (target_scope tables table)) sets) _ c.0 in
    let v = and_parts (list_all set_is_valid sets) _ valid in let inside = target_inside tables table n.0 in
    and_from _ _ (known tables table n.0)
    (and_from _ _ (sets_fit (target_scope tables table) _ inside sets v.0 s.0) (where_fit _ (target_scope tables table) inside cond v.1))
fits tables (y.delete table cond) columns statement valid none =
    let n = none_of (table_fault tables table) _ none in
    and_from _ _ (known tables table n.0) (where_fit _ (target_scope tables table) (target_inside tables table n.0) cond valid)
fits tables (y.select query) columns statement valid none =
    let n = none_of (query_tables_fault tables query) _ none in
    let names = none_of (first_fault items_fault query) _ n.1 in let cols = none_of (first_fault (block_columns_fault tables) query) _ names.1 in
    let w = none_of (unless (widths_agree tables (y.select query)) E15) _ cols.1 in
    select_fit tables query columns valid n.0 (holds_if _ _ w.0)

-- ---- what the check returns: no phase found a fault, and it is the meaning

pub accepted : {A : Type 0} (fault : Option Refusal) (meaning value : A) → refused_by fault meaning ≡ Ok value → (fault ≡ None) × (meaning ≡ value)
accepted None meaning value is = (refl, ap (λ r. result_unwrap_or r meaning) is)
accepted (Some refusal) meaning value is = cc

pub statement_fits_if_checked : (tables : List Table) (command : Command) → is_statement command ≡ true → (result : Result Stmt Stop)
    → Checks statement_view result (checked tables command)
    → IfOk result (λ stmt. tables_are_valid tables ≡ true → is_valid command ≡ true → statement_fits tables (statement_view stmt) ≡ true)
statement_fits_if_checked tables command statement (Ok stmt) is = λ columns valid.
    let a = accepted (first_refusal tables command) (meant_statement tables command) (statement_view stmt) is in
    subst (λ s. statement_fits tables s ≡ true) a.1 (fits tables command columns statement valid a.0)
statement_fits_if_checked tables command statement (Err stop) is = tt

pub select_fits_if_checked : (tables : List Table) (query : Query) (result : Result Select Stop)
    → Checks select_view result (checked_query tables query)
    → IfOk result (λ select. tables_are_valid tables ≡ true → query_is_valid query ≡ true → select_fits tables (select_view select) ≡ true)
select_fits_if_checked tables query (Ok select) is = λ columns valid.
    let a = accepted (first_refusal tables (y.select query)) (select_of tables query) (select_view select) is in
    subst (λ s. select_fits tables s ≡ true) a.1 (fits tables (y.select query) columns refl valid a.0)
select_fits_if_checked tables query (Err stop) is = tt
