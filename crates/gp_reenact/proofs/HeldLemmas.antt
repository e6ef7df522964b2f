-- Rows as tables hold them: no cell is an identity, and no identity has too many nodes. Versions have such rows, and so has what a transaction reads, as long as
-- none of its statements stops.
use Rattle.std.proofs.Common.{◌≡◌, ℕ, zero, suc, ◌≤◌, ◌==◌, nat_lt, not, ℤ, ◌+ℤ◌, ◌-ℤ◌, ◌*ℤ◌, neg_ℤ, Bool, true, false, true≢false, ◌&&◌, List, [], ◌∷◌, ◌++◌, get_or, length, map, Option, Some, None, if◌then◌else◌, refl, sym, ◌∙◌}
use Rattle.std.specs.Prelude.{unwrap_or}
use Rattle.std.specs.List.{AllByRecursion, list_all, list_any}
use Rattle.std.proofs.lemmas.Bool.{eqb-true, and_from, and_parts, ltb-false, or_parts}
use Rattle.std.proofs.lemmas.List.Folds.{list_all-append}
use Rattle.gp_base.specs.declared.cell.Cell.{Cell}
use Rattle.gp_base.specs.declared.cell.Cell.TheVariants as cell
use Rattle.gp_base.specs.declared.row_id.TheConstants.{MAX_NODES}
use Rattle.gp_base.specs.declared.table.Table.{Table}
use Rattle.gp_base.specs.declared.token.Token.TheVariants.{Updated}
use Rattle.gp_base.specs.Annotated.{Annotated, Annotations, Database, Environment}
use Rattle.gp_base.specs.Cells.{fits_number}
use Rattle.gp_base.specs.UserCells.{is_user_cell}
use Rattle.gp_base.specs.Identities.{nodes}
use Rattle.gp_expr.specs.Expressions as e
use Rattle.gp_expr.specs.Expressions.{Cond, Expr}
use Rattle.gp_expr.specs.ExpressionForms.{all_leaves, is_simple}
use Rattle.gp_expr.specs.Values.{column, holds, negated, number, on_numbers, passes, truth, value}
use Rattle.gp_algebra.specs.Answers.{Element, answer, answer_from, choices, chosen, joined, passes_where, values}
use Rattle.gp_algebra.specs.Effects.{assigned, assigned_from, changed, given_from, made, set_for, with_rows}
use Rattle.gp_algebra.specs.Fitting.{branch_fits, expr_fits, is_countable, is_there, joined_width, row_fits, set_fits, statement_fits}
use Rattle.gp_algebra.specs.Statements.{width_of}
use Rattle.gp_algebra.specs.Statements.{Branch, Select, SetExpr, Statement, delete, insert, insert_select, read, update}
use Rattle.gp_versions.specs.declared.span.Span.{Span}
use Rattle.gp_versions.specs.Spans.{holds_at, row_of, rows_at, spans_at}
use Rattle.gp_machine.specs.Entries.{Began, Committed, Created, Ended, Entry, Ran, statement_at, statement_count}
use Rattle.gp_machine.specs.Parameters.{Parameters}
use Rattle.gp_machine.specs.Points.{OverNodes, OverRows, statement_stop}
use Rattle.gp_machine.specs.Publishing.{publish, was_written}
use Rattle.gp_machine.specs.Runs.{refreshed, stepped}
use Rattle.gp_machine.proofs.Distinct.{each_filter}
use Rattle.gp_log.specs.LogFitting.{SpanFits, SpansFit, statements_fit}
use Rattle.gp_rewrite.specs.Meaning.{AreAsWide}
use Rattle.gp_base.proofs.SmallLemmas.{each_append, each_flat_map, each_map}

-- a row as tables hold it: no cell is an identity, and its own has at most this many nodes
pub record IsHeld (most : ℕ) {M : Type 0} (row : Annotated M) : Type 0 where
  pub cells : list_all is_user_cell row.cells ≡ true
  pub small : nodes row.identity ≤ most

-- so is each row of each table
abbrev pub AreHeld : (most : ℕ) → {M : Type 0} → Database M → Type 0
AreHeld most db = (table : ℕ) → AllByRecursion (IsHeld most) (db table)

-- ---- tests

-- ---- the rows of a version, by row versions that fit their tables

module _ {M : Type 0} (domain : Annotations M) (catalogue : List Table) (spans : ℕ → List Span) (fit : SpansFit catalogue spans) (version : ℕ) where
  abbrev rows_of : Database M
  rows_of table = rows_at domain version (spans table)

  each_row : (P : Annotated M → Type 0) (table : ℕ) → ((span : Span) → SpanFits (width_of catalogue table) span → P (row_of domain span))
      → AllByRecursion P (rows_of table)
  each_row P table holds =
      each_map P (SpanFits (width_of catalogue table)) (row_of domain) holds (spans_at version (spans table))
      (each_filter (SpanFits (width_of catalogue table)) (SpanFits (width_of catalogue table)) (holds_at version) (λ span at is. is) (spans table) (fit table))

  pub held_rows : AreHeld MAX_NODES rows_of
  held_rows table = each_row (IsHeld MAX_NODES) table (λ span is. record { cells = (and_parts _ _ is.cells).1; small = is.small })

  pub wide_rows : AreAsWide (width_of catalogue) rows_of
  wide_rows table =
      each_row (λ row. length row.cells ≡ width_of catalogue table) table
      (λ span is. eqb-true (length span.row) (width_of catalogue table) (and_parts _ _ is.cells).0)

-- ---- values of simple expressions on cells that a user can write

user_number : (z : ℤ) → is_user_cell (number z) ≡ true
user_number z = elim (fits_number z) as (λ b. fits_number z ≡ b → is_user_cell (if b then cell.Int z else cell.Null) ≡ true) [ true ↦ λ is. is | false ↦ λ is. refl ] refl

user_on_numbers : (f : ℤ → ℤ → ℤ) (x z : Cell) → is_user_cell (on_numbers f x z) ≡ true
user_on_numbers f (cell.Int m) (cell.Int n) = user_number (f m n)
user_on_numbers f _ _ = refl

user_negated : (x : Cell) → is_user_cell (negated x) ≡ true
user_negated (cell.Int m) = user_number (neg_ℤ m)
user_negated _ = refl

user_at : (row : List Cell) (n : ℕ) → list_all is_user_cell row ≡ true → is_user_cell (get_or row n cell.Null) ≡ true
user_at [] n all = refl
user_at (x ∷ row) zero all = (and_parts (is_user_cell x) _ all).0
user_at (x ∷ row) (suc n) all = user_at row n (and_parts (is_user_cell x) _ all).1

user_column : (n : ℕ) (row : List Cell) → list_all is_user_cell row ≡ true → is_user_cell (column n row) ≡ true
user_column zero row all = refl
user_column (suc n) row all = user_at row n all

module _ (columns : ℕ → Bool) (row : List Cell) (all : list_all is_user_cell row ≡ true) where
  user_value : (expr : Expr) → is_simple expr ≡ true → all_leaves columns is_user_cell expr ≡ true → is_user_cell (value expr row) ≡ true
  user_value (e.col n) simple leaves = user_column n row all
  user_value (e.constant x) simple leaves = leaves
  user_value (e.add a b) simple leaves = user_on_numbers ◌+ℤ◌ (value a row) (value b row)
  user_value (e.sub a b) simple leaves = user_on_numbers ◌-ℤ◌ (value a row) (value b row)
  user_value (e.mul a b) simple leaves = user_on_numbers ◌*ℤ◌ (value a row) (value b row)
  user_value (e.neg a) simple leaves = user_negated (value a row)
  user_value (e.case c a b) simple leaves =
      let s = and_parts _ _ (and_parts _ _ simple).1 in
      let l = and_parts _ _ (and_parts _ _ leaves).1 in
      elim (holds (truth c row)) as (λ test. is_user_cell (if test then value a row else value b row) ≡ true) [
        | true ↦ user_value a s.0 l.0
        | false ↦ user_value b s.1 l.1
      ]
  user_value (e.new_id t k b parts) simple leaves = absurd (true≢false (sym simple))
  user_value (e.times a b) simple leaves = absurd (true≢false (sym simple))

user_fitting : (width : ℕ) (row : List Cell) → list_all is_user_cell row ≡ true → (expr : Expr) → expr_fits width expr ≡ true → is_user_cell (value expr row) ≡ true
user_fitting width row all expr fit = let are = and_parts (is_simple expr) _ fit in user_value _ row all expr are.0 are.1

user_values : (width : ℕ) (row : List Cell) → list_all is_user_cell row ≡ true → (exprs : List Expr) → list_all (expr_fits width) exprs ≡ true
    → list_all is_user_cell (values exprs row) ≡ true
user_values width row all [] fit = refl
user_values width row all (expr ∷ exprs) fit =
    let are = and_parts (expr_fits width expr) _ fit in and_from _ _ (user_fitting width row all expr are.0) (user_values width row all exprs are.1)

-- ---- the rows of a statement

module _ {M : Type 0} (domain : Annotations M) (most : ℕ) where
  abbrev pub HasUserCells : Annotated M → Type 0
  HasUserCells row = list_all is_user_cell row.cells ≡ true

  abbrev HasUserElement : Element M → Type 0
  HasUserElement element = list_all is_user_cell element.cells ≡ true

  pub user_given : (width t k n : ℕ) (all : List (List Cell)) → list_all (row_fits width) all ≡ true → AllByRecursion HasUserCells (given_from domain t k n all)
  user_given width t k n [] fit = tt
  user_given width t k n (cells ∷ others) fit =
      let are = and_parts (row_fits width cells) _ fit in ((and_parts _ _ are.0).1, user_given width t k (suc n) others are.1)

  module _ (db : Database M) (held : AreHeld most db) where
    user_choices : (branch : ℕ) (tables : List ℕ) → AllByRecursion HasUserElement (choices domain branch tables db)
    user_choices branch [] = (refl, tt)
    user_choices branch (table ∷ tables) =
        each_flat_map HasUserElement (IsHeld most) (λ row. map (joined domain branch row) (choices domain branch tables db))
        (λ row own. each_map HasUserElement HasUserElement (joined domain branch row)
        (λ element is. list_all-append is_user_cell row.cells element.cells ∙ and_from _ _ own.cells is)
        (choices domain branch tables db) (user_choices branch tables))
        (db table) (held table)

    user_chosen : (tables : List Table) (width n : ℕ) (branch : Branch) → branch_fits tables width branch ≡ true
        → AllByRecursion HasUserElement (chosen domain n branch db)
    user_chosen tables width n branch fit =
        let inner : ℕ = joined_width tables branch.from in
        let from = and_parts (nat_lt 0 (length branch.from)) _ fit in
        let there = and_parts (list_all (is_there tables) branch.from) _ from.1 in
        let some = and_parts (nat_lt 0 (length branch.items)) _ there.1 in
        let same = and_parts (length branch.items == width) _ some.1 in
        let items = and_parts (list_all (expr_fits inner) branch.items) _ same.1 in
        each_map HasUserElement HasUserElement (λ (element : Element M). record element { cells = values branch.items element.cells })
        (λ element is. user_values inner element.cells is branch.items items.0) _
        (each_filter HasUserElement HasUserElement (λ (element : Element M). passes_where branch.cond element.cells) (λ element passed is. is)
        (choices domain n branch.from db) (user_choices n branch.from))

    user_answer : (tables : List Table) (width n : ℕ) (select : Select) → list_all (branch_fits tables width) select ≡ true
        → AllByRecursion HasUserElement (answer_from domain n select db)
    user_answer tables width n [] fit = tt
    user_answer tables width n (branch ∷ select) fit =
        let are = and_parts (branch_fits tables width branch) _ fit in
        each_append HasUserElement (chosen domain n branch db) _ (user_chosen tables width n branch are.0) (user_answer tables width (suc n) select are.1)

  -- the new rows of an INSERT, where none of them is over the limit
  held_new : (new : List (Annotated M)) → AllByRecursion HasUserCells new → list_any (λ (row : Annotated M). nat_lt most (nodes row.identity)) new ≡ false
      → AllByRecursion (IsHeld most) new
  held_new [] all none = tt
  held_new (row ∷ new) all none =
      let are = or_parts (nat_lt most (nodes row.identity)) _ none in
      (record { cells = all.0; small = ltb-false most (nodes row.identity) are.0 }, held_new new all.1 are.1)

  -- the expressions of an UPDATE
  set_fit : (width n : ℕ) (sets : List SetExpr) → list_all (set_fits width) sets ≡ true → (row : List Cell) → list_all is_user_cell row ≡ true
      → is_user_cell (value (unwrap_or (set_for n sets) (e.col n)) row) ≡ true
  set_fit width n [] fit row all = user_column n row all
  set_fit width n (set ∷ sets) fit row all =
      let are = and_parts (set_fits width set) _ fit in
      elim (set.col == n) as (λ b. is_user_cell (value (unwrap_or (if b then Some set.expr else set_for n sets) (e.col n)) row) ≡ true) [
        | true ↦ user_fitting width row all set.expr (and_parts _ _ are.0).1
        | false ↦ set_fit width n sets are.1 row all
      ]

  user_assigned : (width n more : ℕ) (sets : List SetExpr) → list_all (set_fits width) sets ≡ true → (row : List Cell) → list_all is_user_cell row ≡ true
      → list_all is_user_cell (values (assigned_from sets n more) row) ≡ true
  user_assigned width n zero sets fit row all = refl
  user_assigned width n (suc more) sets fit row all = and_from _ _ (set_fit width (suc n) sets fit row all) (user_assigned width (suc n) more sets fit row all)

  held_changed : (width t k : ℕ) (sets : List SetExpr) (c : Cond) → list_all (set_fits width) sets ≡ true → (row : Annotated M) → IsHeld most row
      → IsHeld most (changed domain t k sets c row)
  held_changed width t k sets c fit row held =
      elim (passes c row.cells) as (λ b. IsHeld most (if b
      then record { identity = row.identity; cells = assigned sets row.cells; mark = true; annotation = domain.times row.annotation (domain.token (Updated t k)) }
      else row)) [
        | true ↦ record { cells = user_assigned width 0 (length row.cells) sets fit row.cells held.cells; small = held.small }
        | false ↦ held
      ]

  held_with : (place : ℕ) (new : List (Annotated M)) (db : Database M) → AreHeld most db → AllByRecursion (IsHeld most) new → AreHeld most (with_rows place new db)
  held_with place new db held all table =
      elim (table == place) as (λ b. AllByRecursion (IsHeld most) (if b then new else db table)) [ true ↦ all | false ↦ held table ]

  -- rows that are published are those of one of two databases
  held_publish : (base mine later : Database M) → AreHeld most mine → AreHeld most later → AreHeld most (publish base mine later)
  held_publish base mine later own others table =
      each_append (IsHeld most) _ _
      (each_filter (IsHeld most) (IsHeld most) (λ row. not (was_written (base table) (mine table) row.identity)) (λ row kept is. is) (later table) (others table))
      (each_filter (IsHeld most) (IsHeld most) (λ row. row.mark) (λ row kept is. is) (mine table) (own table))

  -- what a transaction reads before a statement that reads another version
  pub held_refreshed : (versions : Environment M) → ((version : ℕ) → AreHeld most (versions version)) → (old new : ℕ) (db : Database M) → AreHeld most db
      → AreHeld most (refreshed old new versions db)
  held_refreshed versions held old new db own =
      elim (new == old) as (λ b. AreHeld most (if b then db else publish (versions old) db (versions new))) [
        | true ↦ own
        | false ↦ held_publish (versions old) db (versions new) own (held new)
      ]

-- ---- statements that do not stop

abbrev pub FitsIfSome : List Table → Option Statement → Type 0
FitsIfSome catalogue None = Unit {0}
FitsIfSome catalogue (Some statement) = statement_fits catalogue statement ≡ true

pub logged_fits : (catalogue : List Table) (t k : ℕ) (entries : List Entry) → statements_fit catalogue entries ≡ true
    → FitsIfSome catalogue (statement_at t k entries)
logged_fits catalogue t k [] fit = tt
logged_fits catalogue t k (Created line session table ∷ older) fit = logged_fits catalogue t k older fit
logged_fits catalogue t k (Began line session u level ∷ older) fit = logged_fits catalogue t k older fit
logged_fits catalogue t k (Ran line session command u statement ∷ older) fit =
    let are = and_parts (statement_fits catalogue statement) _ fit in
    elim ((u == t) && (suc (statement_count t older) == k)) as (λ b. FitsIfSome catalogue (if b then Some statement else statement_at t k older)) [
      | true ↦ are.0
      | false ↦ logged_fits catalogue t k older are.1
    ]
logged_fits catalogue t k (Committed line session u ∷ older) fit = logged_fits catalogue t k older fit
logged_fits catalogue t k (Ended line session end u ∷ older) fit = logged_fits catalogue t k older fit

module _ {M : Type 0} (domain : Annotations M) (parameters : Parameters) (catalogue : List Table) where
  pub user_made : (t k : ℕ) (select : Select) (db : Database M) → AreHeld parameters.nodes db → (width : ℕ) → list_all (branch_fits catalogue width) select ≡ true
      → AllByRecursion (HasUserCells domain parameters.nodes) (map (made domain t k) (answer domain select db))
  user_made t k select db held width fit =
      each_map (HasUserCells domain parameters.nodes) (HasUserElement domain parameters.nodes) (made domain t k) (λ element is. is) (answer domain select db)
      (user_answer domain parameters.nodes db held catalogue width 1 select fit)

  -- an INSERT that does not stop is not over the nodes
  few_nodes : (t k : ℕ) (over_rows over_nodes : Bool)
      → (if over_rows then Some (OverRows t k) else if over_nodes then Some (OverNodes t k) else None) ≡ None → over_nodes ≡ false
  few_nodes t k true over_nodes none = cc
  few_nodes t k false true none = cc
  few_nodes t k false false none = refl

  -- a statement that does not stop keeps what tables hold
  pub held_step : (t k : ℕ) (found : Option Statement) (db : Database M) → FitsIfSome catalogue found → statement_stop domain parameters t k found db ≡ None
      → AreHeld parameters.nodes db → AreHeld parameters.nodes (stepped domain t k found db)
  held_step t k None db fit none held = held
  held_step t k (Some (insert table all)) db fit none held =
      let are = and_parts (is_there catalogue table) _ fit in
      let new : List (Annotated M) = given_from domain t k 1 all in
      held_with domain parameters.nodes table (db table ++ new) db held
      (each_append (IsHeld parameters.nodes) (db table) new (held table)
      (held_new domain parameters.nodes new (user_given domain parameters.nodes (width_of catalogue table) t k 1 all (and_parts _ _ are.1).1) (few_nodes t k _ _ none)))
  held_step t k (Some (insert_select table select)) db fit none held =
      let are = and_parts (is_there catalogue table) _ fit in
      let new : List (Annotated M) = map (made domain t k) (answer domain select db) in
      held_with domain parameters.nodes table (db table ++ new) db held
      (each_append (IsHeld parameters.nodes) (db table) new (held table)
      (held_new domain parameters.nodes new (user_made t k select db held (width_of catalogue table) (and_parts (is_countable select) _ are.1).1) (few_nodes t k _ _ none)))
  held_step t k (Some (update table sets c)) db fit none held =
      let are = and_parts (is_there catalogue table) _ fit in
      held_with domain parameters.nodes table (map (changed domain t k sets c) (db table)) db held
      (each_map (IsHeld parameters.nodes) (IsHeld parameters.nodes) (changed domain t k sets c)
      (held_changed domain parameters.nodes (width_of catalogue table) t k sets c (and_parts _ _ are.1).0) (db table) (held table))
  held_step t k (Some (delete table c)) db fit none held =
      held_with domain parameters.nodes table _ db held (each_filter (IsHeld parameters.nodes) (IsHeld parameters.nodes) _ (λ row kept is. is) (db table) (held table))
  held_step t k (Some (read select)) db fit none held = held
