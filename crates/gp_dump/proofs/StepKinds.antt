-- A checked statement keeps rows that fit the columns of their tables and have identities that can be read from their texts.
use Rattle.gp_dump.proofs.Prelude.{◌≡◌, ◌<◌, ◌≤◌, ℕ, suc, ◌+◌, Bool, true, false, true≢false, ◌&&◌, ◌==◌, nat_lt, List, [], ◌∷◌, ◌++◌, length, map, get_or, ◌⊎◌, inl, inr, ⊎_elim, Option, Some, None, slice_get, if◌then◌else◌, refl, sym, ap, subst, ◌∙◌, arith, append_assoc, length-append, option_or, list_all, list_any, cons_option, AllByRecursion, nat_tests, slice_get_cases, Cell, MAX_NODES, Column, Kind, Table, Annotations, Annotated, Database, is_user_cell, Identity, identity, nodes, command_shape, passed_limit, Bytes, Item, Command, value, values, Place, Scope, columns_of, only_place, place_behind, resolution, scope_behind, scope_of, column_type, kind_type, operands_agree, type_of, all_agree, cells_agree, first_refusal, kind_types, query_tables_fault, table_fault, expr_of, number_of_table, meant_statement, is_valid, items_are_valid, holds_if, known, none_of, each_filter, each_weaker, IsReadable, and_parts, eqb-true, ltb-false, or_parts, each_append, each_map}
use Rattle.std.specs.Prelude.{unwrap_or}
use Rattle.std.proofs.Common.{bytes_eq}
use Rattle.gp_base.specs.declared.refusal.Refusal.TheVariants.{E07, E15}
use Rattle.gp_base.specs.declared.token.Token.TheVariants.{Updated}
use Rattle.gp_base.specs.Identities.{no_sources}
use Rattle.gp_grammar.specs.declared.limits.TheConstants.{MAX_BRANCHES, MAX_COLUMNS, MAX_FROM, MAX_VALUES}
use Rattle.gp_grammar.specs.Limits as l
use Rattle.gp_grammar.specs.Limits.{Limit, Shape, query_shape, some_above}
use Rattle.gp_grammar.specs.Syntax as y
use Rattle.gp_grammar.specs.Syntax.{SetTerm, Block, Query}
use Rattle.gp_expr.specs.Expressions as e
use Rattle.gp_expr.specs.Expressions.{Cond}
use Rattle.gp_expr.specs.Values.{passes}
use Rattle.gp_algebra.specs.Answers.{Element, answer, answer_from, choices, chosen, joined}
use Rattle.gp_algebra.specs.Effects.{assigned, assigned_from, changed, given_from, is_over_nodes, made, set_for, step, with_rows}
use Rattle.gp_algebra.specs.Statements.{SetExpr}
use Rattle.gp_algebra.specs.Fitting.{is_countable}
use Rattle.gp_check.specs.Scopes.{target_scope}
use Rattle.gp_check.specs.Faults.{agree_with, block_columns_fault, block_tables_fault, block_types, first_fault, items_fault, query_is_typed, set_fault, set_is_typed, set_name, unless, widths_agree, repeated_set}
use Rattle.gp_check.specs.Meaning.{branch_of, column_number, select_of, set_expr_of, where_of}
use Rattle.gp_check.specs.Valid.{block_is_valid, condition_is_valid, set_is_valid}
use Rattle.gp_machine.proofs.Distinct.{none_each}
use Rattle.gp_dumpline.specs.Rows.{AreReadable, IsPart}
use Rattle.gp_dumpline.specs.declared.identity.TheConstants.{MAX_PART}
use Rattle.gp_dump.specs.Dumps.{fits_columns, is_of_kind}
use Rattle.gp_dump.proofs.KindLemmas.{FitsAt, FitsScope, value_fits}
use Rattle.gp_dump.proofs.SelectKinds.{agreeing, fits_length, given_fits, items_have, named, row_fits, row_fits_at, types_fit}
use Rattle.gp_base.proofs.SmallLemmas.{each_flat_map}

-- ---- rows of a table

-- a row of a table that is there
pub record Fits (tables : List Table) (place : ℕ) (id : Identity) (cells : List Cell) : Type 0 where
  pub table : Table
  pub there : slice_get tables place ≡ Some table
  pub fits : fits_columns table.cols cells ≡ true
  pub readable : IsReadable id

abbrev pub FitsRow : {M : Type 0} → List Table → ℕ → Annotated M → Type 0
FitsRow tables place row = Fits tables place row.identity row.cells

abbrev pub AllFit : {M : Type 0} → List Table → Database M → Type 0
AllFit tables db = (place : ℕ) → AllByRecursion (FitsRow tables place) (db place)

-- a row that fits the columns of a table that is there
target_row : (tables : List Table) (name : Bytes) (id : Identity) (cells : List Cell) → table_fault tables name ≡ None → fits_columns (columns_of tables name) cells ≡ true → IsReadable id
    → Fits tables (number_of_table tables name) id cells
target_row tables name id cells none f r = go (slice_get_cases tables (number_of_table tables name)).1
  where
    go : ((table : Table) × (number_of_table tables name < length tables) × (slice_get tables (number_of_table tables name) ≡ Some table) × (get_or tables (number_of_table tables name) table ≡ table))
        ⊎ ((length tables ≤ number_of_table tables name) × (slice_get tables (number_of_table tables name) ≡ None)) → Fits tables (number_of_table tables name) id cells
    go (inl there) = record {
      table = there.0;
      there = there.2;
      fits = ap (λ cols. fits_columns cols cells) (sym (named tables name there.0 none there.2).cols) ∙ f;
      readable = r;
    }
    go (inr past) = let k = known tables name none in absurd (not_below (number_of_table tables name) (length tables) k past.0)
      where
        not_below : (a b : ℕ) → nat_lt a b ≡ true → b ≤ a → ⊥
        not_below a b k l = grind (arith, nat_tests)

-- the columns of the table of a row, by its name
row_columns : (tables : List Table) (name : Bytes) (id : Identity) (cells : List Cell) → table_fault tables name ≡ None → Fits tables (number_of_table tables name) id cells → fits_columns (columns_of tables name) cells ≡ true
row_columns tables name id cells none r = ap (λ cols. fits_columns cols cells) (named tables name r.table none r.there).cols ∙ r.fits

module _ {M : Type 0} (tables : List Table) where
  with_rows_fit : (place : ℕ) (rows : List (Annotated M)) (db : Database M) → AllByRecursion (FitsRow tables place) rows → AllFit tables db → AllFit tables (with_rows place rows db)
  with_rows_fit place rows db f g other =
      elim (other == place) as (λ b. (other == place) ≡ b → AllByRecursion (FitsRow tables other) (if b then rows else db other)) [
        | true ↦ λ is. subst (λ p. AllByRecursion (FitsRow tables p) rows) (sym (eqb-true other place is)) f
        | false ↦ λ is. g other
      ] refl

module _ {M : Type 0} (domain : Annotations M) (tables : List Table) where
  -- ---- VALUES

  given_rows : (t k n most : ℕ) (name : Bytes) (rows : List (List Cell)) → table_fault tables name ≡ None → IsPart t → IsPart k → 1 ≤ n → most ≤ MAX_PART → n + length rows ≤ suc most
      → list_all (cells_agree (columns_of tables name)) rows ≡ true → list_all (list_all is_user_cell) rows ≡ true → AllByRecursion (FitsRow tables (number_of_table tables name)) (given_from domain t k n rows)
  given_rows t k n most name [] none pt pk low high l e v = tt
  given_rows t k n most name (cells ∷ rows) none pt pk low high l e v =
      let b = and_parts (cells_agree (columns_of tables name) cells) _ e in
      let w = and_parts (list_all is_user_cell cells) _ v in (
        target_row tables name (identity t k n no_sources) cells none (given_fits (columns_of tables name) cells b.0 w.0) (pt, (pk, ((low, omega (arith, l, high)), (omega arith, tt)))),
        given_rows t k (suc n) most name rows none pt pk (omega arith) high (omega (arith, l)) b.1 w.1,
      )

  -- ---- queries

  abbrev Chosen : ℕ → Scope → List Cell → Element M → Type 0
  Chosen number scope front element = FitsScope scope (front ++ element.cells) × (AreReadable element.sources × (element.branch ≡ number))

  choices_fit : (number : ℕ) (db : Database M) → AllFit tables db → (items : List Item) → first_fault (λ (item : Item). table_fault tables item.table) items ≡ None → (before : ℕ) (front : List Cell) → length front ≡ before
      → AllByRecursion (Chosen number (scope_behind before tables items) front) (choices domain number (map (λ (item : Item). number_of_table tables item.table) items) db)
  choices_fit number db fit [] none before front l = ((tt, (tt, refl)), tt)
  choices_fit number db fit (item ∷ items) none before front l =
      let n = none_of (table_fault tables item.table) _ none in
      each_flat_map _ (FitsRow tables (number_of_table tables item.table)) _ (one n (λ before front l. choices_fit number db fit items n.1 before front l)) (db (number_of_table tables item.table)) (fit (number_of_table tables item.table))
    where
      one : (table_fault tables item.table ≡ None) × (first_fault (λ (item : Item). table_fault tables item.table) items ≡ None)
          → ((before : ℕ) (front : List Cell) → length front ≡ before
          → AllByRecursion (Chosen number (scope_behind before tables items) front) (choices domain number (map (λ (item : Item). number_of_table tables item.table) items) db))
          → (row : Annotated M) → FitsRow tables (number_of_table tables item.table) row
          → AllByRecursion (Chosen number (scope_behind before tables (item ∷ items)) front) (map (joined domain number row) (choices domain number (map (λ (item : Item). number_of_table tables item.table) items) db))
      one n others row r =
          let f = row_columns tables item.table row.identity row.cells n.0 r in
          let width = fits_length (columns_of tables item.table) row.cells f in
          each_map _ (Chosen number (scope_behind (before + length (columns_of tables item.table)) tables items) (front ++ row.cells)) (joined domain number row)
          (λ element q. (
            (row_fits_at (columns_of tables item.table) row.cells front element.cells before l f, subst (FitsScope (scope_behind (before + length (columns_of tables item.table)) tables items)) (append_assoc front row.cells element.cells) q.0),
            ((r.readable, q.1.0), refl),
          )) _
          (others (before + length (columns_of tables item.table)) (front ++ row.cells) (length-append front row.cells ∙ omega (arith, l, width)))

  -- an element of an answer whose cells fit these columns
  pub record Given (cols : List Column) (most : ℕ) (element : Element M) : Type 0 where
    pub fits : fits_columns cols element.cells ≡ true
    pub sources : AreReadable element.sources
    pub first : 1 ≤ element.branch
    pub last : element.branch ≤ most

  block_fits : (cols : List Column) (most number : ℕ) (db : Database M) → AllFit tables db → 1 ≤ number → number ≤ most → (block : Block) → block_tables_fault tables block ≡ None → block_is_valid block ≡ true
      → all_agree (kind_types cols) (block_types tables block) ≡ true → AllByRecursion (Given cols most) (chosen domain number (branch_of tables block) db)
  unfolding branch_of block_types
  block_fits cols most number db fit low high block none valid agree =
      let v = and_parts (items_are_valid block.items) _ (and_parts _ (items_are_valid block.items && condition_is_valid block.cond) valid).1 in
      each_map _ (Chosen number (scope_of tables block.from) []) _
      (λ element q. record {
        fits = types_fit cols _ _ agree (items_have tables block.from element.cells q.0 block.items v.0);
        sources = q.1.0;
        first = subst (λ n. 1 ≤ n) (sym q.1.1) low;
        last = subst (λ n. n ≤ most) (sym q.1.1) high;
      })
      _ (each_filter _ (Chosen number (scope_of tables block.from) []) _ (λ element e q. q) _ (choices_fit number db fit block.from none 0 [] refl))

  answer_fits : (cols : List Column) (most number : ℕ) (db : Database M) → AllFit tables db → 1 ≤ number → (query : Query) → number + length query ≤ suc most → query_tables_fault tables query ≡ None → list_all block_is_valid query ≡ true
      → agree_with (kind_types cols) (map (block_types tables) query) ≡ true → AllByRecursion (Given cols most) (answer_from domain number (select_of tables query) db)
  answer_fits cols most number db fit low [] high none valid agree = tt
  answer_fits cols most number db fit low (block ∷ query) high none valid agree =
      let n = none_of (block_tables_fault tables block) _ none in
      let v = and_parts (block_is_valid block) _ valid in
      let a = and_parts (all_agree (kind_types cols) (block_types tables block)) _ agree in
      each_append _ (chosen domain number (branch_of tables block) db) (answer_from domain (suc number) (select_of tables query) db)
      (block_fits cols most number db fit low (omega (arith, high)) block n.0 v.0 a.0)
      (answer_fits cols most (suc number) db fit (omega arith) query (omega (arith, high)) n.1 v.1 a.1)

  -- the rows that are inserted for them
  made_rows : (t k most : ℕ) (name : Bytes) → table_fault tables name ≡ None → IsPart t → IsPart k → most ≤ MAX_PART → (elements : List (Element M)) → AllByRecursion (Given (columns_of tables name) most) elements
      → list_any (λ (row : Annotated M). nat_lt MAX_NODES (nodes row.identity)) (map (made domain t k) elements) ≡ false → AllByRecursion (FitsRow tables (number_of_table tables name)) (map (made domain t k) elements)
  made_rows t k most name none pt pk high [] all few = tt
  made_rows t k most name none pt pk high (element ∷ elements) all few =
      let f = none_each (λ (row : Annotated M). nat_lt MAX_NODES (nodes row.identity)) (map (made domain t k) (element ∷ elements)) few in
      let g : Given (columns_of tables name) most element = all.0 in
      let l = g.last in (
        target_row tables name (identity t k element.branch element.sources) element.cells none g.fits
            (pt, (pk, ((g.first, omega (arith, l, high)), (ltb-false MAX_NODES (nodes (identity t k element.branch element.sources)) f.0, g.sources)))),
        made_rows t k most name none pt pk high elements all.1 (or_parts (nat_lt MAX_NODES (nodes (identity t k element.branch element.sources))) _ few).1,
      )

-- ---- UPDATE

-- the column with this number is of this kind, among columns behind this many others
abbrev HasKind : ℕ → List Column → ℕ → Kind → Type 0
HasKind before [] number k = ⊥
HasKind before (col ∷ cols) number k = ((number ≡ suc before) × (k ≡ col.kind)) ⊎ ((suc before < number) × HasKind (suc before) cols number k)

kind_above : (before : ℕ) (cols : List Column) (number : ℕ) (k : Kind) → HasKind before cols number k → before < number
kind_above before [] number k h = absurd h
kind_above before (col ∷ cols) number k h = ⊎_elim (λ here. let e = here.0 in omega arith) (λ there. let l = there.0 in omega arith) h

placed_kind : (before : ℕ) (name : Bytes) (cols : List Column) (place : Place) → place_behind before name cols ≡ Some place → HasKind before cols place.number place.kind
placed_kind before name [] place e = cc
placed_kind before name (col ∷ cols) place e = go (bytes_eq name col.name) e (λ rest. placed_kind (suc before) name cols place rest)
  where
    is : (p q : Place) → Some p ≡ Some q → p ≡ q
    is p q e = cc

    go : (b : Bool) → (if b then Some (record { number = suc before; kind = col.kind }) else place_behind (suc before) name cols) ≡ Some place
        → (place_behind (suc before) name cols ≡ Some place → HasKind (suc before) cols place.number place.kind) → HasKind before (col ∷ cols) place.number place.kind
    go true e rest = subst (λ (p : Place). HasKind before (col ∷ cols) p.number p.kind) (is (record { number = suc before; kind = col.kind }) place e) (inl (refl, refl))
    go false e rest = inr (kind_above (suc before) cols place.number place.kind (rest e), rest e)

-- a column of the kind has the number, or the number is one of those before
abbrev IsSeen : ℕ → List Column → ℕ → Kind → Type 0
IsSeen before cols number k = (number ≤ before) ⊎ HasKind before cols number k

seen_more : (before : ℕ) (col : Column) (cols : List Column) (number : ℕ) (k : Kind) → IsSeen before (col ∷ cols) number k → IsSeen (suc before) cols number k
seen_more before col cols number k s = ⊎_elim (λ l. inl (omega (arith, l))) (λ h. ⊎_elim (λ here. let e = here.0 in inl (omega arith)) (λ there. inr there.1) h) s

seen_here : (before : ℕ) (col : Column) (cols : List Column) (number : ℕ) (k : Kind) → number ≡ suc before → IsSeen before (col ∷ cols) number k → k ≡ col.kind
seen_here before col cols number k is s =
    ⊎_elim (λ l. absurd (omega (arith, l, is))) (λ h. ⊎_elim (λ here. here.1) (λ there. let l = there.0 in absurd (omega (arith, is))) h) s

-- an assignment gives a value of the kind of its column
pub record FitsSet (before : ℕ) (cols : List Column) (row : List Cell) (set : SetExpr) : Type 0 where
  pub kind : Kind
  pub seen : IsSeen before cols set.col kind
  pub fits : is_of_kind kind (value set.expr row) ≡ true

assigned_fits : (sets : List SetExpr) (row : List Cell) (before : ℕ) (cols : List Column) → AllByRecursion (FitsSet before cols row) sets → FitsAt before cols row
    → fits_columns cols (values (assigned_from sets before (length cols)) row) ≡ true
assigned_fits sets row before [] all f = refl
assigned_fits sets row before (col ∷ cols) all f =
    rw (one sets all)
    (assigned_fits sets row (suc before) cols
    (each_weaker (FitsSet (suc before) cols row) (FitsSet before (col ∷ cols) row) (λ set s. record { kind = s.kind; seen = seen_more before col cols set.col s.kind s.seen; fits = s.fits }) sets all) f.1)
  where
    one : (sets : List SetExpr) → AllByRecursion (FitsSet before (col ∷ cols) row) sets → is_of_kind col.kind (value (unwrap_or (set_for (suc before) sets) (e.col (suc before))) row) ≡ true
    one [] all = f.0
    one (set ∷ sets) all =
        elim (set.col == suc before) as (λ b. (set.col == suc before) ≡ b → is_of_kind col.kind (value (unwrap_or (if b then Some set.expr else set_for (suc before) sets) (e.col (suc before))) row) ≡ true) [
          | true ↦ λ is.
              let s : FitsSet before (col ∷ cols) row set = all.0 in
              subst (λ k. is_of_kind k (value set.expr row) ≡ true) (seen_here before col cols set.col s.kind (eqb-true set.col (suc before) is) s.seen) s.fits
          | false ↦ λ is. one sets all.1
        ] refl

module _ (tables : List Table) (name : Bytes) (row : List Cell) (fits : FitsScope (target_scope tables name) row) where
  set_fits_column : (set : SetTerm) → set_is_typed (target_scope tables name) set ≡ true → set_is_valid set ≡ true → FitsSet 0 (columns_of tables name) row (set_expr_of (target_scope tables name) set)
  set_fits_column set typed valid = go (place_behind 0 set.col (columns_of tables name)) refl
    where
      target : (o : Option Place) → place_behind 0 set.col (columns_of tables name) ≡ o → resolution (target_scope tables name) (set_name set) ≡ only_place (cons_option o [])
      target o at = ap (λ o. only_place (cons_option o [])) at

      go : (o : Option Place) → place_behind 0 set.col (columns_of tables name) ≡ o → FitsSet 0 (columns_of tables name) row (set_expr_of (target_scope tables name) set)
      go None at = absurd (true≢false (sym (sym (ap (λ r. operands_agree (column_type r) (type_of (target_scope tables name) set.term)) (target None at)) ∙ typed)))
      go (Some place) at =
          let agree : operands_agree (Some (kind_type place.kind)) (type_of (target_scope tables name) set.term) ≡ true =
          sym (ap (λ r. operands_agree (column_type r) (type_of (target_scope tables name) set.term)) (target (Some place) at)) ∙ typed in
          record {
            kind = place.kind;
            seen = subst (λ r. IsSeen 0 (columns_of tables name) (column_number r) place.kind) (sym (target (Some place) at)) (inr (placed_kind 0 set.col (columns_of tables name) place at));
            fits = agreeing place.kind (type_of (target_scope tables name) set.term) (value (expr_of (target_scope tables name) set.term) row) agree (λ a is. value_fits (target_scope tables name) row fits set.term a valid is);
          }

  sets_fit_columns : (sets : List SetTerm) → list_all (set_is_typed (target_scope tables name)) sets ≡ true → list_all set_is_valid sets ≡ true → AllByRecursion (FitsSet 0 (columns_of tables name) row) (map (set_expr_of (target_scope tables name)) sets)
  sets_fit_columns [] typed valid = tt
  sets_fit_columns (set ∷ sets) typed valid =
      let e = and_parts (set_is_typed (target_scope tables name) set) _ typed in
      let v = and_parts (set_is_valid set) _ valid in
      (set_fits_column set e.0 v.0, sets_fit_columns sets e.1 v.1)

-- ---- the limits on blocks and tuples

few_blocks : (shape : Shape) → passed_limit shape ≡ None → (shape.branches ≤ MAX_BRANCHES) × (shape.values ≤ MAX_VALUES)
few_blocks shape none =
    let f = go (some_above MAX_COLUMNS shape.columns) (some_above MAX_FROM shape.from) (nat_lt MAX_BRANCHES shape.branches) (nat_lt MAX_VALUES shape.values) _ none in
    (ltb-false MAX_BRANCHES shape.branches f.0, ltb-false MAX_VALUES shape.values f.1)
  where
    go : (c f b v : Bool) (rest : Option Limit) → (if c then Some l.columns else (if f then Some l.from else (if b then Some l.branches else (if v then Some l.values else rest)))) ≡ None → (b ≡ false) × (v ≡ false)
    go true f b v rest e = cc
    go false true b v rest e = cc
    go false false true v rest e = cc
    go false false false true rest e = cc
    go false false false false rest e = (refl, refl)

-- ---- statements

module _ {M : Type 0} (domain : Annotations M) (tables : List Table) where
  changed_fits : (t k : ℕ) (name : Bytes) (sets : List SetTerm) (c : Cond) (row : Annotated M) → table_fault tables name ≡ None → list_all (set_is_typed (target_scope tables name)) sets ≡ true → list_all set_is_valid sets ≡ true
      → FitsRow tables (number_of_table tables name) row → FitsRow tables (number_of_table tables name) (changed domain t k (map (set_expr_of (target_scope tables name)) sets) c row)
  changed_fits t k name sets c row none typed valid r = go (passes c row.cells) refl
    where
      cols : List Column
      cols = columns_of tables name

      f : fits_columns (columns_of tables name) row.cells ≡ true
      f = row_columns tables name row.identity row.cells none r

      new : fits_columns (columns_of tables name) (assigned (map (set_expr_of (target_scope tables name)) sets) row.cells) ≡ true
      new =
          subst (λ n. fits_columns (columns_of tables name) (values (assigned_from (map (set_expr_of (target_scope tables name)) sets) 0 n) row.cells) ≡ true) (sym (fits_length (columns_of tables name) row.cells f))
          (assigned_fits (map (set_expr_of (target_scope tables name)) sets) row.cells 0 (columns_of tables name)
          (sets_fit_columns tables name row.cells (row_fits (columns_of tables name) row.cells f, tt) sets typed valid) (row_fits (columns_of tables name) row.cells f))

      go : (b : Bool) → passes c row.cells ≡ b → FitsRow tables (number_of_table tables name) (changed domain t k (map (set_expr_of (target_scope tables name)) sets) c row)
      go true is = subst (λ b. FitsRow tables (number_of_table tables name) (if b then record { identity = row.identity; cells = assigned (map (set_expr_of (target_scope tables name)) sets) row.cells; mark = true; annotation = domain.times row.annotation (domain.token (Updated t k)) } else row)) (sym is)
          (target_row tables name row.identity _ none new r.readable)
      go false is = subst (λ b. FitsRow tables (number_of_table tables name) (if b then record { identity = row.identity; cells = assigned (map (set_expr_of (target_scope tables name)) sets) row.cells; mark = true; annotation = domain.times row.annotation (domain.token (Updated t k)) } else row)) (sym is) r

  pub step_fits : (t k : ℕ) (command : Command) (db : Database M) → IsPart t → IsPart k → first_refusal tables command ≡ None → is_valid command ≡ true → passed_limit (command_shape command) ≡ None
      → is_over_nodes domain MAX_NODES t k (meant_statement tables command) db ≡ false → AllFit tables db → AllFit tables (step domain t k (meant_statement tables command) db)
  step_fits t k (y.insert name rows) db pt pk none valid shape few fit =
      let n = none_of (table_fault tables name) _ none in
      let w = none_of (unless (widths_agree tables (y.insert name rows)) E15) _ n.1 in
      let typed : list_all (cells_agree (columns_of tables name)) rows ≡ true = holds_if _ E07 w.1 in
      let v = and_parts (is_countable rows) _ valid in
      let l = (few_blocks (command_shape (y.insert name rows)) shape).1 in
      with_rows_fit tables (number_of_table tables name) _ db
      (each_append _ (db (number_of_table tables name)) (given_from domain t k 1 rows) (fit (number_of_table tables name))
      (given_rows domain tables t k 1 MAX_VALUES name rows n.0 pt pk (omega arith) (omega arith) (omega (arith, l)) typed v.1)) fit
  step_fits t k (y.insert_select name query) db pt pk none valid shape few fit =
      let n = none_of (option_or (table_fault tables name) (query_tables_fault tables query)) _ none in
      let known = none_of (table_fault tables name) _ n.0 in
      let names = none_of (first_fault items_fault query) _ n.1 in
      let cols = none_of (first_fault (block_columns_fault tables) query) _ names.1 in
      let w = none_of (unless (widths_agree tables (y.insert_select name query)) E15) _ cols.1 in
      let typed = and_parts (query_is_typed tables query) (agree_with (kind_types (columns_of tables name)) (map (block_types tables) query)) (holds_if _ E07 w.1) in
      let v = and_parts (is_countable query) _ valid in
      let l = (few_blocks (query_shape query) shape).0 in
      with_rows_fit tables (number_of_table tables name) _ db
      (each_append _ (db (number_of_table tables name)) _ (fit (number_of_table tables name))
      (made_rows domain tables t k MAX_BRANCHES name known.0 pt pk (omega arith) (answer domain (select_of tables query) db)
      (answer_fits domain tables (columns_of tables name) MAX_BRANCHES 1 db fit (omega arith) query (omega (arith, l)) known.1 v.1 typed.1) few)) fit
  step_fits t k (y.update name sets cond) db pt pk none valid shape few fit =
      let n = none_of (table_fault tables name) _ none in
      let c = none_of (option_or (first_fault (set_fault (target_scope tables name)) sets) _) _ n.1 in
      let s = none_of (repeated_set sets) _ c.1 in
      let typed = and_parts (list_all (set_is_typed (target_scope tables name)) sets) _ (holds_if _ E07 s.1) in
      let v = and_parts (list_all set_is_valid sets) _ valid in
      with_rows_fit tables (number_of_table tables name) _ db
      (each_map _ (FitsRow tables (number_of_table tables name)) _ (λ row r. changed_fits t k name sets (where_of (target_scope tables name) cond) row n.0 typed.0 v.0 r) (db (number_of_table tables name)) (fit (number_of_table tables name))) fit
  step_fits t k (y.delete name cond) db pt pk none valid shape few fit =
      with_rows_fit tables (number_of_table tables name) _ db (each_filter _ (FitsRow tables (number_of_table tables name)) _ (λ row e r. r) (db (number_of_table tables name)) (fit (number_of_table tables name))) fit
  step_fits t k (y.select query) db pt pk none valid shape few fit = fit
  step_fits t k (y.create table) db pt pk none valid shape few fit = fit
  step_fits t k (y.begin read_committed) db pt pk none valid shape few fit = fit
  step_fits t k y.Command.commit db pt pk none valid shape few fit = fit
  step_fits t k y.rollback db pt pk none valid shape few fit = fit
