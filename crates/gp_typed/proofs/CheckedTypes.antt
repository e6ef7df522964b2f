-- Checked statements and queries have types.
use Rattle.gp_typed.proofs.Prelude.{◌≡◌, ℕ, Bool, true, false, cond, List, [], ◌∷◌, ◌++◌, length, map, Some, None, Ok, refl, sym, ap, subst, ◌∙◌, append-nil, length-append, arith, Option, is_some, ◌&&◌, fold, list_all, option_map_or, and_parts, and_from, false≢true, Cell, Column, Table, none_parts, Bytes, Command, Term, joined_width, Select, Statement, columns_behind, Place, Found, TermType, checked_query, first_refusal, table_fault, cond_of, expr_of, meant_statement, number_of_table, select_of, Scope, columns_of, resolution, scope_of, agrees, common_type, is_value, query_is_valid, accepted, holds_if, CellType, Null, both_types, cell_type, common, common_types, cond_is_typed, expr_type, exprs_types, kind_type, row_types, type_at, with_first, are_into, branch_types, fill, is_into, joined_types, optional_cond_is_typed, select_is_typed, select_types, set_is_typed, statement_is_typed, table_types}
use Rattle.std.specs.Option.{option_map, option_or}
use Rattle.gp_base.specs.declared.cell.Cell.TheVariants as cell
use Rattle.gp_base.specs.declared.refusal.Refusal.TheVariants.{E07, E15}
use Rattle.gp_base.specs.UserCells.{is_user_cell}
use Rattle.gp_grammar.specs.Syntax as y
use Rattle.gp_grammar.specs.Syntax.{Block, Items, Query, SetTerm, is_statement}
use Rattle.gp_check.specs.declared.place.Resolution.{Resolution}
use Rattle.gp_check.specs.declared.place.Resolution.TheVariants.{Absent, Ambiguous}
use Rattle.gp_check.specs.declared.types.TermType.TheVariants as t
use Rattle.gp_check.specs.Checking.{checked}
use Rattle.gp_check.specs.Faults as f
use Rattle.gp_check.specs.Faults.{agree_with, all_agree, are_values, block_tables_fault, block_types, block_where_is_typed, cells_agree, columns_fault, items_types, kind_types, names_fault, pairs_agree, query_is_typed, query_tables_fault, scope_types, scope_width, set_name, sets_fault, tables_fault, unless, where_is_typed, widths_agree}
use Rattle.gp_check.specs.Meaning.{branch_of, column_number, exprs_of, set_expr_of, where_of}
use Rattle.gp_check.specs.Scopes.{target_scope}
use Rattle.gp_check.specs.Typing as check
use Rattle.gp_check.specs.Typing.{column_type, is_condition, operand_passes, operands_agree, type_of}
use Rattle.gp_check.specs.Valid.{is_valid}
use Rattle.gp_check.proofs.FittingLemmas.{from_fits}
use Rattle.gp_check.proofs.TypingLemmas.{sound}
use Rattle.gp_typed.proofs.TypeLists.{columns_types}
use Rattle.gp_typed.proofs.JoinedTypes.{types_width}
use Rattle.gp_typed.proofs.TermTypes.{ResolvesIn, agrees_common, agrees_into, agrees_values, as_cell, from_resolves, kind_as_cell, kinds_types, means, numbers_of, scope_cells, scope_joined, table_cells, value_means}

abbrev Known : Option (List CellType) → Type 0
Known types = is_some types ≡ true

-- ---- lists of the types of terms

abbrev cell_or : Option TermType → CellType
cell_or type = option_map_or as_cell type Null

abbrev cells_of : List (Option TermType) → List CellType
cells_of types = map cell_or types

-- what two lists that agree have in common
abbrev common_of : Option TermType → Option TermType → Option TermType
common_of (Some a) (Some b) = Some (common_type a b)
common_of (Some a) None = None
common_of None b = None

abbrev commons : List (Option TermType) → List (Option TermType) → List (Option TermType)
commons [] ys = []
commons (x ∷ xs) [] = []
commons (x ∷ xs) (y ∷ ys) = common_of x y ∷ commons xs ys

common_one : (x y : Option TermType) → operands_agree x y ≡ true → common (cell_or x) (cell_or y) ≡ Some (cell_or (common_of x y))
common_one (Some a) (Some b) so = agrees_common a b so
common_one (Some a) None so = absurd (false≢true so)
common_one None y so = absurd (false≢true so)

common_all : (xs ys : List (Option TermType)) → all_agree xs ys ≡ true → common_types (cells_of xs) (cells_of ys) ≡ Some (cells_of (commons xs ys))
common_all [] [] so = refl
common_all (x ∷ xs) (y ∷ ys) so =
    let p = and_parts (operands_agree x y) (all_agree xs ys) so in λ i. with_first (common_one x y p.0 i) (common_all xs ys p.1 i)
common_all xs ys so = absurd cc

agrees_more : (a b d : TermType) → agrees a b ≡ true → agrees a d ≡ true → agrees b d ≡ true → agrees (common_type a b) d ≡ true
agrees_more t.Null b d first second third = third
agrees_more t.Int b d first second third = second
agrees_more t.Text b d first second third = second
agrees_more t.Condition b d first second third = absurd (false≢true (agrees_condition b first))
  where
    agrees_condition : (b : TermType) → agrees t.Condition b ≡ true → false ≡ true
    agrees_condition t.Null e = e
    agrees_condition t.Int e = e
    agrees_condition t.Text e = e
    agrees_condition t.Condition e = e

one_more : (x y z : Option TermType) → operands_agree x y ≡ true → operands_agree x z ≡ true → operands_agree y z ≡ true → operands_agree (common_of x y) z ≡ true
one_more (Some a) (Some b) (Some d) first second third = agrees_more a b d first second third
one_more (Some a) (Some b) None first second third = third
one_more (Some a) None z first second third = absurd (false≢true first)
one_more None y z first second third = absurd (false≢true first)

all_more : (xs ys zs : List (Option TermType)) → all_agree xs ys ≡ true → all_agree xs zs ≡ true → all_agree ys zs ≡ true → all_agree (commons xs ys) zs ≡ true
all_more [] [] zs first second third = third
all_more (x ∷ xs) (y ∷ ys) (z ∷ zs) first second third =
    let p = and_parts (operands_agree x y) (all_agree xs ys) first in
    let q = and_parts (operands_agree x z) (all_agree xs zs) second in
    let r = and_parts (operands_agree y z) (all_agree ys zs) third in
    and_from (operands_agree (common_of x y) z) (all_agree (commons xs ys) zs) (one_more x y z p.0 q.0 r.0) (all_more xs ys zs p.1 q.1 r.1)
all_more xs ys zs first second third = absurd cc

each_more : (xs ys : List (Option TermType)) (others : List (List (Option TermType))) → all_agree xs ys ≡ true → agree_with xs others ≡ true → agree_with ys others ≡ true
    → agree_with (commons xs ys) others ≡ true
each_more xs ys [] first second third = refl
each_more xs ys (zs ∷ others) first second third =
    let q = and_parts (all_agree xs zs) (agree_with xs others) second in
    let r = and_parts (all_agree ys zs) (agree_with ys others) third in
    and_from (all_agree (commons xs ys) zs) (agree_with (commons xs ys) others) (all_more xs ys zs first q.0 r.0) (each_more xs ys others first q.1 r.1)

-- values that agree with columns can stand in them
all_into : (cols : List Column) (ys : List (Option TermType)) → all_agree (kind_types cols) ys ≡ true → are_into (kinds_types cols) (cells_of ys) ≡ true
all_into [] [] so = refl
all_into (col ∷ cols) (Some a ∷ ys) so =
    let p = and_parts (agrees (check.kind_type col.kind) a) (all_agree (kind_types cols) ys) so in
    and_from (is_into (kind_type col.kind) (as_cell a)) (are_into (kinds_types cols) (cells_of ys)) (agrees_into col.kind a p.0) (all_into cols ys p.1)
all_into cols ys so = absurd cc

-- ---- terms

module _ (scope : Scope) (types : List CellType) (resolves : ResolvesIn scope types) where
  term_types : (x : Term) (a : TermType) → type_of scope x ≡ Some a → is_value a ≡ true → expr_type types (expr_of scope x) ≡ Some (as_cell a)
  term_types x a is value = value_means scope types resolves a x value (means scope types resolves x a (sound scope x a is))

  condition_types : (x : Term) → is_condition (type_of scope x) ≡ true → cond_is_typed types (cond_of scope x) ≡ true
  condition_types x so = go (type_of scope x) refl so
    where
      go : (o : Option TermType) → type_of scope x ≡ o → is_condition o ≡ true → cond_is_typed types (cond_of scope x) ≡ true
      go None is so = absurd (false≢true so)
      go (Some t.Null) is so = absurd (false≢true so)
      go (Some t.Int) is so = absurd (false≢true so)
      go (Some t.Text) is so = absurd (false≢true so)
      go (Some t.Condition) is so = means scope types resolves x t.Condition (sound scope x t.Condition is)

  value_types : (x : Term) → operand_passes is_value (type_of scope x) ≡ true → expr_type types (expr_of scope x) ≡ Some (cell_or (type_of scope x))
  value_types x so = go (type_of scope x) refl so
    where
      go : (o : Option TermType) → type_of scope x ≡ o → operand_passes is_value o ≡ true → expr_type types (expr_of scope x) ≡ Some (cell_or o)
      go None is so = absurd (false≢true so)
      go (Some a) is so = term_types x a is so

  list_types : (xs : List Term) → are_values (map (type_of scope) xs) ≡ true → exprs_types types (map (expr_of scope) xs) ≡ Some (cells_of (map (type_of scope) xs))
  list_types [] so = refl
  list_types (x ∷ xs) so =
      let p = and_parts (operand_passes is_value (type_of scope x)) (are_values (map (type_of scope) xs)) so in
      λ i. with_first (value_types x p.0 i) (list_types xs p.1 i)

  where_types : (cond : Option Term) → where_is_typed scope cond ≡ true → optional_cond_is_typed types (option_map (cond_of scope) cond) ≡ true
  where_types None so = refl
  where_types (Some x) so = condition_types x so

  meant_where : (cond : Option Term) → where_is_typed scope cond ≡ true → cond_is_typed types (where_of scope cond) ≡ true
  meant_where None so = refl
  meant_where (Some x) so = condition_types x so

  set_types : (set : SetTerm) → f.set_is_typed scope set ≡ true → set_is_typed types (set_expr_of scope set) ≡ true
  set_types set so = go (resolution scope (set_name set)) refl so
    where
      value : (place : Place) (o : Option TermType) → type_of scope set.term ≡ o → operand_passes (agrees (check.kind_type place.kind)) o ≡ true
          → option_map_or (is_into (kind_type place.kind)) (expr_type types (expr_of scope set.term)) false ≡ true
      value place None is so = absurd (false≢true so)
      value place (Some a) is so =
          ap (λ o. option_map_or (is_into (kind_type place.kind)) o false) (term_types set.term a is (agrees_values (check.kind_type place.kind) a so).1) ∙ agrees_into place.kind a so

      go : (found : Resolution) → resolution scope (set_name set) ≡ found → operands_agree (column_type found) (type_of scope set.term) ≡ true
          → option_map_or (λ column. option_map_or (is_into column) (expr_type types (expr_of scope set.term)) false) (type_at (column_number (resolution scope (set_name set))) types) false ≡ true
      go Absent is so = absurd (false≢true so)
      go Ambiguous is so = absurd (false≢true so)
      go (Found place) is so =
          ap (λ found. option_map_or (λ column. option_map_or (is_into column) (expr_type types (expr_of scope set.term)) false) found false)
          (ap (λ found. type_at (column_number found) types) is ∙ resolves (set_name set) place is)
          ∙ value place (type_of scope set.term) refl so

  sets_types : (sets : List SetTerm) → list_all (f.set_is_typed scope) sets ≡ true → list_all (set_is_typed types) (map (set_expr_of scope) sets) ≡ true
  sets_types [] so = refl
  sets_types (set ∷ sets) so =
      let p = and_parts (f.set_is_typed scope set) (list_all (f.set_is_typed scope) sets) so in
      and_from (set_is_typed types (set_expr_of scope set)) (list_all (set_is_typed types) (map (set_expr_of scope) sets)) (set_types set p.0) (sets_types sets p.1)

-- ---- blocks

kinds_cells : (cols : List Column) (others : List (Option TermType)) → cells_of (kind_types cols ++ others) ≡ kinds_types cols ++ cells_of others
kinds_cells [] others = refl
kinds_cells (col ∷ cols) others = λ i. kind_as_cell col.kind i ∷ kinds_cells cols others i

scope_kinds : (scope : Scope) → cells_of (scope_types scope) ≡ scope_cells scope
scope_kinds [] = refl
scope_kinds (source ∷ sources) =
    kinds_cells source.columns (scope_types sources) ∙ ap (λ types. kinds_types source.columns ++ types) (scope_kinds sources)

joined_long : (tables : List Table) (places : List ℕ) → length (joined_types tables places) ≡ joined_width tables places
joined_long tables [] = refl
joined_long tables (place ∷ places) =
    let own = length-append (table_types tables place) (joined_types tables places) in
    let width = types_width tables place in
    let rest = joined_long tables places in
    omega (arith, own, width, rest)

module _ (tables : List Table) (block : Block) (none : block_tables_fault tables block ≡ None) where
  abbrev scope : Scope
  scope = scope_of tables block.from

  abbrev from_types : List CellType
  from_types = joined_types tables (numbers_of tables block.from)

  items_have : (items : Items) → are_values (items_types scope items) ≡ true → exprs_types from_types (exprs_of scope items) ≡ Some (cells_of (items_types scope items))
  items_have y.star so =
      let width : scope_width scope ≡ length from_types = (from_fits tables block.from none).width ∙ sym (joined_long tables (numbers_of tables block.from)) in
      ap (λ n. exprs_types from_types (columns_behind 0 n)) width
      ∙ columns_types from_types [] from_types [] 0 (sym (append-nil from_types)) refl
      ∙ ap (λ (types : List CellType). Some types) (sym (scope_kinds scope ∙ scope_joined tables block.from none))
  items_have (y.list terms) so = list_types scope from_types (from_resolves tables block.from none) terms so

  pub block_has : are_values (block_types tables block) ≡ true → block_where_is_typed tables block ≡ true → branch_types tables (branch_of tables block) ≡ Some (cells_of (block_types tables block))
  unfolding branch_of block_types block_where_is_typed
  block_has values typed =
      ap (λ b. cond b (exprs_types from_types (exprs_of scope block.items)) None) (where_types scope from_types (from_resolves tables block.from none) block.cond typed)
      ∙ items_have block.items values

-- ---- queries

-- a query has a block
abbrev is_some_query : Query → Bool
is_some_query [] = false
is_some_query (block ∷ query) = true

some_query : (query : Query) → query_is_valid query ≡ true → is_some_query query ≡ true
some_query [] valid = valid
some_query (block ∷ query) valid = refl

module _ (tables : List Table) where
  abbrev all_types : Query → List (List (Option TermType))
  all_types query = map (block_types tables) query

  -- each block has its types
  abbrev HaveTypes : Query → Type 0
  HaveTypes [] = Unit {0}
  HaveTypes (block ∷ query) = (branch_types tables (branch_of tables block) ≡ Some (cells_of (block_types tables block))) × HaveTypes query

  blocks_have : (query : Query) → query_tables_fault tables query ≡ None → list_all are_values (all_types query) ≡ true → list_all (block_where_is_typed tables) query ≡ true → HaveTypes query
  blocks_have [] none values typed = tt
  blocks_have (block ∷ query) none values typed =
      let n = none_parts (block_tables_fault tables block) (query_tables_fault tables query) none in
      let v = and_parts (are_values (block_types tables block)) (list_all are_values (all_types query)) values in
      let w = and_parts (block_where_is_typed tables block) (list_all (block_where_is_typed tables) query) typed in
      (block_has tables block n.0 v.0 w.0, blocks_have query n.1 v.1 w.1)

  abbrev folded : Option (List CellType) → Select → Option (List CellType)
  folded types others = fold (λ types other. both_types types (branch_types tables other)) types others

  folded_known : (xs : List (Option TermType)) (types : Option (List CellType)) → types ≡ Some (cells_of xs) → (query : Query) → HaveTypes query → agree_with xs (all_types query) ≡ true
      → pairs_agree (all_types query) ≡ true → Known (folded types (select_of tables query))
  folded_known xs types is [] have first others = ap (λ (o : Option (List CellType)). is_some o) is
  folded_known xs types is (block ∷ query) have first others =
      let own = block_types tables block in
      let p = and_parts (all_agree xs own) (agree_with xs (all_types query)) first in
      let q = and_parts (agree_with own (all_types query)) (pairs_agree (all_types query)) others in
      folded_known (commons xs own) (both_types types (branch_types tables (branch_of tables block))) ((λ i. both_types (is i) (have.0 i)) ∙ common_all xs own p.0) query have.1
      (each_more xs own (all_types query) p.0 p.1 q.0) q.1

  query_has : (query : Query) → is_some_query query ≡ true → query_tables_fault tables query ≡ None → query_is_typed tables query ≡ true → Known (select_types tables (select_of tables query))
  query_has [] some none so = absurd (false≢true some)
  query_has (block ∷ query) some none so =
      let all = all_types (block ∷ query) in
      let p = and_parts (list_all are_values all) (list_all (block_where_is_typed tables) (block ∷ query) && pairs_agree all) so in
      let q = and_parts (list_all (block_where_is_typed tables) (block ∷ query)) (pairs_agree all) p.1 in
      let have = blocks_have (block ∷ query) none p.0 q.0 in
      let r = and_parts (agree_with (block_types tables block) (all_types query)) (pairs_agree (all_types query)) q.1 in
      folded_known (block_types tables block) (branch_types tables (branch_of tables block)) have.0 query have.1 r.0 r.1

  -- the rows of each block can stand in the columns of a table
  query_fills : (name : Bytes) → table_fault tables name ≡ None → (query : Query) → HaveTypes query → agree_with (kind_types (columns_of tables name)) (all_types query) ≡ true
      → list_all (λ branch. fill (table_types tables (number_of_table tables name)) (branch_types tables branch)) (select_of tables query) ≡ true
  query_fills name none [] have so = refl
  query_fills name none (block ∷ query) have so =
      let p = and_parts (all_agree (kind_types (columns_of tables name)) (block_types tables block)) (agree_with (kind_types (columns_of tables name)) (all_types query)) so in
      let into : are_into (table_types tables (number_of_table tables name)) (cells_of (block_types tables block)) ≡ true =
      ap (λ types. are_into types (cells_of (block_types tables block))) (sym (table_cells tables name none)) ∙ all_into (columns_of tables name) (block_types tables block) p.0 in
      and_from (fill (table_types tables (number_of_table tables name)) (branch_types tables (branch_of tables block))) _
      (ap (fill (table_types tables (number_of_table tables name))) have.0 ∙ into) (query_fills name none query have.1 p.1)

  -- ---- VALUES

  user_type : (x : Cell) → is_user_cell x ≡ true → cell_type x ≡ Some (as_cell (check.cell_type x))
  user_type cell.Null so = refl
  user_type (cell.Int n) so = refl
  user_type (cell.Text text) so = refl
  user_type (cell.Id id) so = absurd (false≢true so)
  user_type (cell.Mark mark) so = absurd (false≢true so)
  user_type (cell.Mono monomial) so = absurd (false≢true so)

  abbrev cells_types : List Cell → List (Option TermType)
  cells_types cells = map (λ (cell : Cell). Some (check.cell_type cell)) cells

  user_types : (cells : List Cell) → list_all is_user_cell cells ≡ true → row_types cells ≡ Some (cells_of (cells_types cells))
  user_types [] so = refl
  user_types (x ∷ cells) so =
      let p = and_parts (is_user_cell x) (list_all is_user_cell cells) so in λ i. with_first (user_type x p.0 i) (user_types cells p.1 i)

  rows_fill : (name : Bytes) → table_fault tables name ≡ None → (rows : List (List Cell)) → list_all (list_all is_user_cell) rows ≡ true → list_all (cells_agree (columns_of tables name)) rows ≡ true
      → list_all (λ (row : List Cell). fill (table_types tables (number_of_table tables name)) (row_types row)) rows ≡ true
  rows_fill name none [] users so = refl
  rows_fill name none (row ∷ rows) users so =
      let u = and_parts (list_all is_user_cell row) (list_all (list_all is_user_cell) rows) users in
      let p = and_parts (cells_agree (columns_of tables name) row) (list_all (cells_agree (columns_of tables name)) rows) so in
      let into : are_into (table_types tables (number_of_table tables name)) (cells_of (cells_types row)) ≡ true =
      ap (λ types. are_into types (cells_of (cells_types row))) (sym (table_cells tables name none)) ∙ all_into (columns_of tables name) (cells_types row) p.0 in
      and_from (fill (table_types tables (number_of_table tables name)) (row_types row)) _
      (ap (fill (table_types tables (number_of_table tables name))) (user_types row u.0) ∙ into) (rows_fill name none rows u.1 p.1)

  -- ---- statements

  -- a statement without a refusal has its tables, and is typed
  refusal_parts : (command : Command) → first_refusal tables command ≡ None → (tables_fault tables command ≡ None) × (f.is_typed tables command ≡ true)
  refusal_parts command none =
      let n1 = none_parts (tables_fault tables command) _ none in
      let n2 = none_parts (names_fault command) _ n1.1 in
      let n3 = none_parts (columns_fault tables command) _ n2.1 in
      let n4 = none_parts (sets_fault command) _ n3.1 in
      let n5 = none_parts (unless (widths_agree tables command) E15) _ n4.1 in
      (n1.0, holds_if (f.is_typed tables command) E07 n5.1)

  -- the columns of the table of an UPDATE or a DELETE
  target_resolves : (name : Bytes) → table_fault tables name ≡ None → ResolvesIn (target_scope tables name) (table_types tables (number_of_table tables name))
  target_resolves name none =
      subst (ResolvesIn (target_scope tables name)) (append-nil (table_types tables (number_of_table tables name)))
      (from_resolves tables (record { table = name; name = name } ∷ []) (ap (λ fault. option_or fault None) none))

  pub meant_is_typed : (command : Command) → is_statement command ≡ true → is_valid command ≡ true → first_refusal tables command ≡ None → statement_is_typed tables (meant_statement tables command) ≡ true
  meant_is_typed (y.create table) statement valid none = absurd (false≢true statement)
  meant_is_typed (y.begin read_committed) statement valid none = absurd (false≢true statement)
  meant_is_typed y.Command.commit statement valid none = absurd (false≢true statement)
  meant_is_typed y.rollback statement valid none = absurd (false≢true statement)
  meant_is_typed (y.insert table rows) statement valid none =
      let are = refusal_parts (y.insert table rows) none in
      rows_fill table are.0 rows (and_parts _ (list_all (list_all is_user_cell) rows) valid).1 are.1
  meant_is_typed (y.insert_select table query) statement valid none =
      let are = refusal_parts (y.insert_select table query) none in
      let n = none_parts (table_fault tables table) (query_tables_fault tables query) are.0 in
      let p = and_parts (query_is_typed tables query) (agree_with (kind_types (columns_of tables table)) (all_types query)) are.1 in
      let q = and_parts (list_all are_values (all_types query)) (list_all (block_where_is_typed tables) query && pairs_agree (all_types query)) p.0 in
      let r = and_parts (list_all (block_where_is_typed tables) query) (pairs_agree (all_types query)) q.1 in
      query_fills table n.0 query (blocks_have query n.1 q.0 r.0) p.1
  meant_is_typed (y.update table sets cond) statement valid none =
      let are = refusal_parts (y.update table sets cond) none in
      let p = and_parts (list_all (f.set_is_typed (target_scope tables table)) sets) (where_is_typed (target_scope tables table) cond) are.1 in
      let types = table_types tables (number_of_table tables table) in
      and_from (list_all (set_is_typed types) (map (set_expr_of (target_scope tables table)) sets)) (cond_is_typed types (where_of (target_scope tables table) cond))
      (sets_types (target_scope tables table) types (target_resolves table are.0) sets p.0) (meant_where (target_scope tables table) types (target_resolves table are.0) cond p.1)
  meant_is_typed (y.delete table cond) statement valid none =
      let are = refusal_parts (y.delete table cond) none in
      meant_where (target_scope tables table) (table_types tables (number_of_table tables table)) (target_resolves table are.0) cond are.1
  meant_is_typed (y.select query) statement valid none =
      let are = refusal_parts (y.select query) none in query_has query (some_query query valid) are.0 are.1

pub checked_is_typed : (tables : List Table) (command : Command) (statement : Statement) → is_statement command ≡ true → is_valid command ≡ true → checked tables command ≡ Ok statement
    → statement_is_typed tables statement ≡ true
checked_is_typed tables command statement is valid made =
    let a = accepted (first_refusal tables command) (meant_statement tables command) statement made in
    subst (λ statement. statement_is_typed tables statement ≡ true) a.1 (meant_is_typed tables command is valid a.0)

pub checked_query_is_typed : (tables : List Table) (query : Query) (select : Select) → is_valid (y.select query) ≡ true → checked_query tables query ≡ Ok select → select_is_typed tables select ≡ true
checked_query_is_typed tables query select valid made =
    let a = accepted (first_refusal tables (y.select query)) (select_of tables query) select made in
    subst (λ select. select_is_typed tables select ≡ true) a.1 (meant_is_typed tables (y.select query) refl valid a.0)
