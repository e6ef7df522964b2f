-- Part of the statement: the rows that a query of SQL gives over tables of rows (ISO/IEC 9075-2). Cells are NULL, numbers and texts. Conditions have three
-- values, and WHERE, CASE and IS TRUE ask for true. Arithmetic is exact, and NULL where a result does not fit 64 bits. Where no ORDER BY is, the order of the
-- rows means nothing: contracts compare them as bags.
use Rattle.std.specs.Prelude.{ℕ, suc, ◌==◌, ◌&&◌, Bool, true, false, List, [], ◌∷◌, ◌++◌, map, filter, Option, Some, None, if◌then◌else◌, ◌+ℤ◌, ◌-ℤ◌, ◌*ℤ◌}
use Rattle.std.specs.List.{flat_map}
use Rattle.std.specs.Option.{option_to_list, unwrap_or}
use Rattle.gp_base.specs.declared.cell.Cell.{Cell}
use Rattle.gp_base.specs.declared.cell.Cell.TheVariants as cell
use Rattle.gp_expr.specs.declared.ternary.Ternary.{Ternary}
use Rattle.gp_expr.specs.Values as v
use Rattle.gp_expr.specs.Values.{on_numbers, negated, compared, known, holds, both, either, negation, tested}
use Rattle.gp_plantext.specs.Spellable.{has_item}
use Rattle.gp_sql.specs.Sql as s
use Rattle.gp_sql.specs.Sql.{Column, Source, Alias, FromItem, Term, Terms, Test, Items, Where, Block, Query, NamedQuery, With}

-- rows, and the names of their columns
pub record Relation : Type 0 where
  pub columns : List Column
  pub rows : List (List Cell)

-- ---- names

-- a row of an item of FROM
pub record Entry : Type 0 where
  pub alias : Alias
  pub columns : List Column
  pub row : List Cell

-- the rows that names may speak of, those of the innermost FROM first
abbrev pub Scope : Type 0
Scope = List Entry

abbrev pub same_column : Column → Column → Bool
same_column s.identity s.identity = true
same_column s.begins s.begins = true
same_column s.ends s.ends = true
same_column (s.stored table n) (s.stored other m) = (table == other) && (n == m)
same_column (s.numbered n) (s.numbered m) = n == m
same_column _ _ = false

abbrev pub same_source : Source → Source → Bool
same_source (s.versions n) (s.versions m) = n == m
same_source (s.step n) (s.step m) = n == m
same_source (s.query n) (s.query m) = n == m
same_source _ _ = false

abbrev pub same_alias : Alias → Alias → Bool
same_alias s.no_alias s.no_alias = true
same_alias s.x s.x = true
same_alias s.y s.y = true
same_alias _ _ = false

-- whether a name with the first alias, or without one, may be of the source with the second one
abbrev pub is_of : Alias → Alias → Bool
is_of s.no_alias _ = true
is_of alias other = same_alias alias other

abbrev pub cell_named : Column → List Column → List Cell → Option Cell
cell_named c (name ∷ names) (x ∷ row) = if same_column c name then Some x else cell_named c names row
cell_named c _ _ = None

-- a name is found in the innermost FROM that has it
abbrev pub cell_of : Alias → Column → Scope → Cell
cell_of alias c [] = cell.Null
cell_of alias c (entry ∷ scope) =
    if is_of alias entry.alias then unwrap_or (cell_named c entry.columns entry.row) (cell_of alias c scope) else cell_of alias c scope

-- the names of terms, from this number on
abbrev pub names_from : ℕ → Terms → List Column
names_from n s.no_terms = []
names_from n (s.term a others) = s.numbered n ∷ names_from (suc n) others

-- a term by itself has a name where it is a column
abbrev pub term_name : Term → Option Column
term_name (s.column alias c) = Some c
term_name _ = None

-- ---- rows

-- a text before a text, and NULL where one is none
abbrev pub joined_cells : Cell → Cell → Cell
joined_cells (cell.Text text) (cell.Text others) = cell.Text (text ++ others)
joined_cells _ _ = cell.Null

-- given what each source has
module _ (relations : Source → Relation) where
  -- each choice of a row of each item of FROM
  abbrev pub choices : List FromItem → List Scope
  choices [] = [] ∷ []
  choices (item ∷ items) =
      flat_map (λ row. map (λ scope. record { alias = item.alias; columns = (relations item.source).columns; row = row } ∷ scope) (choices items))
      (relations item.source).rows

  abbrev mutual
    pub term_value : Scope → Term → Cell
    term_value scope (s.column alias c) = cell_of alias c scope
    term_value scope (s.null type) = cell.Null
    term_value scope (s.number z) = cell.Int z
    term_value scope (s.cast_number z) = cell.Int z
    term_value scope (s.text text) = cell.Text text
    term_value scope (s.plus a b) = on_numbers ◌+ℤ◌ (term_value scope a) (term_value scope b)
    term_value scope (s.minus a b) = on_numbers ◌-ℤ◌ (term_value scope a) (term_value scope b)
    term_value scope (s.times a b) = on_numbers ◌*ℤ◌ (term_value scope a) (term_value scope b)
    term_value scope (s.negative a) = negated (term_value scope a)
    term_value scope (s.joined terms) = joined_value scope terms
    term_value scope (s.case c a b) = if holds (test_truth scope c) then term_value scope a else term_value scope b

    pub joined_value : Scope → Terms → Cell
    joined_value scope s.no_terms = cell.Text []
    joined_value scope (s.term a others) = joined_cells (term_value scope a) (joined_value scope others)

    pub term_values : Scope → Terms → List Cell
    term_values scope s.no_terms = []
    term_values scope (s.term a others) = term_value scope a ∷ term_values scope others

    pub test_truth : Scope → Test → Ternary
    test_truth scope (s.compare cmp a b) = compared cmp (term_value scope a) (term_value scope b)
    test_truth scope (s.is_null a wanted) = tested wanted (v.is_null (term_value scope a))
    test_truth scope (s.is_true c wanted) = tested wanted (holds (test_truth scope c))
    test_truth scope (s.and c d) = both (test_truth scope c) (test_truth scope d)
    test_truth scope (s.or c d) = either (test_truth scope c) (test_truth scope d)
    test_truth scope (s.not c) = negation (test_truth scope c)
    test_truth scope (s.exists query) = known (has_item (query_rows scope query))
    test_truth scope (s.bracket c) = test_truth scope c

    -- the row of a choice
    pub items_row : Scope → Scope → Items → List Cell
    items_row scope choice s.all = flat_map (λ (entry : Entry). entry.row) choice
    items_row scope choice (s.named terms) = term_values (choice ++ scope) terms
    items_row scope choice (s.single a) = term_value (choice ++ scope) a ∷ []

    pub passes_where : Scope → Where → Bool
    passes_where scope s.everywhere = true
    passes_where scope (s.passing c) = holds (test_truth scope c)

    pub block_rows : Scope → Block → List (List Cell)
    block_rows scope (s.select items from cond) =
        map (λ choice. items_row scope choice items) (filter (λ choice. passes_where (choice ++ scope) cond) (choices from))

    pub query_rows : Scope → Query → List (List Cell)
    query_rows scope (s.block block) = block_rows scope block
    query_rows scope (s.union_all block query) = block_rows scope block ++ query_rows scope query

  -- ---- the names of the columns

  abbrev pub items_names : List FromItem → Items → List Column
  items_names from s.all = flat_map (λ (item : FromItem). (relations item.source).columns) from
  items_names from (s.named terms) = names_from 1 terms
  items_names from (s.single a) = option_to_list (term_name a)

  abbrev pub block_names : Block → List Column
  block_names (s.select items from cond) = items_names from items

  -- UNION ALL has the names of its first block
  abbrev pub query_names : Query → List Column
  query_names (s.block block) = block_names block
  query_names (s.union_all block query) = block_names block

  abbrev pub query_relation : Query → Relation
  query_relation query = record { columns = query_names query; rows = query_rows [] query }

-- ---- WITH

abbrev pub with_relation : Source → Relation → (Source → Relation) → Source → Relation
with_relation name relation relations source = if same_source source name then relation else relations source

-- the sources after all of these were taken in turn
abbrev pub relations_after : List NamedQuery → (Source → Relation) → Source → Relation
relations_after [] relations = relations
relations_after (first ∷ others) relations = relations_after others (with_relation first.name (query_relation relations first.query) relations)

-- over the tables of row versions
abbrev pub rows_of : (Source → Relation) → With → List (List Cell)
rows_of tables query = query_rows (relations_after query.queries tables) [] query.last
