-- Part of the statement: which queries of SQL are spelled. Tables and columns are those of a catalogue, and the columns of a table stand as items of a SELECT from
-- this table alone. Numbers have 64 bits, and no list is empty where one is written. The operands of NOT, OR and IS TRUE need no bracket; an AND has one more on its
-- left, or none.
use Rattle.std.specs.Prelude.{◌≡◌, ◌≢◌, ℕ, pos, Bool, true, false, ◌&&◌, ◌==◌, AllPairs, List, [], ◌∷◌, map, get_or, slice_get, Option, Some, None}
use Rattle.std.specs.List.{AllByRecursion, list_all}
use Rattle.std.specs.Option.{option_map_or}
use Rattle.gp_base.specs.declared.table.Column as table
use Rattle.gp_base.specs.declared.table.Table.{Table}
use Rattle.gp_base.specs.Catalogs.{table_names}
use Rattle.gp_base.specs.Cells.{fits_number}
use Rattle.gp_base.specs.Names.{is_name}
use Rattle.gp_sql.specs.Spelling.{column_name, with_text}
use Rattle.gp_sql.specs.Sql as s
use Rattle.gp_sql.specs.Sql.{Column, Source, FromItem, Term, Terms, Test, Items, Where, Block, Query, NamedQuery, With}

abbrev pub AreDifferent : List (List ℕ) → Type 0
AreDifferent names = AllPairs (λ (name other : List ℕ). name ≢ other) names

-- no two tables have the same name, and no two columns of a table
abbrev pub HaveOwnNames : List Table → Type 0
HaveOwnNames tables = AreDifferent (table_names tables) × AllByRecursion (λ (stored : Table). AreDifferent (map (λ (column : table.Column). column.name) stored.cols)) tables

abbrev pub table_of : Source → Option ℕ
table_of (s.versions table) = Some table
table_of _ = None

-- the table, if it is read alone
abbrev pub only_table : List FromItem → Option ℕ
only_table (item ∷ []) = table_of item.source
only_table _ = None

-- what needs no bracket behind NOT, beside OR and before IS TRUE
abbrev pub is_unit : Test → Bool
is_unit (s.compare cmp a b) = true
is_unit (s.is_null a wanted) = true
is_unit (s.exists query) = true
is_unit (s.bracket c) = true
is_unit _ = false

-- what needs none on the left of AND
abbrev pub is_chain : Test → Bool
is_chain (s.and c d) = true
is_chain c = is_unit c

module _ (tables : List Table) where
  abbrev pub source_is_spelled : Source → Bool
  source_is_spelled (s.versions table) = is_name (get_or (table_names tables) table [])
  source_is_spelled (s.step j) = fits_number (pos j)
  source_is_spelled (s.query n) = fits_number (pos n)

  -- where the columns of this table, or of none, may stand
  abbrev pub column_is_spelled : Option ℕ → Column → Bool
  column_is_spelled only (s.stored table n) = option_map_or (λ own. own == table) only false && is_name (column_name (slice_get tables table) n)
  column_is_spelled only (s.numbered n) = fits_number (pos n)
  column_is_spelled only _ = true

  abbrev mutual
    pub term_is_spelled : Option ℕ → Term → Bool
    term_is_spelled only (s.column alias c) = column_is_spelled only c
    term_is_spelled only (s.null type) = true
    term_is_spelled only (s.number z) = fits_number z
    term_is_spelled only (s.cast_number z) = fits_number z
    term_is_spelled only (s.text text) = true
    term_is_spelled only (s.plus a b) = term_is_spelled None a && term_is_spelled None b
    term_is_spelled only (s.minus a b) = term_is_spelled None a && term_is_spelled None b
    term_is_spelled only (s.times a b) = term_is_spelled None a && term_is_spelled None b
    term_is_spelled only (s.negative a) = term_is_spelled None a
    term_is_spelled only (s.joined (s.term a (s.term b others))) = term_is_spelled None a && (term_is_spelled None b && terms_are_spelled None others)
    term_is_spelled only (s.joined _) = false
    term_is_spelled only (s.case c a b) = test_is_spelled c && (term_is_spelled None a && term_is_spelled None b)

    pub terms_are_spelled : Option ℕ → Terms → Bool
    terms_are_spelled only s.no_terms = true
    terms_are_spelled only (s.term a others) = term_is_spelled only a && terms_are_spelled only others

    pub test_is_spelled : Test → Bool
    test_is_spelled (s.compare cmp a b) = term_is_spelled None a && term_is_spelled None b
    test_is_spelled (s.is_null a wanted) = term_is_spelled None a
    test_is_spelled (s.is_true c wanted) = is_unit c && test_is_spelled c
    test_is_spelled (s.and c d) = (is_chain c && is_unit d) && (test_is_spelled c && test_is_spelled d)
    test_is_spelled (s.or c d) = (is_unit c && is_unit d) && (test_is_spelled c && test_is_spelled d)
    test_is_spelled (s.not c) = is_unit c && test_is_spelled c
    test_is_spelled (s.exists query) = query_is_spelled query
    test_is_spelled (s.bracket c) = test_is_spelled c

    pub items_are_spelled : Option ℕ → Items → Bool
    items_are_spelled only s.all = true
    items_are_spelled only (s.named s.no_terms) = false
    items_are_spelled only (s.named (s.term a others)) = term_is_spelled only a && terms_are_spelled only others
    items_are_spelled only (s.single a) = term_is_spelled None a

    pub where_is_spelled : Where → Bool
    where_is_spelled s.everywhere = true
    where_is_spelled (s.passing c) = test_is_spelled c

    pub block_is_spelled : Block → Bool
    block_is_spelled (s.select items from cond) =
        items_are_spelled (only_table from) items && (list_all (λ (item : FromItem). source_is_spelled item.source) from && where_is_spelled cond)

    pub query_is_spelled : Query → Bool
    query_is_spelled (s.block block) = block_is_spelled block
    query_is_spelled (s.union_all block query) = block_is_spelled block && query_is_spelled query

  abbrev pub is_spelled : With → Bool
  is_spelled query = list_all (λ (named : NamedQuery). source_is_spelled named.name && query_is_spelled named.query) query.queries && query_is_spelled query.last

-- the text of a query that is spelled
pub record SpellsQuery (tables : List Table) (query : With) (text : List ℕ) : Type 0 where
  pub spelled : is_spelled tables query ≡ true
  pub is : with_text tables query ≡ text
