-- Part of the statement: the text of a query of SQL. Each operator on values has its brackets; those of conditions are in the tree.
use Rattle.std.specs.Prelude.{ℕ, suc, true, false, Bool, List, [], ◌∷◌, ◌++◌, codes, get_or, slice_get, Option}
use Rattle.std.specs.Fmt.{decimal, signed_decimal}
use Rattle.std.specs.List.{concat, flat_map}
use Rattle.std.specs.Option.{option_and_then, option_map_or}
use Rattle.gp_base.specs.declared.cell.Cell.TheVariants as cell
use Rattle.gp_base.specs.declared.table.Column as table
use Rattle.gp_base.specs.declared.table.Table.{Table}
use Rattle.gp_base.specs.Catalogs.{table_names}
use Rattle.gp_base.specs.Numbered.{newline}
use Rattle.gp_base.specs.Texts.{cell_text}
use Rattle.gp_base.specs.Writing.{joined_texts}
use Rattle.gp_plantext.specs.Spelling.{cmp_text}
use Rattle.gp_sql.specs.Sql as s
use Rattle.gp_sql.specs.Sql.{SqlType, Column, Source, Alias, FromItem, Term, Terms, Test, Items, Where, Block, Query, NamedQuery, With}

-- ---- words

abbrev pub type_text : SqlType → List ℕ
type_text s.bigint = codes "BIGINT"
type_text s.varchar = codes "VARCHAR(255)"

-- before a column, and behind a source
abbrev pub prefix_text : Alias → List ℕ
prefix_text s.no_alias = []
prefix_text s.x = codes "x."
prefix_text s.y = codes "y."

abbrev pub alias_text : Alias → List ℕ
alias_text s.no_alias = []
alias_text s.x = codes " x"
alias_text s.y = codes " y"

abbrev pub materialized_text : Bool → List ℕ
materialized_text true = codes "MATERIALIZED "
materialized_text false = []

-- ---- names

-- both are there in a query that has types
abbrev pub column_name : Option Table → ℕ → List ℕ
column_name found n = option_map_or (λ (column : table.Column). column.name) (option_and_then (λ (own : Table). slice_get own.cols n) found) []

module _ (tables : List Table) where
  abbrev pub column_text : Column → List ℕ
  column_text s.identity = codes "\"$id\""
  column_text s.begins = codes "\"$from\""
  column_text s.ends = codes "\"$to\""
  column_text (s.stored table n) = concat (codes "\"" ∷ column_name (slice_get tables table) n ∷ codes "\"" ∷ [])
  column_text (s.numbered n) = concat (codes "c" ∷ decimal n ∷ [])

  abbrev pub source_text : Source → List ℕ
  source_text (s.versions table) = concat (get_or (table_names tables) table [] ∷ codes "_versions" ∷ [])
  source_text (s.step j) = concat (codes "step_" ∷ decimal j ∷ [])
  source_text (s.query n) = concat (codes "q" ∷ decimal n ∷ [])

  abbrev pub item_text : FromItem → List ℕ
  item_text item = source_text item.source ++ alias_text item.alias

  abbrev pub from_text : List FromItem → List ℕ
  from_text [] = []
  from_text (item ∷ items) = concat (codes " FROM " ∷ joined_texts item_text (codes ", ") (item ∷ items) ∷ [])

  -- ---- queries

  abbrev mutual
    pub term_text : Term → List ℕ
    term_text (s.column alias c) = prefix_text alias ++ column_text c
    term_text (s.null type) = concat (codes "CAST(NULL AS " ∷ type_text type ∷ codes ")" ∷ [])
    term_text (s.number z) = signed_decimal z
    term_text (s.cast_number z) = concat (codes "CAST(" ∷ signed_decimal z ∷ codes " AS BIGINT)" ∷ [])
    term_text (s.text text) = cell_text (cell.Text text)
    term_text (s.plus a b) = concat (codes "(" ∷ term_text a ∷ codes " + " ∷ term_text b ∷ codes ")" ∷ [])
    term_text (s.minus a b) = concat (codes "(" ∷ term_text a ∷ codes " - " ∷ term_text b ∷ codes ")" ∷ [])
    term_text (s.times a b) = concat (codes "(" ∷ term_text a ∷ codes " * " ∷ term_text b ∷ codes ")" ∷ [])
    term_text (s.negative a) = concat (codes "(- " ∷ term_text a ∷ codes ")" ∷ [])
    term_text (s.joined terms) = concat (codes "(" ∷ joined_text terms ∷ codes ")" ∷ [])
    term_text (s.case c a b) = concat (codes "CASE WHEN " ∷ test_text c ∷ codes " THEN " ∷ term_text a ∷ codes " ELSE " ∷ term_text b ∷ codes " END" ∷ [])

    -- texts with || between them
    pub joined_text : Terms → List ℕ
    joined_text s.no_terms = []
    joined_text (s.term a others) = term_text a ++ others_joined others

    pub others_joined : Terms → List ℕ
    others_joined s.no_terms = []
    others_joined (s.term a others) = concat (codes " || " ∷ term_text a ∷ others_joined others ∷ [])

    -- terms that are named from this number on
    pub named_text : ℕ → Terms → List ℕ
    named_text n s.no_terms = []
    named_text n (s.term a others) = concat (term_text a ∷ codes " AS c" ∷ decimal n ∷ others_named (suc n) others ∷ [])

    pub others_named : ℕ → Terms → List ℕ
    others_named n s.no_terms = []
    others_named n (s.term a others) = concat (codes ", " ∷ term_text a ∷ codes " AS c" ∷ decimal n ∷ others_named (suc n) others ∷ [])

    pub test_text : Test → List ℕ
    test_text (s.compare cmp a b) = concat (term_text a ∷ cmp_text cmp ∷ term_text b ∷ [])
    test_text (s.is_null a true) = concat (term_text a ∷ codes " IS NULL" ∷ [])
    test_text (s.is_null a false) = concat (term_text a ∷ codes " IS NOT NULL" ∷ [])
    test_text (s.is_true c true) = concat (test_text c ∷ codes " IS TRUE" ∷ [])
    test_text (s.is_true c false) = concat (test_text c ∷ codes " IS NOT TRUE" ∷ [])
    test_text (s.and c d) = concat (test_text c ∷ codes " AND " ∷ test_text d ∷ [])
    test_text (s.or c d) = concat (test_text c ∷ codes " OR " ∷ test_text d ∷ [])
    test_text (s.not c) = concat (codes "NOT " ∷ test_text c ∷ [])
    test_text (s.exists query) = concat (codes "EXISTS (" ∷ query_text query ∷ codes ")" ∷ [])
    test_text (s.bracket c) = concat (codes "(" ∷ test_text c ∷ codes ")" ∷ [])

    pub items_text : Items → List ℕ
    items_text s.all = codes "*"
    items_text (s.named terms) = named_text 1 terms
    items_text (s.single a) = term_text a

    pub where_text : Where → List ℕ
    where_text s.everywhere = []
    where_text (s.passing c) = concat (codes " WHERE " ∷ test_text c ∷ [])

    pub block_text : Block → List ℕ
    block_text (s.select items from cond) = concat (codes "SELECT " ∷ items_text items ∷ from_text from ∷ where_text cond ∷ [])

    pub query_text : Query → List ℕ
    query_text (s.block block) = block_text block
    query_text (s.union_all block query) = concat (block_text block ∷ codes " UNION ALL " ∷ query_text query ∷ [])

  -- ---- WITH, a line for each common table expression

  abbrev pub expression_text : NamedQuery → List ℕ
  expression_text named = concat (source_text named.name ∷ codes " AS " ∷ materialized_text named.materialized ∷ codes "(" ∷ query_text named.query ∷ codes ")" ∷ [])

  abbrev pub other_expression : NamedQuery → List ℕ
  other_expression named = concat (codes "," ∷ newline ∷ expression_text named ∷ [])

  abbrev pub expressions_text : List NamedQuery → List ℕ
  expressions_text [] = []
  expressions_text (first ∷ others) = concat (codes "WITH " ∷ expression_text first ∷ flat_map other_expression others ∷ newline ∷ [])

  abbrev pub with_text : With → List ℕ
  with_text query = concat (expressions_text query.queries ∷ query_text query.last ∷ codes ";" ∷ newline ∷ [])
