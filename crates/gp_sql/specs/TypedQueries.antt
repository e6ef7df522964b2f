-- Part of the statement: which queries of SQL engines accept, by names and types (ISO/IEC 9075-2). The sources of a query are the tables of row versions and the
-- common table expressions before it, each with a name of its own. A column name refers to exactly one column in scope. Both sides of UNION ALL have equally many
-- columns. Values are numbers or texts, which comparisons, CASE and UNION ALL never mix. A number without a cast is an INTEGER, which an engine adds in 32 bits; so
-- the left operand of +, - and * is a BIGINT. `Meaning` is total: it gives rows also to queries that engines refuse, or compute otherwise.
use Rattle.std.specs.Prelude.{ℕ, suc, Bool, true, false, ◌&&◌, List, [], ◌∷◌, ◌++◌, Option, Some, None, is_some, slice_get, if◌then◌else◌}
use Rattle.std.specs.List.{flat_map, list_any}
use Rattle.std.specs.Option.{option_and_then, option_map, option_map_or}
use Rattle.gp_base.specs.declared.table.Column as t
use Rattle.gp_base.specs.declared.table.Kind.{Kind}
use Rattle.gp_base.specs.declared.table.Kind.TheVariants as kind
use Rattle.gp_base.specs.declared.table.Table.{Table}
use Rattle.gp_sql.specs.Meaning.{is_of, same_alias, same_column, same_source, term_name}
use Rattle.gp_sql.specs.Sql as s
use Rattle.gp_sql.specs.Sql.{SqlType, Column, Source, Alias, FromItem, Term, Terms, Test, Items, Where, Block, Query, NamedQuery, With}

pub data ValueType : Type 0 where
  integer bigint varchar : ValueType

-- a column of a source; the column of a term by itself has a name only where the term is a column
pub record TypedColumn : Type 0 where
  pub name : Option Column
  pub type : ValueType

-- an item of FROM
pub record Entry : Type 0 where
  pub alias : Alias
  pub columns : List TypedColumn

-- the items that names may speak of, those of the innermost FROM first
abbrev pub Scope : Type 0
Scope = List Entry

-- the columns of each source that is there
abbrev pub Sources : Type 0
Sources = Source → Option (List TypedColumn)

-- ---- types

abbrev pub cast_type : SqlType → ValueType
cast_type s.bigint = bigint
cast_type s.varchar = varchar

-- the type of a column, or of a comparison, that has values of both
abbrev pub common : ValueType → ValueType → Option ValueType
common varchar varchar = Some varchar
common integer integer = Some integer
common integer bigint = Some bigint
common bigint integer = Some bigint
common bigint bigint = Some bigint
common _ _ = None

-- in 64 bits
abbrev pub arithmetic : ValueType → ValueType → Option ValueType
arithmetic bigint bigint = Some bigint
arithmetic bigint integer = Some bigint
arithmetic _ _ = None

-- none where one has none
abbrev pub of_both : {A : Type 0} → (A → A → Option A) → Option A → Option A → Option A
of_both common a b = option_and_then (λ x. option_and_then (common x) b) a

abbrev pub is_text : Option ValueType → Bool
is_text (Some varchar) = true
is_text _ = false

-- ---- columns

-- the types of the columns of this name
abbrev pub types_named : Column → List TypedColumn → List ValueType
types_named c [] = []
types_named c (column ∷ columns) = if option_map_or (same_column c) column.name false then column.type ∷ types_named c columns else types_named c columns

abbrev pub types_in : Scope → Alias → Column → List ValueType
types_in scope alias c = flat_map (λ (entry : Entry). if is_of alias entry.alias then types_named c entry.columns else []) scope

-- a name that one column has, and no other
abbrev pub only : List ValueType → Option ValueType
only (type ∷ []) = Some type
only _ = None

abbrev pub column_before : Option Column → Option ValueType → Option (List TypedColumn) → Option (List TypedColumn)
column_before name type columns = option_and_then (λ own. option_map (λ others. record { name = name; type = own } ∷ others) columns) type

-- UNION ALL: equally many columns on both sides, of types in common; the names are those of the first side
abbrev pub united : List TypedColumn → List TypedColumn → Option (List TypedColumn)
united [] [] = Some []
united (a ∷ columns) (b ∷ others) = column_before a.name (common a.type b.type) (united columns others)
united _ _ = None

-- ---- FROM

-- an item before others, of which none has its alias
abbrev pub item_before : Alias → Option (List TypedColumn) → Option Scope → Option Scope
item_before alias columns scope =
    option_and_then (λ own. option_and_then (λ others.
    if list_any (λ (entry : Entry). same_alias alias entry.alias) others then None else Some (record { alias = alias; columns = own } ∷ others)) scope) columns

-- ---- queries over these sources

module _ (sources : Sources) where
  abbrev pub from_scope : List FromItem → Option Scope
  from_scope [] = Some []
  from_scope (item ∷ items) = item_before item.alias (sources item.source) (from_scope items)

  abbrev mutual
    pub term_type : Scope → Term → Option ValueType
    term_type scope (s.column alias c) = only (types_in scope alias c)
    term_type scope (s.null type) = Some (cast_type type)
    term_type scope (s.number z) = Some integer
    term_type scope (s.cast_number z) = Some bigint
    term_type scope (s.text text) = Some varchar
    term_type scope (s.plus a b) = of_both arithmetic (term_type scope a) (term_type scope b)
    term_type scope (s.minus a b) = of_both arithmetic (term_type scope a) (term_type scope b)
    term_type scope (s.times a b) = of_both arithmetic (term_type scope a) (term_type scope b)
    term_type scope (s.negative a) = of_both arithmetic (term_type scope a) (term_type scope a)
    term_type scope (s.joined terms) = if are_texts scope terms then Some varchar else None
    term_type scope (s.case c a b) = if test_is_typed scope c then of_both common (term_type scope a) (term_type scope b) else None

    pub are_texts : Scope → Terms → Bool
    are_texts scope s.no_terms = true
    are_texts scope (s.term a others) = is_text (term_type scope a) && are_texts scope others

    pub test_is_typed : Scope → Test → Bool
    test_is_typed scope (s.compare cmp a b) = is_some (of_both common (term_type scope a) (term_type scope b))
    test_is_typed scope (s.is_null a wanted) = is_some (term_type scope a)
    test_is_typed scope (s.is_true c wanted) = test_is_typed scope c
    test_is_typed scope (s.and c d) = test_is_typed scope c && test_is_typed scope d
    test_is_typed scope (s.or c d) = test_is_typed scope c && test_is_typed scope d
    test_is_typed scope (s.not c) = test_is_typed scope c
    test_is_typed scope (s.exists query) = is_some (query_columns scope query)
    test_is_typed scope (s.bracket c) = test_is_typed scope c

    -- terms that are named from this number on
    pub named_columns : Scope → ℕ → Terms → Option (List TypedColumn)
    named_columns scope n s.no_terms = Some []
    named_columns scope n (s.term a others) = column_before (Some (s.numbered n)) (term_type scope a) (named_columns scope (suc n) others)

    -- over the items of its own FROM
    pub items_columns : Scope → Scope → Items → Option (List TypedColumn)
    items_columns scope own s.all = Some (flat_map (λ (entry : Entry). entry.columns) own)
    items_columns scope own (s.named terms) = named_columns (own ++ scope) 1 terms
    items_columns scope own (s.single a) = column_before (term_name a) (term_type (own ++ scope) a) (Some [])

    pub where_is_typed : Scope → Where → Bool
    where_is_typed scope s.everywhere = true
    where_is_typed scope (s.passing c) = test_is_typed scope c

    pub block_columns : Scope → Block → Option (List TypedColumn)
    block_columns scope (s.select items from cond) =
        option_and_then (λ own. if where_is_typed (own ++ scope) cond then items_columns scope own items else None) (from_scope from)

    pub query_columns : Scope → Query → Option (List TypedColumn)
    query_columns scope (s.block block) = block_columns scope block
    query_columns scope (s.union_all block query) = of_both united (block_columns scope block) (query_columns scope query)

-- ---- WITH

abbrev pub with_source : Source → List TypedColumn → Sources → Sources
with_source name columns sources source = if same_source source name then Some columns else sources source

-- the name of a common table expression is that of no source
abbrev pub named : Source → Option (List TypedColumn) → Option (List TypedColumn) → Sources → Option Sources
named name earlier columns sources = if is_some earlier then None else option_map (λ own. with_source name own sources) columns

-- the sources after all of these were taken in turn
abbrev pub sources_after : List NamedQuery → Sources → Option Sources
sources_after [] sources = Some sources
sources_after (first ∷ others) sources =
    option_and_then (sources_after others) (named first.name (sources first.name) (query_columns sources [] first.query) sources)

-- ---- tables of row versions

abbrev pub kind_type : Kind → ValueType
kind_type kind.Int = bigint
kind_type kind.Text = varchar

-- the columns of a table from this one on
abbrev pub stored_columns : ℕ → ℕ → List t.Column → List TypedColumn
stored_columns table n [] = []
stored_columns table n (column ∷ columns) = record { name = Some (s.stored table n); type = kind_type column.kind } ∷ stored_columns table (suc n) columns

abbrev pub version_columns : ℕ → Table → List TypedColumn
version_columns table stored =
    record { name = Some s.identity; type = varchar } ∷ record { name = Some s.begins; type = bigint } ∷ record { name = Some s.ends; type = bigint }
    ∷ stored_columns table 0 stored.cols

abbrev pub version_sources : List Table → Sources
version_sources tables (s.versions table) = option_map (version_columns table) (slice_get tables table)
version_sources tables _ = None

-- a query over the tables of row versions of a catalogue
abbrev pub is_well_typed : List Table → With → Bool
is_well_typed tables query =
    is_some (option_and_then (λ sources. query_columns sources [] query.last) (sources_after query.queries (version_sources tables)))
