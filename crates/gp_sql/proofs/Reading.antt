-- Queries read from their texts. What stands behind an open bracket is read once, as a term or a condition, and the words behind it decide. The columns of a table
-- are read as those of a table that is given; a block is read up to its FROM, and then its items again, as of the table there.
use Rattle.gp_sql.proofs.Prelude.{ℕ, zero, suc, ◌-◌, Bool, true, false, eqb, List, [], ◌∷◌, length, take, drop, map, Some, None, option_and_then, ℤ, codes, if◌then◌else◌, slice_get, decimal, option_map, bytes_eq, Cell, Table, table_names, is_digit, if_there, Cmp, Read, with_rest, behind, name_at, text_at, most_u64, number_at}
use Rattle.std.proofs.Common.{◌||◌, Option}
use Rattle.gp_base.proofs.DigitLemmas.{fold_on}
use Rattle.gp_base.specs.declared.cell.Cell.TheVariants as cell
use Rattle.gp_base.specs.declared.table.Column as table
use Rattle.gp_expr.specs.declared.expr.Cmp.TheVariants as cmp
use Rattle.gp_plantext.specs.Leaves.{cell_at}
use Rattle.gp_sql.specs.Sql as s
use Rattle.gp_sql.specs.Sql.{SqlType, Column, Source, Alias, FromItem, Term, Terms, Test, Items, Where, Block, Query, NamedQuery, With}
use Rattle.gp_sql.specs.Spelled.{only_table}

-- ---- names

-- the place of a name, or the number of names
abbrev pub place_in : List (List ℕ) → List ℕ → ℕ
place_in [] word = 0
place_in (name ∷ names) word = if bytes_eq name word then 0 else suc (place_in names word)

abbrev pub column_names : Option Table → List (List ℕ)
column_names None = []
column_names (Some found) = map (λ (column : table.Column). column.name) found.cols

abbrev pub last_byte : ℕ → List ℕ → ℕ
last_byte byte [] = byte
last_byte byte (next ∷ bytes) = last_byte next bytes

abbrev pub numbered_source : Option (List ℕ) → List ℕ → Source
numbered_source (Some digits) word = s.step (fold_on 0 digits)
numbered_source None word = s.query (fold_on 0 (drop 1 word))

-- the number of a step or a query is last in its name; the name of a table is before _versions
abbrev pub source_of : List Table → List ℕ → Source
source_of tables word =
    if is_digit (last_byte 0 word) then numbered_source (behind (codes "step_") word) word else s.versions (place_in (table_names tables) (take (length word - 9) word))

abbrev pub source_at : List Table → List ℕ → Read Source
source_at tables bytes = Some (source_of tables (name_at bytes).0, (name_at bytes).1)

abbrev pub table_or_first : Option ℕ → ℕ
table_or_first None = 0
table_or_first (Some table) = table

-- ---- lists

-- what is read behind each separator
abbrev pub many_at : {X : Type 0} → (List ℕ → Read X) → List ℕ → ℕ → List ℕ → Read (List X)
many_at read separator zero bytes = Some ([], bytes)
many_at {X} read separator (suc k) bytes =
    if_there (behind separator bytes) (λ rest.
    option_and_then (λ (x : X × List ℕ).
    option_and_then (λ (y : List X × List ℕ). Some (x.0 ∷ y.0, y.1))
    (many_at read separator k x.1)) (read rest)) (Some ([], bytes))

-- ---- parts

-- what is behind a bracket, NOT, SELECT or another word: a term, a condition, - and a term, or *
pub data Part : Type 0 where
  term opposite : Term → Part
  test : Test → Part
  star : Part

abbrev pub as_term : Part × List ℕ → Read Term
as_term (term a, rest) = Some (a, rest)
as_term (opposite a, rest) = None
as_term (test c, rest) = None
as_term (star, rest) = None

abbrev pub as_number : Cell × List ℕ → Read ℤ
as_number (cell.Int z, rest) = Some (z, rest)
as_number (x, rest) = None

abbrev pub signed_at : List ℕ → Read ℤ
signed_at bytes = option_and_then as_number (cell_at (length bytes) bytes)

abbrev pub begins_number : List ℕ → Bool
begins_number [] = false
begins_number (byte ∷ bytes) = is_digit byte || eqb 45 byte

abbrev pub cmp_at : List ℕ → Read Cmp
cmp_at bytes =
    if_there (behind (codes " = ") bytes) (λ rest. Some (cmp.Eq, rest))
    (if_there (behind (codes " <> ") bytes) (λ rest. Some (cmp.Ne, rest))
    (if_there (behind (codes " < ") bytes) (λ rest. Some (cmp.Lt, rest))
    (if_there (behind (codes " <= ") bytes) (λ rest. Some (cmp.Le, rest))
    (if_there (behind (codes " > ") bytes) (λ rest. Some (cmp.Gt, rest))
    (if_there (behind (codes " >= ") bytes) (λ rest. Some (cmp.Ge, rest)) None)))))

abbrev pub cast_at : List ℕ → Read Part
cast_at bytes =
    if begins_number bytes then option_and_then (λ (x : ℤ × List ℕ). with_rest (term (s.cast_number x.0)) (behind (codes " AS BIGINT)") x.1)) (signed_at bytes) else
    (if_there (behind (codes "NULL AS BIGINT)") bytes) (λ rest. Some (term (s.null s.bigint), rest))
    (if_there (behind (codes "NULL AS VARCHAR(255))") bytes) (λ rest. Some (term (s.null s.varchar), rest)) None))

module _ (tables : List Table) where
  abbrev pub column_at : ℕ → List ℕ → Read Column
  column_at only bytes =
      if_there (behind (codes "\"$id\"") bytes) (λ rest. Some (s.identity, rest))
      (if_there (behind (codes "\"$from\"") bytes) (λ rest. Some (s.begins, rest))
      (if_there (behind (codes "\"$to\"") bytes) (λ rest. Some (s.ends, rest))
      (if_there (behind (codes "\"") bytes) (λ rest. Some (s.stored only (place_in (column_names (slice_get tables only)) (name_at rest).0), drop 1 (name_at rest).1))
      (if_there (behind (codes "c") bytes) (λ rest. Some (s.numbered (number_at most_u64 rest).0, (number_at most_u64 rest).1)) None))))

  abbrev pub column_of : Alias → Read Column → Read Part
  column_of alias = option_map (λ (x : Column × List ℕ). (term (s.column alias x.0), x.1))

  abbrev pub named_column_at : ℕ → List ℕ → Read Part
  named_column_at only bytes =
      if_there (behind (codes "x.") bytes) (λ rest. column_of s.x (column_at only rest))
      (if_there (behind (codes "y.") bytes) (λ rest. column_of s.y (column_at only rest))
      (column_of s.no_alias (column_at only bytes)))

-- ---- conditions and terms, where parts and queries can be read, so many in a row

module _ (read : List ℕ → Read Part) (most : ℕ) where
  abbrev pub term_at : List ℕ → Read Term
  term_at bytes = option_and_then as_term (read bytes)

  abbrev pub compared : Term → Cmp × List ℕ → Read Test
  compared a x = option_and_then (λ (y : Term × List ℕ). Some (s.compare x.0 a y.0, y.1)) (term_at x.1)

  -- a unit, of which this part is the first
  abbrev pub unit_on : Part × List ℕ → Read Test
  unit_on (test c, rest) = Some (c, rest)
  unit_on (opposite a, rest) = None
  unit_on (star, rest) = None
  unit_on (term a, rest) =
      if_there (behind (codes " IS NULL") rest) (λ after. Some (s.is_null a true, after))
      (if_there (behind (codes " IS NOT NULL") rest) (λ after. Some (s.is_null a false, after))
      (option_and_then (compared a) (cmp_at rest)))

  abbrev pub unit_at : List ℕ → Read Test
  unit_at bytes = option_and_then unit_on (read bytes)

  -- behind units with AND between them
  unfoldable pub tail_on : Test × List ℕ → Read Test
  tail_on x =
      if_there (behind (codes " IS TRUE") x.1) (λ rest. Some (s.is_true x.0 true, rest))
      (if_there (behind (codes " IS NOT TRUE") x.1) (λ rest. Some (s.is_true x.0 false, rest))
      (if_there (behind (codes " OR ") x.1) (λ rest. option_and_then (λ (y : Test × List ℕ). Some (s.or x.0 y.0, y.1)) (unit_at rest))
      (Some x)))

  -- behind AND
  abbrev pub chain_on : ℕ → Test → List ℕ → Read Test
  chain_on zero c bytes = None
  chain_on (suc k) c bytes =
      option_and_then (λ (x : Test × List ℕ). if_there (behind (codes " AND ") x.1) (λ rest. chain_on k (s.and c x.0) rest) (tail_on (s.and c x.0, x.1))) (unit_at bytes)

  -- behind the first unit of a condition
  abbrev pub more_on : ℕ → Test × List ℕ → Read Test
  more_on k x = if_there (behind (codes " AND ") x.1) (λ rest. chain_on k x.0 rest) (tail_on x)

  abbrev pub rest_on : Part × List ℕ → Read Test
  rest_on x = option_and_then (more_on most) (unit_on x)

  abbrev pub test_at : List ℕ → Read Test
  test_at bytes = option_and_then rest_on (read bytes)

  abbrev pub close : Test × List ℕ → Read Part
  close x = with_rest (test (s.bracket x.0)) (behind (codes ")") x.1)

  abbrev pub operated : (Term → Term → Term) → Term → List ℕ → Read Part
  operated op a bytes = option_and_then (λ (x : Term × List ℕ). with_rest (term (op a x.0)) (behind (codes ")") x.1)) (term_at bytes)

  -- terms behind ||
  abbrev pub joined_at : ℕ → List ℕ → Read Terms
  joined_at zero bytes = Some (s.no_terms, bytes)
  joined_at (suc k) bytes =
      if_there (behind (codes " || ") bytes) (λ rest.
      option_and_then (λ (x : Term × List ℕ).
      option_and_then (λ (y : Terms × List ℕ). Some (s.term x.0 y.0, y.1))
      (joined_at k x.1)) (term_at rest)) (Some (s.no_terms, bytes))

  abbrev pub joined_on : Term → List ℕ → Read Part
  joined_on a bytes = option_and_then (λ (x : Terms × List ℕ). with_rest (term (s.joined (s.term a x.0))) (behind (codes ")") x.1)) (joined_at most bytes)

  -- behind the first part in a bracket
  unfoldable pub first_on : Part × List ℕ → Read Part
  first_on (test c, rest) = option_and_then close (rest_on (test c, rest))
  first_on (opposite a, rest) = with_rest (term (s.negative a)) (behind (codes ")") rest)
  first_on (star, rest) = None
  first_on (term a, rest) =
      if_there (behind (codes " + ") rest) (operated s.plus a)
      (if_there (behind (codes " - ") rest) (operated s.minus a)
      (if_there (behind (codes " * ") rest) (operated s.times a)
      (if_there (behind (codes " || ") rest) (λ after. joined_on a rest)
      (option_and_then close (rest_on (term a, rest))))))

  abbrev pub bracket_at : List ℕ → Read Part
  bracket_at bytes = option_and_then first_on (read bytes)

  abbrev pub opposite_at : List ℕ → Read Part
  opposite_at bytes = option_map (λ (x : Term × List ℕ). (opposite x.0, x.1)) (term_at bytes)

  abbrev pub not_at : List ℕ → Read Part
  not_at bytes = option_map (λ (x : Test × List ℕ). (test (s.not x.0), x.1)) (unit_at bytes)

  abbrev pub term_before : List ℕ → List ℕ → Read Term
  term_before words bytes = option_and_then (λ (x : Term × List ℕ). with_rest x.0 (behind words x.1)) (term_at bytes)

  abbrev pub case_at : List ℕ → Read Part
  case_at bytes =
      option_and_then (λ (x : Test × List ℕ).
      if_there (behind (codes " THEN ") x.1) (λ rest.
      option_and_then (λ (y : Term × List ℕ).
      option_and_then (λ (z : Term × List ℕ). Some (term (s.case x.0 y.0 z.0), z.1))
      (term_before (codes " END") y.1)) (term_before (codes " ELSE ") rest)) None) (test_at bytes)

  unfoldable pub part_by : List Table → (List ℕ → Read Query) → ℕ → List ℕ → Read Part
  part_by tables query only bytes =
      if_there (behind (codes "- ") bytes) opposite_at
      (if begins_number bytes then option_map (λ (x : ℤ × List ℕ). (term (s.number x.0), x.1)) (signed_at bytes) else
      (if_there (behind (codes "'") bytes) (λ rest. option_map (λ (x : List ℕ × List ℕ). (term (s.text x.0), x.1)) (text_at rest))
      (if_there (behind (codes "CAST(") bytes) cast_at
      (if_there (behind (codes "CASE WHEN ") bytes) case_at
      (if_there (behind (codes "EXISTS (") bytes) (λ rest. option_and_then (λ (x : Query × List ℕ). with_rest (test (s.exists x.0)) (behind (codes ")") x.1)) (query rest))
      (if_there (behind (codes "NOT ") bytes) not_at
      (if_there (behind (codes "(") bytes) bracket_at
      (if_there (behind (codes "*") bytes) (λ rest. Some (star, rest))
      (named_column_at tables only bytes)))))))))

  -- ---- blocks

  -- items behind others, from this number on
  abbrev pub others_at : ℕ → ℕ → List ℕ → Read Terms
  others_at zero n bytes = Some (s.no_terms, bytes)
  others_at (suc k) n bytes =
      if_there (behind (codes ", ") bytes) (λ rest.
      option_and_then (λ (x : Term × List ℕ).
      if_there (behind (codes " AS c") x.1) (λ number.
      if_there (behind (decimal n) number) (λ after.
      option_and_then (λ (y : Terms × List ℕ). Some (s.term x.0 y.0, y.1))
      (others_at k (suc n) after)) None) None) (term_at rest)) (Some (s.no_terms, bytes))

  abbrev pub items_on : Part × List ℕ → Read Items
  items_on (test c, rest) = None
  items_on (opposite a, rest) = None
  items_on (star, rest) = Some (s.all, rest)
  items_on (term a, rest) =
      if_there (behind (codes " AS c") rest) (λ number.
      if_there (behind (decimal 1) number) (λ after.
      option_and_then (λ (y : Terms × List ℕ). Some (s.named (s.term a y.0), y.1))
      (others_at most 2 after)) None) (Some (s.single a, rest))

  abbrev pub items_at : List ℕ → Read Items
  items_at bytes = option_and_then items_on (read bytes)

  abbrev pub where_at : List ℕ → Read Where
  where_at bytes = if_there (behind (codes " WHERE ") bytes) (λ rest. option_map (λ (x : Test × List ℕ). (s.passing x.0, x.1)) (test_at rest)) (Some (s.everywhere, bytes))

module _ (tables : List Table) where
  abbrev pub item_with : Source × List ℕ → Read FromItem
  item_with x =
      if_there (behind (codes " x") x.1) (λ rest. Some (record { source = x.0; alias = s.x }, rest))
      (if_there (behind (codes " y") x.1) (λ rest. Some (record { source = x.0; alias = s.y }, rest))
      (Some (record { source = x.0; alias = s.no_alias }, x.1)))

  abbrev pub item_at : List ℕ → Read FromItem
  item_at bytes = option_and_then item_with (source_at tables bytes)

  abbrev pub from_at : ℕ → List ℕ → Read (List FromItem)
  from_at most bytes =
      if_there (behind (codes " FROM ") bytes) (λ rest.
      option_and_then (λ (x : FromItem × List ℕ).
      option_and_then (λ (y : List FromItem × List ℕ). Some (x.0 ∷ y.0, y.1))
      (many_at item_at (codes ", ") most x.1)) (item_at rest)) (Some ([], bytes))

  -- where parts can be read with the columns of a table
  module _ (read : ℕ → List ℕ → Read Part) (most : ℕ) where
    unfoldable pub block_at : List ℕ → Read Block
    block_at bytes =
        option_and_then (λ (x : Items × List ℕ).
        option_and_then (λ (y : List FromItem × List ℕ).
        option_and_then (λ (z : Items × List ℕ).
        option_and_then (λ (w : Where × List ℕ). Some (s.select z.0 y.0 w.0, w.1))
        (where_at (read 0) most y.1)) (items_at (read (table_or_first (only_table y.0))) most bytes)) (from_at most x.1)) (items_at (read 0) most bytes)

    unfoldable pub query_by : (List ℕ → Read Query) → List ℕ → Read Query
    query_by query bytes =
        if_there (behind (codes "SELECT ") bytes) (λ rest.
        option_and_then (λ (x : Block × List ℕ).
        if_there (behind (codes " UNION ALL ") x.1) (λ after. option_map (λ (y : Query × List ℕ). (s.union_all x.0 y.0, y.1)) (query after))
        (Some (s.block x.0, x.1))) (block_at rest)) None

  pub record Readers : Type 0 where
    pub part : ℕ → List ℕ → Read Part
    pub query : List ℕ → Read Query

  abbrev pub next_readers : ℕ → Readers → Readers
  next_readers n inner = record {
    part = λ table bytes. part_by (inner.part table) n tables inner.query table bytes;
    query = λ bytes. query_by inner.part n inner.query bytes;
  }

  -- what is read within so many steps
  unfoldable pub readers : ℕ → Readers
  readers zero = record { part = λ table bytes. None; query = λ bytes. None }
  readers (suc n) = next_readers n (readers n)

-- ---- whole queries

module _ (tables : List Table) (n : ℕ) where
  abbrev pub query_at : List ℕ → Read Query
  query_at bytes = (readers tables n).query bytes

  abbrev pub expression_of : Source → Bool → List ℕ → Read NamedQuery
  expression_of name materialized bytes =
      option_and_then (λ (x : Query × List ℕ). with_rest (record { name = name; materialized = materialized; query = x.0 }) (behind (codes ")") x.1)) (query_at bytes)

  abbrev pub expression_on : Source × List ℕ → Read NamedQuery
  expression_on x =
      if_there (behind (codes " AS (") x.1) (expression_of x.0 false)
      (if_there (behind (codes " AS MATERIALIZED (") x.1) (expression_of x.0 true) None)

  abbrev pub expression_at : List ℕ → Read NamedQuery
  expression_at bytes = option_and_then expression_on (source_at tables bytes)

  abbrev pub expressions_at : List ℕ → Read (List NamedQuery)
  expressions_at bytes =
      option_and_then (λ (x : NamedQuery × List ℕ).
      option_and_then (λ (y : List NamedQuery × List ℕ). with_rest (x.0 ∷ y.0) (behind (codes "\n") y.1))
      (many_at expression_at (codes ",\n") n x.1)) (expression_at bytes)

  abbrev pub last_at : List NamedQuery → List ℕ → Option With
  last_at queries bytes = option_map (λ (x : Query × List ℕ). record { queries = queries; last = x.0 }) (query_at bytes)

  unfoldable pub with_at : List ℕ → Option With
  with_at bytes =
      if_there (behind (codes "WITH ") bytes) (λ rest. option_and_then (λ (x : List NamedQuery × List ℕ). last_at x.0 x.1) (expressions_at rest)) (last_at [] bytes)
