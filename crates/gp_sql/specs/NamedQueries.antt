-- Of the contract of `write_query`: the query of SQL of a plain program that has types. Each query in it is a common table expression, and no query stands inside of
-- another one: the outermost query of step j is step_j, the others are q1, q2, .., in the order in which they end, and the query of the last line stands
-- behind them. So the text is as long as the program is.
use Rattle.std.specs.Prelude.{ℕ, zero, suc, Bool, true, false, ◌||◌, List, [], ◌∷◌, ◌++◌, length, take, drop, pos, Option, Some, None}
use Rattle.gp_base.specs.declared.cell.Cell.{Cell}
use Rattle.gp_base.specs.declared.table.Table.{Table}
use Rattle.gp_expr.specs.declared.expr.Cmp.TheVariants.{Eq, Le, Lt}
use Rattle.gp_algebra.specs.Plain as p
use Rattle.gp_algebra.specs.Plain.{Plain, PlainStep, PlainProgram}
use Rattle.gp_algebra.specs.Statements.{width_of}
use Rattle.gp_sql.specs.declared.cell_type.CellType.{CellType}
use Rattle.gp_sql.specs.Sql as s
use Rattle.gp_sql.specs.Sql.{Alias, Source, FromItem, Terms, Test, Block, Query, NamedQuery, With}
use Rattle.gp_sql.specs.Translation.{cond_test, exprs_terms, cells_terms}
use Rattle.gp_sql.specs.Types.{StepTypes, query_types, no_types, with_types, steps_types}

-- ---- blocks

abbrev pub from : Alias → Source → List FromItem
from alias source = record { source = source; alias = alias } ∷ []

abbrev pub all_of : Source → Block
all_of source = s.select s.all (from s.no_alias source) s.everywhere

-- a SCAN: the columns of a table, its identity and the mark NO, of the row versions that hold the version
abbrev pub stored_terms : ℕ → ℕ → ℕ → Terms
stored_terms table n zero = s.term (s.column s.no_alias s.identity) (s.term (s.number (pos 0)) s.no_terms)
stored_terms table n (suc count) = s.term (s.column s.no_alias (s.stored table n)) (stored_terms table (suc n) count)

abbrev pub holding : ℕ → Test
holding version =
    s.and (s.compare Le (s.column s.no_alias s.begins) (s.number (pos version)))
    (s.bracket (s.or (s.is_null (s.column s.no_alias s.ends) true) (s.compare Lt (s.number (pos version)) (s.column s.no_alias s.ends))))

abbrev pub scanned : ℕ → ℕ → ℕ → Block
scanned table width version = s.select (s.named (stored_terms table 0 width)) (from s.no_alias (s.versions table)) (s.passing (holding version))

-- a PRODUCT: so many columns of the source, this one first, before other terms
abbrev pub columns_of : Alias → ℕ → ℕ → Terms → Terms
columns_of alias n zero others = others
columns_of alias n (suc count) others = s.term (s.column alias (s.numbered n)) (columns_of alias (suc n) count others)

abbrev pub crossed : ℕ → ℕ → Source → Source → Block
crossed width other left right =
    s.select (s.named (columns_of s.x 1 width (columns_of s.y 1 other s.no_terms))) (from s.x left ++ from s.y right) s.everywhere

-- VALUES, whose columns have these types
abbrev pub given_block : List CellType → List Cell → Block
given_block due row = s.select (s.named (cells_terms due row)) [] s.everywhere

abbrev pub given_query : List CellType → List Cell → List (List Cell) → Query
given_query due row [] = s.block (given_block due row)
given_query due row (next ∷ rows) = s.union_all (given_block due row) (given_query due next rows)

abbrev pub values_query : List CellType → List (List Cell) → Query
values_query due [] = s.block (given_block due [])
values_query due (row ∷ rows) = given_query due row rows

-- a PUBLISH: the identity is column n, and the mark is the next one
abbrev pub is_marked : ℕ → Test
is_marked n = s.compare Eq (s.column s.no_alias (s.numbered (suc n))) (s.number (pos 1))

-- no row of the source has the identity of row x
abbrev pub is_missing : ℕ → Source → Test
is_missing n source =
    s.not (s.exists (s.block (s.select (s.single (s.number (pos 1))) (from s.y source)
    (s.passing (s.compare Eq (s.column s.y (s.numbered n)) (s.column s.x (s.numbered n)))))))

-- the identities that are written: of the marked rows of mine, and of base where mine has them not
abbrev pub written_query : ℕ → Source → Source → Query
written_query n base mine =
    s.union_all (s.select (s.single (s.column s.no_alias (s.numbered n))) (from s.no_alias mine) (s.passing (is_marked n)))
    (s.block (s.select (s.single (s.column s.x (s.numbered n))) (from s.x base) (s.passing (is_missing n mine))))

-- the rows of later whose identities are not written, and the marked rows of mine
abbrev pub published_query : ℕ → Source → Source → Source → Query
published_query n written mine later =
    s.union_all (s.select s.all (from s.x later) (s.passing (is_missing n written)))
    (s.block (s.select s.all (from s.no_alias mine) (s.passing (is_marked n))))

-- ---- queries

-- a plain query: its own query, the named ones that this reads, and the number of the next one
pub record Translated : Type 0 where
  pub before : List NamedQuery
  pub query : Query
  pub next : ℕ

-- named queries, the source of the last one, and the number of the next one
pub record Operand : Type 0 where
  pub before : List NamedQuery
  pub source : Source
  pub next : ℕ

-- what stands in a PUBLISH, and each PROJECT, is materialized: else an engine puts the expressions of one into the next
abbrev pub is_projection : Plain → Bool
is_projection (p.project query exprs) = true
is_projection _ = false

-- a query that another one reads; a step has its name
abbrev pub operand : Bool → Plain → Translated → Operand
operand in_publish (p.step j) translation = record { before = []; source = s.step j; next = translation.next }
operand in_publish plain translation = record {
  before = translation.before ++ record { name = s.query translation.next; materialized = in_publish || is_projection plain; query = translation.query } ∷ [];
  source = s.query translation.next;
  next = suc translation.next;
}

abbrev pub known_types : Option (List CellType) → List CellType
known_types None = []
known_types (Some types) = types

-- over the tables of a catalogue, and steps of these types
module _ (tables : List Table) (steps : StepTypes) where
  abbrev pub types_of : Plain → List CellType
  types_of plain = known_types (query_types tables steps plain)

  -- a column that is NULL everywhere is cast to the type that is due; the next query has this number
  abbrev pub translated : List CellType → Plain → ℕ → Translated
  translated due (p.scan table version) n = record { before = []; query = s.block (scanned table (width_of tables table) version); next = n }
  translated due (p.step j) n = record { before = []; query = s.block (all_of (s.step j)); next = n }
  translated due (p.select query c) n =
      let a = operand false query (translated due query n) in
      record { before = a.before; query = s.block (s.select s.all (from s.no_alias a.source) (s.passing (cond_test (types_of query) c))); next = a.next }
  translated due (p.project query exprs) n =
      let a = operand false query (translated (types_of query) query n) in
      record { before = a.before; query = s.block (s.select (s.named (exprs_terms (types_of query) due exprs)) (from s.no_alias a.source) s.everywhere); next = a.next }
  translated due (p.product left right) n =
      let a = operand false left (translated (take (length (types_of left)) due) left n) in
      let b = operand false right (translated (drop (length (types_of left)) due) right a.next) in
      record { before = a.before ++ b.before; query = s.block (crossed (length (types_of left)) (length (types_of right)) a.source b.source); next = b.next }
  translated due (p.union left right) n =
      let a = operand false left (translated due left n) in
      let b = operand false right (translated due right a.next) in
      record { before = a.before ++ b.before; query = s.union_all (all_of a.source) (s.block (all_of b.source)); next = b.next }
  translated due (p.given rows) n = record { before = []; query = values_query due rows; next = n }
  translated due (p.publish at base mine later) n =
      let a = operand true base (translated (types_of base) base n) in
      let b = operand true mine (translated due mine a.next) in
      let c = operand true later (translated due later b.next) in
      record {
        before = a.before ++ (b.before ++ (c.before ++ record { name = s.query c.next; materialized = true; query = written_query at a.source b.source } ∷ []));
        query = published_query at (s.query c.next) b.source c.source;
        next = suc c.next;
      }

-- ---- programs

-- the named queries of steps, and the number of the next one
pub record TranslatedSteps : Type 0 where
  pub before : List NamedQuery
  pub next : ℕ

abbrev pub translated_steps : List Table → StepTypes → List PlainStep → ℕ → TranslatedSteps
translated_steps tables types [] n = record { before = []; next = n }
translated_steps tables types (first ∷ others) n =
    let translation = translated tables types (types_of tables types first.query) first.query n in
    let rest = translated_steps tables (with_types first.j (query_types tables types first.query) types) others translation.next in
    record { before = translation.before ++ record { name = s.step first.j; materialized = true; query = translation.query } ∷ rest.before; next = rest.next }

abbrev pub program_query : List Table → PlainProgram → With
program_query tables program =
    let steps = translated_steps tables no_types program.steps 1 in
    let types = steps_types tables program.steps no_types in
    let translation = translated tables types (types_of tables types program.last) program.last steps.next in
    record { queries = steps.before ++ translation.before; last = translation.query }
