-- Part of the statement: what a text of SQL says that answers a question. It is the text of one query of SQL, which is spelled and has types. Over any tables of row
-- versions whose rows have cells of their columns' types, whatever fills them, the query gives the rows of the question's query over the state that the logged
-- statements lead to from the versions that these rows hold.
use Rattle.std.specs.Prelude.{◌≡◌, ℕ, ◌^◌, ◌<◌, false, true, List, length, IfOk}
use Rattle.gp_base.specs.Annotated.{Environment, monomials}
use Rattle.gp_base.specs.Tokens.{Monomial}
use Rattle.gp_grammar.specs.Syntax as y
use Rattle.gp_algebra.specs.Answers.{answer, cells_of}
use Rattle.gp_algebra.specs.Statements.{Select}
use Rattle.gp_check.specs.Checking.{checked_query}
use Rattle.gp_log.specs.LogFacts.{tables_in}
use Rattle.gp_machine.specs.Entries.{Entry}
use Rattle.gp_machine.specs.Points.{at_point}
use Rattle.gp_machine.specs.Questions.{log_refusal}
use Rattle.gp_sql.specs.Meaning.{rows_of}
use Rattle.gp_sql.specs.Spelled.{is_spelled}
use Rattle.gp_sql.specs.Spelling.{with_text}
use Rattle.gp_sql.specs.Sql.{With}
use Rattle.gp_sql.specs.SqlCells.{sql_rows}
use Rattle.gp_sql.specs.TypedQueries.{is_well_typed}
use Rattle.gp_sql.specs.VersionTables.{AllSpansFit, version_tables}
use Rattle.gp_versions.specs.declared.span.Span.{Span}
use Rattle.gp_versions.specs.Spans.{rows_at}
use Rattle.gp_ask.specs.Asking.{Programs, asked, table_spans}
use Rattle.gp_ask.specs.Explained.{AreLinesOf}

-- the versions of a database that row versions hold
abbrev pub held_by : List (List Span) → Environment Monomial
held_by stored version table = rows_at monomials version (table_spans stored table)

-- row versions for each of these tables, with cells of the types of its columns, and identities whose numbers have 32 bits
pub record AreStored (log : List Entry) (stored : List (List Span)) : Type 0 where
  pub tables : length stored ≡ length (tables_in log)
  pub typed : AllSpansFit (tables_in log) (table_spans stored)

-- the text asks for the rows of a query over a state of a log: by one query that has types over the tables, and is spelled, where the text has fewer than 2 ^ 63
-- bytes, as every text in memory has
pub record Asks (entries : List Entry) (point : y.Point) (select : Select) (text : List ℕ) : Type 0 where
  pub query : With
  pub is : with_text (tables_in entries) query ≡ text
  pub typed : is_well_typed (tables_in entries) query ≡ true
  pub spelled : length text < 2 ^ 63 → is_spelled (tables_in entries) query ≡ true
  pub means : (stored : List (List Span)) → AreStored entries stored
      → rows_of (version_tables (tables_in entries) (table_spans stored)) query ≡ sql_rows (cells_of (answer monomials select (at_point monomials entries point (held_by stored))))

module _ (programs : Programs) where
  -- unless the question is refused
  abbrev pub AsksState : List Entry → y.Point → y.Query → Type 0
  AsksState entries point query =
      IfOk (asked (log_refusal entries point) (checked_query (tables_in entries) query))
      (λ (select : Select). AreLinesOf (Asks entries point select) (programs entries false point select))

  abbrev pub AsksQuestion : List Entry → y.Question → Type 0
  AsksQuestion entries (y.ask (y.of_state y.rows point) query) = AsksState entries point query
  AsksQuestion entries (y.ask (y.of_state (y.explain false) point) query) = AsksState entries point query
  AsksQuestion entries question = Unit {0}
