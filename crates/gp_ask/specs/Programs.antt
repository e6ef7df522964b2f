-- Machinery: explained queries as they are printed: the text of the program that gives a query over a past state, and its lines; in SQL, those of a query that gives the
-- same rows.
use Rattle.std.specs.Prelude.{ℕ, Bool, false, List}
use Rattle.gp_grammar.specs.Syntax as y
use Rattle.gp_algebra.specs.Statements.{Select}
use Rattle.gp_explain.specs.ExplainedLines.{text_lines}
use Rattle.gp_log.specs.LogFacts.{tables_in}
use Rattle.gp_machine.specs.Entries.{Entry}
use Rattle.gp_plantext.specs.Spelling.{program_text}
use Rattle.gp_reenact.specs.Programs.{merged_at}
use Rattle.gp_sql.specs.NamedQueries.{program_query}
use Rattle.gp_sql.specs.Spelling.{with_text}
use Rattle.gp_ask.specs.declared.format.Format.{Format}
use Rattle.gp_ask.specs.declared.format.Format.TheVariants.{Sql}
use Rattle.gp_ask.specs.Asking.{Programs}

-- the program is the merged one; with provenance it gives each row its monomial too
abbrev pub explained_text : List Entry → Bool → y.Point → Select → List ℕ
explained_text entries prov point select = program_text (tables_in entries) (merged_at prov entries point select)

abbrev pub program_lines : List Entry → Bool → y.Point → Select → List (List ℕ)
program_lines entries prov point select = text_lines (explained_text entries prov point select)

abbrev pub sql_text : List Entry → y.Point → Select → List ℕ
sql_text entries point select = with_text (tables_in entries) (program_query (tables_in entries) (merged_at false entries point select))

abbrev pub sql_lines : List Entry → Bool → y.Point → Select → List (List ℕ)
sql_lines entries prov point select = text_lines (sql_text entries point select)

abbrev pub programs_in : Format → Programs
programs_in Sql = sql_lines
programs_in format = program_lines
