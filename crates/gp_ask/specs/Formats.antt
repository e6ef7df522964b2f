-- Part of the statement: the formats of answers. As text every question is answered. As CSV a plain AS OF or REENACT is, by its rows or by its
-- refusal, and any other question is refused. As CSV with names every question that asks for rows, or for a difference of rows, is, under the titles of its columns.
-- In SQL an AS OF or a REENACT, plain or explained, is answered by the query that asks for its rows, behind the dump's row versions as tables, and any other question
-- is refused. A line that is no question has the refusal of its text in each.
use Rattle.std.specs.Prelude.{ℕ, Bool, true, false, List, [], ◌∷◌, ◌++◌, Option, Some, None, codes, if◌then◌else◌}
use Rattle.std.specs.Option.{option_map_or}
use Rattle.std.specs.Fmt.{decimal}
use Rattle.std.specs.List.{concat, flat_map}
use Rattle.gp_base.specs.declared.refusal.Refusal.{Refusal}
use Rattle.gp_base.specs.declared.refusal.Refusal.TheVariants.{E30}
use Rattle.gp_base.specs.declared.table.Table.{Table}
use Rattle.gp_base.specs.Numbered.{newline, numbered, refused_text}
use Rattle.gp_dump.specs.Dumps.{Dump}
use Rattle.gp_grammar.specs.Syntax as y
use Rattle.gp_log.specs.LogFacts.{tables_in}
use Rattle.gp_sql.specs.TableTexts.{tables_text}
use Rattle.gp_csv.specs.Answers.{answer_records, csv_text, refusal_records, titled_records}
use Rattle.gp_ask.specs.declared.answered.Answered.{Answered}
use Rattle.gp_ask.specs.declared.answered.Answered.TheVariants.{Diff, Program, Refused, Rows, Sheet}
use Rattle.gp_ask.specs.declared.format.Format.{Format}
use Rattle.gp_ask.specs.declared.format.Format.TheVariants.{Text, Csv, Named, Sql}
use Rattle.gp_ask.specs.Texts.{answer_text}
use Rattle.gp_ask.specs.Titles.{difference_titles, query_names, row_titles}

-- a plain AS OF or REENACT
abbrev pub asks_rows : y.Question → Bool
asks_rows (y.ask (y.of_state y.rows point) query) = true
asks_rows question = false

-- the answer to a question that is exported, given the answers to all
abbrev pub exported : (y.Question → Answered) → y.Question → Answered
exported answers question = if asks_rows question then answers question else Refused E30

-- rows are asked for, of any state, what is left of them, or what a transaction saw
abbrev pub gives_rows : y.Subject → Bool
gives_rows (y.of_state y.rows point) = true
gives_rows (y.of_state (y.without patterns) point) = true
gives_rows (y.saw t k) = true
gives_rows subject = false

-- the query of a question that asks for rows, or for their difference
abbrev pub rows_query : y.Question → Option y.Query
rows_query (y.ask subject query) = if gives_rows subject then Some query else None
rows_query (y.what_if changes subject query) = if gives_rows subject then Some query else None
rows_query (y.diff first second query) = Some query
rows_query question = None

-- rows under the titles of columns that have these names
abbrev pub titled : List (Option y.Bytes) → Answered → Answered
titled names (Rows rows) = Sheet (record { titles = row_titles names; rows = rows })
titled names (Diff rows) = Sheet (record { titles = difference_titles names; rows = rows })
titled names answered = answered

-- the answer to a question that is exported with names, given the tables and the answers to all
abbrev pub named : List Table → (y.Question → Answered) → y.Question → Answered
named tables answers question = option_map_or (λ (query : y.Query). titled (query_names tables query) (answers question)) (rows_query question) (Refused E30)

-- rows are asked for, or the query that computes them
abbrev pub are_asked : y.How → Bool
are_asked y.rows = true
are_asked (y.explain false) = true
are_asked how = false

-- the answer to a question in SQL is the query that it explains
abbrev pub in_sql : (y.Question → Answered) → y.Question → Answered
in_sql answers (y.ask (y.of_state how point) query) = if are_asked how then answers (y.ask (y.of_state (y.explain false) point) query) else Refused E30
in_sql answers question = Refused E30

-- the answers to questions in a format
abbrev pub answers_in : Format → List Table → (y.Question → Answered) → y.Question → Answered
answers_in Text tables answers = answers
answers_in Csv tables answers = exported answers
answers_in Named tables answers = named tables answers
answers_in Sql tables answers = in_sql answers

-- the records of an answer that is exported, which has rows or is a refusal
abbrev pub exported_records : ℕ → Answered → List (List (List ℕ))
exported_records number (Rows rows) = answer_records number rows
exported_records number (Sheet sheet) = titled_records number sheet.titles sheet.rows
exported_records number (Refused refusal) = refusal_records number refusal
exported_records number answered = refusal_records number E30

-- the text of an answer in SQL: the number and the lines of its query, or the number and the refusal, which are a comment
abbrev pub sql_refusal : ℕ → Refusal → List ℕ
sql_refusal number refusal = codes "-- " ++ numbered number (refused_text refusal)

abbrev pub sql_answer_text : ℕ → Answered → List ℕ
sql_answer_text number (Program lines) = concat (codes "-- " ∷ decimal number ∷ newline ∷ flat_map (λ line. line ++ newline) lines ∷ [])
sql_answer_text number (Refused refusal) = sql_refusal number refusal
sql_answer_text number answered = sql_refusal number E30

-- the text of an answer in a format
abbrev pub text_in : Format → ℕ → Answered → List ℕ
text_in Text number answered = answer_text number answered
text_in Sql number answered = sql_answer_text number answered
text_in format number answered = csv_text (exported_records number answered)

-- what comes before all answers: the row versions of the dump
abbrev pub heading_in : Format → Dump → List ℕ
heading_in Sql dump = tables_text (tables_in dump.entries) dump.tables
heading_in format dump = []
