-- Part of the statement: what every call of the program promises. This is the contract of `gprom`, for every shelf and every sink that keep their own
-- contracts, the real ones included. It speaks of what the shelf has done in the call: which bytes each read gave, and by which bytes a file was replaced.
-- What follows for each command and each status is in `Consequences`, and for the files that a shelf has in `OverFiles`, both by laws.
use Rattle.std.specs.List.{AllByRecursion}
use Rattle.std.specs.List.Sorted.{IsPermutation, IsSorted}
use Rattle.std.specs.Prelude.{◌≡◌, ◌≢◌, ◌↔◌, ℕ, Bool, false, true, ◌^◌, ◌<◌, ◌≤◌, AllPairs, Contains, List, [], ◌∷◌, filter, length, map, slice_get, unwrap_or, None, Result, Ok, Err, codes}
use Rattle.gp_base.specs.Annotated.{monomials, unannotated}
use Rattle.gp_base.specs.Catalogs.{table_names}
use Rattle.gp_base.specs.declared.cell.Cell.{Cell}
use Rattle.gp_base.specs.declared.name.TheConstants.{MAX_NAME_LENGTH}
use Rattle.gp_base.specs.declared.refusal.Refusal.{Refusal}
use Rattle.gp_base.specs.declared.refusal.Refusal.TheVariants.{E27}
use Rattle.gp_base.specs.declared.table.Table.{Table}
use Rattle.gp_base.specs.declared.text.TheConstants.{MAX_TEXT_LENGTH}
use Rattle.gp_base.specs.Order.{row_cmp}
use Rattle.gp_algebra.specs.Plain.{PlainProgram}
use Rattle.gp_grammar.specs.CommandGrammar.{IsScriptLine}
use Rattle.gp_grammar.specs.declared.limits.TheConstants.{MAX_BRANCHES, MAX_CHANGES, MAX_COLUMNS, MAX_FROM, MAX_LEVELS, MAX_LINE_LENGTH, MAX_NODES, MAX_OPEN, MAX_SESSION, MAX_VALUES}
use Rattle.gp_grammar.specs.Limits.{line_shape, question_shape}
use Rattle.gp_grammar.specs.LineReading.{AreReadOnce}
use Rattle.gp_grammar.specs.QuestionGrammar.{IsQuestion}
use Rattle.gp_grammar.specs.Syntax as y
use Rattle.gp_script.specs.History.{IsScript, ReadLine, last_state}
use Rattle.gp_script.specs.declared.script.TheConstants.{MAX_SCRIPT_LENGTH}
use Rattle.gp_syntax.specs.Lines.{script_lines}
use Rattle.gp_dump.specs.declared.dump.TheConstants.{MAX_DUMP_LENGTH}
use Rattle.gp_dump.specs.Dumps.{Dump, dump_of}
use Rattle.gp_dump.specs.Rules.{FirstFault, WellFormed}
use Rattle.gp_plantext.specs.Spelling.{Spells}
use Rattle.gp_sql.specs.Spelled.{HaveOwnNames, SpellsQuery}
use Rattle.gp_sql.specs.Sql.{With}
use Rattle.gp_log.specs.LogFacts.{tables_in}
use Rattle.gp_log.specs.Parameters.{parameters}
use Rattle.gp_machine.specs.Entries.{Entry, statement_count, transactions_in}
use Rattle.gp_machine.specs.Event.{after}
use Rattle.gp_machine.specs.Questions.{own_stop}
use Rattle.gp_machine.specs.Replayed.{replayed_state}
use Rattle.gp_machine.specs.Precedence.{is_before}
use Rattle.gp_machine.specs.RowChanges.{tables_changes}
use Rattle.gp_machine.specs.State.{start}
use Rattle.gp_csv.specs.Titled.{AreReloadable}
use Rattle.gp_load.specs.Reloading.{LoadsAgain}
use Rattle.gp_replay.specs.Differences.{IsOfHistory, difference}
use Rattle.gp_serial.specs.Anomalies.{cycles}
use Rattle.gp_serial.specs.Graphs.{is_cycle, least_cycle}
use Rattle.gp_serial.specs.LeastCycles.{IsCycleOf}
use Rattle.gp_serial.specs.PairCycles.{pair_cycles}
use Rattle.gp_serial.specs.PairLaws.{ArePairCycles}
use Rattle.gp_serial.specs.Serializing.{by_number}
use Rattle.gp_ask.specs.declared.answered.AnomalyText.{AnomalyText}
use Rattle.gp_ask.specs.declared.answered.Answered.TheVariants.{Anomalies, Lines, Refused, Sheet}
use Rattle.gp_ask.specs.AnomalyAnswers.{anomaly_answer}
use Rattle.gp_ask.specs.Answers.{answer_to, held_to}
use Rattle.gp_ask.specs.declared.format.Format.{Format}
use Rattle.gp_ask.specs.declared.format.Format.TheVariants.{Text, Named, Sql}
use Rattle.gp_ask.specs.Compared.{AnswersAsMade, compares_histories}
use Rattle.gp_ask.specs.Deltas.{IsDifference, delta}
use Rattle.gp_ask.specs.Explained.{ExplainsQuestion}
use Rattle.gp_ask.specs.Formats.{text_in}
use Rattle.gp_ask.specs.Hypothetical.{remaking_refusal, replayed_dump}
use Rattle.gp_ask.specs.Intervals.{has_version, intervals}
use Rattle.gp_ask.specs.Isolated.{IsIsolated, LosesToFirst}
use Rattle.gp_ask.specs.Questions.{AreQuestions, EachQuestion, ReadQuestion, is_refused}
use Rattle.gp_ask.specs.SerialAnswers.{serial_answer}
use Rattle.gp_ask.specs.SerialHistories.{IsTrue, RunsInCycle, RunsSerially}
use Rattle.gp_ask.specs.declared.answered.Heading.TheVariants.{Cycle, Serial}
use Rattle.gp_ask.specs.SqlAnswers.{AreStored, AsksQuestion}
use Rattle.gp_whatif.specs.Changed.{changed_log}
use Rattle.gprom_cli.specs.declared.generated.TheConstants.{MAX_ROUNDS}
use Rattle.gprom_cli.specs.declared.load.TheConstants.{MAX_SHEET_LENGTH}
use Rattle.gprom_cli.specs.Call.{Call, HasOutcome, Shown, history_dump}

-- what the bytes of a file are read as: a dump, or the number of the first rule that fails and that of its line
abbrev pub IsReadAsDump : List ℕ → Result Dump (ℕ × ℕ) → Type 0
IsReadAsDump bytes (Ok contents) = WellFormed bytes contents
IsReadAsDump bytes (Err fault) = FirstFault bytes fault.0 fault.1

pub record Promises (call : Call) : Type 0 where
  -- the programs that answer explained queries, in each format
  pub shown : Shown
  -- The arguments and what the shelf has done determine the output and the exit status, but for the lines of a summary of `gen` and for these programs. The output
  -- is complete, but for whole lines before a write error or before memory ran out. `ComesTo` has the events of each end: which bytes were read, and by which bytes
  -- a file was replaced.
  pub outcome : HasOutcome shown call
  -- Every script, and every file of questions, is read as exactly one list of lines; and every file is exactly one dump, or has exactly one first fault.
  pub scripts : (script : List ℕ) → AreReadOnce IsScriptLine line_shape (script_lines script)
  pub questions : (file : List ℕ) → AreReadOnce IsQuestion question_shape (script_lines file)
  pub dumps : (bytes : List ℕ) → (reading : Result Dump (ℕ × ℕ)) × IsReadAsDump bytes reading × ((other : Result Dump (ℕ × ℕ)) → IsReadAsDump bytes other → other ≡ reading)
  -- The dump of every script is well formed. With nothing changed, the commits of its log, made again, do not stop, and lead to this dump.
  pub formed : (script : List ℕ) (lines : List ReadLine) → length script ≤ MAX_SCRIPT_LENGTH → IsScript script lines → WellFormed (history_dump lines) (dump_of (last_state unannotated lines))
  pub unchanged : (script : List ℕ) (lines : List ReadLine) → length script ≤ MAX_SCRIPT_LENGTH → IsScript script lines
      → (remaking_refusal (last_state unannotated lines).entries ≡ None) × (replayed_dump (last_state unannotated lines).entries ≡ dump_of (last_state unannotated lines))
  -- From the dump of a history, of whatever lines, every question is answered as the history held it, with the provenance of each row there, though the dump
  -- has none: so with its value in each of the six semirings, and without the rows of some tokens with exactly the rows that the query gives over the annotated
  -- history without these rows. What a transaction saw is the query over what the history machine held for it, and what a statement changed is what it changes of
  -- what its transaction read by the rule of the machine, whatever became of the transaction. What would be with a change is what the history held that the commits
  -- of the changed log, made again, lead to, and so it is answered from any dump.
  pub held : (format : Format) (lines : List ReadLine) (question : y.Question)
      → answer_to (shown format) (dump_of (last_state unannotated lines)) question ≡ held_to (shown format) (last_state monomials lines) question
  -- Every query that the questions of a file ask to explain, of whatever well-formed dump, has as answer the lines of the text of one program that on every
  -- database of past versions gives the answer of the query over the state that the logged statements lead to.
  pub explained : (bytes file : List ℕ) (contents : Dump) (lines : List ReadQuestion) → WellFormed bytes contents → AreQuestions file lines → EachQuestion (ExplainsQuestion (shown Text) contents.entries) lines
  -- Every query that `sql` writes for a question of a file, of whatever well-formed dump, is a query of SQL that has types over the dump's tables, and over any tables of row
  -- versions gives the rows of the question's query over the state that the logged statements lead to from the versions that they hold. The tables that it writes before are such
  -- tables.
  pub asked : (bytes file : List ℕ) (contents : Dump) (lines : List ReadQuestion) → WellFormed bytes contents → AreQuestions file lines → EachQuestion (AsksQuestion (shown Sql) contents.entries) lines
  pub stored : (bytes : List ℕ) (contents : Dump) → WellFormed bytes contents → AreStored contents.entries contents.tables
  -- What `export` writes with names for rows under such titles is a sheet that loads again, with the number of the question in front of each row.
  pub reloaded : (number : ℕ) (titles : List (List ℕ)) (rows : List (List Cell)) → number < 2 ^ 63 → AreReloadable (codes "line" ∷ titles) rows
      → LoadsAgain number (codes "line" ∷ titles) rows (text_in Named number (Sheet (record { titles = codes "line" ∷ titles; rows = rows })))
  -- A text spells one program, and one query of SQL, where no two tables have the same name and no two columns of a table, as in every log.
  pub programs : (tables : List Table) (text : List ℕ) (program other : PlainProgram) → AllPairs (λ (name also : List ℕ). name ≢ also) (table_names tables)
      → Spells tables program text → Spells tables other text → program ≡ other
  pub queries : (tables : List Table) (text : List ℕ) (query other : With) → HaveOwnNames tables → SpellsQuery tables query text → SpellsQuery tables other text → query ≡ other
  -- CHECK names a line of every well-formed dump (`difference`), unless it is that of a history, as the history machine takes lines: of some lines of a script.
  -- Then every question is answered as this history held it.
  pub checked : (bytes : List ℕ) (contents : Dump) → WellFormed bytes contents → difference contents ≡ None
      → (history : IsOfHistory contents)
      × ((format : Format) (question : y.Question) → answer_to (shown format) contents question ≡ held_to (shown format) (after monomials parameters start history.lines) question)
  -- CAUSES, and DIFF with a changed history, answer from any dump as from the one that its log makes, or are refused since its rows are others. So they blame no
  -- statement for rows, or for provenance of rows, that the log does not make.
  pub compared : (format : Format) (contents : Dump) (question : y.Question) → compares_histories question ≡ true → AnswersAsMade (shown format) contents question
  -- Each transaction of a history is isolated as its BEGIN says, whatever became of it, and the first committer of a row wins: the rows that a commit wrote were
  -- written by no commit after their bases, and no transaction is lost where this holds of its rows. So it is in the history that the commits of the changed
  -- log of any dump, made again, lead to, where none of them stops.
  pub isolated : (lines : List ReadLine) → IsIsolated (last_state monomials lines)
  pub lost : (lines : List ReadLine) → LosesToFirst (last_state monomials lines)
  pub remade : (bytes : List ℕ) (contents : Dump) (changes : List y.LogChange) (entries : List Entry) → WellFormed bytes contents → changed_log parameters contents.entries changes ≡ Ok entries
      → remaking_refusal entries ≡ None → IsIsolated (replayed_state monomials (tables_in entries) entries)
  -- What SERIAL answers about a history is so: an order is one in which its transactions, run one after another, are a history with the same changes of each
  -- statement, the same rows of each query and the same last version; and each line of a cycle is true of the history, each from one transaction to the next.
  pub serial : (lines : List ReadLine) (texts : List (List ℕ)) → serial_answer (dump_of (last_state unannotated lines)) ≡ Lines Serial texts → RunsSerially (last_state unannotated lines) texts
  pub cycle : (lines : List ReadLine) (texts : List (List ℕ)) → serial_answer (dump_of (last_state unannotated lines)) ≡ Lines Cycle texts → RunsInCycle (last_state unannotated lines) texts
  -- Each row that the row versions of a history show as changed by a commit was written by it, with these cells in the version before and in its own.
  pub changes : (lines : List ReadLine) → AllByRecursion (IsTrue (last_state unannotated lines)) (tables_changes 0 (dump_of (last_state unannotated lines)).tables)
  -- So is each line of each cycle of ANOMALIES, which a history refuses only for too many lines.
  pub anomalies : (lines : List ReadLine) (texts : List AnomalyText) → anomaly_answer (dump_of (last_state unannotated lines)) ≡ Anomalies texts
      → AllByRecursion (λ (text : AnomalyText). RunsInCycle (last_state unannotated lines) text.steps) texts
  pub limited : (lines : List ReadLine) (refusal : Refusal) → anomaly_answer (dump_of (last_state unannotated lines)) ≡ Refused refusal → refusal ≡ E27
  -- No history refuses SERIAL, and no statement of any of its transactions passes a limit where it is run again, as for SAW. So E25 and E26 come only of changed
  -- histories.
  pub answered : (lines : List ReadLine) → is_refused (serial_answer (dump_of (last_state unannotated lines))) ≡ false
  pub unstopped : (lines : List ReadLine) (t k : ℕ) → 0 < t → t ≤ transactions_in (last_state monomials lines).entries → k ≤ statement_count t (last_state monomials lines).entries
      → own_stop monomials parameters (last_state monomials lines).entries (y.after t k) (last_state monomials lines).committed ≡ None
  -- What is computed for WHEN, for DIFF and CAUSES, and for a cycle of SERIAL is what they mean: the rows of the intervals that have a version are, as a bag, the
  -- answer over it; a difference is that of both answers; and of all cycles of the transactions none is shorter than the one that is given.
  pub versions : (answers : ℕ → List (List Cell)) → ((version : ℕ) → IsSorted row_cmp (answers version)) → (last version : ℕ) → version ≤ last
      → IsPermutation (map (λ interval. interval.row) (filter (has_version version) (intervals answers last))) (answers version)
  pub differences : (rows others : List (List Cell)) → IsSorted row_cmp rows → IsSorted row_cmp others → IsDifference rows others (delta rows others)
  pub shortest : (is_before : ℕ → ℕ → Bool) (all other : List ℕ) → AllPairs (λ a b. a < b) all → least_cycle is_before all ≢ []
      → is_cycle is_before other ≡ true → ((t : ℕ) → Contains other t → Contains all t) → length (least_cycle is_before all) ≤ length other
  -- The cycles of ANOMALIES are what they are called, for whatever relation: each is the first of the shortest ones through a pair that goes back, each such pair on a cycle
  -- stands in one of them, and each occurs once. Of every dump there is none exactly where the transactions have no cycle, and the first is that of SERIAL.
  pub pairs : (is_before goes_back : ℕ → ℕ → Bool) (all : List ℕ) → AllPairs (λ a b. a < b) all → ArePairCycles is_before all goes_back (pair_cycles is_before all goes_back)
  pub none : (bytes : List ℕ) (contents : Dump) → WellFormed bytes contents
      → (cycles (tables_in contents.entries) contents.entries (tables_changes 0 contents.tables) ≡ [])
      ↔ ((other : List ℕ) → IsCycleOf (is_before (tables_in contents.entries) contents.entries (tables_changes 0 contents.tables)) (by_number contents.entries) other → ⊥)
  pub least : (bytes : List ℕ) (contents : Dump) → WellFormed bytes contents
      → least_cycle (is_before (tables_in contents.entries) contents.entries (tables_changes 0 contents.tables)) (by_number contents.entries)
      ≡ unwrap_or (slice_get (cycles (tables_in contents.entries) contents.entries (tables_changes 0 contents.tables)) 0) []
  -- The numbers of the limits, which the definitions take from the code. The bytes of a name, a text, a line, a script, a sheet and a dump, and the rounds of `gen`.
  pub lengths : (MAX_NAME_LENGTH ∷ MAX_TEXT_LENGTH ∷ MAX_LINE_LENGTH ∷ MAX_SCRIPT_LENGTH ∷ MAX_SHEET_LENGTH ∷ MAX_DUMP_LENGTH ∷ MAX_ROUNDS ∷ [])
      ≡ 30 ∷ 255 ∷ 4096 ∷ 16777216 ∷ 16777216 ∷ 67108864 ∷ 400 ∷ []
  -- Of a line: sessions; columns, items of a FROM, blocks, tuples; nodes and levels of a term, open brackets; changes.
  pub shapes : (MAX_SESSION ∷ MAX_COLUMNS ∷ MAX_FROM ∷ MAX_BRANCHES ∷ MAX_VALUES ∷ MAX_NODES ∷ MAX_LEVELS ∷ MAX_OPEN ∷ MAX_CHANGES ∷ [])
      ≡ 64 ∷ 16 ∷ 4 ∷ 8 ∷ 100 ∷ 200 ∷ 60 ∷ 60 ∷ 16 ∷ []
  -- Of a history: tables, transactions, the statements of a transaction and of all; rows of a table and of an answer, nodes of an identity, row versions.
  pub counts : (parameters.tables ∷ parameters.transactions ∷ parameters.steps ∷ parameters.statements ∷ parameters.rows ∷ parameters.answer ∷ parameters.nodes ∷ parameters.published ∷ [])
      ≡ 16 ∷ 1000 ∷ 256 ∷ 2000 ∷ 10000 ∷ 50000 ∷ 64 ∷ 100000 ∷ []
