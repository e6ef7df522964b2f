-- Part of the statement: the answer to a question, from a dump alone, and the answer that a history held. Both are given in the same way by what answers the
-- parts of questions. Which program answers an explained query is a parameter.
use Rattle.std.specs.Prelude.{ℕ, false, List, [], map, filter, reverse, Option, None, if◌then◌else◌}
use Rattle.std.specs.List.{flat_map}
use Rattle.std.specs.Option.{option_map_or, option_or}
use Rattle.gp_base.specs.declared.refusal.Refusal.{Refusal}
use Rattle.gp_base.specs.declared.refusal.Refusal.TheVariants.{E04, E20}
use Rattle.gp_base.specs.declared.table.Table.{Table}
use Rattle.gp_base.specs.Annotated.{Annotations, Database, monomials, unannotated}
use Rattle.gp_base.specs.Catalogs.{place_of}
use Rattle.gp_base.specs.Tokens.{Monomial}
use Rattle.gp_grammar.specs.Syntax as y
use Rattle.gp_versions.specs.declared.span.Span.{Span}
use Rattle.gp_algebra.specs.Statements.{Select}
use Rattle.gp_check.specs.Checking.{checked_query}
use Rattle.gp_machine.specs.Entries.{Entry, is_of, log_of, version_of, versions_in}
use Rattle.gp_machine.specs.HistorySpans.{as_of}
use Rattle.gp_machine.specs.Questions.{is_known, own_stop, statement_refusal, transaction_refusal}
use Rattle.gp_machine.specs.ReadBy.{start_by}
use Rattle.gp_machine.specs.Runs.{run_before}
use Rattle.gp_machine.specs.State.{State}
use Rattle.gp_log.specs.LogFacts.{tables_in}
use Rattle.gp_log.specs.Parameters.{parameters}
use Rattle.gp_dump.specs.Dumps.{Dump, dump_of}
use Rattle.gp_dumpline.specs.Texts.{entry_text, span_text}
use Rattle.gp_ask.specs.declared.answered.Answered.{Answered}
use Rattle.gp_ask.specs.declared.answered.Answered.TheVariants.{Checked, Lines, Program, Refused}
use Rattle.gp_ask.specs.declared.answered.Heading.TheVariants.{Changes, Log, Transactions, Versions}
use Rattle.gp_ask.specs.AnomalyAnswers.{anomaly_answer}
use Rattle.gp_ask.specs.Asking.{Programs, query_answer, table_spans}
use Rattle.gp_ask.specs.Changes.{commit_changes, numbered_changes}
use Rattle.gp_ask.specs.Differences.{are_mixed, causes_answer, diff_answer}
use Rattle.gp_ask.specs.Hypothetical.{replayed_dump, what_if_held}
use Rattle.gp_ask.specs.Intervals.{when_answer}
use Rattle.gp_ask.specs.Made.{unmade_refusal}
use Rattle.gp_ask.specs.RowConflicts.{dump_conflicts, history_conflicts}
use Rattle.gp_ask.specs.RowHistories.{all_of, row_history}
use Rattle.gp_ask.specs.Seeing.{seen_refusal, unknown_refusal}
use Rattle.gp_ask.specs.SerialAnswers.{serial_answer}
use Rattle.gp_ask.specs.Subjects.{query_to, query_held}
use Rattle.gp_ask.specs.Transactions.{begun_lines}
use Rattle.gp_ask.specs.Values.{or_refused, unless_refused}
use Rattle.gp_replay.specs.Differences.{difference}
use Rattle.gp_serial.specs.Serializing.{runs_refusal}

module _ (programs : Programs) where
  -- Given a log, its tables and their row versions; what answers a query; what a transaction read before its statement k + 1, what stops its first k statements, and
  -- those that committed; the conflicts of a transaction; whether the transactions run one after another, and their anomalies; why the rows are not those that the log
  -- makes; and the line that CHECK names. What would be with changes is what the history held that the commits of the changed log, made again, lead to. Beside it, the history is what
  -- its own log, made again, leads to.
  module _ {M : Type 0} (domain : Annotations M) (entries : List Entry) (tables : List Table) (spans : List (List Span)) (asks remade : y.Subject → y.Query → Answered)
      (before : ℕ → ℕ → Database M) (stop : ℕ → ℕ → Option Refusal) (stopped : Option Refusal) (conflicts : ℕ → Answered) (serial anomalies : Answered) (unmade : Option Refusal)
      (line : Option ℕ) where
    abbrev pub answer_by : y.Question → Answered
    answer_by (y.bare (y.log t)) = if is_known t entries then Lines Log (map entry_text (filter (is_of t) (reverse entries))) else Refused (E20 t)
    answer_by (y.bare (y.versions name)) = option_map_or (λ (place : ℕ). Lines Versions (map span_text (table_spans spans place))) (place_of name tables) (Refused (E04 name))
    answer_by (y.bare y.transactions) = Lines Transactions (flat_map (begun_lines entries) (reverse entries))
    answer_by (y.bare (y.changes t k)) = unless_refused (option_or (unknown_refusal t entries) (statement_refusal t k entries)) (numbered_changes domain entries tables before stop t k)
    answer_by (y.bare (y.commit_changes t)) = unless_refused (transaction_refusal t entries) (option_map_or (commit_changes tables spans) (version_of t entries) (Lines Changes []))
    answer_by (y.bare (y.conflicts t)) = unless_refused (unknown_refusal t entries) (conflicts t)
    answer_by (y.history name cond) =
        or_refused
        (λ (select : Select). option_map_or (λ (place : ℕ). unless_refused stopped (row_history domain entries spans before place select)) (place_of name tables) (Refused (E04 name)))
        (checked_query tables (all_of name cond))
    answer_by (y.when query) = when_answer asks entries query
    answer_by (y.bare y.serial) = serial
    answer_by (y.bare y.anomalies) = anomalies
    answer_by (y.bare y.check) = Checked line
    answer_by (y.diff first second query) = diff_answer (if are_mixed first second then remade else asks) (what_if_held programs entries) unmade entries first second query
    answer_by (y.causes subject query) = causes_answer remade (what_if_held programs entries) unmade entries subject query
    answer_by (y.ask subject query) = asks subject query
    answer_by (y.what_if changes subject query) = what_if_held programs entries changes subject query
    answer_by (y.explain_saw t k query) = query_answer (λ select. Program (programs entries false (y.after t k) select)) (seen_refusal t k entries) (checked_query tables query)

  -- from a dump, whether a history made it or not: transactions read what their runs over its versions give
  abbrev pub answer_to : Dump → y.Question → Answered
  answer_to dump =
      let past = as_of unannotated (table_spans dump.tables) in
      answer_by unannotated dump.entries (tables_in dump.entries) dump.tables (query_to programs dump) (query_to programs (replayed_dump dump.entries))
      (λ t k. run_before unannotated (log_of dump.entries) t k past) (λ t k. own_stop unannotated parameters dump.entries (y.after t k) past)
      (runs_refusal parameters dump.entries (table_spans dump.tables) (versions_in dump.entries)) (dump_conflicts dump) (serial_answer dump) (anomaly_answer dump) (unmade_refusal dump) (difference dump)

  -- as a history held it: transactions read what the history machine says, and none stops; its row versions are those of its dump, which is one of a history, and
  -- which its log makes
  abbrev pub held_to : State Monomial → y.Question → Answered
  held_to state =
      answer_by monomials state.entries state.catalogue (dump_of state).tables (query_held programs state) (query_held programs state)
      (λ t k. start_by monomials (log_of state.entries) t k state.committed) (λ t k. None) None (history_conflicts state) (serial_answer (dump_of state)) (anomaly_answer (dump_of state)) None None
