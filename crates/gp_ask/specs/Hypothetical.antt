-- Part of the statement: the answer to a question about the history that would have been. Statements of committed transactions are dropped, replaced and
-- added, and the commits of the changed log are made again. Such a question is refused by the first that applies: the first change that is; then, on the changed
-- log, what refuses the question whatever the rows are: its version, transaction or statement is not in the log, the check of its query, a number of its rules that
-- is not in the semiring; then, unless the query is explained, the first commit that cannot be made again; then what a transaction that did not commit would pass,
-- if it is asked what it saw; then the number of its rows.
use Rattle.std.specs.Prelude.{List, [], length, map, Option, None}
use Rattle.std.specs.Option.{option_map, option_or}
use Rattle.std.specs.Result.{result_err}
use Rattle.gp_base.specs.declared.limit.Limit.TheVariants as limit
use Rattle.gp_base.specs.declared.refusal.Refusal.{Refusal}
use Rattle.gp_base.specs.declared.refusal.Refusal.TheVariants.{E14, E31}
use Rattle.gp_base.specs.Annotated.{monomials, unannotated}
use Rattle.gp_grammar.specs.Syntax as y
use Rattle.gp_check.specs.Checking.{checked_query}
use Rattle.gp_log.specs.Parameters.{parameters}
use Rattle.gp_log.specs.LogFacts.{tables_in}
use Rattle.gp_machine.specs.Entries.{Entry, committer_of, log_of, versions_in}
use Rattle.gp_machine.specs.Event.{name_at}
use Rattle.gp_machine.specs.Questions.{stop_refusal}
use Rattle.gp_machine.specs.Replayed.{replayed_state}
use Rattle.gp_machine.specs.Replaying as made
use Rattle.gp_whatif.specs.Changed.{changed_log}
use Rattle.gp_dump.specs.Dumps.{Dump, dump_of}
use Rattle.gp_ask.specs.declared.answered.Answered.{Answered}
use Rattle.gp_ask.specs.Asking.{Programs}
use Rattle.gp_ask.specs.Subjects.{query_to, query_held, subject_refusal}
use Rattle.gp_ask.specs.Values.{or_refused, outside_refusal, rule_of, unless_refused}

-- the dump of the history that the commits of a log, made again, lead to
abbrev pub replayed_dump : List Entry → Dump
replayed_dump entries = dump_of (replayed_state unannotated (tables_in entries) entries)

-- ---- refusals

abbrev pub rules_refusal : y.Subject → Option Refusal
rules_refusal (y.of_state (y.value name rules other) point) = outside_refusal name (map rule_of rules) other
rules_refusal subject = None

-- what refuses a question on a log, whatever the rows are
abbrev pub asking_refusal : List Entry → y.Subject → y.Query → Option Refusal
asking_refusal entries subject query =
    option_or (subject_refusal entries subject) (option_or (result_err (checked_query (tables_in entries) query)) (rules_refusal subject))

-- why a commit of a log cannot be made again; one that is lost, by its transaction, the one that it would lose to, the table and the identity
abbrev pub replay_refusal : List Entry → made.ReplayStop → Refusal
replay_refusal entries (made.Passes stop) = stop_refusal stop
replay_refusal entries (made.Loses version conflict) =
    E31 (committer_of version entries) (committer_of conflict.version entries) (name_at conflict.pair.table (tables_in entries)) conflict.pair.identity
replay_refusal entries made.Fills = E14 limit.Versions

abbrev pub remaking_refusal : List Entry → Option Refusal
remaking_refusal entries = option_map (replay_refusal entries) (made.replay_stop unannotated (log_of entries) parameters (length (tables_in entries)) (versions_in entries))

-- ---- answers

module _ (programs : Programs) where
  -- A question about a log whose commits are made again, given the answer over these. An explained query needs the log alone.
  abbrev pub remade_answer : (y.Subject → y.Query → Answered) → List Entry → y.Subject → y.Query → Answered
  remade_answer answer entries (y.of_state (y.explain prov) point) query = query_to programs (record { entries = entries; tables = [] }) (y.of_state (y.explain prov) point) query
  remade_answer answer entries subject query =
      unless_refused (asking_refusal entries subject query) (unless_refused (remaking_refusal entries) (answer subject query))

  -- by the changed log, or the refusal of a change: what the history held that would have been, its rows and their provenance
  abbrev pub what_if_held : List Entry → List y.LogChange → y.Subject → y.Query → Answered
  what_if_held entries changes subject query =
      or_refused (λ log. remade_answer (query_held programs (replayed_state monomials (tables_in log) log)) log subject query) (changed_log parameters entries changes)
