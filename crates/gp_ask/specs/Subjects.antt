-- Part of the statement: the answer to a query from a dump alone, and as a history held it, by what it is asked of: a state, or what a transaction saw.
use Rattle.std.specs.Prelude.{List, Option}
use Rattle.gp_base.specs.declared.refusal.Refusal.{Refusal}
use Rattle.gp_base.specs.Tokens.{Monomial}
use Rattle.gp_grammar.specs.Syntax as y
use Rattle.gp_algebra.specs.Statements.{Select}
use Rattle.gp_check.specs.Checking.{checked_query}
use Rattle.gp_machine.specs.Entries.{Entry}
use Rattle.gp_machine.specs.Questions.{log_refusal}
use Rattle.gp_machine.specs.State.{State}
use Rattle.gp_log.specs.LogFacts.{tables_in}
use Rattle.gp_dump.specs.Dumps.{Dump}
use Rattle.gp_ask.specs.declared.answered.Answered.{Answered}
use Rattle.gp_ask.specs.Asking.{Programs, dump_answer, history_answer, query_answer}
use Rattle.gp_ask.specs.Seeing.{dump_saw, history_saw, seen_refusal}

-- its version, transaction or statement is not in the log
abbrev pub subject_refusal : List Entry → y.Subject → Option Refusal
subject_refusal entries (y.of_state how point) = log_refusal entries point
subject_refusal entries (y.saw t k) = seen_refusal t k entries

module _ (programs : Programs) where
  -- a query that was checked
  abbrev pub dump_subject : Dump → y.Subject → Select → Answered
  dump_subject dump (y.of_state how point) = dump_answer programs dump how point
  dump_subject dump (y.saw t k) = dump_saw dump t k

  abbrev pub history_subject : State Monomial → y.Subject → Select → Answered
  history_subject state (y.of_state how point) = history_answer programs state how point
  history_subject state (y.saw t k) = history_saw state t k

  abbrev pub query_to : Dump → y.Subject → y.Query → Answered
  query_to dump subject query = query_answer (dump_subject dump subject) (subject_refusal dump.entries subject) (checked_query (tables_in dump.entries) query)

  abbrev pub query_held : State Monomial → y.Subject → y.Query → Answered
  query_held state subject query = query_answer (history_subject state subject) (subject_refusal state.entries subject) (checked_query state.catalogue query)
