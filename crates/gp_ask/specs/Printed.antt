-- Machinery: the answers with the programs that are printed: the merged ones.
use Rattle.std.specs.Prelude.{List, Result}
use Rattle.gp_base.specs.declared.refusal.Refusal.{Refusal}
use Rattle.gp_base.specs.Tokens.{Monomial}
use Rattle.gp_grammar.specs.Syntax as y
use Rattle.gp_algebra.specs.Statements.{Select}
use Rattle.gp_machine.specs.Entries.{Entry}
use Rattle.gp_machine.specs.State.{State}
use Rattle.gp_dump.specs.Dumps.{Dump}
use Rattle.gp_ask.specs.declared.answered.Answered.{Answered}
use Rattle.gp_ask.specs.Answers as answers
use Rattle.gp_ask.specs.Asking as asking
use Rattle.gp_ask.specs.Hypothetical as hypothetical
use Rattle.gp_ask.specs.Programs.{program_lines, sql_lines}
use Rattle.gp_ask.specs.Subjects as subjects
use Rattle.gp_ask.specs.Values.{or_refused}

abbrev pub dump_answer : Dump → y.How → y.Point → Select → Answered
dump_answer = asking.dump_answer program_lines

abbrev pub query_to : Dump → y.Subject → y.Query → Answered
query_to = subjects.query_to program_lines

-- of a state
abbrev pub ask_to : Dump → y.How → y.Point → y.Query → Answered
ask_to dump how point = query_to dump (y.of_state how point)

abbrev pub history_answer : State Monomial → y.How → y.Point → Select → Answered
history_answer = asking.history_answer program_lines

abbrev pub query_held : State Monomial → y.Subject → y.Query → Answered
query_held = subjects.query_held program_lines

abbrev pub remade_answer : (y.Subject → y.Query → Answered) → List Entry → y.Subject → y.Query → Answered
remade_answer = hypothetical.remade_answer program_lines

-- by the changed log, or the refusal of a change
abbrev pub changed_answer : (List Entry → y.Subject → y.Query → Answered) → Result (List Entry) Refusal → y.Subject → y.Query → Answered
changed_answer answers log subject query = or_refused (λ entries. remade_answer (answers entries) entries subject query) log

abbrev pub what_if_held : List Entry → List y.LogChange → y.Subject → y.Query → Answered
what_if_held = hypothetical.what_if_held program_lines

abbrev pub answer_to : Dump → y.Question → Answered
answer_to = answers.answer_to program_lines

abbrev pub held_to : State Monomial → y.Question → Answered
held_to = answers.held_to program_lines

-- with texts of SQL

abbrev pub sql_ask_to : Dump → y.How → y.Point → y.Query → Answered
sql_ask_to dump how point = subjects.query_to sql_lines dump (y.of_state how point)

abbrev pub sql_answer_to : Dump → y.Question → Answered
sql_answer_to = answers.answer_to sql_lines
