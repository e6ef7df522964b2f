-- Machinery: the answer to a question from a dump, as it is computed: what would be with changes is answered from the dump of the history that would have
-- been. It is `answer_to` of `Answers` by the law `dumps_answer_as_changed_histories`.
use Rattle.std.specs.Prelude.{List}
use Rattle.gp_grammar.specs.Syntax as y
use Rattle.gp_log.specs.Parameters.{parameters}
use Rattle.gp_machine.specs.Entries.{Entry}
use Rattle.gp_whatif.specs.Changed.{changed_log}
use Rattle.gp_dump.specs.Dumps.{Dump}
use Rattle.gp_ask.specs.declared.answered.Answered.{Answered}
use Rattle.gp_ask.specs.declared.format.Format.{Format}
use Rattle.gp_ask.specs.declared.format.Format.TheVariants.{Sql}
use Rattle.gp_ask.specs.Printed.{answer_to, changed_answer, query_to, sql_answer_to}
use Rattle.gp_ask.specs.DifferenceForms.{history_of}
use Rattle.gp_ask.specs.Differences.{are_mixed, causes_answer, diff_answer}
use Rattle.gp_ask.specs.Hypothetical.{replayed_dump}
use Rattle.gp_ask.specs.Made.{unmade_refusal}

abbrev pub what_if_answer : List Entry → List y.LogChange → y.Subject → y.Query → Answered
what_if_answer entries changes subject query = changed_answer (λ log. query_to (replayed_dump log)) (changed_log parameters entries changes) subject query

abbrev pub computed_answer : Dump → y.Question → Answered
computed_answer dump (y.what_if changes subject query) = what_if_answer dump.entries changes subject query
computed_answer dump (y.diff first second query) =
    diff_answer (history_of (are_mixed first second) dump) (what_if_answer dump.entries) (unmade_refusal dump) dump.entries first second query
computed_answer dump (y.causes subject query) = causes_answer (query_to (replayed_dump dump.entries)) (what_if_answer dump.entries) (unmade_refusal dump) dump.entries subject query
computed_answer dump question = answer_to dump question

-- the answers that a format is given
abbrev pub computed_in : Format → Dump → y.Question → Answered
computed_in Sql dump = sql_answer_to dump
computed_in format dump = computed_answer dump
