use Rattle.std.proofs.Common.{◌≡◌, List, Ok, ap, sym, ◌∙◌}
use Rattle.std.proofs.lemmas.Result.{IfOk-weaker}
use Rattle.gp_dump.specs.Views.{dump_view}
use Rattle.gp_grammar.specs.Syntax as y
use Rattle.gp_log.specs.Logs.{log_view}
use Rattle.gp_log.specs.Parameters.{parameters}
use Rattle.gp_machine.specs.Entries.{Entry}
use Rattle.gp_syntax.specs.Views.{query_view, subject_view}
use Rattle.gp_whatif.specs.Changed.{changed_log}
use Rattle.gp_ask.specs.declared.answered.Answered.{Answered}
use Rattle.gp_ask.specs.Hypothetical.{remaking_refusal, replayed_dump}
use Rattle.gp_ask.specs.Printed.{query_to}
use Rattle.gp_ask.specs.Values.{unless_refused}
use Rattle.gp_ask.proofs.RememberedLemmas.{unstopped-rows}
use Rattle.gp_ask.proofs.remembering.remade_rows.Goals as goal

pub remembered_rows-requires-clause-made : goal.remembered_rows-requires-clause-made
remembered_rows-requires-clause-made c = (rw c.in-Ok.is at c.in_ok-refusal.ensures).1

pub returns-in_ok-copy_changes-in-Ok-clause-answered : goal.returns-in_ok-copy_changes-in-Ok-clause-answered
returns-in_ok-copy_changes-in-Ok-clause-answered c =
    let entries = log_view c.args.log.entries in
    let own = (dump_view c.in-Ok.dump).entries in
    let subject = subject_view c.args.subject.now in
    let query = query_view c.args.query.read.now in
    let remakes = rw c.in-Ok.is at c.in_ok-refusal.ensures in
    let same : own ≡ entries = remakes.0 in
    let rows : Answered = query_to (replayed_dump own) subject query in
    IfOk-weaker c.remembered_rows.result (λ (a : Answered). a ≡ rows) (λ (a : Answered). a ≡ unless_refused (remaking_refusal entries) (query_to (replayed_dump entries) subject query))
    (λ a is.
    is
    ∙ sym (unstopped-rows own c.in-Ok.dump.versions remakes.1 rows)
    ∙ ap (λ (log : List Entry). unless_refused (remaking_refusal log) (query_to (replayed_dump log) subject query)) same) c.remembered_rows.ensures.answered

pub returns-in_ok-copy_changes-in-Ok-clause-kept : goal.returns-in_ok-copy_changes-in-Ok-clause-kept
returns-in_ok-copy_changes-in-Ok-clause-kept c = λ dump is.
    let remakes = rw c.in-Ok.is at c.in_ok-refusal.ensures in
    c.remembered_rows.ensures.kept dump (ap (λ (changes : List y.LogChange). changed_log parameters (dump_view dump).entries changes) c.in_ok-copy_changes-in-Ok.ensures ∙ is ∙ ap Ok (sym remakes.0))

pub remembered_rows-requires-clause-annotations : goal.remembered_rows-requires-clause-annotations
remembered_rows-requires-clause-annotations c = c.new.ensures c.in-Ok.dump
