use Rattle.std.proofs.Common.{◌≡◌, List, Result, subst, sym}
use Rattle.std.specs.Prelude.{IfOk}
use Rattle.gp_base.specs.declared.refusal.Refusal.{Refusal}
use Rattle.gp_dump.specs.Views.{dump_view}
use Rattle.gp_log.specs.Parameters.{parameters}
use Rattle.gp_machine.specs.Entries.{Entry}
use Rattle.gp_syntax.specs.Views.{query_view, subject_view}
use Rattle.gp_ask.specs.Differences.{refusal_on}
use Rattle.gp_ask.proofs.hypothetical.changed_refusal.Goals as goal

pub change-requires-clause-lines : goal.change-requires-clause-lines
change-requires-clause-lines c = c.changed_lines_rise.ensures.lines parameters (dump_view c.args.dump.now).entries c.requires.rules.log

pub returns-in-Ok : goal.returns-in-Ok
returns-in-Ok c =
    subst (λ (found : Result (List Entry) Refusal). IfOk c.asking_refusal.result (λ refusal. refusal ≡ refusal_on found (subject_view c.args.subject.now) (query_view c.args.query.now)))
    (sym c.in-Ok.ensures.changed) c.asking_refusal.ensures
