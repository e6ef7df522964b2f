use Rattle.std.proofs.Common.{Bool, Ok, Err, ◌∙◌, ap, subst, sym}
use Rattle.gp_dump.specs.Views.{dump_view}
use Rattle.gprom_cli.specs.declared.status.Status.{Status}
use Rattle.gprom_cli.specs.Call.{WritesOutput, answered_status}
use Rattle.gprom_cli.specs.Steps.{file_answers, file_refused}
use Rattle.gprom_cli.proofs.WritesLemmas.{written-parts}
use Rattle.gprom_cli.proofs.ask.write_answers.Goals as goal

pub returns-in-Ok : goal.returns-in-Ok
returns-in-Ok g c =
    let dump = dump_view c.args.dump.now in
    let text = file_answers c.args.format dump c.args.questions.now in
    let status = answered_status (file_refused c.args.format dump c.args.questions.now) in
    let old = g.K.Sink.state c.args.out.now in
    let new = g.K.Sink.state c.write_lines.new.out in
    let wrote = c.in-Ok.ensures in
    subst (λ (s : Status). WritesOutput text status old new s) (sym (c.answered.ensures ∙ ap answered_status wrote.refused))
    (written-parts (Ok c.in-Ok.refused) text status old new wrote.written)

pub returns-in-Err : goal.returns-in-Err
returns-in-Err g c =
    let dump = dump_view c.args.dump.now in
    let text = file_answers c.args.format dump c.args.questions.now in
    let status = answered_status (file_refused c.args.format dump c.args.questions.now) in
    let old = g.K.Sink.state c.args.out.now in
    let new = g.K.Sink.state c.write_lines.new.out in
    let wrote = c.in-Err.ensures in
    subst (λ (s : Status). WritesOutput text status old new s) (sym c.stop_status.ensures)
    (written-parts {T = Bool} (Err c.in-Err.stop) text status old new wrote.written)
