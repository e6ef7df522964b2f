use Rattle.std.proofs.Common.{sym, subst}
use Rattle.gp_ask.specs.Formats.{heading_in}
use Rattle.gp_dump.specs.Views.{dump_view}
use Rattle.gprom_cli.specs.declared.status.Status.{Status}
use Rattle.gprom_cli.specs.Call.{WritesOutput, answered_status}
use Rattle.gprom_cli.specs.Steps.{file_answers, file_refused, file_text}
use Rattle.gprom_cli.proofs.HeadingLemmas.{behind-heading, heading-stops, heading-whole}
use Rattle.gprom_cli.proofs.ask.write_file.Goals as goal

pub returns-in-Ok : goal.returns-in-Ok
returns-in-Ok g c =
    let dump = dump_view c.args.dump.now in
    let format = c.args.format in
    let status = answered_status (file_refused format dump c.args.questions.now) in
    behind-heading (heading_in format dump) (file_answers format dump c.args.questions.now) status (g.K.Sink.state c.args.out.now) (g.K.Sink.state c.write_answers.new.out)
    (g.K.Sink.state c.write_heading.new.out) c.write_answers.result (heading-whole format dump) c.in-Ok.ensures c.write_answers.ensures

pub returns-in-Err : goal.returns-in-Err
returns-in-Err g c =
    let dump = dump_view c.args.dump.now in
    let format = c.args.format in
    let status = answered_status (file_refused format dump c.args.questions.now) in
    let old = g.K.Sink.state c.args.out.now in
    let new = g.K.Sink.state c.write_heading.new.out in
    subst (λ (s : Status). WritesOutput (file_text format dump c.args.questions.now) status old new s) (sym c.stop_status.ensures)
    (heading-stops (heading_in format dump) (file_answers format dump c.args.questions.now) status old new c.in-Err.stop c.in-Err.ensures)
