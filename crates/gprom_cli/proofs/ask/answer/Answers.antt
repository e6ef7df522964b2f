use Rattle.std.proofs.Common.{ap, refl, ◌∙◌, Err}
use Rattle.gp_dump.specs.Verdicts.{fault_in}
use Rattle.gp_dump.specs.Views.{dump_view}
use Rattle.gp_dump.proofs.FaultLemmas.{fault-found, kept-found}
use Rattle.gp_dump.proofs.LawLemmas.{whole-text}
use Rattle.gprom_cli.specs.Steps.{is_damaged, no_answer}
use Rattle.gprom_cli.proofs.OutcomeLemmas.{answered-read}
use Rattle.gprom_cli.proofs.ask.answer.Goals as goal

pub returns-in-Ok : goal.returns-in-Ok
returns-in-Ok g c =
    let dump = dump_view c.in-Ok.dump in
    let formed = kept-found c.args.bytes.now dump c.in-Ok.ensures.exact in
    let rules = (whole-text c.args.bytes.now dump formed).rules in
    answered-read c.args.format c.args.bytes.now c.args.questions.now dump (g.K.Sink.state c.args.out.now) (g.K.Sink.state c.write_file.new.out) c.write_file.result
    formed
    (c.dumps_answer_for_changed_histories.ensures.answers c.args.format dump c.args.questions.now rules)
    (c.dumps_answer_for_changed_histories.ensures.refusals c.args.format dump c.args.questions.now rules)
    c.write_file.ensures

pub returns-in-Err-Fault : goal.returns-in-Err-Fault
returns-in-Err-Fault g c =
    let is = c.in-Err-Fault.is ∙ ap Err c.in-Err-Fault.field-0-is in
    is_damaged c.in-Err-Fault.f c.in-Err-Fault.line (fault-found c.args.bytes.now c.in-Err-Fault.f c.in-Err-Fault.line (ap fault_in (rw is at c.read_dump.ensures.exact)))
    (rw c.in-Err-Fault.field-0-is at c.write_damage.ensures)

pub returns-in-Err-NoMemory : goal.returns-in-Err-NoMemory
returns-in-Err-NoMemory g c = no_answer refl refl
