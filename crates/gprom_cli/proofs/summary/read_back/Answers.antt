use Rattle.std.proofs.Common.{ap, Err, ◌∙◌}
use Rattle.gp_dump.specs.Views.{dump_view}
use Rattle.gprom_cli.proofs.SummaryLemmas.{no-fault-there, same-dump}
use Rattle.gprom_cli.proofs.summary.read_back.Goals as goal

pub returns-in-Ok-clause-dump : goal.returns-in-Ok-clause-dump
returns-in-Ok-clause-dump c =
    let script = c.args.script.now in
    let rules = c.scripts_have_well_formed_dumps.ensures.formed script c.requires in
    let bytes = c.deref.ensures.value ∙ c.in_ok-made.ensures.dump in
    same-dump script c.deref.result.now (dump_view c.in-Ok.dump) rules bytes c.in-Ok.ensures.exact

pub unreachable-requires : goal.unreachable-requires
unreachable-requires c =
    let script = c.args.script.now in
    let rules = c.scripts_have_well_formed_dumps.ensures.formed script c.requires in
    let bytes = c.deref.ensures.value ∙ c.in_ok-made.ensures.dump in
    let is = c.in-Err-Fault.is ∙ ap Err c.in-Err-Fault.field-0-is in
    no-fault-there script c.deref.result.now c.in-Err-Fault.field-0-0 c.in-Err-Fault.field-0-1 rules bytes (rw is at c.read_dump.ensures.exact)
