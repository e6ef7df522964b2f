use Rattle.std.proofs.Common.{refl, Err, ap, ◌∙◌}
use Rattle.gprom_cli.specs.declared.status.Status.TheVariants as exit
use Rattle.gprom_cli.proofs.OutcomeLemmas.{load-faulty, load-memory}
use Rattle.gprom_cli.proofs.load.load_bytes.Goals as goal

pub returns-in-Err-Refused : goal.returns-in-Err-Refused
returns-in-Err-Refused g c = λ name before there.
    let events = g.H.Shelf.events c.args.shelf.now in
    let is = c.in-Err-Refused.is ∙ ap Err c.in-Err-Refused.field-0-is in
    load-faulty name c.args.table.now c.args.script.now c.args.bytes.now c.requires before events events there
    (g.K.Sink.state c.args.out.now) (g.K.Sink.state c.write_sheet_fault.new.out) c.write_sheet_fault.result
    c.in-Err-Refused.c c.in-Err-Refused.number (rw is at c.load_script.ensures.exact) refl c.write_sheet_fault.ensures

pub returns-in-Err-NoMemory : goal.returns-in-Err-NoMemory
returns-in-Err-NoMemory g c = λ name before there.
    let events = g.H.Shelf.events c.args.shelf.now in
    let sink = g.K.Sink.state c.args.out.now in
    load-memory name c.args.table.now c.args.script.now c.args.bytes.now c.requires before events events there sink sink exit.OutOfMemory refl refl refl
