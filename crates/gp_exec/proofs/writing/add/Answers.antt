use Rattle.gp_exec.proofs.WritingLemmas.{adds_one}
use Rattle.gp_exec.proofs.writing.add.Goals as goal

pub returns : goal.returns
returns c = adds_one c.args.ids.now c.insert.new.self c.args.id.now c.in_ok-clone.field-0 c.args.is_wanted c.in_ok-clone.ensures.cases c.if-not-is_wanted.false c.in_ok-insert.ensures.updates
