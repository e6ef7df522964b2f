use Rattle.std.proofs.Common.{List, subst, sym}
use Rattle.gp_io.specs.Steps.{Step}
use Rattle.gp_io.specs.Whole.{ReplacesWhole}
use Rattle.gp_io.proofs.disk.DiskShelfShelf.replace.Goals as goal

pub returns-clause-whole : goal.returns-clause-whole
returns-clause-whole g c =
    subst (λ (steps : List Step). ReplacesWhole c.args.name.now c.args.bytes.now c.args.self.now.system.trace.steps steps c.replace-answer.result)
    (sym c.note_replacement.ensures.steps) c.replace-answer.ensures.whole
