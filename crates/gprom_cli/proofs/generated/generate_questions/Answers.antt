use Rattle.std.proofs.Common.{◌∙◌}
use Rattle.gprom_cli.proofs.GeneratedLemmas.{questions-all}
use Rattle.gprom_cli.proofs.generated.generate_questions.Goals as goal

pub returns : goal.returns
returns c =
    c.in_ok-append_closing.ensures
    ∙ questions-all c.args.committed.now c.args.last c.loop-t.t-index c.loop-t.questions.items c.loop-t-test.false c.loop-t.invariant
