use Rattle.gp_syntax.specs.Layouts.{separator_lexemes}
use Rattle.gp_syntax.proofs.CanonicalLemmas.{others-step}
use Rattle.gp_syntax.proofs.canonical.push_others.Goals as goal

pub loop-item-preserved : goal.loop-item-preserved
loop-item-preserved g c =
    others-step g.F.LexemeFormat.lexemes (separator_lexemes c.args.separator) c.args.items.now c.loop-item.item-index c.item-item.result _ _ _ _
    c.loop-item.invariant c.in_ok-push_separator.ensures c.in_ok-push.ensures c.loop-item-test.true c.item-item.is
