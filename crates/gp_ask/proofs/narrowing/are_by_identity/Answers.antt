use Rattle.std.proofs.Common.{◌≡◌, ◌∙◌, arith, subst, sym}
use Rattle.gp_log.specs.Logs.{log_view}
use Rattle.gp_ask.specs.HistoryForms.{AreByIdentity}
use Rattle.gp_ask.proofs.NarrowedLemmas.{are-more}
use Rattle.gp_ask.proofs.narrowing.are_by_identity.Goals as goal

pub loop-before-preserved : goal.loop-before-preserved
loop-before-preserved c =
    are-more c.args.table c.args.t c.loop-before.before (log_view c.args.log.now.entries) c.loop-before.invariant (sym c.is_found_by_identity.ensures ∙ c.if-not-is_found_by_identity.false)

pub returns : goal.returns
returns c = λ is.
    let all : c.loop-before.before ≡ c.args.count = omega (arith, c.loop-before-test.false, c.loop-before.auto.before-end) in
    subst (λ n. AreByIdentity c.args.table c.args.t n (log_view c.args.log.now.entries)) all c.loop-before.invariant
