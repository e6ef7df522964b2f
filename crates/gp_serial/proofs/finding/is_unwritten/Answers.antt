use Rattle.std.proofs.Common.{◌≡◌, ◌∙◌, arith, subst, sym}
use Rattle.gp_log.specs.Contents.{entries}
use Rattle.gp_machine.specs.Entries.{log_of}
use Rattle.gp_serial.specs.Finding.{IsUnwritten}
use Rattle.gp_serial.proofs.FindingLemmas.{unwritten_more}
use Rattle.gp_serial.proofs.finding.is_unwritten.Goals as goal

pub loop-before-preserved : goal.loop-before-preserved
loop-before-preserved c =
    unwritten_more (log_of (entries c.args.log.now)) c.args.t c.args.table c.loop-before.before c.loop-before.invariant (sym c.writes_at.ensures ∙ c.if-writes_at.false)

pub returns : goal.returns
returns c = λ is.
    let all : c.loop-before.before ≡ c.args.count = omega (arith, c.loop-before-test.false, c.loop-before.auto.before-end) in
    subst (λ n. IsUnwritten (log_of (entries c.args.log.now)) c.args.t c.args.table n) all c.loop-before.invariant
