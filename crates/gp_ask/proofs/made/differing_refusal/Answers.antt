use Rattle.std.proofs.Common.{◌≡◌, ◌<◌, ◌+◌, ℕ, suc, refl, ap, ◌∙◌, subst, sym, arith}
use Rattle.gp_base.specs.Annotated.{unannotated}
use Rattle.gp_log.specs.Contents as contents
use Rattle.gp_machine.specs.HistorySpans.{as_of}
use Rattle.gp_reenact.specs.Reenacting.{spans_of}
use Rattle.gp_ask.specs.Made as m
use Rattle.gp_ask.proofs.MadeSpans.{first-some}
use Rattle.gp_ask.proofs.made.differing_refusal.Goals as goal

pub returns-then-is_some : goal.returns-then-is_some
returns-then-is_some c =
    let catalogue = contents.tables c.args.log.now in
    let rows = as_of unannotated (spans_of c.args.tables.now) in
    let others = as_of unannotated (spans_of c.args.others.now) in
    let before = c.loop-before.before in
    let below : before < contents.commits c.args.log.now = subst (λ n. before < n) c.commits-before-end.ensures c.loop-before-test.true in
    let next : before + 1 ≡ suc before = omega arith in
    first-some (λ n. m.differing_refusal catalogue n rows others) (λ n. m.version_refusal catalogue (suc n) (rows (suc n)) (others (suc n))) (λ n. refl) before
    (contents.commits c.args.log.now) c.in_ok-found.found below c.loop-before.invariant
    (c.in_ok-found.ensures ∙ ap (λ n. m.version_refusal catalogue n (rows n) (others n)) next) (sym c.is_some.ensures ∙ c.if-is_some.true)
