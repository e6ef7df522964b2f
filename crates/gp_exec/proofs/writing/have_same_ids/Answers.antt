use Rattle.std.proofs.Common.{ap, sym, ◌∙◌, is_eq, arith}
use Rattle.gp_base.specs.Identities.{identity_cmp}
use Rattle.gp_exec.proofs.WritingLemmas.{same_more}
use Rattle.gp_exec.proofs.writing.have_same_ids.Goals as goal

pub loop-place-preserved : goal.loop-place-preserved
loop-place-preserved c =
    let row = c.index-rows-place.result in
    let other = c.index-others-place.result in
    same_more c.args.rows.now c.args.others.now c.loop-place.place row other (omega (arith, c.loop-place-test.true)) (omega (arith, c.loop-place-test.true, c.if-rows-others.false)) c.index-rows-place.is
    c.index-others-place.is
    (ap is_eq ((λ i. identity_cmp (c.index-rows-place.is i).id.now (c.index-others-place.is i).id.now) ∙ sym c.compare.ensures) ∙ (sym c.is_eq.ensures ∙ c.if-not-is_eq.false)) c.loop-place.invariant
