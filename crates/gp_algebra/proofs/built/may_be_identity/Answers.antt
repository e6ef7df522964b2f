use Rattle.std.proofs.Common.{sym, ap, ◌∙◌}
use Rattle.gp_algebra.specs.WellBuilt.{may_be_identity}
use Rattle.gp_algebra.proofs.BuiltLemmas.{parts-none}
use Rattle.gp_algebra.proofs.built.may_be_identity.Goals as goal
use Rattle.gp_expr.proofs.ViewLemmas.{new_id_view}

pub returns-in-NewId : goal.returns-in-NewId
returns-in-NewId c =
    let view = new_id_view c.args.expr.now _ _ _ c.in-NewId.parts c.deref.result.now c.in-NewId.is c.deref.ensures.value in
    c.make_no_identities.ensures ∙ (parts-none c.deref.result.now ∙ sym (ap may_be_identity view))
