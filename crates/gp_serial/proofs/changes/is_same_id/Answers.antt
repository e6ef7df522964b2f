use Rattle.std.proofs.Common.{◌∙◌, sym}
use Rattle.gp_base.proofs.IdentityLaws.{same_identity-is}
use Rattle.gp_serial.proofs.changes.is_same_id.Goals as goal

pub returns : goal.returns
returns c = c.eq.ensures ∙ sym (same_identity-is c.args.id.now c.args.other.now)
