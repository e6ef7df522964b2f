use Rattle.std.proofs.Common.{ap, ◌∙◌, List}
use Rattle.std.specs.List.{list_any}
use Rattle.std.specs.Ordering.{is_eq}
use Rattle.gp_base.specs.Identities.{Identity, identity_cmp}
use Rattle.gp_txn.specs.declared.carried.Carried.{Carried}
use Rattle.gp_txn.specs.Overlay.{is_carried}
use Rattle.gp_txn.proofs.CarriedLemmas.{carried-among}
use Rattle.gp_txn.proofs.carried.CarriedRows.has.Goals as goal

pub returns : goal.returns
returns c =
    c.is_among.ensures
    ∙ ap (λ (ids : List Identity). list_any (λ other. is_eq (identity_cmp other c.args.id.now)) ids) c.as_slice.ensures.value
    ∙ carried-among c.self.inside.list.items c.self.inside.ids.items c.args.id.now c.self.invariant.1
    ∙ ap (λ (rows : List Carried). is_carried rows c.args.id.now) c.self.view_is
