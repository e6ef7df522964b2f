use Rattle.std.proofs.Common.{ap, ◌∙◌, List}
use Rattle.std.specs.List.{list_any}
use Rattle.std.specs.Ordering.{is_eq}
use Rattle.gp_base.specs.Identities.{Identity, identity_cmp}
use Rattle.gp_versions.specs.declared.span.Write.{Write}
use Rattle.gp_versions.specs.Commits.{is_written}
use Rattle.gp_versions.proofs.WritesLemmas.{written-among}
use Rattle.gp_versions.proofs.writes.Writes.has.Goals as goal

pub returns : goal.returns
returns c =
    c.is_among.ensures
    ∙ ap (λ (ids : List Identity). list_any (λ other. is_eq (identity_cmp other c.args.id.now)) ids) c.as_slice.ensures.value
    ∙ written-among c.self.inside.list.items c.self.inside.ids.items c.args.id.now c.self.invariant.1
    ∙ ap (λ (writes : List Write). is_written writes c.args.id.now) c.self.view_is
