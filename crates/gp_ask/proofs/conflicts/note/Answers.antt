use Rattle.std.proofs.Common.{◌≡◌, ◌∙◌, Option, Some, ap, subst, ℕ}
use Rattle.std.specs.BTreeMap.{Updates}
use Rattle.gp_base.specs.Identities.{Identity, identity_cmp}
use Rattle.gp_versions.specs.TableSpans.{least}
use Rattle.gp_ask.proofs.NotedLemmas.{met-noted}
use Rattle.gp_ask.proofs.conflicts.note.Goals as goal

pub returns : goal.returns
returns c =
    let id = c.args.id.now in
    let old = c.args.met.now in
    let new = c.insert.new.self in
    let own = c.first_of-first.result in
    let key : c.in_ok-clone.field-0 ≡ id = c.in_ok-clone.ensures.cases in
    met-noted old new id own c.args.version (subst (λ (k : Identity). Updates identity_cmp old new k (Some own)) key c.in_ok-insert.ensures.updates)
    (c.first_of-first.ensures ∙ ap (λ (found : Option ℕ). least found (Some c.args.version)) c.get.ensures.value)
