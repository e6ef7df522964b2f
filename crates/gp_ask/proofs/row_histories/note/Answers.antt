use Rattle.std.proofs.Common.{Some, subst, true}
use Rattle.std.specs.BTreeMap.{Updates}
use Rattle.gp_base.specs.Identities.{Identity, identity_cmp}
use Rattle.gp_ask.proofs.NotedLemmas.{asked-noted}
use Rattle.gp_ask.proofs.row_histories.note.Goals as goal

pub returns : goal.returns
returns c =
    let id = c.args.id.now in
    asked-noted c.args.asked.now c.insert.new.self id
    (subst (λ (k : Identity). Updates identity_cmp c.args.asked.now c.insert.new.self k (Some true)) c.in_ok-clone.ensures.cases c.in_ok-insert.ensures.updates)
