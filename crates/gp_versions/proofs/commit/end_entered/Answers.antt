use Rattle.std.proofs.Common.{[], ◌∷◌, ◌++◌, ap, subst, sym, take, ◌∙◌}
use Rattle.std.proofs.lemmas.List.{take_more}
use Rattle.gp_versions.specs.Chains.{HasChains, ended_first, entered, keys_of}
use Rattle.gp_versions.specs.TableSpans.{NoOverlap}
use Rattle.gp_versions.proofs.EndLemmas.{ended_first-apart, ended_first-keys, ended_first-more, ended_first-none}
use Rattle.gp_versions.proofs.commit.end_entered.Goals as goal

pub loop-write-init : goal.loop-write-init
loop-write-init c = sym (ended_first-none (entered c.args.chains.now) c.args.version c.args.spans.now)

pub end_newest-requires-clause-chained : goal.end_newest-requires-clause-chained
end_newest-requires-clause-chained c =
    let chains = c.args.chains.now in
    let writes = take c.loop-write.write-index c.args.writes.now in
    subst (λ spans. HasChains chains.newest chains.befores.items (keys_of spans)) (sym c.loop-write.invariant)
    (subst (HasChains chains.newest chains.befores.items) (sym (ended_first-keys (entered chains) c.args.version writes c.args.spans.now)) c.requires.chained)

pub end_newest-requires-clause-apart : goal.end_newest-requires-clause-apart
end_newest-requires-clause-apart c =
    subst NoOverlap (sym c.loop-write.invariant) (ended_first-apart (entered c.args.chains.now) c.args.version (take c.loop-write.write-index c.args.writes.now) c.args.spans.now c.requires.apart)

pub loop-write-preserved : goal.loop-write-preserved
loop-write-preserved c =
    let to = entered c.args.chains.now in
    let writes = c.args.writes.now in
    let some = take c.loop-write.write-index writes in
    let write = c.write-item.result in
    c.end_newest.ensures
    ∙ ap (ended_first to c.args.version (write ∷ [])) c.loop-write.invariant
    ∙ sym (ended_first-more to c.args.version some write c.args.spans.now)
    ∙ ap (λ list. ended_first to c.args.version list c.args.spans.now) (ap (λ w. some ++ w ∷ []) c.write-item.is ∙ sym (take_more writes c.loop-write.write-index write c.loop-write-test.true))
