use Rattle.std.proofs.Common.{◌+◌, subst, sym, ap, ◌∙◌}
use Rattle.gp_base.specs.Annotated.{unannotated}
use Rattle.gp_versions.specs.Chains.{AreIndexes, IsChained}
use Rattle.gp_versions.specs.Commits.{AreBelow, after_commit}
use Rattle.gp_versions.specs.Listed.{IsCurrent}
use Rattle.gp_versions.specs.Spans.{Versions, rows_at}
use Rattle.gp_versions.specs.TableSpans.{AreWhole, NoOverlap}
use Rattle.gp_versions.proofs.ChainLemmas.{AreIndexes-after, HasChains-after}
use Rattle.gp_versions.proofs.ListedLemmas.{IsListed-after}
use Rattle.gp_versions.proofs.SpanLemmas.{below-after, no_overlap-after, rows-before, rows-new-at, whole-after}
use Rattle.gp_versions.proofs.table.VersionTable.append_commit.Goals as goal

pub invariant_of-self : goal.invariant_of-self
invariant_of-self c =
    let below = subst (λ (k : Versions). AreBelow c.args.version k.spans) (sym c.self.view_is) c.requires.above in
    let chains = c.self.inside.chains in
    let current = c.self.inside.current in
    let indexes = c.self.inside.indexes.items in
    subst (λ spans. NoOverlap spans × AreWhole spans × IsChained chains spans × IsCurrent current spans × AreIndexes indexes spans) (sym c.commit_spans.ensures) (
      no_overlap-after c.args.version c.args.writes c.self.inside.spans.items below c.requires.distinct c.self.invariant.0,
      whole-after c.args.version c.args.writes c.self.inside.spans.items below c.self.invariant.1,
      HasChains-after chains.newest chains.befores.items c.args.version c.args.writes c.self.inside.spans.items c.self.invariant.2,
      IsListed-after current.places.items current.covered current.floor c.args.version c.args.writes c.self.inside.spans.items c.self.invariant.3,
      AreIndexes-after indexes c.args.version c.args.writes c.self.inside.spans.items c.self.invariant.4,
    )

pub returns-clause-older : goal.returns-clause-older
returns-clause-older c = λ v early.
    ap (rows_at unannotated v) (c.commit_spans.ensures ∙ ap (λ (k : Versions). after_commit c.args.version c.args.writes k.spans) c.self.view_is)
    ∙ rows-before unannotated v c.args.version c.args.writes c.args.self.now.spans early

pub returns-clause-newest : goal.returns-clause-newest
returns-clause-newest c =
    ap (rows_at unannotated c.args.version) (c.commit_spans.ensures ∙ ap (λ (k : Versions). after_commit c.args.version c.args.writes k.spans) c.self.view_is)
    ∙ rows-new-at unannotated c.args.version c.args.writes c.args.self.now.spans c.requires.first c.requires.above

pub returns-clause-below : goal.returns-clause-below
returns-clause-below c =
    subst (AreBelow (c.args.version + 1)) (sym (c.commit_spans.ensures ∙ ap (λ (k : Versions). after_commit c.args.version c.args.writes k.spans) c.self.view_is))
    (below-after c.args.version c.args.writes c.args.self.now.spans c.requires.above)
