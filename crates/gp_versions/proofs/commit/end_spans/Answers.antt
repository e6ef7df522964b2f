use Rattle.std.proofs.Common.{arith}
use Rattle.std.proofs.lemmas.List.Edits.{map_over_more}
use Rattle.gp_versions.specs.Commits.{ended}
use Rattle.gp_versions.proofs.commit.end_spans.Goals as goal

pub loop-span-preserved : goal.loop-span-preserved
loop-span-preserved c =
    rw (c.end_span.ensures, ← c.span-item.is)
    (map_over_more (ended c.args.version c.args.writes.now) c.args.spans.now c.loop-span.spans c.loop-span.span-index c.span-item.result (omega arith) c.loop-span.invariant c.span-item.is)
