use Rattle.std.proofs.Common.{subst, sym, ap, ◌∙◌}
use Rattle.gp_versions.specs.Commits.{AreDistinct}
use Rattle.gp_txn.specs.Overlay.{overlay_of, rows_below, table_writes}
use Rattle.gp_txn.proofs.CommitLemmas.{distinct-table}
use Rattle.gp_txn.proofs.publication.prepare_one.Goals as goal

pub returns-clause-distinct : goal.returns-clause-distinct
returns-clause-distinct c =
    subst AreDistinct
    (sym (c.in_ok-from_vec.ensures ∙ c.in_ok-list.ensures ∙ ap (λ spans. table_writes (overlay_of spans c.args.writes.now) (rows_below (overlay_of spans c.args.writes.now) spans)) c.as_list-spans.ensures.spans))
    (distinct-table c.args.writes.now c.args.table.now.spans c.args.t c.as_list-spans.ensures.apart c.requires.others c.requires.own)
