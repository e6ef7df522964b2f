use Rattle.std.proofs.Common.{◌≡◌, ℕ, true, length, map, ap}
use Rattle.std.proofs.lemmas.Bool.{and_parts}
use Rattle.gp_algebra.specs.Simple.{select_is_simple}
use Rattle.gp_algebra.specs.Views.{select_view}
use Rattle.gp_exec.specs.Choosing.{database_view, row_view}
use Rattle.gp_txn.specs.Applying.{reads_below}
use Rattle.gp_txn.specs.Inserting.{reads_table}
use Rattle.gp_txn.specs.Transactions.{view_at}
use Rattle.gp_txn.specs.Wanted.{row_where}
use Rattle.gp_txn.proofs.ReadLemmas.{answer-agree, below-read}
use Rattle.gp_txn.proofs.WantedLemmas.{answer-wanted, wanted_of}
use Rattle.gp_txn.proofs.active.Active.rows.Goals as goal

pub views-requires-clause-simple : goal.views-requires-clause-simple
views-requires-clause-simple c = (and_parts (select_is_simple (select_view c.args.select.now)) (reads_below (length c.args.versions.now) (select_view c.args.select.now)) c.requires.readable).0

pub select_rows-requires : goal.select_rows-requires
select_rows-requires c = (and_parts (select_is_simple (select_view c.args.select.now)) (reads_below (length c.args.versions.now) (select_view c.args.select.now)) c.requires.readable).0

pub returns : goal.returns
returns c =
    let select = select_view c.args.select.now in
    let views = c.in_ok-views.views in
    let view = view_at c.args.self.now.tables c.args.versions.now c.args.version in
    let same = answer-agree select (wanted_of (row_where select) view) (database_view views)
    (λ (p : ℕ) (is : reads_table p select ≡ true). ap (map row_view) (c.in_ok-views.ensures.rows p (below-read (length c.args.versions.now) p select (and_parts (select_is_simple select) (reads_below (length c.args.versions.now) select) c.requires.readable).1 is) is)) in
    rw (same, answer-wanted select view) at c.select_rows.ensures
