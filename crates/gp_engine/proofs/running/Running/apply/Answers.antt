use Rattle.gp_algebra.specs.Views.{select_view, statement_view}
use Rattle.gp_txn.proofs.FitLemmas.{select-readable, statement-applicable}
use Rattle.gp_engine.proofs.FitLemmas.{err-map, not-read, ok-map}
use Rattle.gp_engine.proofs.running.Running.apply.Goals as goal

pub select-requires-clause-readable : goal.select-requires-clause-readable
select-requires-clause-readable c = rw c.requires.tables (select-readable c.args.catalog.now (select_view c.in-Read.select) (rw c.in-Read.is at c.requires.fits))

pub write-requires : goal.write-requires
write-requires c = record {
  few = c.requires.few;
  tables = c.requires.tables;
  writes = rw c.requires.tables (statement-applicable c.args.catalog.now (statement_view c.args.stmt.now) (not-read c.args.catalog.now c.args.stmt.now c.in_default.not-Read) c.requires.fits);
  count = c.requires.count;
  last = c.requires.last;
  others = c.requires.others;
}

pub returns-in-Read-clause-accepted : goal.returns-in-Read-clause-accepted
returns-in-Read-clause-accepted c = rw c.in-Read.is (ok-map _ _ c.select.result (λ answer f. f c.args.catalog.now) c.select.ensures.accepted)

pub returns-in-Read-clause-stop : goal.returns-in-Read-clause-stop
returns-in-Read-clause-stop c = rw c.in-Read.is (err-map _ _ c.select.result (λ stop f. f c.args.catalog.now) c.select.ensures.stop)
