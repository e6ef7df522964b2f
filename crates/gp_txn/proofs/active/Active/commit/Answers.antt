use Rattle.std.proofs.Common.{◌∙◌}
use Rattle.gp_txn.specs.Committing.{commit_of}
use Rattle.gp_txn.specs.Transactions.{table_at}
use Rattle.gp_versions.specs.Commits.{after_commit}
use Rattle.gp_txn.proofs.VersionLemmas.{commits-of}
use Rattle.gp_txn.proofs.active.Active.commit.Goals as goal

pub returns-clause-ok : goal.returns-clause-ok
returns-clause-ok c =
    let old = c.args.versions.now in
    let done = c.in_ok-commit_writes.ensures in
    commits-of c.args.version c.args.self.now old c.commit_writes.new.versions c.requires.first c.tables.ensures.own c.requires.others c.requires.above c.commit_writes.auto.versions
    (λ place low. done.made.spans place low ∙ (λ i. after_commit c.args.version (commit_of (c.tables.ensures.tables i) old place) (table_at place old).spans))
    c.tables.result.now c.tables.ensures.tables done.made.first done.made.few
