use Rattle.std.proofs.Common.{◌≡◌, ◌+◌, suc, subst, sym, ap, ◌∙◌, arith, Some}
use Rattle.gp_versions.specs.Commits.{AreBelow}
use Rattle.gp_txn.specs.Committing.{Commits}
use Rattle.gp_txn.specs.declared.error.CommitStop.TheVariants as stop
use Rattle.gp_txn.specs.Transactions.{HoldsOthers, table_at}
use Rattle.gp_machine.specs.Replaying as m
use Rattle.gp_log.specs.Logs.{log_view}
use Rattle.gp_whatif.proofs.CommitLemmas.{commit_stops, committed}
use Rattle.gp_whatif.proofs.RunLemmas.{above, others}
use Rattle.gp_whatif.proofs.replaying.commit_again.Goals as goal

pub commit-requires-clause-above : goal.commit-requires-clause-above
commit-requires-clause-above c = λ place.
    let next : suc c.args.before ≡ c.args.before + 1 = omega arith in
    subst (λ n. AreBelow n (table_at place c.args.versions.now).spans) next
    (above (log_view c.args.log.now.entries) c.requires.next.replayable c.args.before c.requires.next.within c.args.versions.now c.requires.next.made place)

pub commit-requires-clause-others : goal.commit-requires-clause-others
commit-requires-clause-others c =
    subst (λ t. HoldsOthers t c.args.versions.now) (sym c.requires.ran.t_is)
    (others (log_view c.args.log.now.entries) c.requires.next.replayable c.args.before c.requires.next.within c.args.versions.now c.requires.next.made)

pub returns-in-Ok-clause-made : goal.returns-in-Ok-clause-made
returns-in-Ok-clause-made c =
    let next : c.args.before + 1 ≡ suc c.args.before = omega arith in
    committed (log_view c.args.log.now.entries) c.requires.next.replayable c.args.before c.requires.next.within c.args.versions.now c.requires.next.made c.args.active.now c.requires.ran c.t-t.ensures.own
    c.commit.new.versions c.commit.auto.versions (subst (λ n. Commits n c.args.active.now c.args.versions.now c.commit.new.versions) next c.in-Ok.ensures.ok)

pub returns-in-Err-Conflict-clause-stop : goal.returns-in-Err-Conflict-clause-stop
returns-in-Err-Conflict-clause-stop c =
    let next : suc c.args.before ≡ c.args.before + 1 = omega arith in
    commit_stops (log_view c.args.log.now.entries) c.requires.next.replayable c.args.before c.requires.next.within c.args.versions.now c.requires.next.made c.args.active.now c.requires.ran c.t-t.ensures.own
    (stop.Conflict c.in-Err-Conflict.other c.in-Err-Conflict.table c.in-Err-Conflict.id) (rw c.in-Err-Conflict.field-0-is at c.in-Err-Conflict.ensures.cause)
    ∙ ap (λ n. Some (m.Loses n (record { pair = record { table = c.in-Err-Conflict.table; identity = c.in-Err-Conflict.id }; version = c.in-Err-Conflict.other }))) next

pub returns-in-Err-Full-clause-stop : goal.returns-in-Err-Full-clause-stop
returns-in-Err-Full-clause-stop c =
    commit_stops (log_view c.args.log.now.entries) c.requires.next.replayable c.args.before c.requires.next.within c.args.versions.now c.requires.next.made c.args.active.now c.requires.ran c.t-t.ensures.own
    stop.Full (rw c.in-Err-Full.field-0-is at c.in-Err-Full.ensures.cause)
