use Rattle.std.proofs.Common.{ap, arith, length, subst, suc, sym, ℕ, ◌+◌, ◌≡◌}
use Rattle.std.proofs.lemmas.Result.{err_from_is_err_and}
use Rattle.gp_machine.specs.Entries.{versions_in}
use Rattle.gp_log.specs.Logs.{log_view}
use Rattle.gp_whatif.specs.Replays.{IsMade}
use Rattle.gp_whatif.proofs.CodeLemmas.{written-back}
use Rattle.gp_whatif.proofs.CommitLemmas.{stops_stay}
use Rattle.gp_whatif.proofs.replaying.replay_from.Goals as goal

pub returns-in_err-make_version-clause-stop : goal.returns-in_err-make_version-clause-stop
returns-in_err-make_version-clause-stop c =
    let entries = log_view c.args.log.now.entries in
    let p = err_from_is_err_and c.from_residual.result c.from_residual.ensures.1 in
    rw (p.1, p.2) (stops_stay entries (suc c.loop-before.before) (versions_in entries) (omega (arith, c.loop-before-test.true, c.commits-before-end.ensures))
    c.in_err-make_version.field-0.0 c.in_err-make_version.ensures.stop)

pub loop-before-preserved : goal.loop-before-preserved
loop-before-preserved c =
    let entries = log_view c.args.log.now.entries in
    let next : suc c.loop-before.before ≡ c.loop-before.before + 1 = omega arith in
    let made = subst (λ (version : ℕ). IsMade entries version c.make_version.new.versions) next c.in_ok-make_version.ensures.made in
    subst (IsMade entries (c.loop-before.before + 1))
    (sym (written-back c.loop-before.versions.len c.make_version.new.versions c.loop-before.versions.items (omega (arith, c.make_version.auto.versions, c.deref_mut.ensures.len)))) made

pub make_version-requires : goal.make_version-requires
make_version-requires c = record {
  next = record {
    replayable = c.requires.replayable;
    within = omega (arith, c.loop-before-test.true, c.commits-before-end.ensures);
    made = rw c.deref_mut.ensures.value c.loop-before.invariant;
    few = omega (arith, ap length c.deref_mut.ensures.value, c.loop-before.invariant.count, c.bounds.ensures.tables);
    few_versions = omega (arith, c.loop-before-test.true, c.commits-before-end.ensures, c.bounds.ensures.commits);
  };
}
