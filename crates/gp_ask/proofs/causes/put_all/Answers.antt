use Rattle.std.proofs.Common.{List, ap, arith, length, subst, suc, sym, ℕ, ◌+◌, ◌≡◌}
use Rattle.std.proofs.lemmas.Result.{on_ok_weaker}
use Rattle.gp_dump.specs.Views.{dump_view}
use Rattle.gp_machine.specs.Entries.{Entry, versions_in}
use Rattle.gp_whatif.specs.Replays.{IsMade}
use Rattle.gp_whatif.proofs.CodeLemmas.{written-back}
use Rattle.gp_ask.specs.Writes.{ArePut}
use Rattle.gp_ask.proofs.ProvenanceLemmas.{replayable}
use Rattle.gp_ask.proofs.causes.put_all.Goals as goal

pub returns-in-Err : goal.returns-in-Err
returns-in-Err c = on_ok_weaker c.put_later.result (λ put. put (versions_in (dump_view c.args.asked.now.dump.now).entries)) c.put_later.ensures

pub loop-before-preserved : goal.loop-before-preserved
loop-before-preserved c =
    let entries : List Entry = (dump_view c.args.asked.now.dump.now).entries in
    let next : suc c.loop-before.before ≡ c.loop-before.before + 1 = omega arith in
    let made = subst (λ (version : ℕ). IsMade entries version c.make_version.new.versions) next c.in-Ok.ensures.made in (
      subst (IsMade entries (c.loop-before.before + 1))
          (sym (written-back c.loop-before.versions.len c.make_version.new.versions c.loop-before.versions.items (omega (arith, c.make_version.auto.versions, c.deref_mut.ensures.len)))) made,
      subst (λ (version : ℕ). ArePut c.args.asked.now c.args.writes.now version c.put_version.new.lines) next c.in_ok-put_version.ensures,
    )

pub make_version-requires : goal.make_version-requires
make_version-requires c = record {
  next = record {
    replayable = replayable (dump_view c.args.asked.now.dump.now) c.requires.rules;
    within = omega (arith, c.loop-before-test.true, c.commits-before-end.ensures);
    made = rw c.deref_mut.ensures.value c.loop-before.invariant.0;
    few = omega (arith, ap length c.deref_mut.ensures.value, c.loop-before.invariant.0.count, c.bounds.ensures.tables);
    few_versions = omega (arith, c.loop-before-test.true, c.commits-before-end.ensures, c.bounds.ensures.commits);
  };
}
