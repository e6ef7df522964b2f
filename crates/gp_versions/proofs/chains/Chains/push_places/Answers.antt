use Rattle.std.proofs.Common.{List, Contains, ℕ, arith, subst, sym}
use Rattle.gp_versions.specs.Chains.{entered}
use Rattle.gp_versions.proofs.FinderLemmas.{Walks, among-longer, before-at, walks-begin, walks-on}
use Rattle.gp_versions.proofs.chains.Chains.push_places.Goals as goal

pub loop-next-init : goal.loop-next-init
loop-next-init c = record {
  kept = λ q there. there;
  walks = λ keys chained. walks-begin keys c.args.key (entered c.args.self.now) c.newest-next.result c.args.found.now.items (c.newest-next.ensures keys chained);
}

pub returns-then-len-most-clause-kept : goal.returns-then-len-most-clause-kept
returns-then-len-most-clause-kept c = c.loop-next.invariant.kept

pub loop-next-preserved : goal.loop-next-preserved
loop-next-preserved c = record {
  kept = λ q there.
      subst (λ (places : List ℕ). Contains places q) (sym c.in_ok-push.ensures.items)
      (among-longer c.args.found.now.items c.loop-next.found.items c.in-Some.place c.loop-next.invariant.kept q there);
  walks = λ keys chained.
      let walks = rw c.in-Some.is at (c.loop-next.invariant.walks keys chained) in
      let before = before-at c.args.self.now.befores.items c.in-Some.place c.before-next.result walks.at.0 c.before-next.ensures in
      subst (Walks keys c.args.key (entered c.args.self.now) c.before-next.result) (sym c.in_ok-push.ensures.items)
      (walks-on keys c.args.key (entered c.args.self.now) c.in-Some.place c.before-next.result c.loop-next.found.items (chained.linked c.in-Some.place c.args.key c.before-next.result before walks.at.1) walks);
}

pub returns-clause-kept : goal.returns-clause-kept
returns-clause-kept c = c.loop-next.invariant.kept

pub returns-clause-all : goal.returns-clause-all
returns-clause-all c = λ all keys chained q below at.
    let walks = rw c.in_default.is at (c.loop-next.invariant.walks keys chained) in
    walks.others q (omega arith) below at
