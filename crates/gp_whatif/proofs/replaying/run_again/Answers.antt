use Rattle.std.proofs.Common.{◌≡◌, ℕ, ◌+◌, ◌∙◌, List, refl, ap, suc, subst, arith}
use Rattle.gp_versions.specs.Spans.{Versions}
use Rattle.gp_txn.specs.Transactions.{IsUnwritten, writes_at}
use Rattle.gp_machine.specs.Entries.{begin_version, committer_of}
use Rattle.gp_log.specs.Logs.{log_view}
use Rattle.gp_whatif.specs.Remade.{HasRun}
use Rattle.gp_whatif.proofs.RunLemmas.{started}
use Rattle.gp_whatif.proofs.replaying.run_again.Goals as goal

pub loop-ran-init : goal.loop-ran-init
loop-ran-init c =
    let entries = log_view c.args.log.now.entries in
    let next : c.args.before + 1 ≡ suc c.args.before = omega arith in
    let made = c.maker-t.ensures ∙ ap (λ n. committer_of n entries) next in
    let new = c.begin-active.ensures in
    let version = c.begin_version.ensures ∙ ap (λ t. begin_version t entries) made in (
      refl,
      started entries c.requires.next.replayable c.args.before c.requires.next.within c.args.versions.now c.requires.next.made c.begin-active.result (new.t ∙ made) new.last
          (λ place. subst (λ v. IsUnwritten v (writes_at place c.begin-active.result.tables)) version (new.tables place)),
    )

pub run_next-requires-clause-next : goal.run_next-requires-clause-next
run_next-requires-clause-next c = rw c.loop-ran.invariant.0 c.requires.next

pub run_next-requires-clause-ran : goal.run_next-requires-clause-ran
run_next-requires-clause-ran c = rw c.loop-ran.invariant.0 c.loop-ran.invariant.1

pub loop-ran-preserved : goal.loop-ran-preserved
loop-ran-preserved c =
    let entries = log_view c.args.log.now.entries in
    let next : suc c.loop-ran.ran ≡ c.loop-ran.ran + 1 = omega arith in
    let same = c.loop-ran.invariant.0 in (
      c.run_next.ensures.unchanged ∙ same,
      subst (λ (x : ℕ × List Versions). HasRun entries c.args.before x.1 x.0 c.run_next.new.active) (λ i. (next i, same i)) c.in_ok-run_next.ensures.ran,
    )
