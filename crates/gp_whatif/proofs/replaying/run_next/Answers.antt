use Rattle.std.proofs.Common.{◌≡◌, ◌+◌, ◌∙◌, ℕ, suc, true, Some, ap, sym, subst, arith, ⊎_elim}
use Rattle.std.proofs.lemmas.Result.{IfErr-weaker, on_ok_weaker}
use Rattle.gp_algebra.specs.Views.{statement_view}
use Rattle.gp_txn.specs.Transactions.{HoldsOthers}
use Rattle.gp_machine.specs.Entries.{committer_of, statement_at, statement_count, statement_version}
use Rattle.gp_log.proofs.NumberingLemmas.{no-statement}
use Rattle.gp_log.specs.LogFacts.{tables_in}
use Rattle.gp_log.specs.Logs.{log_view}
use Rattle.gp_whatif.specs.Remade.{Ran, StopsAt, can_run}
use Rattle.gp_whatif.proofs.CodeLemmas.{fitting_runs}
use Rattle.gp_whatif.proofs.CommitLemmas.{statement_stops}
use Rattle.gp_log.proofs.FittingLogs.{statement_at_fits}
use Rattle.gp_whatif.proofs.RunLemmas.{next_ran, others}
use Rattle.gp_whatif.proofs.replaying.run_next.Goals as goal

pub run_statement-requires : goal.run_statement-requires
run_statement-requires c =
    let entries = log_view c.args.log.now.entries in
    let tables = tables_in entries in
    record {
      few = c.requires.next.few;
      applicable = subst (λ count. can_run count (statement_view c.in-Some.stmt.now) ≡ true) (sym c.requires.next.made.count)
          (fitting_runs tables (statement_view c.in-Some.stmt.now)
          (statement_at_fits tables entries c.requires.next.replayable.fits c.t-t.result (c.args.ran + 1) (statement_view c.in-Some.stmt.now) (sym c.in-Some.ensures)));
      later = let last = c.requires.ran.last in omega arith;
      others = subst (λ t. HoldsOthers t c.args.versions.now) (sym c.requires.ran.t_is)
          (others entries c.requires.next.replayable c.args.before c.requires.next.within c.args.versions.now c.requires.next.made);
    }

pub returns-in-Some : goal.returns-in-Some
returns-in-Some c =
    let entries = log_view c.args.log.now.entries in
    let statement = statement_view c.in-Some.stmt.now in
    let next : c.args.ran + 1 ≡ suc c.args.ran = omega arith in
    let same : c.t-t.result ≡ committer_of (suc c.args.before) entries = c.t-t.ensures.t ∙ c.requires.ran.t_is in
    let here : statement_at (committer_of (suc c.args.before) entries) (suc c.args.ran) entries ≡ Some statement =
    (λ i. statement_at (sym same i) (sym next i) entries) ∙ sym c.in-Some.ensures in
    let version : c.version_read_by.result ≡ statement_version (committer_of (suc c.args.before) entries) (suc c.args.ran) entries =
    c.version_read_by.ensures ∙ (λ i. statement_version (same i) (next i) entries) in
    record {
      unchanged = c.run_statement.ensures.unchanged;
      ran = on_ok_weaker c.run_statement.result
          (λ r. next_ran entries c.requires.next.replayable c.args.before c.requires.next.within c.args.versions.now c.requires.next.made c.args.ran c.requires.more statement here c.args.active.now c.requires.ran c.run_statement.new.active
          (subst (λ (x : ℕ × ℕ). Ran x.0 x.1 statement c.args.versions.now c.args.active.now c.run_statement.new.active) (λ i. (next i, version i)) r))
          c.run_statement.ensures.ran;
      stop = IfErr-weaker c.run_statement.result _ _
          (λ stop e. statement_stops entries c.requires.next.replayable c.args.before c.requires.next.within c.args.versions.now c.requires.next.made c.args.ran c.requires.more statement here c.args.active.now c.requires.ran stop
          (subst (λ (x : ℕ × ℕ). StopsAt stop x.0 x.1 statement c.args.versions.now c.args.active.now) (λ i. (next i, version i)) e))
          c.run_statement.ensures.stop;
    }

pub returns-in-None : goal.returns-in-None
returns-in-None c =
    let entries = log_view c.args.log.now.entries in
    let same : c.t-t.result ≡ committer_of (suc c.args.before) entries = c.t-t.ensures.t ∙ c.requires.ran.t_is in
    let count : statement_count c.t-t.result entries ≡ statement_count (committer_of (suc c.args.before) entries) entries = ap (λ t. statement_count t entries) same in
    let more = c.requires.more in
    absurd (⊎_elim (λ zero. omega arith) (λ over. omega arith) (no-statement c.t-t.result (c.args.ran + 1) entries (sym c.in-None.ensures)))
