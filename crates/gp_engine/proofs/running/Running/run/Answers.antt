use Rattle.std.proofs.Common.{◌≡◌, ℕ, true, List, length, Ok, Err, ap, sym, ◌∙◌, subst}
use Rattle.std.proofs.lemmas.Result.{err_from_is_err_and}
use Rattle.gp_base.specs.declared.table.Table.{Table}
use Rattle.gp_algebra.specs.Fitting.{statement_fits}
use Rattle.gp_algebra.specs.Views.{statement_view}
use Rattle.gp_algebra.specs.declared.statement.Stmt.{Stmt}
use Rattle.gp_check.specs.Checking.{checked}
use Rattle.gp_syntax.specs.Views.{command_view}
use Rattle.gp_versions.specs.Spans.{Versions}
use Rattle.gp_txn.specs.Transactions.{HoldsOthers}
use Rattle.gp_machine.specs.Entries.{versions_in}
use Rattle.gp_log.specs.LogFacts.{tables_in}
use Rattle.gp_log.specs.Logs.{log_view}
use Rattle.gp_engine.specs.Methods.{Accepts, StopsBy, refusal_in}
use Rattle.gp_engine.proofs.StatementLemmas.{check-stops, checked-here, few-steps, run-stops}
use Rattle.gp_engine.proofs.running.Running.run.Goals as goal

pub apply-requires : goal.apply-requires
apply-requires c =
    let tables = c.catalog-2.ensures ∙ ap (λ entries. tables_in (log_view entries)) c.reserve.ensures.unchanged in
    let stmt = c.as_ref-2.ensures ∙ c.in_ok-stmt-2.ensures.ok in
    let same = tables ∙ sym c.catalog.ensures in
    record {
      few = rw c.index_for.ensures c.requires.few;
      tables = ap length c.index_for.ensures ∙ c.requires.tables ∙ ap length (sym tables);
      fits = subst (λ (x : List Table × Stmt). statement_fits x.0 (statement_view x.1) ≡ true) (λ i. (sym same i, sym stmt i)) c.in_ok-stmt.ensures.fits;
      count = few-steps c.args.self.now.statements c.statements.result (checked c.catalog.result.now (command_view c.args.command.now)) (statement_view c.in_ok-stmt.stmt) c.in_ok-stmt.ensures.checked;
      last = c.requires.last;
      others = subst (HoldsOthers c.args.self.now.active.t) (sym c.index_for.ensures) c.requires.others;
    }

pub returns-clause-ran : goal.returns-clause-ran
returns-clause-ran c =
    let entries = log_view c.args.log.now.entries in
    let old = c.args.self.now in
    let accepted = c.in_ok-reply.ensures.accepted in
    let tables = c.catalog-2.ensures ∙ ap (λ logged. tables_in (log_view logged)) c.reserve.ensures.unchanged in
    let newest = c.commits-newest.ensures ∙ ap (λ logged. versions_in (log_view logged)) c.reserve.ensures.unchanged in
    record {
      t = c.t.ensures.t ∙ accepted.t;
      k = accepted.statements;
      means =
          checked-here entries c.args.versions.now old (command_view c.args.command.now) c.statements.result c.catalog.result.now (Ok c.in_ok-stmt.stmt) c.statements.ensures c.catalog.ensures c.in_ok-stmt.ensures.checked
          ∙ ap (λ (stmt : Stmt). Ok (statement_view stmt)) (sym c.in_ok-stmt-2.ensures.ok);
      accepts =
          subst (λ (x : List Table × (List Versions × (ℕ × Stmt))). Accepts x.0 x.1.0 x.1.1.0 old c.apply.new.self c.in_ok-reply.reply (statement_view x.1.1.1))
          (λ i. (tables i, (c.index_for.ensures i, (newest i, c.as_ref-2.ensures i)))) accepted;
    }

pub returns-in_err-stmt-clause-stop : goal.returns-in_err-stmt-clause-stop
returns-in_err-stmt-clause-stop c =
    let entries = log_view c.args.log.now.entries in
    let p = err_from_is_err_and c.from_residual.result c.from_residual.ensures.1 in
    rw (p.1, p.2) (check-stops entries c.args.versions.now c.args.self.now (command_view c.args.command.now) c.in_err-stmt.field-0.0
    (checked-here entries c.args.versions.now c.args.self.now (command_view c.args.command.now) c.statements.result c.catalog.result.now (Err c.in_err-stmt.field-0.0) c.statements.ensures c.catalog.ensures c.in_err-stmt.ensures.checked))

pub returns-in_err-reply-clause-stop : goal.returns-in_err-reply-clause-stop
returns-in_err-reply-clause-stop c =
    let entries = log_view c.args.log.now.entries in
    let old = c.args.self.now in
    let tables = c.catalog-2.ensures ∙ ap (λ logged. tables_in (log_view logged)) c.reserve.ensures.unchanged in
    let newest = c.commits-newest.ensures ∙ ap (λ logged. versions_in (log_view logged)) c.reserve.ensures.unchanged in
    let stmt = c.as_ref-2.ensures ∙ c.in_ok-stmt-2.ensures.ok in
    let p = err_from_is_err_and c.from_residual-in_err-reply.result c.from_residual-in_err-reply.ensures.1 in
    rw (p.1, p.2) (run-stops entries c.args.versions.now old (command_view c.args.command.now) (statement_view c.in_ok-stmt.stmt) c.in_err-reply.field-0.0
    (checked-here entries c.args.versions.now old (command_view c.args.command.now) c.statements.result c.catalog.result.now (Ok c.in_ok-stmt.stmt) c.statements.ensures c.catalog.ensures c.in_ok-stmt.ensures.checked)
    (subst (λ (x : List Table × (List Versions × (ℕ × Stmt))). StopsBy c.in_err-reply.field-0.0 (refusal_in x.0 x.1.0 x.1.1.0 old (statement_view x.1.1.1)))
    (λ i. (tables i, (c.index_for.ensures i, (newest i, stmt i)))) c.in_err-reply.ensures.stop))
