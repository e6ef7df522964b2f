use Rattle.std.proofs.Common.{◌≡◌, ◌∙◌, ℕ, List, Ok, length, take, ap, subst, sym, arith}
use Rattle.gp_base.specs.declared.table.Table.{Table}
use Rattle.gp_algebra.specs.Views.{statement_view}
use Rattle.gp_grammar.specs.Syntax as y
use Rattle.gp_syntax.specs.Views.{command_view}
use Rattle.gp_check.specs.Checking.{checked}
use Rattle.gp_machine.specs.Questions.{transaction_refusal}
use Rattle.gp_log.specs.Parameters.{parameters}
use Rattle.gp_log.specs.LogFacts.{tables_in}
use Rattle.gp_log.specs.Logs.{log_view}
use Rattle.gp_whatif.specs.Changed.{changed, tables_at_end}
use Rattle.gp_whatif.proofs.ChangingLemmas.{log-all}
use Rattle.gp_whatif.proofs.OutcomeLemmas.{adds}
use Rattle.gp_whatif.proofs.changing.add_statement.Goals as goal

pub returns : goal.returns
returns c =
    let entries = log_view c.args.log.now.entries in
    let command = command_view c.args.command.now.value in
    let tables = ap (tables_at_end c.in_ok-t.t) (sym (log-all c.args.log.now.entries (length c.args.log.now.entries) (omega arith)))
    ∙ (c.last_step-last.ensures.tables ∙ ap (λ (place : ℕ). tables_in (log_view (take place c.args.log.now.entries))) (sym c.unwrap_or.ensures)) in
    let passed = rw c.as_ref.ensures at c.in_ok-stmt.ensures in
    let passes = ap (λ (ts : List Table). checked ts command) tables ∙ passed in
    let known = ap (λ (t : ℕ). transaction_refusal t entries) c.in_ok-t.ensures.same ∙ c.in_ok-t.ensures.refusal in
    subst (λ (t : ℕ). changed parameters entries (y.add t command) ≡ Ok (log_view c.in_ok-with_extra.field-0.entries)) c.in_ok-t.ensures.same
    (adds entries c.in_ok-t.t known command (statement_view c.in_ok-stmt.stmt.value) (log_view c.in_ok-with_extra.field-0.entries) c.in_ok-check_steps.ensures.refusal passes c.in_ok-with_extra.ensures)
