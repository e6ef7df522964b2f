use Rattle.std.proofs.Common.{◌≡◌, ◌∙◌, ℕ, List, Ok, ap, subst}
use Rattle.gp_base.specs.declared.table.Table.{Table}
use Rattle.gp_algebra.specs.Views.{statement_view}
use Rattle.gp_grammar.specs.Syntax as y
use Rattle.gp_syntax.specs.Views.{command_view}
use Rattle.gp_check.specs.Checking.{checked}
use Rattle.gp_machine.specs.Questions.{statement_refusal, transaction_refusal}
use Rattle.gp_log.specs.Parameters.{parameters}
use Rattle.gp_log.specs.Logs.{log_view}
use Rattle.gp_whatif.specs.Changed.{changed}
use Rattle.gp_whatif.proofs.OutcomeLemmas.{replaces}
use Rattle.gp_whatif.proofs.changing.replace_statement.Goals as goal

pub returns : goal.returns
returns c =
    let entries = log_view c.args.log.now.entries in
    let command = command_view c.args.command.now.value in
    let passed = rw c.as_ref.ensures at c.in_ok-stmt.ensures in
    let passes = ap (λ (tables : List Table). checked tables command) c.place_of.ensures.tables ∙ passed in
    let known = ap (λ (t : ℕ). transaction_refusal t entries) c.in_ok-t.ensures.same ∙ c.in_ok-t.ensures.refusal in
    let there = ap (λ (k : ℕ). statement_refusal c.in_ok-t.t k entries) c.in_ok-k.ensures.same ∙ c.in_ok-k.ensures.refusal in
    subst (λ (x : ℕ × ℕ). changed parameters entries (y.replace x.0 x.1 command) ≡ Ok (log_view c.in_ok-with_replaced.field-0.entries)) (λ i. (c.in_ok-t.ensures.same i, c.in_ok-k.ensures.same i))
    (replaces entries c.in_ok-t.t known c.in_ok-k.k command (statement_view c.in_ok-stmt.stmt.value) (log_view c.in_ok-with_replaced.field-0.entries) there passes c.in_ok-with_replaced.ensures)
