use Rattle.std.proofs.Common.{None, get_or, sym, ◌∙◌}
use Rattle.gp_syntax.specs.Views.{command_view}
use Rattle.gp_engine.proofs.FitLemmas.{ok-map}
use Rattle.gp_engine.proofs.LineLemmas.{statement-does}
use Rattle.gp_engine.proofs.state.State.line.Goals as goal

pub statement-requires-clause-statement : goal.statement-requires-clause-statement
statement-requires-clause-statement c = rw c.as_ref.ensures at (sym c.is_statement.ensures ∙ c.if-is_statement.true)

pub control-requires-clause-other : goal.control-requires-clause-other
control-requires-clause-other c = rw c.as_ref-else-is_statement.ensures (rw c.as_ref.ensures at (sym c.is_statement.ensures ∙ c.if-is_statement.false))

pub returns-then-is_statement-clause-ok : goal.returns-then-is_statement-clause-ok
returns-then-is_statement-clause-ok c =
    let engine = c.args.self.now in
    let is = rw c.as_ref.ensures at (sym c.is_statement.ensures ∙ c.if-is_statement.true) in
    ok-map _ _ c.statement.result (λ answer does.
    statement-does engine c.statement.new.self answer c.args.line c.args.place (get_or engine.sessions c.args.place None) (command_view c.args.command.value) is does)
    c.statement.ensures.ok
