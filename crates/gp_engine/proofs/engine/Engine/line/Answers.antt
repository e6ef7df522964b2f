use Rattle.std.proofs.Common.{arith, ◌-◌, suc, sym, subst, ◌≡◌}
use Rattle.gp_syntax.specs.Views.{command_view}
use Rattle.gp_engine.specs.Engine.{Follows}
use Rattle.gp_engine.proofs.FitLemmas.{ok-map}
use Rattle.gp_engine.proofs.LineLemmas.{follows_line, kept_line, unrecorded_line}
use Rattle.gp_engine.proofs.engine.Engine.line.Goals as goal

pub invariant_of-self : goal.invariant_of-self
invariant_of-self c =
    let last = c.requires.last in
    kept_line c.self.inside.state c.line.new.self c.args.line (c.args.session - 1) (command_view c.args.command.value) c.line.result c.self.invariant (omega (arith, last)) c.requires.valid c.line.ensures.ok c.line.ensures.err

pub returns-clause-follows : goal.returns-clause-follows
returns-clause-follows c =
    let first = c.requires.first in
    let last = c.requires.last in
    let session : suc (c.args.session - 1) ≡ c.args.session = omega (arith, first) in
    ok-map _ _ c.line.result (λ answer does.
    subst (λ n. Follows c.args.self.now c.line.new.self c.args.line n (command_view c.args.command.value) answer) session
    (rw (sym c.self.view_is) (follows_line c.self.inside.state c.line.new.self answer c.args.line (c.args.session - 1) (command_view c.args.command.value) c.self.invariant (omega (arith, last)) does)))
    c.line.ensures.ok

pub returns-clause-unrecorded : goal.returns-clause-unrecorded
returns-clause-unrecorded c = ok-map _ _ c.line.result (λ answer does denied.
    rw (sym c.self.view_is) (unrecorded_line c.self.inside.state c.line.new.self answer c.args.line (c.args.session - 1) (command_view c.args.command.value) does denied)) c.line.ensures.ok
