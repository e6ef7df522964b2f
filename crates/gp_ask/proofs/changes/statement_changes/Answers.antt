use Rattle.std.proofs.Common.{◌-◌, ◌≡◌, ◌∙◌, Option, ap, subst, sym}
use Rattle.std.specs.Prelude.{IfOk}
use Rattle.gp_algebra.specs.Statements.{Statement}
use Rattle.gp_dump.specs.Views.{dump_view}
use Rattle.gp_ask.specs.declared.answered.Answered.TheVariants.{Lines}
use Rattle.gp_ask.specs.declared.answered.Heading.TheVariants.{Changes}
use Rattle.gp_ask.specs.ChangeForms.{dump_changes, if_any}
use Rattle.gp_ask.proofs.changes.statement_changes.Goals as goal

pub known_changes-requires-clause-here : goal.known_changes-requires-clause-here
known_changes-requires-clause-here c = sym c.in-Some.ensures

pub returns-in-Some : goal.returns-in-Some
returns-in-Some c =
    subst (λ (found : Option Statement). IfOk c.known_changes.result (λ answered. answered ≡ if_any (dump_changes (dump_view c.args.dump.now) c.args.t (c.args.k - 1)) found)) c.in-Some.ensures c.known_changes.ensures

pub returns-in-None : goal.returns-in-None
returns-in-None c = ap (Lines Changes) c.new.ensures ∙ ap (if_any (dump_changes (dump_view c.args.dump.now) c.args.t (c.args.k - 1))) c.in-None.ensures
