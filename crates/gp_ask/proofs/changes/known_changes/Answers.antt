use Rattle.std.proofs.Common.{◌-◌, ◌∙◌, ap, sym}
use Rattle.gp_algebra.specs.Views.{statement_view}
use Rattle.gp_dump.specs.Views.{dump_view}
use Rattle.gp_ask.specs.declared.answered.Answered.TheVariants.{Lines}
use Rattle.gp_ask.specs.declared.answered.Heading.TheVariants.{Changes}
use Rattle.gp_ask.proofs.ChangesLemmas.{none-changed}
use Rattle.gp_ask.proofs.changes.known_changes.Goals as goal

pub written_changes-requires-clause-target : goal.written_changes-requires-clause-target
written_changes-requires-clause-target c = sym c.in-Some.ensures

pub returns-in-None : goal.returns-in-None
returns-in-None c = ap (Lines Changes) c.new.ensures ∙ none-changed (dump_view c.args.dump.now) c.args.t (c.args.k - 1) (statement_view c.args.stmt.now) c.in-None.ensures
