use Rattle.std.proofs.Common.{ap, ◌∙◌, sym}
use Rattle.std.specs.Ordering.{is_lt}
use Rattle.std.specs.Prelude.{is_some}
use Rattle.gp_history.proofs.FoundLemmas.{behind}
use Rattle.gp_history.proofs.found.is_behind.Goals as goal

pub returns-in-Some : goal.returns-in-Some
returns-in-Some g c = λ yes. ap is_some (behind c.args.found.now.entries c.in-Some.last.now c.args.id.now c.in-Some.ensures.all_up_to (ap is_lt (sym c.cmp.ensures) ∙ sym c.is_lt.ensures ∙ yes))
