use Rattle.gp_versions.specs.Finding.{IsFinder}
use Rattle.gp_history.proofs.finders.enter_cells.Given as goal

abbrev pub invariant-loop-cell : goal.invariant-loop-cell
invariant-loop-cell l = IsFinder l.spans l.finder
