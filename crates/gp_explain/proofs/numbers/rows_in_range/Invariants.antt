use Rattle.gp_explain.proofs.Prelude.{drop, AllByRecursion, AreInRange}
use Rattle.gp_explain.proofs.numbers.rows_in_range.Given as goal

-- if those that remain are in range, all are
abbrev pub invariant-loop-row : goal.invariant-loop-row
invariant-loop-row l = AllByRecursion AreInRange (drop l.row-index l.rows) → AllByRecursion AreInRange l.rows
