use Rattle.std.proofs.Common.{◌≡◌, ◌+◌, ◌≤◌, drop, filter, length}
use Rattle.gp_syntax.specs.Views.{changes_view}
use Rattle.gp_whatif.specs.Changed.{adds, lines_for}
use Rattle.gp_whatif.proofs.changing.lines_for.Given as goal

-- the lines so far, and one for each change that is left and adds a statement
abbrev pub invariant-loop-change : goal.invariant-loop-change
invariant-loop-change l = record {
  rest : l.lines + length (filter adds (changes_view (drop l.change-index l.changes))) ≡ lines_for (changes_view l.changes);
  few : l.lines ≤ l.change-index + 1;
}
