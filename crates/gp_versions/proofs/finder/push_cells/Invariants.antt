use Rattle.std.proofs.Common.{drop}
use Rattle.gp_versions.specs.Finding.{AreAmong}
use Rattle.gp_versions.proofs.FinderLemmas.{FindsCells}
use Rattle.gp_versions.proofs.finder.push_cells.Given as goal

-- the cells that remain are still to be found
abbrev pub invariant-loop-own : goal.invariant-loop-own
invariant-loop-own l = record {
  kept : AreAmong l.initial.found.items l.found.items;
  finds : FindsCells l.spans l.cells (drop l.own-index l.cells) l.found.items;
}
