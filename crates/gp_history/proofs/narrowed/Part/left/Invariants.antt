use Rattle.std.proofs.Common.{drop, map}
use Rattle.gp_algebra.specs.Views.{statement_view}
use Rattle.gp_history.specs.Narrowing as n
use Rattle.gp_history.specs.Narrowing.{stays_if}
use Rattle.gp_history.proofs.NarrowedLemmas.{Goes}
use Rattle.gp_history.proofs.narrowed.Part.left.Given as goal

-- the spans that remain decide
abbrev pub invariant-loop-i : goal.invariant-loop-i
invariant-loop-i g l =
    Goes (n.meets l.reach) (stays_if l.tested l.reach l.t (map (λ stmt. statement_view stmt.now) l.statements) l.table) l.spans l.annotations l.part (drop l.i l.spans) (drop l.i l.annotations)
