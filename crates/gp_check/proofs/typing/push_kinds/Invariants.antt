use Rattle.std.proofs.Common.{◌≡◌, ◌++◌, drop}
use Rattle.gp_check.specs.Faults.{kind_types}
use Rattle.gp_check.proofs.typing.push_kinds.Given as goal

abbrev pub invariant-loop-column : goal.invariant-loop-column
invariant-loop-column l =
    l.types ++ kind_types (drop l.column-index l.columns) ≡ l.initial.types ++ kind_types l.columns
