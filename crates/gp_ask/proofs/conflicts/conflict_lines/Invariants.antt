use Rattle.std.proofs.Common.{◌≡◌}
use Rattle.gp_dump.specs.Views.{dump_view}
use Rattle.gp_ask.specs.ConflictForms.{first_conflicts}
use Rattle.gp_ask.specs.RowLines.{keyed_from}
use Rattle.gp_ask.proofs.conflicts.conflict_lines.Given as goal

-- the lines of the statements so far
abbrev pub invariant-loop-before : goal.invariant-loop-before
invariant-loop-before l = l.lines.items ≡ keyed_from 0 (first_conflicts (dump_view l.dump) l.upto l.t l.before)
