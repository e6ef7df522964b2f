use Rattle.std.proofs.Common.{◌≡◌, ◌+◌, drop, map}
use Rattle.gp_base.specs.declared.limit.TheConstants.{MAX_ANSWER_ROWS}
use Rattle.gp_kexec.specs.Rows.{pair_view}
use Rattle.gp_kexec.specs.Remaining.{number_of}
use Rattle.gp_kexec.proofs.repeating.are_too_many.Given as goal

-- what is left, and what the rows so far have, are all that an answer may have
abbrev pub invariant-loop-row : goal.invariant-loop-row
invariant-loop-row l = number_of (map pair_view l.rows) + l.left ≡ number_of (map pair_view (drop l.row-index l.rows)) + MAX_ANSWER_ROWS
