-- Machinery: the answer of rows that are counted.
use Rattle.std.specs.Prelude.{ℕ, nat_lt, List, if◌then◌else◌}
use Rattle.gp_base.specs.declared.cell.Cell.{Cell}
use Rattle.gp_base.specs.declared.refusal.Refusal.TheVariants.{E27}
use Rattle.gp_base.specs.declared.limit.TheConstants.{MAX_ANSWER_ROWS}
use Rattle.gp_kexec.specs.Remaining.{number_of, repeated}
use Rattle.gp_ask.specs.declared.answered.Answered.{Answered}
use Rattle.gp_ask.specs.declared.answered.Answered.TheVariants.{Refused, Rows}

-- each row as often as it counts, unless there are too many
abbrev pub counted_answer : List (List Cell × ℕ) → Answered
counted_answer pairs = if nat_lt MAX_ANSWER_ROWS (number_of pairs) then Refused E27 else Rows (repeated pairs)
