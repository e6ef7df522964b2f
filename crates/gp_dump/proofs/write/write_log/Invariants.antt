use Rattle.std.proofs.Common.{◌≡◌, ◌++◌, take}
use Rattle.std.specs.List.{flat_map}
use Rattle.gp_dump.specs.Writing.{log_line_text}
use Rattle.gp_dump.proofs.write.write_log.Given as goal

-- the lines of the entries so far are written
abbrev pub invariant-loop-place : goal.invariant-loop-place
invariant-loop-place l = l.out.items ≡ l.initial.out.items ++ flat_map log_line_text (take l.place l.log.entries)
