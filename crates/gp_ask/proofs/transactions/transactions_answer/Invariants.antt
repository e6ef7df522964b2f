use Rattle.std.proofs.Common.{◌≡◌, map, take}
use Rattle.std.specs.List.{flat_map}
use Rattle.gp_log.specs.Logs.{entry_view, log_view}
use Rattle.gp_ask.specs.Transactions.{begun_lines}
use Rattle.gp_ask.proofs.transactions.transactions_answer.Given as goal

-- the lines of the entries so far
abbrev pub invariant-loop-place : goal.invariant-loop-place
invariant-loop-place l = l.lines ≡ flat_map (begun_lines (log_view l.log.entries)) (map entry_view (take l.place l.log.entries))
