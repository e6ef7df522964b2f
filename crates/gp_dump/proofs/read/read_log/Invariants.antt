use Rattle.std.proofs.Common.{◌≡◌, ◌≤◌, ◌+◌, [], length, true}
use Rattle.gp_check.specs.Valid.{tables_are_valid}
use Rattle.gp_log.specs.LogFacts.{tables_in}
use Rattle.gp_log.specs.Logs.{log_view}
use Rattle.gp_log.specs.declared.limit.TheConstants.{MAX_ENTRIES}
use Rattle.gp_dump.specs.declared.dump.TheConstants.{MAX_DUMP_LENGTH}
use Rattle.gp_dump.specs.Reading.{verdict_from}
use Rattle.gp_dump.specs.Rules.{Logs}
use Rattle.gp_dump.proofs.read.read_log.Given as goal

abbrev pub invariant-loop-left : goal.invariant-loop-left
invariant-loop-left l = record {
  told : verdict_from l.fn.rest.bytes.now (Logs l.second l.count []) l.fn.rest.number ≡ verdict_from l.rest.bytes.now (Logs l.second l.left (log_view l.log.entries)) l.rest.number;
  room : l.rest.number + length l.rest.bytes.now ≤ MAX_DUMP_LENGTH + 1;
  few : length l.log.entries + l.left ≤ MAX_ENTRIES;
  valid : tables_are_valid (tables_in (log_view l.log.entries)) ≡ true;
}

abbrev pub decreases-loop-left : goal.decreases-loop-left
decreases-loop-left l = l.left
