use Rattle.std.proofs.Common.{◌≡◌, ◌≤◌, ◌+◌, [], length}
use Rattle.gp_log.specs.Logs.{log_view}
use Rattle.gp_base.specs.declared.limit.TheConstants.{MAX_SPANS}
use Rattle.gp_dump.specs.Dumps.{spans_in}
use Rattle.gp_dump.specs.declared.dump.TheConstants.{MAX_DUMP_LENGTH}
use Rattle.gp_dump.specs.Reading.{tables_before, verdict_from}
use Rattle.gp_dump.specs.Rules.{Sections}
use Rattle.gp_dump.proofs.read.read_tables.Given as goal

abbrev pub invariant-loop-place : goal.invariant-loop-place
invariant-loop-place l = record {
  told : verdict_from l.fn.rest.bytes.now (Sections (log_view l.log.entries) []) l.fn.rest.number ≡ verdict_from l.rest.bytes.now (Sections (log_view l.log.entries) (tables_before l.tables.items)) l.rest.number;
  room : l.rest.number + length l.rest.bytes.now ≤ MAX_DUMP_LENGTH + 1;
  before : l.before ≡ spans_in (tables_before l.tables.items);
  few : l.before ≤ MAX_SPANS;
  all : length l.tables.items ≡ l.place;
}
