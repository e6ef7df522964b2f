-- Machinery: a dump of a log and of row versions, in whatever order these are.
use Rattle.std.specs.Prelude.{List}
use Rattle.gp_versions.specs.declared.span.Span.{Span}
use Rattle.gp_machine.specs.Entries.{Entry}
use Rattle.gp_dump.specs.Dumps.{Dump}

abbrev pub dump_in : List Entry → List (List Span) → Dump
dump_in entries tables = record { entries = entries; tables = tables }
