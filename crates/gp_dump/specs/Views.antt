-- Of the contracts of `read_dump` and `write_dump`: a dump of the code as one of the statement.
use Rattle.std.specs.Prelude.{List, map}
use Rattle.gp_versions.specs.declared.span.Span.{Span}
use Rattle.gp_versions.specs.Spans.{Versions}
use Rattle.gp_log.specs.Logs.{log_view}
use Rattle.gp_dump.specs.declared.dump.Dump as code
use Rattle.gp_dump.specs.Dumps.{Dump}

abbrev pub tables_view : List Versions → List (List Span)
tables_view versions = map (λ (table : Versions). table.spans) versions

abbrev pub dump_view : code.Dump → Dump
dump_view dump = record { entries = log_view dump.log.entries; tables = tables_view dump.versions }
