-- Of the contracts of `changes_of` and of those that are given its changes: what the code keeps of a change, and the transaction that made it.
use Rattle.std.specs.Prelude.{◌≡◌, ℕ, List, map, Option, None}
use Rattle.std.specs.List.{AllByRecursion}
use Rattle.std.specs.Option.{option_map, option_map_or}
use Rattle.gp_versions.specs.declared.span.Span.{Span}
use Rattle.gp_versions.specs.Spans.{Versions}
use Rattle.gp_machine.specs.Entries.{Entry, committer_of}
use Rattle.gp_machine.specs.RowChanges as m
use Rattle.gp_machine.specs.RowChanges.{goes_on_in}
use Rattle.gp_serial.specs.declared.changes.RowChange.{RowChange}
use Rattle.std.specs.Prelude.{if◌then◌else◌, false}

abbrev pub change_view : RowChange → m.RowChange
change_view change = record {
  version = change.version;
  row = record { table = change.table; identity = change.id.now };
  before = option_map (λ row. row.now) change.before;
  after = option_map (λ row. row.now) change.after;
}

-- each has the transaction that made its version
abbrev pub AreMade : List Entry → List RowChange → Type 0
AreMade entries = AllByRecursion (λ (change : RowChange). change.t ≡ committer_of change.version entries)

-- the version whose commit deleted the row of a span
abbrev pub deleted_at : Span → Option Span → Option ℕ
deleted_at span next = if option_map_or (goes_on_in span) next false then None else span.to

-- the row versions of each table
abbrev pub tables_of : List Versions → List (List Span)
tables_of versions = map (λ (table : Versions). table.spans) versions
