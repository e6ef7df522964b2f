-- Machinery: two lists of row versions that have the same rows, as contracts speak of them.
use Rattle.std.specs.Prelude.{◌≡◌, ◌≤◌, ℕ, Bool, true, false, List, [], ◌∷◌, length, slice_get, Some, if◌then◌else◌}
use Rattle.std.specs.List.Sorted.{IsPermutation}
use Rattle.gp_base.specs.Annotated.{unannotated}
use Rattle.gp_base.specs.declared.catalog.TheConstants.{MAX_TABLES}
use Rattle.gp_base.specs.declared.table.Table.{Table}
use Rattle.gp_dump.specs.Dumps.{Dump}
use Rattle.gp_history.specs.Agreement.{agree}
use Rattle.gp_log.specs.LogFacts.{tables_in}
use Rattle.gp_machine.specs.Entries.{log_of, versions_in}
use Rattle.gp_machine.specs.ReplayForms.{replayed_spans}
use Rattle.gp_reenact.specs.Reenacting.{spans_of}
use Rattle.gp_versions.specs.Spans.{Versions, rows_at}
use Rattle.gp_versions.specs.declared.span.Span.{Span}
use Rattle.gp_ask.specs.Asking.{table_spans}

-- in every version, each as often
abbrev pub HaveSameRows : List Span → List Span → Type 0
HaveSameRows spans others = (version : ℕ) → agree (rows_at unannotated version spans) (rows_at unannotated version others) ≡ true

-- the row versions of a dump are those that its log makes, in whatever order
abbrev pub HasMadeVersions : Dump → Type 0
HasMadeVersions dump =
    (place : ℕ)
    → IsPermutation (table_spans dump.tables place) (replayed_spans unannotated (log_of dump.entries) (length (tables_in dump.entries)) (versions_in dump.entries) place)

-- a flag for each table; one that has none has the same row versions
pub record AreDiffering (tables others : List Versions) (flags : List Bool) : Type 0 where
  pub as_many : length flags ≡ length tables
  pub same : (place : ℕ) → slice_get flags place ≡ Some false → IsPermutation (spans_of tables place) (spans_of others place)

abbrev pub has_none : List Bool → Bool
has_none [] = true
has_none (flag ∷ flags) = if flag then false else has_none flags

-- row versions of each of these tables, twice
pub record HaveTables (catalogue : List Table) (tables others : List Versions) : Type 0 where
  pub own : length tables ≡ length catalogue
  pub other : length others ≡ length catalogue
  pub few : length catalogue ≤ MAX_TABLES
