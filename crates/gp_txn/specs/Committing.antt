-- Machinery: what a commit does, and why one does nothing. It is lost by a conflict, or refused as the row versions would be too many;
-- else it makes a version, which later transactions read.
use Rattle.std.specs.Prelude.{◌≡◌, ℕ, ◌+◌, ◌-◌, ◌<◌, ◌≤◌, List, ◌++◌, false, filter, length, map, Some, None}
use Rattle.std.specs.Option.{is_none}
use Rattle.gp_versions.specs.declared.span.Write.{Write}
use Rattle.gp_versions.specs.Commits.{AreBelow, after_commit}
use Rattle.gp_versions.specs.Spans.{Versions}
use Rattle.gp_txn.specs.declared.error.CommitStop.{CommitStop}
use Rattle.gp_txn.specs.declared.error.CommitStop.TheVariants as stop
use Rattle.gp_txn.specs.declared.conflict.Late.{Late}
use Rattle.gp_base.specs.declared.catalog.TheConstants.{MAX_TABLES}
use Rattle.gp_base.specs.declared.limit.TheConstants.{MAX_SPANS}
use Rattle.gp_txn.specs.declared.overlay.TableWrites.{TableWrites}
use Rattle.gp_txn.specs.Conflicts.{IsFirstConflict, lates_at}
use Rattle.gp_txn.specs.Counts.{spans_after}
use Rattle.gp_txn.specs.Overlay.{PlainRow, table_writes, view_rows}
use Rattle.gp_txn.specs.Prepared.{AreWritesOf}
use Rattle.gp_txn.specs.Transactions.{AreOthers, Writes, base_at, database_at, database_below, overlay_at, table_at, writes_at}

-- what a transaction with these writes commits to each table
abbrev pub commit_of : List TableWrites → List Versions → ℕ → List Write
commit_of tables versions place = table_writes (overlay_at place tables versions) (database_below tables versions place)

-- what it sees of each table at the version that its writes of the table lie over
abbrev pub view_below : List TableWrites → List Versions → ℕ → List PlainRow
view_below tables versions place = view_rows (overlay_at place tables versions) (database_below tables versions place)

-- how many spans there are after it
abbrev pub spans_left : List TableWrites → List Versions → ℕ
spans_left tables versions = spans_after versions (commit_of tables versions) (length versions)

-- no running transaction wrote the row
abbrev pub unmarked : PlainRow → PlainRow
unmarked row = record row { mark = false }

-- the writes of transaction t to these tables can be committed as this version
pub record AreCommittable (t version : ℕ) (tables : List TableWrites) (versions : List Versions) : Type 0 where
  pub fit : length versions ≤ length tables
  pub few : length versions ≤ MAX_TABLES
  -- they are its own, and the spans are of rows of others
  pub own : (place : ℕ) → AreWritesOf t (writes_at place tables)
  pub others : (place : ℕ) → AreOthers t (table_at place versions).spans
  -- no span begins or ends at the version or after it
  pub first : 1 ≤ version
  pub above : (place : ℕ) → AreBelow version (table_at place versions).spans

-- they have been
pub record AreCommitted (version : ℕ) (tables : List TableWrites) (old new : List Versions) : Type 0 where
  -- no commit above the base of a row that they update or delete wrote the row
  pub first : IsFirstConflict (length old) (lates_at tables old) None
  -- the row versions are not too many
  pub few : spans_left tables old ≤ MAX_SPANS
  -- the open spans of the written rows have ended, and those of the rows that are left have begun
  pub spans : (place : ℕ) → place < length old
      → (table_at place new).spans ≡ after_commit version (commit_of tables old place) (table_at place old).spans

-- the transaction has made the version
pub record Commits (version : ℕ) (writes : Writes) (old new : List Versions) : Type 0 where
  pub made : AreCommitted version writes.tables old new
  -- earlier versions have the rows that they had
  pub older : (v place : ℕ) → v < version → database_at v new place ≡ database_at v old place
  -- the version has the rows of the one before it that the transaction did not write, and then those that it wrote and sees
  pub newest : (place : ℕ) → place < length old
      → database_at version new place
      ≡ map unmarked (filter (λ row. is_none (base_at writes.tables old place row.identity)) (database_at (version - 1) old place)
      ++ filter (λ row. row.mark) (view_below writes.tables old place))
  -- no span begins or ends after it
  pub below : (place : ℕ) → AreBelow (version + 1) (table_at place new).spans

-- Why nothing is committed, given the number of tables, the written rows that a later commit wrote, and the number of spans afterwards. The row of a
-- conflict is the least one of the first table that has any. Memory may run out in any commit.
abbrev pub HasCause : CommitStop → ℕ → (ℕ → List Late) → ℕ → Type 0
HasCause (stop.Conflict version table id) count lates spans =
    IsFirstConflict count lates (Some (record { place = table; late = record { id = id; version = version } }))
HasCause stop.Full count lates spans = IsFirstConflict count lates None × (MAX_SPANS < spans)
HasCause stop.NoMemory count lates spans = Unit {0}

-- why the writes are not committed
abbrev pub AreRefused : CommitStop → List TableWrites → List Versions → Type 0
AreRefused stop tables versions = HasCause stop (length versions) (lates_at tables versions) (spans_left tables versions)

-- each table keeps its spans
abbrev pub HaveSameSpans : List Versions → List Versions → Type 0
HaveSameSpans old new = (place : ℕ) → (table_at place new).spans ≡ (table_at place old).spans
