-- Machinery: a running transaction. A transaction of the snapshot kind reads its begin version and its own writes. Each statement of a
-- read committed transaction reads the newest version at that statement, and the transaction's own writes.
use Rattle.std.specs.Prelude.{◌≡◌, ◌≢◌, ◌⊎◌, ℕ, ◌≤◌, Bool, true, ◌==◌, ◌&&◌, List, [], map, slice_index_or, Option, if◌then◌else◌}
use Rattle.std.specs.List.{AllByRecursion, list_any}
use Rattle.gp_base.specs.declared.stored.Stored.{Stored}
use Rattle.gp_base.specs.Annotated.{Database, unannotated}
use Rattle.gp_base.specs.Identities.{Identity, same_identity}
use Rattle.gp_base.specs.IdentityParts.{identity_transaction, identity_statement}
use Rattle.gp_algebra.specs.Statements.{Statement}
use Rattle.gp_algebra.specs.Effects.{Written, step, wrote}
use Rattle.gp_txn.specs.declared.carried.Carried.{Carried}
use Rattle.gp_txn.specs.declared.overlay.TableWrites.{TableWrites}
use Rattle.gp_txn.specs.Bases.{base_after, base_of, table_view}
use Rattle.gp_txn.specs.Overlay.{Overlay, carried_write, no_writes, overlay_of, own_write, rows_below}
use Rattle.gp_versions.specs.declared.span.Span.{Span}
use Rattle.gp_versions.specs.Commits.{AreDistinct}
use Rattle.gp_versions.specs.Spans.{Versions, rows_at}

-- its number, its kind, the version at which it began, the number of its last statement that wrote, and its writes of each table, by the table's
-- place
pub record Writes : Type 0 where
  pub t : ℕ
  pub read_committed : Bool
  pub begin : ℕ
  pub last : ℕ
  pub tables : List TableWrites

-- the version that its next statement reads, given the newest one
abbrev pub snapshot_of : Writes → ℕ → ℕ
snapshot_of writes newest = if writes.read_committed then newest else writes.begin

abbrev pub writes_at : ℕ → List TableWrites → TableWrites
writes_at place tables = slice_index_or tables place (no_writes 0)

abbrev pub no_table : Versions
no_table = record { spans = []; spare = 0 }

abbrev pub table_at : ℕ → List Versions → Versions
table_at place versions = slice_index_or versions place no_table

-- the rows of a version
abbrev pub database_at : ℕ → List Versions → Database (Unit {0})
database_at version versions place = rows_at unannotated version (table_at place versions).spans

-- its writes of a table, as slots of all rows of the version that they lie over
abbrev pub overlay_at : ℕ → List TableWrites → List Versions → Overlay
overlay_at place tables versions = overlay_of (table_at place versions).spans (writes_at place tables)

-- the rows of the version that its writes of each table lie over
abbrev pub database_below : List TableWrites → List Versions → Database (Unit {0})
database_below tables versions place = rows_below (overlay_at place tables versions) (table_at place versions).spans

-- what it sees at a version
abbrev pub view_at : List TableWrites → List Versions → ℕ → Database (Unit {0})
view_at tables versions version place = table_view (overlay_at place tables versions) (table_at place versions).spans version

-- the base of a row of another transaction, if it has written the row
abbrev pub base_at : List TableWrites → List Versions → ℕ → Identity → Option ℕ
base_at tables versions place id = base_of (overlay_at place tables versions) (database_below tables versions place) id

-- ---- whose rows it keeps

-- the identities of the rows that it inserted: each begins with its number and that of a statement up to this one, and no two are equal
abbrev pub IsOwn : ℕ → ℕ → Stored → Type 0
IsOwn t last stored = (identity_transaction stored.id ≡ t) × (identity_statement stored.id ≤ last)

abbrev pub AreOwn : ℕ → ℕ → List Stored → Type 0
AreOwn t last own = AllByRecursion (IsOwn t last) own × AreDistinct (map own_write own)

-- the rows that it wrote over earlier versions are those of others, and no two are of one identity
abbrev pub AreCarried : ℕ → List Carried → Type 0
AreCarried t carried = AllByRecursion (λ (row : Carried). identity_transaction row.id ≢ t) carried × AreDistinct (map carried_write carried)

-- no row of these is the transaction's own
abbrev pub AreOthers : ℕ → List Span → Type 0
AreOthers t spans = AllByRecursion (λ (span : Span). identity_transaction span.id ≢ t) spans

-- of one table
pub record KeepsOwn (t last : ℕ) (writes : TableWrites) : Type 0 where
  pub own : AreOwn t last writes.own
  pub carried : AreCarried t writes.carried

-- this for each table
abbrev pub HoldsOwn : Writes → Type 0
HoldsOwn writes = (place : ℕ) → KeepsOwn writes.t writes.last (writes_at place writes.tables)

abbrev pub HoldsOthers : ℕ → List Versions → Type 0
HoldsOthers t versions = (place : ℕ) → AreOthers t (table_at place versions).spans

-- a span is of the row with this identity
abbrev pub has_span : List Span → Identity → Bool
has_span spans id = list_any (λ (span : Span). same_identity span.id id) spans

-- the rows that it wrote over earlier versions are rows of the tables
abbrev pub AreThere : List Span → List Carried → Type 0
AreThere spans carried = AllByRecursion (λ (row : Carried). has_span spans row.id ≡ true) carried

abbrev pub HoldsThere : List TableWrites → List Versions → Type 0
HoldsThere tables versions = (place : ℕ) → AreThere (table_at place versions).spans (writes_at place tables).carried

-- ---- its statements

-- it has written nothing of the table; the version that its writes lie over is at most this one
pub record IsUnwritten (version : ℕ) (writes : TableWrites) : Type 0 where
  pub below : writes.version ≤ version
  pub slots : writes.slots ≡ []
  pub carried : writes.carried ≡ []
  pub own : writes.own ≡ []

-- a row of the table has this identity
abbrev pub has_written : List Written → ℕ → Identity → Bool
has_written written place id = list_any (λ (pair : Written). (pair.table == place) && same_identity pair.identity id) written

-- A statement that read this version was applied: the transaction sees what the statement makes of what it saw there, and each row that the statement
-- wrote first has the version as its base. Of rows that the transaction inserted itself, only what it sees is known.
pub record Applied (k version : ℕ) (statement : Statement) (versions : List Versions) (old new : Writes) : Type 0 where
  pub t : new.t ≡ old.t
  pub read_committed : new.read_committed ≡ old.read_committed
  pub begin : new.begin ≡ old.begin
  pub last : new.last ≡ k
  pub view : (place : ℕ) → view_at new.tables versions version place ≡ step unannotated old.t k statement (view_at old.tables versions version) place
  pub base : (place : ℕ) (id : Identity) → identity_transaction id ≢ old.t
      → base_at new.tables versions place id
      ≡ base_after version (has_written (wrote unannotated old.t k statement (view_at old.tables versions version)) place id) (base_at old.tables versions place id)
  -- the writes of each table lie over the version that they lay over, or over this one
  pub below : (place : ℕ) → ((writes_at place new.tables).version ≡ (writes_at place old.tables).version) ⊎ ((writes_at place new.tables).version ≡ version)
  pub there : HoldsThere old.tables versions → HoldsThere new.tables versions
