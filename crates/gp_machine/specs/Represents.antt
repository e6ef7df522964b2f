-- Machinery: what an engine keeps, and when it represents a state of the history machine. It keeps the spans of each table in place of versions,
-- and for each session the writes of its transaction in place of a view. It keeps no annotations.
use Rattle.std.specs.Prelude.{◌≡◌, ◌≢◌, ◌≤◌, ℕ, suc, ◌==◌, ◌&&◌, Bool, List, [], ◌∷◌, ◌++◌, map, filter, Option, Some, None, if◌then◌else◌}
use Rattle.std.specs.Option.{is_none, is_some}
use Rattle.gp_base.specs.declared.table.Table.{Table}
use Rattle.gp_base.specs.Annotated.{Database, unannotated}
use Rattle.gp_base.specs.Identities.{Identity, same_identity}
use Rattle.gp_base.specs.IdentityParts.{identity_transaction}
use Rattle.gp_versions.specs.declared.span.Span.{Span}
use Rattle.gp_versions.specs.declared.span.Write.{Write}
use Rattle.gp_versions.specs.Commits as versions
use Rattle.gp_versions.specs.Commits.{live_rows}
use Rattle.gp_algebra.specs.Statements.{Statement}
use Rattle.gp_algebra.specs.Effects.{Written, step, wrote}
use Rattle.gp_machine.specs.Bases.{Based}
use Rattle.gp_machine.specs.Committed.{is_written, unmarked}
use Rattle.gp_machine.specs.Entries.{Entry, versions_in, transactions_in, statements_in, begin_version}
use Rattle.gp_machine.specs.HistorySpans.{as_of, state_spans}
use Rattle.gp_machine.specs.State.{Active, State}

-- a database without annotations
abbrev pub PlainDatabase : Type 0
PlainDatabase = Database (Unit {0})

-- The writes of a transaction. Those of each table lie over a version that one of its statements read: what it reads there, given the rows of that
-- version, and the base of each row that it has written, if it has. Whether it has written a row that it made itself is left open.
pub record Overlay : Type 0 where
  pub transaction : ℕ
  pub read_committed : Bool
  pub begin : ℕ
  -- the version that the writes of the table at a place lie over
  pub version : ℕ → ℕ
  pub statements : ℕ
  pub shown : PlainDatabase → PlainDatabase
  pub base : PlainDatabase → ℕ → Identity → Option ℕ

pub record Kept : Type 0 where
  pub catalogue : List Table
  pub entries : List Entry
  -- the spans of each table, by its place
  pub spans : ℕ → List Span
  -- the writes of the transaction of each session, if it has one
  pub sessions : ℕ → Option Overlay
  -- how many versions, transactions and statements the log has, and how many rows the commits published
  pub versions : ℕ
  pub transactions : ℕ
  pub statements : ℕ
  pub rows : ℕ

-- the rows of the version that its writes of each table lie over, and what the transaction reads there
abbrev pub rows_below : (ℕ → List Span) → Overlay → PlainDatabase
rows_below spans overlay place = as_of unannotated spans (overlay.version place) place

abbrev pub view_of : (ℕ → List Span) → Overlay → PlainDatabase
view_of spans overlay = overlay.shown (rows_below spans overlay)

-- the base of a row, if it has written it
abbrev pub base_in : (ℕ → List Span) → Overlay → ℕ → Identity → Option ℕ
base_in spans overlay = overlay.base (rows_below spans overlay)

-- what it reads in a version: in a later one, the rows there that it has not written, and those that it wrote
abbrev pub view_at : (ℕ → List Span) → Overlay → ℕ → PlainDatabase
view_at spans overlay version place =
    if version == overlay.version place then view_of spans overlay place
    else filter (λ row. is_none (base_in spans overlay place row.identity)) (as_of unannotated spans version place) ++ filter (λ row. row.mark) (view_of spans overlay place)

-- the version that its next statement reads, given the newest one
abbrev pub version_to_read : Overlay → ℕ → ℕ
version_to_read overlay newest = if overlay.read_committed then newest else overlay.begin

-- ---- when it represents a state

-- the base of a row among those that were written
abbrev pub base_among : ℕ → Identity → List Based → Option ℕ
base_among place id [] = None
base_among place id (based ∷ others) =
    if (based.pair.table == place) && same_identity based.pair.identity id then Some based.base else base_among place id others

-- the writes of an active transaction, which began at this version
pub record RepresentsActive (spans : ℕ → List Span) (begun : ℕ) (overlay : Overlay) (active : Active (Unit {0})) : Type 0 where
  pub transaction : overlay.transaction ≡ active.transaction
  pub read_committed : overlay.read_committed ≡ active.read_committed
  pub begin : overlay.begin ≡ begun
  pub statements : overlay.statements ≡ active.statements
  pub version : (place : ℕ) → overlay.version place ≤ active.version
  pub view : (place : ℕ) → view_at spans overlay active.version place ≡ active.seen.view place
  pub base : (place : ℕ) (id : Identity) → identity_transaction id ≢ overlay.transaction
      → base_in spans overlay place id ≡ base_among place id active.seen.written

-- both have a transaction, or neither has
abbrev pub RepresentsSession : (ℕ → List Span) → List Entry → Option Overlay → Option (Active (Unit {0})) → Type 0
RepresentsSession spans entries None None = Unit {0}
RepresentsSession spans entries None (Some active) = ⊥
RepresentsSession spans entries (Some overlay) None = ⊥
RepresentsSession spans entries (Some overlay) (Some active) = RepresentsActive spans (begin_version active.transaction entries) overlay active

pub record Represents (kept : Kept) (state : State (Unit {0})) : Type 0 where
  pub catalogue : kept.catalogue ≡ state.catalogue
  pub entries : kept.entries ≡ state.entries
  pub versions : kept.versions ≡ versions_in state.entries
  pub transactions : kept.transactions ≡ transactions_in state.entries
  pub statements : kept.statements ≡ statements_in state.entries
  pub rows : kept.rows ≡ state.rows
  pub spans : (place : ℕ) → kept.spans place ≡ state_spans state place
  pub sessions : (session : ℕ) → RepresentsSession kept.spans state.entries (kept.sessions session) (state.active session)

-- no tables, no lines, no transactions
abbrev pub kept_start : Kept
kept_start = record {
  catalogue = [];
  entries = [];
  spans = λ place. [];
  sessions = λ session. None;
  versions = 0;
  transactions = 0;
  statements = 0;
  rows = 0;
}

-- ---- how writes change

-- nothing is written yet
pub record IsNew (spans : ℕ → List Span) (overlay : Overlay) : Type 0 where
  pub version : (place : ℕ) → overlay.version place ≤ overlay.begin
  pub statements : overlay.statements ≡ 0
  pub view : (place : ℕ) → view_at spans overlay overlay.begin place ≡ as_of unannotated spans overlay.begin place
  pub base : (place : ℕ) (id : Identity) → identity_transaction id ≢ overlay.transaction → base_in spans overlay place id ≡ None

-- the base of a row after a statement that wrote these rows
abbrev pub base_after : ℕ → ℕ → Identity → List Written → Option ℕ → Option ℕ
base_after now place id wrote (Some base) = Some base
base_after now place id wrote None = if is_written place id wrote then Some now else None

-- the writes after one more statement of the transaction, which read the version `now`
pub record Applied (statement : Statement) (spans : ℕ → List Span) (now : ℕ) (old new : Overlay) : Type 0 where
  pub transaction : new.transaction ≡ old.transaction
  pub read_committed : new.read_committed ≡ old.read_committed
  pub begin : new.begin ≡ old.begin
  pub version : (place : ℕ) → new.version place ≤ now
  pub statements : new.statements ≡ suc old.statements
  pub view : (place : ℕ) → view_at spans new now place ≡ step unannotated old.transaction (suc old.statements) statement (view_at spans old now) place
  pub base : (place : ℕ) (id : Identity) → identity_transaction id ≢ old.transaction
      → base_in spans new place id
      ≡ base_after now place id (wrote unannotated old.transaction (suc old.statements) statement (view_at spans old now)) (base_in spans old place id)

-- The writes of a commit to a table. Of the rows that other transactions made, they are those that the transaction has written, and they leave the
-- marked rows of what it reads, in the same order.
pub record AreWritesOf (spans : ℕ → List Span) (overlay : Overlay) (place : ℕ) (writes : List Write) : Type 0 where
  pub names : (id : Identity) → identity_transaction id ≢ overlay.transaction → versions.is_written writes id ≡ is_some (base_in spans overlay place id)
  pub rows : live_rows unannotated writes ≡ map unmarked (filter (λ row. row.mark) (view_of spans overlay place))
