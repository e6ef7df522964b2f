-- The writes of a transaction, as the history machine sees them: what they show in a version, the bases of their rows, and that the commit of another
-- transaction leaves them as they are.
use Rattle.std.proofs.Common.{◌≡◌, ℕ, ◌<◌, ◌≤◌, true, false, cond, List, length, Option, Some, None, refl, ap, sym, arith}
use Rattle.std.specs.Prelude.{◌==◌}
use Rattle.std.proofs.lemmas.Bool.{eqb-true}
use Rattle.gp_algebra.specs.Effects.{Written}
use Rattle.gp_base.specs.Annotated.{unannotated}
use Rattle.gp_base.specs.Identities.{Identity}
use Rattle.gp_machine.specs.Represents as machine
use Rattle.gp_txn.proofs.AfterLemmas.{overlay-kept}
use Rattle.gp_txn.specs.Bases.{base_after, base_of, refreshed}
use Rattle.gp_txn.specs.Committing.{Commits}
use Rattle.gp_txn.specs.Overlay.{rows_below, view_rows}
use Rattle.gp_txn.specs.Transactions.{Writes, has_written, overlay_at, snapshot_of, table_at, view_at, writes_at}
use Rattle.gp_versions.specs.Spans.{Versions, rows_at}
use Rattle.gp_engine.specs.Engine.{overlay_of, spans_of}
use Rattle.gp_engine.specs.declared.running.Running.{Running}

-- what they show in a version
pub view_same : (versions : List Versions) (running : Running) (version place : ℕ)
    → machine.view_at (spans_of versions) (overlay_of (spans_of versions) running) version place ≡ view_at running.active.tables versions version place
view_same versions running version place =
    elim (version == (writes_at place running.active.tables).version) as (λ b. (version == (writes_at place running.active.tables).version) ≡ b
    → cond b (view_rows (overlay_at place running.active.tables versions) (rows_below (overlay_at place running.active.tables versions) (table_at place versions).spans))
    (refreshed (overlay_at place running.active.tables versions) (rows_below (overlay_at place running.active.tables versions) (table_at place versions).spans) (rows_at unannotated version (table_at place versions).spans))
    ≡ cond b (view_rows (overlay_at place running.active.tables versions) (rows_at unannotated version (table_at place versions).spans))
    (refreshed (overlay_at place running.active.tables versions) (rows_below (overlay_at place running.active.tables versions) (table_at place versions).spans) (rows_at unannotated version (table_at place versions).spans))) [
      | true ↦ λ is. ap (λ v. view_rows (overlay_at place running.active.tables versions) (rows_at unannotated v (table_at place versions).spans)) (sym (eqb-true version (writes_at place running.active.tables).version is))
      | false ↦ λ is. refl
    ] refl

-- the base of a row after a statement
pub base_same : (now place : ℕ) (id : Identity) (wrote : List Written) (base : Option ℕ) → base_after now (has_written wrote place id) base ≡ machine.base_after now place id wrote base
base_same now place id wrote None = refl
base_same now place id wrote (Some version) = refl

-- a statement that writes nothing moves no base
pub base_read : (now : ℕ) (base : Option ℕ) → base ≡ base_after now false base
base_read now None = refl
base_read now (Some version) = refl

-- a later version is read where there is a later one
pub snapshot_later : (writes : Writes) (newest later : ℕ) → newest ≤ later → snapshot_of writes newest ≤ snapshot_of writes later
snapshot_later writes newest later l =
    elim writes.read_committed as (λ b. cond b newest writes.begin ≤ cond b later writes.begin) [ true ↦ l | false ↦ omega arith ]

-- it does not go behind the version at which the transaction began
pub snapshot_first : (writes : Writes) (newest : ℕ) → writes.begin ≤ newest → writes.begin ≤ snapshot_of writes newest
snapshot_first writes newest l =
    elim writes.read_committed as (λ b. writes.begin ≤ cond b newest writes.begin) [ true ↦ l | false ↦ omega arith ]

-- it does not go beyond the newest version
pub snapshot_newest : (writes : Writes) (newest : ℕ) → writes.begin ≤ newest → snapshot_of writes newest ≤ newest
snapshot_newest writes newest l =
    elim writes.read_committed as (λ b. cond b newest writes.begin ≤ newest) [ true ↦ omega arith | false ↦ l ]

-- writes that lie over earlier versions are the same after a commit
pub overlay_stays : (version : ℕ) (writes : Writes) (old new : List Versions) → length new ≡ length old → Commits version writes old new → (running : Running)
    → ((place : ℕ) → (writes_at place running.active.tables).version < version) → overlay_of (spans_of new) running ≡ overlay_of (spans_of old) running
overlay_stays version writes old new same commits running earlier = λ i. record (overlay_of (spans_of old) running) {
  shown = λ rows place. view_rows (overlay-kept version writes old new same commits running.active.tables place (earlier place) i) (rows place);
  base = λ rows place id. base_of (overlay-kept version writes old new same commits running.active.tables place (earlier place) i) (rows place) id;
}
