-- The conflict that a commit finds in its tables of row versions is the one that the history machine takes from the spans.
use Rattle.std.proofs.Common.{◌≡◌, ℕ, ◌<◌, ◌≤◌, List, [], ◌∷◌, length, map, Option, Some, None, sym, ◌∙◌, subst, inl, inr}
use Rattle.std.specs.List.{filter_map}
use Rattle.std.proofs.lemmas.Bool.{cases_lt}
use Rattle.std.proofs.Math.ListN.{get_or-eq_default}
use Rattle.gp_base.specs.Annotated.{unannotated}
use Rattle.gp_versions.specs.Commits.{AreDistinct}
use Rattle.gp_versions.specs.Spans.{Versions}
use Rattle.gp_versions.specs.TableSpans.{AreWhole, NoOverlap}
use Rattle.gp_txn.proofs.LostLemmas.{lost-first, not-lost-first}
use Rattle.gp_txn.specs.Conflicts.{IsAmong, IsFirstConflict, carried_late, lates, lates_at}
use Rattle.gp_txn.specs.Overlay as txn
use Rattle.gp_txn.specs.Overlay.{carried_write}
use Rattle.gp_txn.specs.Transactions.{HoldsOwn, Writes, no_table, writes_at}
use Rattle.gp_txn.specs.declared.carried.Carried.{Carried}
use Rattle.gp_txn.specs.declared.conflict.Conflict.{Conflict}
use Rattle.gp_txn.specs.declared.conflict.Late.{Late}
use Rattle.gp_txn.specs.declared.overlay.TableWrites.{TableWrites}
use Rattle.gp_machine.proofs.FoundLemmas as machine
use Rattle.gp_machine.specs.Conflicts as conflicts
use Rattle.gp_machine.specs.EngineLine.{FindsConflict, ShowsConflict}
use Rattle.gp_machine.specs.Reached.{IsReached}
use Rattle.gp_machine.specs.Represents.{Kept, Overlay, Represents}
use Rattle.gp_machine.specs.State.{State}
use Rattle.gp_engine.specs.Engine.{Engine, kept_of, overlay_of, spans_of}
use Rattle.gp_log.specs.Parameters.{parameters}
use Rattle.gp_engine.specs.declared.running.Running.{Running}

-- ---- the conflict that a commit finds is the one that the spans show

-- no two rows that it wrote over earlier versions are of one identity
carried-once : (writes : Writes) → HoldsOwn writes → (place : ℕ) → AreDistinct (map carried_write (writes_at place writes.tables).carried)
carried-once writes own place = (own place).carried.1

pub shown_none : (running : Running) (engine : Engine) → HoldsOwn running.active → ((place : ℕ) → NoOverlap (spans_of engine.versions place)) → ((place : ℕ) → AreWhole (spans_of engine.versions place))
    → IsFirstConflict (length engine.versions) (lates_at running.active.tables engine.versions) None → ShowsConflict (kept_of engine) (overlay_of (spans_of engine.versions) running) None
shown_none running engine own apart whole first = not-lost-first running.active.tables engine.versions apart whole (carried-once running.active own) first

pub shown_some : (running : Running) (engine : Engine) (conflict : Conflict) → HoldsOwn running.active
    → ((place : ℕ) → NoOverlap (spans_of engine.versions place)) → ((place : ℕ) → AreWhole (spans_of engine.versions place))
    → IsFirstConflict (length engine.versions) (lates_at running.active.tables engine.versions) (Some conflict)
    → ShowsConflict (kept_of engine) (overlay_of (spans_of engine.versions) running) (Some (record { pair = record { table = conflict.place; identity = conflict.late.id }; version = conflict.late.version }))
shown_some running engine conflict own apart whole first =
    let is = lost-first running.active.tables engine.versions apart whole (carried-once running.active own) conflict first in
    (is.later, λ pair version later. is.least pair version later)

-- ---- the conflict that the spans show is the one of the history machine

same-some : (one other : Overlay) → Some one ≡ Some other → one ≡ other
same-some one other is = cc

-- a session has one transaction at most, so this is the conflict of each that it has
pub shows : (kept : Kept) (session : ℕ) (overlay : Overlay) (conflict : Option conflicts.Conflict) → kept.sessions session ≡ Some overlay → ShowsConflict kept overlay conflict
    → (other : Overlay) → kept.sessions session ≡ Some other → ShowsConflict kept other conflict
shows kept session overlay conflict is shown other also = subst (λ o. ShowsConflict kept o conflict) (same-some overlay other (sym is ∙ also)) shown

-- so the engine finds the conflict of the history machine
pub found : (state : State (Unit {0})) (kept : Kept) (session : ℕ) (overlay : Overlay) (conflict : Option conflicts.Conflict) → Represents kept state → IsReached unannotated parameters state
    → kept.sessions session ≡ Some overlay → ShowsConflict kept overlay conflict → FindsConflict kept state session (λ o. conflict)
found state kept session overlay conflict represents reached is shown = machine.found parameters state kept represents reached session (λ o. conflict) (shows kept session overlay conflict is shown)

-- ---- the table of a conflict

-- without spans, no row was written by a later commit
none-late : (carried : List Carried) (late : Late) → IsAmong late (filter_map (carried_late []) carried) → ⊥
none-late [] late among = absurd among
none-late (row ∷ rows) late among = none-late rows late among

no-lates : (tables : List TableWrites) (versions : List Versions) (place : ℕ) (late : Late) → length versions ≤ place → IsAmong late (lates_at tables versions place) → ⊥
no-lates tables versions place late high among =
    none-late (writes_at place tables).carried late (subst (λ (table : Versions). IsAmong late (lates (txn.overlay_of table.spans (writes_at place tables)) table.spans)) (get_or-eq_default versions no_table high) among)

-- it is there
pub late_there : (versions : List Versions) (running : Running) (conflict : Conflict) → IsFirstConflict (length versions) (lates_at running.active.tables versions) (Some conflict)
    → conflict.place < length versions
late_there versions running conflict first =
    elim (cases_lt conflict.place (length versions)) [
      | inl low ↦ low
      | inr high ↦ absurd (no-lates running.active.tables versions conflict.place conflict.late high first.1.0)
    ]
