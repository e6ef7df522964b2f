-- Of the laws `annotations_change_no_reply` and `annotations_change_no_row`: a state with other annotations, by a map of them, and versions that differ in
-- their annotations.
use Rattle.std.specs.Prelude.{◌≡◌, ℕ, Option, Some, None, map}
use Rattle.gp_base.specs.Annotated.{Database, Environment}
use Rattle.gp_algebra.specs.Reannotation.{database_reannotated, forgotten, reannotated}
use Rattle.gp_machine.specs.declared.reply.Reply.{Reply}
use Rattle.gp_machine.specs.Reading.{Seen}
use Rattle.gp_machine.specs.State.{Active, State}

module _ {M N : Type 0} (h : M → N) where
  abbrev pub seen_reannotated : Seen M → Seen N
  seen_reannotated seen = record { view = database_reannotated h seen.view; written = seen.written }

  abbrev pub active_reannotated : Active M → Active N
  active_reannotated active = record {
    transaction = active.transaction;
    read_committed = active.read_committed;
    version = active.version;
    statements = active.statements;
    seen = seen_reannotated active.seen;
  }

  abbrev pub session_reannotated : Option (Active M) → Option (Active N)
  session_reannotated None = None
  session_reannotated (Some active) = Some (active_reannotated active)

  abbrev pub state_reannotated : State M → State N
  state_reannotated state = record {
    catalogue = state.catalogue;
    entries = state.entries;
    committed = λ version. database_reannotated h (state.committed version);
    written = state.written;
    rows = state.rows;
    views = λ t k. database_reannotated h (state.views t k);
    active = λ session. session_reannotated (state.active session);
  }

  -- the outcome of a line: the reply has no annotations
  abbrev pub outcome_reannotated : State M × Reply → State N × Reply
  outcome_reannotated outcome = (state_reannotated outcome.0, outcome.1)

  -- the tables of the second database have the rows of the first, in the same order, with the annotations that the map gives
  abbrev pub IsReannotated : Database M → Database N → Type 0
  IsReannotated db other = (table : ℕ) → other table ≡ map (reannotated h) (db table)

  abbrev pub AreReannotated : Environment M → Environment N → Type 0
  AreReannotated versions others = (version : ℕ) → IsReannotated (versions version) (others version)

-- the same rows with the same identities and marks, in the same order, whatever their annotations
abbrev pub AreEqualButForAnnotations : {M N : Type 0} → Database M → Database N → Type 0
AreEqualButForAnnotations db other = (table : ℕ) → map (reannotated forgotten) (other table) ≡ map (reannotated forgotten) (db table)
