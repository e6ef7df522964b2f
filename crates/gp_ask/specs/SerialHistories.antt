-- Part of the statement: what the answers to SERIAL say of a history. An order is one of a history in which its transactions run one after another, each statement with
-- the same changes, each query with the same rows, and with the same last version. Each line of a cycle is true of the history, of transactions that committed.
use Rattle.std.specs.Prelude.{◌≡◌, ◌≢◌, ℕ, ◌-◌, ◌<◌, ◌≤◌, true, List, [], ◌∷◌, map, is_some, Option, Some, None, if◌then◌else◌}
use Rattle.std.specs.Fmt.{decimal}
use Rattle.std.specs.List.{list_any}
use Rattle.std.specs.Option.{option_map_or}
use Rattle.gp_base.specs.declared.cell.Cell.{Cell}
use Rattle.gp_base.specs.Annotated.{Annotated}
use Rattle.gp_base.specs.Identities.{Identity, same_identity}
use Rattle.gp_machine.specs.Committed.{is_written}
use Rattle.gp_machine.specs.Entries.{committer_of, statement_at, statement_version, version_of}
use Rattle.gp_machine.specs.Looks.{looks}
use Rattle.gp_machine.specs.Precedence.{Reason, ReadAfter, ReadBefore, Wrote, meets}
use Rattle.gp_machine.specs.RowChanges.{RowChange}
use Rattle.gp_machine.specs.SerialForms.{IsSerialAs}
use Rattle.gp_machine.specs.State.{State}
use Rattle.gp_ask.specs.SerialAnswers.{step_text}

-- ---- an order

-- the lines of an answer are the numbers of transactions that run so
pub record RunsSerially (state : State (Unit {0})) (lines : List (List ℕ)) : Type 0 where
  pub order : List ℕ
  pub numbers : lines ≡ map decimal order
  pub serial : IsSerialAs state order

-- ---- a cycle

-- the cells of the row of an identity, if there is one
abbrev pub cells_in : {M : Type 0} → Identity → List (Annotated M) → Option (List Cell)
cells_in id [] = None
cells_in id (row ∷ rows) = if same_identity row.identity id then Some row.cells else cells_in id rows

module _ (state : State (Unit {0})) where
  -- a row that the commit of a transaction wrote, with its cells in the version before and in its own
  pub record IsChangeBy (t : ℕ) (change : RowChange) : Type 0 where
    pub maker : committer_of change.version state.entries ≡ t
    pub first : 0 < change.version
    pub written : is_written change.row.table change.row.identity (state.written change.version) ≡ true
    pub before : cells_in change.row.identity (state.committed (change.version - 1) change.row.table) ≡ change.before
    pub after : cells_in change.row.identity (state.committed change.version change.row.table) ≡ change.after

  -- the commit of the version that it names made it
  abbrev pub IsTrue : RowChange → Type 0
  IsTrue change = 0 < committer_of change.version state.entries → IsChangeBy (committer_of change.version state.entries) change

  -- statement k of a transaction looks at it
  abbrev pub LooksAt : ℕ → ℕ → RowChange → Type 0
  LooksAt t k change = list_any (meets change) (option_map_or (looks state.catalogue) (statement_at t k state.entries) []) ≡ true

  abbrev pub IsReason : ℕ → ℕ → Reason → Type 0
  IsReason earlier later (ReadBefore k change) = IsChangeBy later change × (LooksAt earlier k change × (statement_version earlier k state.entries < change.version))
  IsReason earlier later (ReadAfter k change) = IsChangeBy earlier change × (LooksAt later k change × (change.version ≤ statement_version later k state.entries))
  IsReason earlier later (Wrote change other) = IsChangeBy earlier change × (IsChangeBy later other × ((change.row ≡ other.row) × (change.version < other.version)))

  -- a line that says why a transaction comes before another one
  pub record IsStep (earlier later : ℕ) (line : List ℕ) : Type 0 where
    pub two : earlier ≢ later
    pub committed : is_some (version_of earlier state.entries) ≡ true
    pub reason : Reason
    pub is : IsReason earlier later reason
    pub text : line ≡ step_text state.catalogue state.entries (record { first = earlier; next = later; reason = Some reason })

  -- a line from each to the next one, and from the last to this one
  abbrev pub AreSteps : ℕ → List ℕ → List (List ℕ) → Type 0
  AreSteps first (t ∷ []) (line ∷ []) = IsStep t first line
  AreSteps first (t ∷ next ∷ others) (line ∷ lines) = IsStep t next line × AreSteps first (next ∷ others) lines
  AreSteps first _ _ = ⊥

  -- the lines of an answer are those of a cycle
  pub record RunsInCycle (lines : List (List ℕ)) : Type 0 where
    pub first : ℕ
    pub others : List ℕ
    pub steps : AreSteps first (first ∷ others) lines
