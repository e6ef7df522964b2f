-- Of the contracts of the names of cycles: what the changes of two transactions say of them.
use Rattle.std.specs.Prelude.{Vec, ◌≡◌, ◌<◌, ℕ, ◌==◌, Bool, true, false, List, [], ◌∷◌, ◌++◌, filter, get_or, length, map, slice_get, Option, None, is_some, unwrap_or, if◌then◌else◌}
use Rattle.std.specs.declared.alloc.Global.{Global}
use Rattle.std.specs.Option.{option_and_then, option_map, option_or}
use Rattle.gp_base.specs.declared.table.Table.{Table}
use Rattle.gp_machine.specs.Entries.{Entry, version_of}
use Rattle.gp_machine.specs.Precedence as m
use Rattle.gp_machine.specs.Precedence.{same_row}
use Rattle.gp_machine.specs.RowChanges.{RowChange}
use Rattle.gp_serial.specs.declared.changes.RowChange as code
use Rattle.gp_serial.specs.declared.reason.Reason.{Reason}
use Rattle.gp_serial.specs.Anomalies.{Facts, is_empty, lost, only_read}
use Rattle.gp_serial.specs.Changes.{AreMade, change_view}
use Rattle.gp_serial.specs.Reasons.{first_reading, reason_view, rewrite_by}
use Rattle.gp_serial.specs.Serializing.{step_of}

abbrev pub is_by : ℕ → code.RowChange → Bool
is_by t change = change.t == t

abbrev pub is_of_row : code.RowChange → code.RowChange → Bool
is_of_row change other = same_row (change_view change) (change_view other)

-- ---- by transaction

abbrev pub changes_at : List (Vec code.RowChange Global) → ℕ → List code.RowChange
changes_at lists t = get_or (map (λ list. list.items) lists) t []

-- the changes of each transaction below a count
pub record AreByTransaction (changes : List code.RowChange) (count : ℕ) (lists : List (Vec code.RowChange Global)) : Type 0 where
  pub long : length lists ≡ count
  pub each : (t : ℕ) → t < count → changes_at lists t ≡ filter (is_by t) changes

-- those of two transactions, or of one
abbrev pub either : {A : Type 0} → (ℕ → List A) → ℕ → ℕ → List A
either changes a b = if a == b then changes a else changes a ++ changes b

abbrev pub of_both : List code.RowChange → ℕ → ℕ → List code.RowChange
of_both changes = either (λ t. filter (is_by t) changes)

-- the versions of the transactions below a count, 0 where one made none
abbrev pub version_made : List Entry → ℕ → ℕ
version_made entries t = unwrap_or (version_of t entries) 0

pub record AreVersions (entries : List Entry) (count : ℕ) (versions : List ℕ) : Type 0 where
  pub long : length versions ≡ count
  pub each : (t : ℕ) → t < count → get_or versions t 0 ≡ version_made entries t

-- ---- what they say of two transactions

abbrev pub AreAllMade : List Entry → List (Vec code.RowChange Global) → Type 0
AreAllMade entries lists = (t : ℕ) → AreMade entries (changes_at lists t)

abbrev pub facts_of : List Table → List Entry → List (Vec code.RowChange Global) → Facts
facts_of tables entries lists =
    let between : ℕ → ℕ → List RowChange = λ a b. map change_view (either (changes_at lists) a b) in
    record {
      step = λ a b. step_of tables entries (between a b) a b;
      alone = λ a b. only_read tables entries (between a b) a b;
      update = λ a b. slice_get (lost tables entries (between a b) a b) 0;
      idle = λ t. is_empty (changes_at lists t);
    }

-- ---- lost updates

abbrev pub two_view : Reason × Reason → m.Reason × m.Reason
two_view two = (reason_view two.0, reason_view two.1)

module _ (tables : List Table) (entries : List Entry) (a b : ℕ) where
  -- the first read of a row before b wrote it, unless a read it afterwards; given the changes of the row
  abbrev pub unseen_read : List RowChange → Option (ℕ × RowChange)
  unseen_read rows = if is_some (first_reading tables entries a b rows false) then None else first_reading tables entries a b rows true

  abbrev pub lost_with : code.RowChange → code.RowChange → ℕ × RowChange → m.Reason × m.Reason
  lost_with change other found = (m.ReadBefore found.0 found.1, m.Wrote (change_view change) (change_view other))

  -- by one change
  abbrev pub lost_by : List code.RowChange → code.RowChange → Option (m.Reason × m.Reason)
  lost_by all change =
      option_and_then (λ (other : code.RowChange). option_map (lost_with change other) (unseen_read (map change_view (filter (is_of_row change) all)))) (rewrite_by change b a all)

  abbrev pub first_lost : List code.RowChange → List code.RowChange → Option (m.Reason × m.Reason)
  first_lost all [] = None
  first_lost all (change ∷ changes) = option_or (lost_by all change) (first_lost all changes)
