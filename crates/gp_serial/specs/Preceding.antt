-- Of the contract of `precedence`: what a relation gains by a statement, and by a row that was written.
use Rattle.std.specs.Prelude.{◌≡◌, ℕ, zero, suc, ◌<◌, ◌≤◌, ◌==◌, ◌&&◌, ◌||◌, nat_lt, not, Bool, true, false, List, [], ◌∷◌, length, slice_get, Some, Contains, if◌then◌else◌}
use Rattle.std.specs.List.{list_any}
use Rattle.std.specs.Option.{option_map_or}
use Rattle.gp_base.specs.declared.table.Table.{Table}
use Rattle.gp_machine.specs.Entries.{Entry, statement_at, statement_count, statement_version, transactions_in, version_of}
use Rattle.gp_machine.specs.Looks.{Look, looks}
use Rattle.gp_machine.specs.Precedence.{is_before, meets, same_row}
use Rattle.gp_machine.specs.RowChanges.{RowChange}
use Rattle.gp_serial.specs.declared.changes.RowChange as code
use Rattle.gp_serial.specs.Changes.{change_view}
use Rattle.gp_serial.specs.Relations.{is_edge}

-- the numbers that it has gain these pairs
pub record Gains (pairs : ℕ → ℕ → Bool) (old new : List (List Bool)) : Type 0 where
  pub count : length new ≡ length old
  pub edges : (a b : ℕ) → a < length old → b < length old → is_edge new a b ≡ (is_edge old a b || pairs a b)

-- ---- statements

-- one pair, if it is met
abbrev pub one_link : ℕ → ℕ → Bool → ℕ → ℕ → Bool
one_link a b met x y = met && ((x == a) && (y == b))

-- a statement of transaction t that looks so and read this version comes before the change, or the change before it
abbrev pub links : ℕ → ℕ → Look → code.RowChange → ℕ → ℕ → Bool
links t version look change a b =
    not (change.t == t)
    && (if nat_lt version change.version then one_link t change.t (meets (change_view change) look) a b else one_link change.t t (meets (change_view change) look) a b)

abbrev pub linked_by : ℕ → ℕ → List code.RowChange → Look → ℕ → ℕ → Bool
linked_by t version changes look a b = list_any (λ change. links t version look change a b) changes

abbrev pub looks_links : ℕ → ℕ → List code.RowChange → List Look → ℕ → ℕ → Bool
looks_links t version changes looks a b = list_any (λ look. linked_by t version changes look a b) looks

module _ (entries : List Entry) (tables : List Table) (changes : List code.RowChange) where
  abbrev pub statement_links : ℕ → ℕ → ℕ → ℕ → Bool
  statement_links t k = looks_links t (statement_version t k entries) changes (option_map_or (looks tables) (statement_at t k entries) [])

  -- the first statements of a transaction, this many
  abbrev pub transaction_links : ℕ → ℕ → ℕ → ℕ → Bool
  transaction_links t zero a b = false
  transaction_links t (suc k) a b = transaction_links t k a b || statement_links t (suc k) a b

  -- all statements of some transactions
  abbrev pub all_links : List ℕ → ℕ → ℕ → Bool
  all_links ts a b = list_any (λ t. transaction_links t (statement_count t entries) a b) ts

-- ---- rows

-- the transactions of two changes of a row
abbrev pub write_links : code.RowChange → code.RowChange → ℕ → ℕ → Bool
write_links change other a b =
    not (change.t == other.t)
    && (if nat_lt change.version other.version then (a == change.t) && (b == other.t) else (a == other.t) && (b == change.t))

-- the others of its row are the first ones
abbrev pub first_links : code.RowChange → List code.RowChange → ℕ → ℕ → Bool
first_links change [] a b = false
first_links change (other ∷ others) a b = same_row (change_view change) (change_view other) && (write_links change other a b || first_links change others a b)

-- those of all changes
abbrev pub row_links : List code.RowChange → ℕ → ℕ → Bool
row_links [] a b = false
row_links (change ∷ others) a b = first_links change others a b || row_links others a b

-- ---- all of it

-- the changes of a row stand together
abbrev pub AreGrouped : List RowChange → Type 0
AreGrouped changes =
    (i j k : ℕ) (one other third : RowChange) → i < j → j < k → slice_get changes i ≡ Some one → slice_get changes j ≡ Some other → slice_get changes k ≡ Some third
    → same_row one third ≡ true → same_row one other ≡ true

-- these are the transactions that committed
pub record IsMadeBy (entries : List Entry) (committers : List ℕ) : Type 0 where
  pub is : (t : ℕ) → Contains committers t → t ≤ transactions_in entries
  pub all : (t version : ℕ) → version_of t entries ≡ Some version → Contains committers t

-- the relation between them
abbrev pub IsPrecedence : List Table → List Entry → List RowChange → List ℕ → (ℕ → ℕ → Bool) → Type 0
IsPrecedence tables entries changes committers relation =
    (a b : ℕ) → Contains committers a → Contains committers b → relation a b ≡ is_before tables entries changes a b
