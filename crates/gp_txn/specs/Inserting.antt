-- Machinery: the rows that an INSERT makes, and which tables a query reads.
use Rattle.std.specs.Prelude.{◌≡◌, ℕ, ◌+◌, ◌<◌, ◌≤◌, ◌==◌, Bool, true, false, nat_lt, List, length, map, Result, Ok, Err}
use Rattle.std.specs.List.{AllByRecursion, list_any}
use Rattle.gp_base.specs.declared.row_id.TheConstants.{MAX_NODES}
use Rattle.gp_base.specs.declared.stored.Stored.{Stored}
use Rattle.gp_base.specs.Identities.{nodes}
use Rattle.gp_base.specs.IdentityParts.{identity_transaction, identity_statement}
use Rattle.gp_algebra.specs.Statements.{Branch, Select}
use Rattle.gp_base.specs.declared.limit.TheConstants.{MAX_TABLE_ROWS}
use Rattle.gp_txn.specs.declared.error.StmtStop.{StmtStop}
use Rattle.gp_txn.specs.declared.error.StmtStop.TheVariants.{Rows, Ancestry, NoMemory}
use Rattle.gp_txn.specs.Overlay.{PlainRow, own_row, own_write}
use Rattle.gp_txn.specs.Transactions.{table_at}
use Rattle.gp_versions.specs.Commits.{AreDistinct}
use Rattle.gp_versions.specs.Spans.{Versions}
use Rattle.gp_versions.specs.TableSpans.{NoOverlap}

abbrev pub are_large : List PlainRow → Bool
are_large rows = list_any (λ (row : PlainRow). nat_lt MAX_NODES (nodes row.identity)) rows

-- rows with identities, unless one has too many nodes; running out of memory says nothing
abbrev pub Makes : {X : Type 0} → (X → List PlainRow) → Result X StmtStop → List PlainRow → Type 0
Makes view (Ok new) rows = (view new ≡ rows) × (are_large rows ≡ false)
Makes view (Err Rows) rows = ⊥
Makes view (Err Ancestry) rows = are_large rows ≡ true
Makes view (Err NoMemory) rows = Unit {0}

-- whether so many rows and more of them are too many for a table
abbrev pub are_many : ℕ → ℕ → Bool
are_many count more = nat_lt MAX_TABLE_ROWS (count + more)

-- the rows to insert into a table of so many, unless they are too many or an identity has too many nodes
abbrev pub Prepares : Result (List Stored) StmtStop → ℕ → List PlainRow → Type 0
Prepares (Ok new) count rows = (are_many count (length rows) ≡ false) × (map own_row new ≡ rows) × (are_large rows ≡ false)
Prepares (Err Rows) count rows = are_many count (length rows) ≡ true
Prepares (Err Ancestry) count rows = (are_many count (length rows) ≡ false) × (are_large rows ≡ true)
Prepares (Err NoMemory) count rows = Unit {0}

-- the rows to insert into a table that may have so many more
abbrev pub Fills : Result (List Stored) StmtStop → ℕ → List PlainRow → Type 0
Fills (Ok new) room rows = (length rows ≤ room) × (map own_row new ≡ rows) × (are_large rows ≡ false)
Fills (Err Rows) room rows = room < length rows
Fills (Err Ancestry) room rows = (length rows ≤ room) × (are_large rows ≡ true)
Fills (Err NoMemory) room rows = Unit {0}

abbrev pub names_table : ℕ → List ℕ → Bool
names_table table from = list_any (λ place. place == table) from

-- whether a query reads a table
abbrev pub reads_table : ℕ → Select → Bool
reads_table table select = list_any (λ (branch : Branch). names_table table branch.from) select

-- no two rows of a version are of one identity, in each table
abbrev pub AreApart : List Versions → Type 0
AreApart versions = (place : ℕ) → NoOverlap (table_at place versions).spans

-- rows that statement k of transaction t made, of different identities
abbrev pub AreNew : ℕ → ℕ → List Stored → Type 0
AreNew t k new =
    AllByRecursion (λ (stored : Stored). (identity_transaction stored.id ≡ t) × (identity_statement stored.id ≡ k)) new × AreDistinct (map own_write new)
