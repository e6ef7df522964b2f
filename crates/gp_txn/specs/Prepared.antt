-- Machinery: the writes of a commit to each table, once they are copied and have room.
use Rattle.std.specs.Prelude.{◌≡◌, ℕ, ◌≤◌, List, [], map, length, slice_index_or}
use Rattle.std.specs.List.{AllByRecursion}
use Rattle.gp_base.specs.declared.stored.Stored.{Stored}
use Rattle.gp_base.specs.IdentityParts.{identity_transaction}
use Rattle.gp_versions.specs.declared.span.Write.{Write}
use Rattle.gp_versions.specs.Commits.{AreBelow, AreDistinct}
use Rattle.gp_versions.specs.Spans.{Versions}
use Rattle.gp_txn.specs.declared.overlay.TableWrites.{TableWrites}
use Rattle.gp_txn.specs.Overlay.{own_write}
use Rattle.gp_txn.specs.Transactions.{AreCarried}

abbrev pub prepared_at : List (List Write) → ℕ → List Write
prepared_at prepared place = slice_index_or prepared place []

-- nothing of a commit of these writes to a table can fail
pub record IsReady (version : ℕ) (table : Versions) (writes : List Write) : Type 0 where
  pub first : 1 ≤ version
  pub above : AreBelow version table.spans
  pub distinct : AreDistinct writes
  pub room : length writes ≤ table.spare

-- the rows that a transaction inserted, whatever the statement
abbrev pub AreInserted : ℕ → List Stored → Type 0
AreInserted t own = AllByRecursion (λ (stored : Stored). identity_transaction stored.id ≡ t) own × AreDistinct (map own_write own)

-- the writes of a table of this transaction
pub record AreWritesOf (t : ℕ) (writes : TableWrites) : Type 0 where
  pub inserted : AreInserted t writes.own
  pub carried : AreCarried t writes.carried
