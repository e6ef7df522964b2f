-- Machinery: a transaction that runs again.
use Rattle.std.specs.Prelude.{◌≡◌, ◌≢◌, ◌⊎◌, ℕ, suc, ◌≤◌, Bool, true, false, List, length, None}
use Rattle.gp_base.specs.Annotated.{unannotated}
use Rattle.gp_base.specs.Identities.{Identity}
use Rattle.gp_base.specs.IdentityParts.{identity_transaction}
use Rattle.gp_algebra.specs.Effects.{step, wrote}
use Rattle.gp_algebra.specs.Statements.{Statement, read}
use Rattle.gp_versions.specs.Spans.{Versions}
use Rattle.gp_txn.specs.Applying.{has_too_many_nodes, has_too_many_rows, is_applicable}
use Rattle.gp_txn.specs.Bases.{base_after}
use Rattle.gp_txn.specs.Transactions.{HoldsThere, Writes, base_at, has_written, view_at, writes_at}
use Rattle.gp_machine.specs.Entries.{Entry, committer_of, log_of, statement_version}
use Rattle.gp_machine.specs.Points.{run_stop}
use Rattle.gp_machine.specs.Reading.{Seen}
use Rattle.gp_machine.specs.ReadBy.{seen_by}
use Rattle.gp_machine.specs.Replaying.{Replay, replayed}
use Rattle.gp_machine.specs.ReplayForms.{upto_version}
use Rattle.gp_machine.specs.Represents.{base_among}
use Rattle.gp_log.specs.Parameters.{parameters}
use Rattle.gp_log.specs.LogFacts.{tables_in}
use Rattle.gp_whatif.specs.declared.error.ReplayStop.{ReplayStop}
use Rattle.gp_whatif.specs.declared.error.ReplayStop.TheVariants.{Lost, Rows, Ancestry, Full, NoMemory}

-- ---- one statement

-- a statement that can be applied, or a SELECT, which is not
abbrev pub can_run : ℕ → Statement → Bool
can_run count (read select) = true
can_run count statement = is_applicable count statement

-- Statement k, which read this version, has run: the transaction sees what the statement makes of what it saw there, and each row that the statement
-- wrote first has the version as its base.
pub record Ran (k version : ℕ) (statement : Statement) (versions : List Versions) (old new : Writes) : Type 0 where
  pub t : new.t ≡ old.t
  pub last : new.last ≤ k
  pub view : (place : ℕ) → view_at new.tables versions version place ≡ step unannotated old.t k statement (view_at old.tables versions version) place
  pub base : (place : ℕ) (id : Identity) → identity_transaction id ≢ old.t
      → base_at new.tables versions place id
      ≡ base_after version (has_written (wrote unannotated old.t k statement (view_at old.tables versions version)) place id) (base_at old.tables versions place id)
  pub below : (place : ℕ) → ((writes_at place new.tables).version ≡ (writes_at place old.tables).version) ⊎ ((writes_at place new.tables).version ≡ version)
  pub there : HoldsThere old.tables versions → HoldsThere new.tables versions
  pub few_rows : has_too_many_rows k version statement versions old ≡ false
  pub few_nodes : has_too_many_nodes k version statement versions old ≡ false

-- why it has not run
abbrev pub StopsAt : ReplayStop → ℕ → ℕ → Statement → List Versions → Writes → Type 0
StopsAt (Rows t number) k version statement versions old = (t ≡ old.t) × ((number ≡ k) × (has_too_many_rows k version statement versions old ≡ true))
StopsAt (Ancestry t number) k version statement versions old =
    (t ≡ old.t) × ((number ≡ k) × ((has_too_many_rows k version statement versions old ≡ false) × (has_too_many_nodes k version statement versions old ≡ true)))
StopsAt NoMemory k version statement versions old = Unit {0}
StopsAt (Lost made other table id) k version statement versions old = ⊥
StopsAt Full k version statement versions old = ⊥

-- ---- the transaction that made the next version

-- the versions made so far, this many
abbrev pub made_upto : List Entry → ℕ → Replay (Unit {0})
made_upto entries u = replayed unannotated (log_of entries) (length (tables_in entries)) u

-- what it has read and written over them after its first k statements
abbrev pub seen_upto : List Entry → ℕ → ℕ → Seen (Unit {0})
seen_upto entries u k = seen_by unannotated (upto_version u (log_of entries)) (committer_of (suc u) entries) k (made_upto entries u).committed

-- it has run these statements over these row versions
pub record HasRun (entries : List Entry) (u : ℕ) (versions : List Versions) (k : ℕ) (writes : Writes) : Type 0 where
  pub t_is : writes.t ≡ committer_of (suc u) entries
  pub last : writes.last ≤ k
  -- the writes of each table lie over a version that it has read
  pub below : (place : ℕ) → (writes_at place writes.tables).version ≤ statement_version (committer_of (suc u) entries) k entries
  -- it sees what it has read
  pub view : (place : ℕ) → view_at writes.tables versions (statement_version (committer_of (suc u) entries) k entries) place ≡ (seen_upto entries u k).view place
  -- of the rows of others, it has written these, over these bases
  pub base : (place : ℕ) (id : Identity) → identity_transaction id ≢ committer_of (suc u) entries
      → base_at writes.tables versions place id ≡ base_among place id (seen_upto entries u k).written
  pub there : HoldsThere writes.tables versions
  pub unstopped : run_stop unannotated parameters (log_of entries) (committer_of (suc u) entries) k (made_upto entries u).committed ≡ None
