-- Machinery: what a log keeps of each transaction and version.
use Rattle.std.specs.Prelude.{◌≡◌, ◌<◌, ◌≤◌, ◌⊎◌, ℕ, suc, Bool, true, false, List, [], ◌∷◌, ◌++◌, get_or, length, slice_get, slice_set, None, Some}
use Rattle.gp_base.specs.declared.refusal.Fate.TheVariants as fate
use Rattle.gp_machine.specs.Entries.{Entry, begin_version, committer_of, fate_of, is_read_committed, statement_count, statement_version, version_of}
use Rattle.gp_log.specs.LogCounts.{version_read}
use Rattle.gp_log.specs.declared.index.Index.{Index}
use Rattle.gp_log.specs.declared.index.Known.{Known}

-- what is known of a transaction that began at a version, and of one that has no entry
abbrev pub begun : ℕ → Bool → Known
begun version read_committed = record { begin = version; read_committed = read_committed; ran = 0; fate = fate.Active; version = None }

abbrev pub unknown : Known
unknown = begun 0 false

abbrev pub known_of : ℕ → List Entry → Known
known_of t log = record {
  begin = begin_version t log;
  read_committed = is_read_committed t log;
  ran = statement_count t log;
  fate = fate_of t log;
  version = version_of t log;
}

-- a transaction that is not read committed has read its begin version
abbrev pub AreSteady : List Entry → Type 0
AreSteady log = (t k : ℕ) → is_read_committed t log ≡ false → k ≤ statement_count t log → statement_version t k log ≡ begin_version t log

-- transactions and versions are numbered from 1
pub record Knows (known : List Known) (makers : List ℕ) (log : List Entry) : Type 0 where
  pub transactions : (place : ℕ) → get_or known place unknown ≡ known_of (suc place) log
  pub committers : (place : ℕ) → get_or makers place 0 ≡ committer_of (suc place) log
  pub steady : AreSteady log

-- what stands for a statement, by its transaction's place and its own, is the version that it read
abbrev pub AreRead : List (List ℕ) → List Entry → Type 0
AreRead reads log = (place j version : ℕ) → slice_get (get_or reads place []) j ≡ Some version → version_read (suc place) (suc j) log ≡ Some version

-- one version more of a transaction that has so many
pub record IsNoted (t k version : ℕ) (old new : List (List ℕ)) : Type 0 where
  pub place : ℕ
  pub own : suc place ≡ t
  pub within : place < length old
  pub next : suc (length (get_or old place [])) ≡ k
  pub noted : new ≡ slice_set old place (get_or old place [] ++ version ∷ [])

-- or none
abbrev pub AreNoted : ℕ → ℕ → ℕ → List (List ℕ) → List (List ℕ) → Type 0
AreNoted t k version old new = (new ≡ old) ⊎ IsNoted t k version old new

abbrev pub HasReads : Index → List Entry → Type 0
HasReads index log = index.is_complete ≡ true → AreRead index.reads.items log

-- an index that is complete knows each transaction and version
abbrev pub IsIndex : Index → List Entry → Type 0
IsIndex index log = index.is_complete ≡ true → Knows index.transactions.items index.committers.items log
