-- Of the law `conflicts_are_least`: the conflict that a commit is lost by, in its own words.
use Rattle.std.specs.Prelude.{◌≡◌, ◌⊎◌, ℕ, ◌<◌, ◌≤◌, true, false, List, [], ◌∷◌}
use Rattle.std.specs.Ordering.{is_gt}
use Rattle.gp_algebra.specs.Effects.{Written}
use Rattle.gp_machine.specs.Bases.{Based}
use Rattle.gp_machine.specs.Committed.{is_written}
use Rattle.gp_machine.specs.Conflicts.{Conflict, written_cmp}

-- one of these
abbrev pub IsBased : Based → List Based → Type 0
IsBased based [] = ⊥
IsBased based (other ∷ others) = (based ≡ other) ⊎ IsBased based others

-- no row has two bases
abbrev pub HaveOneBase : List Based → Type 0
HaveOneBase all = (pair : Written) (base other : ℕ) → IsBased (record { pair = pair; base = base }) all → IsBased (record { pair = pair; base = other }) all → base ≡ other

-- The conflict, in its own words: one of these rows, with the first version after its base that wrote it, and no lesser one of these rows was written
-- by a version after its base.
pub record IsLeastConflict (written : ℕ → List Written) (versions : ℕ) (all : List Based) (conflict : Conflict) : Type 0 where
  pub base : ℕ
  pub among : IsBased (record { pair = conflict.pair; base = base }) all
  pub later : base < conflict.version
  pub there : conflict.version ≤ versions
  pub version : is_written conflict.pair.table conflict.pair.identity (written conflict.version) ≡ true
  pub first : (v : ℕ) → base < v → v < conflict.version → is_written conflict.pair.table conflict.pair.identity (written v) ≡ false
  pub least : (other : Based) (v : ℕ) → IsBased other all → other.base < v → v ≤ versions
      → is_written other.pair.table other.pair.identity (written v) ≡ true → is_gt (written_cmp conflict.pair other.pair) ≡ false
