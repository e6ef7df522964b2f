-- Of the law `identities_begin_with_their_committers`: the transactions that committed by a version.
use Rattle.std.specs.Prelude.{◌≡◌, ℕ, ◌≤◌, List, Some}
use Rattle.gp_machine.specs.Entries.{Entry, version_of}

-- transaction t made one of the versions from 1 to this one
pub record CommittedBy (entries : List Entry) (version t : ℕ) : Type 0 where
  -- transactions are numbered from 1
  pub number : 1 ≤ t
  pub made : ℕ
  pub is : version_of t entries ≡ Some made
  pub first : 1 ≤ made
  pub last : made ≤ version
