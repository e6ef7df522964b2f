-- Of the contract of `DiskShelf::replace`: what the system was asked for and what it answered while a file was replaced.
use Rattle.std.specs.Prelude.{ℕ, List, Option}

pub data Call : Type 0 where
  -- open the file of this name for writing, and leave it as it is
  Open : List ℕ → Call
  -- create a file of this name where nothing has it, give it this mode, if any, write these bytes to it, flush, sync
  Store : List ℕ → Option ℕ → List ℕ → Call
  -- give the file of the first name the second one
  Rename : List ℕ → List ℕ → Call
  -- sync the folder of this name, where the system does that
  Sync : List ℕ → Call
  Remove : List ℕ → Call
  -- cut the file of this name to nothing, or create it, write these bytes to it, flush
  Overwrite : List ℕ → List ℕ → Call

pub data Step : Type 0 where
  -- nothing stands under the name
  IsFree : List ℕ → Step
  -- A regular file of this mode stands under the first name. The second is the name of that file itself, where the first is a link to it.
  IsPlain : List ℕ → List ℕ → ℕ → Step
  -- something else stands under the name
  IsOther : List ℕ → Step
  -- the system answered that this was done
  Did : Call → Step
  -- it answered that it was not. A store that made no file is no step.
  DidNot : Call → Step
