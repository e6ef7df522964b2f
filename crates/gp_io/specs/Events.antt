-- Part of the statement: what the calls of a shelf have done. A replacement that runs out of memory leaves no event.
use Rattle.std.specs.Prelude.{ℕ, List}

pub data Event : Type 0 where
  -- a file of this name was read: its first bytes, at most so many, are these. Where they are fewer, it has no others.
  Read : List ℕ → ℕ → List ℕ → Event
  -- a file of this name does not exist, or could not be read
  Missing : List ℕ → Event
  Unreadable : List ℕ → Event
  -- a read of this name ran out of memory: what it took of an input that is read once is lost
  Stopped : List ℕ → Event
  -- the content of the file of this name was replaced by these bytes, or could not be, and is unknown
  Replaced : List ℕ → List ℕ → Event
  NotReplaced : List ℕ → List ℕ → Event
