-- Part of the statement: what an output has done. `old` is what it was before a write.
use Rattle.std.specs.Prelude.{ℕ, List, [], ◌∷◌, ◌++◌}

-- what a contract sees of a sink
pub record SinkState : Type 0 where
  -- the bytes of the writes that succeeded, in order
  pub taken : List ℕ
  -- the bytes of each write that failed, the latest last. A prefix of them may have been written (IEEE Std 1003.1, write).
  pub failed : List (List ℕ)

abbrev pub after_write : List ℕ → SinkState → SinkState
after_write bytes old = record { taken = old.taken ++ bytes; failed = old.failed }

abbrev pub after_failure : List ℕ → SinkState → SinkState
after_failure bytes old = record { taken = old.taken; failed = old.failed ++ bytes ∷ [] }
