-- Machinery: transactions by their BEGINs.
use Rattle.std.specs.Prelude.{◌<◌, ◌≤◌, ℕ}
use Rattle.gp_machine.specs.Entries as m
use Rattle.gp_machine.specs.Entries.{Entry}

-- the transaction of a BEGIN is one of the first, this many
abbrev pub IsKnownBegin : ℕ → Entry → Type 0
IsKnownBegin count (m.Began line session t read_committed) = (0 < t) × (t ≤ count)
IsKnownBegin count entry = Unit {0}
