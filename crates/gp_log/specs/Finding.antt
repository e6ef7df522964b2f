-- Machinery: which entry is a statement of a transaction, by the number that the entry has.
use Rattle.std.specs.Prelude.{ℕ, ◌==◌, ◌&&◌, Bool, false}
use Rattle.gp_log.specs.declared.entry.Entry.{Entry}
use Rattle.gp_log.specs.declared.entry.What.{What}
use Rattle.gp_log.specs.declared.entry.What.TheVariants.{Statement}

abbrev pub is_numbered : ℕ → What → Bool
is_numbered k (Statement number command stmt) = number == k
is_numbered k _ = false

-- statement k of transaction t
abbrev pub is_own : ℕ → ℕ → Entry → Bool
is_own t k entry = (entry.t == t) && is_numbered k entry.what
