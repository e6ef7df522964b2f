-- Of the contracts of `append`, `version_at` and `statement_version`: the transactions of a log that have ended and that have not, its commits up to a line,
-- and the versions that statements read.
use Rattle.std.specs.Prelude.{ℕ, ◌-◌, ◌&&◌, nat_le, nat_lt, List, Option, Some, None, if◌then◌else◌}
use Rattle.gp_machine.specs.Entries.{Entry, at_newest, count, is_commit, is_end, is_statement_at, line_of, read_next, transactions_in}

-- how many transactions have ended, with a version or without
abbrev pub ends_in : List Entry → ℕ
ends_in = count is_end

-- transactions that began and have not ended
abbrev pub open_in : List Entry → ℕ
open_in entries = transactions_in entries - ends_in entries

-- the commits at lines up to this one
abbrev pub version_at : ℕ → List Entry → ℕ
version_at up_to = count (λ entry. is_commit entry && nat_le (line_of entry) up_to)

-- The version that a statement of a transaction read, if there is one of this number: the newest one at its line, or the one that the transaction began
-- at.
abbrev pub version_read : ℕ → ℕ → List Entry → Option ℕ
version_read t k = at_newest (is_statement_at t k) (λ entry older. Some (read_next t older)) None

-- a value where a number is from 1 to the count, and none elsewhere
abbrev pub numbered : {A : Type 0} → ℕ → ℕ → A → Option A
numbered n count value = if nat_lt 0 n && nat_le n count then Some value else None
