-- Of the law `composed_programs_mean_the_states` and of the contract of `program`: the statements of a transaction as one program. Each statement that writes a
-- table is a step, over the current query of each table: the step that wrote the table last, or a scan of the version that the statement reads. Where a
-- statement reads another version than the one before, PUBLISH moves what the transaction wrote onto it. What a COMMIT published is PUBLISH onto the version
-- before the commit.
use Rattle.std.specs.Prelude.{ℕ, zero, suc, ◌==◌, Bool, false, List, [], ◌++◌, Option, Some, None, option_and_then, if◌then◌else◌}
use Rattle.std.specs.Option.{option_map, option_map_or, option_to_list}
use Rattle.gp_grammar.specs.Syntax as y
use Rattle.gp_algebra.specs.Statements.{Statement, Select, target}
use Rattle.gp_algebra.specs.AnnotatedQueries as q
use Rattle.gp_algebra.specs.AnnotatedQueries.{Query, QueryStep, Program}
use Rattle.gp_machine.specs.Entries.{Entry, Log, log_of, version_of}
use Rattle.gp_machine.specs.Points.{version_before}
use Rattle.gp_rewrite.specs.Rewriting.{rewritten, query_of}

-- ---- which statement wrote a table last

-- a number without a statement writes nothing
abbrev pub writes : Option Statement → ℕ → Bool
writes statement table = option_map_or (λ written. table == written) (option_and_then target statement) false

-- among the first statements of the transaction, this many
abbrev pub last_write : Log → ℕ → ℕ → ℕ → Option ℕ
last_write log t zero table = None
last_write log t (suc k) table = if writes (log.statement t (suc k)) table then Some (suc k) else last_write log t k table

-- A table in the version `new`, by its query over the old one: what the transaction wrote is published onto the version; a table that it has no
-- statement on is as it is there.
abbrev pub onto : ℕ → ℕ → ℕ → Option ℕ → Query → Query
onto old new table None query = q.scan table new
onto old new table (Some j) query = q.publish (q.scan table old) query (q.scan table new)

-- a table as a statement reads it that reads the version `new`, after one that read the old one
abbrev pub moved : ℕ → ℕ → ℕ → Option ℕ → Query → Query
moved old new table write query = if new == old then query else onto old new table write query

-- a table after the first statements of the transaction, this many
abbrev pub current : Log → ℕ → ℕ → ℕ → Query
current log t zero table = q.scan table (log.version t zero)
current log t (suc k) table =
    if writes (log.statement t (suc k)) table then q.step (suc k)
    else moved (log.version t k) (log.version t (suc k)) table (last_write log t k table) (current log t k table)

-- and as its statement k + 1 reads it
abbrev pub current_before : Log → ℕ → ℕ → ℕ → Query
current_before log t k table = moved (log.version t k) (log.version t (suc k)) table (last_write log t k table) (current log t k table)

-- ---- steps, given the number of columns of each table

-- the step of a statement, if it writes a table
abbrev pub step_of : (ℕ → ℕ) → ℕ → ℕ → (ℕ → Query) → Option Statement → List QueryStep
step_of columns t k tables None = []
step_of columns t k tables (Some statement) =
    option_to_list (option_map (λ table. record { j = k; table = table; query = rewritten columns t k statement tables }) (target statement))

-- the steps of the first statements, this many; a step has the number of its statement
abbrev pub composed : (ℕ → ℕ) → Log → ℕ → ℕ → List QueryStep
composed columns log t zero = []
composed columns log t (suc k) = composed columns log t k ++ step_of columns t (suc k) (current_before log t k) (log.statement t (suc k))

-- ---- programs

-- a query over what the transaction read after its k-th statement
abbrev pub program_after : (ℕ → ℕ) → Log → ℕ → ℕ → Select → Program
program_after columns log t k select = record { steps = composed columns log t k; last = query_of (current log t k) select }

-- a table that the transaction published: onto the version before its commit
abbrev pub published_query : Log → ℕ → ℕ → ℕ → Query
published_query log t before table =
    onto (log.version t (log.statement_count t)) before table (last_write log t (log.statement_count t) table) (current log t (log.statement_count t) table)

-- a query over what the transaction published
abbrev pub program_of_commit : (ℕ → ℕ) → Log → ℕ → ℕ → Select → Program
program_of_commit columns log t before select = record { steps = composed columns log t (log.statement_count t); last = query_of (published_query log t before) select }

-- a query over a version
abbrev pub program_as_of : ℕ → Select → Program
program_as_of version select = record { steps = []; last = query_of (λ table. q.scan table version) select }

-- the program of a state
abbrev pub program_at : (ℕ → ℕ) → List Entry → y.Point → Select → Program
program_at columns entries (y.as_of version) select = program_as_of version select
program_at columns entries (y.after t k) select = program_after columns (log_of entries) t k select
program_at columns entries (y.Point.commit t) select = program_of_commit columns (log_of entries) t (version_before (version_of t entries)) select
