-- Machinery: what the parts of composing say. The statement that wrote a table last is kept for each table, in the order of the catalogue.
use Rattle.std.specs.Prelude.{◌≡◌, ℕ, suc, ◌<◌, ◌==◌, Bool, true, List, length, slice_set, get_or, Option, Some, None, if◌then◌else◌}
use Rattle.std.specs.Option.{option_map}
use Rattle.gp_base.specs.declared.table.Table.{Table}
use Rattle.gp_algebra.specs.Statements.{Statement, delete, target, update, width_of}
use Rattle.gp_algebra.specs.Fitting.{statement_fits}
use Rattle.gp_algebra.specs.AnnotatedQueries.{Query, QueryStep}
use Rattle.gp_machine.specs.Entries.{Entry, Created, Began, Ran, Committed, Ended, Log, log_of}
use Rattle.gp_log.specs.Contents.{entries, tables}
use Rattle.gp_log.specs.Logs.{Logged, entry_view}
use Rattle.gp_log.specs.declared.entry.Entry as code
use Rattle.gp_rewrite.specs.Rewriting.{rewritten}
use Rattle.gp_rewrite.specs.RewritingForms.{query_at}
use Rattle.gp_compose.specs.Composed.{composed, current, current_before, last_write}

-- the statement of an entry, if it is one of the transaction
abbrev pub own_statement : ℕ → Entry → Option Statement
own_statement t (Created line session table) = None
own_statement t (Began line session u level) = None
own_statement t (Ran line session command u statement) = if u == t then Some statement else None
own_statement t (Committed line session u) = None
own_statement t (Ended line session end u) = None

abbrev pub own_in : ℕ → code.Entry → Option Statement
own_in t entry = own_statement t (entry_view entry)

abbrev pub own_fits : List Table → Option Statement → Bool
own_fits tables None = true
own_fits tables (Some statement) = statement_fits tables statement

-- the step of a statement, if it writes a table
abbrev pub made_step : (ℕ → ℕ) → ℕ → ℕ → (ℕ → Query) → Statement → Option QueryStep
made_step columns t k tables statement =
    option_map (λ table. record { j = k; table = table; query = rewritten columns t k statement tables }) (target statement)

-- which statement wrote each table last, after one more statement with this target
abbrev pub with_write : Option ℕ → ℕ → List (Option ℕ) → List (Option ℕ)
with_write None k writes = writes
with_write (Some table) k writes = slice_set writes table (Some k)

-- how many statements of the transaction there are with one more, if it is one
abbrev pub ran_more : Option Statement → ℕ → ℕ
ran_more None n = n
ran_more (Some statement) n = suc n

-- the table of an UPDATE or a DELETE is among the first ones, this many
abbrev pub HasTable : ℕ → Statement → Type 0
HasTable count (update table sets c) = table < count
HasTable count (delete table c) = table < count
HasTable count _ = Unit {0}

-- a list with the query of each table, in the order of the catalogue
abbrev pub AreTables : ℕ → (ℕ → Query) → List Query → Type 0
AreTables count query tables = (length tables ≡ count) × ((table : ℕ) → table < count → query_at tables table ≡ query table)

-- Statements of a transaction that are composed: how many, the version that was read last, their steps, which of them wrote each table last, and the
-- query of each table.
pub record Parts : Type 0 where
  pub ran : ℕ
  pub version : ℕ
  pub steps : List QueryStep
  pub writes : List (Option ℕ)
  pub tables : List Query

-- the first k statements of a transaction, over this many tables, which have these queries over the version `read`
pub record AreParts (columns : ℕ → ℕ) (log : Log) (t k count read : ℕ) (query : ℕ → Query) (parts : Parts) : Type 0 where
  pub ran : parts.ran ≡ k
  pub version : parts.version ≡ read
  pub steps : parts.steps ≡ composed columns log t k
  pub many : length parts.writes ≡ count
  pub writes : (table : ℕ) → table < count → get_or parts.writes table None ≡ last_write log t k table
  pub tables : AreTables count query parts.tables

-- after the last of them
abbrev pub IsComposed : (ℕ → ℕ) → Log → ℕ → ℕ → ℕ → Parts → Type 0
IsComposed columns log t k count parts = AreParts columns log t k count (log.version t k) (current log t k) parts

-- given a log of the code, which has the tables
abbrev pub IsComposedIn : Logged → ℕ → ℕ → Parts → Type 0
IsComposedIn log t k parts = IsComposed (width_of (tables log)) (log_of (entries log)) t k (length (tables log)) parts

-- before the next one
abbrev pub IsMoved : (ℕ → ℕ) → Log → ℕ → ℕ → ℕ → Parts → Type 0
IsMoved columns log t k count parts = AreParts columns log t k count (log.version t (suc k)) (current_before log t k) parts
