-- Machinery: the invariant of `Dump`. A log and row versions from which questions about states are answered: the log keeps its sessions, and what both hold
-- fits its tables. Every well-formed dump is such, and so is the one of commits made again.
use Rattle.std.specs.Prelude.{◌≡◌, ℕ, Bool, true, List, [], ◌∷◌, length, map, Option, slice_index_or}
use Rattle.std.specs.Coded.{×_prop, Π_prop, Unit-prop, le_prop, Coded-set, coded_bool, coded_option, coded_ℕ}
use Rattle.std.specs.List.{AllByRecursion-prop}
use Rattle.gp_algebra.specs.Statements.{width_of}
use Rattle.gp_base.specs.declared.table.Table.{Table}
use Rattle.gp_versions.specs.declared.span.Span.{Span}
use Rattle.gp_versions.specs.Spans.{Versions}
use Rattle.gp_machine.specs.Entries.{Entry, Created, Began, Ran, Committed, Ended}
use Rattle.gp_log.specs.LogFacts.{tables_in}
use Rattle.gp_log.specs.LogFitting.{SpanFits, SpansFit, statements_fit}
use Rattle.gp_log.specs.Logs.{Logged, log_view}
use Rattle.gp_log.specs.Sessions.{KeepsSessions}
use Rattle.gp_dump.specs.Dumps.{Dump}

-- the dump of a log and of the row versions of its tables
abbrev pub as_dump : Logged → List Versions → Dump
as_dump log versions = record { entries = log_view log.entries; tables = map (λ (table : Versions). table.spans) versions }

pub record IsAnswerable (dump : Dump) : Type 0 where
  pub sessions : KeepsSessions dump.entries
  pub statements : statements_fit (tables_in dump.entries) dump.entries ≡ true
  -- one list of row versions for each table
  pub tables : length dump.tables ≡ length (tables_in dump.entries)
  pub spans : SpansFit (tables_in dump.entries) (λ place. slice_index_or dump.tables place [])

-- ---- a fact that a struct keeps has one proof at most

same_transaction : (t u : Option ℕ) → IsProp (t ≡ u)
same_transaction = Coded-set (coded_option coded_ℕ)

sessions_prop : (entries : List Entry) → IsProp (KeepsSessions entries)
sessions_prop [] = Unit-prop
sessions_prop (Created line session table ∷ older) = ×_prop (same_transaction _ _) (sessions_prop older)
sessions_prop (Began line session t level ∷ older) = ×_prop (Coded-set coded_ℕ _ _) (×_prop (same_transaction _ _) (sessions_prop older))
sessions_prop (Ran line session command t statement ∷ older) = ×_prop (same_transaction _ _) (sessions_prop older)
sessions_prop (Committed line session t ∷ older) = ×_prop (same_transaction _ _) (sessions_prop older)
sessions_prop (Ended line session end t ∷ older) = ×_prop (same_transaction _ _) (sessions_prop older)

same_truth : (a b : Bool) → IsProp (a ≡ b)
same_truth = Coded-set coded_bool

same_number : (a b : ℕ) → IsProp (a ≡ b)
same_number = Coded-set coded_ℕ

span_prop : (width : ℕ) (span : Span) → IsProp (SpanFits width span)
span_prop width span = hlevel (same_truth, le_prop)

spans_prop : (tables : List Table) (spans : ℕ → List Span) → IsProp (SpansFit tables spans)
spans_prop tables spans = Π_prop (λ table. AllByRecursion-prop _ (span_prop (width_of tables table)) (spans table))

pub answerable_prop : (dump : Dump) → IsProp (IsAnswerable dump)
answerable_prop dump = hlevel (sessions_prop, same_truth, same_number, spans_prop, span_prop, AllByRecursion-prop)
