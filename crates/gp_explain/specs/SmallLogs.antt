-- Machinery: logs and queries that are so small that the numbers of their programs have 32 bits. Those of a well-formed dump and of its questions are.
use Rattle.std.specs.Prelude.{ℕ, ◌≤◌, List, length}
use Rattle.std.specs.List.{AllByRecursion}
use Rattle.gp_grammar.specs.declared.limits.TheConstants.{MAX_COLUMNS, MAX_FROM}
use Rattle.gp_algebra.specs.Statements.{Branch, Select, Statement, insert_select, width_of}
use Rattle.gp_log.specs.LogFacts.{tables_in}
use Rattle.gp_machine.specs.Entries.{Entry, Ran}

-- no branch joins more tables than a FROM may have
abbrev pub HasFewTables : Select → Type 0
HasFewTables select = AllByRecursion (λ (branch : Branch). length branch.from ≤ MAX_FROM) select

abbrev pub StatementIsSmall : Statement → Type 0
StatementIsSmall (insert_select table select) = HasFewTables select
StatementIsSmall statement = Unit {0}

abbrev pub EntryIsSmall : Entry → Type 0
EntryIsSmall (Ran line session command t statement) = StatementIsSmall statement
EntryIsSmall entry = Unit {0}

pub record IsSmall (entries : List Entry) : Type 0 where
  pub lines : length entries ≤ 0xffff_ffff
  pub columns : (table : ℕ) → width_of (tables_in entries) table ≤ MAX_COLUMNS
  pub statements : AllByRecursion EntryIsSmall entries
