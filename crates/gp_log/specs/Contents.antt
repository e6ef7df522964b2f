-- Machinery: what a log has, in the terms of the history machine.
use Rattle.std.specs.Prelude.{◌≡◌, ℕ, true, List, None}
use Rattle.gp_base.specs.declared.table.Table.{Table}
use Rattle.gp_grammar.specs.Syntax as y
use Rattle.gp_machine.specs.Entries.{Entry, versions_in}
use Rattle.gp_machine.specs.Questions.{log_refusal}
use Rattle.gp_log.specs.LogFacts.{tables_in}
use Rattle.gp_log.specs.LogFitting.{statements_fit}
use Rattle.gp_log.specs.Logs.{Logged, log_view}

-- its entries, the newest first
abbrev pub entries : Logged → List Entry
entries log = log_view log.entries

-- the tables that they create
abbrev pub tables : Logged → List Table
tables log = tables_in (log_view log.entries)

-- the number of its commits, which is its newest version
abbrev pub commits : Logged → ℕ
commits log = versions_in (entries log)

-- it has the state that a question asks about
abbrev pub HasPoint : Logged → y.Point → Type 0
HasPoint log point = log_refusal (entries log) point ≡ None

-- its statements fit its tables
abbrev pub StatementsFit : Logged → Type 0
StatementsFit log = statements_fit (tables log) (entries log) ≡ true
