-- Of the laws `changed_logs_are_checked` and `changed_lines_rise`: what a changed log keeps: statements that fit and that the check passes, and lines that
-- rise.
use Rattle.std.specs.Prelude.{◌≡◌, ◌<◌, ◌≤◌, true, List, [], ◌∷◌, map, Result, Ok, Err}
use Rattle.std.specs.List.{AllByRecursion}
use Rattle.gp_base.specs.declared.refusal.Refusal.{Refusal}
use Rattle.gp_grammar.specs.Syntax as y
use Rattle.gp_grammar.specs.Syntax.{LogChange}
use Rattle.gp_algebra.specs.Fitting.{statement_fits}
use Rattle.gp_algebra.specs.Statements.{Statement}
use Rattle.gp_check.specs.Checking.{checked}
use Rattle.gp_machine.specs.Entries.{Entry, Created, Began, Ran, Committed, Ended, line_of}
use Rattle.gp_machine.specs.Parameters.{Parameters}
use Rattle.gp_log.specs.declared.limit.TheConstants.{MAX_LINE}
use Rattle.gp_log.specs.Discipline.{last_line}
use Rattle.gp_log.specs.LogFacts.{tables_in}
use Rattle.gp_whatif.specs.Changed.{changed, lines_for, spread, tables_at_end, tables_before}

module _ (parameters : Parameters) where
  -- a statement of a change that passes the check on the tables before it fits all tables of the log
  abbrev pub CheckFits : List Entry → LogChange → Type 0
  CheckFits entries (y.drop t k) = Unit {0}
  CheckFits entries (y.drop_all t) = Unit {0}
  CheckFits entries (y.replace t k command) =
      (statement : Statement) → parameters.checked (tables_before t k entries) command ≡ Ok statement → statement_fits (tables_in entries) statement ≡ true
  CheckFits entries (y.add t command) =
      (statement : Statement) → parameters.checked (tables_at_end t entries) command ≡ Ok statement → statement_fits (tables_in entries) statement ≡ true

  -- that of each change, on the log that the changes before it leave
  abbrev pub AllFit : Result (List Entry) Refusal → List LogChange → Type 0
  AllFit (Err refusal) changes = Unit {0}
  AllFit (Ok entries) [] = Unit {0}
  AllFit (Ok entries) (change ∷ changes) = CheckFits entries change × AllFit (changed parameters entries change) changes

  abbrev pub ChecksFit : List Entry → List LogChange → Type 0
  ChecksFit entries changes = AllFit (Ok (map (spread (lines_for changes)) entries)) changes

-- every statement of a log is what the check makes of its command over the tables before it
abbrev pub AreChecked : List Entry → Type 0
AreChecked [] = Unit {0}
AreChecked (Created line session table ∷ older) = AreChecked older
AreChecked (Began line session t level ∷ older) = AreChecked older
AreChecked (Ran line session command t statement ∷ older) = (checked (tables_in older) command ≡ Ok statement) × AreChecked older
AreChecked (Committed line session t ∷ older) = AreChecked older
AreChecked (Ended line session end t ∷ older) = AreChecked older

-- ---- lines

-- the lines are those of a script
abbrev pub AreLines : List Entry → Type 0
AreLines = AllByRecursion (λ (entry : Entry). line_of entry ≤ MAX_LINE)

-- the line of each entry is above that of the one before it
abbrev pub LinesRise : List Entry → Type 0
LinesRise [] = Unit {0}
LinesRise (entry ∷ older) = (last_line older < line_of entry) × LinesRise older
