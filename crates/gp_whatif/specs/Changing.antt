-- Machinery: the parts of a changed log, as the code makes them from the oldest entry on.
use Rattle.std.specs.Prelude.{◌≡◌, ℕ, ◌+◌, ◌<◌, ◌==◌, Bool, true, false, List, slice_get, take, unwrap_or, Option, Some, None, Result, Ok, Err}
use Rattle.std.specs.List.{AllByRecursion}
use Rattle.gp_base.specs.declared.refusal.Refusal.{Refusal}
use Rattle.gp_base.specs.declared.stop.Stop.{Stop}
use Rattle.gp_base.specs.declared.table.Table.{Table}
use Rattle.gp_check.specs.Views.{Checks}
use Rattle.gp_grammar.specs.Syntax.{Command}
use Rattle.gp_algebra.specs.Statements.{Statement}
use Rattle.gp_machine.specs.Entries as m
use Rattle.gp_machine.specs.Entries.{statement_count}
use Rattle.gp_log.specs.LogFacts.{tables_in}
use Rattle.gp_log.specs.Logs.{Logged, entry_view, log_view}
use Rattle.gp_log.specs.declared.entry.Entry.{Entry}
use Rattle.gp_log.specs.declared.entry.What.{What}
use Rattle.gp_log.specs.declared.entry.What.TheVariants as what
use Rattle.gp_whatif.specs.Changed.{is_step_of, tables_at_end}

-- the changed log, or the first refusal; running out of memory says nothing
abbrev pub Changes : Result Logged Stop → Result (List m.Entry) Refusal → Type 0
Changes result expected = Checks (λ (new : Logged). log_view new.entries) result expected

-- nothing, or the refusal
abbrev pub IsRefused : {A : Type 0} → Result A Refusal → Option Refusal → Type 0
IsRefused (Ok found) expected = expected ≡ None
IsRefused (Err refusal) expected = expected ≡ Some refusal

-- ---- entries

-- another command and statement in the place of its own
abbrev pub edited : Bool → (Command → Command) → (Statement → Statement) → m.Entry → m.Entry
edited true command statement (m.Ran line session sent t now) = m.Ran line session (command sent) t (statement now)
edited true command statement entry = entry
edited false command statement entry = entry

-- what an entry asks of the entries before it: a new table, the number of a statement, or nothing
pub data Step : Type 0 where
  Makes : Table → Step
  Numbers : ℕ → Step
  Goes : Step

abbrev pub step_of : What → Step
step_of (what.Create table) = Makes table
step_of (what.Statement k command stmt) = Numbers k
step_of _ = Goes

pub record SameStep (new old : Entry) : Type 0 where
  pub t : new.t ≡ old.t
  pub step : step_of new.what ≡ step_of old.what

-- ---- where a statement is added

abbrev pub is_last : Option ℕ → ℕ → Bool
is_last None place = false
is_last (Some last) place = last == place

-- the last step of the transaction among the first entries, this many, if there is one
pub record IsLastStep (t : ℕ) (entries : List Entry) (upto : ℕ) (last : Option ℕ) : Type 0 where
  pub within : (place : ℕ) → last ≡ Some place → place < upto
  pub here : (place : ℕ) (entry : Entry) → last ≡ Some place → slice_get entries place ≡ Some entry → is_step_of t (entry_view entry) ≡ true
  pub later : (before place : ℕ) (entry : Entry) → last ≡ Some before → before < place → place < upto → slice_get entries place ≡ Some entry
      → is_step_of t (entry_view entry) ≡ false
  pub none : last ≡ None → AllByRecursion (λ (entry : m.Entry). is_step_of t entry ≡ false) (log_view (take upto entries))
  pub tables : tables_at_end t (log_view (take upto entries)) ≡ tables_in (log_view (take (unwrap_or last 0) entries))
  pub count : (place : ℕ) → last ≡ Some place → statement_count t (log_view (take (place + 1) entries)) ≡ statement_count t (log_view (take upto entries))
