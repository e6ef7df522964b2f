-- Machinery: intervals, as the code makes them: one pass over the sorted answers of two versions carries those that go on, and ends the others.
use Rattle.std.specs.Prelude.{◌≡◌, ℕ, zero, suc, ◌-◌, ◌≤◌, ◌==◌, ◌&&◌, ◌||◌, pos, Bool, List, [], ◌∷◌, ◌++◌, codes, map, Option, Some, None, Result, Ok, Err}
use Rattle.std.specs.FinMap.Entries.{by_order}
use Rattle.std.specs.List.{list_any, zip}
use Rattle.std.specs.Fmt.{decimal}
use Rattle.std.specs.Option.{option_map_or, option_or}
use Rattle.std.specs.Result.{result_err, result_unwrap_or}
use Rattle.gp_base.specs.declared.cell.Cell.{Cell}
use Rattle.gp_base.specs.declared.cell.Cell.TheVariants as cell
use Rattle.gp_base.specs.declared.refusal.Refusal.{Refusal}
use Rattle.gp_base.specs.Order.{row_cmp}
use Rattle.gp_grammar.specs.Syntax as y
use Rattle.gp_algebra.specs.Statements.{Branch, Select}
use Rattle.gp_dump.specs.Dumps.{Dump}
use Rattle.gp_machine.specs.Entries.{versions_in}
use Rattle.gp_base.specs.declared.stop.Stop.{Stop}
use Rattle.gp_base.specs.declared.stop.Stop.TheVariants as stop
use Rattle.gp_versions.specs.declared.span.Span.{Span}
use Rattle.gp_ask.specs.declared.answered.Answered.{Answered}
use Rattle.gp_ask.specs.declared.answered.Answered.TheVariants.{Refused}
use Rattle.gp_ask.specs.declared.answered.Heading.TheVariants.{When}
use Rattle.gp_ask.specs.Asking.{table_spans}
use Rattle.gp_ask.specs.AskingForms.{dump_rows}
use Rattle.gp_ask.specs.ChangeForms.{ends_at}
use Rattle.gp_ask.specs.Intervals.{Interval, interval_lines, interval_text, intervals, when_answer}
use Rattle.gp_ask.specs.Differences.{rows_in}
use Rattle.gp_ask.specs.Printed.{query_to}
use Rattle.gp_ask.specs.RowLines.{listed}
use Rattle.gp_ask.specs.Values.{unless_refused}

abbrev pub when_to : Dump → y.Query → Answered
when_to dump query = when_answer (query_to dump) dump.entries query

-- ---- versions that wrote a table of the query

abbrev pub is_touched : ℕ → Span → Bool
is_touched version span = (span.from == version) || ends_at version span

abbrev pub is_written : Dump → ℕ → ℕ → Bool
is_written dump version table = list_any (is_touched version) (table_spans dump.tables table)

abbrev pub is_changed : Dump → Select → ℕ → Bool
is_changed dump select version = list_any (λ (branch : Branch). list_any (is_written dump version) branch.from) select

-- ---- lines

abbrev pub end_text : Option ℕ → List ℕ
end_text to = option_map_or decimal to (codes "-")

-- an interval without an end has a text there, which is behind each number
abbrev pub end_cell : Option ℕ → Cell
end_cell to = option_map_or (λ version. cell.Int (pos version)) to (cell.Text (codes "-"))

abbrev pub interval_row : Interval → List Cell
interval_row interval = interval.row ++ cell.Int (pos interval.from) ∷ end_cell interval.to ∷ cell.Text (interval_text interval) ∷ []

-- ---- from one version to the next

-- a row of the answer, and the version at which its interval began
abbrev pub Open : Type 0
Open = List Cell × ℕ

abbrev pub ended : ℕ → Open → Interval
ended version opened = record { row = opened.0; from = opened.1; to = Some version }

module _ (version : ℕ) where
  -- at which version the interval of each row began: the rows of both answers are in order
  abbrev pub carried_from : Open → (List (List Cell) → List ℕ) → List (List Cell) → List ℕ
  carried_from opened rest [] = []
  carried_from opened rest (row ∷ rows) = by_order (row_cmp opened.0 row) (rest (row ∷ rows)) (opened.1 ∷ rest rows) (version ∷ carried_from opened rest rows)

  abbrev pub carried : List Open → List (List Cell) → List ℕ
  carried [] rows = map (λ row. version) rows
  carried (opened ∷ old) rows = carried_from opened (carried old) rows

  -- the intervals that end
  abbrev pub closed_from : Open → (List (List Cell) → List Interval) → List (List Cell) → List Interval
  closed_from opened rest [] = ended version opened ∷ rest []
  closed_from opened rest (row ∷ rows) = by_order (row_cmp opened.0 row) (ended version opened ∷ rest (row ∷ rows)) (rest rows) (closed_from opened rest rows)

  abbrev pub closed : List Open → List (List Cell) → List Interval
  closed [] rows = []
  closed (opened ∷ old) rows = closed_from opened (closed old) rows

-- ---- over the versions

module _ (answers : ℕ → List (List Cell)) where
  -- those that are open at a version
  abbrev pub open_at : ℕ → List Open
  open_at zero = zip (answers zero) (carried zero [] (answers zero))
  open_at (suc version) = zip (answers (suc version)) (carried (suc version) (open_at version) (answers (suc version)))

  -- those that ended up to a version
  abbrev pub closed_upto : ℕ → List Interval
  closed_upto zero = []
  closed_upto (suc version) = closed_upto version ++ closed (suc version) (open_at version) (answers (suc version))

abbrev pub still_open : Open → Interval
still_open opened = record { row = opened.0; from = opened.1; to = None }

-- ---- of a checked query

module _ (dump : Dump) (select : Select) where
  abbrev pub answer_at : ℕ → Result (List (List Cell)) Refusal
  answer_at version = rows_in (dump_rows dump (y.as_of version) select)

  abbrev pub rows_at : ℕ → List (List Cell)
  rows_at version = result_unwrap_or (answer_at version) []

  abbrev pub refusal_of : ℕ → Option Refusal
  refusal_of zero = result_err (answer_at zero)
  refusal_of (suc version) = option_or (refusal_of version) (result_err (answer_at (suc version)))

  abbrev pub checked_when : Answered
  checked_when = unless_refused (refusal_of (versions_in dump.entries)) (interval_lines (intervals rows_at (versions_in dump.entries)))

  abbrev pub AreRowsAt : {X : Type 0} → (X → List (List Cell)) → ℕ → Result X Stop → Type 0
  AreRowsAt view version (Ok found) = answer_at version ≡ Ok (view found)
  AreRowsAt view version (Err (stop.Refused refusal)) = answer_at version ≡ Err refusal
  AreRowsAt view version (Err stop.NoMemory) = Unit {0}

  -- what a version makes of the intervals that are open, and of the rows of those that ended
  abbrev pub StepsTo : {X : Type 0} → ℕ → List Open → List (List Cell) → Result X Stop → List Open → List (List Cell) → Type 0
  StepsTo version old before (Ok done) new after =
      (result_err (answer_at version) ≡ None)
      × ((new ≡ zip (rows_at version) (carried version old (rows_at version))) × (after ≡ before ++ map interval_row (closed version old (rows_at version))))
  StepsTo version old before (Err (stop.Refused refusal)) new after = answer_at version ≡ Err refusal
  StepsTo version old before (Err stop.NoMemory) new after = Unit {0}

  -- what is there after the first versions, up to this one
  pub record IsSwept (version : ℕ) (old : List Open) (before : List (List Cell)) : Type 0 where
    pub answered : refusal_of version ≡ None
    pub opened : old ≡ open_at rows_at version
    pub ended : before ≡ map interval_row (closed_upto rows_at version)

  -- what the next version makes of it, or what the query is refused for
  abbrev pub GoesOn : {X : Type 0} → ℕ → Result X Stop → List Open → List (List Cell) → Type 0
  GoesOn version (Ok done) new after = IsSwept (suc version) new after
  GoesOn version (Err (stop.Refused refusal)) new after = Refused refusal ≡ checked_when
  GoesOn version (Err stop.NoMemory) new after = Unit {0}

  -- rows of intervals that answer the query, or its refusal
  abbrev pub AreIntervals : {X : Type 0} → (X → List (List Cell)) → Result X Stop → Type 0
  AreIntervals view (Ok found) = listed When (view found) ≡ checked_when
  AreIntervals view (Err (stop.Refused refusal)) = Refused refusal ≡ checked_when
  AreIntervals view (Err stop.NoMemory) = Unit {0}
