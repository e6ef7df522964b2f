-- Part of the statement: the difference between the answers of two questions, and the statements without which an answer would be another one. Both are
-- given by the answers of the questions that they stand for: what holds of these, from a dump and as the history held them, holds of them. Where answers of the
-- history stand beside those of a changed one, its rows have to be the ones that its log makes.
use Rattle.std.specs.Prelude.{ℕ, suc, nat_lt, ◌&&◌, Bool, true, false, List, [], ◌∷◌, ◌++◌, length, map, Option, Some, None, Result, Ok, Err, codes, is_some, if◌then◌else◌}
use Rattle.std.specs.Fmt.{decimal}
use Rattle.std.specs.List.{concat, flat_map}
use Rattle.std.specs.Option.{option_or}
use Rattle.gp_base.specs.declared.cell.Cell.{Cell}
use Rattle.gp_base.specs.declared.refusal.Refusal.{Refusal}
use Rattle.gp_base.specs.declared.refusal.Refusal.TheVariants.{E27}
use Rattle.gp_base.specs.Refusals.{refusal_text}
use Rattle.gp_algebra.specs.Statements.{target}
use Rattle.gp_grammar.specs.Syntax as y
use Rattle.gp_log.specs.Parameters.{parameters}
use Rattle.gp_machine.specs.Entries.{Entry, Ran, statement_count, version_of}
use Rattle.gp_ask.specs.declared.answered.Answered.{Answered}
use Rattle.gp_ask.specs.declared.answered.Answered.TheVariants.{Diff, Lines, Refused, Rows}
use Rattle.gp_ask.specs.declared.answered.Heading.TheVariants.{Causes}
use Rattle.gp_ask.specs.Deltas.{Signed, added_rows, delta, removed_rows, with_sign}
use Rattle.gp_ask.specs.Hypothetical.{asking_refusal}
use Rattle.gp_ask.specs.Values.{or_refused, unless_refused}
use Rattle.gp_whatif.specs.Changed.{changed_log}

-- the rows of an answer, or its refusal; what asks for rows has no other answer
abbrev pub rows_in : Answered → Result (List (List Cell)) Refusal
rows_in (Rows rows) = Ok rows
rows_in (Refused refusal) = Err refusal
rows_in _ = Ok []

-- ---- the difference of two answers

-- unless there are too many lines
abbrev pub diff_lines : List Signed → Answered
diff_lines lines = if nat_lt parameters.answer (length lines) then Refused E27 else Diff (map with_sign lines)

-- ---- the statements that an answer depends on

-- the statements that write, of transactions that committed, by transaction and number, in the order of their lines; given all entries, and those of which
-- they are
abbrev pub written_by : List Entry → List Entry → List (ℕ × ℕ)
written_by entries [] = []
written_by entries (Ran line session command t statement ∷ older) =
    written_by entries older ++ (if is_some (target statement) && is_some (version_of t entries) then (t, suc (statement_count t older)) ∷ [] else [])
written_by entries (_ ∷ older) = written_by entries older

abbrev pub statement_text : ℕ × ℕ → List ℕ
statement_text statement = concat (decimal statement.0 ∷ codes "." ∷ decimal statement.1 ∷ [])

-- how many rows an answer would lose without a statement, and how many it would gain; where it would be the same there is no line
abbrev pub cause_lines : ℕ × ℕ → List Signed → List (List ℕ)
cause_lines statement [] = []
cause_lines statement (line ∷ lines) =
    concat (statement_text statement ∷ codes " -" ∷ decimal (length (removed_rows (line ∷ lines))) ∷ codes " +" ∷ decimal (length (added_rows (line ∷ lines))) ∷ []) ∷ []

-- given the answer, and the one without the statement, or what the question would be refused for
abbrev pub cause_of : List (List Cell) → ℕ × ℕ → Result (List (List Cell)) Refusal → List (List ℕ)
cause_of rows statement (Ok others) = cause_lines statement (delta rows others)
cause_of rows statement (Err refusal) = concat (statement_text statement ∷ codes " : " ∷ refusal_text refusal ∷ []) ∷ []

-- ---- what refuses a side, whatever the rows are

abbrev pub refusal_on : Result (List Entry) Refusal → y.Subject → y.Query → Option Refusal
refusal_on (Err refusal) subject query = Some refusal
refusal_on (Ok entries) subject query = asking_refusal entries subject query

abbrev pub side_refusal : List Entry → y.Side → y.Query → Option Refusal
side_refusal entries (y.as_is subject) query = asking_refusal entries subject query
side_refusal entries (y.changed changes subject) query = refusal_on (changed_log parameters entries changes) subject query

-- one is of the history, and the other of a changed one
abbrev pub are_mixed : y.Side → y.Side → Bool
are_mixed (y.as_is subject) (y.changed changes other) = true
are_mixed (y.changed changes subject) (y.as_is other) = true
are_mixed first second = false

-- given why the rows of the history are not those that its log makes, if they are not
abbrev pub mixed_refusal : Option Refusal → List Entry → y.Side → y.Side → y.Query → Option Refusal
mixed_refusal unmade entries first second query =
    if are_mixed first second then option_or (side_refusal entries first query) (option_or (side_refusal entries second query) unmade) else None

-- ---- by the answers to questions about a log, and to those with changes

module _ (asks : y.Subject → y.Query → Answered) (changes : List y.LogChange → y.Subject → y.Query → Answered) where
  -- the answer to the question of a side
  abbrev pub side_answer : y.Side → y.Query → Answered
  side_answer (y.as_is subject) query = asks subject query
  side_answer (y.changed log_changes subject) query = changes log_changes subject query

  -- the first answer is refused first
  abbrev pub diff_answer : Option Refusal → List Entry → y.Side → y.Side → y.Query → Answered
  diff_answer unmade entries first second query =
      unless_refused (mixed_refusal unmade entries first second query)
      (or_refused (λ rows. or_refused (λ others. diff_lines (delta rows others)) (rows_in (side_answer second query))) (rows_in (side_answer first query)))

  -- the answer, and the one without each statement
  abbrev pub causes_answer : Option Refusal → List Entry → y.Subject → y.Query → Answered
  causes_answer unmade entries subject query =
      unless_refused (option_or (asking_refusal entries subject query) unmade)
      (or_refused (λ rows. Lines Causes (flat_map (λ statement. cause_of rows statement (rows_in (changes (y.drop statement.0 statement.1 ∷ []) subject query))) (written_by entries entries)))
      (rows_in (asks subject query)))
