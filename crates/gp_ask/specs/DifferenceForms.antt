-- Machinery: differences, and the lines of statements that an answer depends on, as contracts and lemmas speak of them.
use Rattle.std.specs.Prelude.{ℕ, Bool, if◌then◌else◌, List, [], ◌∷◌, Result, codes}
use Rattle.std.specs.Fmt.{decimal}
use Rattle.std.specs.List.{concat, flat_map}
use Rattle.gp_base.specs.declared.cell.Cell.{Cell}
use Rattle.gp_base.specs.declared.refusal.Refusal.{Refusal}
use Rattle.gp_base.specs.Refusals.{refusal_text}
use Rattle.gp_grammar.specs.Syntax as y
use Rattle.gp_machine.specs.Entries.{Entry}
use Rattle.gp_dump.specs.Dumps.{Dump}
use Rattle.gp_ask.specs.declared.answered.Answered.{Answered}
use Rattle.gp_ask.specs.declared.answered.Answered.TheVariants.{Lines}
use Rattle.gp_ask.specs.declared.answered.Heading.TheVariants.{Causes}
use Rattle.gp_ask.specs.Deltas.{delta}
use Rattle.gp_ask.specs.Differences.{cause_of, diff_lines, rows_in, statement_text, written_by}
use Rattle.gp_ask.specs.Hypothetical.{replayed_dump}
use Rattle.gp_ask.specs.Printed.{query_to}
use Rattle.gp_ask.specs.Values.{or_refused}

-- the first answer is refused first
abbrev pub diff_of : Result (List (List Cell)) Refusal → Result (List (List Cell)) Refusal → Answered
diff_of first second = or_refused (λ rows. or_refused (λ others. diff_lines (delta rows others)) second) first

-- by what answers the question of a side
abbrev pub sides_of : (y.Side → y.Query → Answered) → y.Side → y.Side → y.Query → Answered
sides_of answers first second query = diff_of (rows_in (answers first query)) (rows_in (answers second query))

-- what answers a question about the history: beside a changed one, the dump that its log makes
abbrev pub history_of : Bool → Dump → y.Subject → y.Query → Answered
history_of mixed dump = if mixed then query_to (replayed_dump dump.entries) else query_to dump

-- ---- the statements that an answer depends on

abbrev pub committed_writes : List Entry → List (ℕ × ℕ)
committed_writes entries = written_by entries entries

-- how many rows an answer would lose without a statement, and how many it would gain
abbrev pub sizes_text : ℕ × ℕ → ℕ → ℕ → List ℕ
sizes_text statement lost gained = concat (statement_text statement ∷ codes " -" ∷ decimal lost ∷ codes " +" ∷ decimal gained ∷ [])

-- what the question would be refused for without it
abbrev pub refused_text : ℕ × ℕ → Refusal → List ℕ
refused_text statement refusal = concat (statement_text statement ∷ codes " : " ∷ refusal_text refusal ∷ [])

-- given the answers without each of these statements
abbrev pub all_cause_lines : (ℕ × ℕ → Answered) → List (ℕ × ℕ) → List (List Cell) → List (List ℕ)
all_cause_lines without statements rows = flat_map (λ statement. cause_of rows statement (rows_in (without statement))) statements

abbrev pub causes_of : (ℕ × ℕ → Answered) → List (ℕ × ℕ) → Result (List (List Cell)) Refusal → Answered
causes_of without statements found = or_refused (λ rows. Lines Causes (all_cause_lines without statements rows)) found

-- the answer without a statement
abbrev pub without_in : (List y.LogChange → y.Subject → y.Query → Answered) → y.Subject → y.Query → ℕ × ℕ → Answered
without_in changes subject query statement = changes (y.drop statement.0 statement.1 ∷ []) subject query
