-- Machinery: the summary of `gen` as a function, by the parser.
use Rattle.std.specs.Prelude.{ℕ, zero, suc, ◌+◌, List, length, if◌then◌else◌}
use Rattle.std.specs.List.{sum_by}
use Rattle.gp_base.specs.Annotated.{monomials, unannotated}
use Rattle.gp_grammar.specs.Syntax as y
use Rattle.gp_machine.specs.Entries.{Entry, fate_of}
use Rattle.gp_syntax.specs.Lines.{script_lines}
use Rattle.gp_script.specs.Scripts.{final_state}
use Rattle.gp_dump.specs.Dumps.{Dump, dump_of, spans_in}
use Rattle.gp_ask.specs.declared.answered.Answered.{Answered}
use Rattle.gp_ask.specs.Printed.{held_to}
use Rattle.gp_ask.specs.QuestionFiles.{line_answer}
use Rattle.gprom_cli.specs.declared.summary.Summary.{Summary}
use Rattle.gprom_cli.specs.Generated.{generated_script}
use Rattle.gprom_cli.specs.Summary.{committed_in, has_committed, is_lost, lost_in, questions_about, row_count, with_fate}

-- the transactions up to this one that committed, and how many were lost
abbrev pub committed_up_to : List Entry → ℕ → List ℕ
committed_up_to entries = with_fate entries has_committed

abbrev pub lost_up_to : List Entry → ℕ → ℕ
lost_up_to entries zero = zero
lost_up_to entries (suc t) = lost_up_to entries t + (if is_lost (fate_of (suc t) entries) then 1 else 0)

module _ (answers : y.Question → Answered) where
  abbrev pub line_rows : ℕ × List ℕ → ℕ
  line_rows line = row_count (line_answer answers line)

  -- the rows of the answers to a file of questions, all together
  abbrev pub rows_in : List ℕ → ℕ
  rows_in questions = sum_by line_rows (script_lines questions)

-- of a script with the dump of its history, questions, and what answers them
abbrev pub summary_by : ℕ → List ℕ → Dump → (y.Question → Answered) → List ℕ → Summary
summary_by rounds script dump answers questions = record {
  rounds = rounds;
  lines = length (script_lines script);
  committed = length (committed_in dump.entries);
  lost = lost_in dump.entries;
  spans = spans_in dump.tables;
  questions = length (script_lines questions);
  rows = rows_in answers questions;
}

-- a script, its dump, and the answers of its history with monomials
abbrev pub summary_with : ℕ → List ℕ → Summary
summary_with rounds script =
    let dump = dump_of (final_state unannotated script) in
    summary_by rounds script dump (held_to (final_state monomials script)) (questions_about dump.entries)

abbrev pub summary_of : ℕ → Summary
summary_of rounds = summary_with rounds (generated_script rounds)
