-- Of the contract of `generate`: the summary of `gen`: what the history of a generated script comes to, and what it answers to the generated questions.
use Rattle.std.specs.Prelude.{◌≡◌, ℕ, zero, suc, Bool, true, false, List, [], ◌∷◌, ◌++◌, length, if◌then◌else◌, codes}
use Rattle.std.specs.Fmt.{decimal}
use Rattle.std.specs.List.{sum_by}
use Rattle.gp_base.specs.declared.refusal.Fate.{Fate}
use Rattle.gp_base.specs.declared.refusal.Fate.TheVariants as fate
use Rattle.gp_base.specs.Annotated.{monomials, unannotated}
use Rattle.gp_machine.specs.Entries.{Entry, fate_of, transactions_in, versions_in}
use Rattle.gp_script.specs.History.{IsScript, ReadLine, last_state}
use Rattle.gp_dump.specs.Dumps.{dump_of, spans_in}
use Rattle.gp_ask.specs.declared.answered.Answered.{Answered}
use Rattle.gp_ask.specs.declared.answered.Answered.TheVariants.{Rows, Listed, Values}
use Rattle.gp_ask.specs.Printed.{held_to}
use Rattle.gp_ask.specs.Questions.{AreQuestions, ReadQuestion, answered}
use Rattle.gprom_cli.specs.declared.summary.Summary.{Summary}
use Rattle.gprom_cli.specs.Generated.{Pieces, generated_questions, generated_script, pieces_lines}

-- ---- transactions, by their fates

abbrev pub has_committed : Fate → Bool
has_committed (fate.Committed version) = true
has_committed other = false

abbrev pub is_lost : Fate → Bool
is_lost fate.Lost = true
is_lost other = false

module _ (entries : List Entry) where
  -- the transactions up to this one whose fates pass a test, in order
  abbrev pub with_fate : (Fate → Bool) → ℕ → List ℕ
  with_fate test zero = []
  with_fate test (suc t) = with_fate test t ++ (if test (fate_of (suc t) entries) then suc t ∷ [] else [])

  -- those that committed, and how many were lost
  abbrev pub committed_in : List ℕ
  committed_in = with_fate has_committed (transactions_in entries)

  abbrev pub lost_in : ℕ
  lost_in = length (with_fate is_lost (transactions_in entries))

-- ---- the rows of answers

abbrev pub row_count : Answered → ℕ
row_count (Rows rows) = length rows
row_count (Listed rows) = length rows
row_count (Values rows) = length rows
row_count other = 0

-- ---- the summary

-- the questions about the transactions of a log that committed, and about its last version
abbrev pub questions_about : List Entry → List ℕ
questions_about entries = generated_questions (committed_in entries) (versions_in entries)

-- of a history, and of the questions that it was asked with monomials
abbrev pub summary_for : ℕ → List ReadLine → List ReadQuestion → Summary
summary_for rounds lines questions =
    let dump = dump_of (last_state unannotated lines) in
    record {
      rounds = rounds;
      lines = length lines;
      committed = length (committed_in dump.entries);
      lost = lost_in dump.entries;
      spans = spans_in dump.tables;
      questions = length questions;
      rows = sum_by (λ (line : ReadQuestion). row_count (answered (held_to (last_state monomials lines)) line.1)) questions;
    }

-- of the script of this many rounds
pub record IsSummary (rounds : ℕ) (summary : Summary) : Type 0 where
  pub lines : List ReadLine
  pub are : IsScript (generated_script rounds) lines
  pub questions : List ReadQuestion
  pub asked : AreQuestions (questions_about (last_state unannotated lines).entries) questions
  pub is : summary ≡ summary_for rounds lines questions

-- ---- its text

abbrev pub summary_lines : Summary → List Pieces
summary_lines summary =
    (codes "gen " ∷ decimal summary.rounds ∷ [])
    ∷ (codes "lines " ∷ decimal summary.lines ∷ [])
    ∷ (codes "committed " ∷ decimal summary.committed ∷ [])
    ∷ (codes "lost " ∷ decimal summary.lost ∷ [])
    ∷ (codes "spans " ∷ decimal summary.spans ∷ [])
    ∷ (codes "questions " ∷ decimal summary.questions ∷ [])
    ∷ (codes "rows " ∷ decimal summary.rows ∷ [])
    ∷ []

abbrev pub summary_text : Summary → List ℕ
summary_text summary = pieces_lines (summary_lines summary)
