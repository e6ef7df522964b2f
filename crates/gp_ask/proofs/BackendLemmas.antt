-- Answers over a backend, and over the executor.
use Rattle.std.proofs.Common.{◌≡◌, ℕ, true, false, List, refl, ap, ◌∙◌, Option, Some, None, Result, Ok, Err}
use Rattle.gp_base.specs.declared.cell.Cell.{Cell}
use Rattle.gp_base.specs.declared.refusal.Refusal.{Refusal}
use Rattle.gp_base.specs.declared.refusal.Refusal.TheVariants.{E25, E26, E27}
use Rattle.gp_base.specs.Annotated.{unannotated}
use Rattle.gp_base.specs.Order.{row_cmp, sorted_by}
use Rattle.gp_grammar.specs.Syntax as y
use Rattle.gp_algebra.specs.Answers.{Element}
use Rattle.gp_algebra.specs.Fitting.{select_fits}
use Rattle.gp_algebra.specs.Plain.{PlainEnvironment, PlainProgram}
use Rattle.gp_algebra.specs.Statements.{Select}
use Rattle.gp_exec.specs.Backends.{Executes, Given}
use Rattle.gp_exec.specs.declared.error.ExecStop.{ExecStop}
use Rattle.gp_exec.specs.declared.error.ExecStop.TheVariants as exec
use Rattle.gp_log.specs.Parameters.{parameters}
use Rattle.gp_log.specs.LogFacts.{tables_in}
use Rattle.gp_log.specs.LogFitting.{SpansFit, statements_fit}
use Rattle.gp_machine.specs.Entries.{Entry}
use Rattle.gp_machine.specs.HistorySpans as machine
use Rattle.gp_machine.specs.Questions.{log_refusal, rows_answer}
use Rattle.gp_reenact.specs.Encoding.{encoded}
use Rattle.gp_reenact.specs.Travel as travels
use Rattle.gp_versions.specs.declared.span.Span.{Span}
use Rattle.gp_versions.specs.Spans.{Versions}
use Rattle.gp_reenact.specs.Backends.{IsGivenOver, RefusedBy}
use Rattle.gp_base.specs.declared.stop.Stop.TheVariants as stop
use Rattle.gp_reenact.specs.Reenacting.{RunsOver, spans_of, stopped, transaction_at}
use Rattle.gp_reenact.specs.Programs.{merged_at}
use Rattle.gp_reenact.proofs.BackendLemmas.{runs_over_same}
use Rattle.gp_reenact.proofs.ReplayLemmas.{Replays, found_is, planned_replays, stop_is}
use Rattle.gp_dump.specs.Views.{tables_view}
use Rattle.gp_ask.specs.declared.answered.Answered.{Answered}
use Rattle.gp_ask.specs.declared.answered.Answered.TheVariants.{Refused, Rows}
use Rattle.gp_ask.specs.Asking.{of_elements, query_answer, table_spans}
use Rattle.gp_ask.specs.Backends.{AnswersQuery, IsAnswered, Shows}
use Rattle.gp_ask.proofs.ReenactedLemmas.{dump-spans, in-order, refused}

-- the rows of past versions, of the code and of its dump
pub past_is : (versions : List Versions) → encoded (travels.past_environment unannotated versions) ≡ encoded (machine.as_of unannotated (table_spans (tables_view versions)))
past_is versions = ap (λ (spans : ℕ → List Span). encoded (machine.as_of unannotated spans)) (dump-spans versions)

-- ---- over any backend

module _ (gives : PlainProgram → PlainEnvironment → Given → Type 0) (t : ℕ) (program : PlainProgram) (past : PlainEnvironment) where
  pub found_is_answered : (rows : List (List Cell)) → IsGivenOver gives program past (Ok rows) → IsAnswered gives t program past (Rows (sorted_by row_cmp rows))
  found_is_answered rows given = record { answer = Ok rows; given = given; shown = refl }

  shown_stop : (refusal : Refusal) (s : ExecStop) → stop.Refused refusal ≡ stopped t s → Shows t (Err s) (Refused refusal)
  shown_stop refusal (exec.Rows j) is = cc
  shown_stop refusal (exec.Ancestry j) is = cc
  shown_stop refusal exec.Answer is = cc
  shown_stop refusal exec.NoMemory is = absurd (cc)

  pub refusal_is_answered : (refusal : Refusal) (expected : Option Refusal) → expected ≡ None → RefusedBy gives refusal expected t program past → IsAnswered gives t program past (Refused refusal)
  refusal_is_answered refusal None known by = record { answer = Err by.stop; given = by.given; shown = shown_stop refusal by.stop by.is }
  refusal_is_answered refusal (Some expected) known by = absurd (cc)

-- ---- over the executor

module _ (entries : List Entry) (versions : List Versions) (point : y.Point) (select : Select) (known : log_refusal entries point ≡ None)
    (fit : statements_fit (tables_in entries) entries ≡ true) (spans_fit : SpansFit (tables_in entries) (spans_of versions)) (fits : select_fits (tables_in entries) select ≡ true) where
  abbrev program : PlainProgram
  program = merged_at false entries point select

  abbrev past : PlainEnvironment
  past = encoded (travels.past_environment unannotated versions)

  abbrev expected : Result (List (Element (Unit {0}))) Refusal
  expected = rows_answer parameters entries (spans_of versions) point select

  abbrev own : List (List Cell) → List (List Cell)
  own rows = rows

  replays : Replays entries versions point select program
  replays = planned_replays entries versions select fit spans_fit fits point program refl known

  shown_is : (answer : Given) (answered : Answered) → RunsOver own answer past program → Shows (transaction_at point) answer answered → answered ≡ of_elements expected
  shown_is (Ok rows) answered runs shown = shown ∙ in-order own rows expected (found_is own entries versions point select program replays rows runs)
  shown_is (Err (exec.Rows j)) answered runs shown =
      shown ∙ refused own (E25 (transaction_at point) j) expected (stop_is own entries versions point select program replays (exec.Rows j) runs)
  shown_is (Err (exec.Ancestry j)) answered runs shown =
      shown ∙ refused own (E26 (transaction_at point) j) expected (stop_is own entries versions point select program replays (exec.Ancestry j) runs)
  shown_is (Err exec.Answer) answered runs shown = shown ∙ refused own E27 expected (stop_is own entries versions point select program replays exec.Answer runs)
  shown_is (Err exec.NoMemory) answered runs shown = absurd shown

  pub answered_is : (answered : Answered) → IsAnswered Executes (transaction_at point) program past answered → answered ≡ of_elements expected
  answered_is answered by = shown_is by.answer answered (runs_over_same program past by.answer by.given) by.shown

-- a query is refused as it is, or answered as by the run of its transaction
module _ (entries : List Entry) (versions : List Versions) (point : y.Point) (fit : statements_fit (tables_in entries) entries ≡ true)
    (spans_fit : SpansFit (tables_in entries) (spans_of versions)) where
  pub executed_answers : (expected : Option Refusal) (checked : Result Select Refusal) (answered : Answered) → log_refusal entries point ≡ expected
      → AnswersQuery Executes (tables_in entries) (transaction_at point) (merged_at false entries point) (encoded (travels.past_environment unannotated versions)) expected checked answered
      → answered ≡ query_answer (λ select. of_elements (rows_answer parameters entries (spans_of versions) point select)) expected checked
  executed_answers (Some refusal) checked answered known by = by
  executed_answers None (Err refusal) answered known by = by
  executed_answers None (Ok select) answered known by = answered_is entries versions point select known fit spans_fit by.0 answered by.1
