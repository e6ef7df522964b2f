-- Of the contract of `answer_by`: the answer to a question about rows over a backend. A question is refused first as any other is: its version, transaction or
-- statement is not in the log, or the check of its query. Then what the backend gives for the merged program decides alone.
use Rattle.std.specs.Prelude.{◌≡◌, ℕ, true, false, List, Option, Some, None, Result, Ok, Err}
use Rattle.gp_base.specs.declared.refusal.Refusal.{Refusal}
use Rattle.gp_base.specs.declared.refusal.Refusal.TheVariants.{E25, E26, E27}
use Rattle.gp_base.specs.declared.table.Table.{Table}
use Rattle.gp_base.specs.Annotated.{unannotated}
use Rattle.gp_base.specs.Order.{row_cmp, sorted_by}
use Rattle.gp_grammar.specs.Syntax as y
use Rattle.gp_algebra.specs.Fitting.{select_fits}
use Rattle.gp_algebra.specs.Plain.{PlainEnvironment, PlainProgram}
use Rattle.gp_algebra.specs.Statements.{Select}
use Rattle.gp_check.specs.Checking.{checked_query}
use Rattle.gp_exec.specs.Backends.{Given}
use Rattle.gp_exec.specs.declared.error.ExecStop.TheVariants as exec
use Rattle.gp_log.specs.LogFacts.{tables_in}
use Rattle.gp_machine.specs.HistorySpans.{as_of}
use Rattle.gp_machine.specs.Questions.{log_refusal}
use Rattle.gp_reenact.specs.Encoding.{encoded}
use Rattle.gp_reenact.specs.Backends.{IsGivenOver}
use Rattle.gp_reenact.specs.Reenacting.{transaction_at}
use Rattle.gp_reenact.specs.Programs.{merged_at}
use Rattle.gp_dump.specs.Dumps.{Dump}
use Rattle.gp_ask.specs.declared.answered.Answered.{Answered}
use Rattle.gp_ask.specs.declared.answered.Answered.TheVariants.{Rows, Refused}
use Rattle.gp_ask.specs.Asking.{table_spans}

-- the rows of a dump's past versions, each with its identity and the mark NO
abbrev pub past_of : Dump → PlainEnvironment
past_of dump = encoded (as_of unannotated (table_spans dump.tables))

-- what is given: rows in row order, or the refusal of a stop of transaction t
abbrev pub Shows : ℕ → Given → Answered → Type 0
Shows t (Ok rows) answered = answered ≡ Rows (sorted_by row_cmp rows)
Shows t (Err (exec.Rows k)) answered = answered ≡ Refused (E25 t k)
Shows t (Err (exec.Ancestry k)) answered = answered ≡ Refused (E26 t k)
Shows t (Err exec.Answer) answered = answered ≡ Refused E27
Shows t (Err exec.NoMemory) answered = ⊥

module _ (gives : PlainProgram → PlainEnvironment → Given → Type 0) where
  pub record IsAnswered (t : ℕ) (program : PlainProgram) (past : PlainEnvironment) (answered : Answered) : Type 0 where
    pub answer : Given
    pub given : IsGivenOver gives program past answer
    pub shown : Shows t answer answered

  -- a query that was checked, given its program
  abbrev pub AnswersChecked : List Table → ℕ → (Select → PlainProgram) → PlainEnvironment → Result Select Refusal → Answered → Type 0
  AnswersChecked tables t program past (Err refusal) answered = answered ≡ Refused refusal
  AnswersChecked tables t program past (Ok select) answered = (select_fits tables select ≡ true) × IsAnswered t (program select) past answered

  -- a query, by the refusal of its version or transaction
  abbrev pub AnswersQuery : List Table → ℕ → (Select → PlainProgram) → PlainEnvironment → Option Refusal → Result Select Refusal → Answered → Type 0
  AnswersQuery tables t program past (Some refusal) checked answered = answered ≡ Refused refusal
  AnswersQuery tables t program past None checked answered = AnswersChecked tables t program past checked answered

  -- a question about rows
  abbrev pub AnswersBy : Dump → y.Question → Answered → Type 0
  AnswersBy dump (y.ask (y.of_state y.rows point) query) answered =
      AnswersQuery (tables_in dump.entries) (transaction_at point) (merged_at false dump.entries point) (past_of dump) (log_refusal dump.entries point) (checked_query (tables_in dump.entries) query) answered
  AnswersBy dump question answered = Unit {0}
