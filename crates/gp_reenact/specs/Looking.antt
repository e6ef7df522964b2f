-- Of the contract of `looked`: the answer to a question about what any transaction saw, whatever became of it, over the log and the row versions; and what one
-- that looks at a statement is refused.
use Rattle.std.specs.Prelude.{ℕ, suc, List, Option, None, Result}
use Rattle.gp_base.specs.declared.refusal.Refusal.{Refusal}
use Rattle.gp_base.specs.Annotated.{unannotated}
use Rattle.gp_algebra.specs.Answers.{Element}
use Rattle.gp_algebra.specs.Statements.{Select, Statement}
use Rattle.gp_compose.specs.Seen.{saw_refusal}
use Rattle.gp_grammar.specs.Syntax as y
use Rattle.gp_machine.specs.Entries.{Entry}
use Rattle.gp_machine.specs.HistorySpans.{as_of}
use Rattle.gp_machine.specs.Parameters.{Parameters}
use Rattle.gp_machine.specs.Questions.{answer_over, own_stop}
use Rattle.gp_versions.specs.declared.span.Span.{Span}

-- a query over what the transaction saw after its first statements
abbrev pub saw_answer : Parameters → List Entry → (ℕ → List Span) → ℕ → ℕ → Select → Result (List (Element (Unit {0}))) Refusal
saw_answer parameters entries spans t k query =
    answer_over unannotated parameters (saw_refusal t k entries) None entries (as_of unannotated spans) (y.after t k) query

-- statement k + 1 of a transaction, or one before it, passes a limit
abbrev pub looked_refusal : Parameters → List Entry → (ℕ → List Span) → ℕ → ℕ → Statement → Option Refusal
looked_refusal parameters entries spans t k statement = own_stop unannotated parameters entries (y.after t (suc k)) (as_of unannotated spans)
