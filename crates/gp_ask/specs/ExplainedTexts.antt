-- Machinery: what an explained question says, by the text that is printed, as contracts of the code speak of it. `Explained` says it of the lines of any programs.
use Rattle.std.specs.Prelude.{Bool, false, List, Option, IfOk}
use Rattle.gp_base.specs.declared.refusal.Refusal.{Refusal}
use Rattle.gp_grammar.specs.Syntax as y
use Rattle.gp_algebra.specs.Statements.{Select}
use Rattle.gp_check.specs.Checking.{checked_query}
use Rattle.gp_explain.specs.Explained.{Explains}
use Rattle.gp_log.specs.Parameters.{parameters}
use Rattle.gp_log.specs.LogFacts.{tables_in}
use Rattle.gp_machine.specs.Entries.{Entry}
use Rattle.gp_machine.specs.Questions.{log_refusal}
use Rattle.gp_whatif.specs.Changed.{changed_log}
use Rattle.gp_ask.specs.Asking.{asked}
use Rattle.gp_ask.specs.Programs.{explained_text}
use Rattle.gp_ask.specs.Seeing.{seen_refusal}

abbrev pub ExplainsAsk : List Entry → Option Refusal → Bool → y.Point → y.Query → Type 0
ExplainsAsk entries refusal prov point query =
    IfOk (asked refusal (checked_query (tables_in entries) query)) (λ (select : Select). Explains entries point select prov (explained_text entries prov point select))

-- by the changed log, unless a change is refused
module _ (entries : List Entry) where
  abbrev pub ExplainsQuestion : y.Question → Type 0
  ExplainsQuestion (y.ask (y.of_state (y.explain prov) point) query) = ExplainsAsk entries (log_refusal entries point) prov point query
  ExplainsQuestion (y.what_if changes (y.of_state (y.explain prov) point) query) =
      IfOk (changed_log parameters entries changes) (λ (changed : List Entry). ExplainsAsk changed (log_refusal changed point) prov point query)
  ExplainsQuestion (y.explain_saw t k query) = ExplainsAsk entries (seen_refusal t k entries) false (y.after t k) query
  ExplainsQuestion question = Unit {0}
