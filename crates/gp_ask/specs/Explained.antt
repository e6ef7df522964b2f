-- Part of the statement: what the programs say that answer explained questions: the lines of such an answer are those of the text of one program, which on every
-- database of past versions gives the answer of the query over the state. With changes of the log, it is that of the changed log. So it is for what a
-- transaction saw.
use Rattle.std.specs.Prelude.{ℕ, Bool, false, List, Option, IfOk}
use Rattle.gp_base.specs.declared.refusal.Refusal.{Refusal}
use Rattle.gp_grammar.specs.Syntax as y
use Rattle.gp_algebra.specs.Statements.{Select}
use Rattle.gp_check.specs.Checking.{checked_query}
use Rattle.gp_explain.specs.Explained.{Explains}
use Rattle.gp_explain.specs.LineTexts.{AreLines}
use Rattle.gp_log.specs.Parameters.{parameters}
use Rattle.gp_log.specs.LogFacts.{tables_in}
use Rattle.gp_machine.specs.Entries.{Entry}
use Rattle.gp_machine.specs.Questions.{log_refusal}
use Rattle.gp_whatif.specs.Changed.{changed_log}
use Rattle.gp_ask.specs.Asking.{Programs, asked}
use Rattle.gp_ask.specs.Seeing.{seen_refusal}

-- these are the lines of such a text
abbrev pub AreLinesOf : (List ℕ → Type 0) → List (List ℕ) → Type 0
AreLinesOf Is lines = (text : List ℕ) × AreLines lines text × Is text

module _ (programs : Programs) where
  -- unless the question is refused
  abbrev pub ExplainsAsk : List Entry → Option Refusal → Bool → y.Point → y.Query → Type 0
  ExplainsAsk entries refusal prov point query =
      IfOk (asked refusal (checked_query (tables_in entries) query)) (λ (select : Select). AreLinesOf (Explains entries point select prov) (programs entries prov point select))

  -- by the changed log, unless a change is refused
  abbrev pub ExplainsQuestion : List Entry → y.Question → Type 0
  ExplainsQuestion entries (y.ask (y.of_state (y.explain prov) point) query) = ExplainsAsk entries (log_refusal entries point) prov point query
  ExplainsQuestion entries (y.what_if changes (y.of_state (y.explain prov) point) query) =
      IfOk (changed_log parameters entries changes) (λ (changed : List Entry). ExplainsAsk changed (log_refusal changed point) prov point query)
  ExplainsQuestion entries (y.explain_saw t k query) = ExplainsAsk entries (seen_refusal t k entries) false (y.after t k) query
  ExplainsQuestion entries question = Unit {0}
