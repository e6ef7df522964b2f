-- What any transaction saw in the history that commits made again lead to, as a dump of that history answers.
use Rattle.std.proofs.Common.{◌≡◌, ℕ, ◌≤◌, List, map, Option, Some, None, refl, sym, ap, ◌∙◌}
use Rattle.std.specs.Option.{option_map, option_or}
use Rattle.gp_base.proofs.Bags.{SameBag, same_from, through}
use Rattle.gp_base.specs.declared.refusal.Refusal.{Refusal}
use Rattle.gp_base.specs.Annotated.{monomials, unannotated}
use Rattle.gp_base.specs.Tokens.{Monomial}
use Rattle.gp_grammar.specs.Syntax as y
use Rattle.gp_algebra.proofs.Erasure.{answer_reannotated}
use Rattle.gp_algebra.proofs.StepBags.{SameTables, answer_same}
use Rattle.gp_algebra.specs.Answers.{Element, answer}
use Rattle.gp_algebra.specs.Reannotation.{element_reannotated, forgotten}
use Rattle.gp_algebra.specs.Statements.{Select}
use Rattle.gp_check.specs.Checking.{checked_query}
use Rattle.gp_dump.specs.Dumps.{Dump}
use Rattle.gp_log.specs.LogFacts.{tables_in}
use Rattle.gp_log.specs.Parameters.{parameters}
use Rattle.gp_machine.proofs.LogLemmas.{versions_le}
use Rattle.gp_machine.proofs.PointReannotation.{forgotten_keeps, run_reannotated, run_stop_reannotated}
use Rattle.gp_machine.proofs.RunBags.{run_same, run_stop_same}
use Rattle.gp_machine.proofs.Simulation.{versions_held}
use Rattle.gp_machine.specs.Entries.{Entry, log_of, statement_version, versions_in}
use Rattle.gp_machine.specs.HistorySpans.{as_of, state_spans}
use Rattle.gp_machine.specs.Points.{RunStop, run_stop}
use Rattle.gp_machine.specs.Questions.{answer_refusal, given, stop_refusal}
use Rattle.gp_machine.specs.Replayed.{replayed_state}
use Rattle.gp_machine.specs.Runs.{run}
use Rattle.gp_machine.specs.State.{State}
use Rattle.gp_machine.specs.Unstopped.{IsUnstopped}
use Rattle.gp_versions.specs.declared.span.Span.{Span}
use Rattle.gp_ask.specs.Asking.{of_elements, query_answer, table_spans}
use Rattle.gp_ask.specs.Printed.{answer_to, held_to}
use Rattle.gp_ask.specs.Replays.{dump_in}
use Rattle.gp_ask.specs.Seeing.{dump_saw, history_saw, seen_refusal}
use Rattle.gp_ask.proofs.HeldLemmas.{forgetting, same-rows}
use Rattle.gp_ask.proofs.QueryLemmas.{query-same}
use Rattle.gp_ask.proofs.SeenLemmas.{answered-alike}

module _ (entries : List Entry) (unstopped : IsUnstopped unannotated parameters (forgetting (replayed_state monomials (tables_in entries) entries))) (tables : List (List Span))
    (are : (place : ℕ) → SameBag (table_spans tables place) (state_spans (forgetting (replayed_state monomials (tables_in entries) entries)) place)) where
  abbrev state : State Monomial
  state = replayed_state monomials (tables_in entries) entries

  abbrev plain : State (Unit {0})
  plain = forgetting state

  abbrev dump : Dump
  dump = dump_in entries tables

  abbrev spans : ℕ → List Span
  spans = table_spans tables

  module _ (t k : ℕ) where
    -- what its statements read
    reads : (j : ℕ) → j ≤ k → SameTables (as_of unannotated spans (statement_version t j entries)) (plain.committed (statement_version t j entries))
    reads j within =
        versions_held unannotated (log_of entries) plain.committed plain.written unstopped.history spans are (statement_version t j entries) (versions_le t j entries)

    stops : run_stop unannotated parameters (log_of entries) t k (as_of unannotated spans) ≡ run_stop monomials parameters (log_of entries) t k state.committed
    stops =
        run_stop_same unannotated parameters (log_of entries) t k (as_of unannotated spans) plain.committed reads
        ∙ run_stop_reannotated monomials unannotated forgotten (forgotten_keeps monomials) state.committed plain.committed (λ version table. refl) parameters (log_of entries) t k

    module _ (select : Select) where
      abbrev elements : List (Element Monomial)
      elements = answer monomials select (state.views t k)

      abbrev found : List (Element (Unit {0}))
      found = answer unannotated select (run unannotated (log_of entries) t k (as_of unannotated spans))

      abbrev others : List (Element (Unit {0}))
      others = map (element_reannotated forgotten) elements

      moved : SameBag found others
      moved =
          through
          (answer_same unannotated select _ _ (run_same unannotated (log_of entries) t k (as_of unannotated spans) plain.committed reads))
          (same_from _ _ (answer_reannotated monomials unannotated forgotten (forgotten_keeps monomials) select (run monomials (log_of entries) t k state.committed) (run unannotated (log_of entries) t k plain.committed) (run_reannotated monomials unannotated forgotten (forgotten_keeps monomials) state.committed plain.committed (λ version table. refl) (log_of entries) t k)))

      by-stop : (stop : Option RunStop) → run_stop unannotated parameters (log_of entries) t k (as_of unannotated spans) ≡ stop → seen_refusal t k entries ≡ None
          → dump_saw dump t k select ≡ history_saw state t k select
      by-stop None is none =
          answered-alike found others moved (seen_refusal t k entries) (run_stop unannotated parameters (log_of entries) t k (as_of unannotated spans)) none is
          ∙ same-rows None elements
          ∙ ap (λ (own : Option RunStop). of_elements (given (option_or (option_map stop_refusal own) (answer_refusal monomials parameters elements)) elements)) (sym (sym stops ∙ is))
      by-stop (Some stop) is none =
          ap
          (λ (own : Option Refusal). of_elements (given (option_or own (option_or (option_map stop_refusal (run_stop unannotated parameters (log_of entries) t k (as_of unannotated spans))) (answer_refusal unannotated parameters found))) found))
          none
          ∙ ap (λ (own : Option RunStop). of_elements (given (option_or (option_map stop_refusal own) (answer_refusal unannotated parameters found)) found)) is
          ∙ ap (λ (own : Option RunStop). of_elements (given (option_or (option_map stop_refusal own) (answer_refusal monomials parameters elements)) elements)) (sym (sym stops ∙ is))

    pub replay-sees : (query : y.Query) → answer_to dump (y.ask (y.saw t k) query) ≡ held_to state (y.ask (y.saw t k) query)
    replay-sees query = by (seen_refusal t k entries) refl
      where
        by : (refusal : Option Refusal) → seen_refusal t k entries ≡ refusal
            → query_answer (dump_saw dump t k) refusal (checked_query (tables_in entries) query) ≡ query_answer (history_saw state t k) refusal (checked_query (tables_in entries) query)
        by None none = query-same (dump_saw dump t k) (history_saw state t k) (λ select. by-stop select _ refl none) None (checked_query (tables_in entries) query)
        by (Some refusal) is = refl

-- whatever a query is asked of
module _ (dump : Dump) (state : State Monomial)
    (states : (how : y.How) (point : y.Point) (query : y.Query) → answer_to dump (y.ask (y.of_state how point) query) ≡ held_to state (y.ask (y.of_state how point) query))
    (sees : (t k : ℕ) (query : y.Query) → answer_to dump (y.ask (y.saw t k) query) ≡ held_to state (y.ask (y.saw t k) query)) where
  pub of-each : (subject : y.Subject) (query : y.Query) → answer_to dump (y.ask subject query) ≡ held_to state (y.ask subject query)
  of-each (y.of_state how point) query = states how point query
  of-each (y.saw t k) query = sees t k query
