-- A question about the history that would have been gets from a dump the answer of that history.
use Rattle.std.proofs.Common.{◌≡◌, ◌≤◌, ℕ, cond, List, [], length, Option, Some, None, Result, Ok, Err, refl, sym, ap, ◌∙◌}
use Rattle.std.specs.List.Sorted.{IsPermutation}
use Rattle.std.specs.Option.{option_map}
use Rattle.gp_base.specs.declared.refusal.Refusal.{Refusal}
use Rattle.gp_base.specs.Annotated.{monomials, unannotated}
use Rattle.gp_grammar.specs.Syntax as y
use Rattle.gp_versions.specs.declared.span.Span.{Span}
use Rattle.gp_log.specs.LogFacts.{tables_in}
use Rattle.gp_machine.specs.Entries.{Entry, log_of, versions_in}
use Rattle.gp_machine.specs.Replayed.{replayed_state}
use Rattle.gp_machine.specs.Replaying.{ReplayStop}
use Rattle.gp_machine.specs.ReplayForms.{replayed_spans}
use Rattle.gp_whatif.specs.Replays.{stop_upto}
use Rattle.gp_dump.specs.Dumps.{Dump}
use Rattle.gp_ask.specs.declared.answered.Answered.{Answered}
use Rattle.gp_ask.specs.Made.{unmade_refusal}
use Rattle.gp_ask.specs.Printed.{answer_to, changed_answer, query_held, query_to, remade_answer, what_if_held}
use Rattle.gp_ask.specs.Computed.{computed_answer, what_if_answer}
use Rattle.gp_ask.specs.Asking.{table_spans}
use Rattle.gp_ask.specs.Differences.{are_mixed}
use Rattle.gp_ask.specs.Hypothetical.{asking_refusal, remaking_refusal, replay_refusal, replayed_dump}
use Rattle.gp_ask.specs.Values.{unless_refused}
use Rattle.gp_ask.specs.Replays.{dump_in}
use Rattle.gp_ask.proofs.DifferenceLemmas.{causes-same, diff-same}
use Rattle.gp_ask.proofs.SpanLemmas.{dumped}

-- what the history answers, from any dump of the log and of its row versions
abbrev pub AnswersAny : List Entry → Type 0
AnswersAny entries = (tables : List (List Span))
    → ((place : ℕ) → IsPermutation (table_spans tables place) (replayed_spans unannotated (log_of entries) (length (tables_in entries)) (versions_in entries) place))
    → (subject : y.Subject) (query : y.Query)
    → query_to (dump_in entries tables) subject query ≡ query_held (replayed_state monomials (tables_in entries) entries) subject query

module _ (entries : List Entry) (beyond : (place : ℕ) → length (tables_in entries) ≤ place → replayed_spans unannotated (log_of entries) (length (tables_in entries)) (versions_in entries) place ≡ []) where
  -- so from the dump in order
  pub ordered : AnswersAny entries → (subject : y.Subject) (query : y.Query)
      → query_to (replayed_dump entries) subject query ≡ query_held (replayed_state monomials (tables_in entries) entries) subject query
  ordered any subject query = any (replayed_dump entries).tables (dumped (replayed_state unannotated (tables_in entries) entries) beyond) subject query

  -- and from each dump as from that one
  pub any-order : AnswersAny entries → (tables : List (List Span))
      → ((place : ℕ) → IsPermutation (table_spans tables place) (replayed_spans unannotated (log_of entries) (length (tables_in entries)) (versions_in entries) place))
      → (subject : y.Subject) (query : y.Query) → query_to (dump_in entries tables) subject query ≡ query_to (replayed_dump entries) subject query
  any-order any tables are subject query = any tables are subject query ∙ sym (ordered any subject query)

module _ (entries : List Entry) (beyond : (place : ℕ) → length (tables_in entries) ≤ place → replayed_spans unannotated (log_of entries) (length (tables_in entries)) (versions_in entries) place ≡ [])
    (any : stop_upto entries (versions_in entries) ≡ None → AnswersAny entries) where
  -- the answers agree unless a commit stops
  unless-stopped : (one other : Answered) → (stop_upto entries (versions_in entries) ≡ None → one ≡ other)
      → unless_refused (remaking_refusal entries) one ≡ unless_refused (remaking_refusal entries) other
  unless-stopped one other same = by (stop_upto entries (versions_in entries)) refl
    where
      by : (stop : Option ReplayStop) → stop_upto entries (versions_in entries) ≡ stop
          → unless_refused (option_map (replay_refusal entries) stop) one ≡ unless_refused (option_map (replay_refusal entries) stop) other
      by None none = same none
      by (Some stop) is = refl

  by-rows : (subject : y.Subject) (query : y.Query)
      → unless_refused (asking_refusal entries subject query)
      (unless_refused (remaking_refusal entries) (query_to (replayed_dump entries) subject query))
      ≡ unless_refused (asking_refusal entries subject query)
      (unless_refused (remaking_refusal entries) (query_held (replayed_state monomials (tables_in entries) entries) subject query))
  by-rows subject query =
      ap (unless_refused (asking_refusal entries subject query))
      (unless-stopped (query_to (replayed_dump entries) subject query) (query_held (replayed_state monomials (tables_in entries) entries) subject query)
      (λ none. ordered entries beyond (any none) subject query))

  pub remade : (subject : y.Subject) (query : y.Query)
      → remade_answer (query_to (replayed_dump entries)) entries subject query
      ≡ remade_answer (query_held (replayed_state monomials (tables_in entries) entries)) entries subject query
  remade (y.of_state (y.explain prov) point) query = refl
  remade (y.of_state y.rows point) query = by-rows (y.of_state y.rows point) query
  remade (y.of_state y.provenance point) query = by-rows (y.of_state y.provenance point) query
  remade (y.of_state (y.value name rules other) point) query = by-rows (y.of_state (y.value name rules other) point) query
  remade (y.of_state (y.without patterns) point) query = by-rows (y.of_state (y.without patterns) point) query
  remade (y.saw t k) query = by-rows (y.saw t k) query

pub changed-same : (found : Result (List Entry) Refusal) (subject : y.Subject) (query : y.Query)
    → ((entries : List Entry) → found ≡ Ok entries
    → remade_answer (query_to (replayed_dump entries)) entries subject query ≡ remade_answer (query_held (replayed_state monomials (tables_in entries) entries)) entries subject query)
    → changed_answer (λ own. query_to (replayed_dump own)) found subject query
    ≡ changed_answer (λ own. query_held (replayed_state monomials (tables_in own) own)) found subject query
changed-same (Err refusal) subject query same = refl
changed-same (Ok entries) subject query same = same entries refl

-- questions without a change are answered from the dump itself
pub remade-same : (dump : Dump)
    → ((own : List y.LogChange) (subject : y.Subject) (query : y.Query) → what_if_answer dump.entries own subject query ≡ what_if_held dump.entries own subject query)
    → (question : y.Question) → computed_answer dump question ≡ answer_to dump question
remade-same dump changes (y.bare question) = refl
remade-same dump changes (y.history name cond) = refl
remade-same dump changes (y.when query) = refl
remade-same dump changes (y.diff first second query) =
    diff-same (cond (are_mixed first second) (query_to (replayed_dump dump.entries)) (query_to dump)) (cond (are_mixed first second) (query_to (replayed_dump dump.entries)) (query_to dump)) (what_if_answer dump.entries) (what_if_held dump.entries) (λ subject own. refl) changes (unmade_refusal dump) (unmade_refusal dump) refl dump.entries
    first second query
remade-same dump changes (y.causes subject query) =
    causes-same (query_to (replayed_dump dump.entries)) (query_to (replayed_dump dump.entries)) (what_if_answer dump.entries) (what_if_held dump.entries) (λ other own. refl) changes (unmade_refusal dump) (unmade_refusal dump) refl dump.entries
    subject query
remade-same dump changes (y.ask subject query) = refl
remade-same dump changes (y.what_if own subject query) = changes own subject query
remade-same dump changes (y.explain_saw t k query) = refl
