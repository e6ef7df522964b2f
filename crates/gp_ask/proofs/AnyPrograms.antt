-- Whatever programs answer explained questions, a dump answers as the history held it where it does with those that are printed.
use Rattle.std.proofs.Common.{◌≡◌, Bool, true, false, cond, List, None, ap, ◌∙◌}
use Rattle.gp_base.specs.Tokens.{Monomial}
use Rattle.gp_grammar.specs.Syntax as y
use Rattle.gp_algebra.specs.Statements.{Select}
use Rattle.gp_check.specs.Checking.{checked_query}
use Rattle.gp_log.specs.LogFacts.{tables_in}
use Rattle.gp_machine.specs.Entries.{Entry}
use Rattle.gp_machine.specs.Questions.{log_refusal}
use Rattle.gp_machine.specs.State.{State}
use Rattle.gp_dump.specs.Dumps.{Dump}
use Rattle.gp_ask.specs.declared.answered.Answered.TheVariants.{Program}
use Rattle.gp_ask.specs.Answers as answers
use Rattle.gp_ask.specs.Asking.{Programs, query_answer}
use Rattle.gp_ask.specs.Differences.{are_mixed, causes_answer, diff_answer}
use Rattle.gp_ask.specs.Hypothetical as hypothetical
use Rattle.gp_ask.specs.Hypothetical.{replayed_dump}
use Rattle.gp_ask.specs.Intervals.{when_answer}
use Rattle.gp_ask.specs.Made.{unmade_refusal}
use Rattle.gp_ask.specs.Printed.{answer_to, held_to}
use Rattle.gp_ask.specs.Seeing.{seen_refusal}
use Rattle.gp_ask.specs.Subjects as subjects
use Rattle.gp_ask.proofs.DifferenceLemmas.{causes-same, diff-same}
use Rattle.gp_ask.proofs.IntervalLemmas.{when-same}

module _ (programs : Programs) (dump : Dump) (state : State Monomial) (log : dump.entries ≡ state.entries) (catalogue : tables_in state.entries ≡ state.catalogue)
    (made : unmade_refusal dump ≡ None) (remade : replayed_dump dump.entries ≡ dump) (same : (question : y.Question) → answer_to dump question ≡ held_to state question) where
  asked-any : (subject : y.Subject) (query : y.Query) → subjects.query_to programs dump subject query ≡ subjects.query_held programs state subject query
  asked-any (y.of_state y.rows point) query = same (y.ask (y.of_state y.rows point) query)
  asked-any (y.of_state y.provenance point) query = same (y.ask (y.of_state y.provenance point) query)
  asked-any (y.of_state (y.explain prov) point) query =
      λ i. query_answer (λ (select : Select). Program (programs (log i) prov point select)) (log_refusal (log i) point) (checked_query ((ap tables_in log ∙ catalogue) i) query)
  asked-any (y.of_state (y.value name rules other) point) query = same (y.ask (y.of_state (y.value name rules other) point) query)
  asked-any (y.of_state (y.without patterns) point) query = same (y.ask (y.of_state (y.without patterns) point) query)
  asked-any (y.saw t k) query = same (y.ask (y.saw t k) query)

  remade-any : (subject : y.Subject) (query : y.Query) → subjects.query_to programs (replayed_dump dump.entries) subject query ≡ subjects.query_held programs state subject query
  remade-any subject query = ap (λ (own : Dump). subjects.query_to programs own subject query) remade ∙ asked-any subject query

  beside-any : (mixed : Bool) (subject : y.Subject) (query : y.Query)
      → cond mixed (subjects.query_to programs (replayed_dump dump.entries)) (subjects.query_to programs dump) subject query
      ≡ cond mixed (subjects.query_held programs state) (subjects.query_held programs state) subject query
  beside-any true = remade-any
  beside-any false = asked-any

  changed-any : (changes : List y.LogChange) (subject : y.Subject) (query : y.Query)
      → hypothetical.what_if_held programs dump.entries changes subject query ≡ hypothetical.what_if_held programs state.entries changes subject query
  changed-any changes subject query = ap (λ (entries : List Entry). hypothetical.what_if_held programs entries changes subject query) log

  pub any-held : (question : y.Question) → answers.answer_to programs dump question ≡ answers.held_to programs state question
  any-held (y.bare question) = same (y.bare question)
  any-held (y.history name cond) = same (y.history name cond)
  any-held (y.when query) =
      when-same _ _ asked-any dump.entries query ∙ ap (λ (entries : List Entry). when_answer (subjects.query_held programs state) entries query) log
  any-held (y.diff first second query) =
      diff-same _ _ _ _ (beside-any (are_mixed first second)) changed-any _ _ made dump.entries first second query
      ∙ ap (λ (entries : List Entry). diff_answer (cond (are_mixed first second) (subjects.query_held programs state) (subjects.query_held programs state)) (hypothetical.what_if_held programs state.entries) None entries first second query) log
  any-held (y.causes subject query) =
      causes-same _ _ _ _ remade-any changed-any _ _ made dump.entries subject query
      ∙ ap (λ (entries : List Entry). causes_answer (subjects.query_held programs state) (hypothetical.what_if_held programs state.entries) None entries subject query) log
  any-held (y.ask subject query) = asked-any subject query
  any-held (y.what_if changes subject query) = changed-any changes subject query
  any-held (y.explain_saw t k query) =
      λ i. query_answer (λ (select : Select). Program (programs (log i) false (y.after t k) select)) (seen_refusal t k (log i)) (checked_query ((ap tables_in log ∙ catalogue) i) query)
