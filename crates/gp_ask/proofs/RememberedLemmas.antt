-- What a question about a history with changes is answered over the dump that the changed log makes.
use Rattle.std.proofs.Common.{◌≡◌, ℕ, Bool, List, length, true, false, Option, Some, None, Result, Ok, refl, sym, ap, ◌∙◌, subst}
use Rattle.std.specs.List.Sorted.{IsPermutation}
use Rattle.std.proofs.lemmas.Bool.{false≢true}
use Rattle.gp_base.specs.Annotated.{unannotated}
use Rattle.gp_base.specs.declared.refusal.Refusal.{Refusal}
use Rattle.gp_dump.specs.Answerable.{IsAnswerable}
use Rattle.gp_dump.specs.Dumps.{Dump}
use Rattle.gp_dump.specs.Views.{tables_view}
use Rattle.gp_grammar.specs.Syntax as y
use Rattle.gp_log.specs.LogFacts.{tables_in}
use Rattle.gp_log.specs.Parameters.{parameters}
use Rattle.gp_machine.specs.Entries.{Entry, log_of, versions_in}
use Rattle.gp_machine.specs.ReplayForms.{replayed_spans}
use Rattle.gp_syntax.specs.declared.question.How.{How}
use Rattle.gp_syntax.specs.declared.question.How.TheVariants as how_is
use Rattle.gp_syntax.specs.declared.question.Point.{Point}
use Rattle.gp_syntax.specs.declared.question.Subject.TheVariants as asked_of
use Rattle.gp_syntax.specs.Views.{subject_view}
use Rattle.gp_versions.specs.declared.span.Span.{Span}
use Rattle.gp_versions.specs.Spans.{Versions}
use Rattle.gp_whatif.specs.Changed.{changed_log}
use Rattle.gp_whatif.specs.Replays.{IsMade, IsReplayable, stop_upto}
use Rattle.gp_ask.specs.declared.answered.Answered.{Answered}
use Rattle.gp_ask.specs.Asking.{table_spans}
use Rattle.gp_ask.specs.Computed.{computed_answer, what_if_answer}
use Rattle.gp_ask.specs.ExplainedTexts.{ExplainsQuestion}
use Rattle.gp_ask.specs.Hypothetical.{asking_refusal, remaking_refusal, replayed_dump}
use Rattle.gp_ask.specs.Keeping.{is_explained}
use Rattle.gp_ask.specs.Printed.{query_to, remade_answer}
use Rattle.gp_ask.specs.Replays.{dump_in}
use Rattle.gp_ask.specs.Values.{unless_refused}
use Rattle.gp_ask.proofs.WhatIfLemmas.{changed_is, none_refused, remaking_is, replayed_is}

-- where the question is not explained
pub rows-asked : (how : How) (state : Point) → ((prov : Bool) → how ≡ how_is.Explain prov → ⊥) → false ≡ is_explained (subject_view (asked_of.State how state))
rows-asked how_is.Rows state other = refl
rows-asked how_is.Provenance state other = refl
rows-asked (how_is.Explain prov) state other = absurd (other prov refl)
rows-asked (how_is.Value semiring rules own) state other = refl
rows-asked (how_is.Without rules) state other = refl

-- a log of a dump can be replayed
pub dump-replayable : (dump : Dump) → IsAnswerable dump → IsReplayable dump.entries
dump-replayable dump is = record { sessions = is.sessions; fits = is.statements }

-- by the commits that are made again
remade-rows : (entries : List Entry) (subject : y.Subject) (query : y.Query) → is_explained subject ≡ false
    → remade_answer (query_to (replayed_dump entries)) entries subject query
    ≡ unless_refused (asking_refusal entries subject query) (unless_refused (remaking_refusal entries) (query_to (replayed_dump entries) subject query))
remade-rows entries (y.of_state (y.explain prov) point) query rows = absurd (false≢true (sym rows))
remade-rows entries (y.of_state y.rows point) query rows = refl
remade-rows entries (y.of_state y.provenance point) query rows = refl
remade-rows entries (y.of_state (y.value name rules other) point) query rows = refl
remade-rows entries (y.of_state (y.without patterns) point) query rows = refl
remade-rows entries (y.saw t k) query rows = refl

-- so from the changed log
pub changed-rows : (entries new : List Entry) (changes : List y.LogChange) (subject : y.Subject) (query : y.Query) → is_explained subject ≡ false → changed_log parameters entries changes ≡ Ok new
    → unless_refused (asking_refusal new subject query) (unless_refused (remaking_refusal new) (query_to (replayed_dump new) subject query))
    ≡ what_if_answer entries changes subject query
changed-rows entries new changes subject query rows is = sym (changed_is entries changes subject query (Ok new) is ∙ remade-rows new subject query rows)

-- nothing is said of a program that is not asked for
pub not-told : (entries : List Entry) (changes : List y.LogChange) (subject : y.Subject) (query : y.Query) → is_explained subject ≡ false → ExplainsQuestion entries (y.what_if changes subject query)
not-told entries changes (y.of_state (y.explain prov) point) query rows = absurd (false≢true (sym rows))
not-told entries changes (y.of_state y.rows point) query rows = tt
not-told entries changes (y.of_state y.provenance point) query rows = tt
not-told entries changes (y.of_state (y.value name rules other) point) query rows = tt
not-told entries changes (y.of_state (y.without patterns) point) query rows = tt
not-told entries changes (y.saw t k) query rows = tt

-- no commit of a log stops that made row versions
module _ (entries : List Entry) (versions : List Versions) (made : IsMade entries (versions_in entries) versions) where
  pub unstopped-rows : (answered : Answered) → unless_refused (remaking_refusal entries) answered ≡ answered
  unstopped-rows answered = none_refused (remaking_refusal entries) answered (remaking_is entries None made.unstopped)

  module _ (is : IsReplayable entries)
      (any : (own : List Entry) → IsReplayable own → stop_upto own (versions_in own) ≡ None → (tables : List (List Span))
      → ((place : ℕ) → IsPermutation (table_spans tables place) (replayed_spans unannotated (log_of own) (length (tables_in own)) (versions_in own) place))
      → (subject : y.Subject) (query : y.Query) → computed_answer (dump_in own tables) (y.ask subject query) ≡ computed_answer (replayed_dump own) (y.ask subject query)) where
    pub made-rows-are : (subject : y.Subject) (query : y.Query) → query_to (dump_in entries (tables_view versions)) subject query ≡ query_to (replayed_dump entries) subject query
    made-rows-are subject query = replayed_is entries is versions made any subject query ∙ unstopped-rows (query_to (replayed_dump entries) subject query)
