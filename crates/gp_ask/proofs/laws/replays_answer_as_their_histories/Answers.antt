use Rattle.std.proofs.Common.{ℕ, List, length, refl, sym, ◌∙◌, subst}
use Rattle.std.specs.List.Sorted.{IsPermutation}
use Rattle.gp_base.specs.Annotated.{monomials, unannotated}
use Rattle.gp_base.specs.Tokens.{Monomial}
use Rattle.gp_base.proofs.Permutations.{unpermuted}
use Rattle.gp_algebra.specs.Reannotation.{forgotten}
use Rattle.gp_log.specs.Parameters.{parameters}
use Rattle.gp_log.specs.LogFacts.{tables_in}
use Rattle.gp_machine.specs.Entries.{log_of, versions_in}
use Rattle.gp_machine.specs.HistorySpans.{state_spans}
use Rattle.gp_machine.specs.Replayed.{replayed_state}
use Rattle.gp_machine.specs.State.{State}
use Rattle.gp_machine.specs.Unstopped.{IsUnstopped}
use Rattle.gp_versions.specs.declared.span.Span.{Span}
use Rattle.gp_ask.specs.Asking.{table_spans}
use Rattle.gp_ask.specs.Replays.{dump_in}
use Rattle.gp_ask.proofs.HeldLemmas.{forgetting}
use Rattle.gp_ask.proofs.ReplayedViews.{of-each, replay-sees}
use Rattle.gp_ask.proofs.laws.replays_answer_as_their_histories.Goals as goal

pub returns : goal.returns
returns c = λ entries order none tables are subject query.
    let forgets = c.annotations_commute.ensures.forgetting monomials in
    let unstopped = c.histories_do_not_stop.ensures.replayed monomials parameters (tables_in entries) entries order
    (sym (c.annotations_change_no_replay.ensures.stops monomials unannotated forgotten forgets parameters (log_of entries) (length (tables_in entries)) (versions_in entries)) ∙ none) in
    let state : State Monomial = replayed_state monomials (tables_in entries) entries in
    let moved : (place : ℕ) → IsPermutation (table_spans tables place) (state_spans state place) =
    λ place. subst (λ (own : List Span). IsPermutation (table_spans tables place) own)
    (c.annotations_change_no_replay.ensures.spans monomials unannotated forgotten forgets (log_of entries) (length (tables_in entries)) (versions_in entries) place) (are place) in
    let plainly : IsUnstopped unannotated parameters (forgetting state) = c.annotations_change_no_replay.ensures.unstopped monomials unannotated forgotten forgets parameters state unstopped in
    of-each (dump_in entries tables) state
    (λ how point own. c.unstopped_histories_answer_as_their_dumps.ensures state unstopped refl tables moved how point own)
    (replay-sees entries plainly tables
    (λ place. unpermuted _ _ (subst (λ (own : List Span). IsPermutation (table_spans tables place) own) (sym (c.annotations_change_no_reply.ensures.spans forgotten state place)) (moved place))))
    subject query
