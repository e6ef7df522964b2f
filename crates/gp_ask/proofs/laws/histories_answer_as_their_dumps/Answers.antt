use Rattle.std.proofs.Common.{◌≡◌, ◌-◌, ◌≤◌, ℕ, List, [], length, None, refl, sym, ◌∙◌, subst, true}
use Rattle.std.specs.List.{AllByRecursion}
use Rattle.std.specs.List.Sorted.{IsPermutation}
use Rattle.gp_base.specs.Annotated.{monomials, unannotated}
use Rattle.gp_base.specs.Tokens.{Monomial}
use Rattle.gp_algebra.specs.Reannotation.{forgotten}
use Rattle.gp_base.proofs.Bags.{SameBag}
use Rattle.gp_base.proofs.Permutations.{unpermuted}
use Rattle.gp_log.specs.LogFacts.{tables_in}
use Rattle.gp_log.specs.Parameters.{parameters}
use Rattle.gp_log.specs.Sessions.{KeepsSessions}
use Rattle.gp_machine.proofs.ReachedLemmas.{all_reached}
use Rattle.gp_machine.specs.Event.{after}
use Rattle.gp_machine.specs.Entries.{versions_in}
use Rattle.gp_machine.specs.HistorySpans.{next_written, state_spans}
use Rattle.gp_machine.specs.Reached.{IsReached}
use Rattle.gp_machine.specs.State.{State, start}
use Rattle.gp_versions.specs.Spans.{holds_at}
use Rattle.gp_versions.specs.declared.span.Span.{Span}
use Rattle.gp_whatif.specs.Replays.{IsCoherent}
use Rattle.gp_dump.specs.Dumps.{dump_of}
use Rattle.gp_ask.specs.Hypothetical.{replayed_dump}
use Rattle.gp_ask.specs.Made.{unmade_refusal}
use Rattle.gp_ask.specs.Printed.{answer_to, held_to}
use Rattle.gp_ask.specs.Asking.{table_spans}
use Rattle.gp_ask.proofs.HeldLemmas.{forgetting, held}
use Rattle.gp_ask.proofs.LivesLemmas.{lives}
use Rattle.gp_ask.proofs.MadeLemmas.{IsRemade, is-remade, none-unmade}
use Rattle.gp_ask.proofs.MeetsLemmas.{meets}
use Rattle.gp_ask.proofs.SeenLemmas.{alters, sees}
use Rattle.gp_ask.proofs.SpanLemmas.{dumped}
use Rattle.gp_ask.proofs.TableLemmas.{tables-kept}
use Rattle.gp_ask.proofs.TargetLemmas.{targets-checked}
use Rattle.gp_ask.proofs.TransactionRuns.{MakesOnce}
use Rattle.gp_replay.specs.Differences.{difference}
use Rattle.gp_replay.proofs.HistoryLemmas.{complete}
use Rattle.gp_ask.proofs.laws.histories_answer_as_their_dumps.Goals as goal

pub returns : goal.returns
returns c = λ lines question.
    let state : State Monomial = after monomials parameters start lines in
    let same : after unannotated parameters start lines ≡ forgetting state = c.annotations_change_no_reply.ensures.forgetting monomials parameters lines in
    let coherent : IsCoherent state.entries =
    subst (λ (s : State (Unit {0})). IsCoherent s.entries) same (c.changed_logs_are_coherent.ensures.histories parameters lines targets-checked) in
    let kept : (table : ℕ) → state_spans (forgetting state) table ≡ state_spans state table = λ table. c.annotations_change_no_reply.ensures.spans forgotten state table in
    let beyond : (table : ℕ) → length state.catalogue ≤ table → state_spans (forgetting state) table ≡ [] = λ table past. kept table ∙ c.commits_publish_the_spans.ensures.beyond monomials parameters targets-checked lines table past in
    let spans : ℕ → List Span = table_spans (dump_of (forgetting state)).tables in
    let moved : (table : ℕ) → IsPermutation (spans table) (state_spans state table) =
    λ table. subst (λ (own : List Span). IsPermutation (spans table) own) (kept table) (dumped (forgetting state) beyond table) in
    let sessions : KeepsSessions state.entries = coherent.sessions in
    let reached : IsReached monomials parameters state = all_reached monomials parameters lines in
    let plainly : IsReached unannotated parameters (forgetting state) = subst (IsReached unannotated parameters) same (all_reached unannotated parameters lines) in
    let once : MakesOnce state.entries = c.identities_begin_with_their_committers.ensures.once monomials parameters lines in
    let ends : (table : ℕ) → AllByRecursion
    (λ (span : Span). (version : ℕ) → version ≤ versions_in state.entries → holds_at version span ≡ true → span.to ≡ next_written state.written table span.id version (versions_in state.entries - version))
    (state_spans (forgetting state) table) =
    λ table. subst
    (AllByRecursion (λ (span : Span). (version : ℕ) → version ≤ versions_in state.entries → holds_at version span ≡ true → span.to ≡ next_written state.written table span.id version (versions_in state.entries - version)))
    (sym (kept table)) (c.spans_hold_the_versions.ensures.ends state table) in
    let tables : List (List Span) = (dump_of (forgetting state)).tables in
    let bags : (table : ℕ) → SameBag (spans table) (state_spans (forgetting state) table) = λ table. unpermuted _ _ (dumped (forgetting state) beyond table) in
    let own : (table : ℕ) → SameBag (table_spans (dump_of state).tables table) (state_spans (forgetting state) table) =
    λ table. subst (SameBag (table_spans (dump_of state).tables table)) (sym (kept table))
    (unpermuted _ _ (dumped state (λ place past. c.commits_publish_the_spans.ensures.beyond monomials parameters targets-checked lines place past) table)) in
    let whole : tables_in state.entries ≡ state.catalogue = tables-kept monomials parameters start lines refl in
    let plain-tables : tables_in (after unannotated parameters start lines).entries ≡ (after unannotated parameters start lines).catalogue = tables-kept unannotated parameters start lines refl in
    let remade : IsRemade (after unannotated parameters start lines) =
    is-remade (after unannotated parameters start lines) plain-tables (c.histories_are_replayed_as_they_were.ensures.unstopped lines targets-checked plain-tables)
    (c.histories_are_replayed_as_they_were.ensures.spans lines targets-checked plain-tables) in
    subst (λ (s : State (Unit {0})). answer_to (dump_of s) question ≡ held_to state question) (sym same)
    (held state kept whole
    (sees state reached plainly sessions once whole tables bags)
    (alters state reached plainly sessions once whole tables bags)
    (meets state reached plainly sessions once whole tables bags ends)
    (lives state reached plainly sessions once whole tables bags own)
    (λ how point query. c.unstopped_histories_answer_as_their_dumps.ensures state (c.histories_do_not_stop.ensures.reached monomials parameters lines) (tables-kept monomials parameters start lines refl)
    (dump_of (forgetting state)).tables moved how point query)
    (subst (λ (s : State (Unit {0})). unmade_refusal (dump_of s) ≡ None) same
    (none-unmade c.agreement_is_having_the_same_rows.ensures.agrees (after unannotated parameters start lines) remade))
    (subst (λ (s : State (Unit {0})). replayed_dump s.entries ≡ dump_of s) same remade.1)
    (subst (λ (s : State (Unit {0})). difference (dump_of s) ≡ None) same (complete lines)) question)
