use Rattle.std.proofs.Common.{ℕ, List, [], subst, sym}
use Rattle.std.specs.List.Sorted.{IsPermutation}
use Rattle.gp_base.specs.Annotated.{monomials, unannotated}
use Rattle.gp_algebra.specs.Reannotation.{forgotten}
use Rattle.gp_grammar.specs.declared.semiring_name.SemiringName.{SemiringName}
use Rattle.gp_history.specs.Agreement.{agree}
use Rattle.gp_log.specs.Parameters.{parameters}
use Rattle.gp_machine.specs.HistorySpans.{state_spans}
use Rattle.gp_machine.specs.Unstopped.{IsUnstopped}
use Rattle.gp_machine.proofs.AskedLemmas.{asked}
use Rattle.gp_history.proofs.HeldLemmas.{log_refuses}
use Rattle.gp_versions.specs.declared.span.Span.{Span}
use Rattle.gp_ask.specs.Asking.{table_spans}
use Rattle.gp_ask.proofs.HeldLemmas as held
use Rattle.gp_ask.proofs.HeldLemmas.{forgetting}
use Rattle.gp_ask.proofs.ValueLemmas.{AreHeld, each-semiring}
use Rattle.gp_ask.proofs.laws.unstopped_histories_answer_as_their_dumps.Goals as goal

pub returns : goal.returns
returns c = λ state unstopped kept tables are how point query.
    let spans : ℕ → List Span = table_spans tables in
    let plainly : IsUnstopped unannotated parameters (forgetting state) =
    c.annotations_change_no_replay.ensures.unstopped monomials unannotated forgotten (c.annotations_commute.ensures.forgetting monomials) parameters state unstopped in
    let moved : (table : ℕ) → IsPermutation (spans table) (state_spans (forgetting state) table) =
    λ table. subst (λ (own : List Span). IsPermutation (spans table) own) (sym (c.annotations_change_no_reply.ensures.spans forgotten state table)) (are table) in
    let values : (name : SemiringName) → AreHeld state spans name =
    each-semiring (AreHeld state spans)
    (λ rules point select. c.rules_give_the_values_of_the_history.ensures rules state unstopped spans are point select)
    (λ rules point select. c.rules_give_the_values_of_the_history-2.ensures rules state unstopped spans are point select)
    (λ rules point select. c.rules_give_the_values_of_the_history-3.ensures rules state unstopped spans are point select)
    (λ rules point select. c.rules_give_the_values_of_the_history-4.ensures rules state unstopped spans are point select)
    (λ rules point select. c.rules_give_the_values_of_the_history-5.ensures rules state unstopped spans are point select)
    (λ rules point select. c.rules_give_the_values_of_the_history-6.ensures rules state unstopped spans are point select) in
    let annotated = c.unstopped_histories_answer_their_questions.ensures.annotated monomials parameters state unstopped spans are agree (λ rows others same. c.agreement_is_having_the_same_rows.ensures.agrees rows others same) in
    held.asked (c.annotations_commute.ensures.answers monomials unannotated forgotten (c.annotations_commute.ensures.forgetting monomials)) state kept tables
    (c.unstopped_histories_answer_their_questions.ensures.rows parameters (forgetting state) plainly spans moved) annotated values
    (λ point. log_refuses parameters agree state spans point (annotated point []))
    (λ point select known. c.unstopped_histories_answer_their_questions.ensures.elements monomials parameters state unstopped spans are point (asked state.entries point known) select)
    how point query
