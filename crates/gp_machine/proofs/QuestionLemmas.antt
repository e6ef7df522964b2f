-- From the log and the spans of a history, every question is answered as the history would, and no run stops.
use Rattle.gp_machine.proofs.Prelude.{◌≡◌, ℕ, zero, suc, ◌≤◌, Bool, true, false, cond, List, length, refl, sym, ap, ◌∙◌, subst, arith, Option, Some, None, nat_lt, option_or, option_map, SameBag, permuted, Element, answer, Select, Annotated, Annotations, unannotated, Refusal, E27, annotated_versions, computed, IsAsked, identified, to_commit, to_statement, to_version, committer_of, log_of, statement_count, versions_in, name_at, as_of, state_spans, Parameters, at_point, held_at, version_before, log_refusal, State, IsUnstopped, Span}
use Rattle.std.specs.List.Sorted.{IsPermutation}
use Rattle.gp_grammar.specs.Syntax as y
use Rattle.gp_base.proofs.Bags.{as_long}
use Rattle.gp_base.specs.declared.refusal.Refusal.TheVariants.{E24}
use Rattle.gp_machine.proofs.AskedLemmas.{asked}
use Rattle.gp_machine.proofs.HeldPoints.{committed_stops, never_stops, simulated, version_is}
use Rattle.gp_machine.proofs.LogLemmas.{versions_le}
use Rattle.gp_machine.proofs.Simulation.{consistent}
use Rattle.gp_machine.specs.QuestionForms.{AreAlike}
use Rattle.gp_machine.specs.Questions.{annotated_answer, annotation_stop, answer_refusal, difference_refusal, given, held_answer, needed_version, own_stop, rows_answer, stop_refusal}

pub finish : {M : Type 0} (domain : Annotations M) (parameters : Parameters) (xs ys : List (Element M)) → SameBag xs ys
    → AreAlike (given (cond (nat_lt parameters.answer (length ys)) (Some E27) None) xs) (given (cond (nat_lt parameters.answer (length ys)) (Some E27) None) ys)
finish domain parameters xs ys same = elim (nat_lt parameters.answer (length ys)) as (λ b. AreAlike (given (cond b (Some E27) None) xs) (given (cond b (Some E27) None) ys)) [ true ↦ refl | false ↦ permuted xs ys same ]

module _ {M : Type 0} (domain : Annotations M) (parameters : Parameters) (state : State M) (unstopped : IsUnstopped domain parameters state) (spans : ℕ → List Span) (are : (table : ℕ) → SameBag (spans table) (state_spans state table)) where
  pub never_own : (point : y.Point) → IsAsked state.entries point → own_stop domain parameters state.entries point (annotated_versions domain state.entries spans) ≡ None
  never_own (y.as_of version) (to_version l) = refl
  never_own (y.after t k) (to_statement {version = version} e l) = ap (option_map stop_refusal) (committed_stops domain parameters state unstopped spans are t k version e l)
  never_own (y.Point.commit t) (to_commit {version = version} e) = ap (option_map stop_refusal) (committed_stops domain parameters state unstopped spans are t (statement_count t state.entries) version e (omega arith))

  needed : (point : y.Point) → IsAsked state.entries point → needed_version state.entries point ≤ versions_in state.entries
  needed (y.as_of version) (to_version l) = l
  needed (y.after t k) (to_statement {version = version} e l) = versions_le t k state.entries
  needed (y.Point.commit t) (to_commit {version = version} e) =
      let i = version_is t version state.entries e in
      let w = i.within in
      subst (λ o. version_before o ≤ versions_in state.entries) (sym (e ∙ ap Some i.is)) (omega arith)

  module _ (agree : List (Annotated M) → List (Annotated M) → Bool) (agree_same : (rows others : List (Annotated M)) → IsPermutation (identified rows) (identified others) → agree rows others ≡ true) where
    never_differs : (tables u : ℕ) → u ≤ versions_in state.entries → difference_refusal domain parameters agree state.catalogue u tables (computed domain (log_of state.entries) spans u u) (as_of domain spans u) ≡ None
    never_differs zero u l = refl
    never_differs (suc table) u l =
        λ i. option_or (never_differs table u l i)
        (cond (agree_same (computed domain (log_of state.entries) spans u u table) (as_of domain spans u table)
        (permuted _ _ (consistent domain (log_of state.entries) state.committed state.written unstopped.history spans are u table l)) i)
        None (Some (E24 u (name_at table state.catalogue))))

    pub never_annotation : (u : ℕ) → u ≤ versions_in state.entries → annotation_stop domain parameters agree state.catalogue (log_of state.entries) spans u ≡ None
    never_annotation zero l = refl
    never_annotation (suc u) l =
        λ i. option_or (never_annotation u (omega arith) i)
        (option_or (option_map stop_refusal (never_stops domain parameters state unstopped spans are u (statement_count (committer_of (suc u) state.entries) state.entries) u (omega arith) (omega arith) l (omega arith) i))
        (never_differs (length state.catalogue) (suc u) l i))

    pub annotated_alike : (point : y.Point) (query : Select) → AreAlike (annotated_answer domain parameters agree state.catalogue state.entries spans point query) (held_answer domain parameters state point query)
    annotated_alike point query = go (log_refusal state.entries point) refl
      where
        go : (refusal : Option Refusal) → log_refusal state.entries point ≡ refusal →
            AreAlike (given (option_or refusal (option_or (annotation_stop domain parameters agree state.catalogue (log_of state.entries) spans (needed_version state.entries point)) (option_or (own_stop domain parameters state.entries point (annotated_versions domain state.entries spans)) (answer_refusal domain parameters (answer domain query (at_point domain state.entries point (annotated_versions domain state.entries spans))))))) (answer domain query (at_point domain state.entries point (annotated_versions domain state.entries spans))))
            (given (option_or refusal (answer_refusal domain parameters (answer domain query (held_at state point)))) (answer domain query (held_at state point)))
        go (Some refusal) e = refl
        go None e =
            let a = asked state.entries point e in
            let same = simulated domain parameters state unstopped spans are point a query in
            rw (never_annotation (needed_version state.entries point) (needed point a), never_own point a, as_long same)
            (finish domain parameters (answer domain query (at_point domain state.entries point (annotated_versions domain state.entries spans))) (answer domain query (held_at state point)) same)

-- without annotations the rows of the spans are enough
pub rows_alike : (parameters : Parameters) (state : State (Unit {0})) → IsUnstopped unannotated parameters state → (spans : ℕ → List Span) → ((table : ℕ) → SameBag (spans table) (state_spans state table)) → (point : y.Point) (query : Select)
    → AreAlike (rows_answer parameters state.entries spans point query) (held_answer unannotated parameters state point query)
rows_alike parameters state unstopped spans are point query = go (log_refusal state.entries point) refl
  where
    go : (refusal : Option Refusal) → log_refusal state.entries point ≡ refusal →
        AreAlike (given (option_or refusal (option_or (own_stop unannotated parameters state.entries point (as_of unannotated spans)) (answer_refusal unannotated parameters (answer unannotated query (at_point unannotated state.entries point (as_of unannotated spans)))))) (answer unannotated query (at_point unannotated state.entries point (as_of unannotated spans))))
        (given (option_or refusal (answer_refusal unannotated parameters (answer unannotated query (held_at state point)))) (answer unannotated query (held_at state point)))
    go (Some refusal) e = refl
    go None e =
        let a = asked state.entries point e in
        let same = simulated unannotated parameters state unstopped spans are point a query in
        let stop : own_stop unannotated parameters state.entries point (as_of unannotated spans) ≡ None = never_own unannotated parameters state unstopped spans are point a in
        let long : length (answer unannotated query (at_point unannotated state.entries point (as_of unannotated spans))) ≡ length (answer unannotated query (held_at state point)) = as_long same in
        rw (stop, long) (finish unannotated parameters (answer unannotated query (at_point unannotated state.entries point (as_of unannotated spans))) (answer unannotated query (held_at state point)) same)
