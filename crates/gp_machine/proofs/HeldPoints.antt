-- What the log and the spans of a history answer is what the history held, and no run stops.
use Rattle.gp_machine.proofs.Prelude.{◌≡◌, ℕ, suc, ◌<◌, ◌≤◌, true, false, cond, List, [], ◌∷◌, ◌++◌, refl, sym, ap, ◌∙◌, subst, arith, map, Some, None, ◌==◌, filter, SameBag, through, same_from, SameTables, Element, answer, answer_from, choices, joined, made, Select, Annotations, Database, annotated, annotated_versions, computed, cleared, unmarked, Began, Committed, Created, Ended, Entry, Ran, committer_of, log_of, statement_count, version_of, versions_in, state_spans, Parameters, at_point, version_or_empty, held_at, run_stop, version_before, IsAsked, to_commit, to_statement, to_version, at_commit, run, State, IsUnstopped, Span, none-some, same_Some, eq_itself, eq_not, eqb-true}
use Rattle.gp_grammar.specs.Syntax as y
use Rattle.gp_algebra.proofs.StepBags.{answer_same}
use Rattle.gp_algebra.specs.Answers.{passes_where, values}
use Rattle.gp_machine.proofs.CommitLemmas.{computed_is}
use Rattle.gp_machine.proofs.RunBags.{cleared_same}
use Rattle.gp_machine.proofs.Simulation.{commits_held, runs_held, stops_held, versions_held}
use Rattle.gp_machine.proofs.UnstoppedLemmas.{front_unstopped}
use Rattle.gp_base.proofs.SmallLemmas.{flat_map-map, flat_map_agree}

-- ---- the version that a transaction made

pub record IsVersionOf (t v : ℕ) (entries : List Entry) : Type 0 where
  pub earlier : ℕ
  pub is : v ≡ suc earlier
  pub within : earlier < versions_in entries
  pub made : committer_of (suc earlier) entries ≡ t

pub version_is : (t v : ℕ) (entries : List Entry) → version_of t entries ≡ Some v → IsVersionOf t v entries
version_is t v [] e = absurd (none-some v e)
version_is t v (Began line session u level ∷ older) e = let i = version_is t v older e in record { earlier = i.earlier; is = i.is; within = i.within; made = i.made }
version_is t v (Ran line session command u statement ∷ older) e = let i = version_is t v older e in record { earlier = i.earlier; is = i.is; within = i.within; made = i.made }
version_is t v (Ended line session end u ∷ older) e = let i = version_is t v older e in record { earlier = i.earlier; is = i.is; within = i.within; made = i.made }
version_is t v (Created line session table ∷ older) e = let i = version_is t v older e in record { earlier = i.earlier; is = i.is; within = i.within; made = i.made }
version_is t v (Committed line session u ∷ older) e =
    later (version_is t v older) e
  where
    later : (version_of t older ≡ Some v → IsVersionOf t v older) → version_of t (Committed line session u ∷ older) ≡ Some v → IsVersionOf t v (Committed line session u ∷ older)
    later f e = (elim (u == t) as (λ b. (u == t) ≡ b → cond b (Some (suc (versions_in older))) (version_of t older) ≡ Some v → IsVersionOf t v (Committed line session u ∷ older)) [
      | true ↦ λ is e. record {
        earlier = versions_in older;
        is = sym (same_Some (suc (versions_in older)) v e);
        within = omega arith;
        made = ap (λ b. cond b u (committer_of (suc (versions_in older)) older)) (eq_itself (suc (versions_in older))) ∙ eqb-true u t is;
      }
      | false ↦ λ is e.
          let i = f e in
          record {
            earlier = i.earlier;
            is = i.is;
            within = let w = i.within in omega arith;
            made = ap (λ b. cond b u (committer_of (suc i.earlier) older)) (eq_not (suc (versions_in older)) (suc i.earlier) (λ same. let w = i.within in omega arith)) ∙ i.made;
          }
    ]) refl e

-- ---- an answer does not see marks

module _ {M : Type 0} (domain : Annotations M) where
  choices_cleared : (number : ℕ) (tables : List ℕ) (a : Database M) → choices domain number tables (cleared a) ≡ choices domain number tables a
  choices_cleared number [] a = refl
  choices_cleared number (table ∷ tables) a =
      flat_map-map (λ row. map (joined domain number row) (choices domain number tables (cleared a))) unmarked (a table)
      ∙ flat_map_agree _ _ (λ row. ap (map (joined domain number row)) (choices_cleared number tables a)) (a table)

  answer_cleared : (number : ℕ) (select : Select) (a : Database M) → answer_from domain number select (cleared a) ≡ answer_from domain number select a
  answer_cleared number [] a = refl
  answer_cleared number (branch ∷ select) a =
      λ i. map (λ (element : Element M). record element { cells = values branch.items element.cells }) (filter (λ (element : Element M). passes_where branch.cond element.cells) (choices_cleared number branch.from a i)) ++ answer_cleared (suc number) select a i

module _ {M : Type 0} (domain : Annotations M) (parameters : Parameters) (state : State M) (unstopped : IsUnstopped domain parameters state) (spans : ℕ → List Span) (are : (table : ℕ) → SameBag (spans table) (state_spans state table)) where
  -- the transaction of a question, as the one that made a version
  pub after_held : (t k v : ℕ) → version_of t state.entries ≡ Some v → k ≤ statement_count t state.entries → SameTables (run domain (log_of state.entries) t k (annotated_versions domain state.entries spans)) (state.views t k)
  after_held t k v e l =
      let i = version_is t v state.entries e in
      subst (λ t. k ≤ statement_count t state.entries → SameTables (run domain (log_of state.entries) t k (annotated_versions domain state.entries spans)) (state.views t k)) i.made
      (λ has table. through
      (runs_held domain (log_of state.entries) state.committed state.written unstopped.history spans are (versions_in state.entries) i.earlier k (let w = i.within in omega arith) (omega arith) i.within has table)
      (same_from _ _ (ap (λ (database : Database M). database table) (sym (unstopped.views i.earlier k i.within has))))) l

  pub commit_held : (t v : ℕ) → version_of t state.entries ≡ Some v → (table : ℕ) →
      SameBag (cleared (at_commit domain (log_of state.entries) t (version_before (version_of t state.entries)) (annotated_versions domain state.entries spans)) table) (version_or_empty (version_of t state.entries) state.committed table)
  commit_held t v e table =
      let i = version_is t v state.entries e in
      let known : version_of t state.entries ≡ Some (suc i.earlier) = e ∙ ap Some i.is in
      let held : SameBag (cleared (at_commit domain (log_of state.entries) t i.earlier (annotated_versions domain state.entries spans)) table) (state.committed (suc i.earlier) table) =
      subst (λ t. SameBag (cleared (at_commit domain (log_of state.entries) t i.earlier (annotated_versions domain state.entries spans)) table) (state.committed (suc i.earlier) table)) i.made
      (through
      (cleared_same _ _ (commits_held domain (log_of state.entries) state.committed state.written unstopped.history spans are (versions_in state.entries) i.earlier (let w = i.within in omega arith) (omega arith) i.within) table)
      (same_from _ _ (computed_is domain (log_of state.entries) state.committed state.written unstopped.history i.earlier i.within table))) in
      subst (λ o. SameBag (cleared (at_commit domain (log_of state.entries) t (version_before o) (annotated_versions domain state.entries spans)) table) (version_or_empty o state.committed table)) (sym known) held

  -- the answer at each state that may be asked about is the one that the history held, with identities and annotations
  pub simulated : (point : y.Point) → IsAsked state.entries point → (query : Select) → SameBag (answer domain query (at_point domain state.entries point (annotated_versions domain state.entries spans))) (answer domain query (held_at state point))
  simulated (y.as_of v) (to_version l) query = answer_same domain query _ _ (versions_held domain (log_of state.entries) state.committed state.written unstopped.history spans are v l)
  simulated (y.after t k) (to_statement {version = v} e l) query = answer_same domain query _ _ (after_held t k v e l)
  simulated (y.Point.commit t) (to_commit {version = v} e) query = through (same_from _ _ (sym (answer_cleared domain 1 query _))) (answer_same domain query _ _ (commit_held t v e))

  -- ---- no stop comes

  -- In the run of a transaction that made a version, over the versions that are annotated up to w, no limit is passed.
  pub never_stops : (u k w : ℕ) → u ≤ w → w ≤ versions_in state.entries → u < versions_in state.entries → k ≤ statement_count (committer_of (suc u) state.entries) state.entries →
      run_stop domain parameters (log_of state.entries) (committer_of (suc u) state.entries) k (annotated domain spans (computed domain (log_of state.entries) spans w)) ≡ None
  never_stops u k w l m within has =
      let t : ℕ = committer_of (suc u) state.entries in
      stops_held domain (log_of state.entries) state.committed state.written unstopped.history spans are parameters w u k l m within has
      ∙ front_unstopped domain parameters (log_of state.entries) t k (statement_count t state.entries) state.committed has (unstopped.runs u within)

  -- over all annotated versions
  pub committed_stops : (t k version : ℕ) → version_of t state.entries ≡ Some version → k ≤ statement_count t state.entries → run_stop domain parameters (log_of state.entries) t k (annotated_versions domain state.entries spans) ≡ None
  committed_stops t k version e l =
      let i = version_is t version state.entries e in
      subst (λ t. k ≤ statement_count t state.entries → run_stop domain parameters (log_of state.entries) t k (annotated_versions domain state.entries spans) ≡ None) i.made
      (λ has. never_stops i.earlier k (versions_in state.entries) (let w = i.within in omega arith) (omega arith) i.within has) l
