-- What the writes of an active transaction show in a version is what the transaction reads there.
use Rattle.gp_machine.proofs.Prelude.{◌≡◌, ◌≢◌, ℕ, ◌≤◌, Bool, true, false, cond, List, [], ◌++◌, refl, sym, ap, ◌∙◌, arith, Some, ◌==◌, not, filter, is_none, filter-append, Written, Annotated, Environment, unannotated, pairs, is_written, merged, Log, begin_version, log_of, versions_in, start_now, version_now, IsHistory, as_of, Parameters, IsReached, started, Overlay, RepresentsActive, base_in, version_to_read, view_at, view_of, Active, State, row_of, spans_at, Span, each_map, eq_itself, eq_not, both_ways, eqb-true}
use Rattle.gp_machine.proofs.ActiveLemmas.{IsOver, active_kept, active_over, active_version, made_by_others}
use Rattle.gp_machine.proofs.BaseLemmas.{base_or_none}
use Rattle.gp_machine.proofs.Distinct.{each_all, each_filter, each_weaker, filter_each, filter_every, filter_none}

-- in another version than the one that the writes of the table lie over
pub view_there : (spans : ℕ → List Span) (overlay : Overlay) (version place : ℕ) → version ≢ overlay.version place
    → view_at spans overlay version place ≡ filter (λ row. is_none (base_in spans overlay place row.identity)) (as_of unannotated spans version place) ++ filter (λ row. row.mark) (view_of spans overlay place)
view_there spans overlay version place n = ap (λ b. cond b (view_of spans overlay place) (filter (λ row. is_none (base_in spans overlay place row.identity)) (as_of unannotated spans version place) ++ filter (λ row. row.mark) (view_of spans overlay place))) (eq_not version (overlay.version place) n)

-- the marked rows are the same in each version
pub marks_of_view : (spans : ℕ → List Span) (overlay : Overlay) (version place : ℕ) → filter (λ row. row.mark) (view_at spans overlay version place) ≡ filter (λ row. row.mark) (view_of spans overlay place)
marks_of_view spans overlay version place =
    elim (version == overlay.version place) as (λ b. filter (λ row. row.mark) (cond b (view_of spans overlay place) (filter (λ row. is_none (base_in spans overlay place row.identity)) (as_of unannotated spans version place) ++ filter (λ row. row.mark) (view_of spans overlay place)))
    ≡ filter (λ row. row.mark) (view_of spans overlay place)) [
      | true ↦ refl
      | false ↦
          filter-append (λ (row : Annotated (Unit {0})). row.mark) (filter (λ row. is_none (base_in spans overlay place row.identity)) (as_of unannotated spans version place)) (filter (λ row. row.mark) (view_of spans overlay place))
          ∙ (λ i. none i ++ twice i)
    ]
  where
    none : filter (λ (row : Annotated (Unit {0})). row.mark) (filter (λ row. is_none (base_in spans overlay place row.identity)) (as_of unannotated spans version place)) ≡ []
    none = filter_none _ _ (each_filter _ (λ row. row.mark ≡ false) _ (λ row e f. f) (as_of unannotated spans version place)
        (each_map _ (λ span. Unit {0}) (row_of unannotated) (λ span e. refl) (spans_at version (spans place)) (each_all _ (λ span. tt) (spans_at version (spans place)))))

    twice : filter (λ (row : Annotated (Unit {0})). row.mark) (filter (λ row. row.mark) (view_of spans overlay place)) ≡ filter (λ row. row.mark) (view_of spans overlay place)
    twice = filter_every _ _ (each_filter _ (λ row. Unit {0}) _ (λ row e f. e) (view_of spans overlay place) (each_all _ (λ row. tt) (view_of spans overlay place)))

module _ (log : Log) (committed : Environment (Unit {0})) (written : ℕ → List Written) (history : IsHistory unannotated log committed written) (active : Active (Unit {0})) (over : IsOver unannotated log committed active)
    (spans : ℕ → List Span) (begun : ℕ) (overlay : Overlay) (runs : RepresentsActive spans begun overlay active) where
  -- the marked rows are those that the transaction wrote
  pub marked_are : (place : ℕ) → filter (λ row. row.mark) (view_of spans overlay place) ≡ filter (λ row. is_written place row.identity (pairs active.seen.written)) (active.seen.view place)
  marked_are place =
      sym (marks_of_view spans overlay active.version place) ∙ ap (filter (λ (row : Annotated (Unit {0})). row.mark)) (runs.view place)
      ∙ filter_each _ _ (active.seen.view place) (active_kept unannotated log committed written history active over place).marks

  -- what is shown in a version that is not before the last one that it read is what it reads there
  pub shown_at : (version : ℕ) → active.version ≤ version → version ≤ log.versions → ((place : ℕ) → as_of unannotated spans version place ≡ committed version place) → (place : ℕ)
      → view_at spans overlay version place ≡ started active.version version (committed version) active.seen place
  shown_at version later within held place =
      elim (version == active.version) as (λ b. (version == active.version) ≡ b
      → view_at spans overlay version place ≡ (cond b active.seen.view (merged (committed version) active.seen.view (pairs active.seen.written))) place) [
        | true ↦ λ is. ap (λ v. view_at spans overlay v place) (eqb-true version active.version is) ∙ runs.view place
        | false ↦ λ is.
            view_there spans overlay version place (λ same. let l = runs.version place in let n : version ≢ active.version = different is in n (omega arith))
            ∙ (λ i. unwritten i ++ marked_are place i)
      ] refl
    where
      different : (version == active.version) ≡ false → version ≢ active.version
      different f same = absurd (both_ways (version == active.version) f (ap (λ v. v == active.version) same ∙ eq_itself active.version))

      unwritten : filter (λ row. is_none (base_in spans overlay place row.identity)) (as_of unannotated spans version place) ≡ filter (λ row. not (is_written place row.identity (pairs active.seen.written))) (committed version place)
      unwritten =
          ap (filter (λ (row : Annotated (Unit {0})). is_none (base_in spans overlay place row.identity))) (held place)
          ∙ filter_each _ _ (committed version place)
          (each_weaker _ _ (λ row n. ap is_none (runs.base place row.identity (λ own. n (own ∙ runs.transaction))) ∙ base_or_none place row.identity active.seen.written)
          (committed version place) (made_by_others unannotated log committed written history active over version within place))

module _ (parameters : Parameters) (state : State (Unit {0})) (reached : IsReached unannotated parameters state) (session : ℕ) (active : Active (Unit {0})) (e : state.active session ≡ Some active)
    (spans : ℕ → List Span) (overlay : Overlay) (runs : RepresentsActive spans (begin_version active.transaction state.entries) overlay active) where
  over : IsOver unannotated (log_of state.entries) state.committed active
  over = active_over unannotated parameters state reached session active e

  -- the version of the next statement
  pub now_is : (newest : ℕ) → newest ≡ versions_in state.entries → version_to_read overlay newest ≡ version_now state active
  now_is newest is = (λ i. cond (runs.read_committed i) (is i) (runs.begin i)) ∙ go active.read_committed (reached.running session active e).steady
    where
      go : (b : Bool) → (b ≡ false → active.version ≡ begin_version active.transaction state.entries) → cond b (versions_in state.entries) (begin_version active.transaction state.entries) ≡ cond b (versions_in state.entries) active.version
      go true f = refl
      go false f = sym (f refl)

  not_before : active.version ≤ version_now state active
  not_before = go active.read_committed
    where
      go : (b : Bool) → active.version ≤ cond b (versions_in state.entries) active.version
      go true = active_version unannotated parameters state reached session active e
      go false = omega arith

  pub now_within : version_now state active ≤ versions_in state.entries
  now_within = go active.read_committed
    where
      go : (b : Bool) → cond b (versions_in state.entries) active.version ≤ versions_in state.entries
      go true = omega arith
      go false = active_version unannotated parameters state reached session active e

  -- what is shown there is what the transaction reads before its next statement
  pub start_shown : ((place : ℕ) → as_of unannotated spans (version_now state active) place ≡ state.committed (version_now state active) place) → (place : ℕ)
      → view_at spans overlay (version_now state active) place ≡ start_now state active place
  start_shown held place =
      shown_at (log_of state.entries) state.committed state.written reached.history active over spans (begin_version active.transaction state.entries) overlay runs (version_now state active) not_before now_within held place
