-- The invariant of a running transaction: at its BEGIN, after a statement, over a history, and in a reached state.
use Rattle.gp_machine.proofs.Prelude.{◌≡◌, ◌≢◌, ◌∙◌, ℕ, zero, suc, ◌<◌, ◌≤◌, false, List, [], ◌++◌, refl, sym, subst, arith, Some, Written, step, wrote, Statement, Annotated, Annotations, Database, Environment, identity_statement, identity_transaction, Based, pairs, is_written, merged, unmarked, Log, log_of, versions_in, IsHistory, Parameters, IsReached, Seen, seen_by, Active, State, HaveDifferentIdentities, IsViewOf, AllByRecursion, each_append}
use Rattle.gp_machine.proofs.CommitLemmas.{Clean, IsMadeBy, all_sound, bases_within, made_view, view_kept}
use Rattle.gp_machine.proofs.Distinct.{each_filter, each_weaker}
use Rattle.gp_machine.proofs.LogLemmas.{versions_le}
use Rattle.gp_machine.proofs.StepViews.{AllKept, MadeBy, step_each, step_kept}
use Rattle.gp_machine.proofs.ViewLemmas.{kept_merged}

-- at BEGIN
pub begin_view : {M : Type 0} (t : ℕ) (base : Database M) → ((table : ℕ) → HaveDifferentIdentities (base table)) → ((table : ℕ) → AllByRecursion (λ row. row.mark ≡ false) (base table))
    → ((table : ℕ) → AllByRecursion (λ row. identity_transaction row.identity ≢ t) (base table)) → IsViewOf t zero base base []
begin_view t base different unmarked others = record {
  tables = λ table. record { different = different table; marks = unmarked table; others = refl };
  own = λ table. each_weaker _ _ (λ row n e. absurd (n e)) (base table) (others table);
}

-- after a statement
pub step_view : {M : Type 0} (domain : Annotations M) (t k : ℕ) (statement : Statement) (base view : Database M) (written : List Written) → IsViewOf t k base view written
    → IsViewOf t (suc k) base (step domain t (suc k) statement view) (written ++ wrote domain t (suc k) statement view)
step_view domain t k statement base view written is = record {
  tables = step_kept domain t k statement written base view is.tables is.own;
  own = step_each domain (λ id. identity_transaction id ≡ t → identity_statement id ≤ suc k) t (suc k) statement view (λ n ids e. omega arith)
      (λ table. each_weaker _ _ (λ row l e. let m = l e in omega arith) (view table) (is.own table));
}

-- A transaction that has made no version of a history, with what its statements read and wrote over it.
pub record IsOver {M : Type 0} (domain : Annotations M) (log : Log) (committed : Environment M) (active : Active M) : Type 0 where
  pub seen : active.seen ≡ seen_by domain log active.transaction active.statements committed
  pub version : active.version ≡ log.version active.transaction active.statements
  pub read : (k : ℕ) → k ≤ active.statements → log.version active.transaction k ≤ log.versions
  pub rising : (k : ℕ) → k < active.statements → log.version active.transaction k ≤ log.version active.transaction (suc k)
  pub unfinished : (u : ℕ) → u < log.versions → log.committer (suc u) ≢ active.transaction

module _ {M : Type 0} (domain : Annotations M) (log : Log) (committed : Environment M) (written : ℕ → List Written) (history : IsHistory domain log committed written) (active : Active M) (over : IsOver domain log committed active) where
  -- it made no row of a version
  pub made_by_others : (v : ℕ) → v ≤ log.versions → (place : ℕ) → AllByRecursion (λ row. identity_transaction row.identity ≢ active.transaction) (committed v place)
  made_by_others v l place = each_weaker _ _ (λ row m own. apart row m own) (committed v place) (all_sound domain log committed written history v l v (omega arith) place).makers
    where
      apart : (row : Annotated M) → IsMadeBy log v row.identity → identity_transaction row.identity ≡ active.transaction → ⊥
      apart row (u, m, is) own = over.unfinished u (omega arith) (sym is ∙ own)

  -- the versions that it has read are fit for it
  pub active_clean : Clean domain log committed written history active.transaction active.statements
  active_clean =
      let sound = λ (j : ℕ) (l : j ≤ active.statements). all_sound domain log committed written history (log.version active.transaction j) (over.read j l) (log.version active.transaction j) (omega arith) in
      record {
        different = λ j l table. (sound j l table).different;
        unmarked = λ j l table. (sound j l table).unmarked;
        others = λ j l table. made_by_others (log.version active.transaction j) (over.read j l) table;
      }

  -- its marked rows are those that it wrote
  pub active_kept : AllKept (committed active.version) active.seen.view (pairs active.seen.written)
  active_kept =
      subst (λ (x : ℕ × Seen M). AllKept (committed x.0) x.1.view (pairs x.1.written)) (λ i. (sym over.version i, sym over.seen i))
      (view_kept domain log committed written history active.transaction active.statements active_clean)

  -- a row that it wrote has a base that it has read
  pub active_bases : AllByRecursion (λ (based : Based). (log.version active.transaction zero ≤ based.base) × (based.base ≤ active.version)) active.seen.written
  active_bases =
      subst (λ (x : ℕ × Seen M). AllByRecursion (λ (based : Based). (log.version active.transaction zero ≤ based.base) × (based.base ≤ x.0)) x.1.written) (λ i. (sym over.version i, sym over.seen i))
      (bases_within domain log committed written history active.transaction active.statements over.rising)

-- an active transaction of a reached state is one
pub active_over : {M : Type 0} (domain : Annotations M) (parameters : Parameters) (state : State M) → IsReached domain parameters state → (session : ℕ) (active : Active M) → state.active session ≡ Some active
    → IsOver domain (log_of state.entries) state.committed active
active_over domain parameters state reached session active e =
    let r = reached.running session active e in
    record { seen = r.seen; version = r.version; read = λ k l. versions_le active.transaction k state.entries; rising = r.rising; unfinished = r.unfinished }

pub active_version : {M : Type 0} (domain : Annotations M) (parameters : Parameters) (state : State M) → IsReached domain parameters state → (session : ℕ) (active : Active M) → state.active session ≡ Some active
    → active.version ≤ versions_in state.entries
active_version domain parameters state reached session active e =
    let r = reached.running session active e in subst (λ v. v ≤ versions_in state.entries) (sym r.version) (versions_le active.transaction active.statements state.entries)

-- before a statement that reads a later version
pub refreshed_view : {M : Type 0} (t k : ℕ) (base view later : Database M) (written : List Written) → IsViewOf t k base view written → ((table : ℕ) → HaveDifferentIdentities (later table))
    → ((table : ℕ) → AllByRecursion (λ row. row.mark ≡ false) (later table)) → ((table : ℕ) → AllByRecursion (λ row. identity_transaction row.identity ≢ t) (later table))
    → IsViewOf t k later (merged later view written) written
refreshed_view t k base view later written is different unmarked others = record {
  tables = λ table. kept_merged (λ id. is_written table id written) (base table) (view table) (later table) (is.tables table) (different table) (unmarked table);
  own = λ table. each_append _ _ _
      (each_filter _ (λ row. identity_transaction row.identity ≢ t) _ (λ row f n e. absurd (n e)) (later table) (others table))
      (each_filter _ (λ row. identity_transaction row.identity ≡ t → identity_statement row.identity ≤ k) _ (λ row f o. o) (view table) (is.own table));
}

-- in a reached state
pub active_view : {M : Type 0} (domain : Annotations M) (parameters : Parameters) (state : State M) → IsReached domain parameters state → (session : ℕ) (active : Active M) → state.active session ≡ Some active
    → IsViewOf active.transaction active.statements (state.committed active.version) active.seen.view (pairs active.seen.written)
active_view domain parameters state reached session active e =
    let over = active_over domain parameters state reached session active e in
    record {
      tables = active_kept domain (log_of state.entries) state.committed state.written reached.history active over;
      own = subst (λ (x : Seen _). MadeBy active.transaction active.statements x.view) (sym over.seen)
          (made_view domain (log_of state.entries) state.committed state.written reached.history active.transaction active.statements
          (active_clean domain (log_of state.entries) state.committed state.written reached.history active over).others);
    }
