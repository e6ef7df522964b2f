-- A homomorphism of annotations commutes with runs, with commits, with the states that questions ask about, and with where a run stops. So the
-- rows of those states do not depend on annotations.
use Rattle.gp_machine.proofs.Prelude.{◌≡◌, ℕ, zero, suc, Bool, true, false, cond, List, [], ◌∷◌, ◌++◌, refl, sym, ap, ◌∙◌, map, Option, Some, None, ◌&&◌, ◌==◌, not, filter, option_or, map-append, Annotations, Annotated, Database, Environment, unannotated, Identity, same_identity, answer, IsHomomorphism, database_reannotated, element_reannotated, forgotten, reannotated, Select, Statement, answer_reannotated, is_over_nodes_reannotated, is_over_rows_reannotated, step_reannotated, cleared, unmarked, Entry, Log, log_of, version_of, Parameters, OverRows, OverNodes, at_point, version_or_empty, held_at, run_stop, statement_stop, version_before, holds_identity, publish, was_written, at_commit, refreshed, run, run_before, stepped, State, state_reannotated, any-map, filter-map, map-map}
use Rattle.gp_grammar.specs.Syntax as y
use Rattle.gp_algebra.specs.Answers.{cells_of}
use Rattle.gp_algebra.proofs.Erasure.{Reannotates}
use Rattle.gp_machine.specs.StateReannotation.{AreEqualButForAnnotations}

module _ {M N : Type 0} (h : M → N) where
  -- each version is the other one's with other annotations
  abbrev pub VersionsReannotate : Environment M → Environment N → Type 0
  VersionsReannotate a b = (version : ℕ) → Reannotates h (a version) (b version)

  holds_reannotated : (id : Identity) (rows : List (Annotated M)) → holds_identity id (map (reannotated h) rows) ≡ holds_identity id rows
  holds_reannotated id rows = any-map (λ row. same_identity row.identity id) (reannotated h) rows

  written_reannotated : (base mine : List (Annotated M)) (id : Identity) → was_written (map (reannotated h) base) (map (reannotated h) mine) id ≡ was_written base mine id
  written_reannotated base mine id =
      rw (any-map (λ row. row.mark && same_identity row.identity id) (reannotated h) mine, holds_reannotated id base, holds_reannotated id mine) refl

  filtered_alike : (p q : Annotated M → Bool) → ((row : Annotated M) → p row ≡ q row) → (rows : List (Annotated M)) → filter p rows ≡ filter q rows
  filtered_alike p q same [] = refl
  filtered_alike p q same (row ∷ rows) = λ i. cond (same row i) (row ∷ filtered_alike p q same rows i) (filtered_alike p q same rows i)

  publish_reannotated : (a b c : Database M) (d e f : Database N) → Reannotates h a d → Reannotates h b e → Reannotates h c f → Reannotates h (publish a b c) (publish d e f)
  publish_reannotated a b c d e f base mine later table =
      rw (base table, mine table, later table, filter-map (λ row. not (was_written (map (reannotated h) (a table)) (map (reannotated h) (b table)) row.identity)) (reannotated h) (c table), filter-map (λ row. row.mark) (reannotated h) (b table))
      (ap (λ rows. map (reannotated h) rows ++ map (reannotated h) (filter (λ row. row.mark) (b table)))
      (filtered_alike _ _ (λ row. ap not (written_reannotated (a table) (b table) row.identity)) (c table))
      ∙ sym (map-append (reannotated h) (filter (λ row. not (was_written (a table) (b table) row.identity)) (c table)) (filter (λ row. row.mark) (b table))))

  pub cleared_reannotated : (a : Database M) (b : Database N) → Reannotates h a b → Reannotates h (cleared a) (cleared b)
  cleared_reannotated a b same table = ap (map unmarked) (same table) ∙ map-map unmarked (reannotated h) (a table) ∙ sym (map-map (reannotated h) unmarked (a table))

module _ {M N : Type 0} (domain : Annotations M) (other : Annotations N) (h : M → N) (keeps : IsHomomorphism domain other h) (a : Environment M) (b : Environment N) (are : VersionsReannotate h a b) where
  stepped_reannotated : (t k : ℕ) (statement : Option Statement) (c : Database M) (d : Database N) → Reannotates h c d → Reannotates h (stepped domain t k statement c) (stepped other t k statement d)
  stepped_reannotated t k None c d same = same
  stepped_reannotated t k (Some statement) c d same = step_reannotated domain other h keeps t k statement c d same

  -- what a transaction reads at a later version
  refreshed_reannotated : (old new : ℕ) (c : Database M) (d : Database N) → Reannotates h c d → Reannotates h (refreshed old new a c) (refreshed old new b d)
  refreshed_reannotated old new c d same =
      elim (new == old) as (λ test. Reannotates h (cond test c (publish (a old) c (a new))) (cond test d (publish (b old) d (b new)))) [
        | true ↦ same
        | false ↦ publish_reannotated h (a old) c (a new) (b old) d (b new) (are old) same (are new)
      ]

  pub run_reannotated : (log : Log) (t k : ℕ) → Reannotates h (run domain log t k a) (run other log t k b)
  run_reannotated log t zero = are (log.version t zero)
  run_reannotated log t (suc k) =
      stepped_reannotated t (suc k) (log.statement t (suc k)) (run_before domain log t k a) (run_before other log t k b)
      (refreshed_reannotated (log.version t k) (log.version t (suc k)) (run domain log t k a) (run other log t k b) (run_reannotated log t k))

  pub before_reannotated : (log : Log) (t k : ℕ) → Reannotates h (run_before domain log t k a) (run_before other log t k b)
  before_reannotated log t k =
      refreshed_reannotated (log.version t k) (log.version t (suc k)) (run domain log t k a) (run other log t k b) (run_reannotated log t k)

  pub at_commit_reannotated : (log : Log) (t before : ℕ) → Reannotates h (at_commit domain log t before a) (at_commit other log t before b)
  at_commit_reannotated log t before =
      let last = log.version t (log.statement_count t) in
      publish_reannotated h (a last) (run domain log t (log.statement_count t) a) (a before)
      (b last) (run other log t (log.statement_count t) b) (b before)
      (are last) (run_reannotated log t (log.statement_count t)) (are before)

  pub at_point_reannotated : (entries : List Entry) (point : y.Point) → Reannotates h (at_point domain entries point a) (at_point other entries point b)
  at_point_reannotated entries (y.as_of version) = are version
  at_point_reannotated entries (y.after t k) = run_reannotated (log_of entries) t k
  at_point_reannotated entries (y.Point.commit t) = at_commit_reannotated (log_of entries) t (version_before (version_of t entries))

  -- the rows of an answer
  pub cells_reannotated : (entries : List Entry) (point : y.Point) (select : Select)
      → cells_of (answer other select (at_point other entries point b)) ≡ cells_of (answer domain select (at_point domain entries point a))
  cells_reannotated entries point select =
      ap cells_of (answer_reannotated domain other h keeps select (at_point domain entries point a) (at_point other entries point b) (at_point_reannotated entries point))
      ∙ map-map (λ element. element.cells) (element_reannotated h) (answer domain select (at_point domain entries point a))

  module _ (parameters : Parameters) (log : Log) (t : ℕ) where
    statement_stop_reannotated : (k : ℕ) (statement : Option Statement) (c : Database M) (d : Database N) → Reannotates h c d
        → statement_stop other parameters t k statement d ≡ statement_stop domain parameters t k statement c
    statement_stop_reannotated k None c d same = refl
    statement_stop_reannotated k (Some statement) c d same =
        let rows = is_over_rows_reannotated domain other h keeps parameters.rows t k statement c d same in
        let nodes = is_over_nodes_reannotated domain other h keeps parameters.nodes t k statement c d same in
        λ i. cond (rows i) (Some (OverRows t k)) (cond (nodes i) (Some (OverNodes t k)) None)

    pub run_stop_reannotated : (k : ℕ) → run_stop other parameters log t k b ≡ run_stop domain parameters log t k a
    run_stop_reannotated zero = refl
    run_stop_reannotated (suc k) =
        let earlier = run_stop_reannotated k in
        let now = statement_stop_reannotated (suc k) (log.statement t (suc k)) (run_before domain log t k a) (run_before other log t k b) (before_reannotated log t k) in
        λ i. option_or (earlier i) (now i)

-- ---- rows without their annotations

-- forgetting annotations keeps one, products and tokens, whatever they are
pub forgotten_keeps : {M : Type 0} (domain : Annotations M) → IsHomomorphism domain unannotated forgotten
forgotten_keeps domain = record { one = refl; times = λ a b. refl; token = λ token. refl }

module _ {M N : Type 0} (domain : Annotations M) (other : Annotations N) where
  -- both are the states over the same rows without annotations
  pub rows_agree : (entries : List Entry) (point : y.Point) (a : Environment M) (b : Environment N) → ((version : ℕ) → AreEqualButForAnnotations (a version) (b version))
      → AreEqualButForAnnotations (at_point domain entries point a) (at_point other entries point b)
  rows_agree entries point a b same table =
      sym (at_point_reannotated other unannotated forgotten (forgotten_keeps other) b (λ version. database_reannotated forgotten (a version)) (λ version table. sym (same version table)) entries point table)
      ∙ at_point_reannotated domain unannotated forgotten (forgotten_keeps domain) a (λ version. database_reannotated forgotten (a version)) (λ version table. refl) entries point table

-- the states that a history held
pub held_reannotated : {M N : Type 0} (h : M → N) (state : State M) (point : y.Point) → Reannotates h (held_at state point) (held_at (state_reannotated h state) point)
held_reannotated h state (y.as_of version) table = refl
held_reannotated h state (y.after t k) table = refl
held_reannotated h state (y.Point.commit t) table = go (version_of t state.entries)
  where
    go : (version : Option ℕ) → version_or_empty version (state_reannotated h state).committed table ≡ map (reannotated h) (version_or_empty version state.committed table)
    go None = refl
    go (Some version) = refl
