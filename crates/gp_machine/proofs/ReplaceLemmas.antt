-- Publishing a view puts the rows that were written in place of those of a later table, and the first committer wins, so a commit may publish.
use Rattle.gp_machine.proofs.Prelude.{◌≡◌, ℕ, ◌<◌, ◌≤◌, Bool, true, false, cond, List, [], ◌∷◌, ◌++◌, refl, sym, ap, ◌∙◌, subst, arith, map, None, ◌||◌, ◌&&◌, not, AllByRecursion, filter, append-nil, map-append, filter-append, Written, Annotated, Annotations, Database, Identity, same_identity, Based, pairs, cleared, is_written, next_version, unmarked, log_of, versions_in, conflict_of, IsFirst, Parameters, holds_identity, publish, IsReached, Active, State, HaveDifferentIdentities, AreSeenRows, IsViewOf, unwritten}
use Rattle.gp_machine.proofs.BaseLemmas.{found}
use Rattle.gp_machine.proofs.CommitLemmas.{holds_since}
use Rattle.gp_machine.proofs.Distinct.{each_all, each_both, each_filter, each_weaker, filter-filter, filter_each, filter_none}
use Rattle.gp_machine.proofs.Made.{same_equal}
use Rattle.gp_machine.proofs.PublishLemmas.{publish_is}
use Rattle.gp_machine.proofs.ReachedLemmas.{not_lost}
use Rattle.gp_machine.proofs.ViewLemmas.{holds_each, unique_merged}
use Rattle.gp_machine.specs.Replacing.{AddsNoneOf, Replaces, rows_of_identity}

-- a test of identities, at a row that has this one
test_at : (r : Identity → Bool) (id : Identity) (b : Bool) → r id ≡ b → (other : Identity) → (r other && same_identity other id) ≡ (b && same_identity other id)
test_at r id b e other = elim (same_identity other id) as (λ c. same_identity other id ≡ c → (r other && c) ≡ (b && c)) [
  | true ↦ λ f. ap (λ d. d && true) (ap r (same_equal other id f) ∙ e)
  | false ↦ λ f. nothing (r other) b
] refl
  where
    nothing : (a b : Bool) → (a && false) ≡ (b && false)
    nothing true true = refl
    nothing true false = refl
    nothing false true = refl
    nothing false false = refl

module _ {M : Type 0} where
  -- ---- the rows with one identity

  -- they stay where their identity passes, and are gone where it does not
  rows_kept : (r : Identity → Bool) (id : Identity) (rows : List (Annotated M)) → r id ≡ true → rows_of_identity id (filter (λ row. r row.identity) rows) ≡ rows_of_identity id rows
  rows_kept r id rows e = filter-filter (λ row. same_identity row.identity id) (λ row. r row.identity) rows ∙ filter_each _ _ rows (each_all _ (λ row. test_at r id true e row.identity) rows)

  rows_gone : (r : Identity → Bool) (id : Identity) (rows : List (Annotated M)) → r id ≡ false → rows_of_identity id (filter (λ row. r row.identity) rows) ≡ []
  rows_gone r id rows e = filter-filter (λ row. same_identity row.identity id) (λ row. r row.identity) rows ∙ filter_none _ rows (each_all _ (λ row. test_at r id false e row.identity) rows)

  holds_with : (id : Identity) (rows : List (Annotated M)) → holds_identity id (rows_of_identity id rows) ≡ holds_identity id rows
  holds_with id [] = refl
  holds_with id (row ∷ rows) = elim (same_identity row.identity id) as (λ b. same_identity row.identity id ≡ b → holds_identity id (cond b (row ∷ rows_of_identity id rows) (rows_of_identity id rows)) ≡ (b || holds_identity id rows)) [
    | true ↦ λ e. ap (λ b. b || holds_identity id (rows_of_identity id rows)) e
    | false ↦ λ e. holds_with id rows
  ] refl

  -- ---- a table that is published

  pub unchanged_adds_none : (p : Identity → Bool) (base later : List (Annotated M)) → ((id : Identity) → p id ≡ true → rows_of_identity id later ≡ rows_of_identity id base) → AddsNoneOf p base later
  unchanged_adds_none p base later same id e f = sym (holds_with id base) ∙ ap (holds_identity id) (sym (same id e)) ∙ holds_with id later ∙ f

  module _ (p : Identity → Bool) (base view later : Database M) (table : ℕ) (kept : AreSeenRows p (base table) (view table)) (none : AddsNoneOf p (base table) (later table)) where
    published_is : publish base view later table ≡ unwritten p (later table) ++ filter (λ row. p row.identity) (view table)
    published_is = publish_is p (base table) (view table) (later table) kept (each_weaker _ _ (λ row f e. none row.identity e f) (later table) (holds_each (later table)))

    pub published_rows : publish base view later table ≡ unwritten p (later table) ++ filter (λ row. row.mark) (view table)
    published_rows = published_is ∙ ap (λ rows. unwritten p (later table) ++ rows) (sym (filter_each _ _ (view table) kept.marks))

    rows_published : (id : Identity) → rows_of_identity id (publish base view later table) ≡ rows_of_identity id (unwritten p (later table)) ++ rows_of_identity id (filter (λ row. p row.identity) (view table))
    rows_published id = ap (rows_of_identity id) published_is ∙ filter-append (λ row. same_identity row.identity id) (unwritten p (later table)) (filter (λ row. p row.identity) (view table))

    pub published_replaces : Replaces p (later table) (view table) (publish base view later table)
    published_replaces = record {
      rows = published_rows;
      others = λ id e. rows_published id ∙ ap (λ rows. rows_of_identity id (unwritten p (later table)) ++ rows) (rows_gone p id (view table) e) ∙ append-nil (rows_of_identity id (unwritten p (later table)))
          ∙ rows_kept (λ id. not (p id)) id (later table) (ap not e);
      own = λ id e. rows_published id ∙ ap (λ rows. rows ++ rows_of_identity id (filter (λ row. p row.identity) (view table))) (rows_gone (λ id. not (p id)) id (later table) (ap not e)) ∙ rows_kept p id (view table) e;
      different = λ d. subst HaveDifferentIdentities (sym published_is) (unique_merged p (later table) (view table) d kept.different);
    }

    -- with no marks left
    pub published_cleared : AllByRecursion (λ row. row.mark ≡ false) (later table)
        → cleared (publish base view later) table ≡ unwritten p (later table) ++ map unmarked (filter (λ row. row.mark) (view table))
    published_cleared unmarked_rows =
        ap (map unmarked) published_rows ∙ map-append unmarked (unwritten p (later table)) (filter (λ row. row.mark) (view table))
        ∙ ap (λ rows. rows ++ map unmarked (filter (λ row. row.mark) (view table))) (stay (unwritten p (later table)) (each_filter _ (λ row. row.mark ≡ false) _ (λ row t e. e) (later table) unmarked_rows))
      where
        stay : (rows : List (Annotated M)) → AllByRecursion (λ row. row.mark ≡ false) rows → map unmarked rows ≡ rows
        stay [] a = refl
        stay (row ∷ rows) a = λ i. record row { mark = sym a.0 i } ∷ stay rows a.1 i

  -- what a commit publishes of a view
  pub published_next : (t k : ℕ) (base view later : Database M) (written : List Written) → IsViewOf t k base view written → (table : ℕ) → AddsNoneOf (λ id. is_written table id written) (base table) (later table)
      → cleared (publish base view later) table ≡ next_version later view written table
  published_next t k base view later written is table none = ap (map unmarked) (published_is (λ id. is_written table id written) base view later table (is.tables table) none)

-- the newest version, against one that is not before the bases of the rows that a transaction wrote, whose commit is not lost
pub won_adds_none : {M : Type 0} (domain : Annotations M) (parameters : Parameters) (state : State M) → IsReached domain parameters state → (active : Active M) → conflict_of state active ≡ None
    → (version : ℕ) → version ≤ versions_in state.entries → AllByRecursion (λ (based : Based). based.base ≤ version) active.seen.written
    → (table : ℕ) → AddsNoneOf (λ id. is_written table id (pairs active.seen.written)) (state.committed version table) (state.committed (versions_in state.entries) table)
won_adds_none domain parameters state reached active won version l bases table id e f =
    let n = versions_in state.entries in
    let first : AllByRecursion (IsFirst state.written n) active.seen.written = not_lost state.written n active.seen.written won in
    sym (holds_since domain (log_of state.entries) state.committed state.written reached.history n version table id l (omega arith)
    (found (λ table id. (v : ℕ) → version < v → v ≤ n → is_written table id (state.written v) ≡ false) active.seen.written table id
    (each_both _ _ _ (λ based b f v c d. f v (omega arith) d) active.seen.written bases first) e)) ∙ f
