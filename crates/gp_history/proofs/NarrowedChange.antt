-- What becomes of a table is told by the rows that matter: those that stay are on both sides.
use Rattle.std.proofs.Common.{◌≡◌, ℕ, suc, ◌==◌, Bool, true, false, true≢false, cond, List, [], ◌∷◌, ◌++◌, map, refl, sym, ap, ◌∙◌, subst, Option, Some, None, Result, Ok, Err, unwrap_or}
use Rattle.std.specs.BTreeMap.{BTreeMap, get}
use Rattle.std.specs.List.{AllByRecursion, filter}
use Rattle.std.specs.List.Sorted.{IsPermutation}
use Rattle.std.specs.Prelude.{not}
use Rattle.std.proofs.lemmas.List.{map-append}
use Rattle.gp_algebra.specs.Statements.{Statement}
use Rattle.gp_base.specs.declared.cell.Cell.{Cell}
use Rattle.gp_base.specs.declared.limit.TheConstants.{MAX_TABLE_ROWS}
use Rattle.gp_base.specs.Annotated.{Annotated, Annotations, Environment, unannotated}
use Rattle.gp_base.specs.Identities.{Identity, Sources, identity, identity_cmp, same_identity}
use Rattle.gp_base.proofs.Bags.{SameBag, behind, mapped, same_from, through, turned}
use Rattle.gp_base.proofs.Permutations.{permuted, unpermuted}
use Rattle.gp_base.proofs.SmallLemmas.{map-map}
use Rattle.gp_exec.specs.declared.error.ExecStop.{ExecStop}
use Rattle.gp_log.specs.Parameters.{parameters}
use Rattle.gp_machine.specs.Annotating.{annotated_row, annotation_of, computed}
use Rattle.gp_machine.specs.Committed.{unmarked}
use Rattle.gp_machine.specs.Entries.{Entry, Log, log_of}
use Rattle.gp_machine.specs.SeenRows.{HaveDifferentIdentities}
use Rattle.gp_machine.proofs.Distinct.{any_filter, each_both}
use Rattle.gp_versions.specs.declared.span.Span.{Span}
use Rattle.gp_versions.specs.Spans.{row_of, spans_at}
use Rattle.gp_versions.specs.TableSpans.{NoOverlap}
use Rattle.gp_versions.proofs.SameLemmas.{same-exact}
use Rattle.gp_history.specs.declared.error.HistoryStop.{HistoryStop}
use Rattle.gp_history.specs.declared.error.HistoryStop.TheVariants.{Inconsistent, Rows, Ancestry, NoMemory}
use Rattle.gp_history.specs.Agreement.{agree, key_of, keys_agree}
use Rattle.gp_history.specs.Changes.{ChangesTable, Finds, FindsRows, Publishes, held, limited_to, made, maker, maker_stop, past, past_of, published_whole, published_of, stop_within}
use Rattle.gp_history.specs.Matching.{keys_of}
use Rattle.gp_history.specs.Narrowing.{IsRead, at_begin, at_end, of_commit}
use Rattle.gp_history.specs.SpanAnnotations.{AreAnnotated, versions_with}
use Rattle.gp_history.proofs.AgreementLemmas.{keys_from, keys_moved, keys_permuted}
use Rattle.gp_history.proofs.Cancelling.{cancel, parted}
use Rattle.gp_history.proofs.CommitLemmas.{keys_same, notes_found, published_differ, unmarked_keys}
use Rattle.gp_history.proofs.NarrowLemmas.{AreUnmarked, HasRoom, Leaves, Narrows, commit_narrows, none_stops, others, stayers}
use Rattle.gp_history.proofs.SpanLemmas.{versions_are}

same_tests : (a b : Bool) → (a ≡ true → b ≡ true) → (b ≡ true → a ≡ true) → a ≡ b
same_tests true b to from = sym (to refl)
same_tests false true to from = from refl
same_tests false false to from = refl

-- ---- rows

module _ {M : Type 0} where
  others_differ : (p : Annotated M → Bool) (rows : List (Annotated M)) → HaveDifferentIdentities rows → HaveDifferentIdentities (filter p rows)
  others_differ p [] d = tt
  others_differ p (row ∷ rows) d =
      elim (p row) as (λ b. HaveDifferentIdentities (cond b (row ∷ filter p rows) (filter p rows))) [
        | true ↦ (any_filter (λ other. same_identity other.identity row.identity) p rows d.0, others_differ p rows d.1)
        | false ↦ others_differ p rows d.1
      ]

  -- an identity that does not stay has its annotation among the others
  annotation_away : (domain : Annotations M) (stays : Identity → Bool) (id : Identity) → stays id ≡ false → (rows : List (Annotated M))
      → annotation_of domain id (map unmarked (others stays rows)) ≡ annotation_of domain id (map unmarked rows)
  annotation_away domain stays id away [] = refl
  annotation_away domain stays id away (row ∷ rows) = by (stays row.identity) refl (annotation_away domain stays id away rows)
    where
      other : same_identity row.identity id ≡ true → stays row.identity ≡ true → ⊥
      other same here = true≢false (sym here ∙ ap stays (same-exact row.identity id same) ∙ away)

      passed : stays row.identity ≡ true → (b : Bool) → same_identity row.identity id ≡ b
          → annotation_of domain id (map unmarked rows) ≡ cond b row.annotation (annotation_of domain id (map unmarked rows))
      passed here true same = absurd (other same here)
      passed here false same = refl

      by : (b : Bool) → stays row.identity ≡ b → annotation_of domain id (map unmarked (others stays rows)) ≡ annotation_of domain id (map unmarked rows)
          → annotation_of domain id (map unmarked (cond (not b) (row ∷ others stays rows) (others stays rows))) ≡ annotation_of domain id (map unmarked (row ∷ rows))
      by true here rest = rest ∙ passed here (same_identity row.identity id) refl
      by false here rest = ap (cond (same_identity row.identity id) row.annotation) rest

-- ---- keys

-- keys on both sides do not matter
keys_cancel : (keys few all few_all kept : List (List Cell)) → SameBag keys (few ++ kept) → SameBag all (few_all ++ kept) → keys_agree few few_all ≡ keys_agree keys all
keys_cancel keys few all few_all kept one two =
    same_tests (keys_agree few few_all) (keys_agree keys all)
    (λ agrees. keys_permuted keys all (permuted keys all (through one (through (behind kept (unpermuted few few_all (keys_from few few_all agrees))) (turned two)))))
    (λ agrees. keys_permuted few few_all (permuted few few_all (cancel few few_all kept (through (turned one) (through (unpermuted keys all (keys_from keys all agrees)) two)))))

-- rows in two parts
module _ {M : Type 0} (stays : Identity → Bool) (all few kept : List (Annotated M)) (others_are : few ≡ others stays all) (stayers_are : stayers stays all ≡ kept) where
  parts_are : SameBag all (few ++ kept)
  parts_are = subst (λ (rows : List (Annotated M)). SameBag all (rows ++ kept)) (sym others_are) (subst (λ (rows : List (Annotated M)). SameBag all (others stays all ++ rows)) stayers_are (parted (λ row. stays row.identity) all))

  key_parts : SameBag (map key_of all) (map key_of few ++ map key_of kept)
  key_parts = through (mapped key_of parts_are) (same_from (map key_of (few ++ kept)) (map key_of few ++ map key_of kept) (map-append key_of few kept))

-- ---- one commit

module _ {M : Type 0} (domain : Annotations M) (entries : List Entry) (spans few : ℕ → List Span) (before most : ℕ) (stays : ℕ → Identity → Bool) (kept : ℕ → List (Annotated M))
    (narrows : (v : ℕ) → IsRead (log_of entries) (maker (log_of entries) before) before v
    → Narrows stays kept (past domain (log_of entries) spans before v) (past_of domain (log_of entries) spans before few v))
    (kept_unmarked : (table : ℕ) → AreUnmarked (kept table))
    (not_own : (table k n : ℕ) (ids : Sources) → stays table (identity (maker (log_of entries) before) k n ids) ≡ false)
    (all_leave : (k : ℕ) (statement : Statement) → (log_of entries).statement (maker (log_of entries) before) k ≡ Some statement → Leaves kept statement)
    (all_room : (k : ℕ) (statement : Statement) → (log_of entries).statement (maker (log_of entries) before) k ≡ Some statement → HasRoom domain stays kept most MAX_TABLE_ROWS statement) where
  abbrev log : Log
  log = log_of entries

  abbrev t : ℕ
  t = maker (log_of entries) before

  abbrev version : ℕ
  version = suc before

  -- what is published of the others is published of them by the whole run
  commit : Narrows stays kept (published_whole domain log spans before) (published_of domain log spans before few)
  commit =
      commit_narrows domain stays kept kept_unmarked log t not_own all_leave (past domain log spans before) (past_of domain log spans before few) before
      (λ j within. narrows (log.version t j) (at_begin within)) (narrows before at_end)

  -- which does not stop either
  not_stopped : stop_within domain log spans before few most ≡ None → maker_stop domain log spans before ≡ None
  not_stopped none =
      none_stops domain stays kept parameters (limited_to most) refl kept_unmarked log t not_own all_leave all_room (past domain log spans before) (past_of domain log spans before few)
      (log.statement_count t) (λ j within. narrows (log.version t j) (at_begin within)) none

  -- the keys of the spans that hold the version
  keys_held : (own : ℕ → List Span) (table : ℕ) → map key_of (past_of domain log spans before own version table) ≡ keys_of version (own table)
  keys_held own table = map-map key_of (annotated_row domain (computed domain log spans before) table) (spans_at version (own table)) ∙ sym (map-map key_of (row_of unannotated) (spans_at version (own table)))

  module _ (table : ℕ) (rows : List (Annotated M)) (moved : IsPermutation rows (published_of domain log spans before few table)) where
    abbrev all : List (Annotated M)
    all = published_whole domain log spans before table

    abbrev own : List (Annotated M)
    own = published_of domain log spans before few table

    keys : keys_agree (map key_of rows) (keys_of version (few table)) ≡ agree (made domain log spans before table) (held domain log spans before table)
    keys =
        keys_moved (map key_of rows) (map key_of own) (keys_of version (few table)) (permuted (map key_of rows) (map key_of own) (mapped key_of (unpermuted rows own moved)))
        ∙ keys_cancel (map key_of all) (map key_of own) (keys_of version (spans table)) (keys_of version (few table)) (map key_of (kept table))
        (key_parts (stays table) all own (kept table) (commit.others_are table) (commit.stayers_are table))
        (subst (λ (keys : List (List Cell)). SameBag keys (keys_of version (few table) ++ map key_of (kept table))) (keys_held spans table)
        (subst (λ (keys : List (List Cell)). SameBag (map key_of (past domain log spans before version table)) (keys ++ map key_of (kept table))) (keys_held few table)
        (key_parts (stays table) (past domain log spans before version table) (past_of domain log spans before few version table) (kept table)
        ((narrows version of_commit).others_are table) ((narrows version of_commit).stayers_are table))))
        ∙ (λ i. keys_agree (sym (unmarked_keys all) i) (keys_same domain version (spans table) i))

    -- annotations of the rows that matter are those of all rows
    finds_away : (found : BTreeMap Identity M) (own_spans : List Span) → AllByRecursion (λ (span : Span). (span.from == version) ≡ true → stays table span.id ≡ false) own_spans
        → Finds domain version found own_spans (map unmarked own) → Finds domain version found own_spans (made domain log spans before table)
    finds_away found own_spans away finds =
        each_both (λ (span : Span). (span.from == version) ≡ true → unwrap_or (get identity_cmp found span.id) domain.one ≡ annotation_of domain span.id (made domain log spans before table))
        (λ (span : Span). (span.from == version) ≡ true → stays table span.id ≡ false)
        (λ (span : Span). (span.from == version) ≡ true → unwrap_or (get identity_cmp found span.id) domain.one ≡ annotation_of domain span.id (map unmarked own))
        (λ span begun is begins.
        is begins ∙ ap (λ (rows : List (Annotated M)). annotation_of domain span.id (map unmarked rows)) (commit.others_are table)
        ∙ annotation_away domain (stays table) span.id (begun begins) all)
        own_spans away finds

    -- so the rows that are found over few spans say what becomes of the table
    pub narrow_change : stop_within domain log spans before few most ≡ None → NoOverlap (spans table)
        → AllByRecursion (λ (span : Span). (span.from == version) ≡ true → stays table span.id ≡ false) (few table)
        → ((found : BTreeMap Identity M) → Finds domain version found (few table) (made domain log spans before table) → Finds domain version found (spans table) (made domain log spans before table))
        → (result : Result (Option (BTreeMap Identity M)) HistoryStop) → FindsRows rows (few table) version table result → ChangesTable domain log spans before table result
    narrow_change none apart away finds_all result finds = by result finds
      where
        differ : agree (made domain log spans before table) (held domain log spans before table) ≡ true → HaveDifferentIdentities own
        differ same =
            subst (λ (rows : List (Annotated M)). HaveDifferentIdentities rows) (sym (commit.others_are table))
            (others_differ (λ row. not (stays table row.identity)) all (published_differ domain entries spans before table apart same))

        by : (result : Result (Option (BTreeMap Identity M)) HistoryStop) → FindsRows rows (few table) version table result → ChangesTable domain log spans before table result
        by (Ok None) finds = absurd finds
        by (Ok (Some notes)) finds =
            let same = sym keys ∙ finds.0 in
            (not_stopped none, (same, finds_all notes (finds_away notes (few table) away (notes_found domain version rows own (unpermuted rows own moved) (differ same) notes (few table) finds.1))))
        by (Err (Inconsistent u place)) finds = (not_stopped none, (sym keys ∙ finds.0, finds.1))
        by (Err (Rows u k)) finds = absurd finds
        by (Err (Ancestry u k)) finds = absurd finds
        by (Err NoMemory) finds = tt

-- ---- all rows

module _ {M : Type 0} (domain : Annotations M) (log : Log) (spans few : ℕ → List Span) (before : ℕ) (same : (table : ℕ) → few table ≡ spans table) where
  -- all spans with their annotations are the versions before
  pub whole_past : (known : List (List M)) → AreAnnotated domain log spans before known → (versions : Environment M) → ((version table : ℕ) → versions version table ≡ versions_with spans known version table)
      → (version table : ℕ) → versions version table ≡ past_of domain log spans before few version table
  whole_past known are versions hold version table =
      hold version table ∙ (λ i. versions_are domain log spans before known are i version table)
      ∙ (λ i. map (annotated_row domain (computed domain log spans before) table) (spans_at version (sym (same table) i)))

  pub whole_fits : (P : ℕ → Span → Type 0) → ((table : ℕ) → AllByRecursion (P table) (spans table)) → (table : ℕ) → AllByRecursion (P table) (few table)
  whole_fits P fit table = subst (λ (all : List Span). AllByRecursion (P table) all) (sym (same table)) (fit table)

  -- and are run to the end
  pub whole_publishes : (most : ℕ) → most ≡ MAX_TABLE_ROWS → {X : Type 0} (view : X → List (Annotated M)) (table : ℕ) (result : Result X ExecStop)
      → Publishes domain log spans before few most view table result → Publishes domain log spans before spans MAX_TABLE_ROWS view table result
  whole_publishes most is view table result ran =
      subst (λ (limit : ℕ). Publishes domain log spans before spans limit view table result) is
      (subst (λ (own : ℕ → List Span). Publishes domain log spans before own most view table result) (λ i. λ place. same place i) ran)
