-- Every version of a history has different, unmarked rows, made by transactions that committed by then; and each commit is what publishing by marks and
-- absence computes of the run of its transaction.
use Rattle.gp_machine.proofs.Prelude.{◌≡◌, ℕ, zero, suc, ◌<◌, ◌≤◌, Bool, true, false, cond, List, ◌++◌, refl, sym, ap, ◌∙◌, subst, arith, map, Option, Some, None, ⊎_elim, ◌≢◌, ◌||◌, ◌==◌, filter, false≢true, cases_lt, eqb-true, list_any-append, append-nil, Written, Statement, Annotated, Annotations, Database, Environment, Identity, same_identity, identity_statement, identity_transaction, Based, pairs, cleared, is_written, merged, unmarked, Log, IsHistory, holds_identity, publish, Seen, started, wrote_by, seen_by, at_commit, refreshed, run, stepped, HaveDifferentIdentities, AreSeenRows, same_row, unwritten, AllByRecursion, any-map, each_append, each_map, or_nothing}
use Rattle.gp_machine.proofs.BaseLemmas.{each_front, found, is_written_based}
use Rattle.gp_machine.proofs.Distinct.{differ_map, each_all, each_both, each_filter, each_weaker, none_any}
use Rattle.gp_machine.proofs.Made.{same_equal}
use Rattle.gp_machine.proofs.PublishLemmas.{publish_is}
use Rattle.gp_machine.proofs.StepViews.{AllKept, MadeBy, kept_agree, step_each, step_kept}
use Rattle.gp_machine.proofs.ViewLemmas.{holds_each, holds_others, kept_merged, unique_merged}

-- the identity was made by the transaction of one of the first u commits
abbrev pub IsMadeBy : Log → ℕ → Identity → Type 0
IsMadeBy log u id = (v : ℕ) × (v < u) × (identity_transaction id ≡ log.committer (suc v))

-- what holds of a table of a committed database
pub record Sound {M : Type 0} (log : Log) (u : ℕ) (rows : List (Annotated M)) : Type 0 where
  pub different : HaveDifferentIdentities rows
  pub unmarked : AllByRecursion (λ row. row.mark ≡ false) rows
  pub makers : AllByRecursion (λ row. IsMadeBy log u row.identity) rows

module _ {M : Type 0} (domain : Annotations M) (log : Log) (committed : Environment M) (written : ℕ → List Written) (history : IsHistory domain log committed written) where
  abbrev seen : ℕ → ℕ → Seen M
  seen t k = seen_by domain log t k committed

  -- ---- the view of a transaction

  stepped_each : (P : Identity → Type 0) (t k : ℕ) (statement : Option Statement) (view : Database M) → ((n : ℕ) (ids : _) → P (Identity.identity t k n ids)) → ((table : ℕ) → AllByRecursion (λ row. P row.identity) (view table)) →
      (table : ℕ) → AllByRecursion (λ row. P row.identity) (stepped domain t k statement view table)
  stepped_each P t k None view new old = old
  stepped_each P t k (Some statement) view new old = step_each domain P t k statement view new old

  stepped_kept : (t k : ℕ) (statement : Option Statement) (w : List Written) (base view : Database M) → AllKept base view w → MadeBy t k view → AllKept base (stepped domain t (suc k) statement view) (w ++ wrote_by domain t (suc k) statement view)
  stepped_kept t k None w base view kept old = subst (AllKept base view) (sym (append-nil w)) kept
  stepped_kept t k (Some statement) w base view kept old = step_kept domain t k statement w base view kept old

  started_each : (P : Identity → Type 0) (old new : ℕ) (s : Seen M) → ((table : ℕ) → AllByRecursion (λ row. P row.identity) (committed new table)) → ((table : ℕ) → AllByRecursion (λ row. P row.identity) (s.view table)) → (table : ℕ) → AllByRecursion (λ row. P row.identity) (started old new (committed new) s table)
  started_each P old new s a b table =
      elim (new == old) as (λ c. AllByRecursion (λ row. P row.identity) ((cond c s.view (merged (committed new) s.view (pairs s.written))) table)) [
        | true ↦ b table
        | false ↦ each_append _ (unwritten (λ id. is_written table id (pairs s.written)) (committed new table)) (filter (λ row. is_written table row.identity (pairs s.written)) (s.view table))
            (each_filter _ (λ row. P row.identity) _ (λ row e g. g) (committed new table) (a table)) (each_filter _ (λ row. P row.identity) _ (λ row e g. g) (s.view table) (b table))
      ]

  -- what is said of the identities of the versions that t sees and of those that t makes
  view_each : (P : Identity → Type 0) (t k : ℕ) → ((k n : ℕ) (ids : _) → P (Identity.identity t k n ids)) → ((j : ℕ) → j ≤ k → (table : ℕ) → AllByRecursion (λ row. P row.identity) (committed (log.version t j) table)) → (table : ℕ) → AllByRecursion (λ row. P row.identity) ((seen t k).view table)
  view_each P t zero new old = old zero (omega arith)
  view_each P t (suc k) new old =
      stepped_each P t (suc k) (log.statement t (suc k)) (started (log.version t k) (log.version t (suc k)) (committed (log.version t (suc k))) (seen t k)) (λ n ids. new (suc k) n ids)
      (started_each P (log.version t k) (log.version t (suc k)) (seen t k) (old (suc k) (omega arith)) (view_each P t k new (λ j l. old j (omega arith))))

  -- no version that t sees has an identity that t made
  abbrev NotOwn : ℕ → ℕ → Type 0
  NotOwn t k = (j : ℕ) → j ≤ k → (table : ℕ) → AllByRecursion (λ row. identity_transaction row.identity ≢ t) (committed (log.version t j) table)

  made_start : (t k : ℕ) → NotOwn t (suc k) → MadeBy t k (seen t k).view → MadeBy t k (started (log.version t k) (log.version t (suc k)) (committed (log.version t (suc k))) (seen t k))
  made_start t k old made = started_each (λ id. identity_transaction id ≡ t → identity_statement id ≤ k) (log.version t k) (log.version t (suc k)) (seen t k) (λ table. each_weaker _ _ (λ row n e. absurd (n e)) (committed (log.version t (suc k)) table) (old (suc k) (omega arith) table)) made

  pub made_view : (t k : ℕ) → NotOwn t k → MadeBy t k (seen t k).view
  made_view t zero old = λ table. each_weaker _ _ (λ row n e. absurd (n e)) (committed (log.version t zero) table) (old zero (omega arith) table)
  made_view t (suc k) old =
      stepped_each (λ id. identity_transaction id ≡ t → identity_statement id ≤ suc k) t (suc k) (log.statement t (suc k)) (started (log.version t k) (log.version t (suc k)) (committed (log.version t (suc k))) (seen t k)) (λ n ids e. omega arith)
      (λ table. each_weaker _ _ (λ row l e. let m = l e in omega arith) (started (log.version t k) (log.version t (suc k)) (committed (log.version t (suc k))) (seen t k) table) (made_start t k old (made_view t k (λ j l. old j (omega arith))) table))

  -- the versions that t sees
  pub record Clean (t k : ℕ) : Type 0 where
    pub different : (j : ℕ) → j ≤ k → (table : ℕ) → HaveDifferentIdentities (committed (log.version t j) table)
    pub unmarked : (j : ℕ) → j ≤ k → (table : ℕ) → AllByRecursion (λ row. row.mark ≡ false) (committed (log.version t j) table)
    pub others : NotOwn t k

  shorter : (t k : ℕ) → Clean t (suc k) → Clean t k
  shorter t k c = record { different = λ j l. c.different j (omega arith); unmarked = λ j l. c.unmarked j (omega arith); others = λ j l. c.others j (omega arith) }

  pub started_kept : (t k : ℕ) → Clean t (suc k) → AllKept (committed (log.version t k)) (seen t k).view (pairs (seen t k).written) →
      AllKept (committed (log.version t (suc k))) (started (log.version t k) (log.version t (suc k)) (committed (log.version t (suc k))) (seen t k)) (pairs (seen t k).written)
  started_kept t k c kept table =
      elim (log.version t (suc k) == log.version t k) as (λ b. (log.version t (suc k) == log.version t k) ≡ b → AreSeenRows (λ id. is_written table id (pairs (seen t k).written)) (committed (log.version t (suc k)) table)
      ((cond b (seen t k).view (merged (committed (log.version t (suc k))) (seen t k).view (pairs (seen t k).written))) table)) [
        | true ↦ λ e. subst (λ v. AreSeenRows (λ id. is_written table id (pairs (seen t k).written)) (committed v table) ((seen t k).view table)) (sym (eqb-true (log.version t (suc k)) (log.version t k) e)) (kept table)
        | false ↦ λ e. kept_merged (λ id. is_written table id (pairs (seen t k).written)) (committed (log.version t k) table) ((seen t k).view table) (committed (log.version t (suc k)) table) (kept table) (c.different (suc k) (omega arith) table) (c.unmarked (suc k) (omega arith) table)
      ] refl

  pub view_kept : (t k : ℕ) → Clean t k → AllKept (committed (log.version t k)) (seen t k).view (pairs (seen t k).written)
  view_kept t zero c = λ table. record { different = c.different zero (omega arith) table; marks = c.unmarked zero (omega arith) table; others = refl }
  view_kept t (suc k) c = λ table.
      kept_agree _ _ _ _ (λ id. sym (is_written_based table id (log.version t (suc k)) (seen t k).written (wrote_by domain t (suc k) (log.statement t (suc k)) (started (log.version t k) (log.version t (suc k)) (committed (log.version t (suc k))) (seen t k)))))
      (stepped_kept t k (log.statement t (suc k)) (pairs (seen t k).written) (committed (log.version t (suc k))) (started (log.version t k) (log.version t (suc k)) (committed (log.version t (suc k))) (seen t k))
      (started_kept t k c (view_kept t k (shorter t k c))) (made_start t k c.others (made_view t k (λ j l. c.others j (omega arith)))) table)

  -- no statement reads an older version than the one before
  abbrev IsRising : ℕ → ℕ → Type 0
  IsRising t k = (j : ℕ) → j < k → log.version t j ≤ log.version t (suc j)

  begun_before : (t k : ℕ) → IsRising t k → log.version t zero ≤ log.version t k
  begun_before t zero rising = omega arith
  begun_before t (suc k) rising = let earlier = begun_before t k (λ j l. rising j (omega arith)) in let last = rising k (omega arith) in omega arith

  -- then the bases are versions between the one that t began at and the last one that it read
  pub bases_within : (t k : ℕ) → IsRising t k → AllByRecursion (λ (based : Based). (log.version t zero ≤ based.base) × (based.base ≤ log.version t k)) (seen t k).written
  bases_within t zero rising = tt
  bases_within t (suc k) rising =
      let begun = begun_before t (suc k) rising in
      each_append _ (seen t k).written _
      (each_weaker _ _ (λ based w. let last = rising k (omega arith) in (w.0, omega (arith, w.1))) (seen t k).written (bases_within t k (λ j l. rising j (omega arith))))
      (each_map _ (λ pair. Unit {0}) _ (λ pair g. (begun, omega arith)) _ (each_all _ (λ pair. tt) (filter _ (wrote_by domain t (suc k) (log.statement t (suc k)) (started (log.version t k) (log.version t (suc k)) (committed (log.version t (suc k))) (seen t k))))))

  -- ---- one commit

  abbrev IsSound : ℕ → Type 0
  IsSound u = (table : ℕ) → Sound log u (committed u table)

  -- the identities of a version were made by others than the transactions that commit later
  pub not_own : (u v : ℕ) → u < log.versions → v ≤ u → (rows : List (Annotated M)) → AllByRecursion (λ row. IsMadeBy log v row.identity) rows → AllByRecursion (λ row. identity_transaction row.identity ≢ log.committer (suc u)) rows
  not_own u v inside l rows made = each_weaker _ _ (λ row m own. before row m own) rows made
    where
      before : (row : Annotated M) → IsMadeBy log v row.identity → identity_transaction row.identity ≡ log.committer (suc u) → ⊥
      before row (w, below, m) own = let same : w ≡ u = history.once w u (omega arith) inside (sym m ∙ own) in omega arith

  -- an identity that the next commit did not write stands in the next version exactly where it stands in this one
  holds_next : (u table : ℕ) (id : Identity) → u < log.versions → is_written table id (written (suc u)) ≡ false → holds_identity id (committed (suc u) table) ≡ holds_identity id (committed u table)
  holds_next u table id inside e =
      ap (holds_identity id) (history.published u table inside)
      ∙ any-map (λ row. same_identity row.identity id) unmarked (merged (committed u) (seen (log.committer (suc u)) (log.statement_count (log.committer (suc u)))).view (written (suc u)) table)
      ∙ list_any-append (λ row. same_identity row.identity id) (unwritten p (committed u table)) (filter (λ row. p row.identity) view)
      ∙ ap (λ b. b || holds_identity id (filter (λ row. p row.identity) view)) (holds_others p id (committed u table) e)
      ∙ ap (λ b. holds_identity id (committed u table) || b) (none_any _ (filter (λ row. p row.identity) view) (each_filter _ (λ row. Unit {0}) (λ row. p row.identity) (λ row f g. unlike row f) view (each_all _ (λ row. tt) view)))
      ∙ or_nothing (holds_identity id (committed u table))
    where
      p : Identity → Bool
      p id = is_written table id (written (suc u))

      view : List (Annotated M)
      view = (seen (log.committer (suc u)) (log.statement_count (log.committer (suc u)))).view table

      unlike : (row : Annotated M) → p row.identity ≡ true → same_identity row.identity id ≡ false
      unlike row f = elim (same_identity row.identity id) as (λ b. same_identity row.identity id ≡ b → b ≡ false) [
        | true ↦ λ g. absurd (false≢true (sym e ∙ ap p (sym (same_equal row.identity id g)) ∙ f))
        | false ↦ λ g. refl
      ] refl

  -- one that was not written after v stands in a later version exactly where it stands in version v
  pub holds_since : (u v table : ℕ) (id : Identity) → v ≤ u → u ≤ log.versions → ((w : ℕ) → v < w → w ≤ u → is_written table id (written w) ≡ false) → holds_identity id (committed u table) ≡ holds_identity id (committed v table)
  holds_since zero v table id l inside e = let is : v ≡ zero = omega arith in ap (λ w. holds_identity id (committed w table)) (sym is)
  holds_since (suc u) v table id l inside e =
      ⊎_elim
      (λ below. holds_next u table id (omega arith) (e (suc u) (omega arith) (omega arith)) ∙ holds_since u v table id (omega arith) (omega arith) (λ w a b. e w a (omega arith)))
      (λ above. let is : v ≡ suc u = omega arith in ap (λ w. holds_identity id (committed w table)) (sym is))
      (cases_lt v (suc u))

  -- ---- the versions that a transaction that committed saw

  module _ (u : ℕ) (inside : u < log.versions) (sound : (v : ℕ) → v ≤ u → IsSound v) where
    abbrev t : ℕ
    t = log.committer (suc u)

    pub clean : (k : ℕ) → k ≤ log.statement_count t → Clean t k
    clean k l = record {
      different = λ j m table. (sound (log.version t j) (history.order u j inside (omega arith)) table).different;
      unmarked = λ j m table. (sound (log.version t j) (history.order u j inside (omega arith)) table).unmarked;
      others = λ j m table. not_own u (log.version t j) inside (history.order u j inside (omega arith)) (committed (log.version t j) table) (sound (log.version t j) (history.order u j inside (omega arith)) table).makers;
    }

    -- what was written by then was written in the end
    written_front : (P : Based → Type 0) (n k : ℕ) → k ≤ n → AllByRecursion P (seen t n).written → AllByRecursion P (seen t k).written
    written_front P zero k l a = let is : k ≡ zero = omega arith in subst (λ m. AllByRecursion P (seen t m).written) (sym is) a
    written_front P (suc n) k l a =
        ⊎_elim (λ below. written_front P n k (omega arith) (each_front P (seen t n).written _ a)) (λ above. let is : k ≡ suc n = omega arith in subst (λ m. AllByRecursion P (seen t m).written) (sym is) a) (cases_lt k (suc n))

    -- nobody wrote what t wrote, since the version that t saw
    not_rewritten : (k : ℕ) → k ≤ log.statement_count t → (table : ℕ) (id : Identity) → is_written table id (pairs (seen t k).written) ≡ true → (v : ℕ) → log.version t k < v → v ≤ u → is_written table id (written v) ≡ false
    not_rewritten k l table id e =
        found (λ table id. (v : ℕ) → log.version t k < v → v ≤ u → is_written table id (written v) ≡ false) (seen t k).written table id
        (each_both _ _ _ (λ based b f v c d. f v (omega (arith, b.1)) d) (seen t k).written (bases_within t k (λ j m. history.later u j inside (omega arith))) (written_front _ (log.statement_count t) k l (history.first u inside))) e

    pub known : (k v : ℕ) → k ≤ log.statement_count t → log.version t k ≤ v → v ≤ u → (table : ℕ) →
        AllByRecursion (λ row. is_written table row.identity (pairs (seen t k).written) ≡ true → holds_identity row.identity (committed (log.version t k) table) ≡ true) (committed v table)
    known k v l a b table =
        each_weaker _ _ (λ row h e. sym (holds_since v (log.version t k) table row.identity a (omega arith) (λ w c d. not_rewritten k l table row.identity e w c (omega arith))) ∙ h) (committed v table) (holds_each (committed v table))

    -- publishing between two statements gives what the transaction saw before the second
    pub refreshed_is : (k : ℕ) → suc k ≤ log.statement_count t → refreshed (log.version t k) (log.version t (suc k)) committed (seen t k).view ≡ started (log.version t k) (log.version t (suc k)) (committed (log.version t (suc k))) (seen t k)
    refreshed_is k l = elim (log.version t (suc k) == log.version t k) as (λ b. cond b (seen t k).view (publish (committed (log.version t k)) (seen t k).view (committed (log.version t (suc k)))) ≡ cond b (seen t k).view (merged (committed (log.version t (suc k))) (seen t k).view (pairs (seen t k).written))) [
      | true ↦ refl
      | false ↦ λ i table. publish_is (λ id. is_written table id (pairs (seen t k).written)) (committed (log.version t k) table) ((seen t k).view table) (committed (log.version t (suc k)) table)
          (view_kept t k (clean k (omega arith)) table) (known k (log.version t (suc k)) (omega arith) (history.later u k inside (omega arith)) (history.order u (suc k) inside l) table) i
    ]

    -- run again over the committed versions, the transaction sees what it saw
    pub run_is_seen : (k : ℕ) → k ≤ log.statement_count t → run domain log t k committed ≡ (seen t k).view
    run_is_seen zero l = refl
    run_is_seen (suc k) l = ap (stepped domain t (suc k) (log.statement t (suc k))) (ap (refreshed (log.version t k) (log.version t (suc k)) committed) (run_is_seen k (omega arith)) ∙ refreshed_is k l)

  -- the parts of the invariant at the end of the transaction that made version u + 1
  pub kept_at_end : (u : ℕ) → u < log.versions → ((v : ℕ) → v ≤ u → IsSound v) → AllKept (committed (log.version (log.committer (suc u)) (log.statement_count (log.committer (suc u))))) (seen (log.committer (suc u)) (log.statement_count (log.committer (suc u)))).view (written (suc u))
  kept_at_end u inside sound = subst (AllKept _ _) (sym (history.wrote u inside)) (view_kept (log.committer (suc u)) (log.statement_count (log.committer (suc u))) (clean u inside sound (log.statement_count (log.committer (suc u))) (omega arith)))

  -- publishing by marks and absence is the commit
  publish_at_end : (u : ℕ) → u < log.versions → ((v : ℕ) → v ≤ u → IsSound v) → (table : ℕ) → at_commit domain log (log.committer (suc u)) u committed table
      ≡ merged (committed u) (seen (log.committer (suc u)) (log.statement_count (log.committer (suc u)))).view (written (suc u)) table
  publish_at_end u inside sound table =
      let t : ℕ = log.committer (suc u) in
      let n : ℕ = log.statement_count t in
      ap (λ view. publish (committed (log.version t n)) view (committed u) table) (run_is_seen u inside sound n (omega arith))
      ∙ publish_is (λ id. is_written table id (written (suc u))) (committed (log.version t n) table) ((seen t n).view table) (committed u table) (kept_at_end u inside sound table)
      (subst (λ w. AllByRecursion (λ row. is_written table row.identity w ≡ true → holds_identity row.identity (committed (log.version t n) table) ≡ true) (committed u table)) (sym (history.wrote u inside)) (known u inside sound n u (omega arith) (history.order u n inside (omega arith)) (omega arith) table))

  -- ---- all versions

  sound_next : (u : ℕ) → u < log.versions → ((v : ℕ) → v ≤ u → IsSound v) → IsSound (suc u)
  sound_next u inside sound table =
      let t : ℕ = log.committer (suc u) in
      let w : Identity → Bool = λ id. is_written table id (written (suc u)) in
      let view : List (Annotated M) = (seen t (log.statement_count t)).view table in
      subst (Sound log (suc u)) (sym (history.published u table inside)) (record {
        different = differ_map same_row same_row unmarked (λ a b. refl) (unwritten w (committed u table) ++ filter (λ row. w row.identity) view) (unique_merged w (committed u table) view (sound u (omega arith) table).different (kept_at_end u inside sound table).different);
        unmarked = each_map _ (λ row. Unit {0}) unmarked (λ row g. refl) (unwritten w (committed u table) ++ filter (λ row. w row.identity) view) (each_all _ (λ row. tt) (unwritten w (committed u table) ++ filter (λ row. w row.identity) view));
        makers = each_map _ (λ row. IsMadeBy log (suc u) row.identity) unmarked (λ row g. g) (unwritten w (committed u table) ++ filter (λ row. w row.identity) view)
            (each_append _ (unwritten w (committed u table)) (filter (λ row. w row.identity) view)
            (each_filter _ (λ row. IsMadeBy log u row.identity) _ (λ row e m. further row.identity u (omega arith) m) (committed u table) (sound u (omega arith) table).makers)
            (each_filter _ (λ row. IsMadeBy log (suc u) row.identity) _ (λ row e m. m) view
            (view_each (IsMadeBy log (suc u)) t (log.statement_count t) (λ k n ids. (u, omega arith, refl))
            (λ j m o. let l = history.order u j inside m in each_weaker _ _ (λ row m. further row.identity (log.version t j) (omega arith) m) (committed (log.version t j) o) (sound (log.version t j) l o).makers) table)));
      })
    where
      further : (id : Identity) (v : ℕ) → v ≤ suc u → IsMadeBy log v id → IsMadeBy log (suc u) id
      further id v l (w, below, made) = (w, omega arith, made)

  pub all_sound : (u : ℕ) → u ≤ log.versions → (v : ℕ) → v ≤ u → IsSound v
  all_sound zero inside v l =
      let is : v ≡ zero = omega arith in λ table. subst (λ w. Sound log w (committed w table)) (sym is) (subst (Sound log zero) (sym (history.start table)) (record { different = tt; unmarked = tt; makers = tt }))
  all_sound (suc u) inside v l =
      let earlier : (v : ℕ) → v ≤ u → IsSound v = all_sound u (omega arith) in
      ⊎_elim (λ below. earlier v (omega arith)) (λ above. let is : v ≡ suc u = omega arith in subst IsSound (sym is) (sound_next u inside earlier)) (cases_lt v (suc u))

  -- The database that publishing by marks and absence gives for the transaction that made a version is the one that its commit made.
  pub computed_is : (u : ℕ) → u < log.versions → (table : ℕ) → cleared (at_commit domain log (log.committer (suc u)) u committed) table ≡ committed (suc u) table
  computed_is u inside table = ap (map unmarked) (publish_at_end u inside (all_sound u (omega arith)) table) ∙ sym (history.published u table inside)
