-- After a commit: its writes, the number of spans, and whose rows they are.
use Rattle.std.proofs.Common.{◌≡◌, ◌≢◌, ℕ, zero, suc, ◌+◌, ◌<◌, ◌≤◌, Bool, true, false, not, ◌||◌, List, [], ◌∷◌, ◌++◌, map, length, Option, Some, None, refl, ap, sym, ◌∙◌, subst, arith, inl, inr}
use Rattle.std.specs.List.{filter, filter_map, cons_option, AllByRecursion}
use Rattle.std.specs.Option.{is_none, is_some, option_map}
use Rattle.std.proofs.lemmas.Bool.{cases_lt, false≢true, or_left}
use Rattle.std.proofs.lemmas.List.Folds.{list_any-append}
use Rattle.std.proofs.Math.ListN.{get_or-eq_default}
use Rattle.gp_base.specs.declared.cell.Cell.{Cell}
use Rattle.gp_base.specs.declared.stored.Stored.{Stored}
use Rattle.gp_base.specs.Annotated.{unannotated}
use Rattle.gp_base.specs.Identities.{Identity, same_identity}
use Rattle.gp_base.specs.IdentityParts.{identity_transaction}
use Rattle.gp_versions.specs.declared.span.Span.{Span}
use Rattle.gp_versions.specs.declared.span.Write.{Write}
use Rattle.gp_versions.specs.Commits.{after_commit, begun, ended, is_written, live_rows}
use Rattle.gp_versions.specs.Spans.{Versions}
use Rattle.gp_versions.proofs.SpanLemmas.{ended_id}
use Rattle.gp_versions.proofs.SameLemmas.{same-exact}
use Rattle.gp_txn.specs.declared.carried.Carried.{Carried}
use Rattle.gp_txn.specs.declared.overlay.TableWrites.{TableWrites}
use Rattle.gp_txn.specs.Committing.{Commits, commit_of, unmarked, view_below}
use Rattle.gp_txn.specs.Counts.{count_rows}
use Rattle.gp_txn.specs.Bases.{table_view}
use Rattle.gp_txn.specs.Overlay.{Overlay, PlainRow, carried_row, carried_write, overlay_of, own_row, own_write, rows_below, slot_writes, table_writes}
use Rattle.gp_txn.specs.Prepared.{AreWritesOf}
use Rattle.gp_txn.specs.Transactions.{AreOthers, AreThere, HoldsOthers, HoldsOwn, HoldsThere, Writes, base_at, database_below, has_span, no_table, overlay_at, table_at, view_at, writes_at}
use Rattle.gp_txn.proofs.CommitLemmas.{AreMadeBy, inserted-own, slots-all, writes-own}
use Rattle.gp_txn.proofs.PairLemmas.{all-weaker}
use Rattle.gp_txn.proofs.PlacedLemmas.{overlay-after}
use Rattle.gp_txn.proofs.RebaseLemmas.{view-nowhere}
use Rattle.gp_txn.proofs.VersionLemmas.{live-view, unwritten-none}
use Rattle.gp_base.proofs.SmallLemmas.{length-map}

-- ---- what a transaction commits to a table

none-behind : (xs ys : List PlainRow) → xs ++ ys ≡ [] → ys ≡ []
none-behind [] ys none = none
none-behind (x ∷ xs) ys none = absurd (cc)

no-own : (own : List Stored) → map own_row own ≡ [] → own ≡ []
no-own [] none = refl
no-own (stored ∷ own) none = absurd (cc)

no-carried : (carried : List Carried) → AreThere [] carried → carried ≡ []
no-carried [] there = refl
no-carried (row ∷ rows) there = absurd (false≢true there.0)

-- a table without row versions, of which the transaction sees no rows
table-none : (table : Overlay) (version : ℕ) → AreThere [] table.carried → table_view table [] version ≡ [] → table_writes table (rows_below table []) ≡ []
table-none table version there none =
    let own = no-own table.own (none-behind (filter_map carried_row table.carried) (map own_row table.own) (sym (view-nowhere table version) ∙ none)) in
    rw (own, no-carried table.carried there) refl

module _ (writes : Writes) (versions : List Versions) where
  some-none : (base : Option ℕ) → is_some base ≡ not (is_none base)
  some-none None = refl
  some-none (Some version) = refl

  not-not : (b : Bool) → b ≡ not (not b)
  not-not true = refl
  not-not false = refl

  -- of the rows of others, those that it has written
  pub commit-bases : HoldsOwn writes → (place : ℕ) (id : Identity) → identity_transaction id ≢ writes.t
      → is_written (commit_of writes.tables versions place) id ≡ is_some (base_at writes.tables versions place id)
  commit-bases own place id other =
      let table = overlay_at place writes.tables versions in
      let base = database_below writes.tables versions place in
      not-not (is_written (commit_of writes.tables versions place) id)
      ∙ ap not (unwritten-none table base writes.t (inserted-own writes.t writes.last table.own (own place).own).0 id other)
      ∙ sym (some-none (base_at writes.tables versions place id))

  -- it leaves the marked rows of what it sees
  pub commit-rows : (place : ℕ) → live_rows unannotated (commit_of writes.tables versions place) ≡ map unmarked (filter (λ row. row.mark) (view_below writes.tables versions place))
  commit-rows place = live-view (overlay_at place writes.tables versions) (table_at place versions).spans

  -- they are so many, where `count` counts the marked rows of the first tables
  pub commit-count : (count : ℕ → ℕ) → count zero ≡ 0 → ((place : ℕ) → count (suc place) ≡ count place + length (filter (λ row. row.mark) (view_below writes.tables versions place)))
      → (n : ℕ) → count_rows (commit_of writes.tables versions) n ≡ count n
  commit-count count none more zero = sym none
  commit-count count none more (suc place) =
      let rest = commit-count count none more place in
      let here = ap length (commit-rows place) ∙ length-map unmarked (filter (λ row. row.mark) (view_below writes.tables versions place)) in
      omega (arith, rest, here, more place)

  -- nothing, where there is no table and it sees no rows
  pub commit-none : (place version : ℕ) → length versions ≤ place → HoldsThere writes.tables versions → view_at writes.tables versions version place ≡ [] → commit_of writes.tables versions place ≡ []
  commit-none place version high there none =
      let table = overlay_at place writes.tables versions in
      let spans : (table_at place versions).spans ≡ [] = ap (λ (held : Versions). held.spans) (get_or-eq_default versions no_table high) in
      ap (λ some. table_writes table (rows_below table some)) spans
      ∙ table-none table version (subst (λ some. AreThere some table.carried) spans (there place)) (subst (λ some. table_view table some version ≡ []) spans none)

-- ---- the spans afterwards

module _ (version : ℕ) (writes : Writes) (old new : List Versions) (same : length new ≡ length old) (commits : Commits version writes old new) where
  -- also where there is no table, if the transaction sees no rows there
  pub spans-everywhere : HoldsThere writes.tables old → (read : ℕ) → ((place : ℕ) → length old ≤ place → view_at writes.tables old read place ≡ [])
      → (place : ℕ) → (table_at place new).spans ≡ after_commit version (commit_of writes.tables old place) (table_at place old).spans
  spans-everywhere there read empty place =
      elim (cases_lt place (length old)) [
        | inl low ↦ commits.made.spans place low
        | inr high ↦
            ap (λ (held : Versions). held.spans) (get_or-eq_default new no_table (subst (λ n. n ≤ place) (sym same) high))
            ∙ sym (λ i. after_commit version (commit-none writes old place read high there (empty place high) i) (get_or-eq_default old no_table high i).spans)
      ]

-- ---- whose rows they are

module _ (u : ℕ) where
  others-ended : (version : ℕ) (writes : List Write) (spans : List Span) → AreOthers u spans → AreOthers u (map (ended version writes) spans)
  others-ended version writes [] all = tt
  others-ended version writes (span ∷ spans) all = ((λ is. all.0 (ap identity_transaction (sym (ended_id version writes span)) ∙ is)), others-ended version writes spans all.1)

  abbrev AreWritesOfOthers : List Write → Type 0
  AreWritesOfOthers writes = AllByRecursion (λ (write : Write). identity_transaction write.id ≢ u) writes

  begun-cons : (version : ℕ) (id : Identity) (row : Option (List Cell)) (rest : List Span) → identity_transaction id ≢ u → AreOthers u rest
      → AreOthers u (cons_option (option_map (λ cells. record { id = id; from = version; to = None; row = cells }) row) rest)
  begun-cons version id None rest other all = all
  begun-cons version id (Some cells) rest other all = (other, all)

  others-begun : (version : ℕ) (writes : List Write) → AreWritesOfOthers writes → AreOthers u (filter_map (begun version) writes)
  others-begun version [] all = tt
  others-begun version (write ∷ writes) all = begun-cons version write.id write.row (filter_map (begun version) writes) all.0 (others-begun version writes all.1)

  others-both : (xs ys : List Span) → AreOthers u xs → AreOthers u ys → AreOthers u (xs ++ ys)
  others-both [] ys left right = right
  others-both (x ∷ xs) ys left right = (left.0, others-both xs ys left.1 right)

  writes-both : (xs ys : List Write) → AreWritesOfOthers xs → AreWritesOfOthers ys → AreWritesOfOthers (xs ++ ys)
  writes-both [] ys left right = right
  writes-both (x ∷ xs) ys left right = (left.0, writes-both xs ys left.1 right)

  others-carried : (carried : List Carried) → AllByRecursion (λ (row : Carried). identity_transaction row.id ≢ u) carried → AreWritesOfOthers (map carried_write carried)
  others-carried [] all = tt
  others-carried (row ∷ rows) all = (all.0, others-carried rows all.1)

  others-own : (t : ℕ) (own : List Stored) → u ≢ t → AreMadeBy t own → AreWritesOfOthers (map own_write own)
  others-own t [] differ all = tt
  others-own t (stored ∷ own) differ all = ((λ is. differ (sym is ∙ all.0)), others-own t own differ all.1)

  there-other : (spans : List Span) (id : Identity) → AreOthers u spans → has_span spans id ≡ true → identity_transaction id ≢ u
  there-other [] id others is = absurd (false≢true is)
  there-other (span ∷ spans) id others is =
      elim (same_identity span.id id) as (λ b. same_identity span.id id ≡ b → (b || has_span spans id) ≡ true → identity_transaction id ≢ u) [
        | true ↦ λ same is. subst (λ other. identity_transaction other ≢ u) (same-exact span.id id same) others.0
        | false ↦ λ other is. there-other spans id others.1 is
      ] refl is

  carried-others : (spans : List Span) (carried : List Carried) → AreOthers u spans → AreThere spans carried → AllByRecursion (λ (row : Carried). identity_transaction row.id ≢ u) carried
  carried-others spans carried others there = all-weaker (λ (row : Carried). has_span spans row.id ≡ true) (λ (row : Carried). identity_transaction row.id ≢ u) (λ row is. there-other spans row.id others is) carried there

  others-table : (t : ℕ) (table : TableWrites) (spans : List Span) → u ≢ t → AreOthers u spans → AreThere spans table.carried → AreWritesOf t table → AreWritesOfOthers (table_writes (overlay_of spans table) (rows_below (overlay_of spans table) spans))
  others-table t table spans differ others there mine =
      writes-both (slot_writes (overlay_of spans table) (rows_below (overlay_of spans table) spans)) (map carried_write table.carried ++ map own_write table.own) (slots-all (λ id. identity_transaction id ≢ u) (overlay_of spans table) spans others)
      (writes-both (map carried_write table.carried) (map own_write table.own) (others-carried table.carried (carried-others spans table.carried others there)) (others-own t table.own differ mine.inserted.0))

-- no span is of a row of another transaction that had none
pub others-after : (u version : ℕ) (writes : Writes) (old new : List Versions) → length new ≡ length old → HoldsOwn writes → HoldsThere writes.tables old → Commits version writes old new → u ≢ writes.t
    → HoldsOthers u old → HoldsOthers u new
others-after u version writes old new same own there commits differ others place =
    let table = writes_at place writes.tables in
    let held = (table_at place old).spans in
    elim (cases_lt place (length old)) [
      | inl low ↦
          subst (AreOthers u) (sym (commits.made.spans place low))
          (others-both u (map (ended version (commit_of writes.tables old place)) held) (filter_map (begun version) (commit_of writes.tables old place))
          (others-ended u version (commit_of writes.tables old place) held (others place))
          (others-begun u version (commit_of writes.tables old place)
          (others-table u writes.t table held differ (others place) (there place) (writes-own writes.t writes.last table (own place)))))
      | inr high ↦ subst (AreOthers u) (sym (ap (λ (table : Versions). table.spans) (get_or-eq_default new no_table (subst (λ n. n ≤ place) (sym same) high)))) tt
    ]

-- ---- the rows of the tables stay there

module _ (version : ℕ) (writes : List Write) where
  span-ended : (spans : List Span) (id : Identity) → has_span (map (ended version writes) spans) id ≡ has_span spans id
  span-ended [] id = refl
  span-ended (span ∷ spans) id = (λ i. same_identity (ended_id version writes span i) id || span-ended spans id i)

  span-after : (spans : List Span) (id : Identity) → has_span spans id ≡ true → has_span (after_commit version writes spans) id ≡ true
  span-after spans id is =
      list_any-append (λ (span : Span). same_identity span.id id) (map (ended version writes) spans) (filter_map (begun version) writes)
      ∙ or_left (has_span (map (ended version writes) spans) id) (has_span (filter_map (begun version) writes) id) (span-ended spans id ∙ is)

  there-spans : (spans : List Span) (carried : List Carried) → AreThere spans carried → AreThere (after_commit version writes spans) carried
  there-spans spans carried there = all-weaker (λ (row : Carried). has_span spans row.id ≡ true) (λ (row : Carried). has_span (after_commit version writes spans) row.id ≡ true) (λ row is. span-after spans row.id is) carried there

-- also those that any other transaction wrote over earlier versions
pub there-after : (tables : List TableWrites) (version : ℕ) (writes : Writes) (old new : List Versions) → length new ≡ length old → Commits version writes old new → HoldsThere tables old → HoldsThere tables new
there-after tables version writes old new same commits there place =
    let carried = (writes_at place tables).carried in
    elim (cases_lt place (length old)) [
      | inl low ↦ subst (λ spans. AreThere spans carried) (sym (commits.made.spans place low)) (there-spans version (commit_of writes.tables old place) (table_at place old).spans carried (there place))
      | inr high ↦
          subst (λ spans. AreThere spans carried)
          (ap (λ (table : Versions). table.spans) (get_or-eq_default old no_table high) ∙ sym (ap (λ (table : Versions). table.spans) (get_or-eq_default new no_table (subst (λ n. n ≤ place) (sym same) high)))) (there place)
    ]

-- ---- tables that are not there

-- what the transaction sees of a table without row versions does not depend on the version
pub view-beyond : (tables : List TableWrites) (versions : List Versions) (place version other : ℕ) → length versions ≤ place → view_at tables versions version place ≡ view_at tables versions other place
view-beyond tables versions place version other high =
    let table = overlay_at place tables versions in
    let spans : (table_at place versions).spans ≡ [] = ap (λ (held : Versions). held.spans) (get_or-eq_default versions no_table high) in
    subst (λ some. table_view table some version ≡ table_view table some other) (sym spans) (view-nowhere table version ∙ sym (view-nowhere table other))

-- ---- the writes of other transactions

-- what any transaction wrote over an earlier version is the same after a commit
pub overlay-kept : (version : ℕ) (writes : Writes) (old new : List Versions) → length new ≡ length old → Commits version writes old new → (tables : List TableWrites) (place : ℕ)
    → (writes_at place tables).version < version → overlay_at place tables new ≡ overlay_at place tables old
overlay-kept version writes old new same commits tables place early =
    let table = writes_at place tables in
    elim (cases_lt place (length old)) [
      | inl low ↦ ap (λ spans. overlay_of spans table) (commits.made.spans place low) ∙ overlay-after version (commit_of writes.tables old place) (table_at place old).spans table early
      | inr high ↦
          ap (λ (held : Versions). overlay_of held.spans table) (get_or-eq_default new no_table (subst (λ n. n ≤ place) (sym same) high)) ∙ sym (ap (λ (held : Versions). overlay_of held.spans table) (get_or-eq_default old no_table high))
    ]
