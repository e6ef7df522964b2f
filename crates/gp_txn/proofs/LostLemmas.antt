-- The conflict that a commit finds is the least of the rows that the transaction wrote and that a commit above their bases wrote.
use Rattle.std.proofs.Common.{◌≡◌, ℕ, ◌<◌, ◌≤◌, ◌⊎◌, Bool, true, false, cond, not, ◌||◌, List, [], ◌∷◌, ◌++◌, map, drop, length, Option, Some, None, refl, ap, sym, ◌∙◌, subst, arith, inl, inr}
use Rattle.std.specs.List.{AllByRecursion, cons_option, filter_map}
use Rattle.std.specs.Option.{option_and_then, option_map}
use Rattle.std.specs.Ordering.{is_gt, nat_cmp}
use Rattle.std.specs.Cmp.{nat_cmp_is}
use Rattle.std.specs.declared.cmp.Ordering.TheVariants.{Less}
use Rattle.std.proofs.lemmas.Bool.{cases_lt, false≢true, false_from_ne_true, or_right}
use Rattle.std.proofs.lemmas.Cmp.{nat_cmp_total, tied_itself}
use Rattle.std.proofs.Math.ListN.{get_or-eq_default}
use Rattle.gp_base.specs.Annotated.{unannotated}
use Rattle.gp_base.specs.Identities.{Identity, identity_cmp, same_identity}
use Rattle.gp_versions.specs.declared.span.Span.{Span}
use Rattle.gp_versions.specs.declared.span.Write.{Write}
use Rattle.gp_versions.specs.Commits.{AreDistinct, is_written}
use Rattle.gp_versions.specs.Spans.{Versions, row_of, spans_at}
use Rattle.gp_versions.specs.TableSpans.{AreWhole, NoOverlap, written_after}
use Rattle.gp_versions.proofs.HeldLemmas.{held-end}
use Rattle.gp_versions.proofs.SameLemmas.{same-exact, same-itself}
use Rattle.gp_txn.specs.declared.carried.Carried.{Carried}
use Rattle.gp_txn.specs.declared.conflict.Conflict.{Conflict}
use Rattle.gp_txn.specs.declared.conflict.Late.{Late}
use Rattle.gp_txn.specs.declared.overlay.Slot.{Slot}
use Rattle.gp_txn.specs.declared.overlay.Slot.TheVariants.{Same, Put, Dropped}
use Rattle.gp_txn.specs.declared.overlay.TableWrites.{TableWrites}
use Rattle.gp_txn.specs.Bases.{base_after, base_of, carried_base}
use Rattle.gp_txn.specs.Conflicts.{IsAmong, IsBeforeAll, IsFirstConflict, IsLost, carried_late, late_of, lates, lates_at, next_write, slot_lates}
use Rattle.gp_txn.specs.Overlay.{Overlay, base_writes, carried_write, head_slot, is_carried, rows_below, slot_write, slot_writes, slotted_spans}
use Rattle.gp_txn.specs.Transactions.{base_at, no_table, overlay_at, table_at, writes_at}
use Rattle.gp_txn.proofs.BaseLemmas.{carried-none, written-uncarried}
use Rattle.gp_txn.proofs.CommitLemmas.{carried-written}
use Rattle.gp_txn.proofs.PairLemmas.{all-filter}
use Rattle.gp_txn.proofs.SlottedLemmas.{rows-spans}

-- ---- one table, given the next version that wrote a row

module _ (next : Identity → Option ℕ) where
  abbrev pub EndNext : List Span → Type 0
  EndNext spans = AllByRecursion (λ (span : Span). span.to ≡ next span.id) spans

  abbrev Lists : List Slot → List Span → Type 0
  Lists slots spans = (id : Identity) (version : ℕ) → next id ≡ Some version → is_written (base_writes slots (map (row_of unannotated) spans)) id ≡ true → IsAmong (record { id = id; version = version }) (slot_lates slots spans)

  abbrev late_at : Span → Option ℕ → Option Late
  late_at span to = option_map (λ version. record { id = span.id; version = version }) to

  among-behind : (span : Span) (to : Option ℕ) (late : Late) (rest : List Late) → IsAmong late rest → IsAmong late (cons_option (late_at span to) rest)
  among-behind span None late rest among = among
  among-behind span (Some version) late rest among = inr among

  -- the first row is this one, or it is one of the others
  among-here : (span : Span) (rest : List Late) (id : Identity) (version : ℕ) → span.to ≡ next span.id → next id ≡ Some version → (b : Bool) → (same_identity span.id id || b) ≡ true → (b ≡ true → IsAmong (record { id = id; version = version }) rest)
      → IsAmong (record { id = id; version = version }) (cons_option (late_at span span.to) rest)
  among-here span rest id version ends is b written more =
      elim (same_identity span.id id) as (λ c. same_identity span.id id ≡ c → (c || b) ≡ true → IsAmong (record { id = id; version = version }) (cons_option (late_at span span.to) rest)) [
        | true ↦ λ same some.
            let exact : span.id ≡ id = same-exact span.id id same in
            let to : span.to ≡ Some version = ends ∙ ap next exact ∙ is in
            rw to (inl (ap (λ (x : Identity). record { id = x; version = version }) exact))
        | false ↦ λ other some. among-behind span span.to (record { id = id; version = version }) rest (more some)
      ] refl written

  lists-slot : (slot : Slot) (span : Span) (slots : List Slot) (spans : List Span) → span.to ≡ next span.id → Lists slots spans → (id : Identity) (version : ℕ) → next id ≡ Some version
      → is_written (cons_option (slot_write slot (row_of unannotated span)) (base_writes slots (map (row_of unannotated) spans))) id ≡ true → IsAmong (record { id = id; version = version }) (cons_option (late_of slot span) (slot_lates slots spans))
  lists-slot Same span slots spans ends more id version is written = more id version is written
  lists-slot (Put cells) span slots spans ends more id version is written = among-here span (slot_lates slots spans) id version ends is (is_written (base_writes slots (map (row_of unannotated) spans)) id) written (more id version is)
  lists-slot Dropped span slots spans ends more id version is written = among-here span (slot_lates slots spans) id version ends is (is_written (base_writes slots (map (row_of unannotated) spans)) id) written (more id version is)

  -- each row that the transaction and a later commit wrote is among them
  pub lists-all : (slots : List Slot) (spans : List Span) → EndNext spans → Lists slots spans
  lists-all slots [] ends id version is written = absurd (false≢true written)
  lists-all slots (span ∷ spans) ends id version is written = lists-slot (head_slot slots) span (drop 1 slots) spans ends.0 (lists-all (drop 1 slots) spans ends.1) id version is written

  abbrev IsLate : List Slot → List Span → Late → Type 0
  IsLate slots spans late = (is_written (base_writes slots (map (row_of unannotated) spans)) late.id ≡ true) × (next late.id ≡ Some late.version)

  late-here : (span : Span) (to : Option ℕ) (late : Late) (rest : List Late) (b : Bool) → to ≡ next span.id → (IsAmong late rest → (b ≡ true) × (next late.id ≡ Some late.version)) → IsAmong late (cons_option (late_at span to) rest)
      → ((same_identity span.id late.id || b) ≡ true) × (next late.id ≡ Some late.version)
  late-here span None late rest b ends more among = (or_right (same_identity span.id late.id) b (more among).0, (more among).1)
  late-here span (Some version) late rest b ends more (inl is) =
      let ids : span.id ≡ late.id = ap (λ (x : Late). x.id) is in
      let versions : version ≡ late.version = ap (λ (x : Late). x.version) is in
      (subst (λ (x : Identity). (same_identity span.id x || b) ≡ true) ids (rw (same-itself span.id) refl), ap next (sym ids) ∙ sym ends ∙ ap Some versions)
  late-here span (Some version) late rest b ends more (inr among) = (or_right (same_identity span.id late.id) b (more among).0, (more among).1)

  late-slot : (slot : Slot) (span : Span) (slots : List Slot) (spans : List Span) (late : Late) → span.to ≡ next span.id → (IsAmong late (slot_lates slots spans) → IsLate slots spans late) → IsAmong late (cons_option (late_of slot span) (slot_lates slots spans))
      → (is_written (cons_option (slot_write slot (row_of unannotated span)) (base_writes slots (map (row_of unannotated) spans))) late.id ≡ true) × (next late.id ≡ Some late.version)
  late-slot Same span slots spans late ends more among = more among
  late-slot (Put cells) span slots spans late ends more among = late-here span span.to late (slot_lates slots spans) (is_written (base_writes slots (map (row_of unannotated) spans)) late.id) ends more among
  late-slot Dropped span slots spans late ends more among = late-here span span.to late (slot_lates slots spans) (is_written (base_writes slots (map (row_of unannotated) spans)) late.id) ends more among

  -- the transaction and a later commit wrote each of them
  pub late-all : (slots : List Slot) (spans : List Span) (late : Late) → EndNext spans → IsAmong late (slot_lates slots spans) → IsLate slots spans late
  late-all slots [] late ends among = absurd among
  late-all slots (span ∷ spans) late ends among = late-slot (head_slot slots) span (drop 1 slots) spans late ends.0 (late-all (drop 1 slots) spans late ends.1) among

before-each : (late other : Late) (others : List Late) → IsBeforeAll late others → IsAmong other others → is_gt (identity_cmp late.id other.id) ≡ false
before-each late other [] all among = absurd among
before-each late other (x ∷ others) all (inl is) = subst (λ (y : Late). is_gt (identity_cmp late.id y.id) ≡ false) is all.0
before-each late other (x ∷ others) all (inr among) = before-each late other others all.1 among

-- a table before, the same, or behind
places : (a b : ℕ) → (nat_cmp a b ≡ Less) ⊎ ((a ≡ b) ⊎ (b < a))
places a b =
    elim (cases_lt a b) [
      | inl low ↦ inl (sym (nat_cmp_is a b Less low))
      | inr le ↦ elim (cases_lt b a) [ inl high ↦ inr (inr high) | inr back ↦ inr (inl (omega arith)) ]
    ]

-- ---- one table

among-left : (late : Late) (xs ys : List Late) → IsAmong late xs → IsAmong late (xs ++ ys)
among-left late [] ys among = absurd among
among-left late (x ∷ xs) ys (inl is) = inl is
among-left late (x ∷ xs) ys (inr among) = inr (among-left late xs ys among)

among-right : (late : Late) (xs ys : List Late) → IsAmong late ys → IsAmong late (xs ++ ys)
among-right late [] ys among = among
among-right late (x ∷ xs) ys among = inr (among-right late xs ys among)

among-either : (late : Late) (xs ys : List Late) → IsAmong late (xs ++ ys) → IsAmong late xs ⊎ IsAmong late ys
among-either late [] ys among = inr among
among-either late (x ∷ xs) ys (inl is) = inl (inl is)
among-either late (x ∷ xs) ys (inr among) = elim (among-either late xs ys among) [ inl left ↦ inl (inr left) | inr right ↦ inr right ]

ends-turned : (next : Identity → Option ℕ) (spans : List Span) → AllByRecursion (λ (span : Span). next span.id ≡ span.to) spans → EndNext next spans
ends-turned next [] all = tt
ends-turned next (span ∷ spans) all = (sym all.0, ends-turned next spans all.1)

abbrev late_with : Identity → Option ℕ → Option Late
late_with id to = option_map (λ version. record { id = id; version = version }) to

-- the first version above a base
abbrev above : List Span → Identity → Option ℕ → Option ℕ
above spans id base = option_and_then (λ version. written_after id version spans) base

module _ (spans : List Span) where
  abbrev Rows : List Carried → List Late
  Rows carried = filter_map (carried_late spans) carried

  behind : (late : Late) (first : Option Late) (rest : List Late) → IsAmong late rest → IsAmong late (cons_option first rest)
  behind late None rest among = among
  behind late (Some other) rest among = inr among

  row-among : (id : Identity) (version : ℕ) (row : Carried) (rest : List Late) → row.id ≡ id → written_after id row.base spans ≡ Some version → IsAmong (record { id = id; version = version }) (cons_option (carried_late spans row) rest)
  row-among id version row rest same is =
      let to : written_after row.id row.base spans ≡ Some version = ap (λ (x : Identity). written_after x row.base spans) same ∙ is in
      rw to (inl (ap (λ (x : Identity). record { id = x; version = version }) same))

  -- a row that is carried over and that a commit above its base wrote is among them
  carried-among : (carried : List Carried) (id : Identity) (base version : ℕ) → carried_base carried id ≡ Some base → written_after id base spans ≡ Some version → IsAmong (record { id = id; version = version }) (Rows carried)
  carried-among [] id base version is later = absurd (cc)
  carried-among (row ∷ rows) id base version is later =
      elim (same_identity row.id id) as (λ b. same_identity row.id id ≡ b → cond b (Some row.base) (carried_base rows id) ≡ Some base → IsAmong (record { id = id; version = version }) (cons_option (carried_late spans row) (Rows rows))) [
        | true ↦ λ same here. row-among id version row (Rows rows) (same-exact row.id id same) (ap (above spans id) here ∙ later)
        | false ↦ λ other there. behind (record { id = id; version = version }) (carried_late spans row) (Rows rows) (carried-among rows id base version there later)
      ] refl is

  abbrev IsRow : List Carried → Late → Type 0
  IsRow carried late = (is_carried carried late.id ≡ true) × (above spans late.id (carried_base carried late.id) ≡ Some late.version)

  row-first : (row : Carried) (to : Option ℕ) (late : Late) (rest : List Late) (P : Type 0) → to ≡ written_after row.id row.base spans → (IsAmong late rest → P) → ((row.id ≡ late.id) → written_after row.id row.base spans ≡ Some late.version → P)
      → IsAmong late (cons_option (late_with row.id to) rest) → P
  row-first row None late rest P is others here among = others among
  row-first row (Some version) late rest P is others here (inl same) = here (ap (λ (x : Late). x.id) same) (sym is ∙ ap (λ (x : Late). Some x.version) same)
  row-first row (Some version) late rest P is others here (inr among) = others among

  row-here : (row : Carried) (rows : List Carried) (late : Late) → row.id ≡ late.id → written_after row.id row.base spans ≡ Some late.version → IsRow (row ∷ rows) late
  row-here row rows late same is =
      let itself : same_identity row.id late.id ≡ true = subst (λ (x : Identity). same_identity row.id x ≡ true) same (same-itself row.id) in
      (ap (λ b. b || is_carried rows late.id) itself, ap (λ b. above spans late.id (cond b (Some row.base) (carried_base rows late.id))) itself ∙ ap (λ (x : Identity). written_after x row.base spans) (sym same) ∙ is)

  row-behind : (row : Carried) (rows : List Carried) (late : Late) → is_written (map carried_write rows) row.id ≡ false → IsRow rows late → IsRow (row ∷ rows) late
  row-behind row rows late none is =
      let other : same_identity row.id late.id ≡ false =
      false_from_ne_true (same_identity row.id late.id) (λ same. false≢true (sym none ∙ carried-written rows row.id ∙ ap (is_carried rows) (same-exact row.id late.id same) ∙ is.0)) in
      (ap (λ b. b || is_carried rows late.id) other ∙ is.0, ap (λ b. above spans late.id (cond b (Some row.base) (carried_base rows late.id))) other ∙ is.1)

  -- each of them is a row that is carried over, and a commit above its base wrote it
  carried-row : (carried : List Carried) (late : Late) → AreDistinct (map carried_write carried) → IsAmong late (Rows carried) → IsRow carried late
  carried-row [] late distinct among = absurd among
  carried-row (row ∷ rows) late distinct among =
      row-first row (written_after row.id row.base spans) late (Rows rows) (IsRow (row ∷ rows) late) refl
      (λ rest. row-behind row rows late distinct.0 (carried-row rows late distinct.1 rest)) (row-here row rows late) among

  above-kept : (id : Identity) (version now : ℕ) (wrote : Bool) (base : Option ℕ) → above spans id base ≡ Some version → above spans id (base_after now wrote base) ≡ Some version
  above-kept id version now wrote None is = absurd (cc)
  above-kept id version now wrote (Some base) is = is

module _ (table : Overlay) (spans : List Span) (apart : NoOverlap spans) (whole : AreWhole spans) where
  abbrev held : List Span
  held = slotted_spans table.carried table.version spans

  abbrev after : Identity → Option ℕ
  after id = written_after id table.version spans

  abbrev wrote : Identity → Bool
  wrote id = is_written (slot_writes table (rows_below table spans)) id

  abbrev next : Identity → Option ℕ
  next id = above spans id (base_of table (rows_below table spans) id)

  ends : EndNext after held
  ends =
      all-filter (λ (span : Span). span.to ≡ after span.id) (λ (span : Span). not (is_carried table.carried span.id)) (spans_at table.version spans)
      (ends-turned after (spans_at table.version spans) (held-end table.version spans apart whole))

  same-writes : base_writes table.slots (map (row_of unannotated) held) ≡ slot_writes table (rows_below table spans)
  same-writes = ap (base_writes table.slots) (sym (rows-spans table.carried table.version spans))

  slot-next : (late : Late) → IsAmong late (slot_lates table.slots held) → next late.id ≡ Some late.version
  slot-next late among =
      let is = late-all after table.slots held late ends among in
      let written : wrote late.id ≡ true = subst (λ (list : List Write). is_written list late.id ≡ true) same-writes is.0 in
      let none : carried_base table.carried late.id ≡ None = carried-none table.carried late.id (written-uncarried table (rows_below table spans) late.id written) in
      (λ i. above spans late.id (base_after table.version (written i) (none i))) ∙ is.1

  late-next : (late : Late) → AreDistinct (map carried_write table.carried) → IsAmong late (lates table spans) → next late.id ≡ Some late.version
  late-next late distinct among =
      elim (among-either late (slot_lates table.slots held) (filter_map (carried_late spans) table.carried) among) [
        | inl slot ↦ slot-next late slot
        | inr row ↦ above-kept spans late.id late.version table.version (wrote late.id) (carried_base table.carried late.id) (carried-row spans table.carried late distinct row).1
      ]

  slot-among : (id : Identity) (version : ℕ) → above spans id (base_after table.version (wrote id) None) ≡ Some version → IsAmong (record { id = id; version = version }) (slot_lates table.slots held)
  slot-among id version is =
      elim (wrote id) as (λ b. wrote id ≡ b → above spans id (base_after table.version b None) ≡ Some version → IsAmong (record { id = id; version = version }) (slot_lates table.slots held)) [
        | true ↦ λ written later.
            lists-all after table.slots held ends id version later (subst (λ (list : List Write). is_written list id ≡ true) (sym same-writes) written)
        | false ↦ λ unwritten later. absurd (cc)
      ] refl is

  next-among : (id : Identity) (version : ℕ) → next id ≡ Some version → IsAmong (record { id = id; version = version }) (lates table spans)
  next-among id version is =
      let late : Late = record { id = id; version = version } in
      elim (carried_base table.carried id) as (λ base. carried_base table.carried id ≡ base → above spans id (base_after table.version (wrote id) base) ≡ Some version → IsAmong late (lates table spans)) [
        | None ↦ λ none later. among-left late (slot_lates table.slots held) (filter_map (carried_late spans) table.carried) (slot-among id version later)
        | Some base ↦ λ here later. among-right late (slot_lates table.slots held) (filter_map (carried_late spans) table.carried) (carried-among spans table.carried id base version here later)
      ] refl is

-- ---- all tables

module _ (tables : List TableWrites) (versions : List Versions) (apart : (place : ℕ) → NoOverlap (table_at place versions).spans) (whole : (place : ℕ) → AreWhole (table_at place versions).spans)
    (distinct : (place : ℕ) → AreDistinct (map carried_write (writes_at place tables).carried)) where
  is-among : (place : ℕ) (id : Identity) (version : ℕ) → next_write tables versions place id ≡ Some version → IsAmong (record { id = id; version = version }) (lates_at tables versions place)
  is-among place id version later = next-among (overlay_at place tables versions) (table_at place versions).spans (apart place) (whole place) id version later

  not-empty : (late : Late) (others : List Late) → others ≡ [] → IsAmong late others → ⊥
  not-empty late others none among = subst (λ some. IsAmong late some) none among

  pub lost-first : (conflict : Conflict) → IsFirstConflict (length versions) (lates_at tables versions) (Some conflict) → IsLost (next_write tables versions) conflict
  lost-first conflict found = record {
    later = late-next (overlay_at conflict.place tables versions) (table_at conflict.place versions).spans (apart conflict.place) (whole conflict.place) conflict.late (distinct conflict.place) found.1.0;
    least = λ other version later.
        let late : Late = record { id = other.identity; version = version } in
        let here = is-among other.table other.identity version later in
        elim (places conflict.place other.table) [
          | inl low ↦ rw low refl
          | inr (inl same) ↦
              rw (sym same, tied_itself nat_cmp_total conflict.place) (before-each conflict.late late (lates_at tables versions conflict.place) found.1.1 (subst (λ place. IsAmong late (lates_at tables versions place)) (sym same) here))
          | inr (inr high) ↦ absurd (not-empty late (lates_at tables versions other.table) (found.0 other.table high) here)
        ];
  }

  -- where there is no table, no row has a span
  none-above : (id : Identity) (base : Option ℕ) → above [] id base ≡ None
  none-above id None = refl
  none-above id (Some version) = refl

  beyond : (place : ℕ) (id : Identity) → length versions ≤ place → next_write tables versions place id ≡ None
  beyond place id high =
      (λ i. above (get_or-eq_default versions no_table high i).spans id (base_at tables versions place id)) ∙ none-above id (base_at tables versions place id)

  -- no commit above its base wrote a row that the transaction wrote
  pub not-lost-first : IsFirstConflict (length versions) (lates_at tables versions) None → (place : ℕ) (id : Identity) → next_write tables versions place id ≡ None
  not-lost-first none place id =
      elim (cases_lt place (length versions)) [
        | inl low ↦
            elim (next_write tables versions place id) as (λ to. next_write tables versions place id ≡ to → to ≡ None) [
              | None ↦ λ later. refl
              | Some version ↦ λ later. absurd (not-empty (record { id = id; version = version }) (lates_at tables versions place) (none place low) (is-among place id version later))
            ] refl
        | inr high ↦ beyond place id high
      ]
