-- What a transaction keeps of a table, as slots of all rows of the version that its writes lie over.
use Rattle.std.proofs.Common.{◌≡◌, ℕ, zero, suc, ◌+◌, ◌<◌, ◌≤◌, ◌==◌, Bool, true, false, cond, not, ◌&&◌, leb, nat_lt, slice_get, List, [], ◌∷◌, ◌++◌, map, drop, length, Option, Some, None, refl, ap, sym, ◌∙◌, subst, arith, inl, inr}
use Rattle.std.specs.List.{cons_option, filter, filter_map, flat_map, AllByRecursion}
use Rattle.std.specs.Option.{option_and_then, option_map}
use Rattle.std.proofs.lemmas.Bool.{cases_lt, le-ltb, lt-leb, lt-ltb, or_from, or_parts}
use Rattle.std.proofs.lemmas.List.{append_assoc}
use Rattle.std.proofs.lemmas.Option.{slice_get_past}
use Rattle.gp_base.specs.declared.cell.Cell.{Cell}
use Rattle.gp_base.proofs.SmallLemmas.{eq_itself, eq_turned, left_true, not_eq}
use Rattle.gp_versions.specs.declared.span.Span.{Span}
use Rattle.gp_versions.specs.declared.span.Write.{Write}
use Rattle.gp_versions.specs.Commits.{after_commit, begun, ended, is_written}
use Rattle.gp_versions.specs.Spans.{holds_at, spans_at}
use Rattle.gp_versions.proofs.SpanLemmas.{ended_from, ended_id, ended_to, end-before}
use Rattle.gp_txn.specs.declared.carried.Carried.{Carried}
use Rattle.gp_txn.specs.declared.overlay.Placed.{Placed}
use Rattle.gp_txn.specs.declared.overlay.Slot.{Slot}
use Rattle.gp_txn.specs.declared.overlay.Slot.TheVariants.{Same}
use Rattle.gp_txn.specs.declared.overlay.TableWrites.{TableWrites}
use Rattle.gp_txn.specs.Ascending.{IsAscending, place_of}
use Rattle.gp_txn.specs.Enough.{IsEnough, first_at, if_slotted, is_among, passes_in, seek, slotted_at}
use Rattle.gp_txn.specs.Overlay.{PlainRow, base_writes, has_slot, head_slot, is_carried, overlaid, overlay_of, shown, slot_at, slot_write, slots_from, slotted_spans}
use Rattle.gp_txn.specs.Passes.{of_entry, made_of_place, made_of_slot}
use Rattle.gp_txn.proofs.PairLemmas.{all-weaker}

-- ---- rows that are as they were

abbrev pub AreSame : List Slot → Type 0
AreSame slots = AllByRecursion (λ (slot : Slot). slot ≡ Same) slots

same-parts : (slots : List Slot) → AreSame slots → (head_slot slots ≡ Same) × AreSame (drop 1 slots)
same-parts [] all = (refl, tt)
same-parts (slot ∷ slots) all = all

-- nothing was written where nothing is kept
pub none-same : (carried : List Carried) (version place : ℕ) (spans : List Span) → AreSame (slots_from carried version [] place spans)
none-same carried version place [] = tt
none-same carried version place (span ∷ spans) =
    let rest = none-same carried version (suc place) spans in
    elim (has_slot carried version span) as (λ b. AreSame (cond b (Same ∷ slots_from carried version [] (suc place) spans) (slots_from carried version [] (suc place) spans))) [ true ↦ (refl, rest) | false ↦ rest ]

pub overlaid-same : (slots : List Slot) (rows : List PlainRow) → AreSame slots → overlaid slots rows ≡ rows
overlaid-same slots [] all = refl
overlaid-same slots (row ∷ rows) all = let parts = same-parts slots all in λ i. shown (parts.0 i) row ++ overlaid-same (drop 1 slots) rows parts.1 i

pub writes-same : (slots : List Slot) (rows : List PlainRow) → AreSame slots → base_writes slots rows ≡ []
writes-same slots [] all = refl
writes-same slots (row ∷ rows) all = let parts = same-parts slots all in λ i. cons_option (slot_write (parts.0 i) row) (writes-same (drop 1 slots) rows parts.1 i)

-- ---- slots by place

above-none : (place : ℕ) (placed : List Placed) → AllByRecursion (λ (one : Placed). place < one.place) placed → slot_at place placed ≡ Same
above-none place [] all = refl
above-none place (one ∷ others) all = ap (λ b. cond b one.slot (slot_at place others)) (eq_turned place one.place (not_eq place one.place all.0)) ∙ above-none place others all.1

not-placed : (place : ℕ) (placed : List Placed) → is_among (map place_of placed) place ≡ false → slot_at place placed ≡ Same
not-placed place [] none = refl
not-placed place (one ∷ others) none =
    let parts = or_parts (one.place == place) (is_among (map place_of others) place) none in
    ap (λ b. cond b one.slot (slot_at place others)) parts.0 ∙ not-placed place others parts.1

none-among : (place : ℕ) (places : List ℕ) → AllByRecursion (λ other. place < other) places → is_among places place ≡ false
none-among place [] all = refl
none-among place (other ∷ places) all = or_from (other == place) (is_among places place) (eq_turned place other (not_eq place other all.0)) (none-among place places all.1)

-- ---- all places

module _ {X : Type 0} (H : ℕ → List X) where
  -- from a place on, so many
  abbrev each_from : ℕ → ℕ → List X
  each_from n zero = []
  each_from n (suc count) = H n ++ each_from (suc n) count

  all-none : (places : List ℕ) → AllByRecursion (λ place. H place ≡ []) places → flat_map H places ≡ []
  all-none [] all = refl
  all-none (place ∷ places) all = λ i. all.0 i ++ all-none places all.1 i

  -- ascending places are enough, where nothing is made at others
  enough-from : (places : List ℕ) (n count : ℕ) → IsAscending places → AllByRecursion (λ place. n ≤ place) places → ((p : ℕ) → n ≤ p → is_among places p ≡ false → H p ≡ []) → ((p : ℕ) → n + count ≤ p → H p ≡ [])
      → flat_map H places ≡ each_from n count
  enough-from places n zero ascend low others high = all-none places (all-weaker (λ place. n ≤ place) (λ place. H place ≡ []) (λ place is. high place (omega (arith, is))) places low)
  enough-from [] n (suc count) ascend low others high =
      let here = others n (omega arith) refl in
      let rest = enough-from [] (suc n) count tt tt (λ p late none. others p (omega (arith, late)) none) (λ p late. high p (omega (arith, late))) in
      λ i. sym here i ++ rest i
  enough-from (place ∷ places) n (suc count) ascend low others high =
      elim (cases_lt n place) [
        | inl before ↦
            let here = others n (omega arith) (none-among n (place ∷ places) (before, all-weaker (λ other. place < other) (λ other. n < other) (λ other is. omega (arith, before, is)) places ascend.0)) in
            let rest = enough-from (place ∷ places) (suc n) count ascend (before, all-weaker (λ other. place < other) (λ other. suc n ≤ other) (λ other is. omega (arith, before, is)) places ascend.0)
            (λ p late none. others p (omega (arith, late)) none) (λ p late. high p (omega (arith, late))) in
            λ i. sym here i ++ rest i
        | inr back ↦
            let same : place ≡ n = omega (arith, back, low.0) in
            let rest = enough-from places (suc n) count ascend.1 (all-weaker (λ other. place < other) (λ other. suc n ≤ other) (λ other is. omega (arith, same, is)) places ascend.0)
            (λ p late none. others p (omega (arith, late)) (or_from (place == p) (is_among places p) (not_eq place p (omega (arith, same, late))) none)) (λ p late. high p (omega (arith, late))) in
            λ i. H (same i) ++ rest i
      ]

-- ---- what a pass makes

module _ {X : Type 0} (make : ℕ → Slot → Span → List X) (carried : List Carried) (version : ℕ) where
  -- of all rows with a slot, given the place of the first span
  abbrev pub made_from : List Placed → ℕ → List Span → List X
  made_from placed place [] = []
  made_from placed place (span ∷ spans) = cond (has_slot carried version span) (make place (slot_at place placed) span) [] ++ made_from placed (suc place) spans

  at-first : (b : Bool) (place : ℕ) (slot : Slot) (span : Span) → made_of_slot (make place) slot (cond b (Some span) None) ≡ cond b (make place slot span) []
  at-first true place slot span = refl
  at-first false place slot span = refl

  made-each : (H : ℕ → List X) (placed : List Placed) (n : ℕ) (spans : List Span) → ((i p : ℕ) → p ≡ n + i → H p ≡ made_of_slot (make p) (slot_at p placed) (slotted_at carried version spans i)) → each_from H n (length spans) ≡ made_from placed n spans
  made-each H placed n [] is = refl
  made-each H placed n (span ∷ spans) is =
      let here = is zero n (omega arith) ∙ at-first (has_slot carried version span) n (slot_at n placed) span in
      let rest = made-each H placed (suc n) spans (λ i p same. is (suc i) p (omega (arith, same))) in
      λ i. here i ++ rest i

  module _ (placed : List Placed) (spans : List Span) where
    abbrev here_at : ℕ → List X
    here_at place = made_of_place make carried version placed spans place

    beyond : (place : ℕ) → length spans ≤ place → here_at place ≡ []
    beyond place high = ap (λ span. made_of_slot (make place) (slot_at place placed) (option_and_then (if_slotted carried version) span)) (slice_get_past spans place high)

    made-all : each_from here_at 0 (length spans) ≡ made_from placed 0 spans
    made-all = made-each here_at placed 0 spans (λ i p same. let is : p ≡ i = omega (arith, same) in ap (λ q. made_of_slot (make p) (slot_at p placed) (slotted_at carried version spans q)) is)

    -- at places that are enough
    made-enough : (places : List ℕ) → IsAscending places → ((p : ℕ) → is_among places p ≡ false → here_at p ≡ []) → flat_map here_at places ≡ made_from placed 0 spans
    made-enough places ascend others =
        enough-from here_at places 0 (length spans) ascend (all-weaker-none places) (λ p low none. others p none) (λ p high. beyond p (omega (arith, high))) ∙ made-all
      where
        all-weaker-none : (some : List ℕ) → AllByRecursion (λ place. 0 ≤ place) some
        all-weaker-none [] = tt
        all-weaker-none (place ∷ some) = (omega arith, all-weaker-none some)

    made-slotted : (test : List Cell → Bool) (p : ℕ) (span : Span) → ((p : ℕ) (slot : Slot) (span : Span) → passes_in test slot span.row ≡ false → make p slot span ≡ [])
        → (holds_at version span ≡ true → passes_in test (slot_at p placed) span.row ≡ false) → (b : Bool) → has_slot carried version span ≡ b → made_of_slot (make p) (slot_at p placed) (cond b (Some span) None) ≡ []
    made-slotted test p span nothing is true has = nothing p (slot_at p placed) span (is (left_true (holds_at version span) (not (is_carried carried span.id)) has))
    made-slotted test p span nothing is false has = refl

    -- where nothing is made of rows that are seen not to pass a test
    pub made-places : (test : List Cell → Bool) (places : List ℕ) → ((p : ℕ) (slot : Slot) (span : Span) → passes_in test slot span.row ≡ false → make p slot span ≡ []) → IsEnough test placed version spans places
        → flat_map here_at places ≡ made_from placed 0 spans
    made-places test places nothing enough =
        made-enough places enough.ascending
        (λ p none. elim (slice_get spans p) as (λ found. slice_get spans p ≡ found → made_of_slot (make p) (slot_at p placed) (option_and_then (if_slotted carried version) found) ≡ []) [
          | None ↦ λ is. refl
          | Some span ↦ λ is. made-slotted test p span nothing (λ holds. enough.others p span is holds none) (has_slot carried version span) refl
        ] refl)

-- ---- at the places of the entries

abbrev pub anywhere : {X : Type 0} → (Slot → Span → List X) → ℕ → Slot → Span → List X
anywhere make place slot span = make slot span

found-behind : (one : Placed) (others xs : List Placed) → AllByRecursion (λ place. one.place < place) (map place_of xs) → AllByRecursion (λ (x : Placed). slot_at x.place others ≡ x.slot) xs
    → AllByRecursion (λ (x : Placed). slot_at x.place (one ∷ others) ≡ x.slot) xs
found-behind one others [] above found = tt
found-behind one others (x ∷ xs) above found =
    (ap (λ b. cond b one.slot (slot_at x.place others)) (not_eq one.place x.place above.0) ∙ found.0, found-behind one others xs above.1 found.1)

entries-found : (placed : List Placed) → IsAscending (map place_of placed) → AllByRecursion (λ (x : Placed). slot_at x.place placed ≡ x.slot) placed
entries-found [] ascend = tt
entries-found (one ∷ others) ascend = (ap (λ b. cond b one.slot (slot_at one.place others)) (eq_itself one.place), found-behind one others others ascend.0 (entries-found others ascend.1))

module _ {X : Type 0} (make : Slot → Span → List X) (carried : List Carried) (version : ℕ) (spans : List Span) where
  entries-are : (placed xs : List Placed) → AllByRecursion (λ (x : Placed). slot_at x.place placed ≡ x.slot) xs → flat_map (of_entry make carried version spans) xs ≡ flat_map (made_of_place (anywhere make) carried version placed spans) (map place_of xs)
  entries-are placed [] found = refl
  entries-are placed (x ∷ xs) found =
      let rest = entries-are placed xs found.1 in
      λ i. made_of_slot make (sym found.0 i) (slotted_at carried version spans x.place) ++ rest i

  nothing-at : (same : (span : Span) → make Same span ≡ []) (slot : Slot) (span : Option Span) → slot ≡ Same → made_of_slot make slot span ≡ []
  nothing-at same slot None is = refl
  nothing-at same slot (Some span) is = ap (λ s. make s span) is ∙ same span

  -- where nothing is made of rows that are as they were
  pub made-entries : (placed : List Placed) → ((span : Span) → make Same span ≡ []) → IsAscending (map place_of placed)
      → flat_map (of_entry make carried version spans) placed ≡ made_from (anywhere make) carried version placed 0 spans
  made-entries placed same ascend =
      entries-are placed placed (entries-found placed ascend)
      ∙ made-enough (anywhere make) carried version placed spans (map place_of placed) ascend (λ p none. nothing-at same (slot_at p placed) (slotted_at carried version spans p) (not-placed p placed none))

-- ---- of all rows with a slot, in order

abbrev pub made_of : {X : Type 0} → (Slot → Span → List X) → List Slot → List Span → List X
made_of make slots [] = []
made_of make slots (span ∷ spans) = make (head_slot slots) span ++ made_of make (drop 1 slots) spans

module _ {X : Type 0} (make : Slot → Span → List X) (carried : List Carried) (version : ℕ) (placed : List Placed) where
  pub made-dense : (place : ℕ) (spans : List Span) → made_from (anywhere make) carried version placed place spans ≡ made_of make (slots_from carried version placed place spans) (slotted_spans carried version spans)
  made-dense place [] = refl
  made-dense place (span ∷ spans) =
      let slot = slot_at place placed in
      let slots = slots_from carried version placed (suc place) spans in
      let rows = slotted_spans carried version spans in
      let made = made_from (anywhere make) carried version placed (suc place) spans in
      let rest : made ≡ made_of make slots rows = made-dense (suc place) spans in
      elim (holds_at version span) as (λ h. cond (h && not (is_carried carried span.id)) (make slot span) [] ++ made
      ≡ made_of make (cond (h && not (is_carried carried span.id)) (slot ∷ slots) slots) (filter (λ (other : Span). not (is_carried carried other.id)) (cond h (span ∷ spans_at version spans) (spans_at version spans)))) [
        | true ↦ elim (not (is_carried carried span.id)) as (λ q. cond q (make slot span) [] ++ made ≡ made_of make (cond q (slot ∷ slots) slots) (cond q (span ∷ rows) rows)) [
          | true ↦ ap (λ xs. make slot span ++ xs) rest
          | false ↦ rest
        ]
        | false ↦ rest
      ]

module _ {X : Type 0} (make : Slot → Span → List X) (carried : List Carried) (version : ℕ) (spans : List Span) (placed : List Placed) where
  -- a pass over the entries makes what is made of all rows with a slot
  pub entries-made : ((span : Span) → make Same span ≡ []) → IsAscending (map place_of placed)
      → flat_map (of_entry make carried version spans) placed ≡ made_of make (slots_from carried version placed 0 spans) (slotted_spans carried version spans)
  entries-made same ascend = made-entries make carried version spans placed same ascend ∙ made-dense make carried version placed 0 spans

  -- and so does one over places that are enough
  pub places-made : (test : List Cell → Bool) (places : List ℕ) → ((slot : Slot) (span : Span) → passes_in test slot span.row ≡ false → make slot span ≡ []) → IsEnough test placed version spans places
      → flat_map (made_of_place (anywhere make) carried version placed spans) places ≡ made_of make (slots_from carried version placed 0 spans) (slotted_spans carried version spans)
  places-made test places nothing enough = made-places (anywhere make) carried version placed spans test places (λ p slot span none. nothing slot span none) enough ∙ made-dense make carried version placed 0 spans

-- ---- after a commit

module _ (version : ℕ) (list : List Write) (carried : List Carried) (placed : List Placed) (v : ℕ) (early : v < version) where
  has-ended : (span : Span) → has_slot carried v (ended version list span) ≡ has_slot carried v span
  has-ended span =
      rw (ended_id version list span, ended_from version list span, ended_to version list span)
      (ap (λ b. (leb span.from v && b) && not (is_carried carried span.id)) (end-before v version (is_written list span.id) span.to early))

  begun-one : (write : Write) (row : Option (List Cell)) (place : ℕ) (rest : List Span) → ((p : ℕ) → slots_from carried v placed p rest ≡ [])
      → slots_from carried v placed place (cons_option (option_map (λ cells. record { id = write.id; from = version; to = None; row = cells }) row) rest) ≡ []
  begun-one write None place rest none = none place
  begun-one write (Some cells) place rest none =
      ap (λ b. cond ((b && true) && not (is_carried carried write.id)) (slot_at place placed ∷ slots_from carried v placed (suc place) rest) (slots_from carried v placed (suc place) rest)) (lt-leb version v early) ∙ none (suc place)

  begun-none : (writes : List Write) (place : ℕ) → slots_from carried v placed place (filter_map (begun version) writes) ≡ []
  begun-none [] place = refl
  begun-none (write ∷ writes) place = begun-one write write.row place (filter_map (begun version) writes) (begun-none writes)

  slots-after : (place : ℕ) (spans : List Span) → slots_from carried v placed place (map (ended version list) spans ++ filter_map (begun version) list) ≡ slots_from carried v placed place spans
  slots-after place [] = begun-none list place
  slots-after place (span ∷ spans) =
      let rest = slots-after (suc place) spans in
      λ i. cond (has-ended span i) (slot_at place placed ∷ rest i) (rest i)

-- the writes of a table are the same after a commit above the version that they lie over
pub overlay-after : (version : ℕ) (list : List Write) (spans : List Span) (writes : TableWrites) → writes.version < version → overlay_of (after_commit version list spans) writes ≡ overlay_of spans writes
overlay-after version list spans writes early =
    ap (λ slots. record { version = writes.version; slots = slots; carried = writes.carried; own = writes.own }) (slots-after version list writes.carried writes.slots writes.version early 0 spans)

-- ---- how slots are found

pub seek-first : (place : ℕ) (placed : List Placed) → IsAscending (map place_of placed) → first_at place (seek place placed) ≡ slot_at place placed
seek-first place [] ascend = refl
seek-first place (one ∷ others) ascend =
    elim (cases_lt one.place place) [
      | inl low ↦
          ap (λ b. first_at place (cond b (seek place others) (one ∷ others))) (lt-ltb one.place place low)
          ∙ seek-first place others ascend.1
          ∙ sym (ap (λ b. cond b one.slot (slot_at place others)) (not_eq one.place place low))
      | inr high ↦
          ap (λ b. first_at place (cond b (seek place others) (one ∷ others))) (le-ltb one.place place high)
          ∙ here (one.place == place) refl high
    ]
  where
    above-all : (xs : List Placed) → place ≤ one.place → AllByRecursion (λ other. one.place < other) (map place_of xs) → AllByRecursion (λ (x : Placed). place < x.place) xs
    above-all [] high all = tt
    above-all (x ∷ xs) high all = (omega (arith, high, all.0), above-all xs high all.1)

    here : (b : Bool) → (one.place == place) ≡ b → place ≤ one.place → cond b one.slot Same ≡ cond b one.slot (slot_at place others)
    here true is high = refl
    here false is high = sym (above-none place others (above-all others high ascend.0))

seek-later : (place later : ℕ) (placed : List Placed) → place < later → slot_at later (seek place placed) ≡ slot_at later placed
seek-later place later [] above = refl
seek-later place later (one ∷ others) above =
    elim (cases_lt one.place place) [
      | inl low ↦
          ap (λ b. slot_at later (cond b (seek place others) (one ∷ others))) (lt-ltb one.place place low)
          ∙ seek-later place later others above
          ∙ sym (ap (λ b. cond b one.slot (slot_at later others)) (not_eq one.place later (omega (arith, low, above))))
      | inr high ↦ ap (λ b. slot_at later (cond b (seek place others) (one ∷ others))) (le-ltb one.place place high)
    ]

seek-ascend : (place : ℕ) (placed : List Placed) → IsAscending (map place_of placed) → IsAscending (map place_of (seek place placed))
seek-ascend place [] ascend = tt
seek-ascend place (one ∷ others) ascend =
    elim (nat_lt one.place place) as (λ b. IsAscending (map place_of (cond b (seek place others) (one ∷ others)))) [ true ↦ seek-ascend place others ascend.1 | false ↦ ascend ]

-- the slots at these places are among those that are ahead
pub record IsAhead (placed ahead : List Placed) (places : List ℕ) : Type 0 where
  pub slots : IsAscending (map place_of ahead)
  pub ascend : IsAscending places
  pub same : AllByRecursion (λ place. slot_at place ahead ≡ slot_at place placed) places

pub ahead-all : (placed : List Placed) (places : List ℕ) → IsAscending (map place_of placed) → IsAscending places → IsAhead placed placed places
ahead-all placed places slots ascend = record { slots = slots; ascend = ascend; same = itself places }
  where
    itself : (some : List ℕ) → AllByRecursion (λ place. slot_at place placed ≡ slot_at place placed) some
    itself [] = tt
    itself (place ∷ some) = (refl, itself some)

module _ (placed ahead : List Placed) (place : ℕ) (places list : List ℕ) (is : list ≡ place ∷ places) (held : IsAhead placed ahead list) where
  first-held : IsAhead placed ahead (place ∷ places)
  first-held = subst (IsAhead placed ahead) is held

  -- the slot at the first place
  pub ahead-first : first_at place (seek place ahead) ≡ slot_at place placed
  ahead-first = seek-first place ahead first-held.slots ∙ first-held.same.0

  later-same : (some : List ℕ) → AllByRecursion (λ other. place < other) some → AllByRecursion (λ other. slot_at other ahead ≡ slot_at other placed) some → AllByRecursion (λ other. slot_at other (seek place ahead) ≡ slot_at other placed) some
  later-same [] above same = tt
  later-same (other ∷ some) above same = (seek-later place other ahead above.0 ∙ same.0, later-same some above.1 same.1)

  pub ahead-more : IsAhead placed (seek place ahead) places
  ahead-more = record { slots = seek-ascend place ahead first-held.slots; ascend = first-held.ascend.1; same = later-same places first-held.ascend.0 first-held.same.1 }

-- ---- the slots from a place on

pub seek-few : (place : ℕ) (placed : List Placed) → length (seek place placed) ≤ length placed
seek-few place [] = omega arith
seek-few place (one ∷ others) =
    let rest = seek-few place others in
    elim (nat_lt one.place place) as (λ b. length (cond b (seek place others) (one ∷ others)) ≤ length (one ∷ others)) [ true ↦ omega (arith, rest) | false ↦ omega arith ]

-- those before them are at places below
pub seek-front : (place : ℕ) (front back : List Placed) → length front + length (seek place (front ++ back)) ≡ length (front ++ back) → AllByRecursion (λ (one : Placed). one.place < place) front
seek-front place [] back is = tt
seek-front place (one ∷ front) back is =
    (elim (cases_lt one.place place) [
      | inl low ↦ (
        low,
        seek-front place front back
            (let here = ap (λ b. length (cond b (seek place (front ++ back)) (one ∷ (front ++ back)))) (lt-ltb one.place place low) in omega (arith, here, is)),
      )
      | inr high ↦ absurd (let here = ap (λ b. length (cond b (seek place (front ++ back)) (one ∷ (front ++ back)))) (le-ltb one.place place high) in omega (arith, here, is))
    ])

-- ---- a turn of a pass over places

module _ {X : Type 0} (F : ℕ → List X) (place : ℕ) (places list : List ℕ) (is : list ≡ place ∷ places) where
  pub pass-more : (done made : List X) → made ≡ F place → (done ++ made) ++ flat_map F places ≡ done ++ flat_map F list
  pass-more done made same = append_assoc done made (flat_map F places) ∙ ap (λ xs. done ++ (xs ++ flat_map F places)) same ∙ ap (λ some. done ++ flat_map F some) (sym is)
