-- What anomalies show, and that each cycle goes back.
use Rattle.gp_serial.proofs.Prelude.{◌≡◌, ◌≢◌, ◌<◌, ◌≤◌, ◌+◌, ℕ, zero, suc, Bool, true, false, cond, List, [], ◌∷◌, ◌++◌, length, map, get_or, Option, Some, None, refl, sym, ap, ◌∙◌, subst, arith, inl, inr, ⊎_elim, ◌==◌, ◌&&◌, ◌||◌, and_parts, cases_lt, eq_itself, eqb-true, ne_eqb, false≢true, filter, not, nat_lt, nat_tests, none-some, same_Some, slice_get, flat_map, list_any, option_map, option_map_or, option_or, unwrap_or, Contains, AllByRecursion, if◌then◌else◌, Table, Entry, KeepsSessions, committer_of, is_before, read_after, read_before, reasons, wrote_before, Reason, RowChange, numbers, transactions_in}
use Rattle.std.proofs.Common.{◌⊎◌, is_some}
use Rattle.std.proofs.lemmas.List.Elements.{Contains-append_left, Contains-append_right}
use Rattle.gp_machine.specs.Entries.{version_of}
use Rattle.gp_machine.proofs.HeldPoints.{version_is}
use Rattle.gp_serial.specs.declared.anomaly.AnomalyName.{AnomalyName}
use Rattle.gp_serial.specs.declared.anomaly.AnomalyName.TheVariants.{LostUpdate}
use Rattle.gp_serial.specs.Anomalies as s
use Rattle.gp_serial.specs.Anomalies.{Facts, anomaly_of, by_steps, facts, is_later, lost, lost_steps, name_of, own_step, reads_written, steps_between, unseen}
use Rattle.gp_serial.specs.AnomalyLaws.{IsHeld, IsShown}
use Rattle.gp_serial.specs.Graphs.{closes, is_cycle, least_cycle}
use Rattle.gp_serial.specs.LeastCycles.{IsCycleOf}
use Rattle.gp_serial.specs.NameForms.{version_made}
use Rattle.gp_serial.specs.PairCycles.{has_pair, is_pair, pair_cycles, pairs_of, pairs_to}
use Rattle.gp_serial.specs.PairLaws.{GoesBackIn, IsOfPair}
use Rattle.gp_serial.specs.Serializing.{Step, by_number, step_of}
use Rattle.gp_serial.proofs.Anys.{or_right}
use Rattle.gp_serial.proofs.AnomalyLemmas.{all_committed, by_number-up}
use Rattle.gp_serial.proofs.LeastLemmas.{Among, each_from, each_in, from_in, in_from}
use Rattle.gp_serial.proofs.Repetitions.{no_cycle}
use Rattle.gp_serial.proofs.WholeOrders.{is_in}
use Rattle.gp_serial.proofs.PairLawLemmas.{least_first, pairs_are}

-- ---- pairs

pair_itself : (a b : ℕ) → is_pair a b (a, b) ≡ true
pair_itself a b = λ i. eq_itself a i && eq_itself b i

-- each pair of a cycle is of the relation
pairs_close : (is_before : ℕ → ℕ → Bool) (first : ℕ) (list : List ℕ) → closes is_before first list ≡ true → AllByRecursion (λ (pair : ℕ × ℕ). is_before pair.0 pair.1 ≡ true) (pairs_to first list)
pairs_close is_before first [] e = tt
pairs_close is_before first (a ∷ []) e = (e, tt)
pairs_close is_before first (a ∷ b ∷ others) e =
    let parts = and_parts (is_before a b) (closes is_before first (b ∷ others)) e in
    (parts.0, pairs_close is_before first (b ∷ others) parts.1)

cycle_pairs : (is_before : ℕ → ℕ → Bool) (cycle : List ℕ) → is_cycle is_before cycle ≡ true → AllByRecursion (λ (pair : ℕ × ℕ). is_before pair.0 pair.1 ≡ true) (pairs_of cycle)
cycle_pairs is_before [] e = tt
cycle_pairs is_before (first ∷ others) e = pairs_close is_before first (first ∷ others) e

-- ---- what is in a list

first_in : {A : Type 0} (list : List A) → nat_lt 0 (length list) ≡ true → (x : A) × (slice_get list 0 ≡ Some x) × Contains list x
first_in [] e = absurd (empty e)
  where
    empty : nat_lt 0 0 ≡ true → ⊥
    empty e = absurd (false≢true e)
first_in (x ∷ list) e = (x, refl, (zero, omega arith, refl))

behind : {A : Type 0} (x y : A) (list : List A) → Contains list x → Contains (y ∷ list) x
behind x y list (place, within, at) = (suc place, omega (arith, within), at)

from_filter : {A : Type 0} (p : A → Bool) (list : List A) (x : A) → Contains (filter p list) x → Contains list x
from_filter p [] x there = there
from_filter p (y ∷ list) x there = by (p y) (from_filter p list x) there
  where
    by : (c : Bool) → (Contains (filter p list) x → Contains list x) → Contains (if c then y ∷ filter p list else filter p list) x → Contains (y ∷ list) x
    by false rest there = behind x y list (rest there)
    by true rest (zero, within, at) = (zero, omega arith, at)
    by true rest (suc place, within, at) = behind x y list (rest (place, omega (arith, within), at))

module _ (tables : List Table) (entries : List Entry) (changes : List RowChange) where
  abbrev before : ℕ → ℕ → Bool
  before = is_before tables entries changes

  none_itself : (a b : ℕ) → before a b ≡ true → (a == b) ≡ false
  none_itself a b e = by (a == b) refl
    where
      none : (a == b) ≡ true → before a b ≡ false
      none same = ap (λ (c : Bool). nat_lt 0 (length (if c then [] else read_before tables entries changes a b ++ (read_after tables entries changes a b ++ wrote_before tables entries changes a b)))) same

      by : (c : Bool) → (a == b) ≡ c → (a == b) ≡ false
      by true same = absurd (false≢true (sym (none same) ∙ e))
      by false other = other

  -- ---- the steps of anomalies

  abbrev Held : Step → Type 0
  Held = IsHeld tables entries changes

  held_by : (a b : ℕ) → before a b ≡ true → Held (step_of tables entries changes a b)
  held_by a b e =
      let found = first_in (reasons tables entries changes a b) e in
      record { reason = found.0; is = found.1; holds = found.2 }

  each_held : (pairs : List (ℕ × ℕ)) → AllByRecursion (λ (pair : ℕ × ℕ). before pair.0 pair.1 ≡ true) pairs → AllByRecursion Held (steps_between (facts tables entries changes) pairs)
  each_held [] all = tt
  each_held (pair ∷ pairs) (own, all) = (held_by pair.0 pair.1 own, each_held pairs all)

  each_pair : (pairs : List (ℕ × ℕ)) → map (λ (step : Step). (step.first, step.next)) (steps_between (facts tables entries changes) pairs) ≡ pairs
  each_pair [] = refl
  each_pair (pair ∷ pairs) = ap (λ rest. pair ∷ rest) (each_pair pairs)

  -- an update that is lost
  lost_from : (a b : ℕ) (writes : List Reason) (two : Reason × Reason)
      → slice_get (flat_map (λ wrote. map (λ (read : Reason). (read, wrote)) (filter (reads_written wrote) (read_before tables entries changes a b))) writes) 0 ≡ Some two
      → Contains (read_before tables entries changes a b) two.0 × Contains writes two.1
  lost_from a b [] two is = absurd (none-some two is)
  lost_from a b (wrote ∷ writes) two is = by (filter (reads_written wrote) (read_before tables entries changes a b)) refl (lost_from a b writes two)
    where
      rest : List (Reason × Reason)
      rest = flat_map (λ wrote. map (λ (read : Reason). (read, wrote)) (filter (reads_written wrote) (read_before tables entries changes a b))) writes

      by : (reads : List Reason) → filter (reads_written wrote) (read_before tables entries changes a b) ≡ reads → (slice_get rest 0 ≡ Some two → Contains (read_before tables entries changes a b) two.0 × Contains writes two.1)
          → Contains (read_before tables entries changes a b) two.0 × Contains (wrote ∷ writes) two.1
      by [] none later =
          let others = later (sym (ap (λ list. slice_get (map (λ (read : Reason). (read, wrote)) list ++ rest) 0) none) ∙ is) in
          (others.0, behind two.1 wrote writes others.1)
      by (read ∷ reads) some later =
          let same : (read, wrote) ≡ two = same_Some (read, wrote) two (sym (ap (λ list. slice_get (map (λ (read : Reason). (read, wrote)) list ++ rest) 0) some) ∙ is) in
          (subst (λ (own : Reason × Reason). Contains (read_before tables entries changes a b) own.0 × Contains (wrote ∷ writes) own.1) same (
            from_filter (reads_written wrote) (read_before tables entries changes a b) read (subst (λ list. Contains list read) (sym some) (zero, omega arith, refl)),
            (zero, omega arith, refl),
          ))

  -- both reasons hold
  lost_holds : (a b : ℕ) (two : Reason × Reason) → (a == b) ≡ false → (b == a) ≡ false → slice_get (lost tables entries changes a b) 0 ≡ Some two
      → Contains (reasons tables entries changes a b) two.0 × Contains (reasons tables entries changes b a) two.1
  lost_holds a b two other turned is =
      let both = lost_from a b (unseen tables entries changes a b) two is in (
        subst (λ (c : Bool). Contains (if c then [] else read_before tables entries changes a b ++ (read_after tables entries changes a b ++ wrote_before tables entries changes a b)) two.0) (sym other)
            (Contains-append_left (read_before tables entries changes a b) (read_after tables entries changes a b ++ wrote_before tables entries changes a b) two.0 both.0),
        subst (λ (c : Bool). Contains (if c then [] else read_before tables entries changes b a ++ (read_after tables entries changes b a ++ wrote_before tables entries changes b a)) two.1) (sym turned)
            (Contains-append_right (read_before tables entries changes b a) (read_after tables entries changes b a ++ wrote_before tables entries changes b a) two.1
            (Contains-append_right (read_after tables entries changes b a) (wrote_before tables entries changes b a) two.1
            (from_filter (λ wrote. not (list_any (reads_written wrote) (read_after tables entries changes b a))) (wrote_before tables entries changes b a) two.1 both.1))),
      )

  abbrev Shown : List ℕ → s.Anomaly → Type 0
  Shown = IsShown tables entries changes

  shown_lost : (cycle : List ℕ) → AllByRecursion (λ (pair : ℕ × ℕ). before pair.0 pair.1 ≡ true) (pairs_of cycle) → (steps : List Step) → lost_steps (facts tables entries changes) cycle ≡ Some steps
      → Shown cycle (by_steps (facts tables entries changes) LostUpdate steps)
  shown_lost [] all steps is = absurd (none-some steps is)
  shown_lost (a ∷ []) all steps is = absurd (none-some steps is)
  shown_lost (a ∷ b ∷ c ∷ others) all steps is = absurd (none-some steps is)
  shown_lost (a ∷ b ∷ []) all steps is = by (slice_get (lost tables entries changes a b) 0) refl (slice_get (lost tables entries changes b a) 0) refl is
    where
      other : (a == b) ≡ false
      other = none_itself a b all.0

      turned : (b == a) ≡ false
      turned = none_itself b a all.1.0

      shown : (one two : Reason) → Contains (reasons tables entries changes a b) one → Contains (reasons tables entries changes b a) two
          → Shown (a ∷ b ∷ []) (by_steps (facts tables entries changes) LostUpdate (own_step a b one ∷ own_step b a two ∷ []))
      shown one two here there = record {
        pairs = refl;
        each = (record { reason = one; is = refl; holds = here }, (record { reason = two; is = refl; holds = there }, tt));
      }

      by : (forth : Option (Reason × Reason)) → slice_get (lost tables entries changes a b) 0 ≡ forth → (back : Option (Reason × Reason)) → slice_get (lost tables entries changes b a) 0 ≡ back
          → option_or (option_map (λ (two : Reason × Reason). own_step a b two.0 ∷ own_step b a two.1 ∷ []) forth)
          (option_map (λ (two : Reason × Reason). own_step a b two.1 ∷ own_step b a two.0 ∷ []) back) ≡ Some steps
          → Shown (a ∷ b ∷ []) (by_steps (facts tables entries changes) LostUpdate steps)
      by (Some two) at back also same =
          let both = lost_holds a b two other turned at in
          subst (λ (own : List Step). Shown (a ∷ b ∷ []) (by_steps (facts tables entries changes) LostUpdate own))
          (same_Some (own_step a b two.0 ∷ own_step b a two.1 ∷ []) steps same) (shown two.0 two.1 both.0 both.1)
      by None at (Some two) also same =
          let both = lost_holds b a two turned other also in
          subst (λ (own : List Step). Shown (a ∷ b ∷ []) (by_steps (facts tables entries changes) LostUpdate own))
          (same_Some (own_step a b two.1 ∷ own_step b a two.0 ∷ []) steps same) (shown two.1 two.0 both.1 both.0)
      by None at None also same = absurd (none-some steps same)

  -- every anomaly shows its steps
  pub anomaly_shown : (cycle : List ℕ) → is_cycle before cycle ≡ true → Shown cycle (anomaly_of (facts tables entries changes) cycle)
  anomaly_shown cycle e = by (lost_steps (facts tables entries changes) cycle) refl
    where
      pairs : AllByRecursion (λ (pair : ℕ × ℕ). before pair.0 pair.1 ≡ true) (pairs_of cycle)
      pairs = cycle_pairs before cycle e

      other : s.Anomaly
      other = by_steps (facts tables entries changes) (name_of (facts tables entries changes) cycle) (steps_between (facts tables entries changes) (pairs_of cycle))

      by : (found : Option (List Step)) → lost_steps (facts tables entries changes) cycle ≡ found → Shown cycle (option_map_or (by_steps (facts tables entries changes) LostUpdate) found other)
      by (Some steps) is = shown_lost cycle pairs steps is
      by None is = record { pairs = each_pair (pairs_of cycle); each = each_held (pairs_of cycle) pairs }

  -- ---- every cycle goes back

  module _ (keeps : KeepsSessions entries) where
    abbrev all : List ℕ
    all = by_number entries

    abbrev Own : ℕ → Type 0
    Own t = Contains all t × (is_some (version_of t entries) ≡ true)

    abbrev made : ℕ → ℕ
    made = version_made entries

    maker : (t : ℕ) → is_some (version_of t entries) ≡ true → committer_of (made t) entries ≡ t
    maker t some = by (version_of t entries) refl some
      where
        by : (found : Option ℕ) → version_of t entries ≡ found → is_some found ≡ true → committer_of (unwrap_or found 0) entries ≡ t
        by None is some = absurd (false≢true some)
        by (Some version) is some = let own = version_is t version entries is in ap (λ v. committer_of v entries) own.is ∙ own.made

    abbrev back : ℕ → ℕ → Bool
    back = s.goes_back tables entries changes

    -- one that is before another goes back, or has the lesser version
    goes : (a b : ℕ) → Own a → Own b → before a b ≡ true → (back a b ≡ true) ⊎ (made a < made b)
    goes a b one two e =
        ⊎_elim
        (λ less. inl (λ i. e i && later (version_of a entries) (version_of b entries) one.1 two.1 less i))
        (λ most. inr (rising most))
        (cases_lt (made b) (made a))
      where
        later : (own other : Option ℕ) → is_some own ≡ true → is_some other ≡ true → unwrap_or other 0 < unwrap_or own 0 → is_later own other ≡ true
        later None other some also less = absurd (false≢true some)
        later (Some version) None some also less = absurd (false≢true also)
        later (Some version) (Some lesser) some also less = grind (arith, nat_tests)

        apart : made a ≡ made b → ⊥
        apart same =
            false≢true (sym (none_itself a b e) ∙ ap (λ t. a == t) (sym (sym (maker a one.1) ∙ ap (λ v. committer_of v entries) same ∙ maker b two.1)) ∙ eq_itself a)

        rising : made a ≤ made b → made a < made b
        rising most = ⊎_elim (λ less. less) (λ more. absurd (apart (omega (arith, most, more)))) (cases_lt (made a) (made b))

    -- a pair that goes back, among the pairs to a first one
    record Back (first : ℕ) (list : List ℕ) : Type 0 where
      a : ℕ
      b : ℕ
      a-among : Contains all a
      b-among : Contains all b
      back-is : back a b ≡ true
      pair : list_any (is_pair a b) (pairs_to first list) ≡ true

    search : (first a : ℕ) (others : List ℕ) → Own first → AllByRecursion Own (a ∷ others) → closes before first (a ∷ others) ≡ true → Back first (a ∷ others) ⊎ (made a < made first)
    search first a [] is own e =
        ⊎_elim
        (λ found. inl (record { a = a; b = first; a-among = own.0.0; b-among = is.0; back-is = found; pair = ap (λ c. c || false) (pair_itself a first) }))
        (λ less. inr less)
        (goes a first own.0 is e)
    search first a (b ∷ others) is own e =
        let parts = and_parts (before a b) (closes before first (b ∷ others)) e in
        ⊎_elim
        (λ found. inl (record { a = a; b = b; a-among = own.0.0; b-among = own.1.0.0; back-is = found; pair = ap (λ c. c || list_any (is_pair a b) (pairs_to first (b ∷ others))) (pair_itself a b) }))
        (λ less.
        ⊎_elim
        (λ (found : Back first (b ∷ others)). inl (record {
          a = found.a;
          b = found.b;
          a-among = found.a-among;
          b-among = found.b-among;
          back-is = found.back-is;
          pair = or_right (is_pair found.a found.b (a, b)) (list_any (is_pair found.a found.b) (pairs_to first (b ∷ others))) found.pair;
        }))
        (λ more. inr (omega (arith, less, more)))
        (search first b others is own.1 parts.1))
        (goes a b own.0 own.1.0 parts.0)

    pub goes_back_in : (other : List ℕ) → IsCycleOf before all other → GoesBackIn back all other
    goes_back_in [] cycle = absurd (false≢true cycle.closes)
    goes_back_in (first ∷ others) cycle =
        let own : AllByRecursion Own (first ∷ others) =
        each_from Own (first ∷ others) (λ t there. (cycle.among t there, each_in (λ t. is_some (version_of t entries) ≡ true) all (all_committed entries keeps) t (cycle.among t there))) in
        ⊎_elim
        (λ (found : Back first (first ∷ others)). record { a = found.a; b = found.b; a-among = found.a-among; b-among = found.b-among; back = found.back-is; pair = found.pair })
        (λ less. absurd (omega (arith, less)))
        (search first first others own.0 own cycle.closes)

    -- the first anomaly is the cycle of the answer to whether there is an order
    pub cycles_begin : least_cycle before all ≡ unwrap_or (slice_get (s.cycles tables entries changes) 0) []
    cycles_begin = least_first before back all (by_number-up entries keeps) goes_back_in

    pub all_shown : AllByRecursion (λ cycle. Shown cycle (anomaly_of (facts tables entries changes) cycle)) (s.cycles tables entries changes)
    all_shown = shown_each (s.cycles tables entries changes) (pairs_are before back all (by_number-up entries keeps)).each
      where
        shown_each : (cycles : List (List ℕ)) → AllByRecursion (IsOfPair before all back) cycles → AllByRecursion (λ cycle. Shown cycle (anomaly_of (facts tables entries changes) cycle)) cycles
        shown_each [] each = tt
        shown_each (cycle ∷ cycles) (own, each) = (anomaly_shown cycle own.first.through.own.closes, shown_each cycles each)

    -- ---- no anomaly

    pub none_where_none : s.cycles tables entries changes ≡ [] → (other : List ℕ) → IsCycleOf before all other → ⊥
    none_where_none none other cycle = no_cycle before all short (length other) other (omega arith) cycle.closes (each_from (λ t. is_in all t ≡ true) other (λ t there. in_from all t (cycle.among t there)))
      where
        short : (other : List ℕ) → is_cycle before other ≡ true → Among all other → length other ≤ length all → ⊥
        short other closes among few =
            let own : IsCycleOf before all other = record { closes = closes; among = λ t there. from_in all t (each_in (λ n. is_in all n ≡ true) other among t there) } in
            let pair = goes_back_in other own in
            false≢true (sym (ap (list_any (has_pair pair.a pair.b)) none)
            ∙ (pairs_are before back all (by_number-up entries keeps)).whole pair.a pair.b pair.a-among pair.b-among pair.back other (record { own = own; pair = pair.pair }) few)

    pub none_if_none : ((other : List ℕ) → IsCycleOf before all other → ⊥) → s.cycles tables entries changes ≡ []
    none_if_none none = by (s.cycles tables entries changes) (pairs_are before back all (by_number-up entries keeps)).each
      where
        by : (cycles : List (List ℕ)) → AllByRecursion (IsOfPair before all back) cycles → cycles ≡ []
        by [] each = refl
        by (cycle ∷ cycles) (own, each) = absurd (none cycle own.first.through.own)
