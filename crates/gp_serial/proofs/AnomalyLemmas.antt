-- All anomalies: the pairs of a cycle, and the cycles of all transactions.
use Rattle.gp_serial.proofs.Prelude.{◌≡◌, ◌<◌, ◌≤◌, ◌+◌, ℕ, zero, suc, Bool, true, false, cond, List, [], ◌∷◌, ◌++◌, length, map, drop, drop_more, get_or, get_or_default_zero, Option, Some, None, is_none, refl, sym, ap, ◌∙◌, subst, arith, add-one, ⊎_elim, ◌==◌, ◌&&◌, ne_eqb, eqb-true, false≢true, filter, nat_le, nat_lt, unwrap_or, length-map, Contains, AllByRecursion, append_assoc, nat_tests, Vec, Global, option_map, option_map_or, cases_lt, if◌then◌else◌, Table, Entry, KeepsSessions, committer_of, transactions_in, versions_in, is_before, numbers, RowChange}
use Rattle.std.proofs.Common.{◌^◌, AllPairs, is_some}
use Rattle.std.proofs.lemmas.List.{drop_all}
use Rattle.std.proofs.lemmas.List.Kept.{AllPairs-filter}
use Rattle.gp_log.proofs.KeptSessions.{orderly}
use Rattle.gp_machine.specs.Entries.{is_commit, transaction_of, version_of}
use Rattle.gp_machine.specs.SerialForms.{committers}
use Rattle.gp_serial.specs.declared.changes.RowChange as code
use Rattle.gp_serial.specs.Anomalies as s
use Rattle.gp_serial.specs.Anomalies.{is_later}
use Rattle.gp_serial.specs.Changes.{AreMade, change_view}
use Rattle.gp_serial.specs.NameForms.{AreByTransaction, AreVersions, changes_at, is_by, version_made}
use Rattle.gp_serial.specs.PairCycles.{pair_cycles, pairs_of, pairs_to}
use Rattle.gp_serial.specs.PathForms.{goes_back}
use Rattle.gp_serial.specs.Preceding.{IsPrecedence}
use Rattle.gp_serial.specs.SerialViews.{next_in}
use Rattle.gp_serial.specs.Serializing.{by_number}
use Rattle.gp_serial.proofs.AgreeLemmas.{pairs_agree}
use Rattle.gp_serial.proofs.Repetitions.{fewer}
use Rattle.gp_serial.proofs.SerializingLemmas.{made_by, numbers_at, numbers_long}

-- ---- the pairs of a cycle, one after another

pub pairs_start : (cycle : List ℕ) → pairs_to (get_or cycle 0 0) cycle ≡ pairs_of cycle
pairs_start [] = refl
pairs_start (first ∷ others) = refl

pub pairs_next : (first : ℕ) (cycle : List ℕ) (place : ℕ) → first ≡ get_or cycle 0 0 → place < length cycle
    → pairs_to first (drop place cycle) ≡ (get_or cycle place 0, next_in cycle place) ∷ pairs_to first (drop (place + 1) cycle)
pairs_next first cycle place is within = ap (pairs_to first) (drop_more cycle place 0 within) ∙ by (nat_lt (suc place) (length cycle)) refl
  where
    inside : nat_lt (suc place) (length cycle) ≡ true → place + 1 < length cycle
    inside e = grind (arith, nat_tests)

    outside : nat_lt (suc place) (length cycle) ≡ false → length cycle ≤ place + 1
    outside e = grind (arith, nat_tests)

    by : (more : Bool) → nat_lt (suc place) (length cycle) ≡ more
        → pairs_to first (get_or cycle place 0 ∷ drop (place + 1) cycle) ≡ (get_or cycle place 0, cond more (get_or cycle (suc place) 0) (get_or cycle 0 0)) ∷ pairs_to first (drop (place + 1) cycle)
    by true e =
        let behind = drop_more cycle (place + 1) 0 (inside e) in
        ap (λ rest. pairs_to first (get_or cycle place 0 ∷ rest)) behind
        ∙ (λ i. (get_or cycle place 0, get_or cycle (add-one place i) 0) ∷ pairs_to first (sym behind i))
    by false e =
        let none = drop_all (place + 1) cycle (outside e) in
        ap (λ rest. pairs_to first (get_or cycle place 0 ∷ rest)) none
        ∙ (λ i. (get_or cycle place 0, is i) ∷ pairs_to first (sym none i))

-- the pairs so far, and the others
pub pairs_more : (first : ℕ) (cycle : List ℕ) (place : ℕ) (pairs : List (ℕ × ℕ)) (a b : ℕ) → first ≡ get_or cycle 0 0 → place < length cycle → a ≡ get_or cycle place 0 → b ≡ next_in cycle place
    → (pairs ++ (a, b) ∷ []) ++ pairs_to first (drop (place + 1) cycle) ≡ pairs ++ pairs_to first (drop place cycle)
pairs_more first cycle place pairs a b is within one two =
    append_assoc pairs ((a, b) ∷ []) (pairs_to first (drop (place + 1) cycle))
    ∙ (λ i. pairs ++ (one i, two i) ∷ pairs_to first (drop (place + 1) cycle))
    ∙ ap (λ rest. pairs ++ rest) (sym (pairs_next first cycle place is within))

-- ---- numbers that are too great

beyond : {A : Type 0} (xs : List A) (place : ℕ) (d : A) → length xs ≤ place → get_or xs place d ≡ d
beyond [] place d most = refl
beyond (x ∷ xs) zero d most = absurd (omega (arith, most))
beyond (x ∷ xs) (suc place) d most = beyond xs place d (omega (arith, most))

-- a version that no entry makes
none_made : (version : ℕ) (entries : List Entry) → (0 < version → versions_in entries < version) → committer_of version entries ≡ 0
none_made version [] most = refl
none_made version (entry ∷ older) most = by (is_commit entry) refl (none_made version older)
  where
    apart : suc (versions_in older) ≡ version → (0 < version → suc (versions_in older) < version) → ⊥
    apart is later = omega (arith, is, later (omega (arith, is)))

    by : (c : Bool) → is_commit entry ≡ c → ((0 < version → versions_in older < version) → committer_of version older ≡ 0) → committer_of version (entry ∷ older) ≡ 0
    by true own later =
        let most-here : 0 < version → suc (versions_in older) < version = λ some. subst (λ (c : Bool). cond c (suc (versions_in older)) (versions_in older) < version) own (most some) in
        ap (λ (c : Bool). if c && (suc (versions_in older) == version) then unwrap_or (transaction_of entry) zero else committer_of version older) own
        ∙ ap (λ (c : Bool). if c then unwrap_or (transaction_of entry) zero else committer_of version older) (ne_eqb (suc (versions_in older)) version (λ is. apart is most-here))
        ∙ later (λ some. omega (arith, most-here some))
    by false own later =
        ap (λ (c : Bool). if c && (suc (versions_in older) == version) then unwrap_or (transaction_of entry) zero else committer_of version older) own
        ∙ later (λ some. subst (λ (c : Bool). cond c (suc (versions_in older)) (versions_in older) < version) own (most some))

module _ (entries : List Entry) (keeps : KeepsSessions entries) where
  made_below : (version : ℕ) → committer_of version entries ≤ transactions_in entries
  made_below zero = omega (arith, none_made zero entries (λ some. absurd (omega (arith, some))))
  made_below (suc u) =
      ⊎_elim
      (λ below. ((orderly entries keeps).makers u below).1)
      (λ above. omega (arith, none_made (suc u) entries (λ some. omega (arith, above))))
      (cases_lt u (versions_in entries))

  none_by : (t : ℕ) (changes : List code.RowChange) → transactions_in entries < t → AreMade entries changes → filter (is_by t) changes ≡ []
  none_by t [] above made = refl
  none_by t (change ∷ changes) above (own, made) =
      ap (λ (c : Bool). if c then change ∷ filter (is_by t) changes else filter (is_by t) changes)
      (ne_eqb change.t t (λ is. omega (arith, is, own, above, made_below change.version)))
      ∙ none_by t changes above made

  -- the lists have all changes
  pub lists_whole : (changes : List code.RowChange) (lists : List (Vec code.RowChange Global)) (count : ℕ) → AreMade entries changes → transactions_in entries < count
      → AreByTransaction changes count lists → (t : ℕ) → changes_at lists t ≡ filter (is_by t) changes
  lists_whole changes lists count made most by t =
      ⊎_elim
      (λ below. by.each t below)
      (λ above. beyond (map (λ (list : Vec code.RowChange Global). list.items) lists) t [] (omega (arith, length-map lists (λ (list : Vec code.RowChange Global). list.items), by.long, above))
      ∙ sym (none_by t changes (omega (arith, most, above)) made))
      (cases_lt t count)

  -- ---- the transactions that committed

  abbrev Committed-one : ℕ → Type 0
  Committed-one t = is_some (version_of t entries) ≡ true

  filtered : (list : List ℕ) → AllByRecursion Committed-one (filter (λ t. is_some (version_of t entries)) list)
  filtered [] = tt
  filtered (t ∷ list) = by (is_some (version_of t entries)) refl (filtered list)
    where
      by : (c : Bool) → is_some (version_of t entries) ≡ c → AllByRecursion Committed-one (filter (λ t. is_some (version_of t entries)) list)
          → AllByRecursion Committed-one (if c then t ∷ filter (λ t. is_some (version_of t entries)) list else filter (λ t. is_some (version_of t entries)) list)
      by true own rest = (own, rest)
      by false own rest = rest

  pub all_committed : AllByRecursion Committed-one (by_number entries)
  all_committed = filtered (numbers (transactions_in entries))

  committer : (t : ℕ) → Committed-one t → Contains (committers entries) t
  committer t some = by (version_of t entries) refl some
    where
      by : (found : Option ℕ) → version_of t entries ≡ found → is_some found ≡ true → Contains (committers entries) t
      by None is some = absurd (false≢true some)
      by (Some version) is some = (made_by entries keeps).all t version is

  few : (t : ℕ) → Committed-one t → t ≤ transactions_in entries
  few t some = (made_by entries keeps).is t (committer t some)

  pub all_below : (count : ℕ) → transactions_in entries < count → AllByRecursion (λ t. t < count) (by_number entries)
  all_below count most = weaken (by_number entries) all_committed
    where
      weaken : (list : List ℕ) → AllByRecursion Committed-one list → AllByRecursion (λ t. t < count) list
      weaken [] own = tt
      weaken (t ∷ list) (here, own) = (omega (arith, few t here, most), weaken list own)

  numbers_up : (n : ℕ) → AllPairs (λ a b. a < b) (numbers n)
  numbers_up n i j d less within =
      let first : get_or (numbers n) i d ≡ suc i = get_or_default_zero (numbers n) i d (omega (arith, less, within)) ∙ numbers_at n i (omega (arith, less, within, numbers_long n)) in
      let second : get_or (numbers n) j d ≡ suc j = get_or_default_zero (numbers n) j d within ∙ numbers_at n j (omega (arith, within, numbers_long n)) in
      omega (arith, first, second, less)

  pub by_number-up : AllPairs (λ a b. a < b) (by_number entries)
  by_number-up = AllPairs-filter (λ a b. a < b) (λ t. is_some (version_of t entries)) (numbers (transactions_in entries)) (numbers_up (transactions_in entries))

  pub by_number-few : length (by_number entries) ≤ transactions_in entries
  by_number-few = omega (arith, fewer (λ t. is_some (version_of t entries)) (numbers (transactions_in entries)), numbers_long (transactions_in entries))

  -- ---- their cycles

  module _ (tables : List Table) (changes : List RowChange) (relation : ℕ → ℕ → Bool) (agrees : IsPrecedence tables entries changes (committers entries) relation)
      (versions : List ℕ) (count : ℕ) (most : transactions_in entries < count) (made : AreVersions entries count versions) where
    later : (t : ℕ) → Committed-one t → get_or versions t 0 ≡ version_made entries t
    later t some = made.each t (omega (arith, few t some, most))

    later_is : (one other : Option ℕ) → is_some one ≡ true → is_some other ≡ true → nat_lt (unwrap_or other 0) (unwrap_or one 0) ≡ is_later one other
    later_is None other some also = absurd (false≢true some)
    later_is (Some version) None some also = absurd (false≢true also)
    later_is (Some version) (Some also-version) some also = refl

    before : (a b : ℕ) → Committed-one a → Committed-one b → relation a b ≡ is_before tables entries changes a b
    before a b one two = agrees a b (committer a one) (committer b two)

    back : (a b : ℕ) → Committed-one a → Committed-one b → goes_back relation versions a b ≡ s.goes_back tables entries changes a b
    back a b one two =
        (λ i. before a b one two i && nat_lt (later b two i) (later a one i))
        ∙ ap (λ c. is_before tables entries changes a b && c) (later_is (version_of a entries) (version_of b entries) one two)

    pub cycles_are : pair_cycles relation (by_number entries) (goes_back relation versions) ≡ s.cycles tables entries changes
    cycles_are = pairs_agree relation (is_before tables entries changes) Committed-one before (goes_back relation versions) (s.goes_back tables entries changes) back (by_number entries) all_committed
