-- The relation that the code builds is that of the history machine.
use Rattle.gp_serial.proofs.Prelude.{◌≡◌, ◌≢◌, ◌<◌, ◌≤◌, ◌+◌, ℕ, zero, suc, Bool, true, false, cond, List, [], ◌∷◌, ◌++◌, map, Some, None, refl, sym, ap, ◌∙◌, subst, arith, ⊎_elim, ◌==◌, ◌&&◌, ◌||◌, filter, nat_le, nat_lt, not, slice_get, flat_map, list_any, option_map_or, and_parts, cases_lt, eqb-true, false≢true, nat_tests, Table, eq_itself, eq_not, Entry, committer_of, statement_at, statement_count, statement_version, Look, looks, Reason, ReadAfter, ReadBefore, Wrote, changes_by, is_before, meets, numbers, read_after, read_before, same_row, wrote_before, RowChange}
use Rattle.gp_base.specs.Identities.{same_identity}
use Rattle.gp_versions.proofs.SameLemmas.{same-sym}
use Rattle.gp_machine.specs.Precedence.{looked_at}
use Rattle.gp_serial.specs.declared.changes.RowChange as code
use Rattle.gp_serial.specs.Changes.{AreMade, change_view}
use Rattle.gp_serial.specs.Preceding.{AreGrouped, all_links, first_links, links, one_link, row_links, statement_links, transaction_links, write_links}
use Rattle.gp_serial.proofs.Anys.{and_both, any_elim, any_filter, any_intro, by_both, either, mapped_elim, numbers_any, or_left, or_right, some_append, some_filter, some_flat_map, some_map, there_is}
use Rattle.gp_versions.proofs.PlaceLemmas.{mapped-at}

-- ---- tests of numbers

below : (a b : ℕ) → nat_lt a b ≡ true → a < b
below a b e = grind (arith, nat_tests)

not_below : (a b : ℕ) → nat_lt a b ≡ false → b ≤ a
not_below a b e = grind (arith, nat_tests)

at_most : (a b : ℕ) → nat_le a b ≡ true → a ≤ b
at_most a b e = grind (arith, nat_tests)

is_below : (a b : ℕ) → a < b → nat_lt a b ≡ true
is_below a b l = grind (arith, nat_tests)

is_not_below : (a b : ℕ) → b ≤ a → nat_lt a b ≡ false
is_not_below a b l = grind (arith, nat_tests)

is_at_most : (a b : ℕ) → a ≤ b → nat_le a b ≡ true
is_at_most a b l = grind (arith, nat_tests)

not_same : (a b : ℕ) → not (a == b) ≡ true → a ≢ b
not_same a b e same = false≢true (sym (ap not (ap (λ c. a == c) (sym same) ∙ eq_itself a)) ∙ e)

differs_from : (a b : ℕ) → a ≢ b → not (a == b) ≡ true
differs_from a b other = ap not (eq_not a b other)

-- ---- what a change and a look link

links_elim : (Q : Type 0) (t version : ℕ) (look : Look) (change : code.RowChange) (a b : ℕ) → links t version look change a b ≡ true
    → (t ≡ a → change.t ≡ b → a ≢ b → nat_lt version change.version ≡ true → meets (change_view change) look ≡ true → Q)
    → (t ≡ b → change.t ≡ a → a ≢ b → nat_le change.version version ≡ true → meets (change_view change) look ≡ true → Q) → Q
links_elim Q t version look change a b e earlier later = by (nat_lt version change.version) refl both.1
  where
    both : (not (change.t == t) ≡ true) × (cond (nat_lt version change.version) (one_link t change.t (meets (change_view change) look) a b) (one_link change.t t (meets (change_view change) look) a b) ≡ true)
    both = and_parts (not (change.t == t)) (cond (nat_lt version change.version) (one_link t change.t (meets (change_view change) look) a b) (one_link change.t t (meets (change_view change) look) a b)) e

    by : (lt : Bool) → nat_lt version change.version ≡ lt → cond lt (one_link t change.t (meets (change_view change) look) a b) (one_link change.t t (meets (change_view change) look) a b) ≡ true → Q
    by true is own =
        let met = and_parts (meets (change_view change) look) ((a == t) && (b == change.t)) own in
        let ends = and_parts (a == t) (b == change.t) met.1 in
        let at = eqb-true a t ends.0 in
        let to = eqb-true b change.t ends.1 in
        earlier (sym at) (sym to) (λ same. not_same change.t t both.0 (sym to ∙ sym same ∙ at)) is met.0
    by false is own =
        let met = and_parts (meets (change_view change) look) ((a == change.t) && (b == t)) own in
        let ends = and_parts (a == change.t) (b == t) met.1 in
        let at = eqb-true a change.t ends.0 in
        let to = eqb-true b t ends.1 in
        later (sym to) (sym at) (λ same. not_same change.t t both.0 (sym at ∙ same ∙ to)) (is_at_most change.version version (not_below version change.version is)) met.0

links_earlier : (version : ℕ) (look : Look) (change : code.RowChange) (a b : ℕ) → change.t ≡ b → a ≢ b → nat_lt version change.version ≡ true → meets (change_view change) look ≡ true
    → links a version look change a b ≡ true
links_earlier version look change a b is other later met =
    and_both (not (change.t == a)) _ (differs_from change.t a (λ same. other (sym same ∙ is)))
    (ap (λ lt. cond lt (one_link a change.t (meets (change_view change) look) a b) (one_link change.t a (meets (change_view change) look) a b)) later
    ∙ and_both (meets (change_view change) look) ((a == a) && (b == change.t)) met (and_both (a == a) (b == change.t) (eq_itself a) (ap (λ u. b == u) is ∙ eq_itself b)))

links_later : (version : ℕ) (look : Look) (change : code.RowChange) (a b : ℕ) → change.t ≡ a → a ≢ b → nat_le change.version version ≡ true → meets (change_view change) look ≡ true
    → links b version look change a b ≡ true
links_later version look change a b is other earlier met =
    and_both (not (change.t == b)) _ (differs_from change.t b (λ same. other (sym is ∙ same)))
    (ap (λ lt. cond lt (one_link b change.t (meets (change_view change) look) a b) (one_link change.t b (meets (change_view change) look) a b)) (is_not_below version change.version (at_most change.version version earlier))
    ∙ and_both (meets (change_view change) look) ((a == change.t) && (b == b)) met (and_both (a == change.t) (b == b) (ap (λ u. a == u) is ∙ eq_itself a) (eq_itself b)))

-- ---- what all statements link

module _ (tables : List Table) (entries : List Entry) (changes : List code.RowChange) (made : AreMade entries changes) where
  abbrev own : List RowChange
  own = map change_view changes

  abbrev looks_at : ℕ → ℕ → List Look
  looks_at t k = option_map_or (looks tables) (statement_at t k entries) []

  made_at : (list : List code.RowChange) → AreMade entries list → (i : ℕ) (change : code.RowChange) → slice_get list i ≡ Some change → change.t ≡ committer_of change.version entries
  made_at [] all i change at = absurd (absent change (sym at))
    where
      absent : (change : code.RowChange) → Some change ≡ None → ⊥
      absent change e = absurd cc
  made_at (first ∷ list) (here, all) zero change at = subst (λ (c : code.RowChange). c.t ≡ committer_of c.version entries) (same first change at) here
    where
      same : (first change : code.RowChange) → Some first ≡ Some change → first ≡ change
      same first change e = cc
  made_at (first ∷ list) (here, all) (suc i) change at = made_at list all i change at

  -- the first statements, by their numbers
  transaction_is : (t n a b : ℕ) → transaction_links entries tables changes t n a b ≡ list_any (λ k. statement_links entries tables changes t k a b) (numbers n)
  transaction_is t zero a b = refl
  transaction_is t (suc n) a b =
      ap (λ e. e || statement_links entries tables changes t (suc n) a b) (transaction_is t n a b) ∙ sym (numbers_any (λ k. statement_links entries tables changes t k a b) n)

  -- the reasons to read, as one test
  reads : (test : ℕ → RowChange → Bool) (kind : ℕ → RowChange → Reason) (reader writer : ℕ)
      → there_is (flat_map (λ k. map (kind k) (looked_at tables entries own reader k (filter (test k) (changes_by tables entries own writer)))) (numbers (statement_count reader entries)))
      ≡ list_any (λ k. list_any (λ change. (committer_of change.version entries == writer) && (test k change && list_any (meets change) (looks_at reader k))) own) (numbers (statement_count reader entries))
  reads test kind reader writer =
      some_flat_map (λ k. map (kind k) (looked_at tables entries own reader k (filter (test k) (changes_by tables entries own writer)))) (numbers (statement_count reader entries))
      ∙ (λ i. list_any (λ k. each k i) (numbers (statement_count reader entries)))
    where
      each : (k : ℕ) → there_is (map (kind k) (looked_at tables entries own reader k (filter (test k) (changes_by tables entries own writer))))
          ≡ list_any (λ change. (committer_of change.version entries == writer) && (test k change && list_any (meets change) (looks_at reader k))) own
      each k =
          some_map (kind k) (looked_at tables entries own reader k (filter (test k) (changes_by tables entries own writer)))
          ∙ some_filter (λ change. list_any (meets change) (looks_at reader k)) (filter (test k) (changes_by tables entries own writer))
          ∙ any_filter (λ change. list_any (meets change) (looks_at reader k)) (test k) (changes_by tables entries own writer)
          ∙ any_filter (λ change. test k change && list_any (meets change) (looks_at reader k)) (λ (change : RowChange). committer_of change.version entries == writer) own

  -- those of the looks and changes at places
  reads_intro : (test : ℕ → RowChange → Bool) (reader writer k i j l : ℕ) (look : Look) (change : code.RowChange) → slice_get (numbers (statement_count reader entries)) i ≡ Some k
      → slice_get (looks_at reader k) l ≡ Some look → slice_get changes j ≡ Some change → change.t ≡ writer → test k (change_view change) ≡ true → meets (change_view change) look ≡ true
      → list_any (λ k. list_any (λ change. (committer_of change.version entries == writer) && (test k change && list_any (meets change) (looks_at reader k))) own) (numbers (statement_count reader entries)) ≡ true
  reads_intro test reader writer k i j l look change at_k at_l at_j is own_test met =
      any_intro _ (numbers (statement_count reader entries)) i k at_k
      (any_intro _ own j (change_view change) (mapped-at change_view changes j change at_j)
      (and_both (committer_of change.version entries == writer) _ (ap (λ u. u == writer) (sym (made_at changes made j change at_j) ∙ is) ∙ eq_itself writer)
      (and_both (test k (change_view change)) _ own_test (any_intro (meets (change_view change)) (looks_at reader k) l look at_l met))))

  reads_elim : (Q : Type 0) (test : ℕ → RowChange → Bool) (reader writer : ℕ)
      → list_any (λ k. list_any (λ change. (committer_of change.version entries == writer) && (test k change && list_any (meets change) (looks_at reader k))) own) (numbers (statement_count reader entries)) ≡ true
      → ((k i j l : ℕ) (look : Look) (change : code.RowChange) → slice_get (numbers (statement_count reader entries)) i ≡ Some k
      → slice_get (looks_at reader k) l ≡ Some look → slice_get changes j ≡ Some change → change.t ≡ writer → test k (change_view change) ≡ true → meets (change_view change) look ≡ true → Q) → Q
  reads_elim Q test reader writer e found =
      any_elim Q _ (numbers (statement_count reader entries)) e (λ k i at_k e.
      any_elim Q _ own e (λ shown j at_j e.
      let parts = and_parts (committer_of shown.version entries == writer) (test k shown && list_any (meets shown) (looks_at reader k)) e in
      let tests = and_parts (test k shown) (list_any (meets shown) (looks_at reader k)) parts.1 in
      any_elim Q (meets shown) (looks_at reader k) tests.1 (λ look l at_l met.
      mapped_elim Q change_view changes j shown at_j (λ change at is.
      found k i j l look change at_k at_l at
      (made_at changes made j change at ∙ ap (λ (c : RowChange). committer_of c.version entries) is ∙ eqb-true (committer_of shown.version entries) writer parts.0)
      (ap (test k) is ∙ tests.0) (ap (λ c. meets c look) is ∙ met)))))

  all_elim : (Q : Type 0) (committers : List ℕ) (a b : ℕ) → all_links entries tables changes committers a b ≡ true
      → ((k i j l : ℕ) (look : Look) (change : code.RowChange) → slice_get (numbers (statement_count a entries)) i ≡ Some k → slice_get (looks_at a k) l ≡ Some look → slice_get changes j ≡ Some change
      → change.t ≡ b → nat_lt (statement_version a k entries) change.version ≡ true → meets (change_view change) look ≡ true → a ≢ b → Q)
      → ((k i j l : ℕ) (look : Look) (change : code.RowChange) → slice_get (numbers (statement_count b entries)) i ≡ Some k → slice_get (looks_at b k) l ≡ Some look → slice_get changes j ≡ Some change
      → change.t ≡ a → nat_le change.version (statement_version b k entries) ≡ true → meets (change_view change) look ≡ true → a ≢ b → Q) → Q
  all_elim Q committers a b e before after =
      any_elim Q _ committers e (λ t n at_t e.
      any_elim Q _ (numbers (statement_count t entries)) (sym (transaction_is t (statement_count t entries) a b) ∙ e) (λ k i at_k e.
      any_elim Q _ (looks_at t k) e (λ look l at_l e.
      any_elim Q _ changes e (λ change j at_j e.
      links_elim Q t (statement_version t k entries) look change a b e
      (λ is to other later met.
      subst (λ t. slice_get (numbers (statement_count t entries)) i ≡ Some k → slice_get (looks_at t k) l ≡ Some look → nat_lt (statement_version t k entries) change.version ≡ true → Q) (sym is)
      (λ at_k at_l later. before k i j l look change at_k at_l at_j to later met other) at_k at_l later)
      (λ is to other early met.
      subst (λ t. slice_get (numbers (statement_count t entries)) i ≡ Some k → slice_get (looks_at t k) l ≡ Some look → nat_le change.version (statement_version t k entries) ≡ true → Q) (sym is)
      (λ at_k at_l early. after k i j l look change at_k at_l at_j to early met other) at_k at_l early)))))

  all_intro : (committers : List ℕ) (a b t n k i j l : ℕ) (look : Look) (change : code.RowChange) → slice_get committers n ≡ Some t → slice_get (numbers (statement_count t entries)) i ≡ Some k
      → slice_get (looks_at t k) l ≡ Some look → slice_get changes j ≡ Some change → links t (statement_version t k entries) look change a b ≡ true → all_links entries tables changes committers a b ≡ true
  all_intro committers a b t n k i j l look change at_t at_k at_l at_j own_link =
      any_intro _ committers n t at_t
      (transaction_is t (statement_count t entries) a b
      ∙ any_intro _ (numbers (statement_count t entries)) i k at_k (any_intro _ (looks_at t k) l look at_l (any_intro _ changes j change at_j own_link)))

  -- ---- rows

  wrote : (a b : ℕ) → there_is (wrote_before tables entries own a b)
      ≡ list_any (λ change. (committer_of change.version entries == a) && list_any (λ other. (committer_of other.version entries == b) && (same_row change other && nat_lt change.version other.version)) own) own
  wrote a b =
      some_flat_map (λ (change : RowChange). map (Wrote change) (filter (λ (other : RowChange). same_row change other && nat_lt change.version other.version) (changes_by tables entries own b)))
      (changes_by tables entries own a)
      ∙ (λ i. list_any (λ change. each change i) (changes_by tables entries own a))
      ∙ any_filter (λ change. list_any (λ other. (committer_of other.version entries == b) && (same_row change other && nat_lt change.version other.version)) own)
      (λ (change : RowChange). committer_of change.version entries == a) own
    where
      each : (change : RowChange) → there_is (map (Wrote change) (filter (λ (other : RowChange). same_row change other && nat_lt change.version other.version) (changes_by tables entries own b)))
          ≡ list_any (λ other. (committer_of other.version entries == b) && (same_row change other && nat_lt change.version other.version)) own
      each change =
          some_map (Wrote change) (filter (λ (other : RowChange). same_row change other && nat_lt change.version other.version) (changes_by tables entries own b))
          ∙ some_filter (λ (other : RowChange). same_row change other && nat_lt change.version other.version) (changes_by tables entries own b)
          ∙ any_filter (λ (other : RowChange). same_row change other && nat_lt change.version other.version) (λ (other : RowChange). committer_of other.version entries == b) own

-- a pair of rows among these
first_elim : (Q : Type 0) (change : code.RowChange) (others : List code.RowChange) (a b : ℕ) → first_links change others a b ≡ true
    → ((j : ℕ) (other : code.RowChange) → slice_get others j ≡ Some other → same_row (change_view change) (change_view other) ≡ true → write_links change other a b ≡ true → Q) → Q
first_elim Q change [] a b e found = absurd (false≢true e)
first_elim Q change (other ∷ others) a b e found =
    let parts = and_parts (same_row (change_view change) (change_view other)) (write_links change other a b || first_links change others a b) e in
    either Q (write_links change other a b) (first_links change others a b) parts.1 (λ own. found zero other refl parts.0 own)
    (λ rest. first_elim Q change others a b rest (λ j later at same own. found (suc j) later at same own))

row_elim : (Q : Type 0) (changes : List code.RowChange) (a b : ℕ) → row_links changes a b ≡ true
    → ((i j : ℕ) (change other : code.RowChange) → slice_get changes i ≡ Some change → slice_get changes j ≡ Some other → same_row (change_view change) (change_view other) ≡ true
    → write_links change other a b ≡ true → Q) → Q
row_elim Q [] a b e found = absurd (false≢true e)
row_elim Q (change ∷ others) a b e found =
    either Q (first_links change others a b) (row_links others a b) e
    (λ own. first_elim Q change others a b own (λ j other at same link. found zero (suc j) change other refl at same link))
    (λ rest. row_elim Q others a b rest (λ i j one other at_i at_j same link. found (suc i) (suc j) one other at_i at_j same link))

first_intro : (change : code.RowChange) (others : List code.RowChange) (a b j : ℕ) (other : code.RowChange) → slice_get others j ≡ Some other
    → ((m : ℕ) (between : code.RowChange) → m ≤ j → slice_get others m ≡ Some between → same_row (change_view change) (change_view between) ≡ true) → write_links change other a b ≡ true
    → first_links change others a b ≡ true
first_intro change [] a b j other at same link = absurd (absent other (sym at))
  where
    absent : (other : code.RowChange) → Some other ≡ None → ⊥
    absent other e = absurd cc
first_intro change (first ∷ others) a b zero other at same link =
    and_both (same_row (change_view change) (change_view first)) _ (same zero first (omega arith) refl)
    (or_left (write_links change first a b) (first_links change others a b) (ap (λ o. write_links change o a b) (is first other at) ∙ link))
  where
    is : (first other : code.RowChange) → Some first ≡ Some other → first ≡ other
    is first other e = cc
first_intro change (first ∷ others) a b (suc j) other at same link =
    and_both (same_row (change_view change) (change_view first)) _ (same zero first (omega arith) refl)
    (or_right (write_links change first a b) (first_links change others a b)
    (first_intro change others a b j other at (λ m between l at. same (suc m) between (omega (arith, l)) at) link))

row_intro : (changes : List code.RowChange) → AreGrouped (map change_view changes) → (a b i j : ℕ) (change other : code.RowChange) → i < j → slice_get changes i ≡ Some change → slice_get changes j ≡ Some other
    → same_row (change_view change) (change_view other) ≡ true → write_links change other a b ≡ true → row_links changes a b ≡ true
row_intro [] grouped a b i j change other l at_i at_j same link = absurd (absent change (sym at_i))
  where
    absent : (change : code.RowChange) → Some change ≡ None → ⊥
    absent change e = absurd cc
row_intro (first ∷ changes) grouped a b zero zero change other l at_i at_j same link = absurd (omega (arith, l))
row_intro (first ∷ changes) grouped a b zero (suc j) change other l at_i at_j same link =
    or_left (first_links first changes a b) (row_links changes a b)
    (first_intro first changes a b j other at_j (λ m between lm at. by m between lm at (m == j) refl) (ap (λ c. write_links c other a b) (is first change at_i) ∙ link))
  where
    is : (first change : code.RowChange) → Some first ≡ Some change → first ≡ change
    is first change e = cc

    whole : same_row (change_view first) (change_view other) ≡ true
    whole = ap (λ c. same_row (change_view c) (change_view other)) (is first change at_i) ∙ same

    by : (m : ℕ) (between : code.RowChange) → m ≤ j → slice_get changes m ≡ Some between → (e : Bool) → (m == j) ≡ e → same_row (change_view first) (change_view between) ≡ true
    by m between lm at true e = ap (λ c. same_row (change_view first) (change_view c)) (is between other (sym at ∙ ap (slice_get changes) (eqb-true m j e) ∙ at_j)) ∙ whole
    by m between lm at false e =
        grouped zero (suc m) (suc j) (change_view first) (change_view between) (change_view other) (omega arith) (earlier m lm e) refl
        (mapped-at change_view changes m between at) (mapped-at change_view changes j other at_j) whole
      where
        earlier : (m : ℕ) → m ≤ j → (m == j) ≡ false → suc m < suc j
        earlier m lm e = grind (arith, nat_tests)
row_intro (first ∷ changes) grouped a b (suc i) zero change other l at_i at_j same link = absurd (omega (arith, l))
row_intro (first ∷ changes) grouped a b (suc i) (suc j) change other l at_i at_j same link =
    or_right (first_links first changes a b) (row_links changes a b)
    (row_intro changes (λ i j k one other third li lj ati atj atk e. grouped (suc i) (suc j) (suc k) one other third (omega (arith, li)) (omega (arith, lj)) ati atj atk e)
    a b i j change other (omega (arith, l)) at_i at_j same link)

same_row_turned : (one other : RowChange) → same_row one other ≡ true → same_row other one ≡ true
same_row_turned one other e =
    let parts = and_parts (one.row.table == other.row.table) (same_identity one.row.identity other.row.identity) e in
    and_both (other.row.table == one.row.table) (same_identity other.row.identity one.row.identity)
    (ap (λ u. other.row.table == u) (eqb-true one.row.table other.row.table parts.0) ∙ eq_itself other.row.table)
    (same-sym one.row.identity other.row.identity parts.1)

-- ---- all of it

module _ (tables : List Table) (entries : List Entry) (changes : List code.RowChange) (made : AreMade entries changes) (grouped : AreGrouped (map change_view changes)) (committers : List ℕ) (a b n m : ℕ)
    (at_a : slice_get committers n ≡ Some a) (at_b : slice_get committers m ≡ Some b) where
  abbrev shown : List RowChange
  shown = map change_view changes

  abbrev linked : Bool
  linked = all_links entries tables changes committers a b || row_links changes a b

  abbrev read_first : Bool
  read_first = there_is (read_before tables entries shown a b)

  abbrev read_last : Bool
  read_last = there_is (read_after tables entries shown a b)

  abbrev wrote_first : Bool
  wrote_first = there_is (wrote_before tables entries shown a b)

  -- reasons of the three kinds
  kinds : a ≢ b → is_before tables entries shown a b ≡ (read_first || (read_last || wrote_first))
  kinds other =
      ap (λ e. there_is (cond e [] (read_before tables entries shown a b ++ (read_after tables entries shown a b ++ wrote_before tables entries shown a b)))) (eq_not a b other)
      ∙ some_append (read_before tables entries shown a b) (read_after tables entries shown a b ++ wrote_before tables entries shown a b)
      ∙ ap (λ e. read_first || e) (some_append (read_after tables entries shown a b) (wrote_before tables entries shown a b))

  none_itself : a ≡ b → is_before tables entries shown a b ≡ false
  none_itself same =
      ap (λ e. there_is (cond e [] (read_before tables entries shown a b ++ (read_after tables entries shown a b ++ wrote_before tables entries shown a b)))) (ap (λ u. a == u) (sym same) ∙ eq_itself a)

  wrote_intro : (i j : ℕ) (change other : code.RowChange) → slice_get changes i ≡ Some change → slice_get changes j ≡ Some other → change.t ≡ a → other.t ≡ b
      → same_row (change_view change) (change_view other) ≡ true → nat_lt change.version other.version ≡ true → wrote_first ≡ true
  wrote_intro i j change other at_i at_j is to same later =
      wrote tables entries changes made a b
      ∙ any_intro _ shown i (change_view change) (mapped-at change_view changes i change at_i)
      (and_both (committer_of change.version entries == a) _ (ap (λ u. u == a) (sym (made_at tables entries changes made changes made i change at_i) ∙ is) ∙ eq_itself a)
      (any_intro _ shown j (change_view other) (mapped-at change_view changes j other at_j)
      (and_both (committer_of other.version entries == b) _ (ap (λ u. u == b) (sym (made_at tables entries changes made changes made j other at_j) ∙ to) ∙ eq_itself b)
      (and_both (same_row (change_view change) (change_view other)) (nat_lt change.version other.version) same later))))

  to_before : linked ≡ true → is_before tables entries shown a b ≡ true
  to_before e =
      either (is_before tables entries shown a b ≡ true) (all_links entries tables changes committers a b) (row_links changes a b) e
      (λ own. all_elim tables entries changes made (is_before tables entries shown a b ≡ true) committers a b own
      (λ k i j l look change at_k at_l at_j to later met other.
      kinds other
      ∙ or_left read_first (read_last || wrote_first)
      (reads tables entries changes made (λ k (change : RowChange). nat_lt (statement_version a k entries) change.version) ReadBefore a b
      ∙ reads_intro tables entries changes made (λ k (change : RowChange). nat_lt (statement_version a k entries) change.version) a b k i j l look change at_k at_l at_j to later met))
      (λ k i j l look change at_k at_l at_j to early met other.
      kinds other
      ∙ or_right read_first (read_last || wrote_first) (or_left read_last wrote_first
      (reads tables entries changes made (λ k (change : RowChange). nat_le change.version (statement_version b k entries)) ReadAfter b a
      ∙ reads_intro tables entries changes made (λ k (change : RowChange). nat_le change.version (statement_version b k entries)) b a k i j l look change at_k at_l at_j to early met))))
      (λ own. row_elim (is_before tables entries shown a b ≡ true) changes a b own by_rows)
    where
      by_rows : (i j : ℕ) (change other : code.RowChange) → slice_get changes i ≡ Some change → slice_get changes j ≡ Some other → same_row (change_view change) (change_view other) ≡ true
          → write_links change other a b ≡ true → is_before tables entries shown a b ≡ true
      by_rows i j change other at_i at_j same link = at (nat_lt change.version other.version) refl parts.1
        where
          parts : (not (change.t == other.t) ≡ true) × (cond (nat_lt change.version other.version) ((a == change.t) && (b == other.t)) ((a == other.t) && (b == change.t)) ≡ true)
          parts = and_parts (not (change.t == other.t)) (cond (nat_lt change.version other.version) ((a == change.t) && (b == other.t)) ((a == other.t) && (b == change.t))) link

          apart : change.t ≢ other.t
          apart = not_same change.t other.t parts.0

          strictly : other.version ≤ change.version → other.version < change.version
          strictly most =
              ⊎_elim (λ less. less)
              (λ above. absurd (apart (made_at tables entries changes made changes made i change at_i ∙ ap (λ v. committer_of v entries) (equal above most)
              ∙ sym (made_at tables entries changes made changes made j other at_j))))
              (cases_lt other.version change.version)
            where
              equal : change.version ≤ other.version → other.version ≤ change.version → change.version ≡ other.version
              equal above most = omega (arith, above, most)

          at : (lt : Bool) → nat_lt change.version other.version ≡ lt → cond lt ((a == change.t) && (b == other.t)) ((a == other.t) && (b == change.t)) ≡ true → is_before tables entries shown a b ≡ true
          at true later ends =
              let both = and_parts (a == change.t) (b == other.t) ends in
              let from = eqb-true a change.t both.0 in
              let to = eqb-true b other.t both.1 in
              kinds (λ same. apart (sym from ∙ same ∙ to))
              ∙ or_right read_first (read_last || wrote_first) (or_right read_last wrote_first (wrote_intro i j change other at_i at_j (sym from) (sym to) same later))
          at false later ends =
              let both = and_parts (a == other.t) (b == change.t) ends in
              let from = eqb-true a other.t both.0 in
              let to = eqb-true b change.t both.1 in
              kinds (λ same. apart (sym to ∙ sym same ∙ from))
              ∙ or_right read_first (read_last || wrote_first) (or_right read_last wrote_first
              (wrote_intro j i other change at_j at_i (sym from) (sym to) (same_row_turned (change_view change) (change_view other) same)
              (is_below other.version change.version (strictly (not_below change.version other.version later)))))

  from_before : a ≢ b → is_before tables entries shown a b ≡ true → linked ≡ true
  from_before other e =
      either (linked ≡ true) read_first (read_last || wrote_first) (sym (kinds other) ∙ e)
      (λ first. reads_elim tables entries changes made (linked ≡ true) (λ k (change : RowChange). nat_lt (statement_version a k entries) change.version) a b
      (sym (reads tables entries changes made (λ k (change : RowChange). nat_lt (statement_version a k entries) change.version) ReadBefore a b) ∙ first)
      (λ k i j l look change at_k at_l at_j to later met.
      or_left (all_links entries tables changes committers a b) (row_links changes a b)
      (all_intro tables entries changes made committers a b a n k i j l look change at_a at_k at_l at_j (links_earlier (statement_version a k entries) look change a b to other later met))))
      (λ rest. either (linked ≡ true) read_last wrote_first rest
      (λ last. reads_elim tables entries changes made (linked ≡ true) (λ k (change : RowChange). nat_le change.version (statement_version b k entries)) b a
      (sym (reads tables entries changes made (λ k (change : RowChange). nat_le change.version (statement_version b k entries)) ReadAfter b a) ∙ last)
      (λ k i j l look change at_k at_l at_j to early met.
      or_left (all_links entries tables changes committers a b) (row_links changes a b)
      (all_intro tables entries changes made committers a b b m k i j l look change at_b at_k at_l at_j (links_later (statement_version b k entries) look change a b to other early met))))
      (λ written. by_wrote (sym (wrote tables entries changes made a b) ∙ written)))
    where
      by_pair : (i j : ℕ) (change later : code.RowChange) → slice_get changes i ≡ Some change → slice_get changes j ≡ Some later → change.t ≡ a → later.t ≡ b
          → same_row (change_view change) (change_view later) ≡ true → nat_lt change.version later.version ≡ true → row_links changes a b ≡ true
      by_pair i j change later at_i at_j is to same less =
          ⊎_elim
          (λ before. row_intro changes grouped a b i j change later before at_i at_j same
          (and_both (not (change.t == later.t)) _ (differs_from change.t later.t (λ e. other (sym is ∙ e ∙ to)))
          (ap (λ lt. cond lt ((a == change.t) && (b == later.t)) ((a == later.t) && (b == change.t))) less
          ∙ and_both (a == change.t) (b == later.t) (ap (λ u. a == u) is ∙ eq_itself a) (ap (λ u. b == u) to ∙ eq_itself b))))
          (λ behind. row_intro changes grouped a b j i later change (strict behind) at_j at_i (same_row_turned (change_view change) (change_view later) same)
          (and_both (not (later.t == change.t)) _ (differs_from later.t change.t (λ e. other (sym is ∙ sym e ∙ to)))
          (ap (λ lt. cond lt ((a == later.t) && (b == change.t)) ((a == change.t) && (b == later.t))) (is_not_below later.version change.version (under (below change.version later.version less)))
          ∙ and_both (a == change.t) (b == later.t) (ap (λ u. a == u) is ∙ eq_itself a) (ap (λ u. b == u) to ∙ eq_itself b))))
          (cases_lt i j)
        where
          under : change.version < later.version → change.version ≤ later.version
          under l = omega (arith, l)

          one : (change later : code.RowChange) → Some change ≡ Some later → change ≡ later
          one change later e = cc

          strict : j ≤ i → j < i
          strict most =
              ⊎_elim (λ less. less)
              (λ above. absurd (other (sym is ∙ ap (λ (c : code.RowChange). c.t) (one change later (sym at_i ∙ ap (slice_get changes) (equal above most) ∙ at_j)) ∙ to)))
              (cases_lt j i)
            where
              equal : i ≤ j → j ≤ i → i ≡ j
              equal above most = omega (arith, above, most)

      by_wrote : list_any (λ change. (committer_of change.version entries == a)
          && list_any (λ other. (committer_of other.version entries == b) && (same_row change other && nat_lt change.version other.version)) shown) shown ≡ true → linked ≡ true
      by_wrote e =
          any_elim (linked ≡ true) _ shown e (λ change i at_i e.
          let own = and_parts (committer_of change.version entries == a) (list_any (λ (other : RowChange). (committer_of other.version entries == b) && (same_row change other && nat_lt change.version other.version)) shown) e in
          any_elim (linked ≡ true) _ shown own.1 (λ later j at_j e.
          let to = and_parts (committer_of later.version entries == b) (same_row change later && nat_lt change.version later.version) e in
          let both = and_parts (same_row change later) (nat_lt change.version later.version) to.1 in
          mapped_elim (linked ≡ true) change_view changes i change at_i (λ one at_one is.
          mapped_elim (linked ≡ true) change_view changes j later at_j (λ two at_two is'.
          or_right (all_links entries tables changes committers a b) (row_links changes a b)
          (by_pair i j one two at_one at_two
          (made_at tables entries changes made changes made i one at_one ∙ ap (λ (c : RowChange). committer_of c.version entries) is ∙ eqb-true (committer_of change.version entries) a own.0)
          (made_at tables entries changes made changes made j two at_two ∙ ap (λ (c : RowChange). committer_of c.version entries) is' ∙ eqb-true (committer_of later.version entries) b to.0)
          ((λ i. same_row (is i) (is' i)) ∙ both.0) ((λ i. nat_lt ((is i).version) ((is' i).version)) ∙ both.1))))))

  pub linked_is : linked ≡ is_before tables entries shown a b
  linked_is = by (a == b) refl
    where
      by : (same : Bool) → (a == b) ≡ same → linked ≡ is_before tables entries shown a b
      by true same = by_both linked (is_before tables entries shown a b) to_before (λ e. absurd (false≢true (sym (none_itself (eqb-true a b same)) ∙ e)))
      by false same = by_both linked (is_before tables entries shown a b) to_before (from_before (λ is. false≢true (sym same ∙ ap (λ u. a == u) (sym is) ∙ eq_itself a)))
