-- The intervals that have a version give the answer over it: each of its rows is in one of them for each number of times.
use Rattle.std.proofs.Common.{◌≡◌, ℕ, zero, suc, ◌≤◌, Bool, true, false, cond, List, [], ◌∷◌, ◌++◌, map, None, Some, refl, sym, ap, ◌∙◌, subst, arith}
use Rattle.std.specs.Prelude.{◌&&◌, filter, nat_le, nat_lt, not}
use Rattle.std.proofs.lemmas.Bool.{le-leb, le-ltb, leb-false, leb-true, lt-leb, lt-ltb}
use Rattle.std.proofs.lemmas.List.{append_assoc, map-append}
use Rattle.gp_base.specs.declared.cell.Cell.{Cell}
use Rattle.gp_base.proofs.Bags.{SameBag, before, first, same, same_from, through, to_front, mapped, filtered}
use Rattle.gp_base.proofs.SmallLemmas.{and_nothing, and_none, filter-append, filter-map, filter_agree, map-map}
use Rattle.gp_ask.specs.Intervals.{Interval, ending_before, ending_with, first_with, has_version, interval_upto, intervals, numbered, times}
use Rattle.gp_ask.proofs.CarriedLemmas.{Ascends, pass, rows-are}

abbrev Row : Type 0
Row = List Cell

abbrev Place : Type 0
Place = Row × ℕ

-- ---- lists

module _ {X : Type 0} where
  none-kept : (p : X → Bool) → ((x : X) → p x ≡ false) → (xs : List X) → filter p xs ≡ []
  none-kept p none [] = refl
  none-kept p none (x ∷ xs) = ap (λ b. cond b (x ∷ filter p xs) (filter p xs)) (none x) ∙ none-kept p none xs

  all-kept : (p : X → Bool) → ((x : X) → p x ≡ true) → (xs : List X) → filter p xs ≡ xs
  all-kept p all [] = refl
  all-kept p all (x ∷ xs) = ap (λ b. cond b (x ∷ filter p xs) (filter p xs)) (all x) ∙ ap (λ (rest : List X). x ∷ rest) (all-kept p all xs)

  -- those that pass one test and then another
  kept-twice : (p q : X → Bool) (xs : List X) → filter q (filter p xs) ≡ filter (λ x. p x && q x) xs
  kept-twice p q [] = refl
  kept-twice p q (x ∷ xs) =
      elim (p x) as (λ b. filter q (cond b (x ∷ filter p xs) (filter p xs)) ≡ cond (b && q x) (x ∷ filter (λ y. p y && q y) xs) (filter (λ y. p y && q y) xs)) [
        | true ↦ ap (λ (rest : List X). cond (q x) (x ∷ rest) rest) (kept-twice p q xs)
        | false ↦ kept-twice p q xs
      ]

  -- those that pass and those that do not are all
  parted : (p q : X → Bool) → ((x : X) → p x ≡ not (q x)) → (xs : List X) → SameBag (filter p xs ++ filter q xs) xs
  parted p q other [] = same []
  parted p q other (x ∷ xs) =
      subst (λ b. SameBag (cond b (x ∷ filter p xs) (filter p xs) ++ cond (q x) (x ∷ filter q xs) (filter q xs)) (x ∷ xs)) (sym (other x))
      (elim (q x) as (λ b. SameBag (cond (not b) (x ∷ filter p xs) (filter p xs) ++ cond b (x ∷ filter q xs) (filter q xs)) (x ∷ xs)) [
        | true ↦ through (to_front x (filter p xs) (filter q xs)) (first (parted p q other xs))
        | false ↦ first (parted p q other xs)
      ])

beyond : (m n : ℕ) → nat_lt n m ≡ not (nat_le m n)
beyond m n = by (nat_le m n) refl
  where
    by : (b : Bool) → nat_le m n ≡ b → nat_lt n m ≡ not b
    by true is = le-ltb n m (leb-true m n is)
    by false is = lt-ltb n m (leb-false m n is)

module _ (answers : ℕ → List Row) (sorted : (version : ℕ) → Ascends (answers version)) (version : ℕ) where
  abbrev places : ℕ → List Place
  places n = numbered [] (answers n)

  abbrev begun : ℕ → Place → ℕ
  begun n own = first_with answers own.0 own.1 n

  -- it began with the version or before
  abbrev fits : ℕ → Place → Bool
  fits n own = nat_le (begun n own) version

  begun-most : (n : ℕ) (own : Place) → begun n own ≤ n
  begun-most zero own = omega arith
  begun-most (suc n) own =
      let rest = begun-most n own in
      elim (nat_le own.1 (times own.0 (answers n))) as (λ b. cond b (begun n own) (suc n) ≤ suc n) [ true ↦ omega arith | false ↦ omega arith ]

  abbrev own-row : Interval → Row
  own-row own = own.row

  -- no interval that ends with a version before has it
  none-over : (n : ℕ) → n ≤ version → filter (has_version version) (ending_before answers n) ≡ []
  none-over zero within = refl
  none-over (suc n) within =
      filter-append (has_version version) (ending_before answers n) (ending_with answers n)
      ∙ ap (λ (rest : List Interval). rest ++ filter (has_version version) (ending_with answers n)) (none-over n (omega arith))
      ∙ over (filter (λ (own : Place). nat_lt (times own.0 (answers (suc n))) own.1) (places n))
    where
      over : (list : List Place) → filter (has_version version) (map (interval_upto answers n (Some (suc n))) list) ≡ []
      over list =
          filter-map (has_version version) (interval_upto answers n (Some (suc n))) list
          ∙ ap (map (interval_upto answers n (Some (suc n))))
          (none-kept (λ own. has_version version (interval_upto answers n (Some (suc n)) own))
          (λ own. ap (λ b. nat_le (begun n own) version && b) (le-ltb version (suc n) (omega arith)) ∙ and_none (fits n own)) list)

  -- the intervals that have the version, up to one
  abbrev found : ℕ → List Row
  found n = map own-row (filter (has_version version) (ending_before answers n)) ++ map (λ (own : Place). own.0) (filter (fits n) (places n))

  -- those that end with a version
  ended-here : (n : ℕ) → version ≤ n → map own-row (filter (has_version version) (ending_with answers n))
      ≡ map (λ (own : Place). own.0) (filter (fits n) (filter (λ (own : Place). nat_lt (times own.0 (answers (suc n))) own.1) (places n)))
  ended-here n within =
      let rare = filter (λ (own : Place). nat_lt (times own.0 (answers (suc n))) own.1) (places n) in
      ap (map own-row)
      (filter-map (has_version version) (interval_upto answers n (Some (suc n))) rare
      ∙ ap (map (interval_upto answers n (Some (suc n))))
      (filter_agree (λ own. has_version version (interval_upto answers n (Some (suc n)) own)) (fits n) (λ own. ap (λ b. nat_le (begun n own) version && b) (lt-ltb version (suc n) (omega arith)) ∙ and_nothing (fits n own)) rare))
      ∙ map-map own-row (interval_upto answers n (Some (suc n))) (filter (fits n) rare)

  -- those that are open at the next version are the ones that go on
  open-next : (n : ℕ) → version ≤ n → filter (fits (suc n)) (places (suc n)) ≡ filter (fits n) (filter (λ (own : Place). nat_le own.1 (times own.0 (answers (suc n)))) (places n))
  open-next n within =
      filter_agree (fits (suc n)) (λ own. nat_le own.1 (times own.0 (answers n)) && fits n own) next (places (suc n))
      ∙ sym (kept-twice (λ own. nat_le own.1 (times own.0 (answers n))) (fits n) (places (suc n)))
      ∙ ap (filter (fits n)) (sym (pass (suc n) (begun n) (answers n) (answers (suc n)) (sorted n) (sorted (suc n))).shares)
    where
      next : (own : Place) → fits (suc n) own ≡ (nat_le own.1 (times own.0 (answers n)) && fits n own)
      next own = elim (nat_le own.1 (times own.0 (answers n))) as (λ b. nat_le (cond b (begun n own) (suc n)) version ≡ (b && fits n own)) [
        | true ↦ refl
        | false ↦ lt-leb (suc n) version (omega arith)
      ]

  first-found : SameBag (found version) (answers version)
  first-found =
      same_from (found version) (answers version)
      (ap (λ (list : List Interval). map own-row list ++ map (λ (own : Place). own.0) (filter (fits version) (places version))) (none-over version (omega arith))
      ∙ ap (map (λ (own : Place). own.0)) (all-kept (fits version) (λ own. le-leb (begun version own) version (begun-most version own)) (places version))
      ∙ rows-are [] (answers version))

  next-found : (n : ℕ) → version ≤ n → SameBag (found (suc n)) (found n)
  next-found n within =
      let rare = filter (λ (own : Place). nat_lt (times own.0 (answers (suc n))) own.1) (places n) in
      let shared = filter (λ (own : Place). nat_le own.1 (times own.0 (answers (suc n)))) (places n) in
      let old = map own-row (filter (has_version version) (ending_before answers n)) in
      through
      (same_from (found (suc n)) (old ++ map (λ (own : Place). own.0) (filter (fits n) (rare ++ shared)))
      ((λ i. map own-row (filter-append (has_version version) (ending_before answers n) (ending_with answers n) i) ++ map (λ (own : Place). own.0) (open-next n within i))
      ∙ ap (λ (list : List Row). list ++ map (λ (own : Place). own.0) (filter (fits n) shared)) (map-append own-row (filter (has_version version) (ending_before answers n)) (filter (has_version version) (ending_with answers n)))
      ∙ ap (λ (list : List Row). (old ++ list) ++ map (λ (own : Place). own.0) (filter (fits n) shared)) (ended-here n within)
      ∙ append_assoc old (map (λ (own : Place). own.0) (filter (fits n) rare)) (map (λ (own : Place). own.0) (filter (fits n) shared))
      ∙ ap (λ (list : List Row). old ++ list) (sym (map-append (λ (own : Place). own.0) (filter (fits n) rare) (filter (fits n) shared)))
      ∙ ap (λ (list : List Place). old ++ map (λ (own : Place). own.0) list) (sym (filter-append (fits n) rare shared))))
      (before old (mapped (λ (own : Place). own.0) (filtered (fits n) (parted (λ (own : Place). nat_lt (times own.0 (answers (suc n))) own.1) (λ (own : Place). nat_le own.1 (times own.0 (answers (suc n))))
      (λ own. beyond own.1 (times own.0 (answers (suc n)))) (places n)))))

  all-found : (n : ℕ) → version ≤ n → SameBag (found n) (answers version)
  all-found zero within = let same : version ≡ zero = omega arith in subst (λ n. SameBag (found n) (answers version)) same first-found
  all-found (suc n) within = by (nat_le version n) refl (λ below. all-found n below)
    where
      by : (b : Bool) → nat_le version n ≡ b → (version ≤ n → SameBag (found n) (answers version)) → SameBag (found (suc n)) (answers version)
      by true is rest = through (next-found n (leb-true version n is)) (rest (leb-true version n is))
      by false is rest = let same : version ≡ suc n = omega (arith, leb-false version n is) in subst (λ m. SameBag (found m) (answers version)) same first-found

  -- an interval without an end has the version if it began by then
  pub intervals-found : (last : ℕ) → version ≤ last → SameBag (map own-row (filter (has_version version) (intervals answers last))) (answers version)
  intervals-found last within =
      through
      (same_from (map own-row (filter (has_version version) (intervals answers last))) (found last)
      (ap (map own-row) (filter-append (has_version version) (ending_before answers last) (map (interval_upto answers last None) (places last)))
      ∙ map-append own-row (filter (has_version version) (ending_before answers last)) (filter (has_version version) (map (interval_upto answers last None) (places last)))
      ∙ ap (λ (list : List Row). map own-row (filter (has_version version) (ending_before answers last)) ++ list)
      (ap (map own-row)
      (filter-map (has_version version) (interval_upto answers last None) (places last)
      ∙ ap (map (interval_upto answers last None)) (filter_agree (λ own. has_version version (interval_upto answers last None own)) (fits last) (λ own. and_nothing (fits last own)) (places last)))
      ∙ map-map own-row (interval_upto answers last None) (filter (fits last) (places last)))))
      (all-found last within)
