-- Relations that agree on some numbers have the same orders, the same least cycle and the same cycles of pairs of them.
use Rattle.gp_serial.proofs.Prelude.{◌≡◌, ℕ, zero, suc, Bool, true, false, cond, List, [], ◌∷◌, ◌++◌, map, length, Option, Some, None, refl, ap, ◌∙◌, ◌==◌, ◌&&◌, ◌||◌, filter, find, not, unwrap_or, AllByRecursion, flat_map, list_any, option_map_or, numbers}
use Rattle.gp_serial.specs.Graphs.{closes, is_cycle, is_free, least_cycle, lists_of, ordered}
use Rattle.gp_serial.specs.PairCycles.{cycle_through, cycles_back, goes_through, has_pair, inserted, lists_up, pair_cycles}

each_filter : {A : Type 0} (P : A → Type 0) (p : A → Bool) (xs : List A) → AllByRecursion P xs → AllByRecursion P (filter p xs)
each_filter P p [] all = tt
each_filter {A} P p (x ∷ xs) (own, all) = by (each_filter P p xs all) (p x)
  where
    by : AllByRecursion P (filter p xs) → (b : Bool) → AllByRecursion P (cond b (x ∷ filter p xs) (filter p xs))
    by rest true = (own, rest)
    by rest false = rest

each_append : {A : Type 0} (P : A → Type 0) (xs ys : List A) → AllByRecursion P xs → AllByRecursion P ys → AllByRecursion P (xs ++ ys)
each_append P [] ys one two = two
each_append P (x ∷ xs) ys (own, one) two = (own, each_append P xs ys one two)

find_agree : {A : Type 0} (P : A → Type 0) (p q : A → Bool) → ((x : A) → P x → p x ≡ q x) → (xs : List A) → AllByRecursion P xs → find p xs ≡ find q xs
find_agree P p q agree [] all = refl
find_agree P p q agree (x ∷ xs) (own, all) = λ i. cond (agree x own i) (Some x) (find_agree P p q agree xs all i)

module _ (f g : ℕ → ℕ → Bool) (P : ℕ → Type 0) (agree : (a b : ℕ) → P a → P b → f a b ≡ g a b) where
  any_agree : (t : ℕ) → P t → (left : List ℕ) → AllByRecursion P left → list_any (λ other. f other t) left ≡ list_any (λ other. g other t) left
  any_agree t is [] all = refl
  any_agree t is (other ∷ left) (own, all) = λ i. agree other t own is i || any_agree t is left all i

  pub order_agree : (more : ℕ) (left : List ℕ) → AllByRecursion P left → ordered f more left ≡ ordered g more left
  order_agree zero left all = refl
  order_agree (suc more) left all =
      ap (λ found. option_map_or (λ (t : ℕ). t ∷ ordered f more (filter (λ other. not (other == t)) left)) found [])
      (find_agree P (is_free f left) (is_free g left) (λ t is. ap not (any_agree t is left all)) left all)
      ∙ by (order_agree more) (find (is_free g left) left)
    where
      by : ((rest : List ℕ) → AllByRecursion P rest → ordered f more rest ≡ ordered g more rest) → (found : Option ℕ) → option_map_or (λ (t : ℕ). t ∷ ordered f more (filter (λ other. not (other == t)) left)) found []
          ≡ option_map_or (λ (t : ℕ). t ∷ ordered g more (filter (λ other. not (other == t)) left)) found []
      by fewer None = refl
      by fewer (Some t) = ap (λ rest. t ∷ rest) (fewer (filter (λ other. not (other == t)) left) (each_filter P (λ other. not (other == t)) left all))

  closes_agree : (first : ℕ) → P first → (others : List ℕ) → AllByRecursion P others → closes f first others ≡ closes g first others
  closes_agree first is [] all = refl
  closes_agree first is (a ∷ []) (own, all) = agree a first own is
  closes_agree first is (a ∷ b ∷ others) (own, all) = λ i. agree a b own all.0 i && closes_agree first is (b ∷ others) all i

  cycle_agree : (list : List ℕ) → AllByRecursion P list → is_cycle f list ≡ is_cycle g list
  cycle_agree [] all = refl
  cycle_agree (first ∷ others) all = closes_agree first all.0 (first ∷ others) all

  lists_in : (n : ℕ) (all : List ℕ) → AllByRecursion P all → AllByRecursion (AllByRecursion P) (lists_of n all)
  lists_in zero all each = (tt, tt)
  lists_in (suc n) all each = among (lists_in n all each) all each
    where
      behind : (first : ℕ) → P first → (lists : List (List ℕ)) → AllByRecursion (AllByRecursion P) lists → AllByRecursion (AllByRecursion P) (map (λ others. first ∷ others) lists)
      behind first is [] each = tt
      behind first is (others ∷ lists) (own, each) = ((is, own), behind first is lists each)

      among : AllByRecursion (AllByRecursion P) (lists_of n all) → (firsts : List ℕ) → AllByRecursion P firsts → AllByRecursion (AllByRecursion P) (flat_map (λ first. map (λ others. first ∷ others) (lists_of n all)) firsts)
      among rest [] each-first = tt
      among rest (first ∷ firsts) (is, each-first) =
          each_append (AllByRecursion P) (map (λ others. first ∷ others) (lists_of n all)) (flat_map (λ first. map (λ others. first ∷ others) (lists_of n all)) firsts)
          (behind first is (lists_of n all) rest) (among rest firsts each-first)

  pub all_lists_in : (lengths all : List ℕ) → AllByRecursion P all → AllByRecursion (AllByRecursion P) (flat_map (λ n. lists_of n all) lengths)
  all_lists_in [] all each = tt
  all_lists_in (n ∷ lengths) all each = each_append (AllByRecursion P) (lists_of n all) (flat_map (λ n. lists_of n all) lengths) (lists_in n all each) (all_lists_in lengths all each)

  pub least_agree : (all : List ℕ) → AllByRecursion P all → least_cycle f all ≡ least_cycle g all
  least_agree all each =
      ap (λ (found : Option (List ℕ)). unwrap_or found [])
      (find_agree (AllByRecursion P) (is_cycle f) (is_cycle g) cycle_agree (flat_map (λ n. lists_of n all) (numbers (length all))) (all_lists_in (numbers (length all)) all each))

  -- ---- the cycles of pairs

  through_agree : (a b : ℕ) (all : List ℕ) → AllByRecursion P all → cycle_through f all a b ≡ cycle_through g all a b
  through_agree a b all each =
      find_agree (AllByRecursion P) (goes_through f all a b) (goes_through g all a b) (λ list is. ap (λ cycle. cycle && has_pair a b list) (cycle_agree list is)) (lists_up all)
      (all_lists_in (numbers (length all)) all each)

  module _ (back other : ℕ → ℕ → Bool) (same : (a b : ℕ) → P a → P b → back a b ≡ other a b) (all : List ℕ) (each : AllByRecursion P all) where
    filter_agree : (a : ℕ) → P a → (bs : List ℕ) → AllByRecursion P bs → filter (back a) bs ≡ filter (other a) bs
    filter_agree a is [] own = refl
    filter_agree a is (b ∷ bs) (first, own) = λ i. cond (same a b is first i) (b ∷ filter_agree a is bs own i) (filter_agree a is bs own i)

    told_agree : (a : ℕ) (bs : List ℕ) → flat_map (λ b. option_map_or (λ (cycle : List ℕ). cycle ∷ []) (cycle_through f all a b) []) bs
        ≡ flat_map (λ b. option_map_or (λ (cycle : List ℕ). cycle ∷ []) (cycle_through g all a b) []) bs
    told_agree a [] = refl
    told_agree a (b ∷ bs) = λ i. option_map_or (λ (cycle : List ℕ). cycle ∷ []) (through_agree a b all each i) [] ++ told_agree a bs i

    backs_agree : (list : List ℕ) → AllByRecursion P list → flat_map (cycles_back f all back) list ≡ flat_map (cycles_back g all other) list
    backs_agree [] own = refl
    backs_agree (a ∷ list) (is, own) = λ i. own-back i ++ backs_agree list own i
      where
        own-back : cycles_back f all back a ≡ cycles_back g all other a
        own-back =
            ap (flat_map (λ b. option_map_or (λ (cycle : List ℕ). cycle ∷ []) (cycle_through f all a b) [])) (filter_agree a is all each) ∙ told_agree a (filter (other a) all)

    pub pairs_agree : pair_cycles f all back ≡ pair_cycles g all other
    pairs_agree = ap (inserted []) (backs_agree all each)
