-- Machinery: the laws of witnesses. A witness is known by what it holds: by which sets of tokens contain one of its sets.
use Rattle.std.proofs.Common.{◌≡◌, refl, sym, ap, subst, ◌∙◌, T, cond, Bool, true, false, not, ◌&&◌, ◌||◌, ◌⊎◌, List, [], ◌∷◌, ◌++◌, map, Some, None, Option, inl, inr}
use Rattle.std.specs.List.{filter, list_all, list_any}
use Rattle.std.specs.Ordering.{is_eq, eq_by_cmp}
use Rattle.std.specs.Cmp.{IsTotalOrder}
use Rattle.std.specs.Cmp.Lexicographic.{slice_cmp}
use Rattle.std.proofs.lemmas.Cmp.{tied_itself, lists_total}
use Rattle.std.specs.declared.cmp.Ordering.{Ordering}
use Rattle.std.specs.declared.cmp.Ordering.TheVariants.{Less, Equal, Greater}
use Rattle.std.specs.FinMap.{find, is_sorted, slice_cmp-IsAntisymmetric}
use Rattle.std.specs.FinMap.Entries.{by_order, same_entries, where_key, is_sorted-where_key}
use Rattle.std.specs.Coded.{Coded, coded_list}
use Rattle.std.specs.Prelude.{ℕ, ◌==◌, unwrap_or}
use Rattle.gp_base.specs.declared.token.Token.{Token}
use Rattle.gp_base.specs.contracts.token.Token as token
use Rattle.gp_base.specs.Tokens.{token_cmp}
use Rattle.gp_base.specs.TokenOrder.{token_cmp_total, token_cmp-exact}
use Rattle.gp_semiring.specs.Sums.{added}
use Rattle.gp_semiring.specs.SumForms.{Each}
use Rattle.gp_semiring.specs.Semirings.{SemiringLaws}
use Rattle.gp_semiring.specs.SumLaws.{is_sorted-added, is_sorted_of, is_true_of, equal, each_append}
use Rattle.gp_semiring.specs.Witnesses.{placed, set_of, contains, is_within, with_set, witness_of, unions, witness_plus, witness_times, Sets, witness_number, witness_token}
use Rattle.gp_semiring.specs.WitnessForms.{In, tagged, IsRising, IsWitness}

pub or_crossed : (a b c : Bool) → (a || (b || c)) ≡ (b || (a || c))
or_crossed true true c = refl
or_crossed true false c = refl
or_crossed false b c = refl

and_crossed : (a b c : Bool) → (a && (b && c)) ≡ (b && (a && c))
and_crossed true b c = refl
and_crossed false true c = refl
and_crossed false false c = refl

or_twice : (a b : Bool) → (a || b) ≡ (a || (a || b))
or_twice true b = refl
or_twice false b = refl

and_twice : (a b : Bool) → (a && b) ≡ (a && (a && b))
and_twice true b = refl
and_twice false b = refl

pub or_assoc : (a b c : Bool) → ((a || b) || c) ≡ (a || (b || c))
or_assoc true b c = refl
or_assoc false b c = refl

and_assoc : (a b c : Bool) → ((a && b) && c) ≡ (a && (b && c))
and_assoc true b c = refl
and_assoc false b c = refl

or_comm : (a b : Bool) → (a || b) ≡ (b || a)
or_comm true true = refl
or_comm true false = refl
or_comm false true = refl
or_comm false false = refl

and_comm : (a b : Bool) → (a && b) ≡ (b && a)
and_comm true true = refl
and_comm true false = refl
and_comm false true = refl
and_comm false false = refl

pub or_false : (a : Bool) → (a || false) ≡ a
or_false true = refl
or_false false = refl

and_true : (a : Bool) → (a && true) ≡ a
and_true true = refl
and_true false = refl

pub and_false : (a : Bool) → (a && false) ≡ false
and_false true = refl
and_false false = refl

and_or : (a b c : Bool) → (a && (b || c)) ≡ ((a && b) || (a && c))
and_or true b c = refl
and_or false b c = refl

and_left : (a b : Bool) → (a && b) ≡ true → a ≡ true
and_left true b p = refl
and_left false b p = absurd (cc)

and_right : (a b : Bool) → (a && b) ≡ true → b ≡ true
and_right true b p = p
and_right false b p = absurd (cc)

and_both : (a b : Bool) → a ≡ true → b ≡ true → (a && b) ≡ true
and_both true b p q = q
and_both false b p q = absurd (cc)

-- ---- sets

module _ {X : Type 0} (R : X → X → Ordering) (o : IsTotalOrder R) (same : (x y : X) → R x y ≡ Equal → x ≡ y) where
  tagged_placed : (x : X) (ys : List X) → tagged (placed R x ys) ≡ added R (λ a b. a) x tt (tagged ys)
  tagged_placed x [] = refl
  tagged_placed x (y ∷ ys) =
      elim (R x y) as (λ r. tagged (by_order r (x ∷ y ∷ ys) (y ∷ ys) (y ∷ placed R x ys)) ≡ by_order r ((x, tt) ∷ (y, tt) ∷ tagged ys) ((y, tt) ∷ tagged ys) ((y, tt) ∷ added R (λ a b. a) x tt (tagged ys))) [
        | Less ↦ refl
        | Equal ↦ refl
        | Greater ↦ ap (λ es. (y, tt) ∷ es) (tagged_placed x ys)
      ]

  pub rising_placed : (x : X) (ys : List X) → IsRising R ys → IsRising R (placed R x ys)
  rising_placed x ys h = is_true_of _ (subst (λ es. T (is_sorted R es)) (sym (tagged_placed x ys)) (is_sorted-added R (λ a b. a) o x tt (tagged ys) (is_sorted_of _ h)))

  pub rising_set : (xs : List X) → IsRising R (set_of R xs)
  rising_set [] = refl
  rising_set (x ∷ xs) = rising_placed x (set_of R xs) (rising_set xs)

  tagged_filter : (p : X → Bool) (xs : List X) → tagged (filter p xs) ≡ where_key R p (tagged xs)
  tagged_filter p [] = refl
  tagged_filter p (x ∷ xs) = elim (p x) as (λ b. tagged (cond b (x ∷ filter p xs) (filter p xs)) ≡ cond b ((x, tt) ∷ where_key R p (tagged xs)) (where_key R p (tagged xs))) [ true ↦ ap (λ es. (x, tt) ∷ es) (tagged_filter p xs) | false ↦ tagged_filter p xs ]

  pub rising_filter : (p : X → Bool) (xs : List X) → IsRising R xs → IsRising R (filter p xs)
  rising_filter p xs h = is_true_of _ (subst (λ es. T (is_sorted R es)) (sym (tagged_filter p xs)) (is_sorted-where_key R p (tagged xs) (is_sorted_of _ h)))

  all_placed : (S : X → Bool) (x : X) (ys : List X) → list_all S (placed R x ys) ≡ (S x && list_all S ys)
  all_placed S x [] = refl
  all_placed S x (y ∷ ys) =
      elim (R x y) as (λ r. R x y ≡ r → list_all S (by_order r (x ∷ y ∷ ys) (y ∷ ys) (y ∷ placed R x ys)) ≡ (S x && (S y && list_all S ys))) [
        | Less ↦ λ p. refl
        | Equal ↦ λ p. and_twice (S y) (list_all S ys) ∙ ap (λ z. S z && (S y && list_all S ys)) (sym (same x y p))
        | Greater ↦ λ p. ap (λ b. S y && b) (all_placed S x ys) ∙ and_crossed (S y) (S x) (list_all S ys)
      ] refl

  pub any_placed : (S : X → Bool) (x : X) (ys : List X) → list_any S (placed R x ys) ≡ (S x || list_any S ys)
  any_placed S x [] = refl
  any_placed S x (y ∷ ys) =
      elim (R x y) as (λ r. R x y ≡ r → list_any S (by_order r (x ∷ y ∷ ys) (y ∷ ys) (y ∷ placed R x ys)) ≡ (S x || (S y || list_any S ys))) [
        | Less ↦ λ p. refl
        | Equal ↦ λ p. or_twice (S y) (list_any S ys) ∙ ap (λ z. S z || (S y || list_any S ys)) (sym (same x y p))
        | Greater ↦ λ p. ap (λ b. S y || b) (any_placed S x ys) ∙ or_crossed (S y) (S x) (list_any S ys)
      ] refl

  pub all_set : (S : X → Bool) (xs : List X) → list_all S (set_of R xs) ≡ list_all S xs
  all_set S [] = refl
  all_set S (x ∷ xs) = all_placed S x (set_of R xs) ∙ ap (λ b. S x && b) (all_set S xs)

  contains_own : (x : X) (ys : List X) → In x ys → contains R x ys ≡ true
  contains_own x [] h = absurd h
  contains_own x (y ∷ ys) h = elim h as (λ _. (eq_by_cmp R x y || contains R x ys) ≡ true) [
    | inl e ↦ subst (λ z. (eq_by_cmp R x z || contains R x ys) ≡ true) e (ap (λ r. is_eq r || contains R x ys) (tied_itself o x))
    | inr k ↦ ap (λ b. eq_by_cmp R x y || b) (contains_own x ys k) ∙ or_comm (eq_by_cmp R x y) true
  ]

  eq_of : (x y : X) → eq_by_cmp R x y ≡ true → x ≡ y
  eq_of x y p = same x y (equal _ (subst T (sym p) tt))

  contained : (S : X → Bool) (x : X) (ys : List X) → contains R x ys ≡ true → list_all S ys ≡ true → S x ≡ true
  contained S x [] c a = absurd (cc)
  contained S x (y ∷ ys) c a =
      elim (eq_by_cmp R x y) as (λ b. eq_by_cmp R x y ≡ b → (b || contains R x ys) ≡ true → S x ≡ true) [
        | true ↦ λ e h. ap S (eq_of x y e) ∙ and_left (S y) (list_all S ys) a
        | false ↦ λ e h. contained S x ys h (and_right (S y) (list_all S ys) a)
      ] refl c

  within_all : (S : X → Bool) (xs ys : List X) → is_within R xs ys ≡ true → list_all S ys ≡ true → list_all S xs ≡ true
  within_all S [] ys w a = refl
  within_all S (x ∷ xs) ys w a = and_both (S x) (list_all S xs) (contained S x ys (and_left (contains R x ys) (is_within R xs ys) w) a) (within_all S xs ys (and_right (contains R x ys) (is_within R xs ys) w) a)

  -- rising lists with the same items are the same
  pub same_rising : (xs ys : List X) → IsRising R xs → IsRising R ys → ((x : X) → contains R x xs ≡ contains R x ys) → xs ≡ ys
  same_rising xs ys p q are =
      sym (untag xs) ∙ ap (map (λ e. e.0)) (same_entries R o same (tagged xs) (tagged ys) (is_sorted_of _ p) (is_sorted_of _ q) (λ x. found x xs ∙ ap known (are x) ∙ sym (found x ys))) ∙ untag ys
    where
      known : Bool → Option (Unit {0})
      known b = cond b (Some tt) None

      found : (x : X) (zs : List X) → find R x (tagged zs) ≡ cond (contains R x zs) (Some tt) None
      found x [] = refl
      found x (z ∷ zs) = elim (eq_by_cmp R x z) as (λ b. cond b (Some tt) (find R x (tagged zs)) ≡ cond (b || contains R x zs) (Some tt) None) [ true ↦ refl | false ↦ found x zs ]

      untag : (zs : List X) → map (λ e. e.0) (tagged zs) ≡ zs
      untag [] = refl
      untag (z ∷ zs) = ap (λ us. z ∷ us) (untag zs)

pub all_append : {X : Type 0} (S : X → Bool) (xs ys : List X) → list_all S (xs ++ ys) ≡ (list_all S xs && list_all S ys)
all_append S [] ys = refl
all_append S (x ∷ xs) ys = ap (λ b. S x && b) (all_append S xs ys) ∙ sym (and_assoc (S x) (list_all S xs) (list_all S ys))

pub any_append : {X : Type 0} (S : X → Bool) (xs ys : List X) → list_any S (xs ++ ys) ≡ (list_any S xs || list_any S ys)
any_append S [] ys = refl
any_append S (x ∷ xs) ys = ap (λ b. S x || b) (any_append S xs ys) ∙ sym (or_assoc (S x) (list_any S xs) (list_any S ys))

-- ---- what witnesses say: one of the sets is given whole

abbrev pub holds : {X : Type 0} → (X → Bool) → List (List X) → Bool
holds S sets = list_any (list_all S) sets

any_in : {X : Type 0} (p : X → Bool) (xs : List X) → list_any p xs ≡ true → (x : X) × (In x xs × (p x ≡ true))
any_in p [] h = absurd (cc)
any_in p (x ∷ xs) h =
    elim (p x) as (λ b. p x ≡ b → (b || list_any p xs) ≡ true → (y : _) × (In y (x ∷ xs) × (p y ≡ true))) [
      | true ↦ λ e k. (x, (inl refl, e))
      | false ↦ λ e k. let r = any_in p xs k in (r.0, (inr r.1.0, r.1.1))
    ] refl h

in_any : {X : Type 0} (p : X → Bool) (x : X) (xs : List X) → In x xs → p x ≡ true → list_any p xs ≡ true
in_any p x [] h e = absurd h
in_any p x (y ∷ ys) h e = elim h as (λ _. (p y || list_any p ys) ≡ true) [
  | inl s ↦ ap (λ b. b || list_any p ys) (ap p (sym s) ∙ e)
  | inr k ↦ ap (λ b. p y || b) (in_any p x ys k e) ∙ or_comm (p y) true
]

in_each : {X : Type 0} (P : X → Type 0) (x : X) (xs : List X) → In x xs → Each P xs → P x
in_each P x [] h e = absurd h
in_each P x (y ∷ ys) h e = elim h as (λ _. P x) [ inl s ↦ subst P (sym s) e.0 | inr k ↦ in_each P x ys k e.1 ]

in_filter : {X : Type 0} (p : X → Bool) (x : X) (xs : List X) → In x (filter p xs) → In x xs × (p x ≡ true)
in_filter p x [] h = absurd h
in_filter p x (y ∷ ys) h =
    elim (p y) as (λ b. p y ≡ b → In x (cond b (y ∷ filter p ys) (filter p ys)) → In x (y ∷ ys) × (p x ≡ true)) [
      | true ↦ λ e k. elim k as (λ _. In x (y ∷ ys) × (p x ≡ true)) [ inl s ↦ (inl s, ap p s ∙ e) | inr l ↦ (let r = in_filter p x ys l in (inr r.0, r.1)) ]
      | false ↦ λ e k. let r = in_filter p x ys k in (inr r.0, r.1)
    ] refl h

each_filter : {X : Type 0} (P : X → Type 0) (p : X → Bool) (xs : List X) → Each P xs → Each P (filter p xs)
each_filter P p [] h = tt
each_filter P p (x ∷ xs) h = elim (p x) as (λ b. Each P (cond b (x ∷ filter p xs) (filter p xs))) [ true ↦ (h.0, each_filter P p xs h.1) | false ↦ each_filter P p xs h.1 ]

module _ {X : Type 0} (R : X → X → Ordering) where
  in_placed : (y x : X) (xs : List X) → In y (placed R x xs) → (y ≡ x) ⊎ In y xs
  in_placed y x [] = λ h. h
  in_placed y x (z ∷ zs) =
      elim (R x z) as (λ r. In y (by_order r (x ∷ z ∷ zs) (z ∷ zs) (z ∷ placed R x zs)) → (y ≡ x) ⊎ In y (z ∷ zs)) [
        | Less ↦ λ h. h
        | Equal ↦ λ h. inr h
        | Greater ↦ λ h. elim h as (λ _. (y ≡ x) ⊎ In y (z ∷ zs)) [ inl e ↦ inr (inl e) | inr k ↦ elim (in_placed y x zs k) as (λ _. (y ≡ x) ⊎ In y (z ∷ zs)) [ inl e ↦ inl e | inr l ↦ inr (inr l) ] ]
      ]

  each_placed : (P : X → Type 0) (x : X) (xs : List X) → P x → Each P xs → Each P (placed R x xs)
  each_placed P x [] p h = (p, tt)
  each_placed P x (z ∷ zs) p h =
      elim (R x z) as (λ r. Each P (by_order r (x ∷ z ∷ zs) (z ∷ zs) (z ∷ placed R x zs))) [
        | Less ↦ (p, h)
        | Equal ↦ h
        | Greater ↦ (h.0, each_placed P x zs p h.1)
      ]

module _ {X : Type 0} (R : X → X → Ordering) (o : IsTotalOrder R) (same : (x y : X) → R x y ≡ Equal → x ≡ y) where
  pub sets_total : IsTotalOrder (slice_cmp R)
  sets_total = lists_total o

  pub sets_same : (s t : List X) → slice_cmp R s t ≡ Equal → s ≡ t
  sets_same = slice_cmp-IsAntisymmetric same

  -- sets that contain a given set say nothing more
  kept_same : (S : X → Bool) (s : List X) (sets : List (List X)) → (list_all S s || holds S (filter (λ t. not (is_within R s t)) sets)) ≡ (list_all S s || holds S sets)
  kept_same S s [] = refl
  kept_same S s (t ∷ ts) =
      elim (is_within R s t) as (λ b. is_within R s t ≡ b → (list_all S s || holds S (cond (not b) (t ∷ filter (λ t. not (is_within R s t)) ts) (filter (λ t. not (is_within R s t)) ts))) ≡ (list_all S s || (list_all S t || holds S ts))) [
        | true ↦ λ e. kept_same S s ts ∙ dropped (list_all S s) (list_all S t) (holds S ts) (within_all R o same S s t e)
        | false ↦ λ e. or_crossed (list_all S s) (list_all S t) _ ∙ ap (λ b. list_all S t || b) (kept_same S s ts) ∙ or_crossed (list_all S t) (list_all S s) (holds S ts)
      ] refl
    where
      dropped : (a b c : Bool) → (b ≡ true → a ≡ true) → (a || c) ≡ (a || (b || c))
      dropped true b c f = refl
      dropped false true c f = absurd (let e = f refl in cc)
      dropped false false c f = refl

  pub holds_with : (S : X → Bool) (s : List X) (sets : List (List X)) → holds S (with_set R s sets) ≡ (list_all S s || holds S sets)
  holds_with S s sets =
      elim (list_any (λ t. is_within R t s) sets) as (λ b. list_any (λ t. is_within R t s) sets ≡ b → holds S (cond b sets (placed (slice_cmp R) s (filter (λ t. not (is_within R s t)) sets))) ≡ (list_all S s || holds S sets)) [
        | true ↦ λ e. let r = any_in (λ t. is_within R t s) sets e in already (list_all S s) (holds S sets) (λ a. in_any (list_all S) r.0 sets r.1.0 (within_all R o same S r.0 s r.1.1 a))
        | false ↦ λ e. any_placed (slice_cmp R) sets_total sets_same (list_all S) s _ ∙ kept_same S s sets
      ] refl
    where
      already : (a b : Bool) → (a ≡ true → b ≡ true) → b ≡ (a || b)
      already true b f = f refl
      already false b f = refl

  pub holds_witness : (S : X → Bool) (sets : List (List X)) → holds S (witness_of R sets) ≡ holds S sets
  holds_witness S [] = refl
  holds_witness S (s ∷ sets) = holds_with S s (witness_of R sets) ∙ ap (λ b. list_all S s || b) (holds_witness S sets)

  pub with_set_in : (s : List X) (sets : List (List X)) → IsRising R s → IsWitness R sets → IsWitness R (with_set R s sets)
  with_set_in s sets p h =
      elim (list_any (λ t. is_within R t s) sets) as (λ b. list_any (λ t. is_within R t s) sets ≡ b → IsWitness R (cond b sets (placed (slice_cmp R) s (filter (λ t. not (is_within R s t)) sets)))) [
        | true ↦ λ e. h
        | false ↦ λ e. record {
          rising = rising_placed (slice_cmp R) sets_total sets_same s _ (rising_filter (slice_cmp R) sets_total sets_same (λ t. not (is_within R s t)) sets h.rising);
          each = each_placed (slice_cmp R) (IsRising R) s _ p (each_filter (IsRising R) _ sets h.each);
          apart = λ t u i j w. apart_by e t u (in_placed (slice_cmp R) t s _ i) (in_placed (slice_cmp R) u s _ j) w;
        }
      ] refl
    where
      apart_by : list_any (λ t. is_within R t s) sets ≡ false → (t u : List X) → (t ≡ s) ⊎ In t (filter (λ t. not (is_within R s t)) sets) → (u ≡ s) ⊎ In u (filter (λ t. not (is_within R s t)) sets) → is_within R t u ≡ true → t ≡ u
      apart_by e t u i j w = elim i as (λ _. t ≡ u) [
        | inl a ↦ elim j as (λ _. t ≡ u) [
          | inl b ↦ a ∙ sym b
          | inr b ↦ (let r = in_filter (λ t. not (is_within R s t)) u sets b in let v : is_within R s u ≡ true = subst (λ z. is_within R z u ≡ true) a w in absurd (clash (is_within R s u) v r.1))
        ]
        | inr a ↦ elim j as (λ _. t ≡ u) [
          | inl b ↦ (let r = in_filter (λ t. not (is_within R s t)) t sets a in let v = in_any (λ t. is_within R t s) t sets r.0 (subst (λ z. is_within R t z ≡ true) b w) in absurd (both_ways v e))
          | inr b ↦ h.apart t u (in_filter (λ t. not (is_within R s t)) t sets a).0 (in_filter (λ t. not (is_within R s t)) u sets b).0 w
        ]
      ]
        where
          clash : (b : Bool) → b ≡ true → not b ≡ true → ⊥
          clash true p q = cc
          clash false p q = cc

          both_ways : list_any (λ t. is_within R t s) sets ≡ true → list_any (λ t. is_within R t s) sets ≡ false → ⊥
          both_ways p q = cc

  -- ---- witnesses that say the same are the same

  pub all_own : (s : List X) → list_all (λ x. contains R x s) s ≡ true
  all_own s = each_own s (λ x i. contains_own R o same x s i)
    where
      each_own : (xs : List X) → ((x : X) → In x xs → contains R x s ≡ true) → list_all (λ x. contains R x s) xs ≡ true
      each_own [] f = refl
      each_own (x ∷ xs) f = and_both _ _ (f x (inl refl)) (each_own xs (λ y i. f y (inr i)))

  one_way : (b c : Bool) → (b ≡ true → c ≡ true) → (c ≡ true → b ≡ true) → b ≡ c
  one_way true c f g = sym (f refl)
  one_way false true f g = g refl
  one_way false false f g = refl

  within_in : (s t : List X) (x : X) → is_within R s t ≡ true → contains R x s ≡ true → contains R x t ≡ true
  within_in s t x w c = contained R o same (λ y. contains R y t) x s c w

  both_within : (s t : List X) → IsRising R s → IsRising R t → is_within R s t ≡ true → is_within R t s ≡ true → s ≡ t
  both_within s t p q v w = same_rising R o same s t p q (λ x. one_way _ _ (within_in s t x v) (within_in t s x w))

  -- a set of the one is a set of the other
  crosses : (p q : List (List X)) → IsWitness R p → IsWitness R q → ((S : X → Bool) → holds S p ≡ holds S q) → (s : List X) → In s p → In s q
  crosses p q g h are s i =
      let a = any_in (list_all (λ x. contains R x s)) q (sym (are (λ x. contains R x s)) ∙ in_any (list_all (λ x. contains R x s)) s p i (all_own s)) in
      let b = any_in (list_all (λ x. contains R x a.0)) p (are (λ x. contains R x a.0) ∙ in_any (list_all (λ x. contains R x a.0)) a.0 q a.1.0 (all_own a.0)) in
      let down : is_within R b.0 s ≡ true = within_all R o same (λ x. contains R x s) b.0 a.0 b.1.1 a.1.1 in
      let e : b.0 ≡ s = g.apart b.0 s b.1.0 i down in
      let back : is_within R s a.0 ≡ true = subst (λ u. is_within R u a.0 ≡ true) e b.1.1 in
      subst (λ u. In u q) (sym (both_within s a.0 (in_each (IsRising R) s p i g.each) (in_each (IsRising R) a.0 q a.1.0 h.each) back a.1.1)) a.1.0

  pub same_witness : (p q : List (List X)) → IsWitness R p → IsWitness R q → ((S : X → Bool) → holds S p ≡ holds S q) → p ≡ q
  same_witness p q g h are =
      same_rising (slice_cmp R) sets_total sets_same p q g.rising h.rising (λ s. one_way _ _ (moves p q g h are s) (moves q p h g (λ S. sym (are S)) s))
    where
      moves : (p q : List (List X)) → IsWitness R p → IsWitness R q → ((S : X → Bool) → holds S p ≡ holds S q) → (s : List X) → contains (slice_cmp R) s p ≡ true → contains (slice_cmp R) s q ≡ true
      moves p q g h are s c =
          let a = any_in (λ t. eq_by_cmp (slice_cmp R) s t) p c in
          let e = eq_of (slice_cmp R) sets_total sets_same s a.0 a.1.1 in
          contains_own (slice_cmp R) sets_total sets_same s q (crosses p q g h are s (subst (λ u. In u p) (sym e) a.1.0))

  -- ---- the laws

  pub none_in : IsWitness R []
  none_in = record { rising = refl; each = tt; apart = λ s t i j w. absurd i }

  pub witness_in : (sets : List (List X)) → Each (IsRising R) sets → IsWitness R (witness_of R sets)
  witness_in [] h = none_in
  witness_in (s ∷ sets) h = with_set_in s (witness_of R sets) h.0 (witness_in sets h.1)

  pub one_in : IsWitness R ([] ∷ [])
  one_in = record { rising = refl; each = (refl, tt); apart = λ s t i j w. only s t i j }
    where
      only : (s t : List X) → In s ([] ∷ []) → In t ([] ∷ []) → s ≡ t
      only s t i j = elim i as (λ _. s ≡ t) [ inl a ↦ elim j as (λ _. s ≡ t) [ inl b ↦ a ∙ sym b | inr k ↦ absurd k ] | inr k ↦ absurd k ]

  pub plus_in : (p q : List (List X)) → IsWitness R p → IsWitness R q → IsWitness R (witness_plus R p q)
  plus_in p q g h = witness_in (p ++ q) (each_append (IsRising R) p q g.each h.each)

  each_unions : (p q : List (List X)) → Each (IsRising R) (unions R p q)
  each_unions [] q = tt
  each_unions (s ∷ p) q = each_append (IsRising R) (map (λ t. set_of R (s ++ t)) q) (unions R p q) (each_row s q) (each_unions p q)
    where
      each_row : (s : List X) (q : List (List X)) → Each (IsRising R) (map (λ t. set_of R (s ++ t)) q)
      each_row s [] = tt
      each_row s (t ∷ q) = (rising_set R o same (s ++ t), each_row s q)

  pub times_in : (p q : List (List X)) → IsWitness R p → IsWitness R q → IsWitness R (witness_times R p q)
  times_in p q g h = witness_in (unions R p q) (each_unions p q)

  pub holds_plus : (S : X → Bool) (p q : List (List X)) → holds S (witness_plus R p q) ≡ (holds S p || holds S q)
  holds_plus S p q = holds_witness S (p ++ q) ∙ any_append (list_all S) p q

  holds_unions : (S : X → Bool) (p q : List (List X)) → holds S (unions R p q) ≡ (holds S p && holds S q)
  holds_unions S [] q = refl
  holds_unions S (s ∷ p) q =
      any_append (list_all S) (map (λ t. set_of R (s ++ t)) q) (unions R p q)
      ∙ ap (λ b. b || holds S (unions R p q)) (row q)
      ∙ ap (λ b. (list_all S s && holds S q) || b) (holds_unions S p q)
      ∙ and_comm_or (list_all S s) (holds S p) (holds S q)
    where
      row : (q : List (List X)) → holds S (map (λ t. set_of R (s ++ t)) q) ≡ (list_all S s && holds S q)
      row [] = sym (and_false (list_all S s))
      row (t ∷ q) = ap (λ b. b || holds S (map (λ t. set_of R (s ++ t)) q)) (all_set R o same S (s ++ t) ∙ all_append S s t) ∙ ap (λ b. (list_all S s && list_all S t) || b) (row q) ∙ sym (and_or (list_all S s) (list_all S t) (holds S q))

      and_comm_or : (a b c : Bool) → ((a && c) || (b && c)) ≡ ((a || b) && c)
      and_comm_or true true true = refl
      and_comm_or true true false = refl
      and_comm_or true false true = refl
      and_comm_or true false false = refl
      and_comm_or false b c = refl

  pub holds_times : (S : X → Bool) (p q : List (List X)) → holds S (witness_times R p q) ≡ (holds S p && holds S q)
  holds_times S p q = holds_witness S (unions R p q) ∙ holds_unions S p q

  -- witnesses are a commutative semiring
  pub witness_laws : SemiringLaws (IsWitness R) [] ([] ∷ []) (witness_plus R) (witness_times R)
  witness_laws = record {
    zero_in = none_in;
    one_in = one_in;
    plus_in = plus_in;
    times_in = times_in;
    plus_assoc = λ a b c p q r. same_witness _ _ (plus_in _ c (plus_in a b p q) r) (plus_in a _ p (plus_in b c q r)) (λ S.
        holds_plus S (witness_plus R a b) c ∙ ap (λ z. z || holds S c) (holds_plus S a b) ∙ or_assoc (holds S a) (holds S b) (holds S c)
        ∙ sym (holds_plus S a (witness_plus R b c) ∙ ap (λ z. holds S a || z) (holds_plus S b c)));
    plus_comm = λ a b p q. same_witness _ _ (plus_in a b p q) (plus_in b a q p) (λ S. holds_plus S a b ∙ or_comm (holds S a) (holds S b) ∙ sym (holds_plus S b a));
    plus_zero = λ a p. same_witness _ _ (plus_in a [] p none_in) p (λ S. holds_plus S a [] ∙ or_false (holds S a));
    times_assoc = λ a b c p q r. same_witness _ _ (times_in _ c (times_in a b p q) r) (times_in a _ p (times_in b c q r)) (λ S.
        holds_times S (witness_times R a b) c ∙ ap (λ z. z && holds S c) (holds_times S a b) ∙ and_assoc (holds S a) (holds S b) (holds S c)
        ∙ sym (holds_times S a (witness_times R b c) ∙ ap (λ z. holds S a && z) (holds_times S b c)));
    times_comm = λ a b p q. same_witness _ _ (times_in a b p q) (times_in b a q p) (λ S. holds_times S a b ∙ and_comm (holds S a) (holds S b) ∙ sym (holds_times S b a));
    times_one = λ a p. same_witness _ _ (times_in a _ p one_in) p (λ S. holds_times S a ([] ∷ []) ∙ and_true (holds S a));
    times_plus = λ a b c p q r. same_witness _ _ (times_in a _ p (plus_in b c q r)) (plus_in _ _ (times_in a b p q) (times_in a c p r)) (λ S.
        holds_times S a (witness_plus R b c) ∙ ap (λ z. holds S a && z) (holds_plus S b c) ∙ and_or (holds S a) (holds S b) (holds S c)
        ∙ sym (holds_plus S (witness_times R a b) (witness_times R a c) ∙ ap (λ z. z || holds S (witness_times R a c)) (holds_times S a b) ∙ ap (λ z. (holds S a && holds S b) || z) (holds_times S a c)));
    times_zero = λ a p. same_witness _ _ (times_in a [] p none_in) none_in (λ S. holds_times S a [] ∙ and_false (holds S a));
  }

  -- ---- the sets kept are those that contain no other

  in_witness : (s : List X) (sets : List (List X)) → In s (witness_of R sets) → In s sets
  in_witness s [] i = i
  in_witness s (t ∷ sets) i = elim (with_cases s t (witness_of R sets) i) as (λ _. In s (t ∷ sets)) [ inl e ↦ inl e | inr k ↦ inr (in_witness s sets k) ]
    where
      with_cases : (s t : List X) (ws : List (List X)) → In s (with_set R t ws) → (s ≡ t) ⊎ In s ws
      with_cases s t ws =
          elim (list_any (λ u. is_within R u t) ws) as (λ b. In s (cond b ws (placed (slice_cmp R) t (filter (λ u. not (is_within R t u)) ws))) → (s ≡ t) ⊎ In s ws) [
            | true ↦ λ i. inr i
            | false ↦ λ i. elim (in_placed (slice_cmp R) s t _ i) as (λ _. (s ≡ t) ⊎ In s ws) [ inl e ↦ inl e | inr k ↦ inr (in_filter (λ u. not (is_within R t u)) s ws k).0 ]
          ]

  -- below each set there is one that is kept
  kept_below : (sets : List (List X)) (s : List X) → In s sets → (t : List X) × (In t (witness_of R sets) × (is_within R t s ≡ true))
  kept_below sets s i = any_in (list_all (λ x. contains R x s)) (witness_of R sets) (holds_witness (λ x. contains R x s) sets ∙ in_any (list_all (λ x. contains R x s)) s sets i (all_own s))

  within_through : (s t u : List X) → is_within R s t ≡ true → is_within R t u ≡ true → is_within R s u ≡ true
  within_through s t u v w = within_all R o same (λ x. contains R x u) s t v w

  -- a set that is kept contains no other
  pub kept_is_minimal : (sets : List (List X)) → Each (IsRising R) sets → (s : List X) → In s (witness_of R sets) → In s sets × ((t : List X) → In t sets → is_within R t s ≡ true → t ≡ s)
  kept_is_minimal sets h s i = (
    in_witness s sets i,
    λ t j w.
        let k = kept_below sets t j in
        let e = (witness_in sets h).apart k.0 s k.1.0 i (within_through k.0 t s k.1.1 w) in
        both_within t s (in_each (IsRising R) t sets j h) (in_each (IsRising R) s sets (in_witness s sets i) h) w (subst (λ z. is_within R z t ≡ true) e k.1.1),
  )

  -- and a set that contains no other is kept
  pub minimal_is_kept : (sets : List (List X)) (s : List X) → In s sets → ((t : List X) → In t sets → is_within R t s ≡ true → t ≡ s) → In s (witness_of R sets)
  minimal_is_kept sets s i least =
      let k = kept_below sets s i in
      subst (λ z. In z (witness_of R sets)) (least k.0 (in_witness k.0 sets k.1.0) k.1.1) k.1.0

-- ---- sets of tokens

abbrev pub coded_set : Coded (List Token)
coded_set = coded_list token.the_row.coded

abbrev pub coded_sets : Coded Sets
coded_sets = coded_list coded_set

pub token_witness_laws : SemiringLaws (IsWitness token_cmp) [] ([] ∷ []) (witness_plus token_cmp) (witness_times token_cmp)
token_witness_laws = witness_laws token_cmp token_cmp_total token_cmp-exact

pub witness_number_in : (n : ℕ) → IsWitness token_cmp (unwrap_or (witness_number n) ([] ∷ []))
witness_number_in n =
    elim (n == 0) as (λ b. IsWitness token_cmp (unwrap_or (cond b (Some []) (cond (n == 1) (Some ([] ∷ [])) None)) ([] ∷ []))) [
      | true ↦ none_in token_cmp token_cmp_total token_cmp-exact
      | false ↦ elim (n == 1) as (λ c. IsWitness token_cmp (unwrap_or (cond c (Some ([] ∷ [])) None) ([] ∷ []))) [
        | true ↦ one_in token_cmp token_cmp_total token_cmp-exact
        | false ↦ one_in token_cmp token_cmp_total token_cmp-exact
      ]
    ]

pub witness_token_in : (t : Token) → IsWitness token_cmp (unwrap_or (witness_token t) ([] ∷ []))
witness_token_in t = witness_in token_cmp token_cmp_total token_cmp-exact ((t ∷ []) ∷ []) (refl, tt)
