-- Whether an element of a list passes, and which one.
use Rattle.gp_serial.proofs.Prelude.{◌≡◌, ◌+◌, ℕ, zero, suc, Bool, true, false, cond, List, [], ◌∷◌, ◌++◌, length, map, Some, refl, sym, ap, ◌∙◌, arith, ◌&&◌, ◌||◌, filter, nat_lt, slice_get, flat_map, list_any, false≢true, nat_tests, list_any-append, same_Some, or_nothing, some_none, numbers}

pub by_both : (x y : Bool) → (x ≡ true → y ≡ true) → (y ≡ true → x ≡ true) → x ≡ y
by_both true true f g = refl
by_both true false f g = sym (f refl)
by_both false true f g = g refl
by_both false false f g = refl

-- one of two tests passes
pub either : (Q : Type 0) (x y : Bool) → (x || y) ≡ true → (x ≡ true → Q) → (y ≡ true → Q) → Q
either Q true y e left right = left refl
either Q false y e left right = right e

pub or_left : (x y : Bool) → x ≡ true → (x || y) ≡ true
or_left x y e = ap (λ b. b || y) e

pub or_right : (x y : Bool) → y ≡ true → (x || y) ≡ true
or_right true y e = refl
or_right false y e = e

pub and_both : (x y : Bool) → x ≡ true → y ≡ true → (x && y) ≡ true
and_both x y e f = λ i. e i && f i

-- ---- one that passes

pub any_elim : {A : Type 0} (Q : Type 0) (p : A → Bool) (xs : List A) → list_any p xs ≡ true → ((x : A) (i : ℕ) → slice_get xs i ≡ Some x → p x ≡ true → Q) → Q
any_elim Q p [] e found = absurd (false≢true e)
any_elim Q p (x ∷ xs) e found = by (p x) refl e (λ e. any_elim Q p xs e (λ y i at own. found y (suc i) at own))
  where
    by : (b : Bool) → p x ≡ b → b || list_any p xs ≡ true → (list_any p xs ≡ true → Q) → Q
    by true is e rest = found x zero refl is
    by false is e rest = rest e

pub any_intro : {A : Type 0} (p : A → Bool) (xs : List A) (i : ℕ) (x : A) → slice_get xs i ≡ Some x → p x ≡ true → list_any p xs ≡ true
any_intro p [] i x at own = absurd (some_none x (sym at))
any_intro p (y ∷ xs) zero x at own = ap (λ b. b || list_any p xs) (ap p (same_Some y x at) ∙ own)
any_intro p (y ∷ xs) (suc i) x at own = or_right (p y) (list_any p xs) (any_intro p xs i x at own)

-- of a list that is mapped
pub mapped_elim : {A B : Type 0} (Q : Type 0) (f : A → B) (xs : List A) (i : ℕ) (y : B) → slice_get (map f xs) i ≡ Some y → ((x : A) → slice_get xs i ≡ Some x → f x ≡ y → Q) → Q
mapped_elim Q f [] i y at found = absurd (some_none y (sym at))
mapped_elim Q f (x ∷ xs) zero y at found = found x refl (same_Some (f x) y at)
mapped_elim Q f (x ∷ xs) (suc i) y at found = mapped_elim Q f xs i y at found

-- ---- whether there is any

abbrev pub there_is : {A : Type 0} → List A → Bool
there_is xs = nat_lt 0 (length xs)

pub some_first : {A : Type 0} (x : A) (xs : List A) → there_is (x ∷ xs) ≡ true
some_first x xs = above (length xs)
  where
    above : (n : ℕ) → nat_lt 0 (suc n) ≡ true
    above n = grind (arith, nat_tests)

none_there : nat_lt 0 0 ≡ false
none_there = grind (arith, nat_tests)

pub some_append : {A : Type 0} (xs ys : List A) → there_is (xs ++ ys) ≡ (there_is xs || there_is ys)
some_append [] ys = ap (λ b. b || there_is ys) (sym none_there)
some_append (x ∷ xs) ys = some_first x (xs ++ ys) ∙ sym (ap (λ b. b || there_is ys) (some_first x xs))

pub some_map : {A B : Type 0} (f : A → B) (xs : List A) → there_is (map f xs) ≡ there_is xs
some_map f [] = refl
some_map f (x ∷ xs) = some_first (f x) (map f xs) ∙ sym (some_first x xs)

pub some_filter : {A : Type 0} (p : A → Bool) (xs : List A) → there_is (filter p xs) ≡ list_any p xs
some_filter p [] = none_there
some_filter p (x ∷ xs) = by (p x) (some_filter p xs)
  where
    by : (b : Bool) → there_is (filter p xs) ≡ list_any p xs → there_is (cond b (x ∷ filter p xs) (filter p xs)) ≡ (b || list_any p xs)
    by true rest = some_first x (filter p xs)
    by false rest = rest

pub some_flat_map : {A B : Type 0} (f : A → List B) (xs : List A) → there_is (flat_map f xs) ≡ list_any (λ x. there_is (f x)) xs
some_flat_map f [] = none_there
some_flat_map f (x ∷ xs) = some_append (f x) (flat_map f xs) ∙ ap (λ b. there_is (f x) || b) (some_flat_map f xs)

pub any_filter : {A : Type 0} (p q : A → Bool) (xs : List A) → list_any p (filter q xs) ≡ list_any (λ x. q x && p x) xs
any_filter p q [] = refl
any_filter p q (x ∷ xs) = by (q x) (any_filter p q xs)
  where
    by : (b : Bool) → list_any p (filter q xs) ≡ list_any (λ x. q x && p x) xs → list_any p (cond b (x ∷ filter q xs) (filter q xs)) ≡ ((b && p x) || list_any (λ x. q x && p x) xs)
    by true rest = ap (λ b. p x || b) rest
    by false rest = rest

-- ---- numbers

pub numbers_any : (p : ℕ → Bool) (n : ℕ) → list_any p (numbers (suc n)) ≡ (list_any p (numbers n) || p (suc n))
numbers_any p n = list_any-append p (numbers n) (suc n ∷ []) ∙ ap (λ b. list_any p (numbers n) || b) (or_nothing (p (suc n)))
