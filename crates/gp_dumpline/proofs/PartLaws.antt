-- Lines are cut where they were joined, and only there.
use Rattle.std.proofs.Common.{◌≡◌, ℕ, ◌<◌, Bool, true, false, leb, eqb, List, [], ◌∷◌, ◌++◌, length, take, drop, Option, Some, None, option_and_then, refl, sym, ap, ◌∙◌, arith, inl, inr, eq-eqb, cond}
use Rattle.std.specs.Option.{option_map}
use Rattle.std.specs.Str.{bytes_eq}
use Rattle.std.specs.List.{AllByRecursion}
use Rattle.std.proofs.lemmas.Bool.{cases_Bool, and_parts, leb-true, eqb-true, ne_eqb}
use Rattle.std.proofs.lemmas.List.{take-append-drop, take_at}
use Rattle.std.proofs.lemmas.Slice.Eq.{bytes_eq-Decides}
use Rattle.gp_dumpline.specs.Numbers.{cut_at, behind_words, after_byte}
use Rattle.gp_base.specs.Digits.{are_digits, is_digit}

-- the parts of a chain of readers
pub bind : {A B : Type 0} (f : A → Option B) (o : Option A) (y : B) → option_and_then f o ≡ Some y → (x : A) × (o ≡ Some x) × (f x ≡ Some y)
bind f None y e = absurd cc
bind f (Some x) y e = (x, refl, e)

abbrev pub IsFree : ℕ → List ℕ → Type 0
IsFree stop bytes = AllByRecursion (λ byte. eqb byte stop ≡ false) bytes

pub cut-again : (stop : ℕ) (xs ys : List ℕ) → IsFree stop xs → cut_at stop (xs ++ stop ∷ ys) ≡ Some (xs, ys)
cut-again stop [] ys free = let here : eqb stop stop ≡ true = eq-eqb stop stop refl in rw here refl
cut-again stop (x ∷ xs) ys free = rw (free.0, cut-again stop xs ys free.1) refl

abbrev some_pair : List ℕ × List ℕ → Option (List ℕ × List ℕ)
some_pair x = Some x

abbrev first_of_pair : Option (List ℕ × List ℕ) → List ℕ
first_of_pair None = []
first_of_pair (Some x) = x.0

abbrev second_of_pair : Option (List ℕ × List ℕ) → List ℕ
second_of_pair None = []
second_of_pair (Some x) = x.1

abbrev some_bytes : List ℕ → Option (List ℕ)
some_bytes x = Some x

some_is : (x y : List ℕ) → some_bytes x ≡ Some y → x ≡ y
some_is x y e = cc

abbrev no_bytes : Option (List ℕ)
no_bytes = None

none_some : (y : List ℕ) → no_bytes ≡ Some y → ⊥
none_some y e = cc

pair-first : (a b c d : List ℕ) → some_pair (a, b) ≡ Some (c, d) → c ≡ a
pair-first a b c d e = ap (λ (o : Option (List ℕ × List ℕ)). first_of_pair o) (sym e)

pair-second : (a b c d : List ℕ) → some_pair (a, b) ≡ Some (c, d) → d ≡ b
pair-second a b c d e = ap (λ (o : Option (List ℕ × List ℕ)). second_of_pair o) (sym e)

pub cut-takes : (stop : ℕ) (text a b : List ℕ) → cut_at stop text ≡ Some (a, b) → text ≡ a ++ stop ∷ b
cut-takes stop [] a b e = absurd cc
cut-takes stop (x ∷ text) a b e = elim (cases_Bool (eqb x stop)) [
  | inl here ↦
      let f = rw here at e in
      let first : a ≡ [] = pair-first [] text a b f in
      let second : b ≡ text = pair-second [] text a b f in
      let same : x ≡ stop = eqb-true x stop here in
      ap (λ (y : ℕ). y ∷ text) same ∙ ap (λ (ys : List ℕ). stop ∷ ys) (sym second) ∙ ap (λ (xs : List ℕ). xs ++ stop ∷ b) (sym first)
  | inr other ↦
      let f = rw other at e in
      later (cut_at stop text) (λ a' b' g. cut-takes stop text a' b' g) f
]
  where
    later : (o : Option (List ℕ × List ℕ)) → ((a' b' : List ℕ) → o ≡ Some (a', b') → text ≡ a' ++ stop ∷ b') → option_map {U = List ℕ × List ℕ} (λ (y : List ℕ × List ℕ). (x ∷ y.0, y.1)) o ≡ Some (a, b) → x ∷ text ≡ a ++ stop ∷ b
    later None is g = absurd cc
    later (Some y) is g =
        let first : a ≡ x ∷ y.0 = pair-first (x ∷ y.0) y.1 a b g in
        let second : b ≡ y.1 = pair-second (x ∷ y.0) y.1 a b g in
        ap (λ (ys : List ℕ). x ∷ ys) (is y.0 y.1 refl) ∙ ap (λ (ys : List ℕ). x ∷ (y.0 ++ stop ∷ ys)) (sym second) ∙ ap (λ (xs : List ℕ). xs ++ stop ∷ b) (sym first)

pub words-takes : (words text rest : List ℕ) → behind_words words text ≡ Some rest → text ≡ words ++ rest
words-takes words text rest e = elim (cases_Bool (bytes_eq (take (length words) text) words)) [
  | inl same ↦
      let f = rw same at e in
      sym (take-append-drop (length words) text) ∙ ap (λ (xs : List ℕ). xs ++ drop (length words) text) ((bytes_eq-Decides (take (length words) text) words).0 same) ∙ ap (λ (xs : List ℕ). words ++ xs) (some_is (drop (length words) text) rest f)
  | inr other ↦ let f = rw other at e in absurd (none_some rest f)
]

pub digits-free : (stop : ℕ) (ds : List ℕ) → stop < 48 → are_digits ds ≡ true → IsFree stop ds
digits-free stop [] low all = tt
digits-free stop (d ∷ ds) low all =
    let p = and_parts (is_digit d) (are_digits ds) all in
    let q = and_parts (leb 48 d) (leb d 57) p.0 in
    (ne_eqb d stop (λ e. absurd (omega (arith, low, e, leb-true 48 d q.0))), digits-free stop ds low p.1)

pub free-append : (stop : ℕ) (xs ys : List ℕ) → IsFree stop xs → IsFree stop ys → IsFree stop (xs ++ ys)
free-append stop [] ys a b = b
free-append stop (x ∷ xs) ys a b = (a.0, free-append stop xs ys a.1 b)

pub words-again : (words rest : List ℕ) → behind_words words (words ++ rest) ≡ Some rest
words-again words rest =
    rw (take_at words rest (length words) refl, (bytes_eq-Decides words words).1 refl) (ap (λ (x : List ℕ). Some x) (drop-front words rest))
  where
    drop-front : (words rest : List ℕ) → drop (length words) (words ++ rest) ≡ rest
    drop-front [] rest = refl
    drop-front (w ∷ words) rest = drop-front words rest

chosen : {A : Type 0} (b : Bool) (x : A) (y : A) → cond b (Some x) None ≡ Some y → (b ≡ true) × (x ≡ y)
chosen true x y e = (refl, cc)
chosen false x y e = absurd cc

pub byte-takes : (wanted : ℕ) (bytes rest : List ℕ) → after_byte wanted bytes ≡ Some rest → bytes ≡ wanted ∷ rest
byte-takes wanted [] rest e = absurd cc
byte-takes wanted (b ∷ bytes) rest e =
    let c = chosen (eqb b wanted) bytes rest e in
    let same : b ≡ wanted = eqb-true b wanted c.0 in
    let others : bytes ≡ rest = c.1 in
    cc
