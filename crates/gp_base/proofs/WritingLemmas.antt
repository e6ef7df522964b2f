-- Lemmas of writers: how a prefix of a text grows part by part.
use Rattle.std.proofs.Common.{◌≡◌, ℕ, ◌+◌, ◌<◌, min, List, [], ◌++◌, length, take, drop, get_or, refl, sym, ap, ◌∙◌, append_assoc, arith}
use Rattle.std.specs.List.{flat_map}
use Rattle.std.proofs.Math.Seq.{take-append-add}
use Rattle.std.proofs.lemmas.List.{append-nil, take_at, take-append-le, take_min, take-append-drop, at_drop_more}
use Rattle.std.proofs.lemmas.Grind.{flat_map-append}
use Rattle.gp_base.specs.DirectWriting.{AppendsPrefix}

-- the whole first part is written
pub AppendsPrefix-part : (old new text part rest : List ℕ) → new ≡ old ++ part → text ≡ part ++ rest → AppendsPrefix old new text
AppendsPrefix-part old new text part rest written parts = record {
  count = length part;
  is = written ∙ ap (λ (t : List ℕ). old ++ t) (sym (ap (take (length part)) parts ∙ take_at part rest (length part) refl));
}

-- the whole first part is written, and a prefix of the second
pub AppendsPrefix-after : (old mid new text part next rest : List ℕ) → mid ≡ old ++ part → AppendsPrefix mid new next → text ≡ part ++ (next ++ rest) → AppendsPrefix old new text
AppendsPrefix-after old mid new text part next rest written prefix parts =
    let n = min prefix.count (length next) in
    let short : take n (next ++ rest) ≡ take prefix.count next = take-append-le n next rest (omega arith) ∙ take_min prefix.count next in
    let whole : take (length part + n) text ≡ part ++ take prefix.count next =
    ap (take (length part + n)) parts ∙ take-append-add part (next ++ rest) n ∙ ap (λ (t : List ℕ). part ++ t) short in
    record {
      count = length part + n;
      is = prefix.is ∙ ap (λ (t : List ℕ). t ++ take prefix.count next) written ∙ append_assoc old part (take prefix.count next) ∙ ap (λ (t : List ℕ). old ++ t) (sym whole);
    }

-- the texts of the items before an index, and of the others
pub flat_map-parts : {X : Type 0} (f : X → List ℕ) (xs : List X) (i : ℕ) → flat_map f xs ≡ flat_map f (take i xs) ++ flat_map f (drop i xs)
flat_map-parts f xs i = sym (ap (flat_map f) (take-append-drop i xs)) ∙ flat_map-append f (take i xs) (drop i xs)

-- the texts before, at and after an index
pub flat_map-around : {X : Type 0} (f : X → List ℕ) (xs : List X) (i : ℕ) (x : X) → i < length xs → x ≡ get_or xs i x → flat_map f xs ≡ flat_map f (take i xs) ++ (f x ++ flat_map f (drop (i + 1) xs))
flat_map-around f xs i x lt at = flat_map-parts f xs i ∙ ap (λ (t : List ℕ). flat_map f (take i xs) ++ t) (at_drop_more (flat_map f) xs i x lt ∙ ap (λ (y : _). f y ++ flat_map f (drop (i + 1) xs)) (sym at))

-- a prefix of the first part is a prefix of the whole
pub AppendsPrefix-first : (old new part rest : List ℕ) → AppendsPrefix old new part → AppendsPrefix old new (part ++ rest)
AppendsPrefix-first old new part rest prefix = AppendsPrefix-after old old new (part ++ rest) [] part rest (sym (append-nil old)) prefix refl

-- the whole first part and a prefix of the rest are a prefix of the whole
pub AppendsPrefix-second : (old mid new part rest : List ℕ) → mid ≡ old ++ part → AppendsPrefix mid new rest → AppendsPrefix old new (part ++ rest)
AppendsPrefix-second old mid new part rest written prefix = AppendsPrefix-after old mid new (part ++ rest) part rest [] written prefix (ap (λ (t : List ℕ). part ++ t) (sym (append-nil rest)))

-- for the exits of a function that writes one part after another
pub ruleset prefixes = (AppendsPrefix-first, AppendsPrefix-second)
