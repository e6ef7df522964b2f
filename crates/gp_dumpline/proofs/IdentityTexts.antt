-- The text of an identity is read again, and what is read is the identity's text.
use Rattle.std.proofs.Common.{◌≡◌, ℕ, zero, suc, ◌+◌, ◌*◌, ◌≤◌, true, false, leb, eqb, List, [], ◌∷◌, ◌++◌, Option, Some, None, option_and_then, ◌<◌, lit≤, refl, sym, ap, subst, ◌∙◌, append_assoc, arith, inl, inr}
use Rattle.std.specs.List.{AllByRecursion}
use Rattle.std.specs.Fmt.{decimal}
use Rattle.std.proofs.lemmas.Bool.{cases_Bool, and_parts, le-leb, leb-true, cond-true, eqb-true, ne_eqb}
use Rattle.std.proofs.lemmas.List.{append-nil}
use Rattle.gp_base.specs.declared.row_id.TheConstants.{MAX_NODES}
use Rattle.gp_base.specs.Identities.{Identity, Sources, identity, no_sources, source, nodes, nodes_in, identity_text, sources_text, others_text}
use Rattle.gp_base.specs.Digits.{are_digits, is_digit}
use Rattle.gp_dumpline.specs.RowForms.{Numbers, numbers_at, made, joined, identity_at, sources_at, others_at, identity_of, if_whole, most_steps}
use Rattle.gp_dumpline.specs.Rows.{IsReadable, AreReadable, IsPart}
use Rattle.gp_dumpline.proofs.PartLaws.{IsFree, bind}
use Rattle.gp_dumpline.proofs.NumberLaws.{digits_own}
use Rattle.gp_dumpline.proofs.IdentityNumbers.{IsAfterDigits, numbers-again, numbers-takes, TakesNumbers, chosen, some_is}

-- what may follow an identity
abbrev pub IsAfterIdentity : List ℕ → Type 0
IsAfterIdentity [] = Unit {0}
IsAfterIdentity (byte ∷ bytes) = (is_digit byte ≡ false) × (eqb byte 40 ≡ false)

-- how many steps reading takes
abbrev mutual
  pub need : Identity → ℕ
  need (identity t k n ids) = need_sources ids + 1

  pub need_sources : Sources → ℕ
  need_sources no_sources = 1
  need_sources (source first later) = need first + need_others later + 1

  pub need_others : Sources → ℕ
  need_others no_sources = 1
  need_others (source next later) = need next + need_others later + 1

after-digits : (ids : Sources) (rest : List ℕ) → IsAfterIdentity rest → IsAfterDigits (sources_text ids ++ rest)
after-digits no_sources [] after = tt
after-digits no_sources (b ∷ rest) after = after.0
after-digits (source first later) rest after = refl

after-later : (later : Sources) (rest : List ℕ) → IsAfterIdentity (others_text later ++ rest)
after-later no_sources rest = (refl, refl)
after-later (source next later) rest = (refl, refl)

regroup : (t k n : List ℕ) (s rest : List ℕ) → (t ++ 46 ∷ (k ++ 46 ∷ (n ++ (s ++ [])))) ++ rest ≡ t ++ 46 ∷ (k ++ 46 ∷ (n ++ (s ++ rest)))
regroup t k n s rest = simp (append_assoc, append-nil)

pair : (a b rest : List ℕ) → (a ++ (b ++ [])) ++ rest ≡ a ++ (b ++ rest)
pair a b rest = simp (append_assoc, append-nil)

made-is : (t k n : ℕ) (ids : Sources) (under rest : List ℕ) → nodes (identity t k n ids) ≤ MAX_NODES → made (record { t = t; k = k; n = n; rest = under }) (ids, rest) ≡ Some (identity t k n ids, rest)
made-is t k n ids under rest few = cond-true (leb (nodes (identity t k n ids)) MAX_NODES) (Some (identity t k n ids, rest)) None (le-leb _ MAX_NODES few)

mutual
  unfolding identity_at

  pub identity-again : (id : Identity) (steps : ℕ) (rest : List ℕ) → IsReadable id → IsAfterIdentity rest → need id ≤ steps → identity_at steps (identity_text id ++ rest) ≡ Some (id, rest)
  identity-again (identity t k n ids) zero rest is after enough = absurd (omega (arith, enough))
  identity-again (identity t k n ids) (suc steps) rest is after enough =
      ap (identity_at (suc steps)) (regroup (decimal t) (decimal k) (decimal n) (sources_text ids) rest)
      ∙ ap (option_and_then (λ (x : Numbers). option_and_then (made x) (sources_at steps x.rest))) (numbers-again t k n (sources_text ids ++ rest) is.0 is.1.0 is.1.1.0 (after-digits ids rest after))
      ∙ ap (option_and_then (made (record { t = t; k = k; n = n; rest = sources_text ids ++ rest }))) (ids-again ids steps rest is.1.1.1.1 after (omega (arith, enough)))
      ∙ made-is t k n ids (sources_text ids ++ rest) rest is.1.1.1.0

  pub ids-again : (ids : Sources) (steps : ℕ) (rest : List ℕ) → AreReadable ids → IsAfterIdentity rest → need_sources ids ≤ steps → sources_at steps (sources_text ids ++ rest) ≡ Some (ids, rest)
  ids-again no_sources zero rest are after enough = absurd (omega (arith, enough))
  ids-again no_sources (suc steps) [] are after enough = refl
  ids-again no_sources (suc steps) (b ∷ rest) are after enough = rw after.1 refl
  ids-again (source first later) zero rest are after enough = absurd (omega (arith, enough))
  ids-again (source first later) (suc steps) rest are after enough =
      ap (λ (z : List ℕ). sources_at (suc steps) (40 ∷ z)) (pair (identity_text first) (others_text later) rest)
      ∙ ap (option_and_then (λ (x : Identity × List ℕ). option_and_then (joined x.0) (others_at steps x.1))) (identity-again first steps (others_text later ++ rest) are.0 (after-later later rest) (omega (arith, enough)))
      ∙ ap (option_and_then (joined first)) (later-again later steps rest are.1 (omega (arith, enough)))

  pub later-again : (later : Sources) (steps : ℕ) (rest : List ℕ) → AreReadable later → need_others later ≤ steps → others_at steps (others_text later ++ rest) ≡ Some (later, rest)
  later-again no_sources zero rest are enough = absurd (omega (arith, enough))
  later-again no_sources (suc steps) rest are enough = refl
  later-again (source next later) zero rest are enough = absurd (omega (arith, enough))
  later-again (source next later) (suc steps) rest are enough =
      ap (λ (z : List ℕ). others_at (suc steps) (44 ∷ z)) (pair (identity_text next) (others_text later) rest)
      ∙ ap (option_and_then (λ (x : Identity × List ℕ). option_and_then (joined x.0) (others_at steps x.1))) (identity-again next steps (others_text later ++ rest) are.0 (after-later later rest) (omega (arith, enough)))
      ∙ ap (option_and_then (joined next)) (later-again later steps rest are.1 (omega (arith, enough)))

-- ---- only its text is read

pub record TakesIdentity (bytes : List ℕ) (id : Identity) (rest : List ℕ) : Type 0 where
  pub is : bytes ≡ identity_text id ++ rest
  pub valid : IsReadable id

pub record TakesSources (bytes text : List ℕ) (ids : Sources) (rest : List ℕ) : Type 0 where
  pub is : bytes ≡ text ++ rest
  pub valid : AreReadable ids

taken : (bytes : List ℕ) (x : Numbers) (y : Sources × List ℕ) (id : Identity) (rest : List ℕ) → TakesNumbers bytes x → TakesSources x.rest (sources_text y.0) y.0 y.1 → made x y ≡ Some (id, rest) → TakesIdentity bytes id rest
taken bytes x y id rest numbers ids e =
    let c = chosen (leb (nodes (identity x.t x.k x.n y.0)) MAX_NODES) (Some (identity x.t x.k x.n y.0, y.1)) (id, rest) e in
    let few : nodes (identity x.t x.k x.n y.0) ≤ MAX_NODES = leb-true _ MAX_NODES c.0 in
    let whole = numbers.is ∙ ap (λ (z : List ℕ). decimal x.t ++ 46 ∷ (decimal x.k ++ 46 ∷ (decimal x.n ++ z))) ids.is ∙ sym (regroup (decimal x.t) (decimal x.k) (decimal x.n) (sources_text y.0) y.1) in
    let one : TakesIdentity bytes (identity x.t x.k x.n y.0) y.1 = record { is = whole; valid = (numbers.t, (numbers.k, (numbers.n, (few, ids.valid)))) } in
    subst (λ (z : Identity × List ℕ). TakesIdentity bytes z.0 z.1) (some_is (identity x.t x.k x.n y.0, y.1) (id, rest) c.1) one

abbrev none_of : {A : Type 0} → A → Option A
none_of x = None

none_some : {A : Type 0} (x : A) → none_of x ≡ Some x → ⊥
none_some x e = cc

abbrev some_pair : Sources × List ℕ → Option (Sources × List ℕ)
some_pair x = Some x

grown : (text : Sources → List ℕ) (byte : ℕ) (bytes : List ℕ) (first : Identity) (under : List ℕ) (y : Sources × List ℕ) (ids : Sources) (rest : List ℕ) → ((s : Sources) → text (source first s) ≡ byte ∷ (identity_text first ++ (others_text s ++ [])))
    → TakesIdentity bytes first under → TakesSources under (others_text y.0) y.0 y.1 → joined first y ≡ Some (ids, rest) → TakesSources (byte ∷ bytes) (text ids) ids rest
grown text byte bytes first under y ids rest shape one later e =
    let whole : byte ∷ bytes ≡ (byte ∷ (identity_text first ++ (others_text y.0 ++ []))) ++ y.1 = ap (λ (z : List ℕ). byte ∷ z) (one.is ∙ ap (λ (z : List ℕ). identity_text first ++ z) later.is ∙ sym (pair (identity_text first) (others_text y.0) y.1)) in
    let all : TakesSources (byte ∷ bytes) (text (source first y.0)) (source first y.0) y.1 = record { is = whole ∙ ap (λ (z : List ℕ). z ++ y.1) (sym (shape y.0)); valid = (one.valid, later.valid) } in
    subst (λ (z : Sources × List ℕ). TakesSources (byte ∷ bytes) (text z.0) z.0 z.1) (some_is (source first y.0, y.1) (ids, rest) e) all

nothing : (text : Sources → List ℕ) (bytes : List ℕ) (front : List ℕ) (under : List ℕ) (ids : Sources) (rest : List ℕ) → text no_sources ≡ front → bytes ≡ front ++ under → some_pair (no_sources, under) ≡ Some (ids, rest) → TakesSources bytes (text ids) ids rest
nothing text bytes front under ids rest shape is e =
    let all : TakesSources bytes (text no_sources) no_sources under = record { is = is ∙ ap (λ (z : List ℕ). z ++ under) (sym shape); valid = tt } in
    subst (λ (z : Sources × List ℕ). TakesSources bytes (text z.0) z.0 z.1) (some_is (no_sources, under) (ids, rest) e) all

mutual
  unfolding identity_at

  pub identity-takes : (steps : ℕ) (bytes : List ℕ) (id : Identity) (rest : List ℕ) → identity_at steps bytes ≡ Some (id, rest) → TakesIdentity bytes id rest
  identity-takes zero bytes id rest e = absurd cc
  identity-takes (suc steps) bytes id rest e =
      let x = bind (λ (x : Numbers). option_and_then (made x) (sources_at steps x.rest)) (numbers_at bytes) (id, rest) e in
      let y = bind (made x.0) (sources_at steps x.0.rest) (id, rest) x.2 in
      taken bytes x.0 y.0 id rest (numbers-takes bytes x.0 x.1) (ids-takes steps x.0.rest y.0.0 y.0.1 y.1) y.2

  pub ids-takes : (steps : ℕ) (bytes : List ℕ) (ids : Sources) (rest : List ℕ) → sources_at steps bytes ≡ Some (ids, rest) → TakesSources bytes (sources_text ids) ids rest
  ids-takes zero bytes ids rest e = absurd cc
  ids-takes (suc steps) [] ids rest e = nothing sources_text [] [] [] ids rest refl refl e
  ids-takes (suc steps) (b ∷ bytes) ids rest e = elim (cases_Bool (eqb b 40)) [
    | inl is ↦
        let f = rw is at e in
        let x = bind (λ (x : Identity × List ℕ). option_and_then (joined x.0) (others_at steps x.1)) (identity_at steps bytes) (ids, rest) f in
        let y = bind (joined x.0.0) (others_at steps x.0.1) (ids, rest) x.2 in
        let all = grown sources_text 40 bytes x.0.0 x.0.1 y.0 ids rest (λ s. refl) (identity-takes steps bytes x.0.0 x.0.1 x.1) (later-takes steps x.0.1 y.0.0 y.0.1 y.1) y.2 in
        subst (λ (c : ℕ). TakesSources (c ∷ bytes) (sources_text ids) ids rest) (sym (eqb-true b 40 is)) all
    | inr other ↦
        let f = rw other at e in
        nothing sources_text (b ∷ bytes) [] (b ∷ bytes) ids rest refl refl f
  ]

  pub later-takes : (steps : ℕ) (bytes : List ℕ) (later : Sources) (rest : List ℕ) → others_at steps bytes ≡ Some (later, rest) → TakesSources bytes (others_text later) later rest
  later-takes zero bytes later rest e = absurd cc
  later-takes (suc steps) [] later rest e = absurd cc
  later-takes (suc steps) (b ∷ bytes) later rest e = elim (cases_Bool (eqb b 41)) [
    | inl is ↦
        let f = rw is at e in
        let all = nothing others_text (41 ∷ bytes) (41 ∷ []) bytes later rest refl refl f in
        subst (λ (c : ℕ). TakesSources (c ∷ bytes) (others_text later) later rest) (sym (eqb-true b 41 is)) all
    | inr other ↦ elim (cases_Bool (eqb b 44)) [
      | inl is ↦
          let f = rw (other, is) at e in
          let x = bind (λ (x : Identity × List ℕ). option_and_then (joined x.0) (others_at steps x.1)) (identity_at steps bytes) (later, rest) f in
          let y = bind (joined x.0.0) (others_at steps x.0.1) (later, rest) x.2 in
          let all = grown others_text 44 bytes x.0.0 x.0.1 y.0 later rest (λ s. refl) (identity-takes steps bytes x.0.0 x.0.1 x.1) (later-takes steps x.0.1 y.0.0 y.0.1 y.1) y.2 in
          subst (λ (c : ℕ). TakesSources (c ∷ bytes) (others_text later) later rest) (sym (eqb-true b 44 is)) all
      | inr no_one ↦ let f = rw (other, no_one) at e in absurd (none_some (later, rest) f)
    ]
  ]

-- three steps for each node
mutual
  pub need-nodes : (id : Identity) → need id + 1 ≡ 3 * nodes id
  need-nodes (identity t k n ids) = omega (arith, need_sources-nodes ids)

  pub need_sources-nodes : (ids : Sources) → need_sources ids ≡ 3 * nodes_in ids + 1
  need_sources-nodes no_sources = refl
  need_sources-nodes (source first later) = omega (arith, need-nodes first, need_others-nodes later)

  pub need_others-nodes : (later : Sources) → need_others later ≡ 3 * nodes_in later + 1
  need_others-nodes no_sources = refl
  need_others-nodes (source next later) = omega (arith, need-nodes next, need_others-nodes later)

-- ---- whole texts

nodes-few : (id : Identity) → IsReadable id → nodes id ≤ MAX_NODES
nodes-few (identity t k n ids) is = is.1.1.1.0

pub whole-again : (id : Identity) → IsReadable id → identity_of (identity_text id) ≡ Some id
whole-again id is =
    ap (λ (text : List ℕ). identity_of text) (sym (append-nil (identity_text id)))
    ∙ ap (option_and_then if_whole) (identity-again id most_steps [] is tt (omega (arith, need-nodes id, nodes-few id is)))

whole-is : (x : Identity × List ℕ) (id : Identity) → if_whole x ≡ Some id → (x.0 ≡ id) × (x.1 ≡ [])
whole-is (found, []) id e = (some_is found id e, refl)
whole-is (found, byte ∷ bytes) id e = absurd cc

pub record TakesWhole (text : List ℕ) (id : Identity) : Type 0 where
  pub is : text ≡ identity_text id
  pub valid : IsReadable id

pub whole-takes : (text : List ℕ) (id : Identity) → identity_of text ≡ Some id → TakesWhole text id
whole-takes text id e =
    let x = bind if_whole (identity_at most_steps text) id e in
    let w = whole-is x.0 id x.2 in
    let t = identity-takes most_steps text x.0.0 x.0.1 x.1 in
    let all : TakesWhole text x.0.0 = record { is = t.is ∙ ap (λ (rest : List ℕ). identity_text x.0.0 ++ rest) w.1 ∙ append-nil (identity_text x.0.0); valid = t.valid } in
    subst (λ (i : Identity). TakesWhole text i) w.0 all

-- ---- bytes

-- the bytes of an identity are digits, brackets, commas and dots
abbrev pub AreInside : List ℕ → Type 0
AreInside bytes = AllByRecursion (λ byte. (40 ≤ byte) × (byte ≤ 57)) bytes

inside-append : (xs ys : List ℕ) → AreInside xs → AreInside ys → AreInside (xs ++ ys)
inside-append [] ys a b = b
inside-append (x ∷ xs) ys a b = (a.0, inside-append xs ys a.1 b)

digits-inside : (ds : List ℕ) → are_digits ds ≡ true → AreInside ds
digits-inside [] all = tt
digits-inside (d ∷ ds) all =
    let p = and_parts (is_digit d) (are_digits ds) all in
    let q = and_parts (leb 48 d) (leb d 57) p.0 in
    ((omega (arith, leb-true 48 d q.0), leb-true d 57 q.1), digits-inside ds p.1)

part-inside : (n : ℕ) → IsPart n → AreInside (decimal n)
part-inside n is = digits-inside (decimal n) (digits_own n (omega (arith, is.1)))

mutual
  pub identity-inside : (id : Identity) → IsReadable id → AreInside (identity_text id)
  identity-inside (identity t k n ids) is =
      inside-append (decimal t) _ (part-inside t is.0) ((lit≤ tt, lit≤ tt), inside-append (decimal k) _ (part-inside k is.1.0) ((lit≤ tt, lit≤ tt), inside-append (decimal n) _ (part-inside n is.1.1.0) (inside-append (sources_text ids) [] (ids-inside ids is.1.1.1.1) tt)))

  ids-inside : (ids : Sources) → AreReadable ids → AreInside (sources_text ids)
  ids-inside no_sources are = tt
  ids-inside (source id ids) are = ((lit≤ tt, lit≤ tt), inside-append (identity_text id) _ (identity-inside id are.0) (inside-append (others_text ids) [] (later-inside ids are.1) tt))

  later-inside : (ids : Sources) → AreReadable ids → AreInside (others_text ids)
  later-inside no_sources are = ((lit≤ tt, lit≤ tt), tt)
  later-inside (source id ids) are = ((lit≤ tt, lit≤ tt), inside-append (identity_text id) _ (identity-inside id are.0) (inside-append (others_text ids) [] (later-inside ids are.1) tt))

inside-free : (stop : ℕ) (bytes : List ℕ) → stop < 40 → AreInside bytes → IsFree stop bytes
inside-free stop [] low are = tt
inside-free stop (b ∷ bytes) low are = (ne_eqb b stop (λ e. absurd (omega (arith, low, e, are.0.0))), inside-free stop bytes low are.1)

pub identity-free : (stop : ℕ) (id : Identity) → stop < 40 → IsReadable id → IsFree stop (identity_text id)
identity-free stop id low is = inside-free stop (identity_text id) low (identity-inside id is)
