-- Row lines in their places are spans that never overlap and that are empty nowhere.
use Rattle.gp_dump.proofs.Prelude.{◌≡◌, ◌⊎◌, inl, inr, ℕ, ◌<◌, ◌≤◌, Bool, true, false, ◌||◌, List, [], ◌∷◌, Option, Some, None, IsSomeAnd, refl, sym, ap, subst, ◌∙◌, arith, leb, ltb, AllByRecursion, is_eq, is_lt, Less, false≢true, leb-true, ltb-true, and_parts, Column, identity_cmp, same_identity, identity_cmp_total, same_identity-is, Span, AreWhole, IsApart, IsEndAbove, NoOverlap}
use Rattle.gp_versions.proofs.SameLemmas.{same-exact}
use Rattle.gp_dump.specs.Dumps.{ends_within, has_ended_by, is_after, is_in_place, is_next}
use Rattle.gp_dump.specs.WholeDumps.{AreInPlace}
use Rattle.gp_base.proofs.MonomialLemmas.{less_is}

-- ---- tests

either-true : (a b : Bool) → (a || b) ≡ true → (a ≡ true) ⊎ (b ≡ true)
either-true true b is = inl refl
either-true false b is = inr is

-- ---- the order of row lines

-- a span of a greater identity, or a later one of the same row
abbrev pub Follows : Span → Span → Type 0
Follows last span = (identity_cmp last.id span.id ≡ Less) ⊎ ((last.id ≡ span.id) × ((last.from < span.from) × IsSomeAnd last.to (λ to. to ≤ span.from)))

ended-by : (to : Option ℕ) (version : ℕ) → has_ended_by to version ≡ true → IsSomeAnd to (λ end. end ≤ version)
ended-by None version is = absurd (false≢true is)
ended-by (Some to) version is = leb-true to version is

pub follows-after : (last span : Span) → is_after last span ≡ true → Follows last span
follows-after last span is = elim (either-true (is_lt (identity_cmp last.id span.id)) _ is) [
  | inl less ↦ inl (less_is (identity_cmp last.id span.id) less)
  | inr later ↦
      let a = and_parts (same_identity last.id span.id) _ later in
      let b = and_parts (ltb last.from span.from) _ a.1 in
      inr (same-exact last.id span.id a.0, (ltb-true last.from span.from b.0, ended-by last.to span.from b.1))
]

ended-before : (to : Option ℕ) (version next : ℕ) → version ≤ next → IsSomeAnd to (λ end. end ≤ version) → IsSomeAnd to (λ end. end ≤ next)
ended-before None version next rises is = absurd is
ended-before (Some to) version next rises is = omega (arith, is, rises)

pub follows-trans : (first second third : Span) → Follows first second → Follows second third → Follows first third
follows-trans first second third (inl a) (inl b) = inl (identity_cmp_total.trans first.id second.id third.id a b)
follows-trans first second third (inl a) (inr b) = inl (subst (λ id. identity_cmp first.id id ≡ Less) b.0 a)
follows-trans first second third (inr a) (inl b) = inl (subst (λ id. identity_cmp id third.id ≡ Less) (sym a.0) b)
follows-trans first second third (inr a) (inr b) = inr (a.0 ∙ b.0, (omega (arith, a.1.0, b.1.0), ended-before first.to second.from third.from (omega (arith, b.1.0)) a.1.1))

pub follows-apart : (first later : Span) → Follows first later → IsApart first later
follows-apart first later (inl less) same = absurd (false≢true (sym (same_identity-is first.id later.id ∙ ap is_eq less) ∙ same))
follows-apart first later (inr later-is) same = later-is.1.1

-- ---- whole tables

all-follow : (last span : Span) (spans : List Span) → Follows last span → AllByRecursion (Follows span) spans → AllByRecursion (Follows last) spans
all-follow last span [] first all = tt
all-follow last span (next ∷ spans) first all = (follows-trans last span next first all.0, all-follow last span spans first all.1)

pub place-last : (versions : ℕ) (before : List Span) (span : Span) → is_in_place versions before span ≡ true → leb span.from versions ≡ true
place-last versions before span is = (and_parts (leb span.from versions) _ (and_parts (leb 1 span.from) _ is).1).0

pub place-end : (versions : ℕ) (before : List Span) (span : Span) → is_in_place versions before span ≡ true → ends_within versions span.from span.to ≡ true
place-end versions before span is = (and_parts (ends_within versions span.from span.to) _ (and_parts (leb span.from versions) _ (and_parts (leb 1 span.from) _ is).1).1).0

pub place-next : (versions : ℕ) (before : List Span) (span : Span) → is_in_place versions before span ≡ true → is_next before span ≡ true
place-next versions before span is = (and_parts (ends_within versions span.from span.to) _ (and_parts (leb span.from versions) _ (and_parts (leb 1 span.from) _ is).1).1).1

-- all row lines behind one follow it
pub rows-follow : (cols : List Column) (versions : ℕ) (before : List Span) (last : Span) (spans : List Span) → AreInPlace cols versions (last ∷ before) spans → AllByRecursion (Follows last) spans
rows-follow cols versions before last [] all = tt
rows-follow cols versions before last (span ∷ spans) all =
    let first : Follows last span = follows-after last span (place-next versions (last ∷ before) span all.0.place) in
    (first, all-follow last span spans first (rows-follow cols versions (last ∷ before) span spans all.1))

all-apart : (span : Span) (spans : List Span) → AllByRecursion (Follows span) spans → AllByRecursion (IsApart span) spans
all-apart span [] all = tt
all-apart span (next ∷ spans) all = (follows-apart span next all.0, all-apart span spans all.1)

whole-end : (versions from : ℕ) (to : Option ℕ) → ends_within versions from to ≡ true → IsEndAbove from to
whole-end versions from None is = tt
whole-end versions from (Some to) is = ltb-true from to (and_parts (ltb from to) _ is).0

pub place-whole : (versions : ℕ) (before : List Span) (span : Span) → is_in_place versions before span ≡ true → IsEndAbove span.from span.to
place-whole versions before span is = whole-end versions span.from span.to (place-end versions before span is)

rows-apart : (cols : List Column) (versions : ℕ) (before spans : List Span) → AreInPlace cols versions before spans → NoOverlap spans
rows-apart cols versions before [] all = tt
rows-apart cols versions before (span ∷ spans) all =
    (all-apart span spans (rows-follow cols versions before span spans all.1), rows-apart cols versions (span ∷ before) spans all.1)

rows-whole : (cols : List Column) (versions : ℕ) (before spans : List Span) → AreInPlace cols versions before spans → AreWhole spans
rows-whole cols versions before [] all = tt
rows-whole cols versions before (span ∷ spans) all = (place-whole versions before span all.0.place, rows-whole cols versions (span ∷ before) spans all.1)

-- what a table of versions needs of its spans
pub in-place-apart : (cols : List Column) (versions : ℕ) (before spans : List Span) → AreInPlace cols versions before spans → NoOverlap spans × AreWhole spans
in-place-apart cols versions before spans all = (rows-apart cols versions before spans all, rows-whole cols versions before spans all)
