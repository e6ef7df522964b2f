-- Row lines: which columns can hold them, which spans can be one after another, and why the spans of a table never overlap.
use Rattle.gp_dump.proofs.Prelude.{◌≡◌, ℕ, true, false, ◌&&◌, List, [], ◌∷◌, ◌++◌, length, reverse, Some, refl, sym, ap, subst, ◌∙◌, AllByRecursion, is_eq, Less, Equal, Greater, reverse-append, reverse-reverse, Table, identity_cmp, same_identity, same_identity-is, Entry, versions_in, tables_in, Span, AreWhole, IsApart, IsEndAbove, NoOverlap}
use Rattle.std.specs.Prelude.{nat_lt, slice_get}
use Rattle.gp_dump.specs.Dumps.{has_ended_by, is_after, is_in_place}
use Rattle.gp_dump.specs.Reading.{AreDue}
use Rattle.gp_dump.specs.Verdicts.{cols_of}
use Rattle.gp_dump.proofs.PlaceLemmas.{Follows, follows-after, follows-apart, follows-trans, place-next, place-whole}

-- ---- the order of row lines

pub after-less : (last span : Span) → identity_cmp last.id span.id ≡ Less → is_after last span ≡ true
after-less last span is = rw is refl

pub after-equal : (last span : Span) → identity_cmp last.id span.id ≡ Equal → is_after last span ≡ (nat_lt last.from span.from && has_ended_by last.to span.from)
after-equal last span is =
    let same : same_identity last.id span.id ≡ true = same_identity-is last.id span.id ∙ ap is_eq is in
    rw (is, same) refl

pub after-greater : (last span : Span) → identity_cmp last.id span.id ≡ Greater → is_after last span ≡ false
after-greater last span is =
    let other : same_identity last.id span.id ≡ false = same_identity-is last.id span.id ∙ ap is_eq is in
    rw (is, other) refl

pub ruleset orders = (after-less, after-equal, after-greater)

-- ---- the spans of a table

-- each span is in its place behind those before; the last one is first
abbrev pub ArePlaced : ℕ → List Span → Type 0
ArePlaced versions [] = Unit {0}
ArePlaced versions (span ∷ before) = (is_in_place versions before span ≡ true) × ArePlaced versions before

all-before : (versions : ℕ) (before : List Span) (span : Span) → is_in_place versions before span ≡ true → ArePlaced versions before → AllByRecursion (λ (earlier : Span). Follows earlier span) before
all-before versions [] span here placed = tt
all-before versions (last ∷ before) span here placed =
    let first : Follows last span = follows-after last span (place-next versions (last ∷ before) span here) in
    (first, all-trans before (all-before versions before last placed.0 placed.1) first)
  where
    all-trans : (earlier : List Span) → AllByRecursion (λ (one : Span). Follows one last) earlier → Follows last span → AllByRecursion (λ (one : Span). Follows one span) earlier
    all-trans [] all first = tt
    all-trans (one ∷ earlier) all first = (follows-trans one last span all.0 first, all-trans earlier all.1 first)

-- what holds of each span holds of each with one more behind
all-push : (P : Span → Type 0) (spans : List Span) (span : Span) → AllByRecursion P spans → P span → AllByRecursion P (spans ++ span ∷ [])
all-push P [] span all here = (here, tt)
all-push P (first ∷ spans) span all here = (all.0, all-push P spans span all.1 here)

all-reverse : (P : Span → Type 0) (spans : List Span) → AllByRecursion P spans → AllByRecursion P (reverse spans)
all-reverse P [] all = tt
all-reverse P (span ∷ spans) all = rw (reverse-append (span ∷ []) spans) (all-push P (reverse spans) span (all-reverse P spans all.1) all.0)

push-apart : (spans : List Span) (span : Span) → NoOverlap spans → AllByRecursion (λ (earlier : Span). IsApart earlier span) spans → NoOverlap (spans ++ span ∷ [])
push-apart [] span apart all = (tt, tt)
push-apart (first ∷ spans) span apart all = (all-push (IsApart first) spans span apart.0 all.0, push-apart spans span apart.1 all.1)

follow-apart : (spans : List Span) (span : Span) → AllByRecursion (λ (earlier : Span). Follows earlier span) spans → AllByRecursion (λ (earlier : Span). IsApart earlier span) spans
follow-apart [] span all = tt
follow-apart (first ∷ spans) span all = (follows-apart first span all.0, follow-apart spans span all.1)

reverse-apart : (versions : ℕ) (before : List Span) → ArePlaced versions before → NoOverlap (reverse before)
reverse-apart versions [] placed = tt
reverse-apart versions (span ∷ before) placed =
    rw (reverse-append (span ∷ []) before)
    (push-apart (reverse before) span (reverse-apart versions before placed.1)
    (all-reverse (λ (earlier : Span). IsApart earlier span) before (follow-apart before span (all-before versions before span placed.0 placed.1))))

all-whole : (versions : ℕ) (before : List Span) → ArePlaced versions before → AreWhole before
all-whole versions [] placed = tt
all-whole versions (span ∷ before) placed = (place-whole versions before span placed.0, all-whole versions before placed.1)

-- what a table of versions needs of its spans
pub placed-apart : (versions : ℕ) (spans : List Span) → ArePlaced versions (reverse spans) → NoOverlap spans
placed-apart versions spans placed = subst NoOverlap (reverse-reverse spans) (reverse-apart versions (reverse spans) placed)

pub placed-whole : (versions : ℕ) (spans : List Span) → ArePlaced versions (reverse spans) → AreWhole spans
placed-whole versions spans placed =
    subst AreWhole (reverse-reverse spans) (all-reverse (λ (span : Span). IsEndAbove span.from span.to) (reverse spans) (all-whole versions (reverse spans) placed))

pub placed-push : (versions : ℕ) (spans : List Span) (span : Span) → ArePlaced versions (reverse spans) → is_in_place versions (reverse spans) span ≡ true → ArePlaced versions (reverse (spans ++ span ∷ []))
placed-push versions spans span placed here = rw (reverse-append spans (span ∷ [])) (here, placed)

pub ruleset row_steps = (placed-push, placed-apart, placed-whole)

-- ---- the table that is due

pub are-due : (log : List Entry) (tables : List (List Span)) (table : Table) (versions : ℕ) → slice_get (tables_in log) (length tables) ≡ Some table → versions ≡ versions_in log → AreDue table.cols versions log tables
are-due log tables table versions found same = (sym (ap cols_of found), same)
