-- A span that holds a version ends where its row is written next, and no other span of its identity holds the version.
use Rattle.std.proofs.Common.{◌≡◌, ℕ, ◌≤◌, true, false, cond, ◌&&◌, leb, ltb, List, [], ◌∷◌, Option, Some, None, IsSomeAnd, refl, ◌∙◌, arith}
use Rattle.std.specs.List.{AllByRecursion}
use Rattle.std.proofs.lemmas.Bool.{and_parts, leb-true, ltb-true, le-ltb, le-leb}
use Rattle.gp_base.specs.Identities.{same_identity}
use Rattle.gp_versions.specs.declared.span.Span.{Span}
use Rattle.gp_versions.specs.Spans.{holds_at, is_before_end, spans_at}
use Rattle.gp_versions.specs.TableSpans.{AreOfDifferentRows, AreWhole, IsApart, IsEndAbove, NoOverlap, later, later_end, least, written_after}
use Rattle.gp_versions.proofs.SameLemmas.{same-itself, same-sym}

begin-passed : (v from : ℕ) → from ≤ v → later v from ≡ None
begin-passed v from le = rw (le-ltb v from le) refl

-- a version that is there is at least this one
abbrev IsFrom : ℕ → Option ℕ → Type 0
IsFrom low None = Unit {0}
IsFrom low (Some e) = low ≤ e

least-from : (low : ℕ) (x y : Option ℕ) → IsFrom low x → IsFrom low y → IsFrom low (least x y)
least-from low None y left right = right
least-from low (Some a) None left right = left
least-from low (Some a) (Some b) left right = elim (leb a b) as (λ c. IsFrom low (cond c (Some a) (Some b))) [ true ↦ left | false ↦ right ]

begin-from : (low v from : ℕ) → low ≤ from → IsFrom low (later v from)
begin-from low v from le = elim (ltb v from) as (λ c. IsFrom low (cond c (Some from) None)) [ true ↦ le | false ↦ tt ]

end-from : (low v from : ℕ) (to : Option ℕ) → low ≤ from → IsEndAbove from to → IsFrom low (later_end v to)
end-from low v from None le above = tt
end-from low v from (Some to) le above = elim (ltb v to) as (λ c. IsFrom low (cond c (Some to) None)) [ true ↦ omega arith | false ↦ tt ]

-- what comes after an ended span of the identity comes at its end or later
rest-from : (first : Span) (to v : ℕ) (spans : List Span) → first.to ≡ Some to → AllByRecursion (IsApart first) spans → AreWhole spans → IsFrom to (written_after first.id v spans)
rest-from first to v [] is apart whole = tt
rest-from first to v (span ∷ spans) is apart whole =
    let rest = rest-from first to v spans is apart.1 whole.1 in
    elim (same_identity span.id first.id) as (λ c. same_identity span.id first.id ≡ c → IsFrom to (cond c (least (least (later v span.from) (later_end v span.to)) (written_after first.id v spans)) (written_after first.id v spans))) [
      | true ↦ λ same.
          let low : to ≤ span.from = rw is at (apart.0 (same-sym span.id first.id same)) in
          least-from to (least (later v span.from) (later_end v span.to)) (written_after first.id v spans) (least-from to (later v span.from) (later_end v span.to) (begin-from to v span.from low) (end-from to v span.from span.to low whole.0)) rest
      | false ↦ λ other. rest
    ] refl

-- behind an open span there is no other of its identity
rest-none : (first : Span) (v : ℕ) (spans : List Span) → first.to ≡ None → AllByRecursion (IsApart first) spans → written_after first.id v spans ≡ None
rest-none first v [] is apart = refl
rest-none first v (span ∷ spans) is apart =
    let rest = rest-none first v spans is apart.1 in
    elim (same_identity span.id first.id) as (λ c. same_identity span.id first.id ≡ c → cond c (least (least (later v span.from) (later_end v span.to)) (written_after first.id v spans)) (written_after first.id v spans) ≡ None) [
      | true ↦ λ same. absurd (rw is at (apart.0 (same-sym span.id first.id same)))
      | false ↦ λ other. rest
    ] refl

least-first : (to : ℕ) (w : Option ℕ) → IsFrom to w → least (Some to) w ≡ Some to
least-first to None above = refl
least-first to (Some e) above = rw (le-leb to e above) refl

head-end : (first : Span) (v : ℕ) (spans : List Span) (to : Option ℕ) → first.to ≡ to → is_before_end v to ≡ true → AllByRecursion (IsApart first) spans → AreWhole spans → least (later_end v to) (written_after first.id v spans) ≡ to
head-end first v spans None is before apart whole = rest-none first v spans is apart
head-end first v spans (Some to) is before apart whole = rw before (least-first to (written_after first.id v spans) (rest-from first to v spans is apart whole))

head-after : (v : ℕ) (first : Span) (spans : List Span) → holds_at v first ≡ true → AllByRecursion (IsApart first) spans → AreWhole spans → written_after first.id v (first ∷ spans) ≡ first.to
head-after v first spans held apart whole =
    let parts = and_parts (leb first.from v) (is_before_end v first.to) held in
    let itself = same-itself first.id in
    let passed = begin-passed v first.from (leb-true first.from v parts.0) in
    rw (itself, passed) (head-end first v spans first.to refl parts.1 apart whole)

-- an earlier span of the identity had ended
pub skip-end : (v low from : ℕ) (to : Option ℕ) → low ≤ v → IsEndAbove from to → IsSomeAnd to (λ end. end ≤ low) → least (later v from) (later_end v to) ≡ None
skip-end v low from None early above ended = absurd ended
skip-end v low from (Some to) early above ended = rw (le-ltb v from (omega arith), le-ltb v to (omega arith)) refl

skip-after : (v : ℕ) (first target : Span) (spans : List Span) → IsApart first target → IsEndAbove first.from first.to → holds_at v target ≡ true → written_after target.id v (first ∷ spans) ≡ written_after target.id v spans
skip-after v first target spans apart above held =
    let late = leb-true target.from v (and_parts (leb target.from v) (is_before_end v target.to) held).0 in
    elim (same_identity first.id target.id) as (λ c. same_identity first.id target.id ≡ c → cond c (least (least (later v first.from) (later_end v first.to)) (written_after target.id v spans)) (written_after target.id v spans) ≡ written_after target.id v spans) [
      | true ↦ λ same. rw (skip-end v target.from first.from first.to late above (apart same)) refl
      | false ↦ λ other. refl
    ] refl

abbrev EndNext : ℕ → List Span → List Span → Type 0
EndNext v spans some = AllByRecursion (λ (span : Span). written_after span.id v spans ≡ span.to) some

ends-more : (v : ℕ) (first : Span) (spans some : List Span) → AllByRecursion (IsApart first) some → IsEndAbove first.from first.to → EndNext v spans (spans_at v some) → EndNext v (first ∷ spans) (spans_at v some)
ends-more v first spans [] apart above ends = tt
ends-more v first spans (span ∷ some) apart above ends =
    elim (holds_at v span) as (λ c. holds_at v span ≡ c → EndNext v spans (cond c (span ∷ spans_at v some) (spans_at v some)) → EndNext v (first ∷ spans) (cond c (span ∷ spans_at v some) (spans_at v some))) [
      | true ↦ λ held ends. (skip-after v first span spans apart.0 above held ∙ ends.0, ends-more v first spans some apart.1 above ends.1)
      | false ↦ λ passed ends. ends-more v first spans some apart.1 above ends
    ] refl ends

-- each span that holds a version ends where its row is written next
pub held-end : (v : ℕ) (spans : List Span) → NoOverlap spans → AreWhole spans → EndNext v spans (spans_at v spans)
held-end v [] apart whole = tt
held-end v (span ∷ spans) apart whole =
    let rest = ends-more v span spans spans apart.0 whole.0 (held-end v spans apart.1 whole.1) in
    elim (holds_at v span) as (λ c. holds_at v span ≡ c → EndNext v (span ∷ spans) (cond c (span ∷ spans_at v spans) (spans_at v spans))) [
      | true ↦ λ held. (head-after v span spans held apart.0 whole.1, rest)
      | false ↦ λ passed. rest
    ] refl

-- ---- at most one span of an identity holds a version

not-both : (v from later_from : ℕ) (to later_to : Option ℕ) → IsSomeAnd to (λ end. end ≤ later_from) → (leb from v && is_before_end v to) ≡ true → (leb later_from v && is_before_end v later_to) ≡ true → ⊥
not-both v from later_from None later_to ended held holds = ended
not-both v from later_from (Some to) later_to ended held holds =
    let early = ltb-true v to (and_parts (leb from v) (ltb v to) held).1 in
    let late = leb-true later_from v (and_parts (leb later_from v) (is_before_end v later_to) holds).0 in
    absurd (omega arith)

apart-other : (v : ℕ) (first later : Span) → IsApart first later → holds_at v first ≡ true → holds_at v later ≡ true → same_identity first.id later.id ≡ false
apart-other v first later apart held holds =
    elim (same_identity first.id later.id) as (λ c. same_identity first.id later.id ≡ c → c ≡ false) [
      | true ↦ λ same. absurd (not-both v first.from later.from first.to later.to (apart same) held holds)
      | false ↦ λ other. refl
    ] refl

others-differ : (v : ℕ) (first : Span) (spans : List Span) → AllByRecursion (IsApart first) spans → holds_at v first ≡ true → AllByRecursion (λ (other : Span). same_identity first.id other.id ≡ false) (spans_at v spans)
others-differ v first [] apart held = tt
others-differ v first (span ∷ spans) apart held =
    let rest = others-differ v first spans apart.1 held in
    elim (holds_at v span) as (λ c. holds_at v span ≡ c → AllByRecursion (λ (other : Span). same_identity first.id other.id ≡ false) (cond c (span ∷ spans_at v spans) (spans_at v spans))) [
      | true ↦ λ holds. (apart-other v first span apart.0 held holds, rest)
      | false ↦ λ passed. rest
    ] refl

pub held-differ : (v : ℕ) (spans : List Span) → NoOverlap spans → AreOfDifferentRows (spans_at v spans)
held-differ v [] apart = tt
held-differ v (span ∷ spans) apart =
    let rest = held-differ v spans apart.1 in
    elim (holds_at v span) as (λ c. holds_at v span ≡ c → AreOfDifferentRows (cond c (span ∷ spans_at v spans) (spans_at v spans))) [
      | true ↦ λ held. (others-differ v span spans apart.0 held, rest)
      | false ↦ λ passed. rest
    ] refl
