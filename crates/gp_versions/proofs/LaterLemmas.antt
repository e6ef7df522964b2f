-- The least later version at which a span of an identity begins or ends.
use Rattle.std.proofs.Common.{◌≡◌, ℕ, ◌<◌, ◌≤◌, ◌⊎◌, true, false, cond, ltb, leb, List, [], ◌∷◌, Option, Some, None, IfSome, IsSomeAnd, refl, arith, inl, inr}
use Rattle.std.proofs.lemmas.Bool.{leb-false, leb-true, lt-ltb, ltb-true}
use Rattle.gp_base.specs.Identities.{Identity, same_identity}
use Rattle.gp_versions.specs.declared.span.Span.{Span}
use Rattle.gp_versions.specs.TableSpans.{IsChanged, later, later_end, least, written_after}

-- ---- what holds of both versions holds of the lesser

pub both-least : (P : ℕ → Type 0) (x y : Option ℕ) → IfSome x P → IfSome y P → IfSome (least x y) P
both-least P None y left right = right
both-least P (Some a) None left right = left
both-least P (Some a) (Some b) left right = elim (leb a b) as (λ c. IfSome (cond c (Some a) (Some b)) P) [ true ↦ left | false ↦ right ]

-- ---- above v

later-above : (v from : ℕ) → IfSome (later v from) (λ version. v < version)
later-above v from = elim (ltb v from) as (λ c. ltb v from ≡ c → IfSome (cond c (Some from) None) (λ version. v < version)) [ true ↦ λ is. ltb-true v from is | false ↦ λ is. tt ] refl

end-above : (v : ℕ) (to : Option ℕ) → IfSome (later_end v to) (λ version. v < version)
end-above v None = tt
end-above v (Some to) = later-above v to

pub after-above : (id : Identity) (v : ℕ) (spans : List Span) → IfSome (written_after id v spans) (λ version. v < version)
after-above id v [] = tt
after-above id v (span ∷ spans) =
    let P : ℕ → Type 0 = λ version. v < version in
    let rest = after-above id v spans in
    elim (same_identity span.id id) as (λ c. IfSome (cond c (least (least (later v span.from) (later_end v span.to)) (written_after id v spans)) (written_after id v spans)) P) [
      | true ↦ both-least P (least (later v span.from) (later_end v span.to)) (written_after id v spans) (both-least P (later v span.from) (later_end v span.to) (later-above v span.from) (end-above v span.to)) rest
      | false ↦ rest
    ]

-- ---- a span of the identity begins or ends there

later-is : (v from : ℕ) (P : ℕ → Type 0) → P from → IfSome (later v from) P
later-is v from P here = elim (ltb v from) as (λ c. IfSome (cond c (Some from) None) P) [ true ↦ here | false ↦ tt ]

end-is : (v : ℕ) (to : Option ℕ) (P : ℕ → Type 0) → ((version : ℕ) → to ≡ Some version → P version) → IfSome (later_end v to) P
end-is v None P here = tt
end-is v (Some to) P here = later-is v to P (here to refl)

behind-some : (P Q : ℕ → Type 0) (x : Option ℕ) → ((version : ℕ) → P version → Q version) → IfSome x P → IfSome x Q
behind-some P Q None implies some = tt
behind-some P Q (Some a) implies some = implies a some

pub after-changed : (id : Identity) (v : ℕ) (spans : List Span) → IfSome (written_after id v spans) (λ version. IsChanged id version spans)
after-changed id v [] = tt
after-changed id v (span ∷ spans) =
    let P : ℕ → Type 0 = λ version. IsChanged id version (span ∷ spans) in
    let rest = behind-some (λ version. IsChanged id version spans) P (written_after id v spans) (λ version changed. inr changed) (after-changed id v spans) in
    elim (same_identity span.id id) as (λ c. same_identity span.id id ≡ c → IfSome (cond c (least (least (later v span.from) (later_end v span.to)) (written_after id v spans)) (written_after id v spans)) P) [
      | true ↦ λ same. both-least P (least (later v span.from) (later_end v span.to)) (written_after id v spans)
          (both-least P (later v span.from) (later_end v span.to) (later-is v span.from P (inl (same, inl refl))) (end-is v span.to P (λ version is. inl (same, inr is)))) rest
      | false ↦ λ other. rest
    ] refl

-- ---- none is less

least-left : (other : ℕ) (x y : Option ℕ) → IsSomeAnd x (λ version. version ≤ other) → IsSomeAnd (least x y) (λ version. version ≤ other)
least-left other None y few = absurd few
least-left other (Some a) None few = few
least-left other (Some a) (Some b) few =
    elim (leb a b) as (λ c. leb a b ≡ c → IsSomeAnd (cond c (Some a) (Some b)) (λ version. version ≤ other)) [ true ↦ λ is. few | false ↦ λ is. omega (arith, leb-false a b is) ] refl

least-right : (other : ℕ) (x y : Option ℕ) → IsSomeAnd y (λ version. version ≤ other) → IsSomeAnd (least x y) (λ version. version ≤ other)
least-right other None y few = few
least-right other (Some a) None few = absurd few
least-right other (Some a) (Some b) few =
    elim (leb a b) as (λ c. leb a b ≡ c → IsSomeAnd (cond c (Some a) (Some b)) (λ version. version ≤ other)) [ true ↦ λ is. omega (arith, leb-true a b is) | false ↦ λ is. few ] refl

later-least : (v version other : ℕ) → v < other → version ≡ other → IsSomeAnd (later v version) (λ found. found ≤ other)
later-least v version other above is = rw (is, lt-ltb v other above) (omega arith)

end-least : (v : ℕ) (to : Option ℕ) (other : ℕ) → v < other → to ≡ Some other → IsSomeAnd (later_end v to) (λ version. version ≤ other)
end-least v to other above is = rw (is, lt-ltb v other above) (omega arith)

span-least : (v other : ℕ) (span : Span) → v < other → (span.from ≡ other) ⊎ (span.to ≡ Some other) → IsSomeAnd (least (later v span.from) (later_end v span.to)) (λ version. version ≤ other)
span-least v other span above (inl begins) = least-left other (later v span.from) (later_end v span.to) (later-least v span.from other above begins)
span-least v other span above (inr ends) = least-right other (later v span.from) (later_end v span.to) (end-least v span.to other above ends)

pub after-least : (id : Identity) (v other : ℕ) (spans : List Span) → v < other → IsChanged id other spans → IsSomeAnd (written_after id v spans) (λ version. version ≤ other)
after-least id v other [] above changed = absurd changed
after-least id v other (span ∷ spans) above (inl changed) =
    rw changed.0 (least-left other (least (later v span.from) (later_end v span.to)) (written_after id v spans) (span-least v other span above changed.1))
after-least id v other (span ∷ spans) above (inr changed) =
    let rest = after-least id v other spans above changed in
    elim (same_identity span.id id) as (λ c. IsSomeAnd (cond c (least (least (later v span.from) (later_end v span.to)) (written_after id v spans)) (written_after id v spans)) (λ version. version ≤ other)) [
      | true ↦ least-right other (least (later v span.from) (later_end v span.to)) (written_after id v spans) rest
      | false ↦ rest
    ]
