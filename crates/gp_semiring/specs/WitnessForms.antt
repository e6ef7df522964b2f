-- Of the contract of `sets` and of the law `witnesses_are_minimal`: sets of witnesses in their order.
use Rattle.std.specs.Prelude.{◌≡◌, true, ◌⊎◌, List, [], ◌∷◌, map, IsTrue}
use Rattle.std.specs.Cmp.Lexicographic.{slice_cmp}
use Rattle.std.specs.declared.cmp.Ordering.{Ordering}
use Rattle.std.specs.FinMap.{is_sorted}
use Rattle.gp_semiring.specs.SumForms.{Each, IsSum}
use Rattle.gp_semiring.specs.Witnesses.{is_within}
use Rattle.gp_base.specs.Tokens.{greatest_count, monomial_cmp}
use Rattle.gp_base.specs.MonomialForms.{IsMonomial}
use Rattle.gp_semiring.specs.Polynomials.{Terms}

-- one of the items
abbrev pub In : {X : Type 0} → X → List X → Type 0
In x [] = ⊥
In x (y ∷ ys) = (x ≡ y) ⊎ In x ys

abbrev pub tagged : {X : Type 0} → List X → List (X × Unit {0})
tagged xs = map (λ x. (x, tt)) xs

module _ {X : Type 0} (R : X → X → Ordering) where
  -- the items strictly rise
  abbrev pub IsRising : List X → Type 0
  IsRising xs = IsTrue (is_sorted R (tagged xs))

module _ {X : Type 0} (R : X → X → Ordering) where
  -- sets in ascending order, of which none contains another
  pub record IsWitness (sets : List (List X)) : Type 0 where
    pub rising : IsRising (slice_cmp R) sets
    pub each : Each (IsRising R) sets
    pub apart : (s t : List X) → In s sets → In t sets → is_within R s t ≡ true → s ≡ t

abbrev pub IsPolynomial : Terms → Type 0
IsPolynomial = IsSum monomial_cmp IsMonomial greatest_count
