-- Lemmas of monomials: a product of monomials is a monomial.
use Rattle.std.proofs.Common.{◌≡◌, ℕ, ◌+◌, ◌≤◌, [], ◌∷◌, refl, sym, ap, ◌∙◌, subst, true, arith}
use Rattle.std.specs.Prelude.{min}
use Rattle.std.specs.Ordering.{is_lt, ordering_reverse}
use Rattle.std.specs.Cmp.{first_so, second_so}
use Rattle.std.proofs.lemmas.Bool.{and_from}
use Rattle.std.specs.declared.cmp.Ordering.{Ordering}
use Rattle.std.specs.declared.cmp.Ordering.TheVariants.{Less, Equal, Greater}
use Rattle.std.specs.FinMap.{is_sorted}
use Rattle.std.specs.FinMap.Entries.{by_order, below_all}
use Rattle.gp_base.specs.declared.token.Token.{Token}
use Rattle.gp_base.specs.Tokens.{Monomial, token_cmp, times, times_from, greatest_count}
use Rattle.gp_base.specs.MonomialForms.{IsPower, ArePowers, IsMonomial}
use Rattle.gp_base.specs.TokenOrder.{token_cmp_total, token_cmp-exact}

-- the token is less than each of the monomial
abbrev pub IsBelow : Token → Monomial → Type 0
IsBelow token pairs = below_all token_cmp token pairs ≡ true

abbrev IsAscending : Monomial → Type 0
IsAscending pairs = is_sorted token_cmp pairs ≡ true

pub less_is : (o : Ordering) → is_lt o ≡ true → o ≡ Less
less_is Less e = refl
less_is Equal e = absurd cc
less_is Greater e = absurd cc

-- the first of them and the others
pub first_below : (token : Token) (pair : Token × ℕ) (pairs : Monomial) → IsBelow token (pair ∷ pairs) → token_cmp token pair.0 ≡ Less
first_below token pair pairs below = less_is _ (first_so (is_lt (token_cmp token pair.0)) (below_all token_cmp token pairs) below)

pub others_below : (token : Token) (pair : Token × ℕ) (pairs : Monomial) → IsBelow token (pair ∷ pairs) → IsBelow token pairs
others_below token pair pairs below = second_so (is_lt (token_cmp token pair.0)) (below_all token_cmp token pairs) below

pub below_both : (token : Token) (pair : Token × ℕ) (pairs : Monomial) → token_cmp token pair.0 ≡ Less → IsBelow token pairs → IsBelow token (pair ∷ pairs)
below_both token pair pairs less below = and_from (is_lt (token_cmp token pair.0)) (below_all token_cmp token pairs) (ap is_lt less) below

-- a lesser token is less than them too
pub lesser_below : (token other : Token) (pairs : Monomial) → token_cmp token other ≡ Less → IsBelow other pairs → IsBelow token pairs
lesser_below token other [] less below = refl
lesser_below token other (pair ∷ pairs) less below =
    below_both token pair pairs (token_cmp_total.trans token other pair.0 less (first_below other pair pairs below)) (lesser_below token other pairs less (others_below other pair pairs below))

pub turned : (token other : Token) → token_cmp token other ≡ Greater → token_cmp other token ≡ Less
turned token other greater = token_cmp_total.antisymm other token ∙ ap ordering_reverse greater

-- a token below both is below their product
below_times_from : (token : Token) (pair : Token × ℕ) (rest : Monomial → Monomial) → token_cmp token pair.0 ≡ Less → ((others : Monomial) → IsBelow token others → IsBelow token (rest others))
    → (others : Monomial) → IsBelow token others → IsBelow token (times_from pair rest others)
below_times_from token pair rest less step [] below = below_both token pair (rest []) less (step [] refl)
below_times_from token pair rest less step (other ∷ others) below =
    elim (token_cmp pair.0 other.0) as (λ o. IsBelow token (by_order o (pair ∷ rest (other ∷ others)) ((pair.0, min (pair.1 + other.1) greatest_count) ∷ rest others) (other ∷ times_from pair rest others))) [
      | Less ↦ below_both token pair (rest (other ∷ others)) less (step (other ∷ others) below)
      | Equal ↦ below_both token pair (rest others) less (step others (others_below token other others below))
      | Greater ↦ below_both token other (times_from pair rest others) (first_below token other others below) (below_times_from token pair rest less step others (others_below token other others below))
    ]

pub below_times : (token : Token) (pairs others : Monomial) → IsBelow token pairs → IsBelow token others → IsBelow token (times pairs others)
below_times token [] others below under = under
below_times token (pair ∷ pairs) others below under =
    below_times_from token pair (times pairs) (first_below token pair pairs below) (λ more low. below_times token pairs more (others_below token pair pairs below) low) others under

pub first_ascending : (pair : Token × ℕ) (pairs : Monomial) → IsAscending (pair ∷ pairs) → IsBelow pair.0 pairs
first_ascending pair pairs ascending = first_so (below_all token_cmp pair.0 pairs) (is_sorted token_cmp pairs) ascending

pub others_ascending : (pair : Token × ℕ) (pairs : Monomial) → IsAscending (pair ∷ pairs) → IsAscending pairs
others_ascending pair pairs ascending = second_so (below_all token_cmp pair.0 pairs) (is_sorted token_cmp pairs) ascending

ascending_both : (pair : Token × ℕ) (pairs : Monomial) → IsBelow pair.0 pairs → IsAscending pairs → IsAscending (pair ∷ pairs)
ascending_both pair pairs below ascending = and_from (below_all token_cmp pair.0 pairs) (is_sorted token_cmp pairs) below ascending

-- one pair before an ascending list
module _ (pair : Token × ℕ) (pairs : Monomial) (below : IsBelow pair.0 pairs) (step : (others : Monomial) → IsAscending others → IsAscending (times pairs others)) where
  ascending_times_from : (others : Monomial) → IsAscending others → IsAscending (times_from pair (times pairs) others)
  ascending_times_from [] ascending = ascending_both pair (times pairs []) (below_times pair.0 pairs [] below refl) (step [] ascending)
  ascending_times_from (other ∷ others) ascending =
      let under = first_ascending other others ascending in
      let later = others_ascending other others ascending in
      elim (token_cmp pair.0 other.0) as (λ o. token_cmp pair.0 other.0 ≡ o → IsAscending (by_order o (pair ∷ times pairs (other ∷ others)) ((pair.0, min (pair.1 + other.1) greatest_count) ∷ times pairs others) (other ∷ times_from pair (times pairs) others))) [
        | Less ↦ λ less. ascending_both pair (times pairs (other ∷ others)) (below_times pair.0 pairs (other ∷ others) below (below_both pair.0 other others less (lesser_below pair.0 other.0 others less under))) (step (other ∷ others) ascending)
        | Equal ↦ λ tie. ascending_both (pair.0, min (pair.1 + other.1) greatest_count) (times pairs others) (below_times pair.0 pairs others below (subst (λ token. IsBelow token others) (sym (token_cmp-exact pair.0 other.0 tie)) under)) (step others later)
        | Greater ↦ λ greater. ascending_both other (times_from pair (times pairs) others)
            (below_times other.0 (pair ∷ pairs) others (below_both other.0 pair pairs (turned pair.0 other.0 greater) (lesser_below other.0 pair.0 pairs (turned pair.0 other.0 greater) below)) under) (ascending_times_from others later)
      ] refl

ascending_times : (pairs others : Monomial) → IsAscending pairs → IsAscending others → IsAscending (times pairs others)
ascending_times [] others ascending rising = rising
ascending_times (pair ∷ pairs) others ascending rising =
    ascending_times_from pair pairs (first_ascending pair pairs ascending) (λ more up. ascending_times pairs more (others_ascending pair pairs ascending) up) others rising

counts_added : (pair other : Token × ℕ) → IsPower pair → IsPower other → IsPower (pair.0, min (pair.1 + other.1) greatest_count)
counts_added pair other power more = (power.0, (some, omega arith))
  where
    some : 1 ≤ min (pair.1 + other.1) greatest_count
    some = omega (arith, power.1.0)

powers_times_from : (pair : Token × ℕ) (rest : Monomial → Monomial) → IsPower pair → ((others : Monomial) → ArePowers others → ArePowers (rest others)) → (others : Monomial) → ArePowers others → ArePowers (times_from pair rest others)
powers_times_from pair rest power step [] powers = (power, step [] tt)
powers_times_from pair rest power step (other ∷ others) powers =
    elim (token_cmp pair.0 other.0) as (λ o. ArePowers (by_order o (pair ∷ rest (other ∷ others)) ((pair.0, min (pair.1 + other.1) greatest_count) ∷ rest others) (other ∷ times_from pair rest others))) [
      | Less ↦ (power, step (other ∷ others) powers)
      | Equal ↦ (counts_added pair other power powers.0, step others powers.1)
      | Greater ↦ (powers.0, powers_times_from pair rest power step others powers.1)
    ]

powers_times : (pairs others : Monomial) → ArePowers pairs → ArePowers others → ArePowers (times pairs others)
powers_times [] others powers more = more
powers_times (pair ∷ pairs) others powers more = powers_times_from pair (times pairs) powers.0 (λ others some. powers_times pairs others powers.1 some) others more

pub IsMonomial-times : (pairs others : Monomial) → IsMonomial pairs → IsMonomial others → IsMonomial (times pairs others)
IsMonomial-times pairs others valid other =
    record { sorted = ascending_times pairs others valid.sorted other.sorted; powers = powers_times pairs others valid.powers other.powers }
