-- Lemmas of monomials: a greater token behind all others.
use Rattle.std.proofs.Common.{◌≡◌, ℕ, suc, ◌+◌, ◌-◌, ◌≤◌, true, [], ◌∷◌, ◌++◌, length, Some, None, refl, sym, ap, ◌∙◌, arith}
use Rattle.std.specs.Prelude.{slice_get}
use Rattle.std.specs.Ordering.{is_lt}
use Rattle.std.proofs.lemmas.Bool.{and_from}
use Rattle.std.specs.declared.cmp.Ordering.TheVariants.{Less}
use Rattle.std.specs.FinMap.{is_sorted}
use Rattle.std.specs.FinMap.Entries.{below_all}
use Rattle.gp_base.specs.declared.token.Token.{Token}
use Rattle.gp_base.specs.Tokens.{Monomial, token_cmp, greatest_count}
use Rattle.gp_base.specs.MonomialForms.{follows, IsToken, ArePowers, IsMonomial}
use Rattle.gp_base.specs.TokenOrder.{token_cmp_total}
use Rattle.gp_base.proofs.MonomialLemmas.{IsBelow, less_is, first_below, others_below, below_both, first_ascending, others_ascending}

pub follows-last : (token : Token) (pairs : Monomial) (last : Token × ℕ) → slice_get pairs (length pairs - 1) ≡ Some last → follows token pairs ≡ is_lt (token_cmp last.0 token)
follows-last token [] last is = absurd cc
follows-last token (pair ∷ []) last is = let same : pair ≡ last = cc in ap (λ (p : Token × ℕ). is_lt (token_cmp p.0 token)) same
follows-last token (pair ∷ next ∷ pairs) last is =
    let place : length (pair ∷ next ∷ pairs) - 1 ≡ suc (length (next ∷ pairs) - 1) = omega arith in
    follows-last token (next ∷ pairs) last (sym (ap (slice_get (pair ∷ next ∷ pairs)) place) ∙ is)

pub follows-none : (token : Token) (pairs : Monomial) → slice_get pairs (length pairs - 1) ≡ None → follows token pairs ≡ true
follows-none token [] is = refl
follows-none token (pair ∷ []) is = absurd cc
follows-none token (pair ∷ next ∷ pairs) is =
    let place : length (pair ∷ next ∷ pairs) - 1 ≡ suc (length (next ∷ pairs) - 1) = omega arith in
    follows-none token (next ∷ pairs) (sym (ap (slice_get (pair ∷ next ∷ pairs)) place) ∙ is)

-- a token below all of a list, and below one behind it
below_push : (token other : Token) (count : ℕ) (pairs : Monomial) → IsBelow token pairs → token_cmp token other ≡ Less → IsBelow token (pairs ++ (other, count) ∷ [])
below_push token other count [] below less = below_both token (other, count) [] less refl
below_push token other count (pair ∷ pairs) below less =
    below_both token pair (pairs ++ (other, count) ∷ []) (first_below token pair pairs below) (below_push token other count pairs (others_below token pair pairs below) less)

-- a token above the last is above the first
first_less : (token : Token) (pair : Token × ℕ) (pairs : Monomial) → is_sorted token_cmp (pair ∷ pairs) ≡ true → follows token (pair ∷ pairs) ≡ true → token_cmp pair.0 token ≡ Less
first_less token pair [] sorted is = less_is _ is
first_less token pair (next ∷ pairs) sorted is =
    token_cmp_total.trans pair.0 next.0 token (first_below pair.0 next pairs (first_ascending pair (next ∷ pairs) sorted)) (first_less token next pairs (others_ascending pair (next ∷ pairs) sorted) is)

later_follows : (token : Token) (pair : Token × ℕ) (pairs : Monomial) → follows token (pair ∷ pairs) ≡ true → follows token pairs ≡ true
later_follows token pair [] is = refl
later_follows token pair (next ∷ pairs) is = is

sorted_push : (token : Token) (count : ℕ) (pairs : Monomial) → is_sorted token_cmp pairs ≡ true → follows token pairs ≡ true → is_sorted token_cmp (pairs ++ (token, count) ∷ []) ≡ true
sorted_push token count [] sorted is = refl
sorted_push token count (pair ∷ pairs) sorted is =
    and_from (below_all token_cmp pair.0 (pairs ++ (token, count) ∷ [])) (is_sorted token_cmp (pairs ++ (token, count) ∷ []))
    (below_push pair.0 token count pairs (first_ascending pair pairs sorted) (first_less token pair pairs sorted is))
    (sorted_push token count pairs (others_ascending pair pairs sorted) (later_follows token pair pairs is))

powers_push : (token : Token) (count : ℕ) (pairs : Monomial) → ArePowers pairs → IsToken token → 1 ≤ count → count ≤ greatest_count → ArePowers (pairs ++ (token, count) ∷ [])
powers_push token count [] are is some few = ((is, (some, few)), tt)
powers_push token count (pair ∷ pairs) are is some few = (are.0, powers_push token count pairs are.1 is some few)

pub IsMonomial_push : (token : Token) (count : ℕ) (pairs : Monomial) → IsMonomial pairs → follows token pairs ≡ true → IsToken token → 1 ≤ count → count ≤ greatest_count → IsMonomial (pairs ++ (token, count) ∷ [])
IsMonomial_push token count pairs valid is token_is some few = record { sorted = sorted_push token count pairs valid.sorted is; powers = powers_push token count pairs valid.powers token_is some few }

pub ruleset lasts = (follows-last, follows-none)
