-- Part of the statement: the tokens of provenance polynomials, and monomials: finite products of tokens, each with its count (Green,
-- Karvounarakis and Tannen 2007). Their counts stop at the greatest number of 64 bits.
use Rattle.std.specs.Prelude.{ℕ, ◌+◌, ◌&&◌, nat_le, min, Bool, List, [], ◌∷◌, codes, if◌then◌else◌, ◌==◌}
use Rattle.std.specs.List.{concat}
use Rattle.std.specs.Fmt.{decimal}
use Rattle.std.specs.Ordering.{nat_cmp, ordering_then, on, then_cmp}
use Rattle.std.specs.declared.cmp.Ordering.{Ordering}
use Rattle.std.specs.declared.cmp.Ordering.TheVariants.{Less, Greater}
use Rattle.std.specs.Cmp.Lexicographic.{slice_cmp}
use Rattle.std.specs.FinMap.Entries.{by_order}
use Rattle.gp_base.specs.Writing.{joined_texts}
use Rattle.gp_base.specs.declared.token.Token.{Token}
use Rattle.gp_base.specs.declared.token.Token.TheVariants.{Inserted, Queried, Updated}

-- by kind, in this order, then by transaction, statement and row
abbrev pub token_cmp : Token → Token → Ordering
token_cmp (Inserted t k n) (Inserted u l m) = ordering_then (nat_cmp t u) (ordering_then (nat_cmp k l) (nat_cmp n m))
token_cmp (Inserted t k n) other = Less
token_cmp token (Inserted u l m) = Greater
token_cmp (Queried t k) (Queried u l) = ordering_then (nat_cmp t u) (nat_cmp k l)
token_cmp (Queried t k) (Updated u l) = Less
token_cmp (Updated t k) (Queried u l) = Greater
token_cmp (Updated t k) (Updated u l) = ordering_then (nat_cmp t u) (nat_cmp k l)

-- a number of 32 bits
abbrev pub is_u32 : ℕ → Bool
is_u32 n = nat_le n 0xffff_ffff

-- a token whose numbers have 32 bits
abbrev pub is_token : Token → Bool
is_token (Inserted t k n) = is_u32 t && (is_u32 k && is_u32 n)
is_token (Queried t k) = is_u32 t && is_u32 k
is_token (Updated t k) = is_u32 t && is_u32 k

-- a count of 64 bits stops there
abbrev pub greatest_count : ℕ
greatest_count = 0xffff_ffff_ffff_ffff

-- tokens in ascending order, each with its count
abbrev pub Monomial : Type 0
Monomial = List (Token × ℕ)

-- the product of no tokens
abbrev pub one : Monomial
one = []

-- one token
abbrev pub once : Token → Monomial
once token = (token, 1) ∷ []

-- a pair of the one monomial merged with the other, where `rest` multiplies what follows the pair
abbrev pub times_from : Token × ℕ → (Monomial → Monomial) → Monomial → Monomial
times_from pair rest [] = pair ∷ rest []
times_from pair rest (other ∷ others) =
    by_order (token_cmp pair.0 other.0)
    (pair ∷ rest (other ∷ others))
    ((pair.0, min (pair.1 + other.1) greatest_count) ∷ rest others)
    (other ∷ times_from pair rest others)

-- the product: the tokens of both in order; the counts of a common token add up, and stop at the greatest count
abbrev pub times : Monomial → Monomial → Monomial
times [] others = others
times (pair ∷ pairs) others = times_from pair (times pairs) others

-- by the first pair that differs: its token, then its count; a proper prefix is less
abbrev pub monomial_cmp : Monomial → Monomial → Ordering
monomial_cmp = slice_cmp (then_cmp (on (λ pair. pair.0) token_cmp) (on (λ pair. pair.1) nat_cmp))

-- i, q or u and the numbers
abbrev pub token_text : Token → List ℕ
token_text (Inserted t k n) = concat (codes "i" ∷ decimal t ∷ codes "." ∷ decimal k ∷ codes "." ∷ decimal n ∷ [])
token_text (Queried t k) = concat (codes "q" ∷ decimal t ∷ codes "." ∷ decimal k ∷ [])
token_text (Updated t k) = concat (codes "u" ∷ decimal t ∷ codes "." ∷ decimal k ∷ [])

-- a count above 1 is an exponent
abbrev pub power_text : Token × ℕ → List ℕ
power_text pair = if pair.1 == 1 then token_text pair.0 else concat (token_text pair.0 ∷ codes "^" ∷ decimal pair.1 ∷ [])

abbrev pub monomial_text : Monomial → List ℕ
monomial_text = joined_texts power_text (codes "*")
