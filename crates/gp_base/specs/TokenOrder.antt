-- Machinery: the orders of tokens and monomials are total, and ties are between equal ones; how Rattle stores a monomial.
use Rattle.std.specs.Prelude.{◌≡◌, ℕ, zero, suc, List, [], ◌∷◌, refl}
use Rattle.std.proofs.Common.{ap, sym, ◌∙◌, subst}
use Rattle.std.specs.Ordering.{nat_cmp, on, ordering_then, then_cmp}
use Rattle.std.specs.declared.cmp.Ordering.{Ordering}
use Rattle.std.specs.declared.cmp.Ordering.TheVariants.{Less, Equal, Greater}
use Rattle.std.specs.Cmp.{IsTotalOrder, on_total, then_total, nat_cmp_total}
use Rattle.std.specs.Cmp.Lexicographic.{slice_cmp, lists_total}
use Rattle.std.specs.FinMap.{slice_cmp-IsAntisymmetric}
use Rattle.std.specs.Coded.{Coded, coded_ℕ, coded_list, coded×}
use Rattle.std.proofs.lemmas.Cmp.{nat_list_cmp_total}
use Rattle.std.proofs.lemmas.Map.Lookups.{CmpEqualImpliesEq, exact_bytes, exact_pairs, exact_unsigned}
use Rattle.gp_base.specs.declared.token.Token.{Token}
use Rattle.gp_base.specs.declared.token.Token.TheVariants.{Inserted, Queried, Updated}
use Rattle.gp_base.specs.contracts.token.Token as token
use Rattle.gp_base.specs.Tokens.{Monomial, token_cmp, monomial_cmp}

abbrev pub coded_monomial : Coded Monomial
coded_monomial = coded_list (coded× token.the_row.coded coded_ℕ)

-- the kind of a token and its numbers
abbrev token_code : Token → List ℕ
token_code (Inserted t k n) = 0 ∷ t ∷ k ∷ n ∷ []
token_code (Queried t k) = 1 ∷ t ∷ k ∷ []
token_code (Updated t k) = 2 ∷ t ∷ k ∷ []

then_nothing : (o : Ordering) → ordering_then o Equal ≡ o
then_nothing Less = refl
then_nothing Equal = refl
then_nothing Greater = refl

-- the order of tokens is that of their codes
token_cmp-is : (x y : Token) → on token_code (slice_cmp nat_cmp) x y ≡ token_cmp x y
token_cmp-is (Inserted t k n) (Inserted u l m) = ap (λ o. ordering_then (nat_cmp t u) (ordering_then (nat_cmp k l) o)) (then_nothing (nat_cmp n m))
token_cmp-is (Inserted t k n) (Queried u l) = refl
token_cmp-is (Inserted t k n) (Updated u l) = refl
token_cmp-is (Queried t k) (Inserted u l m) = refl
token_cmp-is (Queried t k) (Queried u l) = ap (λ o. ordering_then (nat_cmp t u) o) (then_nothing (nat_cmp k l))
token_cmp-is (Queried t k) (Updated u l) = refl
token_cmp-is (Updated t k) (Inserted u l m) = refl
token_cmp-is (Updated t k) (Queried u l) = refl
token_cmp-is (Updated t k) (Updated u l) = ap (λ o. ordering_then (nat_cmp t u) o) (then_nothing (nat_cmp k l))

pub token_cmp_total : IsTotalOrder token_cmp
token_cmp_total = subst IsTotalOrder (λ i x y. token_cmp-is x y i) (on_total token_code nat_list_cmp_total)

abbrev token_in : List ℕ → Token
token_in (zero ∷ t ∷ k ∷ n ∷ []) = Inserted t k n
token_in (suc zero ∷ t ∷ k ∷ []) = Queried t k
token_in (suc (suc zero) ∷ t ∷ k ∷ []) = Updated t k
token_in _ = Inserted 0 0 0

token_in-token_code : (x : Token) → token_in (token_code x) ≡ x
token_in-token_code (Inserted t k n) = refl
token_in-token_code (Queried t k) = refl
token_in-token_code (Updated t k) = refl

-- a tie is between equal tokens
pub token_cmp-exact : CmpEqualImpliesEq token_cmp
token_cmp-exact x y tie = sym (token_in-token_code x) ∙ ap token_in (exact_bytes (token_code x) (token_code y) (token_cmp-is x y ∙ tie)) ∙ token_in-token_code y

pub monomial_cmp_total : IsTotalOrder monomial_cmp
monomial_cmp_total = lists_total (then_total (on_total (λ (pair : Token × ℕ). pair.0) token_cmp_total) (on_total (λ (pair : Token × ℕ). pair.1) nat_cmp_total))

pair_exact : CmpEqualImpliesEq (then_cmp (on (λ (pair : Token × ℕ). pair.0) token_cmp) (on (λ (pair : Token × ℕ). pair.1) nat_cmp))
pair_exact x y tie = exact_pairs token_cmp nat_cmp token_cmp-exact exact_unsigned x y tie

-- a tie is between equal monomials
pub monomial_cmp-exact : CmpEqualImpliesEq monomial_cmp
monomial_cmp-exact = slice_cmp-IsAntisymmetric pair_exact
