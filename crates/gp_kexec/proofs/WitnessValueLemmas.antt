-- The value of a row in witnesses, where each token is its own set, is the minimal ones of the token sets of its monomials.
use Rattle.gp_kexec.proofs.Prelude.{◌≡◌, ◌≤◌, ℕ, zero, suc, refl, sym, ap, ◌∙◌, arith, cond, Bool, true, false, List, [], ◌∷◌, ◌||◌, ◌&&◌, list_all, eq_by_cmp, Cell, Token, row_cmp, Monomial, token_cmp, token_cmp_total, token_cmp-exact, raised, Each, monomial_value}
use Rattle.gp_semiring.specs.Witnesses.{Sets, set_of, witness_of, witness_plus, witness_times}
use Rattle.gp_semiring.specs.WitnessForms.{IsRising, IsWitness}
use Rattle.gp_semiring.specs.WitnessLaws.{holds, same_witness, holds_plus, holds_times, holds_witness, witness_in, plus_in, times_in, one_in, none_in, rising_set, all_set}
use Rattle.gp_kexec.specs.InSemiring.{in_semiring}
use Rattle.gp_kexec.specs.Minimal.{token_sets, tokens_of}
use Rattle.gp_base.proofs.SmallLemmas.{and_nothing}
use Rattle.gp_kexec.specs.CountForms.{HasCounts, itself}

abbrev value : Monomial → Sets
value = monomial_value ([] ∷ []) (witness_times token_cmp) itself

abbrev power : Token → ℕ → Sets
power token = raised ([] ∷ []) (witness_times token_cmp) (itself token)

itself_in : (t : Token) → IsWitness token_cmp (itself t)
itself_in t = witness_in token_cmp token_cmp_total token_cmp-exact ((t ∷ []) ∷ []) (refl, tt)

power_in : (t : Token) (n : ℕ) → IsWitness token_cmp (power t n)
power_in t zero = one_in token_cmp token_cmp_total token_cmp-exact
power_in t (suc n) = times_in token_cmp token_cmp_total token_cmp-exact (itself t) (power t n) (itself_in t) (power_in t n)

value_in : (m : Monomial) → IsWitness token_cmp (value m)
value_in [] = one_in token_cmp token_cmp_total token_cmp-exact
value_in (p ∷ ps) = times_in token_cmp token_cmp_total token_cmp-exact (power p.0 p.1) (value ps) (power_in p.0 p.1) (value_in ps)

simple : (a b : Bool) → (((a && true) || false) && b) ≡ (a && b)
simple true b = refl
simple false b = refl

and_twice : (a : Bool) → (a && a) ≡ a
and_twice true = refl
and_twice false = refl

holds_power : (S : Token → Bool) (t : Token) (n : ℕ) → holds S (power t (suc n)) ≡ S t
holds_power S t zero = holds_times token_cmp token_cmp_total token_cmp-exact S (itself t) ([] ∷ []) ∙ simple (S t) true ∙ and_nothing (S t)
holds_power S t (suc n) =
    holds_times token_cmp token_cmp_total token_cmp-exact S (itself t) (power t (suc n)) ∙ simple (S t) (holds S (power t (suc n))) ∙ ap (λ b. S t && b) (holds_power S t n) ∙ and_twice (S t)

holds_some : (S : Token → Bool) (t : Token) (n : ℕ) → 1 ≤ n → holds S (power t n) ≡ S t
holds_some S t zero some = absurd (omega arith)
holds_some S t (suc n) some = holds_power S t n

holds_value : (S : Token → Bool) (m : Monomial) → HasCounts m → holds S (value m) ≡ list_all S (tokens_of m)
holds_value S [] are = refl
holds_value S (p ∷ ps) are =
    holds_times token_cmp token_cmp_total token_cmp-exact S (power p.0 p.1) (value ps) ∙ ap (λ b. b && holds S (value ps)) (holds_some S p.0 p.1 are.0) ∙ ap (λ b. S p.0 && b) (holds_value S ps are.1)

module _ (x : List Cell) where
  abbrev total : List (List Cell × Monomial) → Sets
  total pairs = in_semiring [] ([] ∷ []) (witness_plus token_cmp) (witness_times token_cmp) itself pairs x

  total_in : (pairs : List (List Cell × Monomial)) → IsWitness token_cmp (total pairs)
  total_in [] = none_in token_cmp token_cmp_total token_cmp-exact
  total_in (pair ∷ pairs) = elim (eq_by_cmp row_cmp x pair.0) as (λ b. IsWitness token_cmp (cond b (witness_plus token_cmp (value pair.1) (total pairs)) (total pairs))) [
    | true ↦ plus_in token_cmp token_cmp_total token_cmp-exact (value pair.1) (total pairs) (value_in pair.1) (total_in pairs)
    | false ↦ total_in pairs
  ]

  each_set : (pairs : List (List Cell × Monomial)) → Each (IsRising token_cmp) (token_sets x pairs)
  each_set [] = tt
  each_set (pair ∷ pairs) = elim (eq_by_cmp row_cmp x pair.0) as (λ b. Each (IsRising token_cmp) (cond b (set_of token_cmp (tokens_of pair.1) ∷ token_sets x pairs) (token_sets x pairs))) [
    | true ↦ (rising_set token_cmp token_cmp_total token_cmp-exact (tokens_of pair.1), each_set pairs)
    | false ↦ each_set pairs
  ]

  holds_total : (S : Token → Bool) (pairs : List (List Cell × Monomial)) → Each (λ (pair : List Cell × Monomial). HasCounts pair.1) pairs → holds S (total pairs) ≡ holds S (token_sets x pairs)
  holds_total S [] are = refl
  holds_total S (pair ∷ pairs) are = elim (eq_by_cmp row_cmp x pair.0) as (λ b. holds S (cond b (witness_plus token_cmp (value pair.1) (total pairs)) (total pairs)) ≡ holds S (cond b (set_of token_cmp (tokens_of pair.1) ∷ token_sets x pairs) (token_sets x pairs))) [
    | true ↦ holds_plus token_cmp token_cmp_total token_cmp-exact S (value pair.1) (total pairs)
        ∙ ap (λ b. b || holds S (total pairs)) (holds_value S pair.1 are.0 ∙ sym (all_set token_cmp token_cmp_total token_cmp-exact S (tokens_of pair.1)))
        ∙ ap (λ b. list_all S (set_of token_cmp (tokens_of pair.1)) || b) (holds_total S pairs are.1)
    | false ↦ holds_total S pairs are.1
  ]

  pub witness_value : (pairs : List (List Cell × Monomial)) → Each (λ (pair : List Cell × Monomial). HasCounts pair.1) pairs → total pairs ≡ witness_of token_cmp (token_sets x pairs)
  witness_value pairs are =
      same_witness token_cmp token_cmp_total token_cmp-exact _ _ (total_in pairs) (witness_in token_cmp token_cmp_total token_cmp-exact (token_sets x pairs) (each_set pairs))
      (λ S. holds_total S pairs are ∙ sym (holds_witness token_cmp token_cmp_total token_cmp-exact S (token_sets x pairs)))
