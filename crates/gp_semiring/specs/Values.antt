-- Part of the statement: the values of tokens and monomials in a semiring (Green, Karvounarakis and Tannen 2007).
use Rattle.std.specs.Prelude.{ℕ, List, [], ◌∷◌, Option, None, Some, unwrap_or}
use Rattle.gp_base.specs.declared.token.Token.{Token}
use Rattle.gp_base.specs.Tokens.{Monomial}
use Rattle.gp_semiring.specs.Powers.{raised}
use Rattle.gp_semiring.specs.declared.rules.Rule.{Rule}
use Rattle.gp_semiring.specs.Rules.{number_by}

module _ {K : Type 0} (one : K) (number_of : ℕ → Option K) (itself_of : Token → Option K) where
  -- the element of a number, or of the token itself; where there is none, one
  abbrev pub value_by : Option ℕ → Token → K
  value_by (Some n) token = unwrap_or (number_of n) one
  value_by None token = unwrap_or (itself_of token) one

  -- by rules and the number of all other tokens
  abbrev pub token_value : List Rule × Option ℕ → Token → K
  token_value rules token = value_by (number_by rules.0 rules.1 token) token

module _ {K : Type 0} (one : K) (times : K → K → K) (value : Token → K) where
  -- each token as often as its count
  abbrev pub monomial_value : Monomial → K
  monomial_value [] = one
  monomial_value (power ∷ powers) = times (raised one times (value power.0) power.1) (monomial_value powers)
