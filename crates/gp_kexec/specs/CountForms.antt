-- Of the laws `rules_leave_out` and `values_are_minimal`: witnesses by counts.
use Rattle.std.specs.Prelude.{◌≤◌, [], ◌∷◌}
use Rattle.gp_base.specs.declared.token.Token.{Token}
use Rattle.gp_base.specs.Tokens.{Monomial}
use Rattle.gp_semiring.specs.SumForms.{Each}
use Rattle.gp_semiring.specs.Witnesses.{Sets}

-- the token's set alone
abbrev pub itself : Token → Sets
itself token = (token ∷ []) ∷ []

-- each token of the monomial counts at least once
abbrev pub HasCounts : Monomial → Type 0
HasCounts monomial = Each (λ power. 1 ≤ power.1) monomial
