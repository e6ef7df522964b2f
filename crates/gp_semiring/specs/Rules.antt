-- Part of the statement: the number that rules give a token.
use Rattle.std.specs.Prelude.{ℕ, Bool, true, false, ◌==◌, ◌&&◌, if◌then◌else◌, Option, Some, List, [], ◌∷◌, ◌++◌, map}
use Rattle.std.specs.List.{find}
use Rattle.std.specs.Option.{is_none, option_map_or, option_to_list}
use Rattle.gp_base.specs.declared.token.Token.{Token}
use Rattle.gp_base.specs.declared.token.Token.TheVariants.{Inserted, Queried, Updated}
use Rattle.gp_semiring.specs.declared.token_kind.TokenKind.{TokenKind}
use Rattle.gp_semiring.specs.declared.token_kind.TokenKind.TheVariants.{I, Q, U}
use Rattle.gp_semiring.specs.declared.rules.Rule.{Rule}

-- a part that is not given fits every number
abbrev pub fits_part : Option ℕ → ℕ → Bool
fits_part part n = option_map_or (λ m. m == n) part true

abbrev pub fits_kind : TokenKind → Token → Bool
fits_kind I (Inserted t k n) = true
fits_kind Q (Queried t k) = true
fits_kind U (Updated t k) = true
fits_kind _ _ = false

-- a token of an UPDATE or of an INSERT with a query has the row number 0
abbrev pub fits_numbers : Rule → Token → Bool
fits_numbers rule (Inserted t k n) = fits_part rule.t t && (fits_part rule.k k && fits_part rule.n n)
fits_numbers rule (Queried t k) = fits_part rule.t t && (fits_part rule.k k && fits_part rule.n 0)
fits_numbers rule (Updated t k) = fits_part rule.t t && (fits_part rule.k k && fits_part rule.n 0)

abbrev pub fits_rule : Rule → Token → Bool
fits_rule rule token = fits_kind rule.kind token && fits_numbers rule token

-- the number of the first rule that fits, or that of all other tokens
abbrev pub number_by : List Rule → Option ℕ → Token → Option ℕ
number_by [] other token = other
number_by (rule ∷ rules) other token = if fits_rule rule token then Some rule.value else number_by rules other token

-- the first of these numbers that stands for no element, in the order of the rules and then of all other tokens
abbrev pub first_outside : {K : Type 0} → (ℕ → Option K) → List Rule → Option ℕ → Option ℕ
first_outside number_of rules other = find (λ n. is_none (number_of n)) (map (λ (rule : Rule). rule.value) rules ++ option_to_list other)
