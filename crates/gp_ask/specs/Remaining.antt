-- Part of the statement: deletion in thought: the rows that a query gives over a database without the rows that have some token in their provenance (the
-- propagation of deletions by provenance, Green, Karvounarakis and Tannen 2007).
use Rattle.std.specs.Prelude.{nat_lt, ◌||◌, Bool, List, length, Option, Some, None, Result, if◌then◌else◌}
use Rattle.std.specs.List.{list_any}
use Rattle.std.specs.Option.{option_or}
use Rattle.gp_base.specs.declared.refusal.Refusal.{Refusal}
use Rattle.gp_base.specs.declared.refusal.Refusal.TheVariants.{E27}
use Rattle.gp_base.specs.declared.token.Token.{Token}
use Rattle.gp_base.specs.Annotated.{Database, monomials}
use Rattle.gp_base.specs.Tokens.{Monomial}
use Rattle.gp_algebra.specs.Answers.{Element, answer, cells_of}
use Rattle.gp_algebra.specs.Statements.{Select}
use Rattle.gp_log.specs.Parameters.{parameters}
use Rattle.gp_machine.specs.Questions.{given}
use Rattle.gp_semiring.specs.declared.rules.Rule.{Rule}
use Rattle.gp_semiring.specs.Rules.{fits_rule}
use Rattle.gp_history.specs.DistinctRows.{distinct_rows}
use Rattle.gp_kexec.specs.Deletion.{has_token, reduced}

-- whether a pattern fits the token
abbrev pub is_left_out : List Rule → Token → Bool
is_left_out patterns token = list_any (λ pattern. fits_rule pattern token) patterns

-- whether a pattern fits a token of the monomial
abbrev pub has_left_out : List Rule → Monomial → Bool
has_left_out patterns = has_token (is_left_out patterns)

module _ (has : Monomial → Bool) (select : Select) (db : Database Monomial) where
  -- the answer over the database without these rows
  abbrev pub remaining : List (Element Monomial)
  remaining = answer monomials select (reduced has db)

  -- there are too many distinct rows before any is left out, or too many rows that remain
  abbrev pub are_too_many : Bool
  are_too_many = nat_lt parameters.answer (length (distinct_rows (cells_of (answer monomials select db)))) || nat_lt parameters.answer (length remaining)

  -- what remains, unless something is refused
  abbrev pub remaining_answer : Option Refusal → Result (List (Element Monomial)) Refusal
  remaining_answer refusal = given (option_or refusal (if are_too_many then Some E27 else None)) remaining
