-- Machinery: what the parts of the evaluation say.
use Rattle.std.specs.Prelude.{ℤ, ◌+ℤ◌, ◌-ℤ◌, ◌*ℤ◌, Option, Some, None}
use Rattle.gp_base.specs.declared.cell.Cell.{Cell}
use Rattle.gp_base.specs.declared.cell.Cell.TheVariants as cell
use Rattle.gp_base.specs.Identities.{Identity}
use Rattle.gp_base.specs.Tokens.{Monomial}
use Rattle.gp_expr.specs.declared.arithmetic.Arithmetic.{Arithmetic}
use Rattle.gp_expr.specs.declared.arithmetic.Arithmetic.TheVariants.{Add, Sub, Mul}

abbrev pub operation : Arithmetic → ℤ → ℤ → ℤ
operation Add = ◌+ℤ◌
operation Sub = ◌-ℤ◌
operation Mul = ◌*ℤ◌

-- a number, or NULL
abbrev pub number_view : Option ℤ → Cell
number_view None = cell.Null
number_view (Some number) = cell.Int number

-- a monomial, or NULL
abbrev pub monomial_view : Option Monomial → Cell
monomial_view None = cell.Null
monomial_view (Some monomial) = cell.Mono monomial

-- the number, the identity or the monomial in a cell
abbrev pub number_in : Cell → Option ℤ
number_in (cell.Int number) = Some number
number_in _ = None

abbrev pub identity_in : Cell → Option Identity
identity_in (cell.Id id) = Some id
identity_in _ = None

abbrev pub monomial_in : Cell → Option Monomial
monomial_in (cell.Mono monomial) = Some monomial
monomial_in _ = None
