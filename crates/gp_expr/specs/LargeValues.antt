-- Of the contract of `eval`, and of where programs stop (`Stops` of gp_algebra): values with an identity of too many nodes.
use Rattle.std.specs.Prelude.{ℕ, Bool, false, ◌||◌, List, nat_lt, if◌then◌else◌}
use Rattle.gp_base.specs.declared.cell.Cell.{Cell}
use Rattle.gp_base.specs.declared.cell.Cell.TheVariants as cell
use Rattle.gp_base.specs.Identities.{nodes}
use Rattle.gp_expr.specs.Expressions as e
use Rattle.gp_expr.specs.Expressions.{Expr, Parts}
use Rattle.gp_expr.specs.Values.{holds, identities, made_identity, truth}

-- an identity of more nodes than these
abbrev pub is_large : ℕ → Cell → Bool
is_large most (cell.Id id) = nat_lt most (nodes id)
is_large most _ = false

-- whether the evaluation makes an identity of more nodes than these; only the taken branch of a CASE is evaluated
abbrev mutual
  pub makes_large : ℕ → Expr → List Cell → Bool
  makes_large most (e.col n) row = false
  makes_large most (e.constant x) row = false
  makes_large most (e.add a b) row = makes_large most a row || makes_large most b row
  makes_large most (e.sub a b) row = makes_large most a row || makes_large most b row
  makes_large most (e.mul a b) row = makes_large most a row || makes_large most b row
  makes_large most (e.neg a) row = makes_large most a row
  makes_large most (e.case c a b) row = if holds (truth c row) then makes_large most a row else makes_large most b row
  makes_large most (e.new_id t k b parts) row = parts_make_large most parts row || is_large most (made_identity t k b (identities parts row))
  makes_large most (e.times a b) row = makes_large most a row || makes_large most b row

  pub parts_make_large : ℕ → Parts → List Cell → Bool
  parts_make_large most e.no_parts row = false
  parts_make_large most (e.part a others) row = makes_large most a row || parts_make_large most others row
