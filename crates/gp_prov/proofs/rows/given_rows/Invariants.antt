use Rattle.std.proofs.Common.{◌≡◌, ◌++◌, suc, map, drop}
use Rattle.gp_base.specs.Annotated.{monomials}
use Rattle.gp_algebra.specs.Effects.{given_from}
use Rattle.gp_prov.specs.Encoding.{encoded_row}
use Rattle.gp_prov.proofs.rows.given_rows.Given as goal

-- the rows so far and the others are all
abbrev pub invariant-loop-row : goal.invariant-loop-row
invariant-loop-row l =
    l.new ++ map (encoded_row l.with_prov) (given_from monomials l.t l.k (suc l.n) (drop l.row-index l.rows))
    ≡ map (encoded_row l.with_prov) (given_from monomials l.t l.k 1 l.rows)
