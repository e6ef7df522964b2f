use Rattle.std.proofs.Common.{◌≡◌, ◌++◌, drop}
use Rattle.gp_semiring.specs.Listing.{grouped, grouped_after}
use Rattle.gp_semiring.proofs.listing.grouped.Given as goal

abbrev pub invariant-loop-row : goal.invariant-loop-row
invariant-loop-row l = l.done ++ grouped_after l.current.row l.current.monomials (drop l.row-index l.others) ≡ grouped l.fn.rows
