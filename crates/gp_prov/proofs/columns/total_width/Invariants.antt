use Rattle.std.proofs.Common.{◌≡◌, ◌+◌, drop}
use Rattle.std.specs.Prelude.{sum}
use Rattle.gp_prov.proofs.columns.total_width.Given as goal

-- the sum so far and that of the rest are the whole
abbrev pub invariant-loop-width : goal.invariant-loop-width
invariant-loop-width l = l.total + sum (drop l.width-index l.widths) ≡ sum l.widths
