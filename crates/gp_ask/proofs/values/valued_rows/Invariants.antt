use Rattle.std.proofs.Common.{◌≡◌, map, take}
use Rattle.gp_kexec.specs.Rows.{pair_view}
use Rattle.gp_ask.specs.Values.{valued}
use Rattle.gp_ask.proofs.values.valued_rows.Given as goal

-- the rows so far
abbrev pub invariant-loop-row : goal.invariant-loop-row
invariant-loop-row g l = l.found ≡ map (valued g.K.Semiring.text_of) (map pair_view (take l.row-index l.rows))
