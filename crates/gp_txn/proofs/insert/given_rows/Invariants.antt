use Rattle.std.proofs.Common.{◌≡◌, ◌++◌, suc, map, drop}
use Rattle.gp_base.specs.Annotated.{unannotated}
use Rattle.gp_algebra.specs.Effects.{given_from}
use Rattle.gp_txn.specs.Overlay.{own_row}
use Rattle.gp_txn.proofs.insert.given_rows.Given as goal

abbrev pub invariant-loop-row : goal.invariant-loop-row
invariant-loop-row l = record {
  rest : map own_row l.new ++ given_from unannotated l.t l.k (suc l.n) (drop l.row-index l.rows) ≡ given_from unannotated l.t l.k 1 l.rows;
  number : l.n ≡ l.row-index;
}
