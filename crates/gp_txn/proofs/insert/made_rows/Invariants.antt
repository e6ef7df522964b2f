use Rattle.std.proofs.Common.{◌≡◌, ◌++◌, false, map}
use Rattle.std.specs.Vec.Iter.{into_iter_items}
use Rattle.gp_base.specs.Annotated.{unannotated}
use Rattle.gp_algebra.specs.Effects.{made}
use Rattle.gp_exec.specs.Choosing.{chosen_view}
use Rattle.gp_txn.specs.Inserting.{are_large}
use Rattle.gp_txn.specs.Overlay.{own_row}
use Rattle.gp_txn.proofs.insert.made_rows.Given as goal

abbrev pub invariant-loop-one : goal.invariant-loop-one
invariant-loop-one l = record {
  rest : map own_row l.new ++ map (made unannotated l.t l.k) (map chosen_view (into_iter_items l.one-iterator)) ≡ map (made unannotated l.t l.k) (map chosen_view (into_iter_items l.initial.one-iterator));
  small : are_large (map own_row l.new) ≡ false;
}
