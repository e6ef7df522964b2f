use Rattle.std.proofs.Common.{◌≡◌, ◌+◌, ◌<◌, ◌^◌, length}
use Rattle.gp_txn.specs.Overlay.{slotted_spans}
use Rattle.gp_txn.proofs.SlottedLemmas.{free_spans}
use Rattle.gp_txn.proofs.snapshot.count_slotted.Given as goal

abbrev pub invariant-loop-span : goal.invariant-loop-span
invariant-loop-span l = record {
  rest : l.count + length (free_spans l.carried l.span-iterator) ≡ length (slotted_spans l.carried l.v l.spans);
  below : l.count + length l.span-iterator < 2 ^ 60;
}
