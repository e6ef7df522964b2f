use Rattle.std.proofs.Common.{◌≡◌, ◌++◌, drop}
use Rattle.std.specs.List.{flat_map}
use Rattle.gp_txn.specs.Changes.{change_view}
use Rattle.gp_txn.specs.Passes.{made_of_place, row_entry}
use Rattle.gp_txn.proofs.PlacedLemmas.{IsAhead}
use Rattle.gp_txn.proofs.update.written_slots.Given as goal

abbrev pub invariant-loop-place : goal.invariant-loop-place
invariant-loop-place l = record {
  rest : l.new.items ++ flat_map (made_of_place (row_entry (change_view l.change)) l.carried l.v l.slots l.spans) (drop l.place-index l.places)
      ≡ flat_map (made_of_place (row_entry (change_view l.change)) l.carried l.v l.slots l.spans) l.places;
  ahead : IsAhead l.slots l.ahead (drop l.place-index l.places);
}
