use Rattle.std.proofs.Common.{◌≡◌, ◌++◌, drop}
use Rattle.std.specs.List.{flat_map}
use Rattle.std.specs.Option.{option_map}
use Rattle.gp_expr.specs.Views.{cond_view}
use Rattle.gp_txn.specs.Passes.{made_of_place, row_wanted}
use Rattle.gp_txn.proofs.PlacedLemmas.{IsAhead, anywhere}
use Rattle.gp_txn.proofs.snapshot.seen_rows.Given as goal

abbrev pub invariant-loop-place : goal.invariant-loop-place
invariant-loop-place l = record {
  rest : l.rows ++ flat_map (made_of_place (anywhere (row_wanted (option_map (λ c. cond_view c.now) l.cond))) l.carried l.v l.slots l.spans) (drop l.place-index l.places)
      ≡ flat_map (made_of_place (anywhere (row_wanted (option_map (λ c. cond_view c.now) l.cond))) l.carried l.v l.slots l.spans) l.places;
  ahead : IsAhead l.slots l.ahead (drop l.place-index l.places);
}
