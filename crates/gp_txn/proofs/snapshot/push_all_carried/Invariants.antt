use Rattle.std.proofs.Common.{◌≡◌, ◌++◌, map, drop}
use Rattle.std.specs.List.{filter_map}
use Rattle.std.specs.Option.{option_map}
use Rattle.gp_expr.specs.Views.{cond_view}
use Rattle.gp_txn.specs.Overlay.{carried_row, stored_of}
use Rattle.gp_txn.specs.Wanted.{wanted}
use Rattle.gp_txn.proofs.snapshot.push_all_carried.Given as goal

abbrev pub invariant-loop-row : goal.invariant-loop-row
invariant-loop-row l =
    l.rows ++ map stored_of (wanted (option_map (λ c. cond_view c.now) l.cond) (filter_map carried_row (drop l.row-index l.carried)))
    ≡ l.initial.rows ++ map stored_of (wanted (option_map (λ c. cond_view c.now) l.cond) (filter_map carried_row l.carried))
