use Rattle.std.proofs.Common.{◌≡◌, ◌++◌, drop}
use Rattle.std.specs.Option.{option_map}
use Rattle.gp_expr.specs.Views.{cond_view}
use Rattle.gp_txn.specs.Wanted.{wanted_own}
use Rattle.gp_txn.proofs.snapshot.push_all_own.Given as goal

abbrev pub invariant-loop-stored : goal.invariant-loop-stored
invariant-loop-stored l =
    l.rows ++ wanted_own (option_map (λ c. cond_view c.now) l.cond) (drop l.stored-index l.own) ≡ l.initial.rows ++ wanted_own (option_map (λ c. cond_view c.now) l.cond) l.own
