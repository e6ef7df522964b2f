use Rattle.std.proofs.Common.{◌≡◌, map, take}
use Rattle.gp_history.proofs.narrowed.refs.Given as goal

abbrev pub invariant-loop-value : goal.invariant-loop-value
invariant-loop-value g l = map (λ value. value.now) l.refs.items ≡ take l.value-index l.values
