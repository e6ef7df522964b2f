use Rattle.std.proofs.Common.{◌≡◌, map, drop, bytes_eq}
use Rattle.std.specs.List.{list_any}
use Rattle.gp_check.proofs.names.is_among.Given as goal

abbrev pub invariant-loop-item : goal.invariant-loop-item
invariant-loop-item g l =
    list_any (bytes_eq l.name) (map g.T.Named.label (drop l.item-index l.items)) ≡ list_any (bytes_eq l.name) (map g.T.Named.label l.items)
