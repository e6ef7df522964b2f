use Rattle.std.proofs.Common.{◌≡◌, ◌++◌, map, drop}
use Rattle.gp_syntax.specs.Views.{item_view}
use Rattle.gp_check.specs.Scopes.{scope_behind, scope_of}
use Rattle.gp_check.specs.Views.{source_view}
use Rattle.gp_check.proofs.scope.scope_of.Given as goal

abbrev pub invariant-loop-item : goal.invariant-loop-item
invariant-loop-item l =
    map source_view l.scope.items ++ scope_behind l.before l.catalog (map item_view (drop l.item-index l.from)) ≡ scope_of l.catalog (map item_view l.from)
