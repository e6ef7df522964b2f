use Rattle.std.proofs.Common.{◌≡◌, ◌+◌, suc, drop, map}
use Rattle.std.specs.List.{list_any}
use Rattle.gp_expr.specs.Views.{expr_view}
use Rattle.gp_machine.specs.Looks.{occurs_in}
use Rattle.gp_serial.specs.LookViews.{AreSimpleItems}
use Rattle.gp_serial.proofs.looks.occurs_in_items.Given as goal

-- the expressions that remain decide, and they are simple
abbrev pub invariant-loop-item : goal.invariant-loop-item
invariant-loop-item l = record {
  rest : list_any (occurs_in (l.before + suc l.place)) (map expr_view (drop l.item-index l.items)) ≡ list_any (occurs_in (l.before + suc l.place)) (map expr_view l.items);
  simple : AreSimpleItems (drop l.item-index l.items);
}
