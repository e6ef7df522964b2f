use Rattle.std.proofs.Common.{◌≡◌, ◌+◌, suc, drop, map}
use Rattle.std.specs.List.{list_any}
use Rattle.gp_algebra.specs.Views.{set_view}
use Rattle.gp_machine.specs.Looks.{occurs_in}
use Rattle.gp_serial.specs.LookViews.{AreSimpleSets}
use Rattle.gp_serial.proofs.looks.occurs_in_sets.Given as goal

-- the assignments that remain decide, and they are simple
abbrev pub invariant-loop-set : goal.invariant-loop-set
invariant-loop-set l = record {
  rest : list_any (λ set. occurs_in (l.before + suc l.place) set.expr) (map set_view (drop l.set-index l.sets))
      ≡ list_any (λ set. occurs_in (l.before + suc l.place) set.expr) (map set_view l.sets);
  simple : AreSimpleSets (drop l.set-index l.sets);
}
