use Rattle.std.proofs.Common.{◌≡◌, ◌++◌, drop, map, length, replicate}
use Rattle.std.specs.List.{list_all}
use Rattle.gp_base.specs.declared.cell.Cell.TheVariants as cell
use Rattle.gp_expr.specs.Values.{passes}
use Rattle.gp_expr.specs.Views.{cond_view}
use Rattle.gp_machine.specs.Looks.{sees}
use Rattle.gp_serial.specs.LookViews.{look_view}
use Rattle.gp_serial.specs.Meetings.{AreSimple}
use Rattle.gp_serial.proofs.meeting.sees.Given as goal

-- the conditions that remain decide, and they are simple
abbrev pub invariant-loop-cond : goal.invariant-loop-cond
invariant-loop-cond l = record {
  rest : list_all (λ c. passes c (replicate (length l.look.before.items) cell.Null ++ l.row)) (map (λ c. cond_view c.now) (drop l.cond-index l.look.conds.items)) ≡ sees (look_view l.look) l.row;
  simple : AreSimple (drop l.cond-index l.look.conds.items);
}
