use Rattle.std.proofs.Common.{◌<◌, ◌≤◌, arith, length, map, subst, sym}
use Rattle.gp_serial.specs.Changes.{change_view}
use Rattle.gp_serial.specs.Preceding.{AreGrouped}
use Rattle.gp_serial.specs.Relations.{is_edge}
use Rattle.gp_serial.specs.SerialViews.{serial_view}
use Rattle.gp_serial.proofs.SerialAnswering.{committed, cycle_found, few_ordered, order_tried, whole_runs}
use Rattle.gp_serial.proofs.serializing.serial_by.Goals as goal

pub precedence-requires-clause-grouped : goal.precedence-requires-clause-grouped
precedence-requires-clause-grouped c = subst AreGrouped (sym c.requires.changes) c.requires.rules.grouped

pub precedence-requires-clause-committers : goal.precedence-requires-clause-committers
precedence-requires-clause-committers c = committed c.args.log.now c.args.versions.now c.requires.rules c.requires.runs c.args.all.now c.requires.all

pub returns-then-len-all : goal.returns-then-len-all
returns-then-len-all c =
    let short : length c.in_ok-order.order.items < length c.args.all.now = omega (arith, c.if-len-all.true, c.len.ensures) in (
      c.requires.runs,
      cycle_found c.args.log.now c.args.versions.now c.requires.rules c.requires.runs c.args.all.now c.requires.all (map change_view c.args.changes.now) c.requires.changes
          (is_edge c.in_ok-graph.graph) c.in_ok-graph.ensures.relation c.in_ok-order.order.items c.in_ok-order.ensures short (serial_view c.in_ok-found.found) c.in_ok-found.ensures,
    )

pub in_order-requires-clause-order : goal.in_order-requires-clause-order
in_order-requires-clause-order c =
    few_ordered c.args.log.now c.args.versions.now c.requires.rules c.requires.runs c.args.all.now c.requires.all (map change_view c.args.changes.now) c.requires.changes
    (is_edge c.in_ok-graph.graph) c.in_ok-graph.ensures.relation c.in_ok-order.order.items c.in_ok-order.ensures

pub in_order-requires-clause-runs : goal.in_order-requires-clause-runs
in_order-requires-clause-runs c =
    whole_runs c.args.log.now c.args.versions.now c.requires.rules c.requires.runs c.args.all.now c.requires.all (map change_view c.args.changes.now) c.requires.changes
    (is_edge c.in_ok-graph.graph) c.in_ok-graph.ensures.relation c.in_ok-order.order.items c.in_ok-order.ensures

pub returns : goal.returns
returns c =
    let whole : length c.args.all.now ≤ length c.in_ok-order.order.items = omega (arith, c.if-len-all.false, c.len.ensures) in
    order_tried c.args.log.now c.args.versions.now c.requires.rules c.requires.runs c.args.all.now c.requires.all (map change_view c.args.changes.now) c.requires.changes
    (is_edge c.in_ok-graph.graph) c.in_ok-graph.ensures.relation c.in_ok-order.order.items c.in_ok-order.ensures whole c.in_order.result c.in_order.ensures
