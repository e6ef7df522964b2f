use Rattle.std.proofs.Common.{false, true, length, subst, sym}
use Rattle.std.specs.List.{flat_map}
use Rattle.gp_serial.specs.PairCycles.{cycles_back}
use Rattle.gp_serial.specs.Relations.{is_edge}
use Rattle.gp_serial.specs.PathForms.{AreLists, Inserts, after, all_cycles, before, goes_back, list_at}
use Rattle.gp_serial.proofs.InsertLemmas.{cycles_inserted, few_is, few_none}
use Rattle.gp_serial.proofs.pair_cycle.pair_cycles.Goals as goal

pub returns-then-fits : goal.returns-then-fits
returns-then-fits c =
    few_is c.args.most (flat_map (cycles_back (is_edge c.args.graph.now) c.args.all.now (goes_back (is_edge c.args.graph.now) c.args.versions.now)) c.args.all.now) c.insert_all.new.cycles.keys c.insert_all.new.lines
    (cycles_inserted (is_edge c.args.graph.now) c.args.all.now c.args.versions.now c.requires.order (length c.args.graph.now) c.requires.below c.deref.result.now c.deref-2.result.now
    (subst (AreLists (before (is_edge c.args.graph.now) c.args.all.now) (length c.args.graph.now)) (sym c.deref.ensures.value) c.in_ok-before.ensures)
    (subst (AreLists (after (is_edge c.args.graph.now) c.args.all.now) (length c.args.graph.now)) (sym c.deref-2.ensures.value) c.in_ok-after.ensures)
    c.args.most c.saturating_sub-steps.result c.saturating_sub-steps.ensures c.new-cycles.result.keys c.new-cycles.ensures.empty c.insert_all.new.cycles.keys c.insert_all.new.lines true
    (subst (Inserts c.args.most (all_cycles (is_edge c.args.graph.now) c.args.versions.now c.args.all.now (list_at c.deref.result.now) (list_at c.deref-2.result.now) (length c.deref.result.now) c.saturating_sub-steps.result c.args.all.now) c.new-cycles.result.keys c.insert_all.new.cycles.keys c.insert_all.new.lines) c.if-fits.true c.in_ok-fits.ensures))

pub returns : goal.returns
returns c =
    few_none c.args.most (flat_map (cycles_back (is_edge c.args.graph.now) c.args.all.now (goes_back (is_edge c.args.graph.now) c.args.versions.now)) c.args.all.now) c.insert_all.new.cycles.keys c.insert_all.new.lines
    (cycles_inserted (is_edge c.args.graph.now) c.args.all.now c.args.versions.now c.requires.order (length c.args.graph.now) c.requires.below c.deref.result.now c.deref-2.result.now
    (subst (AreLists (before (is_edge c.args.graph.now) c.args.all.now) (length c.args.graph.now)) (sym c.deref.ensures.value) c.in_ok-before.ensures)
    (subst (AreLists (after (is_edge c.args.graph.now) c.args.all.now) (length c.args.graph.now)) (sym c.deref-2.ensures.value) c.in_ok-after.ensures)
    c.args.most c.saturating_sub-steps.result c.saturating_sub-steps.ensures c.new-cycles.result.keys c.new-cycles.ensures.empty c.insert_all.new.cycles.keys c.insert_all.new.lines false
    (subst (Inserts c.args.most (all_cycles (is_edge c.args.graph.now) c.args.versions.now c.args.all.now (list_at c.deref.result.now) (list_at c.deref-2.result.now) (length c.deref.result.now) c.saturating_sub-steps.result c.args.all.now) c.new-cycles.result.keys c.insert_all.new.cycles.keys c.insert_all.new.lines) c.if-fits.false c.in_ok-fits.ensures))
