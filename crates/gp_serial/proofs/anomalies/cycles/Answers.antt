use Rattle.std.proofs.Common.{◌≡◌, ◌<◌, ◌∙◌, ℕ, suc, AllPairs, List, ap, arith, length, map, subst, sym}
use Rattle.std.proofs.lemmas.Result.{IfOk-weaker}
use Rattle.std.specs.List.{AllByRecursion}
use Rattle.std.specs.Option.{option_map}
use Rattle.std.specs.Prelude.{Option}
use Rattle.std.specs.BTreeSet.{BTreeSet}
use Rattle.gp_base.specs.declared.limit.TheConstants.{MAX_ANSWER_ROWS}
use Rattle.gp_log.specs.Contents.{entries, tables}
use Rattle.gp_machine.specs.Entries.{transactions_in}
use Rattle.gp_machine.specs.SerialForms.{committers}
use Rattle.gp_serial.specs.declared.pair_cycle.Cycle.{Cycle}
use Rattle.gp_serial.specs.Anomalies as s
use Rattle.gp_serial.specs.Changes.{change_view}
use Rattle.gp_serial.specs.NameForms.{AreVersions}
use Rattle.gp_serial.specs.PairCycles.{pair_cycles}
use Rattle.gp_serial.specs.PathForms.{few_cycles, goes_back, numbers_of}
use Rattle.gp_serial.specs.Preceding.{IsMadeBy, IsPrecedence}
use Rattle.gp_serial.specs.Relations.{is_edge}
use Rattle.gp_serial.specs.Serializing.{by_number}
use Rattle.gp_serial.proofs.AnomalyLemmas.{all_below, by_number-few, by_number-up, cycles_are}
use Rattle.gp_serial.proofs.SerializingLemmas.{made_by}
use Rattle.gp_serial.proofs.anomalies.cycles.Goals as goal

pub precedence-requires-clause-committers : goal.precedence-requires-clause-committers
precedence-requires-clause-committers c = subst (IsMadeBy (entries c.args.log.now)) (sym c.requires.all) (made_by (entries c.args.log.now) c.requires.sessions)

pub pair_cycles-requires-clause-below : goal.pair_cycles-requires-clause-below
pair_cycles-requires-clause-below c =
    let log = entries c.args.log.now in
    let graph = c.in_ok-graph.graph in
    let most : transactions_in log < length graph = omega (arith, c.in_ok-graph.ensures.count) in
    subst (AllByRecursion (λ t. t < length graph)) (sym (c.deref.ensures.value ∙ c.in_ok-numbers.ensures)) (all_below log c.requires.sessions (length graph) most)

pub pair_cycles-requires-clause-order : goal.pair_cycles-requires-clause-order
pair_cycles-requires-clause-order c =
    subst (AllPairs (λ a b. a < b)) (sym (c.deref.ensures.value ∙ c.in_ok-numbers.ensures)) (by_number-up (entries c.args.log.now) c.requires.sessions)

pub pair_cycles-requires-clause-few : goal.pair_cycles-requires-clause-few
pair_cycles-requires-clause-few c =
    let long : length c.deref.result.now ≡ length (by_number (entries c.args.log.now)) = ap length (c.deref.ensures.value ∙ c.in_ok-numbers.ensures) in
    omega (arith, long, by_number-few (entries c.args.log.now) c.requires.sessions, c.bounds.ensures.transactions)

pub pair_cycles-requires-clause-count : goal.pair_cycles-requires-clause-count
pair_cycles-requires-clause-count c = omega (arith, c.in_ok-graph.ensures.count, c.bounds.ensures.transactions)

pub returns : goal.returns
returns c =
    let all = tables c.args.log.now in
    let log = entries c.args.log.now in
    let changes = map change_view c.args.changes.now in
    let relation = is_edge c.in_ok-graph.graph in
    let numbers = c.deref.result.now in
    let versions = c.deref-2.result.now in
    let agrees : IsPrecedence all log changes (committers log) relation = subst (λ (own : List ℕ). IsPrecedence all log changes own relation) c.requires.all c.in_ok-graph.ensures.relation in
    let made : AreVersions log (suc (transactions_in log)) versions = subst (AreVersions log (suc (transactions_in log))) (sym c.deref-2.ensures.value) c.in_ok-versions.ensures in
    IfOk-weaker c.pair_cycles.result
    (λ (kept : Option (BTreeSet Cycle)). option_map (λ (cycles : BTreeSet Cycle). numbers_of cycles.keys) kept ≡ few_cycles MAX_ANSWER_ROWS (pair_cycles relation numbers (goes_back relation versions)))
    (λ (kept : Option (BTreeSet Cycle)). option_map (λ (cycles : BTreeSet Cycle). numbers_of cycles.keys) kept ≡ few_cycles MAX_ANSWER_ROWS (s.cycles all log changes))
    (λ kept is. is ∙ ap (few_cycles MAX_ANSWER_ROWS)
    (ap (λ own. pair_cycles relation own (goes_back relation versions)) (c.deref.ensures.value ∙ c.in_ok-numbers.ensures)
    ∙ cycles_are log c.requires.sessions all changes relation agrees versions (suc (transactions_in log)) (omega arith) made))
    c.pair_cycles.ensures
