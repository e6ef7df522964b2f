use Rattle.std.proofs.Common.{Global, List, Option, Vec, map, subst, sym, ℕ}
use Rattle.gp_algebra.specs.Views.{select_view}
use Rattle.gp_kexec.specs.declared.env.KRow.{KRow}
use Rattle.gp_kexec.specs.Rows.{pair_view}
use Rattle.gp_kexec.specs.Valuing.{values_in}
use Rattle.gp_log.specs.Logs.{log_view}
use Rattle.gp_reenact.specs.Reenacting.{spans_of}
use Rattle.gp_semiring.specs.declared.rules.Rule.{Rule}
use Rattle.gp_semiring.specs.declared.rules.Rules.{Rules}
use Rattle.gp_syntax.specs.Views.{point_view}
use Rattle.gp_history.specs.Keeping.{MayBeKept}
use Rattle.gp_ask.specs.Keeping.{MayBeKeptOf}
use Rattle.gp_ask.specs.Operations.{operations_with}
use Rattle.gp_ask.proofs.ProvenanceLemmas.{kept-of, of-kept, sound-versions}
use Rattle.gp_ask.proofs.ValueLemmas.{moved}
use Rattle.gp_ask.proofs.keeping.rows_with_values.Goals as goal

pub values_from-found-requires-clause-sound : goal.values_from-found-requires-clause-sound
values_from-found-requires-clause-sound g c = sound-versions c.args.dump.now c.as_slice.result.now c.as_slice.ensures

-- what is taken is by the rules of the copy, which are those of the valuation
pub values_from-found-requires-clause-kept : goal.values_from-found-requires-clause-kept
values_from-found-requires-clause-kept g c =
    let k = g.K.Semiring in
    let by = values_in k in
    let dump = c.args.dump.now in
    let rules : List Rule × Option ℕ = (c.args.rules.rules, c.args.rules.other) in
    let taken = subst (λ (own : Rules). MayBeKeptOf (by (own.rules, own.other)) dump c.take_values-kept.result) c.in_ok-copy.ensures (c.take_values-kept.ensures by dump c.requires.kept) in
    subst (λ (own : List Rule × Option ℕ). MayBeKept (by own) (log_view dump.log.entries) (spans_of c.as_slice.result.now) c.take_values-kept.result) (sym c.in_ok-valuation.ensures)
    (kept-of dump c.as_slice.result.now c.as_slice.ensures (by rules) c.take_values-kept.result taken)

pub returns-clause-kept : goal.returns-clause-kept
returns-clause-kept g c =
    let k = g.K.Semiring in
    let by = values_in k in
    let dump = c.args.dump.now in
    let rules : List Rule × Option ℕ = (c.args.rules.rules, c.args.rules.other) in
    let left = c.values_from-found.new.kept in
    let kept =
    of-kept dump c.as_slice.result.now c.as_slice.ensures (by rules) left
    (subst (λ (own : List Rule × Option ℕ). MayBeKept (by own) (log_view dump.log.entries) (spans_of c.as_slice.result.now) left) c.in_ok-valuation.ensures c.values_from-found.ensures.kept) in
    c.with_rules.ensures by dump (subst (λ (own : Rules). MayBeKeptOf (by (own.rules, own.other)) dump left) (sym c.in_ok-copy.ensures) kept)

pub returns-clause-answer : goal.returns-clause-answer
returns-clause-answer g c =
    let k = g.K.Semiring in
    let semiring = operations_with k.zero_of k.one_of k.plus_of k.times_of k.number_of k.itself_of k.text_of in
    let rules : List Rule × Option ℕ = (c.args.rules.rules, c.args.rules.other) in
    moved c.args.dump.now c.as_slice.result.now c.as_slice.ensures semiring c.in_ok-valuation.valuation rules c.in_ok-valuation.ensures (point_view c.args.state) (select_view c.args.select.now)
    (λ (rows : Vec (KRow g.row.K.Denot) Global). map pair_view rows.items) c.values_from-found.result c.values_from-found.ensures.answer
