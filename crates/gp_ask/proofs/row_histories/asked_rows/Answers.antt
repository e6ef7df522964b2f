use Rattle.std.proofs.Common.{◌+◌, ◌∙◌, Bool, ap, drop, sym}
use Rattle.std.specs.BTreeMap.{get}
use Rattle.std.specs.List.{list_any}
use Rattle.std.specs.Option.{is_some}
use Rattle.std.specs.Prelude.{◌||◌}
use Rattle.gp_base.specs.Identities.{identity_cmp}
use Rattle.gp_algebra.specs.Views.{select_view}
use Rattle.gp_ask.specs.HistoryForms.{span_asks}
use Rattle.gp_ask.proofs.NotedLemmas.{asks-more, or-then}
use Rattle.gp_ask.proofs.row_histories.asked_rows.Goals as goal

pub loop-span-preserved : goal.loop-span-preserved
loop-span-preserved c = λ id.
    let select = select_view c.args.select.now in
    let spans = c.args.spans.now in
    let place = c.loop-span.span-index in
    let own = c.span-item.result in
    let rest = list_any (span_asks select id) (drop (place + 1) spans) in
    let was = is_some (get identity_cmp c.loop-span.asked id) in
    ap (λ (b : Bool). b || rest) (c.in_ok-note_span.ensures id)
    ∙ or-then was (span_asks select id own) rest
    ∙ ap (λ (b : Bool). was || b) (sym (asks-more select id spans place own c.loop-span-test.true c.span-item.is))
    ∙ c.loop-span.invariant id
