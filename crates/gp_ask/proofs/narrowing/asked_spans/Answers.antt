use Rattle.std.proofs.Common.{◌+◌, ◌++◌, ◌∙◌, Bool, List, ap, arith, drop, sym}
use Rattle.std.proofs.lemmas.List.{append-nil, drop_all}
use Rattle.std.specs.BTreeMap.{get}
use Rattle.std.specs.Option.{is_some}
use Rattle.std.specs.Prelude.{filter}
use Rattle.gp_base.specs.Identities.{identity_cmp}
use Rattle.gp_versions.specs.declared.span.Span.{Span}
use Rattle.gp_ask.proofs.NarrowedLemmas.{asked-more}
use Rattle.gp_ask.proofs.narrowing.asked_spans.Goals as goal

pub loop-span-preserved : goal.loop-span-preserved
loop-span-preserved c =
    let spans = c.args.spans.now in
    let place = c.loop-span.span-index in
    let asks : Span → Bool = λ (span : Span). is_some (get identity_cmp c.args.asked.now span.id) in
    ap (λ (own : List Span). own ++ filter asks (drop (place + 1) spans)) c.in_ok-push_asked.ensures
    ∙ asked-more asks spans c.loop-span.found.items place c.span-item.result c.loop-span-test.true c.span-item.is
    ∙ c.loop-span.invariant

pub returns : goal.returns
returns c =
    let spans = c.args.spans.now in
    let asks : Span → Bool = λ (span : Span). is_some (get identity_cmp c.args.asked.now span.id) in
    let own = c.loop-span.found.items in
    sym (append-nil own) ∙ ap (λ (rest : List Span). own ++ filter asks rest) (sym (drop_all c.loop-span.span-index spans (omega (arith, c.loop-span-test.false)))) ∙ c.loop-span.invariant
