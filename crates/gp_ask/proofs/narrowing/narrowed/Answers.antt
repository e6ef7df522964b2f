use Rattle.std.proofs.Common.{◌+◌, ◌==◌, ◌≡◌, ◌∙◌, ◌∷◌, [], List, ap, arith, cond, length}
use Rattle.std.proofs.lemmas.List.{length-append}
use Rattle.gp_reenact.specs.Reenacting.{spans_of}
use Rattle.gp_versions.specs.Spans.{Versions}
use Rattle.gp_versions.specs.declared.span.Span.{Span}
use Rattle.gp_ask.proofs.NarrowedLemmas.{behind, nowhere}
use Rattle.gp_ask.proofs.narrowing.narrowed.Goals as goal

pub loop-preserved : goal.loop-preserved
loop-preserved c =
    let own = c.loop.tables.items in (
      ap length c.in_ok-push.ensures.items ∙ length-append own (c.new.result ∷ []) ∙ ap (λ n. n + 1) c.loop.invariant.0,
      λ place. ap (λ (tables : List Versions). spans_of tables place) c.in_ok-push.ensures.items ∙ nowhere own c.loop.invariant.1 c.new.result c.new.ensures place,
    )

pub returns : goal.returns
returns c =
    let own = c.loop.tables.items in
    let table = c.args.table in
    let all : c.loop.counter ≡ table = omega (arith, c.loop-test.false, c.loop.auto.counter-end) in
    λ i place.
    (ap (λ (tables : List Versions). spans_of tables place) c.in_ok-push-2.ensures.items
    ∙ behind own c.loop.invariant.1 c.in_ok-asked_table.field-0 table (c.loop.invariant.0 ∙ all) place
    ∙ ap (λ (spans : List Span). cond (place == table) spans []) c.in_ok-asked_table.ensures) i
