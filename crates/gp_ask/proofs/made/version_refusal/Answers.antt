use Rattle.std.proofs.Common.{◌≡◌, ◌<◌, ◌+◌, ℕ, suc, false, not, List, Option, Some, None, cond, refl, ap, ◌∙◌, length, subst, sym, arith}
use Rattle.gp_base.specs.Annotated.{unannotated}
use Rattle.gp_base.specs.declared.refusal.Refusal.{Refusal}
use Rattle.gp_base.specs.declared.refusal.Refusal.TheVariants.{E24}
use Rattle.gp_history.specs.Agreement.{agree}
use Rattle.gp_log.specs.Contents.{tables}
use Rattle.gp_log.specs.Parameters.{parameters}
use Rattle.gp_machine.specs.Event.{name_at}
use Rattle.gp_machine.specs.HistorySpans.{as_of}
use Rattle.gp_machine.specs.Questions.{difference_refusal}
use Rattle.gp_reenact.specs.Reenacting.{spans_of}
use Rattle.gp_versions.specs.Spans.{rows_at}
use Rattle.gp_versions.specs.declared.span.Span.{Span}
use Rattle.gp_ask.specs.MadeForms.{HaveSameRows}
use Rattle.gp_ask.proofs.MadeSpans.{first-found, flag-at, moved-rows, none-more, table-at}
use Rattle.gp_ask.proofs.made.version_refusal.Goals as goal

pub differ-requires : goal.differ-requires
differ-requires c = λ off.
    let tables = c.args.tables.now in
    let others = c.args.others.now in
    let place = c.loop-place.place in
    let below : place < length others = omega (arith, c.loop-place-test.true, c.requires.tables.own, c.requires.tables.other) in
    let flagged : place < length c.args.flags.now = omega (arith, c.loop-place-test.true, c.requires.flags.as_many) in
    subst (λ (spans : List Span). HaveSameRows spans c.index-others-place.result.spans) (table-at tables place c.index-tables-place.result c.loop-place-test.true c.index-tables-place.is)
    (subst (λ (spans : List Span). HaveSameRows (spans_of tables place) spans) (table-at others place c.index-others-place.result below c.index-others-place.is)
    (moved-rows (spans_of tables place) (spans_of others place) (c.requires.flags.same place (flag-at c.args.flags.now place false flagged off))))

pub returns-then-branch : goal.returns-then-branch
returns-then-branch c =
    let catalogue = tables c.args.log.now in
    let version = c.args.version in
    let place = c.loop-place.place in
    let rows = as_of unannotated (spans_of c.args.tables.now) version in
    let others = as_of unannotated (spans_of c.args.others.now) version in
    let below : place < length c.args.others.now = omega (arith, c.loop-place-test.true, c.requires.tables.own, c.requires.tables.other) in
    let listed : place < length catalogue = omega (arith, c.loop-place-test.true, c.requires.tables.own) in
    let differ : agree (rows place) (others place) ≡ false =
    ap (λ (spans : List Span). agree (rows_at unannotated version spans) (others place)) (table-at c.args.tables.now place c.index-tables-place.result c.loop-place-test.true c.index-tables-place.is)
    ∙ ap (λ (spans : List Span). agree (rows_at unannotated version c.index-tables-place.result.spans) (rows_at unannotated version spans)) (table-at c.args.others.now place c.index-others-place.result below c.index-others-place.is)
    ∙ c.in_ok-differ.ensures ∙ ap not c.if-branch.true in
    ap (λ (refusal : Refusal). Some refusal) c.in_ok-refusal_at.ensures
    ∙ sym (first-found (λ n. difference_refusal unannotated parameters agree catalogue version n rows others)
    (λ n. cond (agree (rows n) (others n)) None (Some (E24 version (name_at n catalogue)))) (λ n. refl) place (length catalogue)
    (E24 version (name_at place catalogue)) listed c.loop-place.invariant (ap (λ b. cond b None (Some (E24 version (name_at place catalogue)))) differ))

pub loop-place-preserved : goal.loop-place-preserved
loop-place-preserved c =
    let catalogue = tables c.args.log.now in
    let version = c.args.version in
    let place = c.loop-place.place in
    let rows = as_of unannotated (spans_of c.args.tables.now) version in
    let others = as_of unannotated (spans_of c.args.others.now) version in
    let below : place < length c.args.others.now = omega (arith, c.loop-place-test.true, c.requires.tables.own, c.requires.tables.other) in
    let same : agree (rows place) (others place) ≡ not false =
    ap (λ (spans : List Span). agree (rows_at unannotated version spans) (others place)) (table-at c.args.tables.now place c.index-tables-place.result c.loop-place-test.true c.index-tables-place.is)
    ∙ ap (λ (spans : List Span). agree (rows_at unannotated version c.index-tables-place.result.spans) (rows_at unannotated version spans)) (table-at c.args.others.now place c.index-others-place.result below c.index-others-place.is)
    ∙ c.in_ok-differ.ensures ∙ ap not c.if-branch.false in
    let next : suc place ≡ place + 1 = omega arith in
    subst (λ n. difference_refusal unannotated parameters agree catalogue version n rows others ≡ None) next
    (none-more (λ n. difference_refusal unannotated parameters agree catalogue version n rows others)
    (λ n. cond (agree (rows n) (others n)) None (Some (E24 version (name_at n catalogue)))) (λ n. refl) place c.loop-place.invariant
    (ap (λ b. cond b None (Some (E24 version (name_at place catalogue)))) same))
