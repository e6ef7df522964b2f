use Rattle.std.proofs.Common.{ap, arith, suc, sym, take, ℕ, ◌+◌, ◌∙◌, ◌≡◌}
use Rattle.gp_versions.specs.declared.span.Span.{Span}
use Rattle.gp_history.specs.Changes.{renewed, renewed_span}
use Rattle.gp_history.proofs.SpanLemmas.{renewed_more}
use Rattle.gp_history.proofs.annotated.renewed.Goals as goal

pub loop-i-preserved : goal.loop-i-preserved
loop-i-preserved g c =
    let one = (g.N.Annotator.domain c.args.annotator.now).one in
    let version = c.args.version in
    let found = c.args.found.now in
    let spans = c.args.spans.now in
    let before = c.args.annotations.items in
    let at = c.loop-i.i in
    let span = c.index-spans-i.result in
    let next : suc at ≡ at + 1 = omega arith in
    c.in_ok-renew_span.ensures
    ∙ ap (renewed_span one version found span at) c.loop-i.invariant
    ∙ ap (λ (s : Span). renewed_span one version found s at (renewed one version found (take at spans) before)) c.index-spans-i.is
    ∙ sym (renewed_more one version found spans before at span c.loop-i-test.true)
    ∙ ap (λ (n : ℕ). renewed one version found (take n spans) before) next
