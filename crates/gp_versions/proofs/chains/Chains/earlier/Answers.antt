use Rattle.std.proofs.Common.{◌<◌, length, ◌∙◌, refl, sym, arith}
use Rattle.std.proofs.lemmas.List.{length-map}
use Rattle.std.proofs.lemmas.Option.{slice_get_read}
use Rattle.gp_versions.specs.declared.span.Span.{Span}
use Rattle.gp_versions.specs.Keys.{key_of}
use Rattle.gp_versions.proofs.ChainLemmas.{LeadsTo-begun, LeadsTo-last}
use Rattle.gp_versions.proofs.chains.Chains.earlier.Goals as goal

pub returns-then-is_begun : goal.returns-then-is_begun
returns-then-is_begun c =
    let spans = c.args.spans.now in
    let within : c.args.place < length spans = omega (arith, c.requires.here.0, c.requires.chained.within, length-map spans (λ (span : Span). key_of span.id)) in
    LeadsTo-begun spans c.args.id.now c.args.v c.args.place c.index-spans-place.result c.requires.apart c.requires.whole
    (slice_get_read spans (length spans) c.args.place c.index-spans-place.result refl within c.index-spans-place.is) (sym c.is_begun.ensures ∙ c.if-is_begun.true)

pub returns-else-is_begun : goal.returns-else-is_begun
returns-else-is_begun c =
    let befores = c.args.self.now.befores.items in
    LeadsTo-last c.args.spans.now c.args.id.now c.args.v c.args.place c.index.result.now
    (c.requires.chained.linked c.args.place (key_of c.args.id.now) c.index.result.now (slice_get_read befores (length befores) c.args.place c.index.result.now refl c.requires.here.0 c.index.ensures) c.requires.here.1)
