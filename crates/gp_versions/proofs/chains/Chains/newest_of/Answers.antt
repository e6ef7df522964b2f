use Rattle.std.proofs.Common.{◌<◌, get_or, length, ◌∙◌, refl, subst, sym, arith}
use Rattle.std.proofs.lemmas.List.{length-map}
use Rattle.std.proofs.lemmas.Option.{slice_get-get_or, slice_get_read}
use Rattle.gp_versions.specs.declared.span.Span.{Span}
use Rattle.gp_versions.specs.Chains.{IsLast, entered, keys_of}
use Rattle.gp_versions.specs.Keys.{key_of}
use Rattle.gp_versions.proofs.ChainLemmas.{HasNone-last, HasNone-next, IsLast-here, IsLast-none, up_to-within}
use Rattle.gp_versions.proofs.chains.Chains.newest_of.Goals as goal

pub loop-walk-init : goal.loop-walk-init
loop-walk-init c = HasNone-last c.args.spans.now c.args.id.now (entered c.args.self.now) c.newest-walk.result
    (subst (λ key. IsLast (keys_of c.args.spans.now) key (entered c.args.self.now) c.newest-walk.result) c.key_of.ensures (c.newest-walk.ensures (keys_of c.args.spans.now) c.requires.chained))

pub loop-walk-preserved : goal.loop-walk-preserved
loop-walk-preserved c =
    let spans = c.args.spans.now in
    let id = c.args.id.now in
    let befores = c.args.self.now.befores.items in
    let place = c.in-Some.place in
    let none = rw c.in-Some.is at c.loop-walk.invariant in
    let within : place < length spans = omega (arith, none.at.0, c.requires.chained.within, length-map spans (λ (span : Span). key_of span.id)) in
    let next = c.index-walk.result.now in
    let linked = c.requires.chained.linked place (key_of id) next (slice_get_read befores (length befores) place next refl none.at.0 c.index-walk.ensures) none.at.1 in
    HasNone-next spans id (entered c.args.self.now) place (get_or spans place c.index-spans-place.result) next (slice_get-get_or spans place c.index-spans-place.result within) (sym c.is_same.ensures ∙ c.if-is_same.false) none linked

pub loop-walk-smaller : goal.loop-walk-smaller
loop-walk-smaller c =
    let befores = c.args.self.now.befores.items in
    let place = c.in-Some.place in
    let none = rw c.in-Some.is at c.loop-walk.invariant in
    let next = c.index-walk.result.now in
    let linked = c.requires.chained.linked place (key_of c.args.id.now) next (slice_get_read befores (length befores) place next refl none.at.0 c.index-walk.ensures) none.at.1 in
    rw c.in-Some.is (omega (arith, up_to-within c.args.spans.now c.args.id.now place next linked.at))

pub returns-then-is_same : goal.returns-then-is_same
returns-then-is_same c =
    let spans = c.args.spans.now in
    let place = c.in-Some.place in
    let none = rw c.in-Some.is at c.loop-walk.invariant in
    let within : place < length spans = omega (arith, none.at.0, c.requires.chained.within, length-map spans (λ (span : Span). key_of span.id)) in
    IsLast-here spans c.args.id.now (entered c.args.self.now) place (get_or spans place c.index-spans-place.result) (slice_get-get_or spans place c.index-spans-place.result within) (sym c.is_same.ensures ∙ c.if-is_same.true) none

pub returns : goal.returns
returns c = IsLast-none c.args.spans.now c.args.id.now (entered c.args.self.now) (rw c.in_default.is at c.loop-walk.invariant)
