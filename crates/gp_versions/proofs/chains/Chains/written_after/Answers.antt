use Rattle.std.proofs.Common.{◌<◌, length, take, refl, subst, ◌∙◌, arith}
use Rattle.std.proofs.lemmas.List.{length-map}
use Rattle.std.proofs.lemmas.Option.{slice_get_read}
use Rattle.gp_versions.specs.declared.span.Span.{Span}
use Rattle.gp_versions.specs.Chains.{IsLast, entered, keys_of, up_to}
use Rattle.gp_versions.specs.Keys.{key_of}
use Rattle.gp_versions.specs.TableSpans.{written_after}
use Rattle.gp_versions.proofs.ChainLemmas.{IsKeyAt-within, LeadsTo-last, least-none, step}
use Rattle.gp_versions.proofs.chains.Chains.written_after.Goals as goal

pub loop-walk-init : goal.loop-walk-init
loop-walk-init c =
    let leads = LeadsTo-last c.args.spans.now c.args.id.now c.args.v (entered c.args.self.now) c.newest-walk.result
    (subst (λ key. IsLast (keys_of c.args.spans.now) key (entered c.args.self.now) c.newest-walk.result) c.key_of.ensures (c.newest-walk.ensures (keys_of c.args.spans.now) c.requires.chained)) in
    record {
      at = leads.at;
      after = least-none (written_after c.args.id.now c.args.v (take (up_to c.newest-walk.result) c.args.spans.now)) ∙ leads.after;
    }

pub loop-walk-preserved : goal.loop-walk-preserved
loop-walk-preserved c =
    let spans = c.args.spans.now in
    let place = c.in-Some.place in
    let here = rw c.in-Some.is at c.loop-walk.invariant.at in
    let within : place < length spans = omega (arith, here.0, c.requires.chained.within, length-map spans (λ (span : Span). key_of span.id)) in
    let span = c.index-spans-place.result in
    record {
      at = IsKeyAt-within spans c.args.id.now place (entered c.args.self.now) c.earlier-walk.result (omega (arith, here.0)) c.earlier-walk.ensures.at;
      after = rw (c.lesser-found.ensures, c.change_after.ensures)
          (step spans c.args.id.now c.args.v place span c.earlier-walk.result c.loop-walk.found (written_after c.args.id.now c.args.v (take (entered c.args.self.now) spans))
          (slice_get_read spans (length spans) place span refl within c.index-spans-place.is) c.earlier-walk.ensures (rw c.in-Some.is at c.loop-walk.invariant.after));
    }
