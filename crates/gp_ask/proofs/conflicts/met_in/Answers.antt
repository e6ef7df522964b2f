use Rattle.std.proofs.Common.{◌∙◌, ◌+◌, Option, ap, drop, sym, ℕ}
use Rattle.std.specs.BTreeMap.{get}
use Rattle.gp_base.specs.Identities.{identity_cmp}
use Rattle.gp_versions.specs.TableSpans.{least}
use Rattle.gp_ask.specs.ConflictForms.{met_at, met_in}
use Rattle.gp_ask.proofs.NotedLemmas.{least-then, met-more}
use Rattle.gp_ask.proofs.conflicts.met_in.Goals as goal

pub loop-span-preserved : goal.loop-span-preserved
loop-span-preserved c = λ id.
    let spans = c.args.spans.now in
    let place = c.loop-span.span-index in
    let own = c.span-item.result in
    let rest = met_in c.args.base c.args.upto id (drop (place + 1) spans) in
    ap (λ (found : Option ℕ). least found rest) (c.in_ok-note_span.ensures id)
    ∙ least-then (get identity_cmp c.loop-span.met id) (met_at c.args.base c.args.upto id own) rest
    ∙ ap (least (get identity_cmp c.loop-span.met id)) (sym (met-more c.args.base c.args.upto id spans place own c.loop-span-test.true c.span-item.is))
    ∙ c.loop-span.invariant id
