use Rattle.std.proofs.Common.{◌≡◌, ◌+◌, ◌∙◌, ◌∷◌, ◌++◌, ℕ, List, [], length, sym, subst, arith}
use Rattle.gp_machine.specs.Entries as m
use Rattle.gp_log.specs.Indexing.{AreRead, Knows, begun}
use Rattle.gp_log.specs.declared.index.Known.{Known}
use Rattle.gp_log.proofs.IndexLemmas.{begun-known}
use Rattle.gp_log.proofs.ReadsLemmas.{reads_began}
use Rattle.gp_log.proofs.index.Index.begin.Goals as goal

pub returns-in-Ok-clause-index : goal.returns-in-Ok-clause-index
returns-in-Ok-clause-index c log line session newest old complete =
    let known = c.args.self.now.transactions.items in
    let makers = c.args.self.now.committers.items in
    let knows : Knows known makers log = old (sym c.in-Ok.ensures.flag ∙ complete) in
    let next : c.args.t ≡ length known + 1 = omega (arith, c.if-t-len.false, c.len.ensures) in
    subst (λ (list : List Known). Knows list c.push.new.self.committers.items (m.Began line session c.args.t c.args.read_committed ∷ log)) (sym c.in-Ok.ensures.transactions)
    (subst (λ (list : List ℕ). Knows (known ++ begun c.args.version c.args.read_committed ∷ []) list (m.Began line session c.args.t c.args.read_committed ∷ log)) (sym c.in-Ok.ensures.committers)
    (begun-known known makers log line session c.args.t c.args.version c.args.read_committed knows next newest))

pub returns-in-Ok-clause-reads : goal.returns-in-Ok-clause-reads
returns-in-Ok-clause-reads c log line session old complete =
    subst (λ (reads : List (List ℕ)). AreRead reads (m.Began line session c.args.t c.args.read_committed ∷ log)) (sym c.in-Ok.ensures.reads)
    (reads_began c.args.self.now.reads.items log line session c.args.t c.args.read_committed (old (sym c.in-Ok.ensures.flag ∙ complete)))
