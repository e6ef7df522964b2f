use Rattle.std.proofs.Common.{◌∷◌, List, ℕ, ap, arith, subst, sym, ◌∙◌}
use Rattle.std.proofs.lemmas.List.{with_items_is}
use Rattle.gp_machine.specs.Entries as m
use Rattle.gp_log.specs.Indexing.{AreNoted, AreRead}
use Rattle.gp_log.specs.declared.index.Known.{Known}
use Rattle.gp_log.proofs.ReadsLemmas.{reads_noted, reads_ran}
use Rattle.gp_log.proofs.index.Index.note_read.Goals as goal

pub returns-in-Ok-clause-reads : goal.returns-in-Ok-clause-reads
returns-in-Ok-clause-reads c log line session command statement newest next index reads complete =
    let old = c.args.self.now.reads.items in
    let level = sym (ap (λ (known : Known). known.read_committed) (c.in-Some.ensures.known log index)) ∙ c.if-known.true in
    let noted : AreNoted c.args.t c.args.k c.args.commits old c.note_version.new.reads =
    subst (λ (some : List (List ℕ)). AreNoted c.args.t c.args.k c.args.commits some c.note_version.new.reads) c.deref_mut.ensures.value c.in-Ok.ensures in
    let written = with_items_is c.args.self.now.reads c.note_version.new.reads (omega (arith, c.note_version.auto.reads, c.deref_mut.ensures.len)) in
    subst (λ (some : List (List ℕ)). AreRead some (m.Ran line session command c.args.t statement ∷ log)) (sym written)
    (reads_noted log line session command c.args.t statement c.args.k c.args.commits old c.note_version.new.reads next level newest (reads complete) noted)

pub returns-else-known-clause-reads : goal.returns-else-known-clause-reads
returns-else-known-clause-reads c log line session command statement newest next index reads complete = reads_ran log line session command c.args.t statement c.args.self.now.reads.items (reads complete)

pub returns-clause-reads : goal.returns-clause-reads
returns-clause-reads c log line session command statement newest next index reads complete = reads_ran log line session command c.args.t statement c.args.self.now.reads.items (reads complete)
