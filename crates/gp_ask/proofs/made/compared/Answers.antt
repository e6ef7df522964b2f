use Rattle.std.proofs.Common.{◌∙◌, Bool, List, ap, length, subst, sym}
use Rattle.gp_versions.specs.Spans.{Versions}
use Rattle.gp_ask.specs.MadeForms.{AreDiffering}
use Rattle.gp_ask.proofs.ProvenanceLemmas.{sound}
use Rattle.gp_ask.proofs.made.compared.Goals as goal

pub differing_tables-requires : goal.differing_tables-requires
differing_tables-requires c =
    c.requires.made.count ∙ sym (sound c.args.dump.now).tables ∙ ap length (sym c.as_slice.ensures)

pub decided-requires-clause-flags : goal.decided-requires-clause-flags
decided-requires-clause-flags c =
    subst (λ (flags : List Bool). AreDiffering c.args.dump.now.versions c.args.made.now flags) (sym c.deref.ensures.value)
    (subst (λ (own : List Versions). AreDiffering own c.args.made.now c.in_ok-flags.flags.items) c.as_slice.ensures c.in_ok-flags.ensures)
