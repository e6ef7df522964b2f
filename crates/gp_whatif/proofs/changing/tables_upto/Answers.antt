use Rattle.std.proofs.Common.{◌∙◌, ◌++◌, List, ap, subst, sym}
use Rattle.gp_base.specs.declared.table.Table.{Table}
use Rattle.gp_log.specs.Kinds.{CreatesNew, created_by}
use Rattle.gp_whatif.proofs.ChangingLemmas.{creates_new, tables_next}
use Rattle.gp_whatif.proofs.changing.tables_upto.Goals as goal

pub add_created-requires : goal.add_created-requires
add_created-requires c =
    subst (λ (tables : List Table). CreatesNew tables c.entry.result.now.what) (sym c.loop-before.invariant)
    (creates_new c.args.log.now.entries c.loop-before.before c.entry.result.now c.bounds.ensures.names
    c.bounds.ensures.tables c.entry.ensures.entry)

pub loop-before-preserved : goal.loop-before-preserved
loop-before-preserved c =
    c.in_ok-add_created.ensures.ok
    ∙ (ap (λ (tables : List Table). tables ++ created_by c.entry.result.now.what) c.loop-before.invariant
    ∙ sym (tables_next c.args.log.now.entries c.loop-before.before c.entry.result.now c.entry.ensures.entry))
