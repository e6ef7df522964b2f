use Rattle.std.proofs.Common.{◌≡◌, ◌∷◌, ◌∙◌, List, Some, ap, arith, rules, subst, sym, take, length-take}
use Rattle.std.specs.Prelude.{slice_get}
use Rattle.std.proofs.lemmas.Option.{slice_get_within}
use Rattle.gp_base.specs.declared.table.Table.{Table}
use Rattle.gp_log.specs.Contents.{tables}
use Rattle.gp_log.specs.Kinds.{CreatesNew}
use Rattle.gp_log.specs.LogFacts.{tables_in}
use Rattle.gp_log.specs.declared.entry.What.TheVariants.{Create}
use Rattle.gp_machine.specs.Entries.{Created}
use Rattle.gp_serial.proofs.GrowingLogs.{created_next, new_name, pushed, tables_created}
use Rattle.gp_serial.proofs.log.push_tables.Goals as goal

pub append-requires-clause-new : goal.append-requires-clause-new
append-requires-clause-new c =
    let all = tables c.args.log.now in
    let place = c.loop-place.place in
    let here : slice_get all place ≡ Some c.table.result.now = subst (λ (ts : List Table). slice_get ts place ≡ Some c.table.result.now) c.catalog-catalog.ensures c.table.ensures in
    let same : c.in_ok-table.table ≡ c.table.result.now = search rules in (
      subst (λ (ts : List Table). CreatesNew ts (Create c.in_ok-table.table)) (sym (ap tables_in c.loop-place.invariant ∙ tables_created (take place all)))
          (subst (λ (table : Table). CreatesNew (take place all) (Create table)) (sym same)
          (omega (arith, length-take place all, slice_get_within all place c.table.result.now here, c.bounds.ensures.tables), new_name all place c.table.result.now c.bounds.ensures.names here)),
      tt,
    )

pub loop-place-preserved : goal.loop-place-preserved
loop-place-preserved c =
    let all = tables c.args.log.now in
    let place = c.loop-place.place in
    let here : slice_get all place ≡ Some c.table.result.now = subst (λ (ts : List Table). slice_get ts place ≡ Some c.table.result.now) c.catalog-catalog.ensures c.table.ensures in
    let same : c.in_ok-table.table ≡ c.table.result.now = search rules in
    pushed _ _ _ c.in_ok-append.ensures.ok
    ∙ (λ i. Created 0 0 (same i) ∷ c.loop-place.invariant i)
    ∙ sym (created_next all place c.table.result.now here)
