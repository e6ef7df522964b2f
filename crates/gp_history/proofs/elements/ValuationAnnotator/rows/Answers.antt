use Rattle.std.proofs.Common.{Contains, Global, List, Vec, subst, sym}
use Rattle.gp_algebra.specs.AnnotatedQueries.{Program}
use Rattle.gp_algebra.specs.Scans.{annotated_program_scans}
use Rattle.gp_algebra.specs.declared.plain.ScanAt.{ScanAt}
use Rattle.gp_kexec.specs.declared.held.Held.{Held}
use Rattle.gp_kexec.specs.Rows.{environment_view}
use Rattle.gp_kexec.specs.Running.{IsSomeTableProgram, RunsTable}
use Rattle.gp_kexec.specs.Valuing.{values_in}
use Rattle.gp_log.specs.Logs.{log_view}
use Rattle.gp_history.specs.Changes.{maker_program}
use Rattle.gp_history.specs.Images.{values_are_images}
use Rattle.gp_history.specs.Narrowing.{narrow_spans, narrow_versions}
use Rattle.gp_history.specs.Scanning.{AgreesOn}
use Rattle.gp_history.proofs.ElementLemmas.{asked_is_built, publishes}
use Rattle.gp_history.proofs.elements.ValuationAnnotator.rows.Goals as goal

pub run_k_table-requires : goal.run_k_table-requires
run_k_table-requires g c =
    let k = g.K.Semiring in
    let met = g.met.K.Semiring in
    let domain = values_in k c.args.self.now in
    let image = values_are_images met.laws k.number_of k.itself_of met.number_in met.itself_in c.args.self.now in
    let entries = log_view c.args._log.now.entries in
    subst (λ (program : Program). IsSomeTableProgram program) (sym c.requires.program)
    (asked_is_built domain image entries c.args._versions.now c.requires.sound c.args.of.now.before c.requires.within c.args.of.now.table)

pub returns : goal.returns
returns g c =
    let k = g.K.Semiring in
    let met = g.met.K.Semiring in
    let domain = values_in k c.args.self.now in
    let image = values_are_images met.laws k.number_of k.itself_of met.number_in met.itself_in c.args.self.now in
    let entries = log_view c.args._log.now.entries in
    let versions = c.args._versions.now in
    let known = c.args.known.now in
    let before = c.args.of.now.before in
    let table = c.args.of.now.table in
    let view = λ (rows : Vec (Held g.row.K.Denot) Global). rows.items in
    let agree : AgreesOn (annotated_program_scans (maker_program entries before table)) (environment_view c.in_ok-env.env) (narrow_versions known) =
    λ at there. c.in_ok-env.ensures at
    (subst (λ (scans : List ScanAt). Contains scans at) (sym c.deref.ensures.value)
    ((c.in_ok-asked.ensures.exact at).1 (subst (λ (program : Program). Contains (annotated_program_scans program) at) (sym c.requires.program) there))) in
    publishes domain image entries versions c.requires.sound before c.requires.within table (narrow_spans known) c.requires.fit known.most (narrow_versions known) c.requires.known c.in_ok-env.env agree view c.run_k_table.result
    (subst (λ (program : Program). RunsTable domain known.most view c.run_k_table.result c.in_ok-env.env program) c.requires.program c.run_k_table.ensures)
