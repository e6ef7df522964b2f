use Rattle.std.proofs.Common.{Contains, Global, List, Vec, subst, sym}
use Rattle.gp_algebra.specs.QueryViews.{annotated_program_view}
use Rattle.gp_algebra.specs.Scans.{annotated_program_scans}
use Rattle.gp_algebra.specs.declared.plain.ScanAt.{ScanAt}
use Rattle.gp_kexec.specs.declared.env.KRow.{KRow}
use Rattle.gp_kexec.specs.Rows.{environment_view}
use Rattle.gp_kexec.specs.Valuing.{values_in}
use Rattle.gp_reenact.specs.Reenacting.{spans_of}
use Rattle.gp_history.specs.Scanning.{AgreesOn}
use Rattle.gp_history.specs.SpanAnnotations.{versions_with}
use Rattle.gp_history.proofs.ElementLemmas.{sums_are}
use Rattle.gp_history.proofs.valuing.sums_over.Goals as goal

pub returns : goal.returns
returns g c =
    let k = g.K.Semiring in
    let domain = values_in k c.args.valuation.now in
    let program = annotated_program_view c.args.program.now in
    let env = versions_with (spans_of c.args.versions.now) c.args.known.now in
    let agree : AgreesOn (annotated_program_scans program) (environment_view c.in_ok-env.env) env =
    λ at there. c.in_ok-env.ensures at (subst (λ (scans : List ScanAt). Contains scans at) (sym c.deref.ensures.value) ((c.in_ok-asked.ensures.exact at).1 there)) in
    sums_are domain k.plus_of (λ (rows : Vec (KRow g.row.K.Denot) Global). rows.items) c.run_k.result c.in_ok-env.env env program agree c.run_k.ensures
