use Rattle.std.proofs.Common.{Contains, Global, List, Vec, ap, subst, sym, true, ◌∙◌}
use Rattle.gp_algebra.specs.declared.plain.ScanAt.{ScanAt}
use Rattle.gp_algebra.specs.Plain.{PlainEnvironment, program_meaning}
use Rattle.gp_algebra.specs.PlainViews.{program_view}
use Rattle.gp_algebra.specs.Scans.{AgreeOn, program_scans}
use Rattle.gp_algebra.specs.Stops.{program_stop}
use Rattle.gp_algebra.specs.WellBuilt.{is_well_built}
use Rattle.gp_base.specs.declared.row.Row.{Row}
use Rattle.gp_base.specs.declared.row_id.TheConstants.{MAX_NODES}
use Rattle.gp_base.specs.declared.limit.TheConstants.{MAX_TABLE_ROWS}
use Rattle.gp_exec.specs.Running.{environment_view}
use Rattle.gp_prov.specs.Encoding.{encoded}
use Rattle.gp_reenact.specs.Reenacting.{spans_of}
use Rattle.gp_history.specs.SpanAnnotations.{versions_with}
use Rattle.gp_history.proofs.ProvingLemmas.{answers_over}
use Rattle.gp_history.proofs.proving.rows_over.Goals as goal

pub run-requires : goal.run-requires
run-requires c = ap is_well_built c.in_ok-merged.ensures ∙ c.merged_programs_are_normal.ensures.built (program_view c.args.program.now) c.requires

pub returns : goal.returns
returns c =
    let env : PlainEnvironment = encoded true (versions_with (spans_of c.args.versions.now) c.args.known.now) in
    let meant = program_view c.args.program.now in
    let program = program_view c.in_ok-merged.merged in
    let scanned = environment_view c.in_ok-env.env in
    let agree : AgreeOn (program_scans program) scanned env =
    λ scan there. c.in_ok-env.ensures scan (subst (λ (scans : List ScanAt). Contains scans scan) (sym c.deref.ensures.value) ((c.in_ok-asked.ensures.exact scan).1 there)) in
    answers_over (λ (found : Vec Row Global). found.items) c.run.result c.in_ok-env.env env program meant
    (c.programs_read_their_scans.ensures.meaning program scanned env agree ∙ ap (program_meaning env) c.in_ok-merged.ensures ∙ c.merged_programs_mean_the_same.ensures.rows env meant c.requires)
    (c.programs_read_their_scans.ensures.stop MAX_TABLE_ROWS MAX_NODES program scanned env agree ∙ ap (program_stop MAX_TABLE_ROWS MAX_NODES env) c.in_ok-merged.ensures
    ∙ c.merged_programs_mean_the_same.ensures.stop MAX_TABLE_ROWS MAX_NODES env meant c.requires)
    c.run.ensures
