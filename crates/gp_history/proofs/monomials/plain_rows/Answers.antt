use Rattle.std.proofs.Common.{Contains, Global, List, Vec, ap, subst, sym, true, ◌∙◌}
use Rattle.gp_algebra.specs.declared.plain.ScanAt.{ScanAt}
use Rattle.gp_algebra.specs.Plain.{PlainEnvironment, program_meaning}
use Rattle.gp_algebra.specs.PlainViews.{program_view}
use Rattle.gp_algebra.specs.Scans.{AgreeOn, program_scans}
use Rattle.gp_algebra.specs.Stops.{program_stop}
use Rattle.gp_algebra.specs.WellBuilt.{is_well_built}
use Rattle.gp_base.specs.declared.row.Row.{Row}
use Rattle.gp_base.specs.declared.row_id.TheConstants.{MAX_NODES}
use Rattle.gp_exec.specs.Running.{environment_view}
use Rattle.gp_prov.specs.Encoding.{encoded}
use Rattle.gp_history.specs.Narrowing.{narrow_versions}
use Rattle.gp_history.proofs.RunLemmas.{runs_over}
use Rattle.gp_history.proofs.monomials.plain_rows.Goals as goal

pub run_table-requires : goal.run_table-requires
run_table-requires c = ap is_well_built c.in_ok-merged.ensures ∙ c.merged_programs_are_normal.ensures.built (program_view c.args.program.now) c.requires

pub returns : goal.returns
returns c =
    let env : PlainEnvironment = encoded true (narrow_versions c.args.known.now) in
    let most = c.args.known.now.most in
    let meant = program_view c.args.program.now in
    let program = program_view c.in_ok-merged.merged in
    let scanned = environment_view c.in_ok-env.env in
    let agree : AgreeOn (program_scans program) scanned env =
    λ scan there. c.in_ok-env.ensures scan (subst (λ (scans : List ScanAt). Contains scans scan) (sym c.deref.ensures.value) ((c.in_ok-asked.ensures.exact scan).1 there)) in
    runs_over most (λ (found : Vec Row Global). found.items) c.run_table.result c.in_ok-env.env env program meant
    (c.programs_read_their_scans.ensures.meaning program scanned env agree ∙ ap (program_meaning env) c.in_ok-merged.ensures ∙ c.merged_programs_mean_the_same.ensures.rows env meant c.requires)
    (c.programs_read_their_scans.ensures.stop most MAX_NODES program scanned env agree ∙ ap (program_stop most MAX_NODES env) c.in_ok-merged.ensures
    ∙ c.merged_programs_mean_the_same.ensures.stop most MAX_NODES env meant c.requires)
    c.run_table.ensures
