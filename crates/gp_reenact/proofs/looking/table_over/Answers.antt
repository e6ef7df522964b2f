use Rattle.std.proofs.Common.{subst, sym, Contains, Global, Vec}
use Rattle.gp_algebra.specs.declared.plain.ScanAt.{ScanAt}
use Rattle.gp_algebra.specs.PlainViews.{program_view}
use Rattle.gp_algebra.specs.Scans.{program_scans}
use Rattle.gp_base.specs.Annotated.{unannotated}
use Rattle.gp_base.specs.declared.row.Row.{Row}
use Rattle.gp_base.specs.declared.row_id.TheConstants.{MAX_NODES}
use Rattle.gp_base.specs.declared.limit.TheConstants.{MAX_TABLE_ROWS}
use Rattle.gp_reenact.specs.Encoding.{encoded}
use Rattle.gp_reenact.specs.Travel.{past_environment}
use Rattle.gp_reenact.proofs.LookingLemmas.{ends_in_table}
use Rattle.gp_reenact.proofs.looking.table_over.Goals as goal

pub returns : goal.returns
returns c =
    let scans = c.deref.result.now in
    let program = program_view c.args.program.now in
    let asked : (scan : ScanAt) → Contains (program_scans program) scan → Contains scans scan =
    λ scan there. subst (λ scans. Contains scans scan) (sym c.deref.ensures.value) ((c.in_ok-asked.ensures.exact scan).1 there) in
    ends_in_table (λ (found : Vec Row Global). found.items) c.run_table.result c.in_ok-env.env program (encoded (past_environment unannotated c.args.versions.now))
    (c.asked_scans_suffice.ensures.meaning c.args.versions.now scans c.in_ok-env.env program c.in_ok-env.ensures.scans asked)
    (c.asked_scans_suffice.ensures.stop MAX_TABLE_ROWS MAX_NODES c.args.versions.now scans c.in_ok-env.env program c.in_ok-env.ensures.scans asked)
    c.run_table.ensures
