use Rattle.std.proofs.Common.{ap, ◌∙◌}
use Rattle.gp_syntax.specs.Views.{point_view}
use Rattle.gp_algebra.specs.AnnotatedQueries.{Program}
use Rattle.gp_algebra.specs.Statements.{width_of}
use Rattle.gp_algebra.specs.Views.{select_view}
use Rattle.gp_algebra.specs.WellBuilt.{is_well_built}
use Rattle.gp_log.specs.LogFacts.{tables_in}
use Rattle.gp_log.specs.Logs.{log_view}
use Rattle.gp_prov.specs.ToPlain.{plain_program}
use Rattle.gp_reenact.proofs.ReplayLemmas.{plain_is_built}
use Rattle.gp_reenact.proofs.replay.planned.Goals as goal

pub merged_program-requires : goal.merged_program-requires
merged_program-requires c =
    let entries = log_view c.args.log.now.entries in
    let composed = c.in-Ok.ensures in
    ap (λ (program : Program). is_well_built (plain_program (width_of (tables_in entries)) c.args.with_prov program)) composed.1
    ∙ plain_is_built entries (select_view c.args.select.now) c.requires.statements c.requires.fits (point_view c.args.state) composed.0 c.args.with_prov
