use Rattle.std.proofs.Common.{false, Global, Vec, refl}
use Rattle.gp_base.specs.declared.row.Row.{Row}
use Rattle.gp_syntax.specs.Views.{point_view}
use Rattle.gp_algebra.specs.Views.{select_view}
use Rattle.gp_log.specs.Logs.{log_view}
use Rattle.gp_reenact.specs.Programs.{merged_at}
use Rattle.gp_reenact.proofs.BackendLemmas.{executed_reenacts}
use Rattle.gp_reenact.proofs.ReplayLemmas.{planned_replays}
use Rattle.gp_reenact.proofs.replay.reenact.Goals as goal

pub returns : goal.returns
returns c =
    let entries = log_view c.args.log.now.entries in
    let versions = c.args.versions.now in
    let point = point_view c.args.state in
    let select = select_view c.args.select.now in
    let program = merged_at false entries point select in
    executed_reenacts (λ (rows : Vec Row Global). rows.items) entries versions point select program
    (planned_replays entries versions select c.requires.query.statements c.requires.spans c.requires.query.fits point program refl) c.reenact_by.result c.reenact_by.ensures
