use Rattle.std.proofs.Common.{refl, ◌+◌}
use Rattle.gp_log.specs.Logs.{log_view}
use Rattle.gp_machine.specs.Entries.{begin_version}
use Rattle.gp_history.proofs.ReachLemmas.{covers}
use Rattle.gp_history.proofs.narrowed.reach_of.Goals as goal

pub returns : goal.returns
returns c =
    let entries = log_view c.args.log.now.entries in
    covers entries c.args.t c.args.before c.begin_version.result (c.args.before + 1) c.requires.sessions c.requires.within c.requires.maker c.begin_version.ensures refl
