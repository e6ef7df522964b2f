use Rattle.std.proofs.Common.{◌+◌, arith}
use Rattle.gp_algebra.specs.Views.{statement_view}
use Rattle.gp_engine.proofs.RunningLemmas.{wrote_accepted}
use Rattle.gp_engine.specs.declared.running.Running.{Running}
use Rattle.gp_engine.proofs.running.Running.write.Goals as goal

pub returns-in-Ok-clause-accepted : goal.returns-in-Ok-clause-accepted
returns-in-Ok-clause-accepted c =
    let old = c.args.self.now in
    let k = old.statements + 1 in
    let new : Running = record { active = c.apply.new.self; statements = k } in
    wrote_accepted c.args.catalog.now c.args.versions.now c.args.newest old new c.in-Ok.rows c.requires.last (omega arith)
    k c.snapshot-version.result (omega arith) c.snapshot-version.ensures (statement_view c.args.stmt.now) c.requires.writes c.in-Ok.ensures
