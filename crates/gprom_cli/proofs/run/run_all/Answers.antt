use Rattle.std.proofs.Common.{◌≡◌, ◌∙◌, ap}
use Rattle.gp_base.specs.Annotated.{unannotated}
use Rattle.gp_log.specs.Logs.{log_view}
use Rattle.gp_script.specs.Scripts.{final_state}
use Rattle.gp_dump.specs.Dumps.{dump_of, written_text}
use Rattle.gp_dump.specs.WholeDumps.{dump_with}
use Rattle.gp_dump.specs.Views.{tables_view}
use Rattle.gp_replay.proofs.EngineLemmas.{engine-dump}
use Rattle.gprom_cli.proofs.run.run_all.Goals as goal

-- the engine has the row versions of each of its tables
pub write_dump-requires : goal.write_dump-requires
write_dump-requires c = record { same = rw (c.versions.ensures.versions, c.log.ensures) c.versions.ensures.tables }

pub returns-clause-dump : goal.returns-clause-dump
returns-clause-dump c =
    let state = final_state unannotated c.args.script.now in
    let same : dump_with (log_view c.log.result.now.entries) (tables_view c.versions.result.now) ≡ dump_of state =
    rw (c.versions.ensures.versions, c.log.ensures) (engine-dump c.run_script.new.engine state c.versions.ensures.tables c.in_ok-output.ensures.engine) in
    c.in_ok-dump.ensures.text ∙ ap written_text same
