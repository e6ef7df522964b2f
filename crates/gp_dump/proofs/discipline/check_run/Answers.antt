use Rattle.std.proofs.Common.{Ok, Err, arith}
use Rattle.gp_algebra.specs.Views.{statement_view}
use Rattle.gp_log.specs.Contents.{entries}
use Rattle.gp_syntax.specs.Views.{command_view}
use Rattle.gp_dump.proofs.DisciplineLemmas.{run-checked}
use Rattle.gp_dump.proofs.discipline.check_run.Goals as goal

pub returns-in-Ok-clause-entry : goal.returns-in-Ok-clause-entry
returns-in-Ok-clause-entry c line session =
    run-checked (entries c.args.log.now) line session c.in-Some.t c.args.active (command_view c.args.command.now) c.catalog.result.now (Ok (statement_view c.in-Ok.stmt)) c.in-Some.is c.requires
    (omega (arith, c.if-ran-ge-MAX_STEPS.false, c.statement_count-ran.ensures)) (omega (arith, c.if-statements-ge-MAX_STATEMENTS.false, c.statements.ensures))
    c.catalog.ensures c.in-Ok.ensures.checked

pub returns-in-Err-Refused-clause-entry : goal.returns-in-Err-Refused-clause-entry
returns-in-Err-Refused-clause-entry c line session =
    run-checked (entries c.args.log.now) line session c.in-Some.t c.args.active (command_view c.args.command.now) c.catalog.result.now (Err c.in-Err-Refused.field-0-0) c.in-Some.is c.requires
    (omega (arith, c.if-ran-ge-MAX_STEPS.false, c.statement_count-ran.ensures)) (omega (arith, c.if-statements-ge-MAX_STATEMENTS.false, c.statements.ensures))
    c.catalog.ensures (rw c.in-Err-Refused.field-0-is at c.in-Err-Refused.ensures.checked)
