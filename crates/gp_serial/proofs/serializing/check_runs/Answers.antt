use Rattle.std.proofs.Common.{◌∙◌, ap, add-one, arith}
use Rattle.std.proofs.lemmas.Result.{err_from_is_err_and}
use Rattle.gp_log.specs.Contents.{entries}
use Rattle.gp_machine.specs.Entries.{committer_of, versions_in}
use Rattle.gp_machine.specs.Questions.{is_known}
use Rattle.gp_reenact.specs.Reenacting.{spans_of}
use Rattle.gp_serial.proofs.RefusalLemmas.{none_next, refused_here}
use Rattle.gp_serial.proofs.SerializingLemmas.{maker_known}
use Rattle.gp_serial.proofs.serializing.check_runs.Goals as goal

pub check_run-requires-clause-known : goal.check_run-requires-clause-known
check_run-requires-clause-known c =
    let log = entries c.args.log.now in
    ap (λ t. is_known t log) (c.maker.ensures ∙ ap (λ v. committer_of v log) (add-one c.loop-before.before))
    ∙ maker_known log c.requires.rules.sessions c.loop-before.before (omega (arith, c.loop-before-test.true, c.commits-before-end.ensures))

pub returns-in_err-check_run : goal.returns-in_err-check_run
returns-in_err-check_run c =
    let log = entries c.args.log.now in
    let p = err_from_is_err_and c.from_residual.result c.from_residual.ensures.1 in
    rw (p.1, p.2) (refused_here log (spans_of c.args.versions.now) (versions_in log) c.loop-before.before c.maker.result c.in_err-check_run.field-0.0
    (omega (arith, c.loop-before-test.true, c.commits-before-end.ensures)) c.maker.ensures c.loop-before.invariant c.in_err-check_run.ensures)

pub loop-before-preserved : goal.loop-before-preserved
loop-before-preserved c =
    none_next (entries c.args.log.now) (spans_of c.args.versions.now) c.loop-before.before c.maker.result c.maker.ensures c.loop-before.invariant c.in_ok-check_run.ensures
