use Rattle.std.proofs.Common.{◌+◌, ◌∙◌, arith, sym}
use Rattle.std.proofs.lemmas.Result.{err_from_is_err_and}
use Rattle.gp_base.specs.Annotated.{unannotated}
use Rattle.gp_log.specs.Contents.{entries}
use Rattle.gp_machine.specs.Entries.{statement_count}
use Rattle.gp_machine.specs.HistorySpans.{as_of}
use Rattle.gp_reenact.specs.Reenacting.{spans_of}
use Rattle.gp_serial.specs.Comparing.{next_does_same}
use Rattle.gp_serial.proofs.ComparingLemmas.{fails_first, no_refusal, stop_compares, told_same}
use Rattle.gp_serial.proofs.RunningLemmas.{stops_later}
use Rattle.gp_serial.proofs.serializing.does_same.Goals as goal

pub done-requires-clause-runs : goal.done-requires-clause-runs
done-requires-clause-runs c =
    let log = entries c.args.log.now in
    stops_later log c.args.t (statement_count c.args.t log) (c.loop-before.before + 1) (as_of unannotated (spans_of c.args.versions.now)) (omega (arith, c.loop-before-test.true, c.statement_count-before-end.ensures)) c.requires.unstopped

pub done-requires-in-loop-before-clause-runs : goal.done-requires-in-loop-before-clause-runs
done-requires-in-loop-before-clause-runs c =
    let log = entries c.args.log.now in
    stops_later (entries c.args.other.now) c.args.t (statement_count c.args.t log) (c.loop-before.before + 1) (as_of unannotated (spans_of c.args.made.now))
    (omega (arith, c.loop-before-test.true, c.statement_count-before-end.ensures)) c.requires.unstopped_other

pub returns-in_err-rows : goal.returns-in_err-rows
returns-in_err-rows c =
    let log = entries c.args.log.now in
    let spans = spans_of c.args.versions.now in
    let p = err_from_is_err_and c.from_residual.result c.from_residual.ensures.1 in
    rw (p.1, p.2) (stop_compares log spans (entries c.args.other.now) (spans_of c.args.made.now) c.args.t c.in_err-rows.field-0.0
    (no_refusal log spans c.args.t (statement_count c.args.t log) c.loop-before.before c.in_err-rows.field-0.0 (omega (arith, c.loop-before-test.true, c.statement_count-before-end.ensures))
    c.requires.unstopped c.in_err-rows.ensures))

pub returns-in_err-others : goal.returns-in_err-others
returns-in_err-others c =
    let log = entries c.args.log.now in
    let other = entries c.args.other.now in
    let p = err_from_is_err_and c.from_residual-in_err-others.result c.from_residual-in_err-others.ensures.1 in
    rw (p.1, p.2) (stop_compares log (spans_of c.args.versions.now) other (spans_of c.args.made.now) c.args.t c.in_err-others.field-0.0
    (no_refusal other (spans_of c.args.made.now) c.args.t (statement_count c.args.t log) c.loop-before.before c.in_err-others.field-0.0 (omega (arith, c.loop-before-test.true, c.statement_count-before-end.ensures))
    c.requires.unstopped_other c.in_err-others.ensures))

pub returns-then-not-is_same : goal.returns-then-not-is_same
returns-then-not-is_same c =
    let log = entries c.args.log.now in
    let spans = spans_of c.args.versions.now in
    let other = entries c.args.other.now in
    let made = spans_of c.args.made.now in
    let before = c.loop-before.before in
    sym (fails_first (next_does_same log spans other made c.args.t) (statement_count c.args.t log) before (omega (arith, c.loop-before-test.true, c.statement_count-before-end.ensures))
    (sym (told_same log spans other made c.args.t before c.in_ok-rows.rows c.in_ok-others.others (omega (arith, c.loop-before-test.true, c.statement_count-before-end.ensures))
    (c.requires.same before (omega (arith, c.loop-before-test.true, c.statement_count-before-end.ensures))) c.in_ok-rows.ensures c.in_ok-others.ensures)
    ∙ sym c.is_same.ensures ∙ c.if-not-is_same.true))
