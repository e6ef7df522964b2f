use Rattle.std.proofs.Common.{arith}
use Rattle.std.proofs.lemmas.Result.{err_from_is_err_and}
use Rattle.gp_log.specs.Contents.{entries}
use Rattle.gp_reenact.specs.Reenacting.{spans_of}
use Rattle.gp_serial.proofs.StoppingLemmas.{checks_err, checks_none, checks_ok}
use Rattle.gp_serial.proofs.serializing.check_run.Goals as goal

pub returns-then-last-eq0 : goal.returns-then-last-eq0
returns-then-last-eq0 c =
    checks_none (entries c.args.log.now) (spans_of c.args.versions.now) c.args.t c.last_stopping-last.result c.if-last-eq0.true c.last_stopping-last.ensures.within c.last_stopping-last.ensures.last

pub returns-in_err-_last : goal.returns-in_err-_last
returns-in_err-_last c =
    let p = err_from_is_err_and c.from_residual.result c.from_residual.ensures.1 in
    rw (p.1, p.2) (checks_err (entries c.args.log.now) (spans_of c.args.versions.now) c.args.t c.last_stopping-last.result (omega (arith, c.if-last-eq0.false)) c.last_stopping-last.ensures.within
    c.last_stopping-last.ensures.last c.in_err-_last.field-0.0 c.in_err-_last.ensures)

pub returns : goal.returns
returns c =
    checks_ok (entries c.args.log.now) (spans_of c.args.versions.now) c.args.t c.last_stopping-last.result (omega (arith, c.if-last-eq0.false)) c.last_stopping-last.ensures.within c.last_stopping-last.ensures.last
    c.in_ok-_last._last c.in_ok-_last.ensures
