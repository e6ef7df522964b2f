use Rattle.std.proofs.Common.{arith, ◌≤◌}
use Rattle.gp_log.specs.Logs.{log_view}
use Rattle.gp_reenact.specs.Reenacting.{spans_of}
use Rattle.gp_history.specs.Keeping.{GoesOn, Reaches}
use Rattle.gp_history.proofs.KeepingLemmas.{kept_reaches, kept_stops}
use Rattle.gp_history.proofs.kept.annotate_on.Goals as goal

pub returns-in-Err : goal.returns-in-Err
returns-in-Err g c =
    let domain = g.N.Annotator.domain c.args.annotator.now in
    let entries = log_view c.args.log.now.entries in
    let spans = spans_of c.args.versions.now in
    kept_stops domain entries spans (GoesOn domain entries spans c.loop-known.known.version) (Reaches domain entries spans c.args.v) c.loop-known.known c.args.v c.in-Err.stop
    (omega (arith, c.loop-known-test.true)) c.in-Err.ensures

pub returns : goal.returns
returns g c =
    let domain = g.N.Annotator.domain c.args.annotator.now in
    let entries = log_view c.args.log.now.entries in
    let spans = spans_of c.args.versions.now in
    let far : c.args.v ≤ c.loop-known.known.version = omega (arith, c.loop-known-test.false) in
    kept_reaches domain entries spans c.loop-known.known c.args.v c.loop-known.invariant far
