use Rattle.std.proofs.Common.{◌∙◌, ap, length}
use Rattle.std.specs.List.{zip}
use Rattle.gp_ask.proofs.IntervalLemmas.{carried-length}
use Rattle.gp_ask.proofs.intervals.step.Goals as goal

pub returns-clause-beside : goal.returns-clause-beside
returns-clause-beside c =
    let was = c.args.open.now in
    ap length c.in_ok-froms.ensures.froms
    ∙ carried-length c.args.version (zip was.rows.items was.froms.items) c.deref.result.now
    ∙ ap length c.deref.ensures.value
