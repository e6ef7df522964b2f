use Rattle.std.proofs.Common.{◌≡◌, ◌+◌, ◌-◌, arith, sym}
use Rattle.gp_dump.proofs.DisciplineLemmas.{newest-line}
use Rattle.gp_dump.proofs.rules.last_line.Goals as goal

pub returns-else-count-eq0 : goal.returns-else-count-eq0
returns-else-count-eq0 c =
    let by_one : c.len-count.result ≡ (c.len-count.result - 1) + 1 = omega (arith, c.if-count-eq0.false) in
    sym (newest-line c.args.log.now.entries c.len-count.result (c.len-count.result - 1) c.entry.result.now c.len-count.ensures by_one c.entry.ensures.entry)
