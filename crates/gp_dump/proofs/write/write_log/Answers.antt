use Rattle.gp_dump.proofs.WriteLemmas.{log-more}
use Rattle.gp_dump.proofs.write.write_log.Goals as goal

pub loop-place-preserved : goal.loop-place-preserved
loop-place-preserved c =
    log-more c.loop-place.out.items c.write_log_line.new.out.items c.args.out.now.items c.args.log.now.entries c.loop-place.place c.entry.result.now c.entry.ensures.entry c.loop-place.invariant c.in_ok-write_log_line.ensures.ok
