use Rattle.std.proofs.Common.{ap, arith, map, subst, sym, ◌++◌, ◌∙◌}
use Rattle.std.specs.Prelude.{Option}
use Rattle.std.specs.Option.{option_to_list}
use Rattle.gp_log.specs.Logs.{log_view}
use Rattle.gp_ask.specs.declared.causes.Write.{Write}
use Rattle.gp_ask.specs.Writes.{AreWrites, write_view}
use Rattle.gp_ask.proofs.CausesLemmas.{all-writes, next-versions, next-writes}
use Rattle.gp_ask.proofs.causes.committed_writes.Goals as goal

pub loop-place-preserved : goal.loop-place-preserved
loop-place-preserved c =
    let entries = c.args.log.now.entries in
    let wrote = c.in_ok-push_write.ensures ∙ ap (λ (own : Option Write). c.loop-place.writes.items ++ option_to_list own) c.committed_write.ensures in (
      ap (map write_view) wrote ∙ next-writes entries c.loop-place.place c.entry.result.now c.entry.ensures.entry c.entry.ensures.number c.loop-place.writes.items c.loop-place.invariant.0,
      subst (AreWrites (log_view entries)) (sym wrote) (next-versions (log_view entries) c.entry.result.now c.loop-place.writes.items c.loop-place.invariant.1),
    )

pub returns-clause-statements : goal.returns-clause-statements
returns-clause-statements c = c.loop-place.invariant.0 ∙ all-writes c.args.log.now.entries c.loop-place.place (omega (arith, c.len-place-end.ensures, c.loop-place-test.false))
