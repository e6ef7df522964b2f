use Rattle.std.proofs.Common.{ap, refl, sym, ◌∙◌, length, arith}
use Rattle.gp_dump.specs.Views.{dump_view}
use Rattle.gp_log.specs.Parameters.{parameters}
use Rattle.gp_syntax.specs.Views.{changes_view}
use Rattle.gp_whatif.specs.Replays.{IsMade}
use Rattle.gp_ask.proofs.hypothetical.what_if_answer.Goals as goal

-- no version of the log is none of the changed log, which has the same tables
pub what_if_from-requires-clause-made : goal.what_if_from-requires-clause-made
what_if_from-requires-clause-made c = λ new is.
    let none = c.in_ok-made.ensures.made in
    let tables = c.changed_logs_are_replayable.ensures.tables parameters (dump_view c.args.dump.now).entries new (changes_view c.args.changes.now) is in (
      rw c.in_ok-made.ensures.count (omega arith),
      rw c.in_ok-made.ensures.count (record { count = none.count ∙ ap length (sym tables); unstopped = refl; spans = λ place. none.spans place }),
    )
