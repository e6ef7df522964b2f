use Rattle.std.proofs.Common.{List, refl, subst, sym}
use Rattle.gp_dump.specs.Answerable.{IsAnswerable, as_dump}
use Rattle.gp_log.specs.Logs.{log_view}
use Rattle.gp_machine.specs.Entries.{versions_in}
use Rattle.gp_versions.specs.Spans.{Versions}
use Rattle.gp_whatif.specs.Replays.{IsMade}
use Rattle.gp_ask.proofs.FittingReplays.{replay_answerable}
use Rattle.gp_ask.proofs.remembering.remade.Goals as goal

pub invariant_of-result : goal.invariant_of-result
invariant_of-result c = record {
  answerable = subst (λ (own : List Versions). IsAnswerable (as_dump c.args.log own)) (sym c.from_vec-versions.ensures)
      (replay_answerable (log_view c.args.log.entries) c.requires.replayable c.in-Ok.versions.items c.in-Ok.ensures.made);
  valid = c.requires.valid;
}

pub returns-in-Ok : goal.returns-in-Ok
returns-in-Ok c = (
  refl,
  subst (λ (own : List Versions). IsMade (log_view c.args.log.entries) (versions_in (log_view c.args.log.entries)) own) (sym c.from_vec-versions.ensures) c.in-Ok.ensures.made,
)
