use Rattle.std.proofs.Common.{◌∙◌, List, sym, subst}
use Rattle.gp_dump.specs.Views.{dump_view}
use Rattle.gp_machine.specs.Entries.{versions_in}
use Rattle.gp_versions.specs.Spans.{Versions}
use Rattle.gp_whatif.specs.Replays.{IsMade}
use Rattle.gp_ask.proofs.MadeRows.{found-none}
use Rattle.gp_ask.proofs.ProvenanceLemmas.{replayable}
use Rattle.gp_ask.proofs.made.unmade_refusal.Goals as goal

pub replay-requires : goal.replay-requires
replay-requires c = replayable (dump_view c.args.dump.now) c.requires.rules

pub compared-requires-clause-made : goal.compared-requires-clause-made
compared-requires-clause-made c =
    subst (λ (own : List Versions). IsMade (dump_view c.args.dump.now).entries (versions_in (dump_view c.args.dump.now).entries) own) (sym c.deref.ensures.value) c.in-Ok.ensures.made

pub returns-then-is_some-clause-refusal : goal.returns-then-is_some-clause-refusal
returns-then-is_some-clause-refusal c = found-none c.args.dump.now c.args.is_made.now c.requires.kept (sym c.is_some.ensures ∙ c.if-is_some.true)

pub remaking_refusal-requires-clause-replayable : goal.remaking_refusal-requires-clause-replayable
remaking_refusal-requires-clause-replayable c = replayable (dump_view c.args.dump.now) c.requires.rules
