use Rattle.std.proofs.Common.{sym, ◌∙◌}
use Rattle.gp_log.proofs.FindingLemmas.{statement-found}
use Rattle.gp_log.proofs.log.Log.statement.Goals as goal

pub returns-then-is_own : goal.returns-then-is_own
returns-then-is_own c =
    c.statement_of.ensures
    ∙ statement-found c.args.self.now.entries c.loop-place.place c.entry-entry.result.now c.entry-entry.ensures.entry c.entry-entry.ensures.number c.args.t c.args.k (sym c.is_own.ensures ∙ c.if-is_own.true)
