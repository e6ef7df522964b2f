use Rattle.std.proofs.Common.{arith, sym, ◌∙◌}
use Rattle.gp_log.specs.Logs.{log_view}
use Rattle.gp_log.proofs.VersionLemmas.{none-read}
use Rattle.gp_log.proofs.log.Log.version_read_by.Goals as goal

pub returns-in-None : goal.returns-in-None
returns-in-None c = none-read c.args.t c.args.k (log_view c.args.self.now.entries) (omega (arith, c.if-k-eq0.false)) (sym c.in-None.is ∙ c.statement_version.ensures)
