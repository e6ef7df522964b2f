use Rattle.std.proofs.Common.{length}
use Rattle.gp_log.specs.LogFacts.{tables_in}
use Rattle.gp_whatif.proofs.BeyondLemmas.{replayed_beyond}
use Rattle.gp_whatif.proofs.laws.replays_have_the_tables_of_their_logs.Goals as goal

pub returns : goal.returns
returns c entries is place beyond u = replayed_beyond (tables_in entries) place beyond entries is.tables (length (tables_in entries)) u
