use Rattle.gp_algebra.proofs.ScanLemmas.{program_meaning_agrees, program_stop_agrees}
use Rattle.gp_algebra.proofs.laws.programs_read_their_scans.Goals as goal

pub returns-clause-meaning : goal.returns-clause-meaning
returns-clause-meaning c program env other agree = program_meaning_agrees env other program agree

pub returns-clause-stop : goal.returns-clause-stop
returns-clause-stop c most_rows most_nodes program env other agree = program_stop_agrees env other most_rows most_nodes program agree
