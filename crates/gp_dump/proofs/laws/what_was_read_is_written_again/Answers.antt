use Rattle.gp_dump.proofs.LawLemmas.{rows-apart, rows-whole, written-again, written-same, written-well-formed}
use Rattle.gp_dump.proofs.laws.what_was_read_is_written_again.Goals as goal

pub returns-clause-again : goal.returns-clause-again
returns-clause-again c = written-again

pub returns-clause-written : goal.returns-clause-written
returns-clause-written c = written-well-formed

pub returns-clause-same : goal.returns-clause-same
returns-clause-same c = written-same

pub returns-clause-apart : goal.returns-clause-apart
returns-clause-apart c = rows-apart

pub returns-clause-whole : goal.returns-clause-whole
returns-clause-whole c = rows-whole
