use Rattle.gp_dump.proofs.LawLemmas as law
use Rattle.gp_dump.proofs.laws.one_text_for_one_dump.Goals as goal

pub returns-clause-one_dump : goal.returns-clause-one_dump
returns-clause-one_dump c = law.one-dump

pub returns-clause-one_text : goal.returns-clause-one_text
returns-clause-one_text c = law.one-text

pub returns-clause-no_fault : goal.returns-clause-no_fault
returns-clause-no_fault c = law.no-fault

pub returns-clause-found : goal.returns-clause-found
returns-clause-found c = law.dump-found

pub returns-clause-fault : goal.returns-clause-fault
returns-clause-fault c = law.fault-excludes
