use Rattle.gp_dumpline.proofs.SaidLaws as said
use Rattle.gp_dumpline.proofs.laws.said_lines_are_read_again.Goals as goal

pub returns-clause-said : goal.returns-clause-said
returns-clause-said c = λ x. (said.said-is x, said.is-said x)

pub returns-clause-command : goal.returns-clause-command
returns-clause-command c = said.line-said

pub returns-clause-begin : goal.returns-clause-begin
returns-clause-begin c = said.begin-said

pub returns-clause-commit : goal.returns-clause-commit
returns-clause-commit c = said.commit-said

pub returns-clause-rollback : goal.returns-clause-rollback
returns-clause-rollback c = said.rollback-said

pub returns-clause-lost : goal.returns-clause-lost
returns-clause-lost c = said.lost-said

pub returns-clause-name : goal.returns-clause-name
returns-clause-name c = said.said-name
