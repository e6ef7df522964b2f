use Rattle.gp_dumpline.proofs.OneLine as one_line
use Rattle.gp_dumpline.proofs.laws.lines_are_one_line.Goals as goal

pub returns-clause-header : goal.returns-clause-header
returns-clause-header c = one_line.header-one_line

pub returns-clause-count : goal.returns-clause-count
returns-clause-count c = one_line.count-one_line

pub returns-clause-entry : goal.returns-clause-entry
returns-clause-entry c = one_line.entry-one_line

pub returns-clause-section : goal.returns-clause-section
returns-clause-section c = one_line.section-one_line

pub returns-clause-span : goal.returns-clause-span
returns-clause-span c = one_line.span-one_line

pub returns-clause-end : goal.returns-clause-end
returns-clause-end c = one_line.end-one_line
