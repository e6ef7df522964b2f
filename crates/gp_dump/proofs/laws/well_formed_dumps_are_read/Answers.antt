use Rattle.gp_dump.proofs.FaultLemmas.{kept-found, kept-is}
use Rattle.gp_dump.proofs.LawLemmas.{text-lines, whole-text}
use Rattle.gp_dump.proofs.laws.well_formed_dumps_are_read.Goals as goal

pub returns-clause-read : goal.returns-clause-read
returns-clause-read c = kept-is

pub returns-clause-only : goal.returns-clause-only
returns-clause-only c = kept-found

pub returns-clause-whole : goal.returns-clause-whole
returns-clause-whole c = whole-text

pub returns-clause-lines : goal.returns-clause-lines
returns-clause-lines c = text-lines
