use Rattle.gp_typed.proofs.DumpTypes.{dump_is_typed, dump_program_is_typed, dump_spans_fit}
use Rattle.gp_typed.proofs.laws.well_formed_dumps_are_typed.Goals as goal

pub returns-clause-statements : goal.returns-clause-statements
returns-clause-statements c = dump_is_typed

pub returns-clause-programs : goal.returns-clause-programs
returns-clause-programs c = dump_program_is_typed

pub returns-clause-spans : goal.returns-clause-spans
returns-clause-spans c = dump_spans_fit
