use Rattle.std.proofs.Common.{arith}
use Rattle.gp_base.proofs.WritingLemmas.{prefixes}
use Rattle.gp_base.proofs.join.write_from.Goals as goal

pub returns-in_err-write-clause-err : goal.returns-in_err-write-clause-err
returns-in_err-write-clause-err g c = grind (arith, prefixes)

pub returns-in_err-write_others-clause-err : goal.returns-in_err-write_others-clause-err
returns-in_err-write_others-clause-err g c = grind (arith, prefixes)
