use Rattle.gp_dump.proofs.LawLemmas.{whole-text}
use Rattle.gp_dump.specs.WholeDumps.{IsDump}
use Rattle.gp_dump.proofs.AnswerableLemmas.{answerable}
use Rattle.gp_ask.proofs.laws.row_versions_are_stored.Goals as goal

pub returns : goal.returns
returns c = λ bytes dump formed.
    let is : IsDump dump = (whole-text bytes dump formed).rules in
    record { tables = (answerable dump is).tables; typed = c.well_formed_dumps_are_typed.ensures.spans dump is }
