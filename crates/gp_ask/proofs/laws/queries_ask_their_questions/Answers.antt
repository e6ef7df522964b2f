use Rattle.gp_dump.proofs.LawLemmas.{whole-text}
use Rattle.gp_dump.specs.WholeDumps.{IsDump}
use Rattle.gp_ask.proofs.SqlLemmas.{questions_ask}
use Rattle.gp_ask.proofs.laws.queries_ask_their_questions.Goals as goal

pub returns : goal.returns
returns c = λ bytes file dump questions formed are.
    let is : IsDump dump = (whole-text bytes dump formed).rules in
    questions_ask bytes file dump questions formed are (record {
      gives = c.queries_give_the_rows_of_programs.ensures.listed;
      spelled = c.queries_of_programs_are_spelled.ensures;
      queries = c.queries_of_programs_are_typed.ensures;
      typed = c.well_formed_dumps_are_typed.ensures.programs dump is;
    })
