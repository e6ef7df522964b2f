use Rattle.gp_syntax.specs.Views.{question_view}
use Rattle.gp_ask.proofs.ReadLemmas.{read-valid}
use Rattle.gp_ask.proofs.valid.ValidQuestion.of_line.Goals as goal

pub invariant_of-result : goal.invariant_of-result
invariant_of-result c = record { valid = read-valid c.args.line.now (question_view c.in_ok-read.read) c.in_ok-read.ensures.exact }
