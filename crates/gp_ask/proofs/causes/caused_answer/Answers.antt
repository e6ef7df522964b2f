use Rattle.std.proofs.Common.{ap, sym, ◌∙◌}
use Rattle.gp_dump.specs.Views.{dump_view}
use Rattle.gp_syntax.specs.Views.{query_view, subject_view}
use Rattle.gp_ask.specs.DifferenceForms.{causes_of, committed_writes, without_in}
use Rattle.gp_ask.specs.Differences.{rows_in}
use Rattle.gp_ask.specs.Computed.{what_if_answer}
use Rattle.gp_ask.proofs.causes.caused_answer.Goals as goal

pub returns-in-Err-clause-answered : goal.returns-in-Err-clause-answered
returns-in-Err-clause-answered c =
    let entries = (dump_view c.args.dump.now).entries in
    let without = without_in (what_if_answer entries) (subject_view c.args.subject.now) (query_view c.args.query.read.now) in
    sym (ap (causes_of without (committed_writes entries)) (sym (c.rows_in.ensures ∙ ap rows_in c.in_ok-answered.ensures.answered) ∙ c.in-Err.is))
