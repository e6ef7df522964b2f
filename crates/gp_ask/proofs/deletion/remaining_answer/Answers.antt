use Rattle.gp_ask.proofs.FewLemmas.{checked-few}
use Rattle.gp_algebra.specs.Views.{select_view}
use Rattle.gp_dump.specs.Views.{dump_view}
use Rattle.gp_log.specs.LogFacts.{tables_in}
use Rattle.gp_machine.specs.Questions.{log_refusal}
use Rattle.gp_syntax.specs.Views.{query_view, point_view}
use Rattle.gp_ask.proofs.deletion.remaining_answer.Goals as goal

pub selected_remaining-requires-clause-few : goal.selected_remaining-requires-clause-few
selected_remaining-requires-clause-few c =
    let entries = (dump_view c.args.dump.now).entries in
    checked-few (tables_in entries) (query_view c.args.query.read.now) (select_view c.in-Ok.select) (log_refusal entries (point_view c.args.state)) c.args.query.few c.in-Ok.ensures.checked
