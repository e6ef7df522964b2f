use Rattle.std.proofs.Common.{Global, Vec, ap, ◌∙◌}
use Rattle.gp_base.specs.declared.row.Row.{Row}
use Rattle.gp_algebra.specs.Views.{select_view}
use Rattle.gp_dump.specs.Views.{dump_view}
use Rattle.gp_syntax.specs.Views.{point_view}
use Rattle.gp_ask.specs.declared.answered.Answered.TheVariants.{Listed, Refused}
use Rattle.gp_ask.proofs.ProvenanceLemmas.{is-listed, is-refused}
use Rattle.gp_ask.proofs.provenance.selected_provenance.Goals as goal

pub returns-in_ok-list-in-Ok-clause-answered : goal.returns-in_ok-list-in-Ok-clause-answered
returns-in_ok-list-in-Ok-clause-answered c =
    ap Listed c.in_ok-list-in-Ok.ensures ∙ is-listed (dump_view c.args.dump.now) (point_view c.args.state) (select_view c.args.select.now) (λ (rows : Vec Row Global). rows.items) c.in-Ok.rows c.in-Ok.ensures.answer

pub returns-in-Err-Refused-clause-answered : goal.returns-in-Err-Refused-clause-answered
returns-in-Err-Refused-clause-answered c =
    ap Refused c.in-Err-Refused.refusal-is
    ∙ is-refused (dump_view c.args.dump.now) (point_view c.args.state) (select_view c.args.select.now) (λ (rows : Vec Row Global). rows.items) c.in-Err-Refused.refusal
    (rw c.in-Err-Refused.field-0-is at c.in-Err-Refused.ensures.answer)
