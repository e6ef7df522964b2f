use Rattle.std.proofs.Common.{Global, Vec, ap, map, ◌∙◌, ◌≡◌}
use Rattle.std.proofs.lemmas.Result.{IfOk-weaker}
use Rattle.gp_algebra.specs.Views.{select_view}
use Rattle.gp_kexec.specs.Rows.{pair_view}
use Rattle.gp_dump.specs.Views.{dump_view}
use Rattle.gp_syntax.specs.Views.{rule_view, point_view}
use Rattle.gp_ask.specs.declared.answered.Answered.{Answered}
use Rattle.gp_ask.specs.declared.answered.Answered.TheVariants.{Refused}
use Rattle.gp_ask.specs.AskingForms.{dump_remaining}
use Rattle.gp_ask.specs.Counted.{counted_answer}
use Rattle.gp_ask.specs.Values.{rule_of}
use Rattle.gp_ask.proofs.DeletionLemmas.{none_remain, rows_remain}
use Rattle.gp_ask.proofs.deletion.selected_remaining.Goals as goal

pub returns-in-Ok-clause-answered : goal.returns-in-Ok-clause-answered
returns-in-Ok-clause-answered c =
    let dump = dump_view c.args.dump.now in
    let patterns = map rule_view c.args.rules.now in
    IfOk-weaker c.counted_rows.result (λ (a : Answered). a ≡ counted_answer (map pair_view c.in-Ok.rows.items))
    (λ (a : Answered). a ≡ dump_remaining (map rule_of patterns) dump (point_view c.args.state) (select_view c.args.select.now))
    (λ a is.
    is
    ∙ rows_remain dump patterns (c.in_ok-patterns.patterns.rules, c.in_ok-patterns.patterns.other) c.in_ok-patterns.ensures (point_view c.args.state) (select_view c.args.select.now)
    (λ (rows : Vec _ Global). map pair_view rows.items) c.in-Ok.rows c.in-Ok.ensures.answer)
    c.counted_rows.ensures

pub returns-in-Err-Refused-clause-answered : goal.returns-in-Err-Refused-clause-answered
returns-in-Err-Refused-clause-answered c =
    ap Refused c.in-Err-Refused.refusal-is
    ∙ none_remain (dump_view c.args.dump.now) (map rule_view c.args.rules.now) (c.in_ok-patterns.patterns.rules, c.in_ok-patterns.patterns.other) c.in_ok-patterns.ensures (point_view c.args.state) (select_view c.args.select.now)
    (λ (rows : Vec _ Global). map pair_view rows.items) c.in-Err-Refused.refusal (rw c.in-Err-Refused.field-0-is at c.in-Err-Refused.ensures.answer)
