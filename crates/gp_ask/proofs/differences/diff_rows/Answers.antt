use Rattle.std.proofs.Common.{◌≡◌, ◌+◌, nat_lt, Bool, true, false, cond, List, length, map, ap, ◌∙◌}
use Rattle.gp_base.specs.declared.limit.TheConstants.{MAX_ANSWER_ROWS}
use Rattle.gp_base.specs.declared.refusal.Refusal.TheVariants.{E27}
use Rattle.gp_ask.specs.declared.answered.Answered.TheVariants.{Diff, Refused}
use Rattle.gp_ask.specs.Deltas.{Signed, delta, with_sign}
use Rattle.gp_ask.specs.Differences.{diff_lines}
use Rattle.gp_ask.proofs.DeltaLemmas.{counted}
use Rattle.gp_ask.proofs.differences.diff_rows.Goals as goal

by_test : (lines : List Signed) (b : Bool) → b ≡ nat_lt MAX_ANSWER_ROWS (length lines) → cond b (Refused E27) (Diff (map with_sign lines)) ≡ diff_lines lines
by_test lines b is = ap (λ (t : Bool). cond t (Refused E27) (Diff (map with_sign lines))) is

pub returns-then-are_too_many : goal.returns-then-are_too_many
returns-then-are_too_many c =
    let lines = delta c.args.rows.now c.args.others.now in
    let sizes = c.delta_sizes.ensures in
    by_test lines true (c.if-are_too_many.ensures ∙ ap (nat_lt MAX_ANSWER_ROWS) (λ i. sizes.removed i + sizes.added i) ∙ ap (nat_lt MAX_ANSWER_ROWS) (counted lines))

pub returns : goal.returns
returns c =
    let lines = delta c.args.rows.now c.args.others.now in
    let sizes = c.delta_sizes.ensures in
    ap Diff c.in_ok-delta_rows.ensures
    ∙ by_test lines false (c.if-are_too_many.ensures ∙ ap (nat_lt MAX_ANSWER_ROWS) (λ i. sizes.removed i + sizes.added i) ∙ ap (nat_lt MAX_ANSWER_ROWS) (counted lines))
