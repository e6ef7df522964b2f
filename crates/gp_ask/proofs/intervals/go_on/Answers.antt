use Rattle.std.proofs.Common.{◌≡◌, ◌∙◌, ◌+◌, ◌<◌, arith, length, suc, sym}
use Rattle.std.specs.List.{zip}
use Rattle.std.proofs.lemmas.Result.{err_from_is_err_and}
use Rattle.gp_algebra.specs.Views.{select_view}
use Rattle.gp_dump.specs.Dumps.{Dump}
use Rattle.gp_dump.specs.Views.{dump_view}
use Rattle.gp_ask.proofs.WhenLemmas.{step-again, step-many, step-refused, step-swept}
use Rattle.gp_ask.proofs.intervals.go_on.Goals as goal

pub returns-then-not-is_changed-clause-next : goal.returns-then-not-is_changed-clause-next
returns-then-not-is_changed-clause-next c =
    let dump : Dump = dump_view c.args.dump.now in
    let was = c.args.open.now in
    let next : c.args.before + 1 ≡ suc c.args.before = omega arith in
    step-again dump (select_view c.args.select.now) c.args.before (c.args.before + 1) next c.requires.within (zip was.rows.items was.froms.items) c.args.ended.now.items c.requires.known
    (sym c.is_changed.ensures ∙ c.if-not-is_changed.true)

pub returns-in_err-step-clause-next : goal.returns-in_err-step-clause-next
returns-in_err-step-clause-next c =
    let dump : Dump = dump_view c.args.dump.now in
    let was = c.args.open.now in
    let new = c.step.new.open in
    let next : c.args.before + 1 ≡ suc c.args.before = omega arith in
    let p = err_from_is_err_and c.from_residual.result c.from_residual.ensures.1 in
    rw (p.1, p.2) (step-refused dump (select_view c.args.select.now) c.args.before (c.args.before + 1) next c.requires.within (zip was.rows.items was.froms.items) c.args.ended.now.items c.requires.known
    c.in_err-step.field-0.0 (zip new.rows.items new.froms.items) c.step.new.ended.items c.in_err-step.ensures.steps)

pub returns-then-len-gt-MAX_ANSWER_ROWS-clause-next : goal.returns-then-len-gt-MAX_ANSWER_ROWS-clause-next
returns-then-len-gt-MAX_ANSWER_ROWS-clause-next c =
    let dump : Dump = dump_view c.args.dump.now in
    let select = select_view c.args.select.now in
    let was = c.args.open.now in
    let new = c.step.new.open in
    let next : c.args.before + 1 ≡ suc c.args.before = omega arith in
    let swept = step-swept dump select c.args.before (c.args.before + 1) next c.requires.within (zip was.rows.items was.froms.items) c.args.ended.now.items c.requires.known c.in_ok-step.field-0 (zip new.rows.items new.froms.items) c.step.new.ended.items c.in_ok-step.ensures.steps in
    let above : 50000 < length c.step.new.ended.items = omega (arith, c.len.ensures, c.if-len-gt-MAX_ANSWER_ROWS.true) in
    step-many dump select c.args.before (c.args.before + 1) next c.requires.within (zip was.rows.items was.froms.items) c.args.ended.now.items c.requires.known (zip new.rows.items new.froms.items) c.step.new.ended.items swept
    above
