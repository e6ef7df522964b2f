use Rattle.std.proofs.Common.{◌≡◌, ◌∙◌, ◌+◌, Global, List, Vec, ap, arith, subst, suc, sym}
use Rattle.std.specs.List.{zip}
use Rattle.std.proofs.lemmas.Result.{err_from_is_err_and}
use Rattle.gp_base.specs.declared.row.Row.{Row}
use Rattle.gp_algebra.specs.Views.{select_view}
use Rattle.gp_dump.specs.Dumps.{Dump}
use Rattle.gp_dump.specs.Views.{dump_view}
use Rattle.gp_machine.specs.Entries.{versions_in}
use Rattle.gp_ask.specs.declared.answered.Heading.TheVariants.{When}
use Rattle.gp_ask.specs.IntervalForms as f
use Rattle.gp_ask.specs.RowLines.{listed}
use Rattle.gp_ask.proofs.WhenLemmas.{first-refused, goes-refused, step-first, swept-last}
use Rattle.gp_ask.proofs.intervals.interval_rows.Goals as goal

pub returns-in_err-step : goal.returns-in_err-step
returns-in_err-step c =
    let dump : Dump = dump_view c.args.dump.now in
    let new = c.step.new.open in
    let p = err_from_is_err_and c.from_residual.result c.from_residual.ensures.1 in
    rw (p.1, p.2) (first-refused dump (select_view c.args.select.now) (λ (rows : Vec Row Global). rows.items) c.in_err-step.field-0.0 (zip c.new.result.items c.new-2.result.items) (zip new.rows.items new.froms.items) c.new-ended.result.items c.step.new.ended.items c.in_err-step.ensures.steps)

pub loop-before-init : goal.loop-before-init
loop-before-init c =
    let dump : Dump = dump_view c.args.dump.now in
    let new = c.step.new.open in
    record {
      beside = c.in_ok-step.ensures.beside;
      swept = step-first dump (select_view c.args.select.now) c.in_ok-step.field-0 (zip c.new.result.items c.new-2.result.items) (zip new.rows.items new.froms.items) c.new-ended.result.items c.step.new.ended.items
          (λ i. zip (c.new.ensures.items i) (c.new-2.ensures.items i)) c.new-ended.ensures.items c.in_ok-step.ensures.steps;
    }

pub returns-in_err-go_on : goal.returns-in_err-go_on
returns-in_err-go_on c =
    let dump : Dump = dump_view c.args.dump.now in
    let new = c.go_on.new.open in
    let p = err_from_is_err_and c.from_residual-in_err-go_on.result c.from_residual-in_err-go_on.ensures.1 in
    rw (p.1, p.2) (goes-refused dump (select_view c.args.select.now) (λ (rows : Vec Row Global). rows.items) c.loop-before.before c.in_err-go_on.field-0.0 (zip new.rows.items new.froms.items) c.go_on.new.ended.items c.in_err-go_on.ensures.next)

pub loop-before-preserved : goal.loop-before-preserved
loop-before-preserved c =
    let dump : Dump = dump_view c.args.dump.now in
    let new = c.go_on.new.open in
    let next : c.loop-before.before + 1 ≡ suc c.loop-before.before = omega arith in
    record {
      beside = c.in_ok-go_on.ensures.beside;
      swept = subst (λ n. f.IsSwept dump (select_view c.args.select.now) n (zip new.rows.items new.froms.items) c.go_on.new.ended.items) (sym next) c.in_ok-go_on.ensures.next;
    }

pub returns : goal.returns
returns c =
    let dump : Dump = dump_view c.args.dump.now in
    let select = select_view c.args.select.now in
    let was = c.loop-before.open in
    let old : List f.Open = zip was.rows.items was.froms.items in
    let all : c.loop-before.before ≡ versions_in dump.entries = omega (arith, c.commits-before-end.ensures, c.loop-before-test.false) in
    ap (listed When) c.in_ok-push_open.ensures
    ∙ swept-last dump select c.requires.fits old c.loop-before.ended.items (subst (λ n. f.IsSwept dump select n old c.loop-before.ended.items) all c.loop-before.invariant.swept)
