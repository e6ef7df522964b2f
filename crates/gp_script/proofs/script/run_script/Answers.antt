use Rattle.std.proofs.Common.{ℕ, List, subst}
use Rattle.gp_script.proofs.Progress.{IsProgress}
use Rattle.gp_script.proofs.ScriptLemmas.{starts, goes_on, on-err, stops_before, stops_after}
use Rattle.gp_script.proofs.script.run_script.Goals as goal

pub loop-line-init : goal.loop-line-init
loop-line-init c = rw c.new-text.ensures.items (starts c.args.script.now c.args.engine.now c.lines-rest.result c.requires.new c.lines-rest.ensures.lines)

pub returns-in_err-reply-clause-err : goal.returns-in_err-reply-clause-err
returns-in_err-reply-clause-err c =
    let so_far = c.loop-line in
    on-err c.from_residual.result (stops_before c.args.script.now so_far.engine c.answer_line.new.engine so_far.rest so_far.text.items so_far.refused so_far.invariant c.in_err-reply.ensures.err)

pub loop-line-preserved : goal.loop-line-preserved
loop-line-preserved c =
    let script = c.args.script.now in
    let so_far = c.loop-line in
    let line = c.in-Some.line in
    let way = subst (λ (lines : List (ℕ × List ℕ)). IsProgress script so_far.engine lines so_far.text.items so_far.refused) c.in-Some.ensures.steps so_far.invariant in
    let step = goes_on script so_far.engine c.answer_line.new.engine (line.number, line.bytes.now) c.next.new.self so_far.text.items so_far.refused c.in_ok-reply.reply way c.in_ok-reply.ensures.follows in
    rw (c.in_ok-write_reply.ensures.ok, c.catalog.ensures, c.is_refusal-refused.ensures) step

pub returns-in_err-write_reply-clause-err : goal.returns-in_err-write_reply-clause-err
returns-in_err-write_reply-clause-err c =
    let script = c.args.script.now in
    let so_far = c.loop-line in
    let line = c.in-Some.line in
    let way = subst (λ (lines : List (ℕ × List ℕ)). IsProgress script so_far.engine lines so_far.text.items so_far.refused) c.in-Some.ensures.steps so_far.invariant in
    on-err c.from_residual-in_err-write_reply.result
    (stops_after script so_far.engine c.answer_line.new.engine (line.number, line.bytes.now) c.next.new.self so_far.text.items so_far.refused c.in_ok-reply.reply way c.in_ok-reply.ensures.follows)
