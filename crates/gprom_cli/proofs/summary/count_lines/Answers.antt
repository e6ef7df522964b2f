use Rattle.std.proofs.Common.{ℕ, List, subst, ◌∙◌, arith}
use Rattle.gp_syntax.specs.Lines.{script_lines}
use Rattle.gprom_cli.proofs.CountingLemmas.{IsCounted, one, counts-none, counts-more, counts-all, total-one}
use Rattle.gprom_cli.proofs.summary.count_lines.Goals as goal

pub loop-line-init : goal.loop-line-init
loop-line-init c = counts-none one 1 c.args.text.now c.lines-rest.result c.lines-rest.ensures.lines c.lines-rest.ensures.increasing

pub loop-line-preserved : goal.loop-line-preserved
loop-line-preserved c =
    let text = c.args.text.now in
    let so_far = c.loop-line in
    let line = c.in-Some._line in
    let way = subst (λ (left : List (ℕ × List ℕ)). IsCounted one 1 (script_lines text) left so_far.count) c.in-Some.ensures.steps so_far.invariant in
    counts-more one 1 text (line.number, line.bytes.now) c.next.new.self so_far.count way (omega arith)

pub returns : goal.returns
returns c =
    counts-all one 1 c.args.text.now c.loop-line.rest c.loop-line.count c.in_default.ensures.steps.0 c.loop-line.invariant ∙ total-one (script_lines c.args.text.now)
