use Rattle.std.proofs.Common.{◌∙◌, ◌≤◌, ap, length, drop, eq-eqb, List, ℕ, ◌<◌, ◌+◌, rules}
use Rattle.std.proofs.lemmas.List.{take_rest, take_all, drop_all}
use Rattle.gp_dump.specs.Lines.{lines_of}
use Rattle.gp_dump.proofs.LinesLemmas.{ontos, ontos-ended, ontos-end}
use Rattle.gp_dump.proofs.lines.first_line.Goals as goal

pub returns-then-bytes-at-eq10-clause-lines : goal.returns-then-bytes-at-eq10-clause-lines
returns-then-bytes-at-eq10-clause-lines c =
    rw (take_rest c.args.bytes.now (c.loop-at.at + 1)) (c.loop-at.invariant.0 ∙ ontos-ended c.args.bytes.now c.loop-at.at c.loop-at-test.true (eq-eqb _ _ c.if-bytes-at-eq10.true))

pub returns-else-is_empty-clause-lines : goal.returns-else-is_empty-clause-lines
returns-else-is_empty-clause-lines c =
    let far : length c.args.bytes.now ≤ c.loop-at.at = c.loop-at-test.false in
    let some : 0 < length c.args.bytes.now = search rules in
    c.loop-at.invariant.0 ∙ ap (λ (x : List ℕ). ontos x (lines_of (drop c.loop-at.at c.args.bytes.now))) (take_all c.loop-at.at c.args.bytes.now far)
    ∙ ap (λ (x : List ℕ). ontos c.args.bytes.now (lines_of x)) (drop_all c.loop-at.at c.args.bytes.now far) ∙ ontos-end c.args.bytes.now some
