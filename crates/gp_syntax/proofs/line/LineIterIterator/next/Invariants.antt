use Rattle.std.proofs.Common.{◌≡◌, ◌+◌, ◌<◌, ◌^◌, length}
use Rattle.gp_syntax.specs.Lines.{answered_from}
use Rattle.gp_syntax.proofs.line.LineIterIterator.next.Given as goal

-- the lines passed so far get no reply
abbrev pub invariant-loop-self : goal.invariant-loop-self
invariant-loop-self l =
    let now = l.self-inside in
    (answered_from now.number now.rest.now ≡ l.fn.self) × (now.number + length now.rest.now < 2 ^ 32)

abbrev pub decreases-loop-self : goal.decreases-loop-self
decreases-loop-self l = length l.self-inside.rest.now
