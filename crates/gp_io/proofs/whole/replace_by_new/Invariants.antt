-- No try before this one made a file.
use Rattle.gp_io.specs.Noted.{StaysAsItWas}
use Rattle.gp_io.proofs.whole.replace_by_new.Given as goal

abbrev pub invariant-loop-number : goal.invariant-loop-number
invariant-loop-number g l = StaysAsItWas (g.C.Calls.trace l.initial.calls) (g.C.Calls.trace l.calls)
