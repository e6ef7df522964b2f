use Rattle.std.proofs.Common.{take}
use Rattle.gp_kexec.specs.Evaluating.{Appends}
use Rattle.gp_kexec.specs.Valuing.{values_in}
use Rattle.gp_kexec.proofs.GivenLemmas.{given_rows}
use Rattle.gp_kexec.proofs.table.KInputs.given.Given as goal

-- the rows so far
abbrev pub invariant-loop-place : goal.invariant-loop-place
invariant-loop-place g l =
    let k = g.K.Semiring in
    Appends l.initial.made l.made (given_rows (values_in k l.self.valuation.now) l.t l.statement 1 (take l.place l.rows))
