use Rattle.std.proofs.Common.{◌≡◌, ◌-◌, ℕ, suc, None, arith, subst, sym}
use Rattle.gp_log.specs.Contents.{entries}
use Rattle.gp_machine.specs.Entries.{statement_at}
use Rattle.gp_serial.proofs.RunningLemmas.{is_there}
use Rattle.gp_serial.proofs.running.shown.Goals as goal

pub returns-in-None : goal.returns-in-None
returns-in-None c =
    let is : c.args.k ≡ suc (c.args.k - 1) = omega (arith, c.requires.at.first) in
    let log = entries c.args.log.now in
    absurd (is_there log c.args.t (c.args.k - 1) (omega (arith, is, c.requires.at.most)) (subst (λ (k : ℕ). statement_at c.args.t k log ≡ None) is (sym c.in-None.ensures)))
