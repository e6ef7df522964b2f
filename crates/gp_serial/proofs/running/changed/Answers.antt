use Rattle.std.proofs.Common.{◌≡◌, ◌-◌, ◌∙◌, ℕ, suc, Ok, Err, Some, ap, arith, subst, sym}
use Rattle.gp_algebra.specs.Views.{statement_view}
use Rattle.gp_log.specs.Contents.{entries}
use Rattle.gp_machine.specs.Entries.{statement_at}
use Rattle.gp_reenact.specs.Reenacting.{spans_of}
use Rattle.gp_serial.specs.Running.{IsShown, changed_of}
use Rattle.gp_serial.proofs.RunningLemmas.{looks_otherwise, looks_rows}
use Rattle.gp_serial.proofs.running.changed.Goals as goal

pub returns-in_ok-sorted-in-Ok : goal.returns-in_ok-sorted-in-Ok
returns-in_ok-sorted-in-Ok c =
    let is : c.args.k ≡ suc (c.args.k - 1) = omega (arith, c.requires.at.first) in
    let log = entries c.args.log.now in
    let spans = spans_of c.args.versions.now in
    let statement = statement_view c.args.stmt.now in
    subst (λ (k : ℕ). IsShown log spans c.args.t k (Ok (Some c.in_ok-sorted-in-Ok.field-0))) (sym is)
    (looks_rows log spans c.args.t (c.args.k - 1) statement (subst (λ (k : ℕ). statement_at c.args.t k log ≡ Some statement) is c.requires.here) c.requires.writes
    c.in-Ok.rows c.in_ok-sorted-in-Ok.field-0 c.in_ok-changed_of-in-Ok.field-0.items c.in-Ok.ensures
    (c.in_ok-changed_of-in-Ok.ensures ∙ ap (changed_of c.args.t c.args.k statement) c.deref.ensures.value ∙ ap (λ (k : ℕ). changed_of c.args.t k statement c.in-Ok.rows.items) is)
    c.in_ok-sorted-in-Ok.ensures)

pub returns-in-Err : goal.returns-in-Err
returns-in-Err c =
    let is : c.args.k ≡ suc (c.args.k - 1) = omega (arith, c.requires.at.first) in
    let log = entries c.args.log.now in
    let spans = spans_of c.args.versions.now in
    let statement = statement_view c.args.stmt.now in
    subst (λ (k : ℕ). IsShown log spans c.args.t k (Err c.stopped.result)) (sym is)
    (looks_otherwise log spans c.args.t (c.args.k - 1) statement (subst (λ (k : ℕ). statement_at c.args.t k log ≡ Some statement) is c.requires.here) c.requires.writes
    c.in-Err.stop c.stopped.result c.stopped.ensures c.in-Err.ensures)
