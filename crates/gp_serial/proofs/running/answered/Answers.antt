use Rattle.std.proofs.Common.{◌≡◌, ◌-◌, ◌∙◌, Global, ℕ, suc, List, Vec, Ok, Err, Some, arith, subst, sym}
use Rattle.gp_base.specs.declared.cell.Cell.{Cell}
use Rattle.gp_algebra.specs.Statements.{read}
use Rattle.gp_algebra.specs.Views.{select_view}
use Rattle.gp_log.specs.Contents.{entries, tables}
use Rattle.gp_log.specs.Parameters.{parameters}
use Rattle.gp_machine.specs.Entries.{statement_at}
use Rattle.gp_reenact.specs.Looking.{saw_answer}
use Rattle.gp_reenact.specs.Reenacting.{Reenacts, spans_of}
use Rattle.gp_serial.specs.Running.{IsShown}
use Rattle.gp_serial.proofs.RunningLemmas.{answers_otherwise, answers_rows, select_fitting}
use Rattle.gp_serial.proofs.running.answered.Goals as goal

pub saw-requires-clause-query : goal.saw-requires-clause-query
saw-requires-clause-query c =
    let is : c.args.k ≡ suc (c.args.k - 1) = omega (arith, c.requires.at.first) in
    let log = entries c.args.log.now in
    record {
      fits = select_fitting log (spans_of c.args.versions.now) c.args.t (c.args.k - 1) (select_view c.args.select.now) c.requires.at.known (omega (arith, is, c.requires.at.most))
          (subst (λ (k : ℕ). statement_at c.args.t k log ≡ Some (read (select_view c.args.select.now))) is c.requires.here) (tables c.args.log.now) c.requires.at.statements;
      statements = c.requires.at.statements;
    }

pub returns-in_ok-sorted-in-Ok : goal.returns-in_ok-sorted-in-Ok
returns-in_ok-sorted-in-Ok c =
    let is : c.args.k ≡ suc (c.args.k - 1) = omega (arith, c.requires.at.first) in
    let log = entries c.args.log.now in
    let spans = spans_of c.args.versions.now in
    let select = select_view c.args.select.now in
    let view : Vec (List Cell) Global → List (List Cell) = λ rows. rows.items in
    subst (λ (k : ℕ). IsShown log spans c.args.t k (Ok (Some c.in_ok-sorted-in-Ok.field-0))) (sym is)
    (answers_rows log spans c.args.t (c.args.k - 1) select c.requires.at.known (omega (arith, is, c.requires.at.most))
    (subst (λ (k : ℕ). statement_at c.args.t k log ≡ Some (read select)) is c.requires.here) c.in-Ok.rows c.in_ok-sorted-in-Ok.field-0
    (subst (λ (x : ℕ × ℕ). Reenacts view (Ok c.in-Ok.rows) (saw_answer parameters log spans x.0 x.1 select)) (λ i. (c.from.ensures i, (c.from-2.ensures ∙ is) i)) c.in-Ok.ensures)
    c.in_ok-sorted-in-Ok.ensures)

pub returns-in-Err : goal.returns-in-Err
returns-in-Err c =
    let is : c.args.k ≡ suc (c.args.k - 1) = omega (arith, c.requires.at.first) in
    let log = entries c.args.log.now in
    let spans = spans_of c.args.versions.now in
    let select = select_view c.args.select.now in
    let view : Vec (List Cell) Global → List (List Cell) = λ rows. rows.items in
    subst (λ (k : ℕ). IsShown log spans c.args.t k c.unanswered.result) (sym is)
    (answers_otherwise log spans c.args.t (c.args.k - 1) select c.requires.at.known (omega (arith, is, c.requires.at.most))
    (subst (λ (k : ℕ). statement_at c.args.t k log ≡ Some (read select)) is c.requires.here) c.in-Err.stop c.unanswered.result c.unanswered.ensures
    (subst (λ (x : ℕ × ℕ). Reenacts view (Err c.in-Err.stop) (saw_answer parameters log spans x.0 x.1 select)) (λ i. (c.from.ensures i, (c.from-2.ensures ∙ is) i)) c.in-Err.ensures))
