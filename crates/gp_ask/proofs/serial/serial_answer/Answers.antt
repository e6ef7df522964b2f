use Rattle.std.proofs.Common.{◌≡◌, ◌∙◌, List, Err, Ok, subst, sym}
use Rattle.std.proofs.lemmas.Result.{IfOk-weaker}
use Rattle.gp_dump.specs.Views.{dump_view}
use Rattle.gp_log.specs.Contents.{entries, tables}
use Rattle.gp_log.specs.Parameters.{parameters}
use Rattle.gp_machine.specs.RowChanges.{tables_changes}
use Rattle.gp_reenact.specs.Reenacting.{spans_of}
use Rattle.gp_serial.specs.Changes.{tables_of}
use Rattle.gp_serial.specs.SerialViews.{IsSerialOf, IsSerializable, serial_view}
use Rattle.gp_serial.specs.Serializing.{serial_of}
use Rattle.gp_versions.specs.Spans.{Versions}
use Rattle.gp_ask.specs.declared.answered.Answered.{Answered}
use Rattle.gp_ask.specs.SerialAnswers as s
use Rattle.gp_ask.proofs.SerialDumps.{found_is, refused_is, serializable}
use Rattle.gp_ask.proofs.serial.serial_answer.Goals as goal

pub serialize-requires : goal.serialize-requires
serialize-requires c = record { rules = subst (IsSerializable c.args.dump.now.log) (sym c.as_slice.ensures) (serializable c.args.dump.now c.requires.rules) }

pub returns-in-Ok : goal.returns-in-Ok
returns-in-Ok c =
    let log = c.args.dump.now.log in
    IfOk-weaker c.serial_lines.result (λ (answered : Answered). answered ≡ s.answered_serial (tables log) (entries log) (serial_view c.in-Ok.found))
    (λ (answered : Answered). answered ≡ s.serial_answer (dump_view c.args.dump.now))
    (λ answered is. is ∙ found_is (entries log) c.args.dump.now.versions c.in-Ok.found
    (subst (λ (versions : List Versions). IsSerialOf (entries log) versions (serial_of (tables log) (entries log) (tables_changes 0 (tables_of versions)) parameters (spans_of versions)) (Ok c.in-Ok.found)) c.as_slice.ensures c.in-Ok.ensures))
    c.serial_lines.ensures

pub returns-in-Err : goal.returns-in-Err
returns-in-Err c =
    let log = c.args.dump.now.log in
    refused_is (entries log) c.args.dump.now.versions c.in-Err.stop c.unserialized.result
    (subst (λ (versions : List Versions). IsSerialOf (entries log) versions (serial_of (tables log) (entries log) (tables_changes 0 (tables_of versions)) parameters (spans_of versions)) (Err c.in-Err.stop)) c.as_slice.ensures c.in-Err.ensures)
    c.unserialized.ensures
