use Rattle.std.proofs.Common.{◌∙◌, ℕ, List, cond, length, ap, sym}
use Rattle.gp_base.specs.Annotated.{unannotated}
use Rattle.gp_log.specs.Contents.{entries, tables}
use Rattle.gp_log.specs.Parameters.{parameters}
use Rattle.gp_machine.specs.Entries.{log_of}
use Rattle.gp_machine.specs.HistorySpans.{as_of}
use Rattle.gp_machine.specs.SerialRuns.{is_serial}
use Rattle.gp_reenact.specs.Reenacting.{spans_of}
use Rattle.gp_serial.specs.Serializing.{InOrder, Undecided}
use Rattle.gp_serial.proofs.serializing.in_order.Goals as goal

pub returns-then-same : goal.returns-then-same
returns-then-same c =
    let serial = λ (order : List ℕ). is_serial parameters (log_of (entries c.args.log.now)) (length (tables c.args.log.now)) (as_of unannotated (spans_of c.args.versions.now)) order in
    sym (ap (λ b. cond b (InOrder c.args.order.items) Undecided) (sym (ap serial c.deref.ensures.value) ∙ sym c.in_ok-same.ensures ∙ c.if-same.true))

pub returns : goal.returns
returns c =
    let serial = λ (order : List ℕ). is_serial parameters (log_of (entries c.args.log.now)) (length (tables c.args.log.now)) (as_of unannotated (spans_of c.args.versions.now)) order in
    sym (ap (λ b. cond b (InOrder c.args.order.items) Undecided) (sym (ap serial c.deref.ensures.value) ∙ sym c.in_ok-same.ensures ∙ c.if-same.false))
