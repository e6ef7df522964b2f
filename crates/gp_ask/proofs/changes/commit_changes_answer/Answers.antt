use Rattle.std.proofs.Common.{◌≡◌, ◌∙◌, Option, ap, sym}
use Rattle.std.proofs.lemmas.Result.{IfOk-weaker}
use Rattle.gp_base.specs.declared.refusal.Refusal.{Refusal}
use Rattle.gp_dump.specs.Views.{dump_view}
use Rattle.gp_log.specs.Logs.{log_view}
use Rattle.gp_machine.specs.Entries.{version_of}
use Rattle.gp_ask.specs.declared.answered.Answered.{Answered}
use Rattle.gp_ask.specs.ChangeForms.{commit_changes_to, version_changes}
use Rattle.gp_ask.specs.Values.{unless_refused}
use Rattle.gp_ask.proofs.ChangesLemmas.{commit-changes-by, known-committed}
use Rattle.gp_ask.proofs.changes.commit_changes_answer.Goals as goal

pub transaction_number-requires : goal.transaction_number-requires
transaction_number-requires c = known-committed c.args.t (log_view c.args.dump.now.log.entries) (sym c.in-None.ensures)

pub returns-in-Some : goal.returns-in-Some
returns-in-Some c =
    let dump = dump_view c.args.dump.now in ap (λ (refusal : Option Refusal). unless_refused refusal (version_changes dump (version_of c.args.t dump.entries))) c.in-Some.ensures

pub returns-in-None : goal.returns-in-None
returns-in-None c =
    let dump = dump_view c.args.dump.now in
    IfOk-weaker c.made_changes.result (λ (a : Answered). a ≡ version_changes dump (version_of c.transaction_number.result dump.entries)) (λ (a : Answered). a ≡ commit_changes_to dump c.args.t)
    (λ a is. is ∙ commit-changes-by dump c.args.t c.transaction_number.result (sym c.in-None.ensures) c.transaction_number.ensures) c.made_changes.ensures
