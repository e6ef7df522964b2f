use Rattle.std.proofs.Common.{◌-◌, ◌<◌, ◌≡◌, ◌≤◌, ◌∙◌, Option, ap, subst, sym, true}
use Rattle.std.proofs.lemmas.Result.{IfOk-weaker}
use Rattle.gp_base.specs.declared.refusal.Refusal.{Refusal}
use Rattle.gp_dump.specs.Views.{dump_view}
use Rattle.gp_grammar.specs.Syntax as y
use Rattle.gp_log.specs.Logs.{log_view}
use Rattle.gp_machine.specs.Entries.{statement_at, statement_count}
use Rattle.gp_machine.specs.Questions.{is_known}
use Rattle.gp_ask.specs.declared.answered.Answered.{Answered}
use Rattle.gp_ask.specs.ChangeForms.{changes_told, dump_changes, if_any}
use Rattle.gp_ask.specs.Computed.{computed_answer}
use Rattle.gp_ask.specs.Values.{unless_refused}
use Rattle.gp_ask.proofs.ChangesLemmas.{changes-by, known-changed, numbered-changed}
use Rattle.gp_ask.proofs.StatementLines.{changes-told}
use Rattle.gp_ask.proofs.changes.changes_answer.Goals as goal

pub transaction_number-number-requires : goal.transaction_number-number-requires
transaction_number-number-requires c = known-changed c.args.t c.args.k (log_view c.args.dump.now.log.entries) (sym c.in-None.ensures)

pub statement_number-statement-requires : goal.statement_number-statement-requires
statement_number-statement-requires c =
    let entries = log_view c.args.dump.now.log.entries in
    subst (λ n. c.args.k ≤ statement_count n entries) (sym c.transaction_number-number.ensures) (numbered-changed c.args.t c.args.k entries (sym c.in-None.ensures)).1

pub statement_changes-requires-clause-known : goal.statement_changes-requires-clause-known
statement_changes-requires-clause-known c =
    let entries = log_view c.args.dump.now.log.entries in
    subst (λ n. is_known n entries ≡ true) (sym c.transaction_number-number.ensures) (known-changed c.args.t c.args.k entries (sym c.in-None.ensures))

pub statement_changes-requires-clause-first : goal.statement_changes-requires-clause-first
statement_changes-requires-clause-first c =
    subst (λ n. 0 < n) (sym c.statement_number-statement.ensures) (numbered-changed c.args.t c.args.k (log_view c.args.dump.now.log.entries) (sym c.in-None.ensures)).0

pub statement_changes-requires-clause-most : goal.statement_changes-requires-clause-most
statement_changes-requires-clause-most c =
    let entries = log_view c.args.dump.now.log.entries in
    subst (λ n. n ≤ statement_count c.transaction_number-number.result entries) (sym c.statement_number-statement.ensures)
    (subst (λ n. c.args.k ≤ statement_count n entries) (sym c.transaction_number-number.ensures) (numbered-changed c.args.t c.args.k entries (sym c.in-None.ensures)).1)

pub returns-in-Some : goal.returns-in-Some
returns-in-Some c =
    let dump = dump_view c.args.dump.now in
    ap (λ (refusal : Option Refusal). unless_refused refusal (changes_told dump c.args.t c.args.k)) c.in-Some.ensures

pub returns-in-None : goal.returns-in-None
returns-in-None c =
    let dump = dump_view c.args.dump.now in
    let number = c.transaction_number-number.result in
    let statement = c.statement_number-statement.result in
    IfOk-weaker c.statement_changes.result (λ (a : Answered). a ≡ if_any (dump_changes dump number (statement - 1)) (statement_at number statement dump.entries)) (λ (a : Answered). a ≡ computed_answer dump (y.bare (y.changes c.args.t c.args.k)))
    (λ a is. is ∙ changes-by dump c.args.t c.args.k number statement (sym c.in-None.ensures) c.transaction_number-number.ensures c.statement_number-statement.ensures
    ∙ sym (changes-told dump c.args.t c.args.k)) c.statement_changes.ensures
