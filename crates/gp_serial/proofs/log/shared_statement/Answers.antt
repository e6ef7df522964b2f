use Rattle.std.proofs.Common.{◌∙◌, ap, arith, sym}
use Rattle.std.proofs.lemmas.List.{take_all}
use Rattle.gp_log.specs.Logs.{log_view}
use Rattle.gp_log.proofs.FindingLemmas.{statement-found}
use Rattle.gp_machine.specs.Entries.{statement_at}
use Rattle.gp_serial.proofs.SharedStatements.{none_next}
use Rattle.gp_serial.proofs.log.shared_statement.Goals as goal

pub loop-place-preserved : goal.loop-place-preserved
loop-place-preserved c =
    none_next c.args.log.now.entries c.loop-place.place c.entry-entry.result.now c.entry-entry.ensures.entry c.entry-entry.ensures.number c.args.t c.args.k (sym c.is_own.ensures ∙ c.if-is_own.false)
    c.loop-place.invariant

pub returns-then-is_own : goal.returns-then-is_own
returns-then-is_own c =
    c.statement_of.ensures
    ∙ statement-found c.args.log.now.entries c.loop-place.place c.entry-entry.result.now c.entry-entry.ensures.entry c.entry-entry.ensures.number c.args.t c.args.k (sym c.is_own.ensures ∙ c.if-is_own.true)

pub returns : goal.returns
returns c =
    let entries = c.args.log.now.entries in
    sym (ap (λ es. statement_at c.args.t c.args.k (log_view es)) (sym (take_all c.loop-place.place entries (omega (arith, c.loop-place-test.false, c.len-place-end.ensures)))) ∙ c.loop-place.invariant)
