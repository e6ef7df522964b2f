use Rattle.std.proofs.Common.{◌≡◌, ◌+◌, ◌-◌, ℕ, List, [], ◌∷◌, length, arith, ap, sym, ◌∙◌}
use Rattle.std.proofs.lemmas.List.{length-append}
use Rattle.gp_machine.specs.Entries as m
use Rattle.gp_log.specs.Logs.{entry_view, log_view}
use Rattle.gp_log.proofs.EntryLemmas.{log-pushed}
use Rattle.gp_dump.specs.Reading.{verdict_from}
use Rattle.gp_dump.specs.Rules.{Logs}
use Rattle.gp_dump.proofs.GrowthLemmas.{valid-pushed}
use Rattle.gp_dump.proofs.ReadLemmas.{continues-err, logs-done}
use Rattle.gp_dump.proofs.read.read_log.Goals as goal

pub loop-left-preserved : goal.loop-left-preserved
loop-left-preserved c =
    let by_one : c.loop-left.left ≡ (c.loop-left.left - 1) + 1 = omega (arith, c.loop-left-test.true) in
    let more : log_view c.append.new.self.entries ≡ entry_view c.in_ok-entry.entry ∷ log_view c.loop-left.log.entries =
    ap log_view c.in_ok-append.ensures.ok ∙ log-pushed c.loop-left.log.entries c.in_ok-entry.entry in
    let longer : length c.append.new.self.entries ≡ length c.loop-left.log.entries + 1 =
    ap length c.in_ok-append.ensures.ok ∙ length-append c.loop-left.log.entries (c.in_ok-entry.entry ∷ []) in
    record {
      told = c.loop-left.invariant.told ∙ c.in_ok-entry.ensures.verdict c.loop-left.left (c.loop-left.left - 1) by_one
          ∙ ap (λ (log : List m.Entry). verdict_from c.in_ok-entry.behind.bytes.now (Logs c.args.second (c.loop-left.left - 1) log) c.in_ok-entry.behind.number) (sym more);
      room = c.in_ok-entry.ensures.room;
      few = omega (arith, longer, c.loop-left.invariant.few, c.loop-left-test.true);
      valid = rw c.in_ok-append.ensures.ok (valid-pushed c.loop-left.log.entries c.in_ok-entry.entry c.loop-left.invariant.valid c.in_ok-entry.ensures.valid);
    }

pub returns-in_err-entry-clause-verdict : goal.returns-in_err-entry-clause-verdict
returns-in_err-entry-clause-verdict c =
    let by_one : c.loop-left.left ≡ (c.loop-left.left - 1) + 1 = omega (arith, c.loop-left-test.true) in
    continues-err c.from_residual.result _ c.in_err-entry.field-0.0 _ _ c.from_residual.ensures.1 c.loop-left.invariant.told (c.in_err-entry.ensures.verdict c.loop-left.left (c.loop-left.left - 1) by_one)

pub returns-clause-verdict : goal.returns-clause-verdict
returns-clause-verdict c =
    let none : c.loop-left.left ≡ 0 = omega (arith, c.loop-left-test.false) in
    c.loop-left.invariant.told
    ∙ ap (λ (n : ℕ). verdict_from c.loop-left.rest.bytes.now (Logs c.args.second n (log_view c.loop-left.log.entries)) c.loop-left.rest.number) none
    ∙ logs-done c.args.second c.loop-left.rest.bytes.now (log_view c.loop-left.log.entries) c.loop-left.rest.number
