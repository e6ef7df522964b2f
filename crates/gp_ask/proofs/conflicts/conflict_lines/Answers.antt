use Rattle.std.proofs.Common.{◌≡◌, ◌∙◌, ◌+◌, ◌++◌, ap, arith, length, suc, sym}
use Rattle.gp_dump.specs.Dumps.{Dump}
use Rattle.gp_dump.specs.Views.{dump_view}
use Rattle.gp_machine.specs.Entries.{statement_at}
use Rattle.gp_ask.specs.ConflictForms as f
use Rattle.gp_ask.specs.RowLines.{keyed_from}
use Rattle.gp_ask.proofs.RowLineLemmas.{keyed-append, keyed-length}
use Rattle.gp_ask.proofs.conflicts.conflict_lines.Goals as goal

pub loop-before-preserved : goal.loop-before-preserved
loop-before-preserved c =
    let dump : Dump = dump_view c.args.dump.now in
    let t = c.args.t in
    let upto = c.args.upto in
    let k = c.loop-before.before in
    let old = c.loop-before.lines.items in
    let lines = f.first_conflicts dump upto t k in
    let own = f.statement_conflicts dump upto t (suc k) (statement_at t (suc k) dump.entries) in
    let next : k + 1 ≡ suc k = omega arith in
    let known : length old ≡ length lines = ap length c.loop-before.invariant ∙ keyed-length 0 lines in
    let count : length old ≡ 0 + length lines = omega (arith, known) in
    c.in_ok-push_statement.ensures
    ∙ ap (λ n. old ++ keyed_from (length old) (f.statement_conflicts dump upto t n (statement_at t n dump.entries))) next
    ∙ (λ i. c.loop-before.invariant i ++ keyed_from (count i) own)
    ∙ sym (keyed-append 0 lines own)
    ∙ ap (λ n. keyed_from 0 (f.first_conflicts dump upto t n)) (sym next)
