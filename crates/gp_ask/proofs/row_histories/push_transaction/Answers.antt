use Rattle.std.proofs.Common.{◌≡◌, ◌+◌, Bool, arith, subst, suc, sym}
use Rattle.std.specs.BTreeMap.{get}
use Rattle.std.specs.Option.{is_some}
use Rattle.gp_base.specs.Identities.{Identity, identity_cmp}
use Rattle.gp_dump.specs.Dumps.{Dump}
use Rattle.gp_dump.specs.Views.{dump_view}
use Rattle.gp_machine.specs.Entries.{statement_at, statement_count}
use Rattle.gp_ask.specs.HistoryForms as f
use Rattle.gp_ask.proofs.FewLines.{pushes-none, pushes-then}
use Rattle.gp_ask.proofs.row_histories.push_transaction.Goals as goal

pub loop-before-init : goal.loop-before-init
loop-before-init c = pushes-none c.args.lines.now.items

pub loop-before-preserved : goal.loop-before-preserved
loop-before-preserved c =
    let dump : Dump = dump_view c.args.dump.now in
    let rows = c.args.rows.now in
    let asked : Identity → Bool = λ (id : Identity). is_some (get identity_cmp rows.asked.now id) in
    let t = c.args.t in
    let version = c.args.version in
    let k = c.loop-before.before in
    let first = c.args.lines.now.items in
    let new = c.push_statement.new.lines.items in
    let next : k + 1 ≡ suc k = omega arith in
    let own = subst (λ n. f.Pushes (f.statement_changes dump rows.table asked version t n (statement_at t n dump.entries)) c.loop-before.lines.items new) next c.in_ok-push_statement.ensures in
    subst (λ n. f.Pushes (f.first_changes dump rows.table asked version t n) first new) (sym next)
    (pushes-then (f.first_changes dump rows.table asked version t k) (f.statement_changes dump rows.table asked version t (suc k) (statement_at t (suc k) dump.entries)) first c.loop-before.lines.items new c.loop-before.invariant own)

pub returns : goal.returns
returns c =
    let dump : Dump = dump_view c.args.dump.now in
    let rows = c.args.rows.now in
    let asked : Identity → Bool = λ (id : Identity). is_some (get identity_cmp rows.asked.now id) in
    let all : c.loop-before.before ≡ statement_count c.args.t dump.entries = omega (arith, c.statement_count-before-end.ensures, c.loop-before-test.false) in
    subst (λ n. f.Pushes (f.first_changes dump rows.table asked c.args.version c.args.t n) c.args.lines.now.items c.loop-before.lines.items) all c.loop-before.invariant
