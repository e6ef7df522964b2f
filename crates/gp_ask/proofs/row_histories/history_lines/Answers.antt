use Rattle.std.proofs.Common.{◌≡◌, ◌∙◌, ◌+◌, ◌++◌, ◌<◌, Bool, Err, Global, None, Ok, Option, Some, Vec, ap, arith, refl, subst, suc, sym, true}
use Rattle.std.specs.BTreeMap.{get}
use Rattle.std.specs.Option.{is_some, option_or}
use Rattle.gp_base.specs.declared.refusal.Refusal.{Refusal}
use Rattle.gp_base.specs.declared.row.Row.{Row}
use Rattle.gp_base.specs.Identities.{Identity, identity_cmp}
use Rattle.gp_dump.specs.Dumps.{Dump}
use Rattle.gp_dump.specs.Views.{dump_view}
use Rattle.gp_machine.specs.Entries.{committer_of, statement_count, versions_in}
use Rattle.gp_machine.specs.Questions.{given, is_known}
use Rattle.gp_reenact.specs.LookingForms.{Looks}
use Rattle.gp_base.specs.declared.stop.Stop.TheVariants as stop
use Rattle.gp_ask.specs.HistoryForms as f
use Rattle.gp_ask.specs.Looked as l
use Rattle.gp_ask.specs.RowLines.{few, keyed_from}
use Rattle.gp_ask.proofs.HistoryLines.{maker-known, stop-later}
use Rattle.gp_ask.proofs.row_histories.history_lines.Goals as goal

pub stop_of-requires : goal.stop_of-requires
stop_of-requires c =
    let dump : Dump = dump_view c.args.dump.now in
    let u = c.loop-before.before in
    let next : u + 1 ≡ suc u = omega arith in
    let within : u < versions_in dump.entries = omega (arith, c.commits-before-end.ensures, c.loop-before-test.true) in
    record { known = subst (λ t. is_known t dump.entries ≡ true) (sym (c.maker-t.ensures ∙ ap (λ n. committer_of n dump.entries) next)) (maker-known dump.entries c.args.dump.now.answerable.sessions u within) }

pub loop-before-preserved : goal.loop-before-preserved
loop-before-preserved c =
    let dump : Dump = dump_view c.args.dump.now in
    let rows = c.args.rows.now in
    let asked : Identity → Bool = λ (id : Identity). is_some (get identity_cmp rows.asked.now id) in
    let u = c.loop-before.before in
    let next : u + 1 ≡ suc u = omega arith in
    let maker : c.maker-t.result ≡ committer_of (suc u) dump.entries = c.maker-t.ensures ∙ ap (λ n. committer_of n dump.entries) next in
    let stops : f.stop_upto dump (suc u) ≡ None = (λ i. option_or (c.loop-before.invariant.0 i) (l.stop_of dump (sym maker i))) ∙ sym c.in_ok-refusal.ensures ∙ c.in-None.is in
    let lines : c.push_transaction.new.lines.items ≡ keyed_from 0 (few (f.versions_changes dump rows.table asked (suc u))) =
    c.in_ok-push_transaction-in-None.ensures (f.versions_changes dump rows.table asked u) c.loop-before.invariant.1
    ∙ (λ i. keyed_from 0 (few (f.versions_changes dump rows.table asked u ++ f.first_changes dump rows.table asked (next i) (maker i) (statement_count (maker i) dump.entries)))) in
    (ap (f.stop_upto dump) next ∙ stops, lines ∙ ap (λ n. keyed_from 0 (few (f.versions_changes dump rows.table asked n))) (sym next))

pub push_transaction-requires-clause-known : goal.push_transaction-requires-clause-known
push_transaction-requires-clause-known c =
    let dump : Dump = dump_view c.args.dump.now in
    let u = c.loop-before.before in
    let next : u + 1 ≡ suc u = omega arith in
    let within : u < versions_in dump.entries = omega (arith, c.commits-before-end.ensures, c.loop-before-test.true) in
    subst (λ t. is_known t dump.entries ≡ true) (sym (c.maker-t.ensures ∙ ap (λ n. committer_of n dump.entries) next)) (maker-known dump.entries c.args.dump.now.answerable.sessions u within)

pub returns-in-Some : goal.returns-in-Some
returns-in-Some c =
    let dump : Dump = dump_view c.args.dump.now in
    let rows = c.args.rows.now in
    let asked : Identity → Bool = λ (id : Identity). is_some (get identity_cmp rows.asked.now id) in
    let u = c.loop-before.before in
    let next : u + 1 ≡ suc u = omega arith in
    let maker : c.maker-t.result ≡ committer_of (suc u) dump.entries = c.maker-t.ensures ∙ ap (λ n. committer_of n dump.entries) next in
    let refusal = c.in-Some.refusal in
    let here : f.stop_upto dump (suc u) ≡ Some refusal = (λ i. option_or (c.loop-before.invariant.0 i) (l.stop_of dump (sym maker i))) ∙ sym c.in_ok-refusal.ensures ∙ c.in-Some.is in
    let all : f.stop_upto dump (versions_in dump.entries) ≡ Some refusal = stop-later dump refusal (suc u) (versions_in dump.entries) (omega (arith, c.commits-before-end.ensures, c.loop-before-test.true)) here in
    subst (λ (found : Option Refusal). Looks (λ (lines : Vec Row Global). lines.items) (Err (stop.Refused refusal)) (given found (keyed_from 0 (few (f.versions_changes dump rows.table asked (versions_in dump.entries)))))) (sym all) refl

pub returns : goal.returns
returns c =
    let dump : Dump = dump_view c.args.dump.now in
    let rows = c.args.rows.now in
    let asked : Identity → Bool = λ (id : Identity). is_some (get identity_cmp rows.asked.now id) in
    let lines = c.loop-before.lines in
    let all : c.loop-before.before ≡ versions_in dump.entries = omega (arith, c.commits-before-end.ensures, c.loop-before-test.false) in
    subst (λ (found : Option Refusal). Looks (λ (lines : Vec Row Global). lines.items) (Ok lines) (given found (keyed_from 0 (few (f.versions_changes dump rows.table asked (versions_in dump.entries))))))
    (sym (ap (f.stop_upto dump) (sym all) ∙ c.loop-before.invariant.0)) (c.loop-before.invariant.1 ∙ ap (λ n. keyed_from 0 (few (f.versions_changes dump rows.table asked n))) all)
