use Rattle.std.specs.BTreeMap.{get}
use Rattle.std.specs.Option.{is_some}
use Rattle.gp_base.specs.Identities.{identity_cmp}
use Rattle.gp_dump.specs.Views.{dump_view}
use Rattle.gp_ask.specs.HistoryForms.{Pushes, first_changes}
use Rattle.gp_ask.proofs.row_histories.push_transaction.Given as goal

-- the lines of the statements so far
abbrev pub invariant-loop-before : goal.invariant-loop-before
invariant-loop-before l =
    Pushes (first_changes (dump_view l.dump) l.rows.table (λ id. is_some (get identity_cmp l.rows.asked.now id)) l.version l.t l.before) l.initial.lines.items l.lines.items
