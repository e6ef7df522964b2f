use Rattle.std.proofs.Common.{◌≡◌, None}
use Rattle.std.specs.BTreeMap.{get}
use Rattle.std.specs.Option.{is_some}
use Rattle.gp_base.specs.Identities.{identity_cmp}
use Rattle.gp_dump.specs.Views.{dump_view}
use Rattle.gp_ask.specs.HistoryForms.{stop_upto, versions_changes}
use Rattle.gp_ask.specs.RowLines.{few, keyed_from}
use Rattle.gp_ask.proofs.row_histories.history_lines.Given as goal

-- no transaction so far stops, and their lines are kept as far as they are few
abbrev pub invariant-loop-before : goal.invariant-loop-before
invariant-loop-before l =
    (stop_upto (dump_view l.dump) l.before ≡ None)
    × (l.lines.items ≡ keyed_from 0 (few (versions_changes (dump_view l.dump) l.rows.table (λ id. is_some (get identity_cmp l.rows.asked.now id)) l.before)))
