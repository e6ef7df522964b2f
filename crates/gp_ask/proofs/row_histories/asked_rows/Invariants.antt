use Rattle.std.proofs.Common.{◌≡◌, drop}
use Rattle.std.specs.Prelude.{◌||◌}
use Rattle.std.specs.BTreeMap.{get}
use Rattle.std.specs.List.{list_any}
use Rattle.std.specs.Option.{is_some}
use Rattle.gp_algebra.specs.Views.{select_view}
use Rattle.gp_base.specs.Identities.{Identity, identity_cmp}
use Rattle.gp_ask.specs.HistoryForms.{span_asks}
use Rattle.gp_ask.proofs.row_histories.asked_rows.Given as goal

-- with the spans that remain
abbrev pub invariant-loop-span : goal.invariant-loop-span
invariant-loop-span l =
    (id : Identity) → (is_some (get identity_cmp l.asked id) || list_any (span_asks (select_view l.select) id) (drop l.span-index l.spans)) ≡ list_any (span_asks (select_view l.select) id) l.spans
