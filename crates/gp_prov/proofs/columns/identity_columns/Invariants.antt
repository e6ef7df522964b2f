use Rattle.std.proofs.Common.{◌≡◌, map, drop}
use Rattle.gp_expr.specs.Views.{expr_view}
use Rattle.gp_prov.specs.ToPlain.{identities_from}
use Rattle.gp_prov.proofs.ColumnLists.{parts_before}
use Rattle.gp_prov.proofs.columns.identity_columns.Given as goal

-- the columns so far, before those of the other parts, are all
abbrev pub invariant-loop-width : goal.invariant-loop-width
invariant-loop-width l =
    parts_before (map expr_view l.columns.items) (identities_from l.with_prov l.at (drop l.width-index l.widths)) ≡ identities_from l.with_prov 0 l.widths
