use Rattle.std.proofs.Common.{◌∙◌, ap, map}
use Rattle.gp_base.specs.declared.table.Column.{Column}
use Rattle.gp_sql.specs.CellTypes.{kind_type}
use Rattle.gp_sql.proofs.CodeLemmas.{scan-is}
use Rattle.gp_sql.proofs.query_types.scan_types.Goals as goal

pub returns : goal.returns
returns c =
    scan-is c.args.catalog.now c.args.table c.table.result.now c.in_ok-types.types c.push.new.self c.push-2.new.self c.table.ensures
    (c.in_ok-types.ensures ∙ ap (map (λ (column : Column). kind_type column.kind)) c.as_slice.ensures) c.in_ok-push.ensures.ok c.in_ok-push-2.ensures.ok
