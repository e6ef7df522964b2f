use Rattle.std.proofs.Common.{◌≡◌, Bool, List, ap, subst, sym, true}
use Rattle.std.specs.Prelude.{◌&&◌}
use Rattle.gp_base.specs.declared.table.Table.{Table}
use Rattle.gp_grammar.specs.Syntax as y
use Rattle.gp_algebra.specs.Fitting.{select_fits}
use Rattle.gp_algebra.specs.Views.{select_view}
use Rattle.gp_check.specs.Valid.{query_is_valid, tables_are_valid}
use Rattle.gp_syntax.specs.Views.{condition_view}
use Rattle.gp_ask.specs.RowHistories.{all_of}
use Rattle.gp_ask.proofs.row_histories.history_answer.Goals as goal

pub selected_history-requires : goal.selected_history-requires
selected_history-requires c =
    let condition = condition_view c.args.cond.now in
    let valid : query_is_valid (all_of c.args.table.now condition) ≡ true = ap (λ (b : Bool). b && true) c.requires.cond in
    record {
      fits = subst (λ (tables : List Table). select_fits tables (select_view c.in-Ok.select) ≡ true) c.catalog.ensures
          (c.in-Ok.ensures.fits (subst (λ (tables : List Table). tables_are_valid tables ≡ true) (sym c.catalog.ensures) c.args.dump.now.valid)
          (subst (λ (query : y.Query). query_is_valid query ≡ true) (sym c.in_ok-query.ensures) valid));
    }
