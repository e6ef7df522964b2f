use Rattle.std.proofs.Common.{◌∙◌, ◌∷◌, [], Bool, cond, subst, sym}
use Rattle.std.specs.Prelude.{OnOk}
use Rattle.gp_algebra.specs.Views.{statement_view}
use Rattle.gp_ask.specs.HistoryForms as f
use Rattle.gp_ask.specs.Keyed.{cells_of}
use Rattle.gp_ask.proofs.row_histories.push_told.Goals as goal

pub returns : goal.returns
returns c =
    let changing = c.args.changing.now in
    let own = changing.own in
    subst (λ (b : Bool). OnOk c.push_change.result (f.Pushes (cond b (f.change_line changing.version own.t own.k (statement_view own.stmt.now) own.table c.args.id.now (cells_of c.args.row.now) ∷ []) []) c.args.lines.now.items c.push_change.new.lines.items))
    (sym (sym c.is_told.ensures ∙ c.if-not-is_told.false)) c.push_change.ensures
