use Rattle.std.proofs.Common.{Bool, Option, subst}
use Rattle.std.specs.BTreeMap.{get}
use Rattle.std.specs.Option.{is_some}
use Rattle.std.specs.Prelude.{OnOk}
use Rattle.gp_base.specs.Identities.{Identity, identity_cmp}
use Rattle.gp_algebra.specs.Views.{statement_view}
use Rattle.gp_ask.specs.HistoryForms as f
use Rattle.gp_ask.proofs.row_histories.push_row.Goals as goal

pub returns-in-Some : goal.returns-in-Some
returns-in-Some c =
    let changing = c.args.changing.now in
    let own = changing.own in
    let asked : Identity → Bool = λ (id : Identity). is_some (get identity_cmp changing.asked.now id) in
    subst (λ (found : Option Identity). OnOk c.push_told.result (f.Pushes (f.row_change asked changing.version own.t own.k (statement_view own.stmt.now) own.table c.args.row.now found) c.args.lines.now.items c.push_told.new.lines.items))
    c.in-Some.ensures c.push_told.ensures
