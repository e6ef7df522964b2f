use Rattle.std.proofs.Common.{◌≡◌, ◌+◌, ◌<◌, ◌++◌, ◌∷◌, ◌∙◌, ℕ, List, [], drop, get_or, length, map, ap, subst, sym}
use Rattle.gp_base.proofs.SmallLemmas.{each_append}
use Rattle.gp_algebra.specs.Statements.{width_of}
use Rattle.gp_algebra.specs.Views.{branch_view}
use Rattle.gp_machine.specs.Looks.{item_looks, occurs_in_branch}
use Rattle.gp_serial.specs.LookViews.{look_view, members_of}
use Rattle.gp_serial.specs.Meetings.{AreReady, IsReady}
use Rattle.gp_serial.specs.declared.looks.Look.{Look}
use Rattle.gp_serial.proofs.LookLemmas.{items_more, look_at}
use Rattle.gp_serial.proofs.looks.push_branch.Goals as goal

pub loop-table-preserved : goal.loop-table-preserved
loop-table-preserved c =
    let tables = c.args.catalog.now in
    let conds = members_of c.args.branch.now.cond in
    let occurs = occurs_in_branch (branch_view c.args.branch.now) in
    let from = c.args.branch.now.from in
    let i = c.loop-table.table-index in
    let before = c.loop-table.before in
    let width = c.width-width.result in
    let after = c.in_ok-before.before in
    let looks = c.loop-table.looks.items in
    let look = c.in_ok-item_look.field-0 in
    let same : c.as_slice-table-items.result.now ≡ from = c.as_slice-table-items.ensures in
    let within : i < length from = subst (λ (list : List ℕ). i < length list) same c.loop-table-test.true in
    let wide : width ≡ width_of tables (get_or from i 0) = subst (λ (list : List ℕ). width ≡ width_of tables (get_or list i 0)) same c.width-width.ensures in
    let is : look_view look ≡ look_at occurs (get_or from i 0) before width conds =
    subst (λ (list : List ℕ). look_view look ≡ look_at occurs (get_or list i 0) before width conds) same c.in_ok-item_look.ensures.look in
    record {
      looks =
          ap (λ (all : List Look). map look_view all ++ item_looks tables occurs conds after (drop (i + 1) from)) c.in_ok-push.ensures.items
          ∙ items_more tables occurs conds from i before width after looks look within wide c.in_ok-before.ensures is
          ∙ c.loop-table.invariant.looks;
      ready = λ ready. subst AreReady (sym c.in_ok-push.ensures.items) (each_append IsReady looks (look ∷ []) (c.loop-table.invariant.ready ready) (c.in_ok-item_look.ensures.ready, tt));
    }
