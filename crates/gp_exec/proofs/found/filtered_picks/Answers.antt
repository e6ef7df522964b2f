use Rattle.std.proofs.Common.{◌≡◌, List, filter, map, refl, ap, ◌∙◌, rules}
use Rattle.std.proofs.lemmas.Fn.{filter_same}
use Rattle.std.specs.Borrow.{Bor}
use Rattle.gp_base.specs.declared.cell.Cell.{Cell}
use Rattle.gp_expr.specs.Values.{passes}
use Rattle.gp_expr.specs.Views.{cond_view}
use Rattle.gp_exec.proofs.ListLemmas.{filter_mapped}
use Rattle.gp_exec.proofs.found.filtered_picks.Goals as goal

pub returns : goal.returns
returns c =
    let row = λ (r : Bor (List Cell)). r.now in
    let passing = λ (r : Bor (List Cell)). passes (cond_view c.args.cond.now) r.now in
    let kept : c.retain.new.self.items ≡ filter passing c.args.rows.items = filter_same _ _ _ (λ x b f' k. search rules) _ _ c.retain.ensures.filtered in
    ap (map row) kept ∙ filter_mapped row (passes (cond_view c.args.cond.now)) passing (λ r. refl) c.args.rows.items
