use Rattle.std.proofs.Common.{refl, ap, ◌∙◌}
use Rattle.gp_expr.specs.Expressions.{new_id}
use Rattle.gp_expr.proofs.ViewLemmas.{new_id_view}
use Rattle.gp_prov.proofs.projections.new_id.Goals as goal

pub returns : goal.returns
returns c =
    let insertion = c.args.insertion in
    new_id_view _ insertion.t insertion.k insertion.b c.in_ok-parts.parts _ refl refl ∙ ap (new_id insertion.t insertion.k insertion.b) c.in_ok-parts.ensures
