use Rattle.std.proofs.Common.{[], ◌∷◌, ◌++◌, ap, sym, suc, map, ◌+◌, drop, ◌∙◌, append_assoc}
use Rattle.gp_base.specs.Annotated.{monomials}
use Rattle.gp_algebra.specs.Effects.{given_from}
use Rattle.gp_prov.specs.Encoding.{encoded_row}
use Rattle.gp_prov.proofs.ColumnLists.{given_next}
use Rattle.gp_prov.proofs.rows.given_rows.Goals as goal

pub loop-row-preserved : goal.loop-row-preserved
loop-row-preserved c =
    let prov = c.args.with_prov in
    let rows = c.args.rows.now in
    let n = c.in_ok-n.n in
    let i = c.loop-row.row-index in
    let others = map (encoded_row prov) (given_from monomials c.args.t c.args.k (suc n) (drop (i + 1) rows)) in
    let next = given_next prov c.args.t c.args.k c.loop-row.n n i rows c.row-item.result c.loop-row-test.true c.row-item.is c.in_ok-n.ensures in
    ap (λ new. new ++ others) c.in_ok-push.ensures.ok
    ∙ (append_assoc c.loop-row.new (c.in_ok-given_row.field-0 ∷ []) others
    ∙ (ap (λ row. c.loop-row.new ++ (row ∷ others)) c.in_ok-given_row.ensures
    ∙ (ap (λ rest. c.loop-row.new ++ rest) (sym next) ∙ c.loop-row.invariant)))
