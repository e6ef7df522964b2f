use Rattle.std.proofs.Common.{◌≡◌, Bool, true, drop, map, suc, ap, sym, ◌∙◌}
use Rattle.std.proofs.lemmas.Result.{IfOk-weaker}
use Rattle.gp_replay.specs.SameRows.{in_order}
use Rattle.gp_replay.proofs.SameLemmas.{next-same}
use Rattle.gp_replay.proofs.same_rows.has_same_next.Goals as goal

pub returns-then-at-others : goal.returns-then-at-others
returns-then-at-others c =
    let tables = c.args.tables.now in
    let others = c.args.others.now in
    let at' = c.args.at in
    let table = c.index-tables-at.result in
    let other = c.index-others-at.result in
    IfOk-weaker c.has_same_rows.result (λ (same : Bool). same ≡ true → in_order table ≡ in_order other)
    (λ (same : Bool). same ≡ true → map in_order (drop (suc at') tables) ≡ map in_order (drop (suc at') others) → map in_order (drop at' tables) ≡ map in_order (drop at' others))
    (λ (same : Bool) equal yes.
    next-same in_order in_order tables others at' table other c.requires c.if-at-others.true
    (ap in_order (sym c.index-tables-at.is) ∙ equal yes ∙ ap in_order c.index-others-at.is))
    c.has_same_rows.ensures
