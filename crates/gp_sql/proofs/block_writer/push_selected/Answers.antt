use Rattle.std.proofs.Common.{◌≡◌, OnOk, List, ℕ, subst}
use Rattle.gp_expr.specs.Views.{cond_view}
use Rattle.gp_sql.specs.Translation.{cond_test}
use Rattle.gp_sql.specs.WrittenQueries.{source_of}
use Rattle.gp_sql.proofs.WriterLemmas.{all-where}
use Rattle.gp_sql.proofs.block_writer.push_selected.Goals as goal

pub returns : goal.returns
returns c =
    subst (λ (z : List ℕ). OnOk c.push_cond.result (c.push_cond.new.out.items ≡ z))
    (all-where c.args.catalog.now (source_of c.args.source) (cond_test c.args.types.now (cond_view c.args.cond.now)) c.args.out.now.items c.push_from.new.out.items c.in_ok-push_from.ensures) c.push_cond.ensures
