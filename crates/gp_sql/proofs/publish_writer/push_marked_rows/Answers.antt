use Rattle.std.proofs.Common.{◌≡◌, OnOk, List, ℕ, subst}
use Rattle.gp_sql.specs.NamedQueries.{is_marked}
use Rattle.gp_sql.specs.WrittenQueries.{source_of}
use Rattle.gp_sql.proofs.WriterLemmas.{all-where}
use Rattle.gp_sql.proofs.publish_writer.push_marked_rows.Goals as goal

pub returns : goal.returns
returns c =
    subst (λ (z : List ℕ). OnOk c.push_marked.result (c.push_marked.new.out.items ≡ z))
    (all-where c.args.catalog.now (source_of c.args.mine) (is_marked c.args.at) c.args.out.now.items c.push_from.new.out.items c.in_ok-push_from.ensures) c.push_marked.ensures
