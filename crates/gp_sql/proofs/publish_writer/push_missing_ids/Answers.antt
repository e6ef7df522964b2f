use Rattle.std.proofs.Common.{◌≡◌, OnOk, List, ℕ, subst}
use Rattle.gp_sql.specs.NamedQueries.{is_missing}
use Rattle.gp_sql.specs.Sql as s
use Rattle.gp_sql.specs.WrittenQueries.{source_of}
use Rattle.gp_sql.proofs.WriterLemmas.{one-of-x-where}
use Rattle.gp_sql.proofs.publish_writer.push_missing_ids.Goals as goal

pub returns : goal.returns
returns c =
    subst (λ (z : List ℕ). OnOk c.push_missing.result (c.push_missing.new.out.items ≡ z))
    (one-of-x-where c.args.catalog.now (s.column s.x (s.numbered c.args.at)) (source_of c.args.base) (is_missing c.args.at (source_of c.args.mine)) c.args.out.now.items
    c.append_all.new.out.items c.push_of_x.new.out.items c.push_from.new.out.items c.in_ok-append_all.ensures.ok c.in_ok-push_of_x.ensures c.in_ok-push_from.ensures) c.push_missing.ensures
