use Rattle.std.proofs.Common.{◌≡◌, OnOk, List, ℕ, subst}
use Rattle.gp_sql.specs.QueryParts.{marked_ids, missing_ids}
use Rattle.gp_sql.specs.WrittenQueries.{source_of}
use Rattle.gp_sql.proofs.WriterLemmas.{union-onto}
use Rattle.gp_sql.proofs.publish_writer.push_written.Goals as goal

pub returns : goal.returns
returns c =
    subst (λ (z : List ℕ). OnOk c.push_missing_ids.result (c.push_missing_ids.new.out.items ≡ z))
    (union-onto c.args.catalog.now (marked_ids c.args.at (source_of c.args.mine)) (missing_ids c.args.at (source_of c.args.base) (source_of c.args.mine)) c.args.out.now.items
    c.push_marked_ids.new.out.items c.append_all.new.out.items c.in_ok-push_marked_ids.ensures c.in_ok-append_all.ensures.ok) c.push_missing_ids.ensures
