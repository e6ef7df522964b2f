use Rattle.std.proofs.Common.{◌≡◌, OnOk, List, ℕ, subst}
use Rattle.gp_sql.specs.QueryParts.{marked_rows, unwritten_rows}
use Rattle.gp_sql.specs.WrittenQueries.{source_of}
use Rattle.gp_sql.proofs.WriterLemmas.{union-onto}
use Rattle.gp_sql.proofs.publish_writer.push_published.Goals as goal

pub returns : goal.returns
returns c =
    subst (λ (z : List ℕ). OnOk c.push_marked_rows.result (c.push_marked_rows.new.out.items ≡ z))
    (union-onto c.args.catalog.now (unwritten_rows c.args.at (source_of c.args.written) (source_of c.args.later)) (marked_rows c.args.at (source_of c.args.mine)) c.args.out.now.items
    c.push_unwritten.new.out.items c.append_all.new.out.items c.in_ok-push_unwritten.ensures c.in_ok-append_all.ensures.ok) c.push_marked_rows.ensures
