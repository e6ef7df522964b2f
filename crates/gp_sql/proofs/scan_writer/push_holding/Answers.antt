use Rattle.std.proofs.Common.{◌≡◌, OnOk, List, ℕ, subst}
use Rattle.gp_sql.specs.QueryParts.{begun, unended}
use Rattle.gp_sql.proofs.WriterLemmas.{and-onto}
use Rattle.gp_sql.proofs.scan_writer.push_holding.Goals as goal

pub returns : goal.returns
returns c =
    subst (λ (z : List ℕ). OnOk c.push_unended.result (c.push_unended.new.out.items ≡ z))
    (and-onto c.args.catalog.now (begun c.args.version) (unended c.args.version) c.args.out.now.items c.push_begun.new.out.items c.append_all.new.out.items c.in_ok-push_begun.ensures c.in_ok-append_all.ensures.ok)
    c.push_unended.ensures
