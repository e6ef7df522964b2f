use Rattle.std.proofs.Common.{◌≡◌, OnOk, List, ℕ, subst}
use Rattle.gp_algebra.specs.Statements.{width_of}
use Rattle.gp_sql.specs.NamedQueries.{holding, stored_terms}
use Rattle.gp_sql.specs.Sql as s
use Rattle.gp_sql.proofs.WriterLemmas.{scan-where}
use Rattle.gp_sql.proofs.scan_writer.push_scanned.Goals as goal

pub returns : goal.returns
returns c =
    subst (λ (z : List ℕ). OnOk c.push_holding.result (c.push_holding.new.out.items ≡ z))
    (scan-where c.args.catalog.now c.args.table (s.named (stored_terms c.args.table 0 (width_of c.args.catalog.now c.args.table))) (holding c.args.version) c.args.out.now.items
    c.append_all.new.out.items c.push_scanned_items.new.out.items c.append_all-2.new.out.items c.name_of.result.now
    c.in_ok-append_all.ensures.ok c.in_ok-push_scanned_items.ensures c.in_ok-append_all-2.ensures.ok c.name_of.ensures) c.push_holding.ensures
