use Rattle.std.proofs.Common.{◌≡◌, ◌∙◌, ◌++◌, OnOk, List, ℕ, ap, subst, sym}
use Rattle.gp_sql.specs.ItemTexts.{stored_text}
use Rattle.gp_sql.proofs.WriterLemmas.{scanned-items}
use Rattle.gp_sql.proofs.scan_writer.push_scanned_items.Goals as goal

pub returns : goal.returns
returns c =
    subst (λ (z : List ℕ). OnOk c.push_stored.result (c.push_stored.new.out.items ≡ c.args.out.now.items ++ z))
    (ap (stored_text 0) c.columns_of.ensures ∙ sym (scanned-items c.args.catalog.now c.args.table)) c.push_stored.ensures
