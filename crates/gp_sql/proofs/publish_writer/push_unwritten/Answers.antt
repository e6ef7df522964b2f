use Rattle.std.proofs.Common.{◌≡◌, OnOk, List, ℕ, subst}
use Rattle.gp_sql.specs.NamedQueries.{is_missing}
use Rattle.gp_sql.specs.WrittenQueries.{source_of}
use Rattle.gp_sql.proofs.WriterLemmas.{all-of-x-where}
use Rattle.gp_sql.proofs.publish_writer.push_unwritten.Goals as goal

pub returns : goal.returns
returns c =
    subst (λ (z : List ℕ). OnOk c.push_missing.result (c.push_missing.new.out.items ≡ z))
    (all-of-x-where c.args.catalog.now (source_of c.args.later) (is_missing c.args.at (source_of c.args.written)) c.args.out.now.items c.push_from.new.out.items c.in_ok-push_from.ensures) c.push_missing.ensures
