use Rattle.std.proofs.Common.{◌≡◌, OnOk, List, ℕ, subst}
use Rattle.gp_sql.proofs.WriterLemmas.{given-onto}
use Rattle.gp_sql.proofs.values_writer.push_given_rows.Goals as goal

pub returns : goal.returns
returns c =
    subst (λ (z : List ℕ). OnOk c.push_others_given.result (c.push_others_given.new.out.items ≡ z))
    (given-onto c.args.catalog.now c.args.due.now c.args.first.now c.args.others.now c.args.out.now.items c.push_given.new.out.items c.in_ok-push_given.ensures) c.push_others_given.ensures
