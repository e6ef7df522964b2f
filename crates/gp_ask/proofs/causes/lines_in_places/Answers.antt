use Rattle.std.proofs.Common.{List, Option, ap, length, ℕ, ◌∙◌}
use Rattle.std.specs.Prelude.{None}
use Rattle.std.proofs.lemmas.List.{length-replicate}
use Rattle.gp_dump.specs.Views.{dump_view}
use Rattle.gp_ask.proofs.CausesLemmas.{none-put}
use Rattle.gp_ask.proofs.causes.lines_in_places.Goals as goal

pub put_all-requires-clause-lines : goal.put_all-requires-clause-lines
put_all-requires-clause-lines c =
    let none : Option (List ℕ) = None in
    none-put c.args.asked.now (dump_view c.args.asked.now.dump.now).entries c.args.writes.now c.deref_mut.result.now c.requires.writes
    (ap length (c.deref_mut.ensures.value ∙ c.in_ok-lines.ensures) ∙ length-replicate _ none)
