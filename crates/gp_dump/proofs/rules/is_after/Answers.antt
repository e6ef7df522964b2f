use Rattle.std.proofs.Common.{Bool, ap, sym, ◌∙◌, ◌&&◌}
use Rattle.std.proofs.lemmas.Bool.{lt-ltb}
use Rattle.gp_dump.specs.Dumps.{has_ended_by}
use Rattle.gp_dump.proofs.RowLemmas.{after-equal}
use Rattle.gp_dump.proofs.rules.is_after.Goals as goal

pub returns-then-last-span : goal.returns-then-last-span
returns-then-last-span c =
    let last = c.args.last.now in
    let span = c.args.span.now in
    c.has_ended_by.ensures
    ∙ ap (λ (b : Bool). b && has_ended_by last.to span.from) (sym (lt-ltb last.from span.from c.if-last-span.true))
    ∙ sym (after-equal last span (sym c.compare.ensures ∙ c.in-Equal.is))
