use Rattle.std.proofs.Common.{inl, inr, sym, ◌∙◌}
use Rattle.gp_history.proofs.found.notes_of.Goals as goal

pub returns-then-are_noted : goal.returns-then-are_noted
returns-then-are_noted g c = inr (c.in_ok-written.ensures, sym c.are_noted.ensures ∙ c.if-are_noted.true)

pub returns : goal.returns
returns g c = inl c.in_ok-found.ensures
