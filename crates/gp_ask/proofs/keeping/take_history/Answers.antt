use Rattle.std.proofs.Common.{Option, subst, sym}
use Rattle.gp_ask.specs.declared.keeping.KeptHistory.{KeptHistory}
use Rattle.gp_ask.specs.Keeping.{MayBeChanged}
use Rattle.gp_ask.proofs.keeping.take_history.Goals as goal

pub returns-in-Some-clause-history : goal.returns-in-Some-clause-history
returns-in-Some-clause-history c = λ dump kept. c.with_changes.ensures dump (subst (λ (own : Option KeptHistory). MayBeChanged dump own) (sym c.in-Some.ensures.value) kept)
