use Rattle.std.proofs.Common.{Option, subst, sym}
use Rattle.gp_ask.specs.declared.keeping.KeptValues.{KeptValues}
use Rattle.gp_ask.specs.Keeping.{MayBeKeptBy}
use Rattle.gp_ask.proofs.keeping.take_values.Goals as goal

pub returns-in-Some : goal.returns-in-Some
returns-in-Some g c = λ domain dump kept. c.by_same_rules.ensures domain dump (subst (λ (own : Option (KeptValues g.row.K.Denot)). MayBeKeptBy domain dump own) (sym c.in-Some.ensures.value) kept)
