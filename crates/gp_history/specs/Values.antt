-- Of the contract of `values_from`: what asking for values answers: what is due, or the refusal that is due. Running out of memory says nothing.
use Rattle.std.specs.Prelude.{◌≡◌, ◌≤◌, length, Result, Ok, Err}
use Rattle.std.specs.List.{AllByRecursion}
use Rattle.gp_base.specs.declared.refusal.Refusal.{Refusal}
use Rattle.gp_grammar.specs.declared.limits.TheConstants.{MAX_FROM}
use Rattle.gp_algebra.specs.Statements.{Select}
use Rattle.gp_base.specs.declared.stop.Stop.{Stop}
use Rattle.gp_base.specs.declared.stop.Stop.TheVariants.{Refused, NoMemory}

abbrev pub Gives : {X A : Type 0} → (X → A) → Result X Stop → Result A Refusal → Type 0
Gives view (Ok found) (Ok expected) = view found ≡ expected
Gives view (Ok found) (Err expected) = ⊥
Gives view (Err (Refused refusal)) (Ok expected) = ⊥
Gives view (Err (Refused refusal)) (Err expected) = refusal ≡ expected
Gives view (Err NoMemory) expected = Unit {0}

-- no FROM has more items than one that was read
abbrev pub HasFewItems : Select → Type 0
HasFewItems select = AllByRecursion (λ branch. length branch.from ≤ MAX_FROM) select
