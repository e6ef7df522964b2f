-- Of the contract of `explain`: what explaining a query over a state answers: the text of its merged program, or the refusal that the log gives. Running out of
-- memory says nothing.
use Rattle.std.specs.Prelude.{◌≡◌, ℕ, List, Option, Some, None, Result, Ok, Err}
use Rattle.gp_base.specs.declared.refusal.Refusal.{Refusal}
use Rattle.gp_base.specs.declared.table.Table.{Table}
use Rattle.gp_algebra.specs.Plain.{PlainProgram}
use Rattle.gp_plantext.specs.Spelling.{Spells}
use Rattle.gp_base.specs.declared.stop.Stop.{Stop}
use Rattle.gp_base.specs.declared.stop.Stop.TheVariants.{Refused, NoMemory}

abbrev pub ExplainsBy : {X : Type 0} → (X → List ℕ) → Result X Stop → Option Refusal → List Table → PlainProgram → Type 0
ExplainsBy view (Ok text) expected tables program = (expected ≡ None) × Spells tables program (view text)
ExplainsBy view (Err (Refused refusal)) expected tables program = expected ≡ Some refusal
ExplainsBy view (Err NoMemory) expected tables program = Unit {0}
