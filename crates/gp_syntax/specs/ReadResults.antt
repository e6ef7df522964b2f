-- Of the contracts of `read_command`, `read_line` and `read_question`: what reading returns.
use Rattle.std.specs.Prelude.{◌≡◌, Option, Some, None, Result, Ok, Err}
use Rattle.gp_base.specs.declared.refusal.Refusal.{Refusal}
use Rattle.gp_grammar.specs.LineReading.{Fault}
use Rattle.gp_base.specs.declared.stop.Stop.{Stop}
use Rattle.gp_base.specs.declared.stop.Stop.TheVariants.{Refused, NoMemory}
use Rattle.gp_syntax.specs.Refusals.{refusal_of_fault}

-- the refusal of a text that is not read
abbrev pub refusal_in : {A : Type 0} → Result A Fault → Option Refusal
refusal_in (Ok x) = None
refusal_in (Err fault) = Some (refusal_of_fault fault)

-- what is returned is what the text is read as, where values are seen so; running out of memory says nothing of the text
abbrev pub Returns : {X A : Type 0} → (X → A) → Result X Stop → Result A Fault → Type 0
Returns view (Ok x) reading = reading ≡ Ok (view x)
Returns view (Err (Refused refusal)) reading = refusal_in reading ≡ Some refusal
Returns view (Err NoMemory) reading = Unit {0}
