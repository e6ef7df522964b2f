-- Of the contracts of `check` and `check_query`: what the results of the code say.
use Rattle.std.specs.Prelude.{◌≡◌, Option, Some, None, Result, Ok, Err}
use Rattle.gp_base.specs.declared.refusal.Refusal.{Refusal}
use Rattle.gp_base.specs.declared.stop.Stop.{Stop}
use Rattle.gp_base.specs.declared.stop.Stop.TheVariants.{Refused, NoMemory}
use Rattle.gp_check.specs.declared.source.Source as code
use Rattle.gp_check.specs.Scopes.{Source}
use Rattle.gp_check.specs.declared.place.Place.{Place}
use Rattle.gp_check.specs.declared.place.Resolution.{Resolution}
use Rattle.gp_check.specs.declared.place.Resolution.TheVariants.{Absent, Found, Ambiguous}

-- the source of the code without its references
abbrev pub source_view : code.Source → Source
source_view source = record { name = source.name.now; before = source.before; columns = source.columns.now }

-- the result is what the definition gives; running out of memory says nothing
abbrev pub Checks : {X A : Type 0} → (X → A) → Result X Stop → Result A Refusal → Type 0
Checks view (Ok x) checked = checked ≡ Ok (view x)
Checks view (Err (Refused refusal)) checked = checked ≡ Err refusal
Checks view (Err NoMemory) checked = Unit {0}

-- the result is the first fault, or Ok where there is none; running out of memory says nothing
abbrev pub Finds : {X : Type 0} → Result X Stop → Option Refusal → Type 0
Finds (Ok x) fault = fault ≡ None
Finds (Err (Refused refusal)) fault = fault ≡ Some refusal
Finds (Err NoMemory) fault = Unit {0}

-- what is known with one more place, if there is one
abbrev pub with_place : Resolution → Option Place → Resolution
with_place found None = found
with_place Absent (Some place) = Found place
with_place (Found other) (Some place) = Ambiguous
with_place Ambiguous (Some place) = Ambiguous
