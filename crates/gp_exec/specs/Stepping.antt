-- Machinery: what taking the steps of a program answers, of either algebra.
use Rattle.std.specs.Prelude.{◌≡◌, List, Option, Some, None, Result, Ok, Err}
use Rattle.gp_algebra.specs.Stops as stops
use Rattle.gp_algebra.specs.Stops.{Stop, first_stop}
use Rattle.gp_exec.specs.declared.error.ExecStop.{ExecStop}
use Rattle.gp_exec.specs.declared.error.ExecStop.TheVariants.{Rows, Ancestry, Answer, NoMemory}

-- where a program stops, and the rows of its last query
pub record Outcome (R : Type 0) : Type 0 where
  pub stop : Option Stop
  pub rows : List R

-- that of a program whose first step stops here or goes on
abbrev pub stopped : {R : Type 0} → Option Stop → Outcome R → Outcome R
stopped stop later = record { stop = first_stop stop later.stop; rows = later.rows }

-- the error reports this stop; running out of memory reports none
abbrev pub ReportsStop : ExecStop → Option Stop → Type 0
ReportsStop (Rows j) stop = stop ≡ Some (stops.rows j)
ReportsStop (Ancestry j) stop = stop ≡ Some (stops.ancestry j)
ReportsStop Answer stop = ⊥
ReportsStop NoMemory stop = Unit {0}

-- these rows, unless it stops
abbrev pub Takes : {X R : Type 0} → (X → List R) → Result X ExecStop → Option Stop → List R → Type 0
Takes view (Ok found) stop meant = (stop ≡ None) × (view found ≡ meant)
Takes view (Err error) stop meant = ReportsStop error stop
