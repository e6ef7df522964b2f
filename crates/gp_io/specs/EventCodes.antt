-- Machinery: how the logic stores events.
use Rattle.std.specs.Prelude.{◌≡◌, ℕ, List, [], cond, ◌==◌, refl}
use Rattle.std.specs.Coded.{Coded, code_by, coded×, coded_ℕ, coded_list}
use Rattle.gp_io.specs.Events.{Event, Read, Missing, Unreadable, Stopped, Replaced, NotReplaced}

abbrev Parts : Type 0
Parts = ℕ × (List ℕ × (ℕ × List ℕ))

abbrev to_parts : Event → Parts
to_parts (Read name most bytes) = (0, (name, (most, bytes)))
to_parts (Missing name) = (1, (name, (0, [])))
to_parts (Unreadable name) = (2, (name, (0, [])))
to_parts (Replaced name bytes) = (3, (name, (0, bytes)))
to_parts (NotReplaced name bytes) = (4, (name, (0, bytes)))
to_parts (Stopped name) = (5, (name, (0, [])))

abbrev from_parts : Parts → Event
from_parts p =
    cond (p.0 == 0) (Read p.1.0 p.1.1.0 p.1.1.1) (cond (p.0 == 1) (Missing p.1.0) (cond (p.0 == 2) (Unreadable p.1.0) (cond (p.0 == 3) (Replaced p.1.0 p.1.1.1) (cond (p.0 == 4) (NotReplaced p.1.0 p.1.1.1) (Stopped p.1.0)))))

pub from_parts-to_parts : (event : Event) → from_parts (to_parts event) ≡ event
from_parts-to_parts (Read name most bytes) = refl
from_parts-to_parts (Missing name) = refl
from_parts-to_parts (Unreadable name) = refl
from_parts-to_parts (Replaced name bytes) = refl
from_parts-to_parts (NotReplaced name bytes) = refl
from_parts-to_parts (Stopped name) = refl

abbrev pub events_code : Coded (List Event)
events_code = coded_list (code_by Parts (coded× coded_ℕ (coded× (coded_list coded_ℕ) (coded× coded_ℕ (coded_list coded_ℕ)))) to_parts from_parts from_parts-to_parts)
