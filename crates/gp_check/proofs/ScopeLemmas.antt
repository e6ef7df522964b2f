-- The column that a name stands for, found source by source.
use Rattle.std.proofs.Common.{◌≡◌, List, [], ◌∷◌, Some, refl}
use Rattle.gp_check.specs.declared.place.Place.{Place}
use Rattle.gp_check.specs.declared.place.Resolution.{Resolution}
use Rattle.gp_check.specs.declared.place.Resolution.TheVariants.{Absent, Ambiguous}
use Rattle.gp_check.specs.Scopes.{only_place}
use Rattle.gp_check.specs.Views.{with_place}

-- what is known with more places
abbrev pub with_places : Resolution → List Place → Resolution
with_places found [] = found
with_places found (place ∷ places) = with_places (with_place found (Some place)) places

pub ambiguous_stays : (places : List Place) → with_places Ambiguous places ≡ Ambiguous
ambiguous_stays [] = refl
ambiguous_stays (place ∷ places) = ambiguous_stays places

pub places_known : (places : List Place) → with_places Absent places ≡ only_place places
places_known [] = refl
places_known (place ∷ []) = refl
places_known (place ∷ other ∷ others) = ambiguous_stays others
