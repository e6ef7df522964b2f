use Rattle.std.proofs.Common.{◌≡◌, ◌<◌, ◌++◌, IfSome, Some, reverse, slice_get, take}
use Rattle.gp_versions.specs.declared.key.By.TheVariants as variant
use Rattle.gp_versions.specs.Chains.{entered, up_to}
use Rattle.gp_versions.specs.Keys.{key_of_cell, keys_by}
use Rattle.gp_versions.specs.Places.{holds_with, places_where}
use Rattle.gp_versions.proofs.chains.Chains.places.Given as goal

-- the places up to the one of the walk, and then those that were found, which are the other way round
abbrev pub invariant-loop-next : goal.invariant-loop-next
invariant-loop-next l =
    record {
      at : IfSome l.next (λ p. (p < entered l.self) × (slice_get (keys_by (variant.Column l.own.column) l.spans) p ≡ Some (key_of_cell l.own.cell.now)));
      rest : places_where (holds_with l.v l.own.column l.own.cell.now) (take (up_to l.next) l.spans) ++ reverse l.found.items
          ≡ places_where (holds_with l.v l.own.column l.own.cell.now) (take (entered l.self) l.spans);
    }

abbrev pub decreases-loop-next : goal.decreases-loop-next
decreases-loop-next l = l.left
