use Rattle.std.proofs.Common.{◌≡◌, map, drop, filter_map}
use Rattle.gp_check.specs.Scopes.{place_in, resolution}
use Rattle.gp_check.specs.Views.{source_view}
use Rattle.gp_check.proofs.ScopeLemmas.{with_places}
use Rattle.gp_check.proofs.scope.resolve.Given as goal

abbrev pub invariant-loop-source : goal.invariant-loop-source
invariant-loop-source l =
    with_places l.found (filter_map (place_in (record { item = l.item; col = l.col })) (map source_view (drop l.source-index l.scope)))
    ≡ resolution (map source_view l.scope) (record { item = l.item; col = l.col })
