use Rattle.std.proofs.Common.{List, ◌-◌, length}
use Rattle.gp_versions.specs.declared.key.Key.{Key}
use Rattle.gp_versions.specs.Chains.{AreChained, entered}
use Rattle.gp_versions.specs.Finding.{AreAmong}
use Rattle.gp_versions.proofs.FinderLemmas.{Walks}
use Rattle.gp_versions.proofs.chains.Chains.push_places.Given as goal

-- the places behind the one of the walk are found
abbrev pub invariant-loop-next : goal.invariant-loop-next
invariant-loop-next l =
    record {
      kept : AreAmong l.initial.found.items l.found.items;
      walks : (keys : List Key) → AreChained l.self keys → Walks keys l.fn.key (entered l.self) l.next l.found.items;
    }

abbrev pub decreases-loop-next : goal.decreases-loop-next
decreases-loop-next l = l.most - length l.found.items
