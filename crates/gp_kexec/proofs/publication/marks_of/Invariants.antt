use Rattle.std.proofs.Common.{◌≡◌, map, take}
use Rattle.gp_base.specs.Identities.{Identity, no_sources, source}
use Rattle.gp_exec.specs.Publishing.{lists, lists_marked}
use Rattle.gp_kexec.specs.Publishing.{stands_in, stands_marked_in}
use Rattle.gp_kexec.specs.Rows.{held_view}
use Rattle.gp_kexec.proofs.publication.marks_of.Given as goal

abbrev pub invariant-loop-row : goal.invariant-loop-row
invariant-loop-row g l =
    record {
      ids : (id : Identity) → lists l.marks.items id ≡ stands_in (source id no_sources) (map held_view (take l.row-index l.rows));
      marked : (id : Identity) → lists_marked l.marks.items id ≡ stands_marked_in (source id no_sources) (map held_view (take l.row-index l.rows));
    }
