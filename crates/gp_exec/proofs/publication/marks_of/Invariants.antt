use Rattle.std.proofs.Common.{◌≡◌, take}
use Rattle.gp_base.specs.declared.cell.Cell.TheVariants as cell
use Rattle.gp_base.specs.Identities.{Identity}
use Rattle.gp_exec.specs.Evaluating.{found_rows}
use Rattle.gp_exec.specs.PendingRows.{cell_there, shows, shows_marked}
use Rattle.gp_exec.specs.Publishing.{lists, lists_marked}
use Rattle.gp_exec.proofs.publication.marks_of.Given as goal

abbrev pub invariant-loop-place : goal.invariant-loop-place
invariant-loop-place l =
    record {
      ids : (key : Identity) → lists l.marks.items key ≡ shows (cell_there l.id) (cell.Id key) (take l.place (found_rows l.rows));
      marked : (key : Identity) → lists_marked l.marks.items key ≡ shows_marked (cell_there l.id) (cell_there l.mark) (cell.Id key) (take l.place (found_rows l.rows));
    }
