use Rattle.std.proofs.Common.{◌≡◌, ◌≤◌, ◌+◌, ◌-◌, length, drop}
use Rattle.gp_ask.specs.DeltaForms.{added_in, removed_in}
use Rattle.gp_ask.specs.Deltas.{delta}
use Rattle.gp_ask.proofs.deltas.delta_sizes.Given as goal

-- the rows counted so far, and those of the difference of what remains, are those of the difference
abbrev pub invariant-both : goal.invariant-both
invariant-both l =
    record {
      i_within : l.i ≤ length l.rows;
      j_within : l.j ≤ length l.others;
      few_removed : l.removed ≤ l.i;
      few_added : l.added ≤ l.j;
      all_removed : l.removed + removed_in (delta (drop l.i l.rows) (drop l.j l.others)) ≡ removed_in (delta l.rows l.others);
      all_added : l.added + added_in (delta (drop l.i l.rows) (drop l.j l.others)) ≡ added_in (delta l.rows l.others);
    }

abbrev pub decreases-both : goal.decreases-both
decreases-both l = (length l.initial.rows - l.i) + (length l.initial.others - l.j)
