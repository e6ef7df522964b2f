use Rattle.std.proofs.Common.{◌≡◌, ◌<◌, drop, length}
use Rattle.gp_sql.specs.Types.{given_types}
use Rattle.gp_sql.proofs.query_types.given_types.Given as goal

-- the types of the rows from this one on
abbrev pub invariant-loop-at : goal.invariant-loop-at
invariant-loop-at l =
    record {
      within : l.at < length l.rows;
      types : l.found ≡ given_types (drop l.at l.rows);
    }

abbrev pub decreases-loop-at : goal.decreases-loop-at
decreases-loop-at l = l.at
