use Rattle.gp_txn.proofs.LookupLemmas.{enough-found}
use Rattle.gp_txn.proofs.lookup.indexed_places.Goals as goal

pub returns-in_ok-with_written-in-Some-2 : goal.returns-in_ok-with_written-in-Some-2
returns-in_ok-with_written-in-Some-2 c =
    enough-found _ _ _ _ _ _ _ _ c.in-Some.ensures c.as_slice.ensures.ascending (rw c.in-Some-2.is at c.in_ok-found.ensures)
    (rw c.as_slice.ensures.slots at c.in_ok-with_written-in-Some-2.ensures)
