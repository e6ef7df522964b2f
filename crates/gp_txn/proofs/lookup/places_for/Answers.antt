use Rattle.std.proofs.lemmas.Result.{IfOk-weaker}
use Rattle.gp_txn.proofs.LookupLemmas.{enough-all}
use Rattle.gp_txn.proofs.lookup.places_for.Goals as goal

pub returns-in-Some-2 : goal.returns-in-Some-2
returns-in-Some-2 c = rw c.in-Some.is (rw c.in-Some-2.is at c.in_ok-places.ensures)

pub returns : goal.returns
returns c = IfOk-weaker c.places.result _ _ (λ places is. enough-all _ _ _ _ _ is) c.places.ensures
