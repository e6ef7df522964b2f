use Rattle.gp_txn.proofs.LostLemmas.{lost-first, not-lost-first}
use Rattle.gp_txn.proofs.laws.the_first_committer_wins.Goals as goal

pub returns : goal.returns
returns c = record { lost = lost-first; not_lost = not-lost-first }
