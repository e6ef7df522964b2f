use Rattle.gp_semiring.proofs.ListingLemmas.{occurrences_listed, rising_listed}
use Rattle.gp_semiring.proofs.laws.listings_hold_each_occurrence.Goals as goal

pub returns : goal.returns
returns c = record { ascending = rising_listed; exact = occurrences_listed }
