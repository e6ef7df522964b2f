use Rattle.gp_whatif.proofs.KeptVersions.{dropped_made, dropped_stops, dropped_within}
use Rattle.gp_whatif.proofs.laws.changes_keep_earlier_versions.Goals as goal

pub returns-clause-within : goal.returns-clause-within
returns-clause-within c entries new t k version is made change = dropped_within entries new is.sessions t k version made change

pub returns-clause-made : goal.returns-clause-made
returns-clause-made c entries new t k version is made change u below versions = dropped_made entries new is.sessions t k version made change u below versions

pub returns-clause-stops : goal.returns-clause-stops
returns-clause-stops c entries new t k version is made change u below = dropped_stops entries new is.sessions t k version made change u below
