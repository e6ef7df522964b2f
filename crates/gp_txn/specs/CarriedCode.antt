-- Machinery: the identities of rows that are carried over, for the invariant of `CarriedRows`.
use Rattle.gp_base.specs.Identities.{Identity}
use Rattle.gp_txn.specs.declared.carried.Carried.{Carried}

abbrev pub carried_id : Carried → Identity
carried_id carried = carried.id
