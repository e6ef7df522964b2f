-- Machinery: the identities of writes, for the invariant of `Writes`.
use Rattle.gp_base.specs.Identities.{Identity}
use Rattle.gp_versions.specs.declared.span.Write.{Write}

abbrev pub id_of : Write → Identity
id_of write = write.id
