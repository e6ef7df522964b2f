-- Part of the statement: the parts of an identity.
use Rattle.std.specs.Prelude.{ℕ}
use Rattle.gp_base.specs.Identities.{Identity, identity}

abbrev pub identity_transaction : Identity → ℕ
identity_transaction (identity t k n ids) = t

abbrev pub identity_statement : Identity → ℕ
identity_statement (identity t k n ids) = k
