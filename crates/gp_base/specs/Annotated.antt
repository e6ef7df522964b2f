-- Part of the statement: rows with identities and annotations, databases and environments. Annotations are of any kind that has a one, a
-- product and a value for each token: monomials, the elements of a semiring, or nothing at all. A table of annotated rows is then a
-- K-relation (Green, Karvounarakis and Tannen 2007), kept as a list of occurrences.
use Rattle.std.specs.Prelude.{ℕ, Bool, List}
use Rattle.gp_base.specs.declared.cell.Cell.{Cell}
use Rattle.gp_base.specs.declared.token.Token.{Token}
use Rattle.gp_base.specs.Identities.{Identity}
use Rattle.gp_base.specs.Tokens as m
use Rattle.gp_base.specs.Tokens.{Monomial}

-- a kind of annotations
pub record Annotations (M : Type 0) : Type 0 where
  pub one : M
  pub times : M → M → M
  pub token : Token → M

-- no annotations
abbrev pub unannotated : Annotations (Unit {0})
unannotated = record { one = tt; times = λ a b. tt; token = λ t. tt }

-- monomials: a row is annotated with one summand of its provenance polynomial
abbrev pub monomials : Annotations Monomial
monomials = record { one = m.one; times = m.times; token = m.once }

-- a row, with whether the running transaction wrote it
pub record Annotated (M : Type 0) : Type 0 where
  pub identity : Identity
  pub cells : List Cell
  pub mark : Bool
  pub annotation : M

-- the rows of each table, in order; tables are numbered by their places in the catalogue, from 0
abbrev pub Database : Type 0 → Type 0
Database M = ℕ → List (Annotated M)

-- a database for each version; it need not come from a history
abbrev pub Environment : Type 0 → Type 0
Environment M = ℕ → Database M
