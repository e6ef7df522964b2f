-- Part of the statement: annotated rows as rows of the plain algebra, with their monomials or without them.
use Rattle.std.specs.Prelude.{Bool, true, false, List, [], ◌∷◌}
use Rattle.gp_base.specs.declared.cell.Cell.{Cell}
use Rattle.gp_base.specs.declared.cell.Cell.TheVariants as cell
use Rattle.gp_base.specs.Annotated.{Annotated, Environment}
use Rattle.gp_base.specs.Tokens.{Monomial}
use Rattle.gp_algebra.specs.Encoding as a
use Rattle.gp_algebra.specs.Plain.{PlainEnvironment}

-- what is there with provenance only
abbrev pub noted : {X : Type 0} → Bool → X → List X
noted true x = x ∷ []
noted false x = []

abbrev pub encoded_row : Bool → Annotated Monomial → List Cell
encoded_row prov row = a.encoded_row (λ (monomial : Monomial). noted prov (cell.Mono monomial)) row

abbrev pub encoded : Bool → Environment Monomial → PlainEnvironment
encoded prov env version table = a.encoded (λ (monomial : Monomial). noted prov (cell.Mono monomial)) env version table
