-- A test of equal tables that looks at what identities and cells give does not look at annotations.
use Rattle.std.proofs.Common.{Bool, List, map}
use Rattle.gp_base.specs.declared.cell.Cell.{Cell}
use Rattle.gp_base.specs.Annotated.{Annotated}
use Rattle.gp_base.specs.Identities.{Identity}

module _ {X : Type 0} (key : Identity → List Cell → X) (test : List X → List X → Bool) where
  abbrev pub keys : {M : Type 0} → List (Annotated M) → List X
  keys rows = map (λ row. key row.identity row.cells) rows
