-- Part of the statement: annotated rows as rows of the plain algebra. Behind the columns of its table a row has its identity, whether the running
-- transaction wrote it, and cells for its annotation, or none.
use Rattle.std.specs.Prelude.{List, ◌∷◌, ◌++◌, map}
use Rattle.gp_base.specs.declared.cell.Cell.{Cell}
use Rattle.gp_base.specs.declared.cell.Cell.TheVariants as cell
use Rattle.gp_base.specs.Annotated.{Annotated, Environment}
use Rattle.gp_algebra.specs.Plain.{PlainEnvironment}

module _ {M : Type 0} (note : M → List Cell) where
  abbrev pub encoded_row : Annotated M → List Cell
  encoded_row row = row.cells ++ (cell.Id row.identity ∷ cell.Mark row.mark ∷ note row.annotation)

  -- the rows of each table in each version, in the same order
  abbrev pub encoded : Environment M → PlainEnvironment
  encoded env version table = map encoded_row (env version table)
