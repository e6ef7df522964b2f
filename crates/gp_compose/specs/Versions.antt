-- Part of the statement: the versions of a database that the program of a state is run over.
use Rattle.std.specs.Prelude.{◌≡◌, ℕ, false, List, length}
use Rattle.std.specs.List.{AllByRecursion}
use Rattle.gp_base.specs.declared.table.Table.{Table}
use Rattle.gp_base.specs.Annotated.{Annotated, Environment}
use Rattle.gp_algebra.specs.Statements.{width_of}

-- rows are as wide as their tables, and no transaction has marked them
pub record AreVersions {M : Type 0} (tables : List Table) (env : Environment M) : Type 0 where
  pub wide : (version table : ℕ) → AllByRecursion (λ (row : Annotated M). length row.cells ≡ width_of tables table) (env version table)
  pub unmarked : (version table : ℕ) → AllByRecursion (λ (row : Annotated M). row.mark ≡ false) (env version table)
