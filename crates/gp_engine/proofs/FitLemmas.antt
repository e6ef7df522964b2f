-- What the code tells of a statement, and of results.
use Rattle.std.proofs.Common.{◌≡◌, List, refl}
use Rattle.std.specs.Prelude.{Result, Ok, Err, IfErr, IfOk, OnErr}
use Rattle.gp_algebra.specs.Views.{statement_view}
use Rattle.gp_algebra.specs.declared.statement.Select as code
use Rattle.gp_algebra.specs.declared.statement.Stmt.{Stmt}
use Rattle.gp_algebra.specs.declared.statement.Stmt.TheVariants as variant
use Rattle.gp_base.specs.declared.table.Table.{Table}
use Rattle.gp_txn.proofs.FitLemmas.{IsWrite}

-- a statement of the code that is no SELECT
pub not-read : (tables : List Table) (stmt : Stmt) → ((select : code.Select) → stmt ≡ variant.Read select → ⊥) → IsWrite tables (statement_view stmt)
not-read tables (variant.Insert table rows) other = tt
not-read tables (variant.InsertSelect table select) other = tt
not-read tables (variant.Update table sets c) other = tt
not-read tables (variant.Delete table c) other = tt
not-read tables (variant.Read select) other = other select refl

-- what holds of a result that is Ok
pub ok-map : {A E : Type 0} (P Q : A → Type 0) (result : Result A E) → ((a : A) → P a → Q a) → IfOk result P → IfOk result Q
ok-map P Q (Ok a) f p = f a p
ok-map P Q (Err e) f p = p

-- what holds of its error, where it is none
pub err-map : {A E : Type 0} (P Q : E → Type 0) (result : Result A E) → ((e : E) → P e → Q e) → IfErr result P → IfErr result Q
err-map P Q (Ok a) f p = p
err-map P Q (Err e) f p = f e p

-- what holds in any case
pub on-err : {A E : Type 0} (P : Type 0) (result : Result A E) → P → OnErr result P
on-err P (Ok a) p = tt
on-err P (Err e) p = p
