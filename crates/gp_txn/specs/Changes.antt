-- Machinery: an UPDATE or a DELETE of a table, without the pointers of the code.
use Rattle.std.specs.Prelude.{ℕ, Bool, not, List, map, filter, ◌&&◌}
use Rattle.std.specs.List.{list_all}
use Rattle.gp_base.specs.Annotated.{Annotations, Annotated}
use Rattle.gp_expr.specs.Expressions.{Cond}
use Rattle.gp_expr.specs.ExpressionForms.{is_simple, cond_is_simple}
use Rattle.gp_expr.specs.Values.{passes}
use Rattle.gp_expr.specs.Views.{cond_view}
use Rattle.gp_algebra.specs.Statements as s
use Rattle.gp_algebra.specs.Statements.{SetExpr, Statement}
use Rattle.gp_algebra.specs.Effects.{changed}
use Rattle.gp_algebra.specs.Views.{set_view}
use Rattle.gp_txn.specs.declared.change.Change as code
use Rattle.gp_txn.specs.declared.change.Change.TheVariants.{Update, Delete}

pub data Change : Type 0 where
  update : List SetExpr → Cond → Change
  delete : Cond → Change

abbrev pub change_view : code.Change → Change
change_view (Update sets cond) = update (map set_view sets.now) (cond_view cond.now)
change_view (Delete cond) = delete (cond_view cond.now)

-- as a statement on a table
abbrev pub statement_at : ℕ → Change → Statement
statement_at table (update sets cond) = s.update table sets cond
statement_at table (delete cond) = s.delete table cond

abbrev pub cond_of : Change → Cond
cond_of (update sets cond) = cond
cond_of (delete cond) = cond

abbrev pub set_is_simple : SetExpr → Bool
set_is_simple set = is_simple set.expr

-- its expressions are simple
abbrev pub change_is_simple : Change → Bool
change_is_simple (update sets cond) = list_all set_is_simple sets && cond_is_simple cond
change_is_simple (delete cond) = cond_is_simple cond

module _ {M : Type 0} (domain : Annotations M) where
  -- the rows of its table afterwards
  abbrev pub rows_after : ℕ → ℕ → Change → List (Annotated M) → List (Annotated M)
  rows_after t k (update sets cond) rows = map (changed domain t k sets cond) rows
  rows_after t k (delete cond) rows = filter (λ row. not (passes cond row.cells)) rows

-- the rows that it writes
abbrev pub touched : {M : Type 0} → Change → List (Annotated M) → List (Annotated M)
touched change rows = filter (λ row. passes (cond_of change) row.cells) rows
