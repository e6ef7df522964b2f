-- Machinery: the rows that a query wants of the tables that it reads. A query of one table wants only those that pass its condition.
use Rattle.std.specs.Prelude.{ℕ, List, [], ◌∷◌, filter, Option, None}
use Rattle.gp_base.specs.declared.stored.Stored.{Stored}
use Rattle.gp_expr.specs.Expressions.{Cond}
use Rattle.gp_algebra.specs.Answers.{passes_where}
use Rattle.gp_algebra.specs.Statements.{Select}
use Rattle.gp_txn.specs.Overlay.{PlainRow}

-- the condition on the rows of these tables, if it is of one table
abbrev pub table_where : List ℕ → Option Cond → Option Cond
table_where (table ∷ []) cond = cond
table_where tables cond = None

-- the condition that each row has to pass that the query wants
abbrev pub row_where : Select → Option Cond
row_where (branch ∷ []) = table_where branch.from branch.cond
row_where select = None

abbrev pub wanted : Option Cond → List PlainRow → List PlainRow
wanted cond rows = filter (λ (row : PlainRow). passes_where cond row.cells) rows

abbrev pub wanted_own : Option Cond → List Stored → List Stored
wanted_own cond own = filter (λ (stored : Stored). passes_where cond stored.row) own
