-- Part of the statement: what a statement looks at: the rows of a table that could have a part in its effect, by their own cells. A query looks, for each item of
-- FROM, at the rows of its table for which those members of the WHERE are true that are about this item alone. It looks at the columns that occur anywhere in the
-- block of the item; an UPDATE or a DELETE at those that occur in its WHERE and on the right of its SET.
use Rattle.std.specs.Prelude.{ℕ, ◌+◌, ◌&&◌, nat_le, nat_lt, ◌||◌, ◌==◌, Bool, true, false, List, [], ◌∷◌, ◌++◌, filter, replicate, zero, suc, if◌then◌else◌}
use Rattle.std.specs.List.{flat_map, list_all, list_any}
use Rattle.std.specs.Option.{option_map_or}
use Rattle.gp_base.specs.declared.cell.Cell.{Cell}
use Rattle.gp_base.specs.declared.cell.Cell.TheVariants as cell
use Rattle.gp_base.specs.declared.table.Table.{Table}
use Rattle.gp_expr.specs.Expressions as e
use Rattle.gp_expr.specs.Expressions.{Cond, Expr}
use Rattle.gp_expr.specs.Gathering.{cond_gathered, gathered}
use Rattle.gp_expr.specs.Values.{passes}
use Rattle.gp_algebra.specs.Statements.{Branch, SetExpr, Statement, insert, insert_select, update, delete, read, width_of}

-- rows of a table: those for which these conditions are true, where the cells of the row stand behind so many others
pub record Look : Type 0 where
  pub table : ℕ
  pub before : ℕ
  pub conds : List Cond
  -- the places of the columns that it uses, from 0
  pub columns : List ℕ

abbrev pub sees : Look → List Cell → Bool
sees look cells = list_all (λ c. passes c (replicate look.before cell.Null ++ cells)) look.conds

-- a condition, taken apart at AND
abbrev pub members : Cond → List Cond
members (e.and c d) = members c ++ members d
members c = c ∷ []

-- an expression is no column but one of so many behind so many others
abbrev pub is_own : ℕ → ℕ → Expr → Bool
is_own before width (e.col n) = nat_lt before n && nat_le n (before + width)
is_own before width expr = true

-- all columns of a condition are such
abbrev pub is_about : ℕ → ℕ → Cond → Bool
is_about before width = cond_gathered (is_own before width) true true ◌&&◌

-- ---- columns, counted from 1

abbrev pub is_column : ℕ → Expr → Bool
is_column column (e.col n) = n == column
is_column column expr = false

-- a column occurs in an expression, or in a condition
abbrev pub occurs_in : ℕ → Expr → Bool
occurs_in column = gathered (is_column column) false false ◌||◌

abbrev pub occurs_in_cond : ℕ → Cond → Bool
occurs_in_cond column = cond_gathered (is_column column) false false ◌||◌

abbrev pub occurs_in_branch : Branch → ℕ → Bool
occurs_in_branch branch column = list_any (occurs_in column) branch.items || option_map_or (occurs_in_cond column) branch.cond false

-- not the column that an assignment sets
abbrev pub occurs_in_update : List SetExpr → Cond → ℕ → Bool
occurs_in_update sets c column = list_any (λ (set : SetExpr). occurs_in column set.expr) sets || occurs_in_cond column c

-- of this many columns behind the first `before` ones, the places of those that occur
abbrev pub used : (ℕ → Bool) → ℕ → ℕ → List ℕ
used occurs before zero = []
used occurs before (suc place) = used occurs before place ++ (if occurs (before + suc place) then place ∷ [] else [])

-- ---- looks

module _ (tables : List Table) where
  -- the items of a FROM, the first of which is behind so many cells
  abbrev pub item_looks : (ℕ → Bool) → List Cond → ℕ → List ℕ → List Look
  item_looks occurs conds before [] = []
  item_looks occurs conds before (table ∷ others) =
      record {
        table = table;
        before = before;
        conds = filter (is_about before (width_of tables table)) conds;
        columns = used occurs before (width_of tables table);
      }
      ∷ item_looks occurs conds (before + width_of tables table) others

  abbrev pub branch_looks : Branch → List Look
  branch_looks branch = item_looks (occurs_in_branch branch) (option_map_or members branch.cond []) 0 branch.from

  -- the look of an UPDATE or a DELETE
  abbrev pub table_look : ℕ → Cond → (ℕ → Bool) → Look
  table_look table c occurs = record { table = table; before = 0; conds = c ∷ []; columns = used occurs 0 (width_of tables table) }

  abbrev pub looks : Statement → List Look
  looks (insert table rows) = []
  looks (insert_select table select) = flat_map branch_looks select
  looks (update table sets c) = table_look table c (occurs_in_update sets c) ∷ []
  looks (delete table c) = table_look table c (occurs_in_update [] c) ∷ []
  looks (read select) = flat_map branch_looks select
