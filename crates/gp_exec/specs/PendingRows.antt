-- Machinery: rows of which the identities and the marks are looked at before the rows are made.
use Rattle.std.specs.Prelude.{◌≡◌, ℕ, suc, Bool, true, ◌&&◌, List, map, Option, Some, None}
use Rattle.std.specs.List.{list_all, list_any}
use Rattle.std.specs.Option.{option_map}
use Rattle.gp_base.specs.declared.cell.Cell.{Cell}
use Rattle.gp_expr.specs.Expressions.{Expr}
use Rattle.gp_expr.specs.ExpressionForms.{is_simple}
use Rattle.gp_expr.specs.Values.{column, value}
use Rattle.gp_expr.specs.Views.{expr_view}
use Rattle.gp_algebra.specs.Answers.{values}
use Rattle.gp_algebra.specs.Plain.{is_marked, is_same_id}
use Rattle.gp_algebra.specs.WellBuilt.{makes_no_identity}
use Rattle.gp_exec.specs.declared.cell_place.CellPlace.{CellPlace}
use Rattle.gp_exec.specs.declared.cell_place.CellPlace.TheVariants as place
use Rattle.gp_exec.specs.declared.pending.Pending.{Pending}
use Rattle.gp_exec.specs.Evaluating.{found_rows}

-- ---- a cell of a row

abbrev pub cell_there : CellPlace → List Cell → Cell
cell_there (place.Column n) row = column n row
cell_there (place.Value expr) row = value (expr_view expr.now) row

abbrev pub place_is_simple : CellPlace → Bool
place_is_simple (place.Column n) = true
place_is_simple (place.Value expr) = is_simple (expr_view expr.now)

-- ---- rows that expressions make, or that are there already

abbrev pub made_row : Option (List Expr) → List Cell → List Cell
made_row None row = row
made_row (Some exprs) row = values exprs row

abbrev pub made_rows : Option (List Expr) → List (List Cell) → List (List Cell)
made_rows None rows = rows
made_rows (Some exprs) rows = map (values exprs) rows

abbrev pub make_no_identity : Option (List Expr) → Bool
make_no_identity None = true
make_no_identity (Some exprs) = list_all makes_no_identity exprs

-- the cell of a column of the made rows is there
pub record Finds (l : CellPlace) (n : ℕ) (exprs : Option (List Expr)) : Type 0 where
  pub simple : place_is_simple l ≡ true
  pub cell : (row : List Cell) → cell_there l row ≡ column n (made_row exprs row)

abbrev pub exprs_of : Pending → Option (List Expr)
exprs_of pending = option_map (λ exprs. map expr_view exprs.now) pending.exprs

abbrev pub pending_rows : Pending → List (List Cell)
pending_rows pending = made_rows (exprs_of pending) (found_rows pending.rows)

-- identities are in this column, and marks in the next one
pub record IsPending (at : ℕ) (pending : Pending) : Type 0 where
  pub id : Finds pending.id at (exprs_of pending)
  pub mark : Finds pending.mark (suc at) (exprs_of pending)
  pub plain : make_no_identity (exprs_of pending) ≡ true

-- ---- identities, with functions that give the identity and the mark of a row

-- a row has this identity
abbrev pub shows : (List Cell → Cell) → Cell → List (List Cell) → Bool
shows id x rows = list_any (λ row. is_same_id (id row) x) rows

-- a marked row has it
abbrev pub shows_marked : (List Cell → Cell) → (List Cell → Cell) → Cell → List (List Cell) → Bool
shows_marked id mark x rows = list_any (λ row. is_marked (mark row) && is_same_id (id row) x) rows
