-- Machinery: what of a spellable program its statements give. That its numbers have 32 bits, the types of the code give (Numbers).
use Rattle.std.specs.Prelude.{◌≡◌, ℕ, nat_le, ◌&&◌, Bool, true, false, List, Option, Some, None}
use Rattle.std.specs.List.{list_all}
use Rattle.gp_base.specs.declared.cell.Cell.{Cell}
use Rattle.gp_base.specs.declared.cell.Cell.TheVariants as cell
use Rattle.gp_base.specs.declared.table.Table.{Table}
use Rattle.gp_base.specs.Cells.{fits_number, is_user_text}
use Rattle.gp_base.specs.Identities.{Identity, Sources, identity, no_sources, source}
use Rattle.gp_expr.specs.Expressions as e
use Rattle.gp_expr.specs.Expressions.{Expr, Cond, Parts}
use Rattle.gp_algebra.specs.AnnotatedQueries as q
use Rattle.gp_algebra.specs.AnnotatedQueries.{Change, Query, QueryStep}
use Rattle.gp_algebra.specs.Fitting.{is_there}
use Rattle.gp_algebra.specs.Plain as p
use Rattle.gp_algebra.specs.Plain.{Plain, PlainStep, PlainProgram}
use Rattle.gp_plantext.specs.Spellable.{has_item, has_part, table_is_spellable}

-- ---- cells

abbrev mutual
  -- the numbers of an identity count from 1
  pub counts_from_one : Identity → Bool
  counts_from_one (identity t k n ids) = nat_le 1 t && (nat_le 1 k && (nat_le 1 n && count_from_one ids))

  pub count_from_one : Sources → Bool
  count_from_one no_sources = true
  count_from_one (source id ids) = counts_from_one id && count_from_one ids

abbrev pub cell_is_shaped : Cell → Bool
cell_is_shaped cell.Null = true
cell_is_shaped (cell.Int number) = fits_number number
cell_is_shaped (cell.Text text) = is_user_text text
cell_is_shaped (cell.Id id) = counts_from_one id
cell_is_shaped (cell.Mark mark) = true
cell_is_shaped (cell.Mono monomial) = true

-- ---- expressions and conditions

abbrev mutual
  pub expr_is_shaped : Expr → Bool
  expr_is_shaped (e.col n) = true
  expr_is_shaped (e.constant cell) = cell_is_shaped cell
  expr_is_shaped (e.add a b) = expr_is_shaped a && expr_is_shaped b
  expr_is_shaped (e.sub a b) = expr_is_shaped a && expr_is_shaped b
  expr_is_shaped (e.mul a b) = expr_is_shaped a && expr_is_shaped b
  expr_is_shaped (e.neg a) = expr_is_shaped a
  expr_is_shaped (e.case c a b) = cond_is_shaped c && (expr_is_shaped a && expr_is_shaped b)
  expr_is_shaped (e.new_id t k b parts) = has_part parts && parts_are_shaped parts
  expr_is_shaped (e.times a b) = expr_is_shaped a && expr_is_shaped b

  pub cond_is_shaped : Cond → Bool
  cond_is_shaped e.always = true
  cond_is_shaped (e.compare cmp a b) = expr_is_shaped a && expr_is_shaped b
  cond_is_shaped (e.is_null a holds) = expr_is_shaped a
  cond_is_shaped (e.is_true c holds) = cond_is_shaped c
  cond_is_shaped (e.and c d) = cond_is_shaped c && cond_is_shaped d
  cond_is_shaped (e.or c d) = cond_is_shaped c && cond_is_shaped d
  cond_is_shaped (e.not c) = cond_is_shaped c

  pub parts_are_shaped : Parts → Bool
  parts_are_shaped e.no_parts = true
  parts_are_shaped (e.part a others) = expr_is_shaped a && parts_are_shaped others

-- ---- plain queries and programs

abbrev pub row_is_shaped : List Cell → Bool
row_is_shaped row = has_item row && list_all cell_is_shaped row

abbrev pub query_is_shaped : List Table → Plain → Bool
query_is_shaped tables (p.scan table version) = table_is_spellable tables table
query_is_shaped tables (p.step j) = true
query_is_shaped tables (p.select query c) = query_is_shaped tables query && cond_is_shaped c
query_is_shaped tables (p.project query exprs) = query_is_shaped tables query && (has_item exprs && list_all expr_is_shaped exprs)
query_is_shaped tables (p.product left right) = query_is_shaped tables left && query_is_shaped tables right
query_is_shaped tables (p.union left right) = query_is_shaped tables left && query_is_shaped tables right
query_is_shaped tables (p.given rows) = has_item rows && list_all row_is_shaped rows
query_is_shaped tables (p.publish at base mine later) = query_is_shaped tables base && (query_is_shaped tables mine && query_is_shaped tables later)

abbrev pub step_is_shaped : List Table → PlainStep → Bool
step_is_shaped tables step = table_is_spellable tables step.table && query_is_shaped tables step.query

abbrev pub is_shaped : List Table → PlainProgram → Bool
is_shaped tables program = list_all (step_is_shaped tables) program.steps && query_is_shaped tables program.last

-- ---- annotated queries and steps

-- joined tables, which have columns
abbrev pub has_tables : Query → Bool
has_tables (q.scan table version) = true
has_tables (q.step j) = true
has_tables (q.select query c) = has_tables query
has_tables (q.project query exprs change) = true
has_tables (q.product left right) = has_tables left
has_tables (q.union left right) = has_tables left
has_tables (q.given t k rows) = false
has_tables (q.new_rows t k b query) = has_tables query
has_tables (q.publish base mine later) = has_tables base

-- the rows that a branch of an INSERT makes are those of joined tables
abbrev pub has_sources : Query → Bool
has_sources (q.project query exprs change) = has_tables query
has_sources query = true

-- an answer shows an item; what an UPDATE sets is shaped
abbrev pub change_is_shaped : List Expr → Option Change → Bool
change_is_shaped exprs None = has_item exprs
change_is_shaped exprs (Some change) = cond_is_shaped change.cond

abbrev pub annotated_is_shaped : List Table → Query → Bool
annotated_is_shaped tables (q.scan table version) = table_is_spellable tables table
annotated_is_shaped tables (q.step j) = true
annotated_is_shaped tables (q.select query c) = annotated_is_shaped tables query && cond_is_shaped c
annotated_is_shaped tables (q.project query exprs change) = annotated_is_shaped tables query && (list_all expr_is_shaped exprs && change_is_shaped exprs change)
annotated_is_shaped tables (q.product left right) = annotated_is_shaped tables left && annotated_is_shaped tables right
annotated_is_shaped tables (q.union left right) = annotated_is_shaped tables left && annotated_is_shaped tables right
annotated_is_shaped tables (q.given t k rows) = nat_le 1 t && (nat_le 1 k && (has_item rows && list_all (list_all cell_is_shaped) rows))
annotated_is_shaped tables (q.new_rows t k b query) = annotated_is_shaped tables query && has_sources query
annotated_is_shaped tables (q.publish base mine later) = annotated_is_shaped tables base && (annotated_is_shaped tables mine && annotated_is_shaped tables later)

abbrev pub annotated_step_is_shaped : List Table → QueryStep → Bool
annotated_step_is_shaped tables step = table_is_spellable tables step.table && annotated_is_shaped tables step.query

-- ---- names

-- every table of the catalogue has a name of the language
pub record AreNamed (tables : List Table) : Type 0 where
  pub named : (table : ℕ) → is_there tables table ≡ true → table_is_spellable tables table ≡ true

-- a program that has a text, if its tables have names and its numbers are in range
pub record IsShaped (tables : List Table) (program : PlainProgram) : Type 0 where
  pub shaped : AreNamed tables → is_shaped tables program ≡ true
