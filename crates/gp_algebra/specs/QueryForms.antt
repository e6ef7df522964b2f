-- Of the laws `composed_programs_are_well_built` (gp_compose) and `plain_programs_are_well_built` (gp_prov): the forms of well-built programs of the annotated
-- algebra. They are those of rewritten statements: the contents of a table, joins of tables, and the rows that an INSERT appends. A program's steps rise, and
-- each reads earlier ones only.
use Rattle.std.specs.Prelude.{◌≡◌, ℕ, ◌<◌, ◌^◌, nat_lt, Bool, true, ◌&&◌, List, [], ◌∷◌, length, Option, Some, None}
use Rattle.std.specs.List.{list_all}
use Rattle.gp_base.specs.declared.cell.Cell.{Cell}
use Rattle.gp_expr.specs.ExpressionForms.{is_simple, cond_is_simple}
use Rattle.gp_algebra.specs.WellBuilt.{is_among}
use Rattle.gp_algebra.specs.AnnotatedQueries.{Change, Query, scan, step, select, project, product, union, given, new_rows, publish, QueryStep, Program, step_table}

-- ---- forms, given the number of columns of each table and the table of each step

module _ (columns : ℕ → ℕ) (of_step : ℕ → ℕ) where
  -- the contents of this table
  abbrev pub IsTable : ℕ → Query → Type 0
  IsTable table (scan own version) = own ≡ table
  IsTable table (step j) = of_step j ≡ table
  IsTable table (select query c) = IsTable table query
  IsTable table (project query exprs None) = ⊥
  IsTable table (project query exprs (Some change)) = IsTable table query × (length exprs ≡ columns table)
  IsTable table (publish base mine later) = IsTable table base × IsTable table mine × IsTable table later
  IsTable table (product left right) = ⊥
  IsTable table (union left right) = ⊥
  IsTable table (given t k rows) = ⊥
  IsTable table (new_rows t k b query) = ⊥

  abbrev pub IsSomeTable : Query → Type 0
  IsSomeTable query = (table : ℕ) × IsTable table query

  -- tables side by side
  abbrev pub IsJoin : Query → Type 0
  IsJoin (product left right) = IsJoin left × IsSomeTable right
  IsJoin query = IsSomeTable query

  -- tables side by side, with a WHERE or without one
  abbrev pub IsSource : Query → Type 0
  IsSource (select query c) = IsJoin query
  IsSource query = IsJoin query

  abbrev pub IsBranch : Query → Type 0
  IsBranch (project query exprs None) = IsSource query
  IsBranch _ = ⊥

  abbrev pub AreWide : ℕ → List (List Cell) → Type 0
  AreWide width [] = Unit {0}
  AreWide width (row ∷ rows) = (length row ≡ width) × AreWide width rows

  -- rows that an INSERT appends to the table
  abbrev pub AreNew : ℕ → Query → Type 0
  AreNew table (given t k rows) = AreWide (columns table) rows
  AreNew table (new_rows t k b (project query exprs None)) = IsSource query × (length exprs ≡ columns table)
  AreNew table (new_rows t k b query) = ⊥
  AreNew table (union left right) = AreNew table left × AreNew table right
  AreNew table _ = ⊥

  -- the step of a statement that writes the table
  abbrev pub IsStep : ℕ → Query → Type 0
  IsStep table (union left right) = IsTable table left × AreNew table right
  IsStep table query = IsTable table query

  -- the branches of a query
  abbrev pub IsAnswer : Query → Type 0
  IsAnswer (union left right) = IsAnswer left × IsBranch right
  IsAnswer query = IsBranch query

-- ---- expressions and numbers

abbrev pub change_is_simple : Option Change → Bool
change_is_simple None = true
change_is_simple (Some change) = cond_is_simple change.cond

-- every expression is simple, transactions, statements and branches are numbered from 1, and the rows of a VALUES list by 32 bits
abbrev pub is_sound : Query → Bool
is_sound (scan table version) = true
is_sound (step j) = true
is_sound (select query c) = is_sound query && cond_is_simple c
is_sound (project query exprs change) = is_sound query && (list_all is_simple exprs && change_is_simple change)
is_sound (product left right) = is_sound left && is_sound right
is_sound (union left right) = is_sound left && is_sound right
is_sound (given t k rows) = nat_lt 0 t && (nat_lt 0 k && nat_lt (length rows) (2 ^ 32))
is_sound (new_rows t k b query) = is_sound query && (nat_lt 0 t && (nat_lt 0 k && nat_lt 0 b))
is_sound (publish base mine later) = is_sound base && (is_sound mine && is_sound later)

-- ---- programs

abbrev pub AreAfter : ℕ → List QueryStep → Type 0
AreAfter n [] = Unit {0}
AreAfter n (first ∷ others) = (n < first.j) × AreAfter n others

-- the numbers of the steps rise
abbrev pub AreRising : List QueryStep → Type 0
AreRising [] = Unit {0}
AreRising (first ∷ others) = AreAfter first.j others × AreRising others

-- the query reads these steps only
abbrev pub reads_only : List ℕ → Query → Bool
reads_only earlier (scan table version) = true
reads_only earlier (step j) = is_among earlier j
reads_only earlier (select query c) = reads_only earlier query
reads_only earlier (project query exprs change) = reads_only earlier query
reads_only earlier (product left right) = reads_only earlier left && reads_only earlier right
reads_only earlier (union left right) = reads_only earlier left && reads_only earlier right
reads_only earlier (given t k rows) = true
reads_only earlier (new_rows t k b query) = reads_only earlier query
reads_only earlier (publish base mine later) = reads_only earlier base && (reads_only earlier mine && reads_only earlier later)

-- each step reads those before it only
abbrev pub steps_read : List ℕ → List QueryStep → Bool
steps_read earlier [] = true
steps_read earlier (first ∷ others) = reads_only earlier first.query && steps_read (first.j ∷ earlier) others

-- the numbers of these steps, before others
abbrev pub numbers_with : List ℕ → List QueryStep → List ℕ
numbers_with earlier [] = earlier
numbers_with earlier (first ∷ others) = numbers_with (first.j ∷ earlier) others

abbrev pub AreSteps : (ℕ → ℕ) → (ℕ → ℕ) → List QueryStep → Type 0
AreSteps columns of_step [] = Unit {0}
AreSteps columns of_step (first ∷ others) = IsStep columns of_step first.table first.query × AreSteps columns of_step others

-- what all well-built programs share; their last query is told apart
pub record HasSteps (columns : ℕ → ℕ) (program : Program) : Type 0 where
  pub rising : AreRising program.steps
  pub forms : AreSteps columns (step_table program.steps) program.steps
  pub reads : steps_read [] program.steps ≡ true
  pub sound : list_all (λ (step : QueryStep). is_sound step.query) program.steps ≡ true
  pub last_reads : reads_only (numbers_with [] program.steps) program.last ≡ true
  pub last_sound : is_sound program.last ≡ true

-- a program that answers a query
pub record IsWellBuilt (columns : ℕ → ℕ) (program : Program) : Type 0 where
  pub steps : HasSteps columns program
  pub answer : IsAnswer columns (step_table program.steps) program.last

-- a program that ends in the contents of this table
pub record IsTableProgram (columns : ℕ → ℕ) (table : ℕ) (program : Program) : Type 0 where
  pub steps : HasSteps columns program
  pub contents : IsTable columns (step_table program.steps) table program.last
