-- Of the laws `composed_programs_mean_the_states` (gp_compose) and `values_are_sums` (gp_kexec): the meaning of the annotated algebra over annotated rows.
use Rattle.std.specs.Prelude.{ℕ, ◌&&◌, ◌||◌, not, Bool, true, false, List, [], ◌∷◌, ◌++◌, map, filter, Option, Some, None, if◌then◌else◌}
use Rattle.std.specs.List.{list_any, flat_map}
use Rattle.gp_base.specs.declared.cell.Cell.{Cell}
use Rattle.gp_base.specs.declared.token.Token.TheVariants.{Queried}
use Rattle.gp_base.specs.Annotated.{Annotations, Annotated, Environment}
use Rattle.gp_base.specs.Identities.{identity, Sources, no_sources, source, same_sources}
use Rattle.gp_expr.specs.Expressions.{Expr}
use Rattle.gp_expr.specs.Values.{passes}
use Rattle.gp_algebra.specs.Answers.{values}
use Rattle.gp_algebra.specs.Effects.{given_from}
use Rattle.gp_algebra.specs.Plain.{no_steps, with_step}
use Rattle.gp_algebra.specs.AnnotatedQueries.{Change, Query, scan, step, select, project, product, union, given, new_rows, publish, QueryStep, Program}

-- a row of a query: the identities of the rows that it was computed from, its cells, whether the transaction wrote it, and its annotation
pub record Derived (M : Type 0) : Type 0 where
  pub sources : Sources
  pub cells : List Cell
  pub mark : Bool
  pub annotation : M

abbrev pub joined_sources : Sources → Sources → Sources
joined_sources no_sources others = others
joined_sources (source id ids) others = source id (joined_sources ids others)

module _ {M : Type 0} (domain : Annotations M) where
  abbrev pub scanned : Annotated M → Derived M
  scanned row = record { sources = source row.identity no_sources; cells = row.cells; mark = row.mark; annotation = row.annotation }

  -- the new cells of a row, and what a change does to it
  abbrev pub projected : List Expr → Option Change → Derived M → Derived M
  projected exprs None row = record row { cells = values exprs row.cells }
  projected exprs (Some change) row =
      if passes change.cond row.cells
      then record { sources = row.sources; cells = values exprs row.cells; mark = true; annotation = domain.times row.annotation (domain.token change.token) }
      else record row { cells = values exprs row.cells }

  -- two rows side by side
  abbrev pub crossed : Derived M → Derived M → Derived M
  crossed left right = record {
    sources = joined_sources left.sources right.sources;
    cells = left.cells ++ right.cells;
    mark = false;
    annotation = domain.times left.annotation right.annotation;
  }

  -- the row that a branch of an INSERT makes of a row
  abbrev pub renewed : ℕ → ℕ → ℕ → Derived M → Derived M
  renewed t k b row = record {
    sources = source (identity t k b row.sources) no_sources;
    cells = row.cells;
    mark = true;
    annotation = domain.times (domain.token (Queried t k)) row.annotation;
  }

  -- whether one of the rows has these identities
  abbrev pub stands : Sources → List (Derived M) → Bool
  stands ids rows = list_any (λ (row : Derived M). same_sources row.sources ids) rows

  -- a row was written where a marked row of mine is it, or where base has it and mine has not
  abbrev pub was_replaced : List (Derived M) → List (Derived M) → Sources → Bool
  was_replaced base mine ids = list_any (λ (row : Derived M). row.mark && same_sources row.sources ids) mine || (stands ids base && not (stands ids mine))

  -- later without the rows that are written, then the marked rows of mine
  abbrev pub published_onto : List (Derived M) → List (Derived M) → List (Derived M) → List (Derived M)
  published_onto base mine later =
      filter (λ (row : Derived M). not (was_replaced base mine row.sources)) later ++ filter (λ (row : Derived M). row.mark) mine

  -- the rows of a query, in the order of nested loops, given those of each step
  abbrev pub meaning : (ℕ → List (Derived M)) → Environment M → Query → List (Derived M)
  meaning steps env (scan table version) = map scanned (env version table)
  meaning steps env (step j) = steps j
  meaning steps env (select query c) = filter (λ (row : Derived M). passes c row.cells) (meaning steps env query)
  meaning steps env (project query exprs change) = map (projected exprs change) (meaning steps env query)
  meaning steps env (product left right) = flat_map (λ row. map (crossed row) (meaning steps env right)) (meaning steps env left)
  meaning steps env (union left right) = meaning steps env left ++ meaning steps env right
  meaning steps env (given t k rows) = map scanned (given_from domain t k 1 rows)
  meaning steps env (new_rows t k b query) = map (renewed t k b) (meaning steps env query)
  meaning steps env (publish base mine later) = published_onto (meaning steps env base) (meaning steps env mine) (meaning steps env later)

  -- the rows of each step after all of these were taken in turn
  abbrev pub steps_meaning : Environment M → List QueryStep → (ℕ → List (Derived M)) → ℕ → List (Derived M)
  steps_meaning env [] steps = steps
  steps_meaning env (first ∷ others) steps = steps_meaning env others (with_step first.j (meaning steps env first.query) steps)

  -- the rows of a program
  abbrev pub program_meaning : Environment M → Program → List (Derived M)
  program_meaning env program = meaning (steps_meaning env program.steps no_steps) env program.last
