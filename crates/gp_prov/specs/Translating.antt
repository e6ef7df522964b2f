-- Machinery: queries and steps with system columns, given what the code of their translation does not change.
use Rattle.std.specs.Prelude.{ℕ, List, map}
use Rattle.gp_algebra.specs.AnnotatedQueries.{Query, QueryStep, step_table}
use Rattle.gp_algebra.specs.Statements.{width_of}
use Rattle.gp_algebra.specs.Plain.{Plain, PlainStep}
use Rattle.gp_algebra.specs.QueryViews.{annotated_step_view}
use Rattle.gp_prov.specs.declared.queries.Translation.{Translation}
use Rattle.gp_prov.specs.ToPlain as to

module _ (translation : Translation) where
  -- the number of columns of each table
  abbrev pub columns : ℕ → ℕ
  columns = width_of translation.catalog.now

  -- the table of each step
  abbrev pub of_step : ℕ → ℕ
  of_step = step_table (map annotated_step_view translation.steps.now)

  -- the number of user columns of each part of the rows of a query
  abbrev pub widths_over : Query → List ℕ
  widths_over query = to.widths_of columns of_step translation.with_prov query

  abbrev pub plain_over : Query → Plain
  plain_over query = to.plain_query columns of_step translation.with_prov query

  abbrev pub plain_last_over : Query → Plain
  plain_last_over query = to.plain_last columns of_step translation.with_prov query

  abbrev pub plain_step_over : QueryStep → PlainStep
  plain_step_over = to.plain_step columns of_step translation.with_prov
