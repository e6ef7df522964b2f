-- Of the contract of `write_query`: what is appended for a query, and for one that another one reads.
use Rattle.std.specs.Prelude.{◌≡◌, ◌||◌, ℕ, suc, Bool, List, [], ◌∷◌, ◌++◌, codes, get_or, slice_get, Option, Some, None}
use Rattle.std.specs.List.{concat, flat_map}
use Rattle.std.specs.Option.{option_map_or}
use Rattle.gp_base.specs.declared.cell.Cell.{Cell}
use Rattle.gp_base.specs.declared.table.Column.{Column}
use Rattle.gp_base.specs.declared.table.Table.{Table}
use Rattle.gp_base.specs.Catalogs.{table_names}
use Rattle.gp_base.specs.Numbered.{newline}
use Rattle.gp_algebra.specs.Plain as p
use Rattle.gp_algebra.specs.Plain.{Plain, PlainStep}
use Rattle.gp_sql.specs.declared.cell_type.CellType.{CellType}
use Rattle.gp_sql.specs.declared.query_types.StepType.{StepType}
use Rattle.gp_sql.specs.declared.query_writer.Operand.{Operand as Found}
use Rattle.gp_sql.specs.declared.name.Name.{Name}
use Rattle.gp_sql.specs.declared.name.Name.TheVariants.{Step, Query}
use Rattle.gp_sql.specs.NamedQueries.{Operand, Translated, given_block, is_projection, translated_steps}
use Rattle.gp_sql.specs.Spelling.{block_text, other_expression, query_text}
use Rattle.gp_sql.specs.Sql as s
use Rattle.gp_sql.specs.StepLists.{types_after}
use Rattle.gp_sql.specs.Types.{StepTypes, no_types, steps_types}

abbrev pub source_of : Name → s.Source
source_of (Step j) = s.step j
source_of (Query n) = s.query n

-- the named queries that a query reads are appended to one text, and its own query to another one
pub record Writes (tables : List Table) (a : Translated) (next : ℕ) (before later body more : List ℕ) : Type 0 where
  pub number : next ≡ a.next
  pub named : later ≡ before ++ flat_map (other_expression tables) a.before
  pub text : more ≡ body ++ query_text tables a.query

pub record WritesOperand (tables : List Table) (a : Operand) (found : Found) (before later : List ℕ) : Type 0 where
  pub number : found.next ≡ a.next
  pub source : source_of found.source ≡ a.source
  pub named : later ≡ before ++ flat_map (other_expression tables) a.before

-- ---- steps

-- the queries of a step are appended, the last one under its name
pub record WritesStep (tables : List Table) (types : StepTypes) (step : PlainStep) (n next : ℕ) (before later : List ℕ) : Type 0 where
  pub number : next ≡ (translated_steps tables types (step ∷ []) n).next
  pub named : later ≡ before ++ flat_map (other_expression tables) (translated_steps tables types (step ∷ []) n).before

-- the queries of steps are appended, and their types are known
pub record WritesSteps (tables : List Table) (steps : List PlainStep) (known : List StepType) (next : ℕ) (before later : List ℕ) : Type 0 where
  pub types : types_after known no_types ≡ steps_types tables steps no_types
  pub number : next ≡ (translated_steps tables no_types steps 1).next
  pub named : later ≡ before ++ flat_map (other_expression tables) (translated_steps tables no_types steps 1).before

-- what stands behind a comma and a line feed stands behind WITH
abbrev pub expressions_of : List ℕ → List ℕ
expressions_of (a ∷ b ∷ lines) = concat (codes "WITH " ∷ lines ∷ newline ∷ [])
expressions_of _ = []

abbrev pub assembled : List ℕ → List ℕ → List ℕ
assembled before body = concat (expressions_of before ∷ body ∷ codes ";" ∷ newline ∷ [])

-- ---- parts

-- what stands for a query that is no step
abbrev pub numbered_operand : Bool → Plain → Translated → Operand
numbered_operand in_publish query translation = record {
  before = translation.before ++ record { name = s.query translation.next; materialized = in_publish || is_projection query; query = translation.query } ∷ [];
  source = s.query translation.next;
  next = suc translation.next;
}

abbrev pub step_number : Plain → Option ℕ
step_number (p.step j) = Some j
step_number _ = None

abbrev pub table_name : List Table → ℕ → List ℕ
table_name tables place = get_or (table_names tables) place []

abbrev pub columns_at : List Table → ℕ → List Column
columns_at tables table = option_map_or (λ (found : Table). found.cols) (slice_get tables table) []

-- a row of VALUES behind another one
abbrev pub given_behind : List Table → List CellType → List Cell → List ℕ
given_behind tables due row = codes " UNION ALL " ++ block_text tables (given_block due row)
