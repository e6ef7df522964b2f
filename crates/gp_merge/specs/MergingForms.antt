-- Machinery: the definitions of merging by the ways of the code: through parts and lists, and step by step.
use Rattle.std.specs.Prelude.{ℕ, ◌+◌, ◌||◌, Bool, false, List, [], ◌∷◌, if◌then◌else◌}
use Rattle.gp_expr.specs.Expressions.{Expr, Cond, Parts}
use Rattle.gp_expr.specs.Gathering.{gathered, cond_gathered, parts_gathered}
use Rattle.gp_expr.specs.Sizes.{size}
use Rattle.gp_algebra.specs.Plain.{Plain, PlainStep, PlainProgram}
use Rattle.gp_algebra.specs.Stops.{is_insert}
use Rattle.gp_merge.specs.Merging.{decides_by_times, inlined, is_times, rebuilt, with_queries}

-- whether a product of provenance is computed
abbrev pub has_times : Expr → Bool
has_times = gathered is_times false false ◌||◌

abbrev pub parts_have_times : Parts → Bool
parts_have_times = parts_gathered is_times false false ◌||◌

-- whether a condition tests one
abbrev pub cond_tests_times : Cond → Bool
cond_tests_times = cond_gathered decides_by_times false false ◌||◌

abbrev pub parts_test_times : Parts → Bool
parts_test_times = parts_gathered decides_by_times false false ◌||◌

abbrev pub total_size : List Expr → ℕ
total_size [] = 0
total_size (expr ∷ others) = size expr + total_size others

-- steps and programs with a query in the place of step j, and with queries rebuilt from their leaves
abbrev pub step_inlined : ℕ → Plain → PlainStep → PlainStep
step_inlined j body s = record s { query = inlined j body s.query }

abbrev pub program_inlined : ℕ → Plain → PlainProgram → PlainProgram
program_inlined j body = with_queries (inlined j body)

abbrev pub step_rebuilt : PlainStep → PlainStep
step_rebuilt s = record s { query = rebuilt s.query }

abbrev pub program_rebuilt : PlainProgram → PlainProgram
program_rebuilt = with_queries rebuilt

abbrev pub insert_numbers : List PlainStep → List ℕ
insert_numbers [] = []
insert_numbers (first ∷ others) = if is_insert first.query then first.j ∷ insert_numbers others else insert_numbers others
