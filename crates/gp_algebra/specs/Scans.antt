-- Of the contracts of `scans` and `scans_of`, and of the law `programs_read_their_scans`: the tables and versions that a query or a program reads, a plain or
-- an annotated one.
use Rattle.std.specs.Prelude.{◌≡◌, List, [], ◌∷◌, ◌++◌, Contains}
use Rattle.std.specs.Ordering.{nat_cmp, on, then_cmp}
use Rattle.std.specs.declared.cmp.Ordering.{Ordering}
use Rattle.std.specs.List.{flat_map}
use Rattle.std.specs.List.Sorted.{IsPermutation}
use Rattle.gp_algebra.specs.declared.plain.ScanAt.{ScanAt}
use Rattle.gp_algebra.specs.AnnotatedQueries as q
use Rattle.gp_algebra.specs.Plain.{Plain, scan, step, select, project, product, union, given, publish, PlainStep, PlainProgram, PlainEnvironment}

-- the scans in a query, each as often as it occurs
abbrev pub query_scans : Plain → List ScanAt
query_scans (scan table version) = record { table = table; version = version } ∷ []
query_scans (step j) = []
query_scans (select query c) = query_scans query
query_scans (project query exprs) = query_scans query
query_scans (product left right) = query_scans left ++ query_scans right
query_scans (union left right) = query_scans left ++ query_scans right
query_scans (given rows) = []
query_scans (publish at base mine later) = query_scans base ++ (query_scans mine ++ query_scans later)

-- those in the queries of steps
abbrev pub steps_scans : List PlainStep → List ScanAt
steps_scans steps = flat_map (λ step. query_scans step.query) steps

abbrev pub program_scans : PlainProgram → List ScanAt
program_scans program = steps_scans program.steps ++ query_scans program.last

-- ---- the annotated algebra

abbrev pub annotated_query_scans : q.Query → List ScanAt
annotated_query_scans (q.scan table version) = record { table = table; version = version } ∷ []
annotated_query_scans (q.step j) = []
annotated_query_scans (q.select query c) = annotated_query_scans query
annotated_query_scans (q.project query exprs change) = annotated_query_scans query
annotated_query_scans (q.product left right) = annotated_query_scans left ++ annotated_query_scans right
annotated_query_scans (q.union left right) = annotated_query_scans left ++ annotated_query_scans right
annotated_query_scans (q.given t k rows) = []
annotated_query_scans (q.new_rows t k b query) = annotated_query_scans query
annotated_query_scans (q.publish base mine later) = annotated_query_scans base ++ (annotated_query_scans mine ++ annotated_query_scans later)

abbrev pub annotated_steps_scans : List q.QueryStep → List ScanAt
annotated_steps_scans steps = flat_map (λ (step : q.QueryStep). annotated_query_scans step.query) steps

abbrev pub annotated_program_scans : q.Program → List ScanAt
annotated_program_scans program = annotated_steps_scans program.steps ++ annotated_query_scans program.last

-- by table, then by version
abbrev pub scan_cmp : ScanAt → ScanAt → Ordering
scan_cmp = then_cmp (on (λ scan. scan.table) nat_cmp) (on (λ scan. scan.version) nat_cmp)

-- two environments have the same rows, in the same order, in each of these tables and versions
abbrev pub AgreeOn : List ScanAt → PlainEnvironment → PlainEnvironment → Type 0
AgreeOn scans env other = (scan : ScanAt) → Contains scans scan → env scan.version scan.table ≡ other scan.version scan.table

-- two environments have the same rows, in any order, in each of these tables and versions
abbrev pub HaveSameRowsOn : List ScanAt → PlainEnvironment → PlainEnvironment → Type 0
HaveSameRowsOn scans env other = (scan : ScanAt) → Contains scans scan → IsPermutation (env scan.version scan.table) (other scan.version scan.table)
