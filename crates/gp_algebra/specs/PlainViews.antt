-- Of the contracts of `to_plain` (gp_prov), `merge` (gp_merge) and `run` (gp_exec): the plain programs of the code without the pointers in their queries and
-- expressions.
use Rattle.std.specs.Prelude.{map}
use Rattle.gp_expr.specs.Views.{expr_view, cond_view}
use Rattle.gp_algebra.specs.Plain as p
use Rattle.gp_algebra.specs.declared.plain.PQuery.{PQuery, Scan, Step, Filter', Project', Product', Union', Values, Publish'}
use Rattle.gp_algebra.specs.declared.program.Step as s
use Rattle.gp_algebra.specs.declared.program.Program.{Program}

abbrev pub query_view : PQuery → p.Plain
query_view (Scan table version) = p.scan table version
query_view (Step j) = p.step j
query_view (Filter' r input c) = p.select (query_view input) (cond_view c)
query_view (Project' r input exprs) = p.project (query_view input) (map expr_view exprs)
query_view (Product' r left s right) = p.product (query_view left) (query_view right)
query_view (Union' r left s right) = p.union (query_view left) (query_view right)
query_view (Values rows) = p.given rows
query_view (Publish' at r base s mine u later) = p.publish at (query_view base) (query_view mine) (query_view later)

abbrev pub step_view : s.Step PQuery → p.PlainStep
step_view step = record { j = step.j; table = step.table; query = query_view step.query }

abbrev pub program_view : Program PQuery → p.PlainProgram
program_view program = record { steps = map step_view program.steps; last = query_view program.last }
