-- Of the contracts of `program` (gp_compose), `to_plain` (gp_prov) and `run_k` (gp_kexec): the annotated programs of the code without the pointers in their
-- queries and expressions.
use Rattle.std.specs.Prelude.{map}
use Rattle.std.specs.Option.{option_map}
use Rattle.gp_expr.specs.Views.{expr_view, cond_view}
use Rattle.gp_algebra.specs.AnnotatedQueries as q
use Rattle.gp_algebra.specs.declared.annotated.Change.{Change}
use Rattle.gp_algebra.specs.declared.annotated.AQuery.{AQuery, Scan, Step, Filter', Project', Product', Union', Values, NewRows', Publish'}
use Rattle.gp_algebra.specs.declared.program.Step as s
use Rattle.gp_algebra.specs.declared.program.Program.{Program}

abbrev pub change_view : Change → q.Change
change_view change = record { cond = cond_view change.cond; token = change.token }

abbrev pub annotated_view : AQuery → q.Query
annotated_view (Scan table version) = q.scan table version
annotated_view (Step j) = q.step j
annotated_view (Filter' r input c) = q.select (annotated_view input) (cond_view c)
annotated_view (Project' r input exprs change) = q.project (annotated_view input) (map expr_view exprs) (option_map change_view change)
annotated_view (Product' r left s right) = q.product (annotated_view left) (annotated_view right)
annotated_view (Union' r left s right) = q.union (annotated_view left) (annotated_view right)
annotated_view (Values t k rows) = q.given t k rows
annotated_view (NewRows' t k b r input) = q.new_rows t k b (annotated_view input)
annotated_view (Publish' r base s mine u later) = q.publish (annotated_view base) (annotated_view mine) (annotated_view later)

abbrev pub annotated_step_view : s.Step AQuery → q.QueryStep
annotated_step_view step = record { j = step.j; table = step.table; query = annotated_view step.query }

abbrev pub annotated_program_view : Program AQuery → q.Program
annotated_program_view program = record { steps = map annotated_step_view program.steps; last = annotated_view program.last }
