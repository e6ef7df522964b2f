use Rattle.std.proofs.Common.{Global, Vec}
use Rattle.gp_base.specs.declared.row.Row.{Row}
use Rattle.gp_algebra.specs.PlainViews.{program_view}
use Rattle.gp_exec.proofs.BackendLemmas.{keeps_user_cells, stops_at_step}
use Rattle.gp_exec.proofs.backend.PlainBackend.run.Goals as goal

pub returns-clause-cells : goal.returns-clause-cells
returns-clause-cells c = keeps_user_cells (λ (rows : Vec Row Global). rows.items) c.args.env.now (program_view c.args.program.now) c.run.result c.run.ensures

pub returns-clause-steps : goal.returns-clause-steps
returns-clause-steps c = stops_at_step (λ (rows : Vec Row Global). rows.items) c.args.env.now (program_view c.args.program.now) c.run.result c.run.ensures
