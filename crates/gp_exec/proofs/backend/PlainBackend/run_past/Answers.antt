use Rattle.std.proofs.Common.{Global, Vec, map}
use Rattle.gp_base.specs.declared.row.Row.{Row}
use Rattle.gp_algebra.specs.PlainViews.{program_view}
use Rattle.gp_exec.specs.PastRows.{past_row}
use Rattle.gp_exec.proofs.PastLemmas.{executes_past}
use Rattle.gp_exec.proofs.ProgramLemmas.{last_can_be_evaluated}
use Rattle.gp_exec.proofs.backend.PlainBackend.run_past.Goals as goal

pub run_past-requires : goal.run_past-requires
run_past-requires c = last_can_be_evaluated (program_view c.args.program.now) c.requires

pub returns : goal.returns
returns c = λ env lie. executes_past c.args.at (map past_row c.args.rows.now) env lie (λ (rows : Vec Row Global). rows.items) (program_view c.args.program.now) c.run_past.result c.run_past.ensures
