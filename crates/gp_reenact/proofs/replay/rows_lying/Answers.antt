use Rattle.std.proofs.Common.{Global, List, Vec, ap, map, sym, ◌∙◌}
use Rattle.gp_algebra.specs.PlainViews.{program_view}
use Rattle.gp_base.specs.declared.row.Row.{Row}
use Rattle.gp_base.specs.Annotated.{unannotated}
use Rattle.gp_exec.specs.declared.past_rows.PastRow.{PastRow}
use Rattle.gp_exec.specs.PastRows.{past_row}
use Rattle.gp_reenact.specs.Encoding.{encoded}
use Rattle.gp_reenact.specs.Travel.{past_environment}
use Rattle.gp_reenact.proofs.BackendLemmas.{past_gives}
use Rattle.gp_reenact.proofs.replay.rows_lying.Goals as goal

pub returns : goal.returns
returns g c =
    let past = encoded (past_environment unannotated c.args.versions.now) in
    past_gives (λ (found : Vec Row Global). found.items) (g.B.Backend.gives c.args.backend.now) (program_view c.args.program.now) past c.run_past.result
    (c.run_past.ensures past (sym (ap (λ (rows : List PastRow). map past_row rows) c.deref.ensures.value ∙ c.in_ok-rows.ensures)))
