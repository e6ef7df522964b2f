use Rattle.std.proofs.Common.{◌∙◌}
use Rattle.gp_algebra.specs.PlainViews.{step_view}
use Rattle.gp_sql.specs.StepLists.{types_after}
use Rattle.gp_sql.specs.Types.{no_types}
use Rattle.gp_sql.proofs.WriterLemmas.{step-writes}
use Rattle.gp_sql.proofs.program_writer.push_step.Goals as goal

pub returns : goal.returns
returns c =
    step-writes c.args.catalog.now (types_after c.args.known.now no_types) c.as_slice.result.now (step_view c.args.step.now) c.args.n c.in_ok-n.n
    c.args.before.now.items c.push_query.new.before.items c.push_named.new.out.items c.new-body.result.items c.push_query.new.body.items c.deref.result.now
    (c.as_slice.ensures ∙ c.in_ok-due.ensures) c.in_ok-n.ensures c.new-body.ensures.items c.in_ok-push_named.ensures c.deref.ensures.value
