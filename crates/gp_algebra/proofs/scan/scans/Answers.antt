use Rattle.std.proofs.Common.{◌≡◌, ◌++◌, ◌∙◌, ◌↔◌, ap, sym, subst, Contains}
use Rattle.std.specs.List.{flat_map}
use Rattle.gp_algebra.specs.PlainViews.{program_view, query_view}
use Rattle.gp_algebra.specs.Scans.{program_scans, query_scans}
use Rattle.gp_algebra.proofs.ScanOrder.{program_scans-view}
use Rattle.gp_algebra.proofs.scan.scans.Goals as goal

pub returns-clause-exact : goal.returns-clause-exact
returns-clause-exact c scan =
    let last = query_scans (query_view c.args.program.now.last) in
    let found : c.push_scans.new.found.items ≡ program_scans (program_view c.args.program.now)
    = c.in_ok-push_scans.ensures.ok
    ∙ ap (λ scans. scans ++ last) c.in_ok-push_step_scans.ensures.ok
    ∙ (λ i. (c.new-found.ensures.items i ++ flat_map (λ step. query_scans (query_view step.query)) (c.as_slice.ensures i)) ++ last)
    ∙ sym (program_scans-view c.args.program.now) in
    subst (λ scans. Contains c.each_once.result.items scan ↔ Contains scans scan) found (c.each_once.ensures.same scan)
