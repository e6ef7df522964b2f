use Rattle.std.proofs.Common.{◌≡◌, ◌++◌, ◌∙◌, ◌↔◌, ap, sym, subst, Contains}
use Rattle.std.specs.List.{flat_map}
use Rattle.gp_algebra.specs.QueryViews.{annotated_program_view, annotated_view}
use Rattle.gp_algebra.specs.Scans.{annotated_program_scans, annotated_query_scans}
use Rattle.gp_algebra.proofs.ScanOrder.{annotated_program_scans-view}
use Rattle.gp_algebra.proofs.scan.scans_of.Goals as goal

pub returns-clause-exact : goal.returns-clause-exact
returns-clause-exact c scan =
    let last = annotated_query_scans (annotated_view c.args.program.now.last) in
    let found : c.push_annotated_scans.new.found.items ≡ annotated_program_scans (annotated_program_view c.args.program.now)
    = c.in_ok-push_annotated_scans.ensures.ok
    ∙ ap (λ scans. scans ++ last) c.in_ok-push_annotated_step_scans.ensures.ok
    ∙ (λ i. (c.new-found.ensures.items i ++ flat_map (λ step. annotated_query_scans (annotated_view step.query)) (c.as_slice.ensures i)) ++ last)
    ∙ sym (annotated_program_scans-view c.args.program.now) in
    subst (λ scans. Contains c.each_once.result.items scan ↔ Contains scans scan) found (c.each_once.ensures.same scan)
