use Rattle.std.proofs.Common.{◌≡◌, drop, map}
use Rattle.std.specs.List.{list_any}
use Rattle.gp_algebra.specs.Statements.{Branch}
use Rattle.gp_algebra.specs.Views.{branch_view, select_view}
use Rattle.gp_dump.specs.Views.{dump_view}
use Rattle.gp_ask.specs.IntervalForms.{is_changed, is_written}
use Rattle.gp_ask.proofs.intervals.is_changed.Given as goal

-- the branches that remain decide
abbrev pub invariant-loop-branch : goal.invariant-loop-branch
invariant-loop-branch l =
    list_any (λ (branch : Branch). list_any (is_written (dump_view l.dump) l.version) branch.from) (map branch_view (drop l.branch-index l.select.branches))
    ≡ is_changed (dump_view l.dump) (select_view l.select) l.version
