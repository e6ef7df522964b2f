use Rattle.std.proofs.Common.{◌≡◌, take}
use Rattle.gp_syntax.specs.Views.{changes_view}
use Rattle.gp_ask.proofs.keeping.copy_changes.Given as goal

-- the changes so far
abbrev pub invariant-loop-change : goal.invariant-loop-change
invariant-loop-change l = changes_view l.copies ≡ changes_view (take l.change-index l.changes)
