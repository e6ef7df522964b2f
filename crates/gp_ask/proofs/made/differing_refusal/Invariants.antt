use Rattle.std.proofs.Common.{◌≡◌, None}
use Rattle.gp_base.specs.Annotated.{unannotated}
use Rattle.gp_log.specs.Contents.{tables}
use Rattle.gp_machine.specs.HistorySpans.{as_of}
use Rattle.gp_reenact.specs.Reenacting.{spans_of}
use Rattle.gp_ask.specs.Made.{differing_refusal}
use Rattle.gp_ask.proofs.made.differing_refusal.Given as goal

-- the versions so far have the same rows
abbrev pub invariant-loop-before : goal.invariant-loop-before
invariant-loop-before l = differing_refusal (tables l.log) l.before (as_of unannotated (spans_of l.tables)) (as_of unannotated (spans_of l.others)) ≡ None
