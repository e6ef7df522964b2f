use Rattle.std.proofs.Common.{◌≡◌, None}
use Rattle.gp_base.specs.Annotated.{unannotated}
use Rattle.gp_history.specs.Agreement.{agree}
use Rattle.gp_log.specs.Contents.{tables}
use Rattle.gp_log.specs.Parameters.{parameters}
use Rattle.gp_machine.specs.HistorySpans.{as_of}
use Rattle.gp_machine.specs.Questions.{difference_refusal}
use Rattle.gp_reenact.specs.Reenacting.{spans_of}
use Rattle.gp_ask.proofs.made.version_refusal.Given as goal

-- the tables so far have the same rows
abbrev pub invariant-loop-place : goal.invariant-loop-place
invariant-loop-place l =
    difference_refusal unannotated parameters agree (tables l.log) l.version l.place (as_of unannotated (spans_of l.tables) l.version) (as_of unannotated (spans_of l.others) l.version) ≡ None
