use Rattle.std.proofs.Common.{take}
use Rattle.gp_exec.specs.Publishing.{AddsKeys, lists_marked}
use Rattle.gp_exec.proofs.writing.add_marked.Given as goal

abbrev pub invariant-loop-row : goal.invariant-loop-row
invariant-loop-row l = AddsKeys l.initial.ids l.ids (lists_marked (take l.row-index l.rows))
