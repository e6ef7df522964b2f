use Rattle.std.proofs.Common.{◌&&◌, not, take}
use Rattle.std.specs.List.{list_any}
use Rattle.gp_base.specs.Identities.{same_identity}
use Rattle.gp_exec.specs.Publishing.{AddsKeys, has_key}
use Rattle.gp_exec.proofs.writing.add_others.Given as goal

abbrev pub invariant-loop-row : goal.invariant-loop-row
invariant-loop-row l = AddsKeys l.initial.ids l.ids (λ id. list_any (λ row. not (has_key l.known row.id.now) && same_identity row.id.now id) (take l.row-index l.rows))
