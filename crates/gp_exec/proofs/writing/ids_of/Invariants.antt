use Rattle.std.proofs.Common.{◌≡◌, take}
use Rattle.gp_base.specs.Identities.{Identity}
use Rattle.gp_exec.specs.Publishing.{has_key, lists}
use Rattle.gp_exec.proofs.writing.ids_of.Given as goal

abbrev pub invariant-loop-row : goal.invariant-loop-row
invariant-loop-row l = (id : Identity) → has_key l.ids id ≡ lists (take l.row-index l.rows) id
