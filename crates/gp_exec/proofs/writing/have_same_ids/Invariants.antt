use Rattle.std.proofs.Common.{◌≡◌, take}
use Rattle.gp_base.specs.Identities.{Identity}
use Rattle.gp_exec.specs.Publishing.{lists}
use Rattle.gp_exec.proofs.writing.have_same_ids.Given as goal

abbrev pub invariant-loop-place : goal.invariant-loop-place
invariant-loop-place l = (id : Identity) → lists (take l.place l.rows) id ≡ lists (take l.place l.others) id
