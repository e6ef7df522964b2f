use Rattle.std.proofs.Common.{◌≡◌, drop}
use Rattle.std.specs.List.{fold}
use Rattle.gp_versions.specs.Keys.{mixed}
use Rattle.gp_versions.proofs.key.fold_bytes.Given as goal

abbrev pub invariant-loop-byte : goal.invariant-loop-byte
invariant-loop-byte l = fold mixed l.folded (drop l.byte-index l.bytes) ≡ fold mixed 0 l.bytes
