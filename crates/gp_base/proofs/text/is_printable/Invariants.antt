use Rattle.std.proofs.Common.{◌≡◌, false, take}
use Rattle.std.specs.Char.{is_ascii_control}
use Rattle.std.specs.List.{list_any}
use Rattle.gp_base.proofs.text.is_printable.Given as goal

abbrev pub invariant-loop-byte : goal.invariant-loop-byte
invariant-loop-byte l = list_any is_ascii_control (take l.byte-index l.bytes) ≡ false
