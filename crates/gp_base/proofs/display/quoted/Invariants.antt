use Rattle.std.proofs.Common.{◌≡◌, take}
use Rattle.std.specs.List.{flat_map}
use Rattle.gp_base.specs.Texts.{quoted_byte}
use Rattle.gp_base.proofs.display.quoted.Given as goal

-- the bytes read so far are written, each quote among them doubled
abbrev pub invariant-loop-byte : goal.invariant-loop-byte
invariant-loop-byte l = l.bytes.items ≡ flat_map quoted_byte (take l.byte-index l.text)
