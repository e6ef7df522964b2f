use Rattle.std.proofs.Common.{◌≡◌, ◌++◌, take}
use Rattle.std.specs.List.{flat_map}
use Rattle.gp_dump.specs.Writing.{place_text}
use Rattle.gp_dump.proofs.write.write_row_lines.Given as goal

-- the lines of the places so far are written
abbrev pub invariant-loop-place : goal.invariant-loop-place
invariant-loop-place l = l.out.items ≡ l.initial.out.items ++ flat_map (place_text l.versions.spans) (take l.place-index l.places)
