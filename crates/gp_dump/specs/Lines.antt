-- Part of the statement: how the bytes of a dump are cut into lines, at line feeds alone. The last line of the list is what is behind the last line
-- feed, or a missing line, so that a line that is due and missing is a line too.
use Rattle.std.specs.Prelude.{ℕ, List, [], ◌∷◌, if◌then◌else◌, ◌==◌}

pub data DumpLine : Type 0 where
  -- ended by a line feed
  Whole : List ℕ → DumpLine
  -- behind the last line feed
  Cut : List ℕ → DumpLine
  -- nothing is behind the last line feed
  Missing : DumpLine

-- the byte in front of the first line
abbrev pub onto : ℕ → List DumpLine → List DumpLine
onto byte [] = Cut (byte ∷ []) ∷ []
onto byte (Whole text ∷ lines) = Whole (byte ∷ text) ∷ lines
onto byte (Cut text ∷ lines) = Cut (byte ∷ text) ∷ lines
onto byte (Missing ∷ lines) = Cut (byte ∷ []) ∷ lines

abbrev pub lines_of : List ℕ → List DumpLine
lines_of [] = Missing ∷ []
lines_of (byte ∷ bytes) = if byte == 10 then Whole [] ∷ lines_of bytes else onto byte (lines_of bytes)
