-- Machinery: the writes of a table over another version. Each row that was written is carried over, and no row of the version is written yet.
use Rattle.std.specs.Prelude.{◌≡◌, ℕ, ◌==◌, true, false, List, [], ◌++◌, map, Option, Some, None, if◌then◌else◌}
use Rattle.gp_txn.specs.declared.carried.Carried.{Carried}
use Rattle.gp_txn.specs.declared.overlay.TableWrites.{TableWrites}
use Rattle.gp_txn.specs.Overlay.{Overlay, PlainRow, overlay_of, rows_below, slot_writes}
use Rattle.gp_versions.specs.declared.span.Span.{Span}
use Rattle.gp_versions.specs.declared.span.Write.{Write}

-- a row that was written over this version
abbrev pub carried_of : ℕ → Write → Carried
carried_of version write = record { id = write.id; base = version; row = write.row }

-- all rows of others that were written, those over this version first
abbrev pub carried_over : Overlay → List PlainRow → List Carried
carried_over writes base = map (carried_of writes.version) (slot_writes writes base) ++ writes.carried

abbrev pub rebased : ℕ → Overlay → List PlainRow → TableWrites
rebased version writes base = record { version = version; slots = []; carried = carried_over writes base; own = writes.own }

-- the writes of a table over a version
abbrev pub writes_over : ℕ → List Span → TableWrites → TableWrites
writes_over version spans writes = if version == writes.version then writes else rebased version (overlay_of spans writes) (rows_below (overlay_of spans writes) spans)

-- those that were made for a version, if the writes lie over another one
abbrev pub IsMoved : ℕ → List Span → TableWrites → Option TableWrites → Type 0
IsMoved version spans writes None = (version == writes.version) ≡ true
IsMoved version spans writes (Some moved) = ((version == writes.version) ≡ false) × (moved ≡ rebased version (overlay_of spans writes) (rows_below (overlay_of spans writes) spans))

-- what was made, or else the writes
abbrev pub or_writes : Option TableWrites → TableWrites → TableWrites
or_writes None writes = writes
or_writes (Some moved) writes = moved
