-- Machinery: computed rows, and what they say of an identity: the annotation of the first row that has it, of all rows or of those that the transaction
-- wrote.
use Rattle.std.specs.Prelude.{List, [], ◌∷◌, Option, Some, None, if◌then◌else◌}
use Rattle.std.specs.Option.{option_or}
use Rattle.std.specs.Ordering.{is_eq}
use Rattle.gp_base.specs.declared.cell.Cell.{Cell}
use Rattle.gp_base.specs.Annotated.{Annotated}
use Rattle.gp_base.specs.Identities.{Identity, identity_cmp}
use Rattle.gp_kexec.specs.declared.held.Held.{Held}
use Rattle.gp_history.specs.Agreement.{key_of}

abbrev pub row_view : {M : Type 0} → Held M → Annotated M
row_view row = record { identity = row.id; cells = row.cells; mark = row.is_marked; annotation = row.value }

-- its cells, and behind them its identity
abbrev pub held_key : {M : Type 0} → Held M → List Cell
held_key row = key_of (row_view row)

-- the annotation of a row, if the row has this identity
abbrev pub noted : {M : Type 0} → Identity → Identity → M → Option M
noted id other annotation = if is_eq (identity_cmp other id) then Some annotation else None

-- the annotation of the first row with this identity
abbrev pub first_noted : {M : Type 0} → Identity → List (Annotated M) → Option M
first_noted id [] = None
first_noted id (row ∷ rows) = option_or (noted id row.identity row.annotation) (first_noted id rows)

-- the annotation of a row that the transaction wrote, if the row has this identity
abbrev pub written_note : {M : Type 0} → Identity → Annotated M → Option M
written_note id row = if row.mark then noted id row.identity row.annotation else None

-- the annotation of the first such row
abbrev pub first_written : {M : Type 0} → Identity → List (Annotated M) → Option M
first_written id [] = None
first_written id (row ∷ rows) = option_or (written_note id row) (first_written id rows)
