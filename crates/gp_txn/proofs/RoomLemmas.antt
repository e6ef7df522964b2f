-- How many rows a transaction sees of a table at most: one for each row version, and those that it wrote.
use Rattle.std.proofs.Common.{◌≡◌, ℕ, ◌+◌, ◌-◌, ◌≤◌, Bool, true, false, cond, not, Option, List, [], ◌∷◌, ◌++◌, drop, length, map, Some, None, ap, sym, ◌∙◌, arith}
use Rattle.std.specs.List.{cons_option, filter, filter_map}
use Rattle.std.specs.Option.{IfSome, SomeIff, option_map}
use Rattle.std.proofs.lemmas.Bool.{eq-eqb}
use Rattle.std.proofs.lemmas.List.{length-append}
use Rattle.gp_base.specs.declared.limit.TheConstants.{MAX_TABLE_ROWS}
use Rattle.gp_base.specs.Annotated.{unannotated}
use Rattle.gp_base.proofs.SmallLemmas.{length-map}
use Rattle.gp_versions.specs.declared.span.Span.{Span}
use Rattle.gp_versions.specs.Spans.{row_of, rows_at, spans_at}
use Rattle.gp_versions.proofs.ListedLemmas.{at-few}
use Rattle.gp_txn.specs.declared.carried.Carried.{Carried}
use Rattle.gp_txn.specs.declared.overlay.Slot.{Slot}
use Rattle.gp_txn.specs.Bases.{refreshed, table_view}
use Rattle.gp_txn.specs.Overlay.{Overlay, PlainRow, carried_row, head_slot, is_carried, overlaid, own_row, rows_below, shown, slotted, view_rows}
use Rattle.gp_txn.proofs.ViewLemmas.{length-shown}

overlaid-few : (slots : List Slot) (rows : List PlainRow) → length (overlaid slots rows) ≤ length rows
overlaid-few slots [] = omega arith
overlaid-few slots (row ∷ rows) =
    omega (arith, length-append (shown (head_slot slots) row) (overlaid (drop 1 slots) rows), length-shown (head_slot slots) row, overlaid-few (drop 1 slots) rows)

pub filter-few : {X : Type 0} (p : X → Bool) (xs : List X) → length (filter p xs) ≤ length xs
filter-few p [] = omega arith
filter-few p (x ∷ xs) = let rest = filter-few p xs in elim (p x) as (λ b. length (cond b (x ∷ filter p xs) (filter p xs)) ≤ length (x ∷ xs)) [ true ↦ omega (arith, rest) | false ↦ omega (arith, rest) ]

carried-few : (carried : List Carried) → length (filter_map carried_row carried) ≤ length carried
carried-few [] = omega arith
carried-few (row ∷ rows) =
    let rest = carried-few rows in
    elim row.row as (λ cells. length (cons_option (option_map (λ c. record { identity = row.id; cells = c; mark = true; annotation = tt }) cells) (filter_map carried_row rows)) ≤ length (row ∷ rows)) [
      | None ↦ omega (arith, rest)
      | Some cells ↦ omega (arith, rest)
    ]

view-few : (writes : Overlay) (spans : List Span) → length (view_rows writes (rows_below writes spans)) ≤ length spans + length writes.carried + length writes.own
view-few writes spans =
    let base = rows_below writes spans in
    let seen = overlaid writes.slots (slotted writes.carried base) in
    let carried = filter_map carried_row writes.carried in
    let own = map own_row writes.own in
    omega (
      arith,
      length-append seen (carried ++ own),
      length-append carried own,
      overlaid-few writes.slots (slotted writes.carried base),
      filter-few (λ (row : PlainRow). not (is_carried writes.carried row.identity)) base,
      length-map (row_of unannotated) (spans_at writes.version spans),
      at-few writes.version spans,
      carried-few writes.carried,
      length-map own_row writes.own,
    )

-- over the version that the writes lie over
pub view-at-few : (version : ℕ) (writes : Overlay) (spans : List Span) → writes.version ≡ version → length (table_view writes spans version) ≤ length spans + length writes.carried + length writes.own
view-at-few version writes spans same =
    let is : length (table_view writes spans version) ≡ length (view_rows writes (rows_below writes spans)) =
    ap (λ b. length (cond b (view_rows writes (rows_at unannotated version spans)) (refreshed writes (rows_below writes spans) (rows_at unannotated version spans)))) (eq-eqb version writes.version (sym same))
    ∙ ap (λ v. length (view_rows writes (rows_at unannotated v spans))) (sym same) in
    omega (arith, is, view-few writes spans)

-- the room that is left, where there are at most so many old rows and so many that were written
pub left-room : (left : Option ℕ) (old room written count : ℕ) → SomeIff left (written ≤ room) (room - written) → (old ≤ MAX_TABLE_ROWS) × (room ≡ MAX_TABLE_ROWS - old) → count ≤ old + written
    → IfSome left (λ more. more + count ≤ MAX_TABLE_ROWS)
left-room None old room written count is fits few = tt
left-room (Some more) old room written count is fits few = omega (arith, is.0, is.1, fits.0, fits.1, few)
