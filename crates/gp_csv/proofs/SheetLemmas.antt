-- Columns, cells and rows in turn.
use Rattle.std.proofs.Common.{◌≡◌, ℕ, suc, ◌+◌, ◌<◌, ◌≤◌, List, [], ◌∷◌, ◌++◌, length, drop, get_or, Option, Some, None, Result, Ok, Err, refl, ap, append_assoc, add-one, unwrap_or}
use Rattle.std.specs.Option.{option_map}
use Rattle.std.proofs.lemmas.List.{drop_more, drop_all, append-nil}
use Rattle.std.proofs.lemmas.List.Folds.{list_all-map}
use Rattle.csv.specs.Records.{field_at}
use Rattle.gp_base.specs.declared.cell.Cell.{Cell}
use Rattle.gp_base.specs.declared.table.Column.{Column}
use Rattle.gp_csv.specs.Faults.{Fault, refuse, result_map}
use Rattle.gp_csv.specs.Fields.{cell_of, cells_from}
use Rattle.gp_csv.specs.Sheets.{columns_from, inferred, sheet_row, rows_from}
use Rattle.gp_csv.specs.declared.heading.Heading.{Heading}

-- ---- columns

pub ruleset tests = (list_all-map)

abbrev column_at : ℕ → List (List (List ℕ)) → Heading → Column
column_at place others heading = record { name = heading.name; kind = unwrap_or heading.kind (inferred place others) }

pub columns-next : (others : List (List (List ℕ))) (headings : List Heading) (i : ℕ) (d : Heading) (columns : List Column) → i < length headings
    → (columns ++ column_at i others (get_or headings i d) ∷ []) ++ columns_from (i + 1) others (drop (i + 1) headings) ≡ columns ++ columns_from i others (drop i headings)
columns-next others headings i d columns within =
    rw (drop_more headings i d within, add-one) (append_assoc columns (column_at i others (get_or headings i d) ∷ []) _)

pub columns-end : (others : List (List (List ℕ))) (headings : List Heading) (i : ℕ) (columns : List Column) → length headings ≤ i
    → columns ++ columns_from i others (drop i headings) ≡ columns
columns-end others headings i columns past = rw (drop_all i headings past) (append-nil columns)

pub ruleset column_steps = (columns-next, columns-end)

-- ---- cells

-- these cells and those of the further columns
abbrev pub cells_after : List Cell → ℕ → List (List ℕ) → List Column → Option (List Cell)
cells_after cells place fields columns = option_map (λ (more : List Cell). cells ++ more) (cells_from place fields columns)

one_more : (cells : List Cell) (cell : Cell) (others : Option (List Cell))
    → option_map (λ (more : List Cell). (cells ++ cell ∷ []) ++ more) others ≡ option_map (λ (more : List Cell). cells ++ more) (option_map (λ (more : List Cell). cell ∷ more) others)
one_more cells cell None = refl
one_more cells cell (Some more) = ap (λ (x : List Cell). Some x) (append_assoc cells (cell ∷ []) more)

pub cells-next : (cells : List Cell) (cell : Cell) (fields : List (List ℕ)) (columns : List Column) (i : ℕ) (d : Column) (x : List ℕ) → i < length columns
    → field_at fields i ≡ Some x → cell_of (get_or columns i d).kind x ≡ Some cell
    → cells_after (cells ++ cell ∷ []) (i + 1) fields (drop (i + 1) columns) ≡ cells_after cells i fields (drop i columns)
cells-next cells cell fields columns i d x within e found =
    rw (drop_more columns i d within, e, found, add-one) (one_more cells cell (cells_from (suc i) fields (drop (suc i) columns)))

pub cells-missing : (cells : List Cell) (fields : List (List ℕ)) (columns : List Column) (i : ℕ) (d : Column) → i < length columns → field_at fields i ≡ None
    → cells_after cells i fields (drop i columns) ≡ None
cells-missing cells fields columns i d within e = rw (drop_more columns i d within, e) refl

pub cells-stop : (cells : List Cell) (fields : List (List ℕ)) (columns : List Column) (i : ℕ) (d : Column) (x : List ℕ) → i < length columns → field_at fields i ≡ Some x
    → cell_of (get_or columns i d).kind x ≡ None → cells_after cells i fields (drop i columns) ≡ None
cells-stop cells fields columns i d x within e none = rw (drop_more columns i d within, e, none) refl

pub cells-end : (cells : List Cell) (fields : List (List ℕ)) (columns : List Column) (i : ℕ) → length columns ≤ i → cells_after cells i fields (drop i columns) ≡ Some cells
cells-end cells fields columns i past = rw (drop_all i columns past) (ap (λ (x : List Cell). Some x) (append-nil cells))

nothing_before : (found : Option (List Cell)) → option_map (λ (more : List Cell). [] ++ more) found ≡ found
nothing_before None = refl
nothing_before (Some more) = refl

pub cells-start : (fields : List (List ℕ)) (columns : List Column) → cells_after [] 0 fields columns ≡ cells_from 0 fields columns
cells-start fields columns = nothing_before (cells_from 0 fields columns)

pub ruleset cell_steps = (cells-next, cells-missing, cells-stop, cells-end, cells-start)

-- ---- rows

-- these rows and those of the further records
abbrev pub rows_after : List (List Cell) → List Column → ℕ → List (List (List ℕ)) → Result (List (List Cell)) Fault
rows_after rows columns number others = result_map (λ (more : List (List Cell)). rows ++ more) (rows_from columns number others)

row_more : (rows : List (List Cell)) (row : List Cell) (others : Result (List (List Cell)) Fault)
    → result_map (λ (more : List (List Cell)). (rows ++ row ∷ []) ++ more) others ≡ result_map (λ (more : List (List Cell)). rows ++ more) (result_map (λ (more : List (List Cell)). row ∷ more) others)
row_more rows row (Err fault) = refl
row_more rows row (Ok more) = ap (λ (x : List (List Cell)). Ok x) (append_assoc rows (row ∷ []) more)

pub rows-next : (rows : List (List Cell)) (row : List Cell) (columns : List Column) (number : ℕ) (fields : List (List ℕ)) (others : List (List (List ℕ))) → sheet_row columns number fields ≡ Ok row
    → rows_after (rows ++ row ∷ []) columns (suc number) others ≡ rows_after rows columns number (fields ∷ others)
rows-next rows row columns number fields others found = rw found (row_more rows row (rows_from columns (suc number) others))

pub rows-stop : (rows : List (List Cell)) (columns : List Column) (number : ℕ) (fields : List (List ℕ)) (others : List (List (List ℕ))) (c : ℕ) (n : ℕ) → sheet_row columns number fields ≡ refuse c n
    → rows_after rows columns number (fields ∷ others) ≡ refuse c n
rows-stop rows columns number fields others c n found = rw found refl

pub rows-end : (rows : List (List Cell)) (columns : List Column) (number : ℕ) → rows_after rows columns number [] ≡ Ok rows
rows-end rows columns number = ap (λ (x : List (List Cell)). Ok x) (append-nil rows)

row_first : (others : Result (List (List Cell)) Fault) → result_map (λ (more : List (List Cell)). [] ++ more) others ≡ others
row_first (Err fault) = refl
row_first (Ok more) = refl

pub rows-start : (columns : List Column) (number : ℕ) (others : List (List (List ℕ))) → rows_after [] columns number others ≡ rows_from columns number others
rows-start columns number others = row_first (rows_from columns number others)

pub ruleset row_steps = (rows-next, rows-stop, rows-end, rows-start)
