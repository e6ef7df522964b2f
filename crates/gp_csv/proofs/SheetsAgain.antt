-- Rows that were written under titles are read again as a sheet.
use Rattle.std.proofs.Common.{◌≡◌, ℕ, zero, suc, pos, ◌<◌, ◌^◌, Bool, true, ◌||◌, List, [], ◌∷◌, length, map, get_or, Ok, refl, sym, ap, subst, ◌∙◌}
use Rattle.std.specs.Prelude.{codes}
use Rattle.std.specs.List.{AllByRecursion, list_all}
use Rattle.std.proofs.lemmas.Bool.{lt-ltb}
use Rattle.gp_base.specs.declared.cell.Cell.{Cell}
use Rattle.gp_base.specs.declared.cell.Cell.TheVariants as cell
use Rattle.gp_base.specs.declared.table.Kind.TheVariants as kind
use Rattle.gp_csv.specs.Answers.{csv_text, record_of, titled_records}
use Rattle.gp_csv.specs.SheetForms.{column_names, is_cell_of}
use Rattle.gp_csv.specs.Sheets.{columns_from, sheet_of, sheet_of_records}
use Rattle.gp_csv.specs.declared.sheet.Sheet.{Sheet}
use Rattle.gp_csv.proofs.ReadBack.{titled-back}
use Rattle.gp_csv.specs.Titled.{AreReloadable, IsReadAgain, column_at, tells_type}
use Rattle.gp_csv.proofs.TitleLemmas.{header-all}
use Rattle.gp_csv.proofs.ReadAgain.{AreWide, all-read, fields_of_rows, plain}

module _ (number : ℕ) (small : number < 2 ^ 63) where
  abbrev numbered_row : List Cell → List Cell
  numbered_row row = cell.Int (pos number) ∷ row

  abbrev numbered_rows : List (List Cell) → List (List Cell)
  numbered_rows rows = map numbered_row rows

  fields-numbered : (rows : List (List Cell)) → map (record_of number) rows ≡ fields_of_rows (numbered_rows rows)
  fields-numbered [] = refl
  fields-numbered (row ∷ rows) = ap (λ (t : List (List (List ℕ))). record_of number row ∷ t) (fields-numbered rows)

  numbered-wide : (width : ℕ) (rows : List (List Cell)) → AllByRecursion (λ (row : List Cell). suc (length row) ≡ width) rows → AreWide width (numbered_rows rows)
  numbered-wide width [] wide = tt
  numbered-wide width (row ∷ rows) wide = (wide.0, numbered-wide width rows wide.1)

  first-numbers : (rows : List (List Cell)) → list_all (is_cell_of kind.Int) (column_at 0 (numbered_rows rows)) ≡ true
  first-numbers [] = refl
  first-numbers (row ∷ rows) = rw (lt-ltb number (2 ^ 63) small) (first-numbers rows)

  other-column : (place : ℕ) (rows : List (List Cell)) → column_at (suc place) (numbered_rows rows) ≡ column_at place rows
  other-column place [] = refl
  other-column place (row ∷ rows) = ap (λ (t : List Cell). get_or row place cell.Null ∷ t) (other-column place rows)

  first-tells : (cells : List Cell) (others : Bool) → list_all (is_cell_of kind.Int) cells ≡ true → (list_all (is_cell_of kind.Int) cells || others) ≡ true
  first-tells cells others all = rw all refl

  each-tells : (width : ℕ) (rows : List (List Cell)) → ((place : ℕ) → suc place < width → tells_type (column_at place rows) ≡ true)
      → (place : ℕ) → place < width → tells_type (column_at place (numbered_rows rows)) ≡ true
  each-tells width rows typed zero within = first-tells (column_at 0 (numbered_rows rows)) _ (first-numbers rows)
  each-tells width rows typed (suc place) within = subst (λ (cells : List Cell). tells_type cells ≡ true) (sym (other-column place rows)) (typed place within)

  names-kept : (place : ℕ) (others : List (List (List ℕ))) (names : List (List ℕ)) → column_names (columns_from place others (map plain names)) ≡ names
  names-kept place others [] = refl
  names-kept place others (name ∷ names) = ap (λ (t : List (List ℕ)). name ∷ t) (names-kept (suc place) others names)

  module _ (titles : List (List ℕ)) (rows : List (List Cell)) (fits : AreReloadable (codes "line" ∷ titles) rows) where
    abbrev all_titles : List (List ℕ)
    all_titles = codes "line" ∷ titles

    abbrev bytes : List ℕ
    bytes = csv_text (titled_records number all_titles rows)

    abbrev fields : List (List (List ℕ))
    fields = fields_of_rows (numbered_rows rows)

    abbrev read : Sheet
    read = record { cols = columns_from 0 fields (map plain all_titles); rows = numbered_rows rows }

    records-read : sheet_of_records (all_titles ∷ fields) ≡ Ok read
    records-read =
        rw (
          header-all all_titles fits.few fits.names fits.different,
          all-read (length all_titles) (numbered_rows rows) (numbered-wide (length all_titles) rows fits.wide) (each-tells (length all_titles) rows fits.typed) all_titles refl,
        ) refl

    bytes-read : sheet_of bytes ≡ Ok read
    bytes-read = ap sheet_of_records (titled-back number titles rows ∙ ap (λ (t : List (List (List ℕ))). all_titles ∷ t) (fields-numbered rows)) ∙ records-read

    pub read-again : IsReadAgain number all_titles rows bytes
    read-again = record {
      sheet = read;
      is = bytes-read;
      columns = names-kept 0 fields all_titles;
      same = refl;
    }
