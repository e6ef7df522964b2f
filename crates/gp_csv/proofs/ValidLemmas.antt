-- A sheet that was read is a valid one.
use Rattle.std.proofs.Common.{◌≡◌, ℕ, zero, suc, ℤ, pos, negsuc, ◌+◌, ◌^◌, ◌<◌, ◌≤◌, ◌-◌, Bool, true, false, not, cond, leb, ltb, eqb, ◌||◌, List, [], ◌∷◌, ◌++◌, length, length-append, map, take, drop, Option, Some, None, option_and_then, Result, Ok, Err, refl, sym, ap, subst, ◌∙◌, arith, inl, inr}
use Rattle.std.specs.Prelude.{IfOk}
use Rattle.std.specs.Option.{option_map}
use Rattle.std.specs.Int.RustNames.{FitsSigned}
use Rattle.std.specs.Int.{w64}
use Rattle.std.specs.List.{AllByRecursion, IsDistinct, list_all, list_any}
use Rattle.std.specs.Str.{bytes_eq, is_utf8, str_to_ascii_lowercase}
use Rattle.std.proofs.lemmas.Bool.{cases_Bool, and_parts, and_from, leb-true, ltb-true, ltb-false, le-leb, or_parts}
use Rattle.std.proofs.lemmas.List.{map-append}
use Rattle.csv.specs.Records.{field_at}
use Rattle.gp_base.specs.Cells.{fits_number, is_user_text}
use Rattle.gp_base.specs.CellForms.{IsPlain, ArePlain}
use Rattle.gp_base.specs.declared.cell.Cell.{Cell}
use Rattle.gp_base.specs.declared.cell.Cell.TheVariants as cell
use Rattle.gp_base.specs.declared.table.Column.{Column}
use Rattle.gp_base.specs.declared.table.Kind.{Kind}
use Rattle.gp_base.specs.declared.table.Kind.TheVariants as kind
use Rattle.gp_csv.specs.Faults.{Fault, or_refuse, refuse, result_map, result_then}
use Rattle.gp_csv.specs.Fields.{positive_of, negative_of, magnitude_of, number_of, null_field, unescaped, text_cell, int_cell_of, value_cell_of, cell_of, cells_from}
use Rattle.gp_csv.specs.Headings.{header_of, heading_named, heading_of, headings_from, is_taken, kind_of_suffix, name_len, with_heading}
use Rattle.gp_csv.specs.SheetForms.{ArePlainRows, IsSheet, is_cell_of, is_row_of, column_names, Returns}
use Rattle.gp_csv.specs.Sheets.{columns_from, sheet_row, rows_from, sheet_under, sheet_of_records, records_of}
use Rattle.gp_csv.specs.declared.error.CsvStop.{CsvStop}
use Rattle.gp_csv.specs.declared.error.CsvStop.TheVariants.{Refused, NoMemory}
use Rattle.gp_csv.specs.declared.error.TheConstants.{BAD_CELL, BAD_HEADER}
use Rattle.gp_csv.specs.declared.heading.Heading.{Heading}
use Rattle.gp_csv.specs.declared.sheet.Sheet.{Sheet}
use Rattle.gp_csv.proofs.RecordLemmas.{first-some}
use Rattle.gp_grammar.specs.declared.limits.TheConstants.{MAX_COLUMNS}
use Rattle.gp_base.specs.Names.{is_name}
use Rattle.std.proofs.lemmas.Option.{cond_some, same_Some}

-- ---- what a value came from

from_then : {A B : Type 0} (f : A → Result B Fault) (r : Result A Fault) (y : B) → result_then f r ≡ Ok y → (x : A) × (r ≡ Ok x) × (f x ≡ Ok y)
from_then f (Ok x) y e = (x, refl, e)
from_then f (Err fault) y e = absurd cc

pub from_map : {A B : Type 0} (f : A → B) (r : Result A Fault) (y : B) → result_map f r ≡ Ok y → (x : A) × (r ≡ Ok x) × (f x ≡ y)
from_map f (Ok x) y e = (x, refl, cc)
from_map f (Err fault) y e = absurd cc

from_option : {A B : Type 0} (f : A → Option B) (o : Option A) (y : B) → option_and_then f o ≡ Some y → (x : A) × (o ≡ Some x) × (f x ≡ Some y)
from_option f (Some x) y e = (x, refl, e)
from_option f None y e = absurd cc

from_mapped : {A B : Type 0} (f : A → B) (o : Option A) (y : B) → option_map f o ≡ Some y → (x : A) × (o ≡ Some x) × (f x ≡ y)
from_mapped f (Some x) y e = (x, refl, cc)
from_mapped f None y e = absurd cc

refused_else : {A : Type 0} (b : Bool) (c n : ℕ) (r : Result A Fault) (y : A) → cond b (refuse c n) r ≡ Ok y → r ≡ Ok y
refused_else true c n r y e = absurd cc
refused_else false c n r y e = e

found_else : {A : Type 0} (b : Bool) (c n : ℕ) (r : Result A Fault) (y : A) → cond b r (refuse c n) ≡ Ok y → r ≡ Ok y
found_else true c n r y e = e
found_else false c n r y e = absurd cc

pub refused : {A : Type 0} (c n : ℕ) (y : A) → ◌≡◌ {A = Result A Fault} (refuse c n) (Ok y) → ⊥
refused c n y e = cc

-- ---- cells

positive-fits : (n : ℕ) (z : ℤ) → positive_of n ≡ Some z → fits_number z ≡ true
positive-fits n z e = let k = cond_some (ltb n (2 ^ 63)) (pos n) z e in subst (λ (y : ℤ). fits_number y ≡ true) k.1 k.0

negative-fits : (n : ℕ) (z : ℤ) → negative_of n ≡ Some z → fits_number z ≡ true
negative-fits zero z e = subst (λ (y : ℤ). fits_number y ≡ true) (same_Some (pos 0) z e) refl
negative-fits (suc n) z e =
    let k = cond_some (ltb n (2 ^ 63)) (negsuc n) z e in
    let small : n < 2 ^ 63 = ltb-true n (2 ^ 63) k.0 in
    subst (λ (y : ℤ). fits_number y ≡ true) k.1 (and_from (leb n (2 ^ 63 - 1)) true (le-leb n (2 ^ 63 - 1) (omega (arith, small))) refl)

number-fits : (bytes : List ℕ) (z : ℤ) → number_of bytes ≡ Some z → fits_number z ≡ true
number-fits [] z e = absurd cc
number-fits (b ∷ bytes) z e = elim (cases_Bool (eqb b 45)) [
  | inl minus ↦ let f = rw minus at e in let x = from_option negative_of (magnitude_of bytes) z f in negative-fits x.0 z x.2
  | inr plain ↦ let f = rw plain at e in let x = from_option positive_of (magnitude_of (b ∷ bytes)) z f in positive-fits x.0 z x.2
]

same_cell : (c d : Cell) → Some c ≡ Some d → c ≡ d
same_cell c d e = cc

int-is_cell_of : (field : List ℕ) (c : Cell) → int_cell_of field ≡ Some c → is_cell_of kind.Int c ≡ true
int-is_cell_of [] c e = subst (λ (d : Cell). is_cell_of kind.Int d ≡ true) (same_cell cell.Null c e) refl
int-is_cell_of (b ∷ bytes) c e =
    let x = from_mapped (λ (number : ℤ). cell.Int number) (number_of (b ∷ bytes)) c e in
    subst (λ (d : Cell). is_cell_of kind.Int d ≡ true) x.2 (number-fits (b ∷ bytes) x.0 x.1)

written-is_cell_of : (column : Kind) (field : List ℕ) (c : Cell) → value_cell_of column field ≡ Some c → is_cell_of column c ≡ true
written-is_cell_of kind.Int field c e = int-is_cell_of field c e
written-is_cell_of kind.Text field c e =
    let x = from_option text_cell (unescaped field) c e in
    let k = cond_some (is_user_text x.0) (cell.Text x.0) c x.2 in
    subst (λ (d : Cell). is_cell_of kind.Text d ≡ true) k.1 k.0

null-is_cell_of : (column : Kind) → is_cell_of column cell.Null ≡ true
null-is_cell_of kind.Int = refl
null-is_cell_of kind.Text = refl

cell-is_cell_of : (column : Kind) (field : List ℕ) (c : Cell) → cell_of column field ≡ Some c → is_cell_of column c ≡ true
unfolding cell_of
cell-is_cell_of column field c e = elim (cases_Bool (bytes_eq field null_field)) [
  | inl null ↦ let f = rw null at e in subst (λ (d : Cell). is_cell_of column d ≡ true) (same_cell cell.Null c f) (null-is_cell_of column)
  | inr other ↦ let f = rw other at e in written-is_cell_of column field c f
]

-- ---- rows

same_cells : (c d : List Cell) → Some c ≡ Some d → c ≡ d
same_cells c d e = cc

cells-suit : (place : ℕ) (fields : List (List ℕ)) (columns : List Column) (cells : List Cell) → cells_from place fields columns ≡ Some cells → is_row_of columns cells ≡ true
cells-suit place fields [] cells e = subst (λ (cs : List Cell). is_row_of [] cs ≡ true) (same_cells [] cells e) refl
cells-suit place fields (column ∷ columns) cells e =
    let x = from_option (λ (c : Cell). option_map (λ (more : List Cell). c ∷ more) (cells_from (suc place) fields columns)) (option_and_then (cell_of column.kind) (field_at fields place)) cells e in
    let y = from_option (cell_of column.kind) (field_at fields place) x.0 x.1 in
    let m = from_mapped (λ (more : List Cell). x.0 ∷ more) (cells_from (suc place) fields columns) cells x.2 in
    subst (λ (cs : List Cell). is_row_of (column ∷ columns) cs ≡ true) m.2 (and_from (is_cell_of column.kind x.0) (is_row_of columns m.0) (cell-is_cell_of column.kind y.0 x.0 y.2) (cells-suit (suc place) fields columns m.0 m.1))

from_or : {A : Type 0} (c number : ℕ) (o : Option A) (found : A) → or_refuse c number o ≡ Ok found → o ≡ Some found
from_or c number None found e = absurd cc
from_or c number (Some x) found e = cc

row-is_cell_of : (columns : List Column) (number : ℕ) (fields : List (List ℕ)) (cells : List Cell) → sheet_row columns number fields ≡ Ok cells → is_row_of columns cells ≡ true
unfolding sheet_row
row-is_cell_of columns number fields cells e =
    let f = refused_else (not (list_all is_utf8 fields)) _ _ _ cells e in
    let g = found_else (eqb (length fields) (length columns)) _ _ _ cells f in
    cells-suit 0 fields columns cells (from_or BAD_CELL number (cells_from 0 fields columns) cells g)

same_rows : (c d : List (List Cell)) → ◌≡◌ {A = Result (List (List Cell)) Fault} (Ok c) (Ok d) → c ≡ d
same_rows c d e = cc

rows-suit : (columns : List Column) (number : ℕ) (others : List (List (List ℕ))) (rows : List (List Cell)) → rows_from columns number others ≡ Ok rows → list_all (is_row_of columns) rows ≡ true
rows-suit columns number [] rows e = subst (λ (rs : List (List Cell)). list_all (is_row_of columns) rs ≡ true) (same_rows [] rows e) refl
rows-suit columns number (fields ∷ others) rows e =
    let x = from_then (λ (row : List Cell). result_map (λ (more : List (List Cell)). row ∷ more) (rows_from columns (suc number) others)) (sheet_row columns number fields) rows e in
    let m = from_map (λ (more : List (List Cell)). x.0 ∷ more) (rows_from columns (suc number) others) rows x.2 in
    subst (λ (rs : List (List Cell)). list_all (is_row_of columns) rs ≡ true) m.2 (and_from (is_row_of columns x.0) (list_all (is_row_of columns) m.0) (row-is_cell_of columns number fields x.0 x.1) (rows-suit columns (suc number) others m.0 m.1))

-- ---- columns

abbrev names_of : List Heading → List (List ℕ)
names_of headings = map (λ (heading : Heading). heading.name) headings

-- the names so far are names, and differ
record AreNames (names : List (List ℕ)) : Type 0 where
  valid : list_all is_name names ≡ true
  different : IsDistinct bytes_eq names

all-snoc : (P : List ℕ → Type 0) (names : List (List ℕ)) (name : List ℕ) → AllByRecursion P names → P name → AllByRecursion P (names ++ name ∷ [])
all-snoc P [] name all last = (last, tt)
all-snoc P (first ∷ names) name all last = (all.0, all-snoc P names name all.1 last)

distinct-snoc : (names : List (List ℕ)) (name : List ℕ) → IsDistinct bytes_eq names → list_any (λ (other : List ℕ). bytes_eq other name) names ≡ false → IsDistinct bytes_eq (names ++ name ∷ [])
unfolding IsDistinct
distinct-snoc [] name different new = (tt, tt)
distinct-snoc (first ∷ names) name different new =
    let n = or_parts (bytes_eq first name) (list_any (λ (other : List ℕ). bytes_eq other name) names) new in
    (all-snoc (λ (other : List ℕ). bytes_eq first other ≡ false) names name different.0 n.0, distinct-snoc names name different.1 n.1)

valid-snoc : (names : List (List ℕ)) (name : List ℕ) → list_all is_name names ≡ true → is_name name ≡ true → list_all is_name (names ++ name ∷ []) ≡ true
valid-snoc [] name all last = rw last refl
valid-snoc (first ∷ names) name all last =
    let p = and_parts (is_name first) (list_all is_name names) all in
    and_from (is_name first) (list_all is_name (names ++ name ∷ [])) p.0 (valid-snoc names name p.1 last)

taken-names : (name : List ℕ) (headings : List Heading) → is_taken name headings ≡ list_any (λ (other : List ℕ). bytes_eq other name) (names_of headings)
taken-names name [] = refl
taken-names name (heading ∷ headings) = ap (λ (t : Bool). bytes_eq heading.name name || t) (taken-names name headings)

heading-name : (field : List ℕ) (heading : Heading) → heading_of field ≡ Some heading → is_name heading.name ≡ true
unfolding heading_of
heading-name field heading e =
    let word : List ℕ = take (name_len field) field in
    let x = from_option (heading_named word) (kind_of_suffix (drop (name_len field) field)) heading e in
    let k = cond_some (is_name (str_to_ascii_lowercase word)) (record { name = str_to_ascii_lowercase word; kind = x.0 }) heading x.2 in
    subst (λ (h : Heading). is_name h.name ≡ true) k.1 k.0

new-else : (b : Bool) (x y : List Heading) → cond b None (Some x) ≡ Some y → (b ≡ false) × (x ≡ y)
new-else true x y e = absurd cc
new-else false x y e = (refl, cc)

-- one more heading
record Adds (headings more : List Heading) : Type 0 where
  names : AreNames (names_of more)
  count : length more ≡ length headings + 1

heading-adds : (headings : List Heading) (field : List ℕ) (o : Option Heading) (more : List Heading) → heading_of field ≡ o → with_heading headings o ≡ Some more
    → AreNames (names_of headings) → Adds headings more
heading-adds headings field None more found e good = absurd cc
heading-adds headings field (Some heading) more found e good =
    let n = new-else (is_taken heading.name headings) (headings ++ heading ∷ []) more e in
    let new = sym (taken-names heading.name headings) ∙ n.0 in
    subst (Adds headings) n.1 (record {
      names = subst AreNames (sym (map-append (λ (h : Heading). h.name) headings (heading ∷ []))) (record {
        valid = valid-snoc (names_of headings) heading.name good.valid (heading-name field heading found);
        different = distinct-snoc (names_of headings) heading.name good.different new;
      });
      count = length-append headings (heading ∷ []);
    })

headings-good : (headings : List Heading) (fields : List (List ℕ)) (all : List Heading) → headings_from headings fields ≡ Some all
    → AreNames (names_of headings) → AreNames (names_of all) × (length all ≡ length headings + length fields)
headings-good headings [] all e good = let same : headings ≡ all = cc in (subst (λ (h : List Heading). AreNames (names_of h)) same good, ap (λ (h : List Heading). length h) (sym same) ∙ omega arith)
headings-good headings (field ∷ fields) all e good =
    let x = from_option (λ (more : List Heading). headings_from more fields) (with_heading headings (heading_of field)) all e in
    let a = heading-adds headings field (heading_of field) x.0 refl x.1 good in
    let rest = headings-good x.0 fields all x.2 a.names in
    let n = a.count in
    let m = rest.1 in
    (rest.0, omega (arith, n, m))

passed_else : {A : Type 0} (b : Bool) (c n : ℕ) (r : Result A Fault) (y : A) → cond b (refuse c n) r ≡ Ok y → (b ≡ false) × (r ≡ Ok y)
passed_else true c n r y e = absurd cc
passed_else false c n r y e = (refl, e)

-- the headings of a first record, which has a field
record AreHeadings (headings : List Heading) : Type 0 where
  some : 0 < length headings
  few : length headings ≤ MAX_COLUMNS
  names : AreNames (names_of headings)

no_names : AreNames []
unfolding IsDistinct
no_names = record { valid = refl; different = tt }

header-good : (fields : List (List ℕ)) (headings : List Heading) → 0 < length fields → header_of fields ≡ Ok headings → AreHeadings headings
unfolding header_of
header-good fields headings some e =
    let f = refused_else (not (list_all is_utf8 fields)) _ _ _ headings e in
    let g = passed_else (ltb MAX_COLUMNS (length fields)) _ _ _ headings f in
    let few : length fields ≤ MAX_COLUMNS = ltb-false MAX_COLUMNS (length fields) g.0 in
    let good = headings-good [] fields headings (from_or BAD_HEADER 1 (headings_from [] fields) headings g.1) no_names in
    let count = good.1 in
    record { some = omega (arith, count, some); few = omega (arith, count, few); names = good.0 }

column-names : (place : ℕ) (others : List (List (List ℕ))) (headings : List Heading) → column_names (columns_from place others headings) ≡ names_of headings
column-names place others [] = refl
column-names place others (heading ∷ headings) = ap (λ (t : List (List ℕ)). heading.name ∷ t) (column-names (suc place) others headings)

column-count : (place : ℕ) (others : List (List (List ℕ))) (headings : List Heading) → length (columns_from place others headings) ≡ length headings
column-count place others [] = refl
column-count place others (heading ∷ headings) = ap suc (column-count (suc place) others headings)

-- ---- sheets

under-valid : (others : List (List (List ℕ))) (headings : List Heading) (sheet : Sheet) → AreHeadings headings → sheet_under others headings ≡ Ok sheet → IsSheet sheet
under-valid others headings sheet good e =
    let columns : List Column = columns_from 0 others headings in
    let m = from_map (λ (rows : List (List Cell)). record { cols = columns; rows = rows }) (rows_from columns 2 others) sheet e in
    let count = column-count 0 others headings in
    let names = subst AreNames (sym (column-names 0 others headings)) good.names in
    let some = good.some in
    let few = good.few in
    subst IsSheet m.2 (record {
      some = omega (arith, count, some);
      few = omega (arith, count, few);
      names = names.valid;
      different = names.different;
      rows = rows-suit columns 2 others m.0 m.1;
    })

-- the first record, if there is one, has a field
abbrev pub HaveFields : List (List (List ℕ)) → Type 0
HaveFields records = (first : List (List ℕ)) (others : List (List (List ℕ))) → records ≡ first ∷ others → 0 < length first

records-valid : (records : List (List (List ℕ))) (sheet : Sheet) → HaveFields records → sheet_of_records records ≡ Ok sheet → IsSheet sheet
records-valid [] sheet full e = absurd cc
records-valid (first ∷ others) sheet full e =
    let x = from_then (sheet_under others) (header_of first) sheet e in
    under-valid others x.0 sheet (header-good first x.0 (full first others refl) x.1) x.2

pub have-fields : (bytes : List ℕ) (records : List (List (List ℕ))) → records ≡ records_of bytes → HaveFields records
have-fields bytes records same first others e = first-some bytes first others (sym same ∙ e)

-- ---- cells that a table can hold

number-plain : (z : ℤ) → fits_number z ≡ true → FitsSigned w64 z
number-plain (pos n) e = let small : n < 2 ^ 63 = ltb-true n (2 ^ 63) e in record { sfits = small }
number-plain (negsuc n) e =
    let p = and_parts (leb n (2 ^ 63 - 1)) true e in
    let small : n ≤ 2 ^ 63 - 1 = leb-true n (2 ^ 63 - 1) p.0 in
    record { sfits = omega (arith, small) }

cell-plain : (column : Kind) (c : Cell) → is_cell_of column c ≡ true → IsPlain c
cell-plain column cell.Null e = tt
cell-plain kind.Int (cell.Int number) e = number-plain number e
cell-plain kind.Text (cell.Int number) e = absurd cc
cell-plain column (cell.Text text) e = tt
cell-plain kind.Int (cell.Id id) e = absurd cc
cell-plain kind.Int (cell.Mark mark) e = absurd cc
cell-plain kind.Int (cell.Mono monomial) e = absurd cc
cell-plain kind.Text (cell.Id id) e = absurd cc
cell-plain kind.Text (cell.Mark mark) e = absurd cc
cell-plain kind.Text (cell.Mono monomial) e = absurd cc

row-plain : (columns : List Column) (cells : List Cell) → is_row_of columns cells ≡ true → ArePlain cells
row-plain [] [] e = tt
row-plain (column ∷ columns) [] e = tt
row-plain [] (c ∷ cells) e = absurd cc
row-plain (column ∷ columns) (c ∷ cells) e =
    let p = and_parts (is_cell_of column.kind c) (is_row_of columns cells) e in (cell-plain column.kind c p.0, row-plain columns cells p.1)

pub rows-plain : (columns : List Column) (rows : List (List Cell)) → list_all (is_row_of columns) rows ≡ true → ArePlainRows rows
rows-plain columns [] e = tt
rows-plain columns (row ∷ rows) e =
    let p = and_parts (is_row_of columns row) (list_all (is_row_of columns) rows) e in (row-plain columns row p.0, rows-plain columns rows p.1)

pub read-valid : (r : Result Sheet CsvStop) (records : List (List (List ℕ))) → HaveFields records → Returns (λ (sheet : Sheet). sheet) r (sheet_of_records records) → IfOk r (λ (sheet : Sheet). IsSheet sheet)
read-valid (Ok sheet) records full e = records-valid records sheet full e
read-valid (Err (Refused c number)) records full e = tt
read-valid (Err NoMemory) records full e = tt

pub valid-plain : (r : Result Sheet CsvStop) → IfOk r (λ (sheet : Sheet). IsSheet sheet) → IfOk r (λ (sheet : Sheet). ArePlainRows sheet.rows)
valid-plain (Ok sheet) e = rows-plain sheet.cols sheet.rows e.rows
valid-plain (Err stop) e = tt
