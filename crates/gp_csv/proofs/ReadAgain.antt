-- Rows that were written under titles are read again.
use Rattle.std.proofs.Common.{◌≡◌, ℕ, zero, suc, pos, negsuc, ◌+◌, ◌-◌, ◌<◌, ◌≤◌, ◌^◌, Bool, true, false, not, cond, eqb, leb, ◌&&◌, List, [], ◌∷◌, length, map, get_or, take, Some, None, Ok, refl, sym, ap, subst, ◌∙◌, arith, inl, inr, lit≤}
use Rattle.std.specs.Fmt.{decimal}
use Rattle.std.specs.List.{AllByRecursion, list_all, list_any}
use Rattle.std.specs.Str.{IsUtf8, is_utf8}
use Rattle.std.specs.Str.Lossy.{utf8_valid_len, valid_len_up_to}
use Rattle.std.specs.Char.{is_ascii_control}
use Rattle.std.proofs.lemmas.Bool.{and_parts, cases_Bool, eq-eqb, eqb-true, leb-true, ltb-true}
use Rattle.std.proofs.lemmas.Fmt.{IsAscii-decimal}
use Rattle.std.proofs.lemmas.List.{length-map, take_all}
use Rattle.std.proofs.lemmas.Str.{IsUtf8-from_ascii, IsUtf8-from_is_utf8, IsUtf8-nil, is_utf8-from_IsUtf8}
use Rattle.csv.specs.Records.{field_at}
use Rattle.gp_base.specs.Cells.{is_user_text}
use Rattle.gp_base.specs.declared.cell.Cell.{Cell}
use Rattle.gp_base.specs.declared.cell.Cell.TheVariants as cell
use Rattle.gp_base.specs.declared.table.Kind.{Kind}
use Rattle.gp_base.specs.declared.table.Kind.TheVariants as kind
use Rattle.gp_base.specs.declared.text.TheConstants.{MAX_TEXT_LENGTH}
use Rattle.gp_csv.specs.Answers.{field_of}
use Rattle.gp_csv.specs.Fields.{cell_of, cells_from, is_int_field}
use Rattle.gp_csv.specs.SheetForms.{is_cell_of}
use Rattle.gp_csv.specs.Sheets.{columns_from, inferred, rows_from, sheet_row}
use Rattle.gp_csv.specs.declared.heading.Heading.{Heading}
use Rattle.gp_grammar.proofs.Utf8Lemmas.{ascii-cons}
use Rattle.gp_csv.specs.Titled.{column_at, tells_type}
use Rattle.gp_csv.proofs.CellBack.{null-back, number-back, text-back}

-- ---- fields are UTF-8

front-utf8 : (bytes : List ℕ) (most : ℕ) → IsUtf8 (take (valid_len_up_to bytes most) bytes)
front-utf8 bytes zero = IsUtf8-nil
front-utf8 bytes (suc most) = elim (cases_Bool (is_utf8 (take (suc most) bytes))) [
  | inl valid ↦ rw valid (IsUtf8-from_is_utf8 (take (suc most) bytes) valid)
  | inr other ↦ rw other (front-utf8 bytes most)
]

-- a text is UTF-8 where its valid front is all of it
valid-utf8 : (bytes : List ℕ) → utf8_valid_len bytes ≡ length bytes → IsUtf8 bytes
unfolding utf8_valid_len
valid-utf8 bytes whole = subst IsUtf8 (ap (λ (n : ℕ). take n bytes) whole ∙ take_all (length bytes) bytes (omega arith)) (front-utf8 bytes (length bytes))

decimal-utf8 : (n : ℕ) → n < 2 ^ 64 → IsUtf8 (decimal n)
decimal-utf8 n small = IsUtf8-from_ascii (decimal n) (IsAscii-decimal n small)

escaped-utf8 : (text : List ℕ) → IsUtf8 text → IsUtf8 (field_of (cell.Text text))
escaped-utf8 [] utf8 = utf8
escaped-utf8 (byte ∷ bytes) utf8 = elim (cases_Bool (eqb byte 92)) [
  | inl slash ↦ rw slash (ascii-cons 92 (byte ∷ bytes) (lit≤ tt) utf8)
  | inr other ↦ rw other utf8
]

user-utf8 : (text : List ℕ) → is_user_text text ≡ true → IsUtf8 text
user-utf8 text good =
    valid-utf8 text (eqb-true (utf8_valid_len text) (length text) (and_parts (eqb (utf8_valid_len text) (length text)) (leb (length text) MAX_TEXT_LENGTH && not (list_any is_ascii_control text)) good).0)

field-utf8 : (column : Kind) (own : Cell) → is_cell_of column own ≡ true → IsUtf8 (field_of own)
field-utf8 column cell.Null e = ascii-cons 92 (78 ∷ []) (lit≤ tt) (ascii-cons 78 [] (lit≤ tt) IsUtf8-nil)
field-utf8 kind.Int (cell.Int (pos n)) e = let small : n < 2 ^ 63 = ltb-true n (2 ^ 63) e in decimal-utf8 n (omega (arith, small))
field-utf8 kind.Int (cell.Int (negsuc n)) e =
    let small : n ≤ 2 ^ 63 - 1 = leb-true n (2 ^ 63 - 1) (and_parts (leb n (2 ^ 63 - 1)) true e).0 in
    ascii-cons 45 (decimal (suc n)) (lit≤ tt) (decimal-utf8 (suc n) (omega (arith, small)))
field-utf8 kind.Text (cell.Text text) e = escaped-utf8 text (user-utf8 text e)
field-utf8 kind.Int (cell.Text text) e = absurd cc
field-utf8 kind.Text (cell.Int number) e = absurd cc
field-utf8 kind.Int (cell.Id id) e = absurd cc
field-utf8 kind.Int (cell.Mark mark) e = absurd cc
field-utf8 kind.Int (cell.Mono monomial) e = absurd cc
field-utf8 kind.Text (cell.Id id) e = absurd cc
field-utf8 kind.Text (cell.Mark mark) e = absurd cc
field-utf8 kind.Text (cell.Mono monomial) e = absurd cc

-- ---- columns

-- the type that the fields of cells are taken for
abbrev is_number : Cell → Bool
is_number own = is_int_field (Some (field_of own))

abbrev said : List Cell → Kind
said cells = cond (list_all is_number cells) kind.Int kind.Text

-- a cell that is read back as one of this type
record IsBack (column : Kind) (own : Cell) : Type 0 where
  same : cell_of column (field_of own) ≡ Some own
  utf8 : is_utf8 (field_of own) ≡ true

some-text : (cells : List Cell) → list_any (λ (own : Cell). not (is_number own)) cells ≡ true → list_all is_number cells ≡ false
some-text [] e = absurd cc
some-text (own ∷ cells) e = by (is_number own) refl (some-text cells)
  where
    by : (b : Bool) → is_number own ≡ b → (list_any (λ (other : Cell). not (is_number other)) cells ≡ true → list_all is_number cells ≡ false) → list_all is_number (own ∷ cells) ≡ false
    by true is rest = rw is (rest (rw is at e))
    by false is rest = rw is refl

cell-same : (column : Kind) (own : Cell) → is_cell_of column own ≡ true → cell_of column (field_of own) ≡ Some own
cell-same column cell.Null e = null-back column
cell-same kind.Int (cell.Int number) e = number-back number e
cell-same kind.Text (cell.Text text) e = text-back text e
cell-same kind.Int (cell.Text text) e = absurd cc
cell-same kind.Text (cell.Int number) e = absurd cc
cell-same kind.Int (cell.Id id) e = absurd cc
cell-same kind.Int (cell.Mark mark) e = absurd cc
cell-same kind.Int (cell.Mono monomial) e = absurd cc
cell-same kind.Text (cell.Id id) e = absurd cc
cell-same kind.Text (cell.Mark mark) e = absurd cc
cell-same kind.Text (cell.Mono monomial) e = absurd cc

all-back : (column : Kind) (cells : List Cell) → list_all (is_cell_of column) cells ≡ true → AllByRecursion (IsBack column) cells
all-back column [] all = tt
all-back column (own ∷ cells) all =
    let p = and_parts (is_cell_of column own) (list_all (is_cell_of column) cells) all in
    (record { same = cell-same column own p.0; utf8 = is_utf8-from_IsUtf8 (field_of own) (field-utf8 column own p.0) }, all-back column cells p.1)

all-numbers : (cells : List Cell) → list_all (is_cell_of kind.Int) cells ≡ true → list_all is_number cells ≡ true
all-numbers [] all = refl
all-numbers (own ∷ cells) all =
    let p = and_parts (is_cell_of kind.Int own) (list_all (is_cell_of kind.Int) cells) all in
    rw (cell-same kind.Int own p.0) (all-numbers cells p.1)

column-back : (cells : List Cell) → tells_type cells ≡ true → AllByRecursion (IsBack (said cells)) cells
column-back cells tells = by (list_all (is_cell_of kind.Int) cells) refl
  where
    by : (b : Bool) → list_all (is_cell_of kind.Int) cells ≡ b → AllByRecursion (IsBack (said cells)) cells
    by true are = rw (all-numbers cells are) (all-back kind.Int cells are)
    by false not_all =
        let t : list_all (is_cell_of kind.Text) cells && list_any (λ (own : Cell). not (is_number own)) cells ≡ true = rw not_all at tells in
        let p = and_parts (list_all (is_cell_of kind.Text) cells) (list_any (λ (own : Cell). not (is_number own)) cells) t in
        rw (some-text cells p.1) (all-back kind.Text cells p.0)

-- ---- rows

abbrev pub fields_of_rows : List (List Cell) → List (List (List ℕ))
fields_of_rows rows = map (map field_of) rows

abbrev pub AreWide : ℕ → List (List Cell) → Type 0
AreWide width rows = AllByRecursion (λ (row : List Cell). length row ≡ width) rows

field-there : (row : List Cell) (place : ℕ) → place < length row → field_at (map field_of row) place ≡ Some (field_of (get_or row place cell.Null))
unfolding field_at
field-there [] place within = absurd (omega (arith, within))
field-there (own ∷ row) zero within = refl
field-there (own ∷ row) (suc place) within = field-there row place (omega (arith, within))

fields-there : (width place : ℕ) (rows : List (List Cell)) → place < width → AreWide width rows
    → list_all (λ fields. is_int_field (field_at fields place)) (fields_of_rows rows) ≡ list_all is_number (column_at place rows)
fields-there width place [] within wide = refl
fields-there width place (row ∷ rows) within wide =
    let count = wide.0 in
    rw (field-there row place (omega (arith, count, within))) (ap (λ (b : Bool). is_number (get_or row place cell.Null) && b) (fields-there width place rows within wide.1))

type-said : (width place : ℕ) (rows : List (List Cell)) → place < width → AreWide width rows → inferred place (fields_of_rows rows) ≡ said (column_at place rows)
type-said width place rows within wide = ap (λ (b : Bool). cond b kind.Int kind.Text) (fields-there width place rows within wide)

-- by rows, where it is known by columns
by-rows : (width : ℕ) (P : ℕ → Cell → Type 0) (rows : List (List Cell)) → ((place : ℕ) → place < width → AllByRecursion (P place) (column_at place rows))
    → AllByRecursion (λ (row : List Cell). (place : ℕ) → place < width → P place (get_or row place cell.Null)) rows
by-rows width P [] all = tt
by-rows width P (row ∷ rows) all = (λ place within. (all place within).0, by-rows width P rows (λ place within. (all place within).1))

-- the cells of a row from a place on
abbrev AllFrom : (ℕ → Cell → Type 0) → ℕ → List Cell → Type 0
AllFrom P place [] = Unit {0}
AllFrom P place (own ∷ cells) = P place own × AllFrom P (suc place) cells

all-from : (P : ℕ → Cell → Type 0) (place : ℕ) (cells : List Cell) → ((i : ℕ) → i < length cells → P (place + i) (get_or cells i cell.Null)) → AllFrom P place cells
all-from P place [] all = tt
all-from P place (own ∷ cells) all = (
  subst (λ (n : ℕ). P n own) (omega arith) (all 0 (omega arith)),
  all-from P (suc place) cells (λ i within. subst (λ (n : ℕ). P n (get_or cells i cell.Null)) (omega arith) (all (suc i) (omega (arith, within)))),
)

-- the headings of titles
abbrev pub plain : List ℕ → Heading
plain name = record { name = name; kind = None }

record IsRead (others : List (List (List ℕ))) (fields : List (List ℕ)) (place : ℕ) (own : Cell) : Type 0 where
  there : field_at fields place ≡ Some (field_of own)
  back : IsBack (inferred place others) own

cells-read : (others : List (List (List ℕ))) (fields names : List (List ℕ)) (place : ℕ) (cells : List Cell) → length names ≡ length cells → AllFrom (IsRead others fields) place cells
    → cells_from place fields (columns_from place others (map plain names)) ≡ Some cells
cells-read others fields [] place [] same all = refl
cells-read others fields [] place (own ∷ cells) same all = absurd (omega (arith, same))
cells-read others fields (name ∷ names) place [] same all = absurd (omega (arith, same))
cells-read others fields (name ∷ names) place (own ∷ cells) same all =
    rw (all.0.there, all.0.back.same, cells-read others fields names (suc place) cells (omega (arith, same)) all.1) refl

fields-utf8 : (others : List (List (List ℕ))) (fields : List (List ℕ)) (place : ℕ) (cells : List Cell) → AllFrom (IsRead others fields) place cells → list_all is_utf8 (map field_of cells) ≡ true
fields-utf8 others fields place [] all = refl
fields-utf8 others fields place (own ∷ cells) all = rw all.0.back.utf8 (fields-utf8 others fields (suc place) cells all.1)

columns-count : (place : ℕ) (others : List (List (List ℕ))) (headings : List Heading) → length (columns_from place others headings) ≡ length headings
columns-count place others [] = refl
columns-count place others (heading ∷ headings) = ap suc (columns-count (suc place) others headings)

row-read : (others : List (List (List ℕ))) (names : List (List ℕ)) (number : ℕ) (row : List Cell) → length row ≡ length names → AllFrom (IsRead others (map field_of row)) 0 row
    → sheet_row (columns_from 0 others (map plain names)) number (map field_of row) ≡ Ok row
unfolding sheet_row
row-read others names number row same all =
    let columns = columns-count 0 others (map plain names) in
    let headings = length-map names plain in
    let fields = length-map row field_of in
    let count : length (map field_of row) ≡ length (columns_from 0 others (map plain names)) = omega (arith, same, columns, headings, fields) in
    rw (
      fields-utf8 others (map field_of row) 0 row all,
      eq-eqb (length (map field_of row)) (length (columns_from 0 others (map plain names))) count,
      cells-read others (map field_of row) names 0 row (sym same) all,
    ) refl

rows-read : (others : List (List (List ℕ))) (names : List (List ℕ)) (number : ℕ) (rows : List (List Cell)) → AreWide (length names) rows
    → AllByRecursion (λ (row : List Cell). AllFrom (IsRead others (map field_of row)) 0 row) rows → rows_from (columns_from 0 others (map plain names)) number (fields_of_rows rows) ≡ Ok rows
rows-read others names number [] wide all = refl
rows-read others names number (row ∷ rows) wide all =
    rw (row-read others names number row wide.0 all.0, rows-read others names (suc number) rows wide.1 all.1) refl

module _ (width : ℕ) (rows : List (List Cell)) (wide : AreWide width rows) (typed : (place : ℕ) → place < width → tells_type (column_at place rows) ≡ true) where
  cells-back : (place : ℕ) → place < width → AllByRecursion (IsBack (inferred place (fields_of_rows rows))) (column_at place rows)
  cells-back place within =
      subst (λ (column : Kind). AllByRecursion (IsBack column) (column_at place rows)) (sym (type-said width place rows within wide)) (column-back (column_at place rows) (typed place within))

  each-read : (some : List (List Cell)) → AreWide width some
      → AllByRecursion (λ (row : List Cell). (place : ℕ) → place < width → IsBack (inferred place (fields_of_rows rows)) (get_or row place cell.Null)) some
      → AllByRecursion (λ (row : List Cell). AllFrom (IsRead (fields_of_rows rows) (map field_of row)) 0 row) some
  each-read [] are all = tt
  each-read (row ∷ some) are all =
      let count = are.0 in (
        all-from (IsRead (fields_of_rows rows) (map field_of row)) 0 row (λ i within. subst (λ (n : ℕ). IsRead (fields_of_rows rows) (map field_of row) n (get_or row i cell.Null)) (omega arith) (record { there = field-there row i within; back = all.0 i (omega (arith, within, count)) })),
        each-read some are.1 all.1,
      )

  pub all-read : (names : List (List ℕ)) → length names ≡ width → rows_from (columns_from 0 (fields_of_rows rows) (map plain names)) 2 (fields_of_rows rows) ≡ Ok rows
  all-read names same =
      rows-read (fields_of_rows rows) names 2 rows (subst (λ (n : ℕ). AreWide n rows) (sym same) wide)
      (each-read rows wide (by-rows width (λ place. IsBack (inferred place (fields_of_rows rows))) rows cells-back))
