-- An INSERT of rows into the one table: its check, and the rows and identities that it makes.
use Rattle.std.proofs.Common.{◌≡◌, ℕ, suc, ◌+◌, ◌<◌, ◌≤◌, Bool, true, false, eqb, ltb, ◌&&◌, List, [], ◌∷◌, ◌++◌, length, length-append, map, filter, None, Ok, refl, ap, ◌∙◌, eq-eqb, ne_eqb, le-ltb, arith}
use Rattle.std.specs.List.{AllByRecursion, list_all, list_any}
use Rattle.std.specs.Str.{bytes_eq}
use Rattle.std.proofs.lemmas.Bool.{and_parts, and_from, eqb-true, or_left, or_right}
use Rattle.std.proofs.lemmas.List.Folds.{list_any-append}
use Rattle.std.proofs.lemmas.Map.Views.{any-filter_same}
use Rattle.std.proofs.lemmas.Slice.Eq.{bytes_eq-Decides}
use Rattle.gp_base.specs.Annotated.{Annotated, Database, unannotated}
use Rattle.gp_base.specs.Identities.{Identity, identity, no_sources, nodes, same_identity}
use Rattle.gp_base.specs.IdentityParts.{identity_transaction}
use Rattle.gp_base.specs.declared.cell.Cell.{Cell}
use Rattle.gp_base.specs.declared.cell.Cell.TheVariants as cell
use Rattle.gp_base.specs.declared.row_id.TheConstants.{MAX_NODES}
use Rattle.gp_base.specs.declared.table.Column.{Column}
use Rattle.gp_base.specs.declared.table.Kind.{Kind}
use Rattle.gp_base.specs.declared.table.Kind.TheVariants as kind
use Rattle.gp_base.specs.declared.table.Table.{Table}
use Rattle.gp_grammar.specs.Syntax as y
use Rattle.gp_algebra.specs.Effects.{Written, given_from, written_in}
use Rattle.gp_algebra.specs.Statements as s
use Rattle.gp_check.specs.Checking.{checked}
use Rattle.gp_check.specs.Faults.{cells_agree}
use Rattle.gp_check.specs.Typing.{agrees, cell_type, kind_type}
use Rattle.gp_base.specs.declared.limit.TheConstants.{MAX_TABLE_ROWS}
use Rattle.gp_machine.proofs.Made.{same_equal}
use Rattle.gp_machine.specs.Bases.{Based, is_new, pairs}
use Rattle.gp_machine.specs.Committed.{is_written, unmarked}
use Rattle.gp_machine.specs.Event.{refusal_of}
use Rattle.gp_log.specs.Parameters.{parameters}
use Rattle.gp_csv.specs.SheetForms.{is_cell_of, is_row_of}
use Rattle.gp_base.proofs.SmallLemmas.{all_weaker}
use Rattle.gp_txn.proofs.InsertLemmas.{given-length}

abbrev pub Row : Type 0
Row = Annotated (Unit {0})

-- ---- the rows of a sheet as rows of a VALUES

cell-agrees : (k : Kind) (c : Cell) → is_cell_of k c ≡ true → agrees (kind_type k) (cell_type c) ≡ true
cell-agrees kind.Int cell.Null e = refl
cell-agrees kind.Text cell.Null e = refl
cell-agrees kind.Int (cell.Int number) e = refl
cell-agrees kind.Text (cell.Text text) e = refl
cell-agrees kind.Int (cell.Text text) e = absurd cc
cell-agrees kind.Text (cell.Int number) e = absurd cc
cell-agrees kind.Int (cell.Id id) e = absurd cc
cell-agrees kind.Int (cell.Mark mark) e = absurd cc
cell-agrees kind.Int (cell.Mono monomial) e = absurd cc
cell-agrees kind.Text (cell.Id id) e = absurd cc
cell-agrees kind.Text (cell.Mark mark) e = absurd cc
cell-agrees kind.Text (cell.Mono monomial) e = absurd cc

row-agrees : (columns : List Column) (cells : List Cell) → is_row_of columns cells ≡ true → cells_agree columns cells ≡ true
row-agrees [] [] e = refl
row-agrees (column ∷ columns) [] e = absurd cc
row-agrees [] (c ∷ cells) e = absurd cc
row-agrees (column ∷ columns) (c ∷ cells) e =
    let h = and_parts (is_cell_of column.kind c) (is_row_of columns cells) e in
    and_from (agrees (kind_type column.kind) (cell_type c)) (cells_agree columns cells) (cell-agrees column.kind c h.0) (row-agrees columns cells h.1)

row-width : (columns : List Column) (cells : List Cell) → is_row_of columns cells ≡ true → length cells ≡ length columns
row-width [] [] e = refl
row-width (column ∷ columns) [] e = absurd cc
row-width [] (c ∷ cells) e = absurd cc
row-width (column ∷ columns) (c ∷ cells) e = ap suc (row-width columns cells (and_parts (is_cell_of column.kind c) (is_row_of columns cells) e).1)

-- ---- the check

pub checked-insert : (table : Table) (rows : List (List Cell)) → list_all (is_row_of table.cols) rows ≡ true → checked (table ∷ []) (y.insert table.name rows) ≡ Ok (s.insert 0 rows)
checked-insert table rows all =
    let name : bytes_eq table.name table.name ≡ true = (bytes_eq-Decides table.name table.name).1 refl in
    let widths : list_all (λ (row : List Cell). eqb (length row) (length table.cols)) rows ≡ true =
    all_weaker (is_row_of table.cols) (λ (row : List Cell). eqb (length row) (length table.cols)) (λ row e. eq-eqb _ _ (row-width table.cols row e)) rows all in
    let types : list_all (cells_agree table.cols) rows ≡ true = all_weaker (is_row_of table.cols) (cells_agree table.cols) (row-agrees table.cols) rows all in
    rw (name, widths, types) refl

-- ---- the rows that it makes

pub given-cells : (t k n : ℕ) (rows : List (List Cell)) → map (λ (row : Row). row.cells) (given_from unannotated t k n rows) ≡ rows
given-cells t k n [] = refl
given-cells t k n (row ∷ rows) = ap (λ (others : List (List Cell)). row ∷ others) (given-cells t k (suc n) rows)

given-nodes : (t k n : ℕ) (rows : List (List Cell)) → list_any (λ (row : Row). ltb MAX_NODES (nodes row.identity)) (given_from unannotated t k n rows) ≡ false
given-nodes t k n [] = refl
given-nodes t k n (row ∷ rows) = given-nodes t k (suc n) rows

pub not-refused : (tables : List Table) (t k : ℕ) (rows : List (List Cell)) (view : Database (Unit {0})) → length (view 0) + length rows ≤ MAX_TABLE_ROWS
    → refusal_of unannotated parameters tables t k (s.insert 0 rows) view ≡ None
not-refused tables t k rows view few =
    let count : length (view 0 ++ given_from unannotated t k 1 rows) ≡ length (view 0) + length (given_from unannotated t k 1 rows) = length-append (view 0) (given_from unannotated t k 1 rows) in
    let given = given-length t k 1 rows in
    let fits : ltb MAX_TABLE_ROWS (length (view 0 ++ given_from unannotated t k 1 rows)) ≡ false = le-ltb MAX_TABLE_ROWS (length (view 0 ++ given_from unannotated t k 1 rows)) (omega (arith, few, count, given)) in
    rw (fits, given-nodes t k 1 rows) refl

-- ---- the identities that it writes

pub all-mapped : {A : Type 0} (P Q : A → Type 0) → ((x : A) → P x → Q x) → (xs : List A) → AllByRecursion P xs → AllByRecursion Q xs
all-mapped P Q weaker [] all = tt
all-mapped P Q weaker (x ∷ xs) all = (weaker x all.0, all-mapped P Q weaker xs all.1)

abbrev pub IsWritten : List Written → Row → Type 0
IsWritten written row = is_written 0 row.identity written ≡ true

abbrev pub IsBy : ℕ → Written → Type 0
IsBy t pair = identity_transaction pair.identity ≡ t

abbrev pub IsBefore : ℕ → Row → Type 0
IsBefore t row = identity_transaction row.identity < t

pub given-by : (t k n : ℕ) (rows : List (List Cell)) → AllByRecursion (IsBy t) (written_in 0 (given_from unannotated t k n rows))
given-by t k n [] = tt
given-by t k n (row ∷ rows) = (refl, given-by t k (suc n) rows)

pub given-before : (t k n : ℕ) (rows : List (List Cell)) → AllByRecursion (IsBefore (suc t)) (given_from unannotated t k n rows)
given-before t k n [] = tt
given-before t k n (row ∷ rows) = (omega arith, given-before t k (suc n) rows)

-- what is among some of the written rows is among all of them
pub written-before : (written others : List Written) (row : Row) → IsWritten written row → IsWritten (written ++ others) row
written-before written others row e = list_any-append _ written others ∙ or_left (is_written 0 row.identity written) (is_written 0 row.identity others) e

pub written-after : (written others : List Written) (row : Row) → IsWritten others row → IsWritten (written ++ others) row
written-after written others row e = list_any-append _ written others ∙ or_right (is_written 0 row.identity written) (is_written 0 row.identity others) e

-- a pair of this row is new if the row was not written
new-pair : (written : List Based) (id : Identity) → is_written 0 id (pairs written) ≡ false → (pair : Written) → (eqb pair.table 0 && same_identity pair.identity id) ≡ true → is_new written pair ≡ true
new-pair written id fresh pair found =
    let h = and_parts (eqb pair.table 0) (same_identity pair.identity id) found in
    let table : pair.table ≡ 0 = eqb-true pair.table 0 h.0 in
    let same : pair.identity ≡ id = same_equal pair.identity id h.1 in
    rw (table, same, fresh) refl

-- a row that is written now is among the rows that were written and the new ones
pub written-new : (written : List Based) (more : List Written) (row : Row) → IsWritten more row → IsWritten (pairs written ++ filter (is_new written) more) row
written-new written more row e = by (is_written 0 row.identity (pairs written)) refl
  where
    by : (b : Bool) → is_written 0 row.identity (pairs written) ≡ b → IsWritten (pairs written ++ filter (is_new written) more) row
    by true found = written-before (pairs written) (filter (is_new written) more) row found
    by false fresh =
        written-after (pairs written) (filter (is_new written) more) row (any-filter_same _ (is_new written) true (new-pair written row.identity fresh) more ∙ e)

same-made : (t k n : ℕ) → same_identity (identity t k n no_sources) (identity t k n no_sources) ≡ true
same-made t k n = rw (eq-eqb t t refl, eq-eqb k k refl, eq-eqb n n refl) refl

pub given-written : (t k n : ℕ) (rows : List (List Cell)) → AllByRecursion (IsWritten (written_in 0 (given_from unannotated t k n rows))) (given_from unannotated t k n rows)
given-written t k n [] = tt
given-written t k n (row ∷ rows) = (
  or_left (same_identity (identity t k n no_sources) (identity t k n no_sources)) _ (same-made t k n),
  all-mapped (IsWritten (written_in 0 (given_from unannotated t k (suc n) rows))) (IsWritten (written_in 0 (given_from unannotated t k n (row ∷ rows))))
      (λ other e. or_right (same_identity (identity t k n no_sources) other.identity) (is_written 0 other.identity (written_in 0 (given_from unannotated t k (suc n) rows))) e)
      (given_from unannotated t k (suc n) rows) (given-written t k (suc n) rows),
)

other-identity : (id other : Identity) (t : ℕ) → identity_transaction id ≡ t → identity_transaction other < t → same_identity id other ≡ false
other-identity (identity u k n ids) (identity v l m others) t by before =
    let differ : eqb u v ≡ false = ne_eqb u v (λ e. omega (arith, by, before, e)) in
    rw differ refl

nothing : (a b : Bool) → a ≡ false → (b && a) ≡ false
nothing a true e = e
nothing a false e = refl

-- rows of earlier transactions are not among those that this one wrote
pub not-written : (t : ℕ) (written : List Written) (row : Row) → AllByRecursion (IsBy t) written → IsBefore t row → is_written 0 row.identity written ≡ false
not-written t [] row by before = refl
not-written t (pair ∷ written) row by before =
    rw (nothing (same_identity pair.identity row.identity) (eqb pair.table 0) (other-identity pair.identity row.identity t by.0 before)) (not-written t written row by.1 before)

-- ---- what a commit keeps

pub unmarked-cells : (rows : List Row) → map (λ (row : Row). row.cells) (map unmarked rows) ≡ map (λ (row : Row). row.cells) rows
unmarked-cells [] = refl
unmarked-cells (row ∷ rows) = ap (λ (others : List (List Cell)). row.cells ∷ others) (unmarked-cells rows)

pub unmarked-before : (t : ℕ) (rows : List Row) → AllByRecursion (IsBefore t) rows → AllByRecursion (IsBefore t) (map unmarked rows)
unmarked-before t [] all = tt
unmarked-before t (row ∷ rows) all = (all.0, unmarked-before t rows all.1)
