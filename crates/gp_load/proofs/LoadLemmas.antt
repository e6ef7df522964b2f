-- The script of a sheet leaves the rows of the sheet.
use Rattle.std.proofs.Common.{◌≡◌, ℕ, suc, ◌+◌, ◌*◌, ◌<◌, ◌≤◌, Bool, true, false, cond, eqb, leb, ltb, ◌&&◌, ◌||◌, List, [], ◌∷◌, ◌++◌, length, length-append, None, Ok, refl, sym, ap, subst, ◌∙◌, append_assoc, append-nil, eqb-true, leb-true, leb-false, arith, inl, inr}
use Rattle.std.specs.Prelude.{◌/◌, ◌%◌}
use Rattle.std.specs.List.{AllByRecursion, IsDistinct, list_all, list_any}
use Rattle.std.specs.Str.{bytes_eq}
use Rattle.std.proofs.Math.Nat.{div-add-mod, mod-lt}
use Rattle.std.proofs.lemmas.Grind.{flat_map-append}
use Rattle.std.proofs.lemmas.Bool.{cases_Bool, and_parts, eqb-false, lt-ltb, or_from, or_parts}
use Rattle.std.proofs.lemmas.List.Folds.{list_any-append}
use Rattle.std.proofs.lemmas.Slice.Eq.{bytes_eq-Decides}
use Rattle.gp_base.specs.Annotated.{unannotated}
use Rattle.gp_base.specs.Names.{is_name}
use Rattle.gp_base.specs.declared.cell.Cell.{Cell}
use Rattle.gp_base.specs.declared.cell.Cell.TheVariants as cell
use Rattle.gp_base.specs.declared.table.Column.{Column}
use Rattle.gp_base.specs.declared.table.Kind.{Kind}
use Rattle.gp_base.specs.declared.table.Kind.TheVariants as kind
use Rattle.gp_base.specs.declared.table.Table.{Table}
use Rattle.gp_grammar.specs.declared.limits.TheConstants.{MAX_LINE_LENGTH, MAX_VALUES}
use Rattle.gp_grammar.specs.Syntax as y
use Rattle.gp_grammar.specs.Syntax.{Command}
use Rattle.gp_check.specs.Faults.{repeated_behind}
use Rattle.gp_machine.specs.State.{start}
use Rattle.gp_log.specs.Parameters.{parameters}
use Rattle.gp_script.specs.declared.script.TheConstants.{MAX_SCRIPT_LENGTH}
use Rattle.gp_script.specs.History.{has_refusal}
use Rattle.gp_script.specs.Scripts.{lines_as_read, replies_from, state_after}
use Rattle.gp_script.proofs.ReadHistory.{is-script, replies-read, state-read}
use Rattle.gp_csv.specs.Scripts.{batches_of, commands_of, ended_line, fits_line, inserts_from, session_line, script_of, script_text, transaction_break}
use Rattle.gp_csv.specs.SheetForms.{rows_in, IsSheet, column_names, is_cell_of, is_row_of}
use Rattle.gp_csv.specs.declared.script.TheConstants.{MAX_INSERTS, MAX_ROWS, MAX_STEPS}
use Rattle.gp_csv.specs.declared.sheet.Sheet.{Sheet}
use Rattle.gp_csv.proofs.LineLemmas.{HoldsAll, lines-hold-all}
use Rattle.gp_csv.proofs.ValidLemmas.{from_map}
use Rattle.gp_load.specs.Loading.{Loads, last_rows, table_of}
use Rattle.gp_load.proofs.DerivedLemmas.{IsNamed, IsSome, IsUser, IsUserRow, begin-readable, begin-short, commit-readable, commit-short, create-readable, insert-readable}
use Rattle.gp_load.proofs.ReadLemmas.{IsReadable}
use Rattle.gp_load.proofs.StateLemmas.{Accepts, Idle, Plain, Running, begins, cells_in, commits, creates, inserts, newest}
use Rattle.gp_load.proofs.TextLemmas.{lines-are, lines-lead}
use Rattle.gp_base.proofs.SmallLemmas.{each_append}

abbrev Rows : Type 0
Rows = List (List Cell)

-- ---- the names of the columns

name-other : (a b : List ℕ) → bytes_eq a b ≡ false → bytes_eq b a ≡ false
name-other a b e = by (bytes_eq b a) refl
  where
    by : (x : Bool) → bytes_eq b a ≡ x → x ≡ false
    by false same = refl
    by true same = let f : bytes_eq a b ≡ true = (bytes_eq-Decides a b).1 (sym ((bytes_eq-Decides b a).0 same)) in absurd cc

-- a name is none of these
abbrev IsNew : List (List ℕ) → List ℕ → Type 0
IsNew earlier name = list_any (λ (other : List ℕ). bytes_eq other name) earlier ≡ false

new-other : (earlier : List (List ℕ)) (name : List ℕ) → IsNew earlier name → list_any (bytes_eq name) earlier ≡ false
new-other [] name e = refl
new-other (other ∷ earlier) name e =
    let h = or_parts (bytes_eq other name) (list_any (λ (z : List ℕ). bytes_eq z name) earlier) e in
    or_from (bytes_eq name other) (list_any (bytes_eq name) earlier) (name-other other name h.0) (new-other earlier name h.1)

new-snoc : (earlier : List (List ℕ)) (first name : List ℕ) → IsNew earlier name → bytes_eq first name ≡ false → IsNew (earlier ++ first ∷ []) name
new-snoc earlier first name e f =
    list_any-append (λ (other : List ℕ). bytes_eq other name) earlier (first ∷ [])
    ∙ or_from (list_any (λ (other : List ℕ). bytes_eq other name) earlier) (bytes_eq first name || false) e (or_from (bytes_eq first name) false f refl)

all-new : (earlier : List (List ℕ)) (first : List ℕ) (names : List (List ℕ)) → AllByRecursion (IsNew earlier) names → AllByRecursion (λ (name : List ℕ). bytes_eq first name ≡ false) names
    → AllByRecursion (IsNew (earlier ++ first ∷ [])) names
all-new earlier first [] all different = tt
all-new earlier first (name ∷ names) all different = (new-snoc earlier first name all.0 different.0, all-new earlier first names all.1 different.1)

none-repeated : (earlier names : List (List ℕ)) → AllByRecursion (IsNew earlier) names → IsDistinct bytes_eq names → repeated_behind earlier names ≡ None
unfolding IsDistinct
none-repeated earlier [] all different = refl
none-repeated earlier (name ∷ names) all different =
    rw (new-other earlier name all.0) (none-repeated (earlier ++ name ∷ []) names (all-new earlier name names all.1 different.0) different.1)

all_new : (names : List (List ℕ)) → AllByRecursion (IsNew []) names
all_new [] = tt
all_new (name ∷ names) = (refl, all_new names)

not-refused : (table : Table) → IsDistinct bytes_eq (column_names table.cols) → parameters.created [] table ≡ None
not-refused table different = rw (none-repeated [] (column_names table.cols) (all_new (column_names table.cols)) different) refl

-- ---- batches

-- a batch that an INSERT can have
record IsBatch (table : Table) (batch : Rows) : Type 0 where
  readable : IsReadable (y.insert table.name batch)
  rows : list_all (is_row_of table.cols) batch ≡ true

cell-user : (k : Kind) (c : Cell) → is_cell_of k c ≡ true → IsUser c
cell-user kind.Int cell.Null e = refl
cell-user kind.Text cell.Null e = refl
cell-user kind.Int (cell.Int number) e = e
cell-user kind.Text (cell.Text text) e = e
cell-user kind.Int (cell.Text text) e = absurd cc
cell-user kind.Text (cell.Int number) e = absurd cc
cell-user kind.Int (cell.Id id) e = absurd cc
cell-user kind.Int (cell.Mark mark) e = absurd cc
cell-user kind.Int (cell.Mono monomial) e = absurd cc
cell-user kind.Text (cell.Id id) e = absurd cc
cell-user kind.Text (cell.Mark mark) e = absurd cc
cell-user kind.Text (cell.Mono monomial) e = absurd cc

cells-user : (columns : List Column) (cells : List Cell) → is_row_of columns cells ≡ true → AllByRecursion IsUser cells
cells-user [] [] e = tt
cells-user (column ∷ columns) [] e = tt
cells-user [] (c ∷ cells) e = absurd cc
cells-user (column ∷ columns) (c ∷ cells) e =
    let h = and_parts (is_cell_of column.kind c) (is_row_of columns cells) e in (cell-user column.kind c h.0, cells-user columns cells h.1)

row-user : (columns : List Column) (cells : List Cell) → IsSome columns → is_row_of columns cells ≡ true → IsUserRow cells
row-user [] cells some e = absurd some
row-user (column ∷ columns) [] some e = absurd cc
row-user (column ∷ columns) (c ∷ cells) some e = record { some = tt; cells = cells-user (column ∷ columns) (c ∷ cells) e }

rows-user : (columns : List Column) (rows : Rows) → IsSome columns → list_all (is_row_of columns) rows ≡ true → AllByRecursion IsUserRow rows
rows-user columns [] some e = tt
rows-user columns (row ∷ rows) some e =
    let h = and_parts (is_row_of columns row) (list_all (is_row_of columns) rows) e in (row-user columns row some h.0, rows-user columns rows some h.1)

all-parts : (p : List Cell → Bool) (xs ys : Rows) → list_all p (xs ++ ys) ≡ true → (list_all p xs ≡ true) × (list_all p ys ≡ true)
all-parts p [] ys e = (refl, e)
all-parts p (x ∷ xs) ys e = let h = and_parts (p x) (list_all p (xs ++ ys)) e in let k = all-parts p xs ys h.1 in (rw (h.0, k.0) refl, k.1)

some-rows : (rows : Rows) → ltb 0 (length rows) ≡ true → IsSome rows
some-rows [] e = absurd cc
some-rows (row ∷ rows) e = tt

module _ (table : Table) (named : is_name table.name ≡ true) (columns : IsSome table.cols) where
  batches-good : (batches : List Rows) → list_all (fits_line table.name) batches ≡ true → list_all (is_row_of table.cols) (rows_in batches) ≡ true → AllByRecursion (IsBatch table) batches
  batches-good [] fits rows = tt
  batches-good (batch ∷ batches) fits rows =
      let f = and_parts (fits_line table.name batch) (list_all (fits_line table.name) batches) fits in
      let n = and_parts (ltb 0 (length batch)) (leb (length batch) MAX_VALUES && leb (length (session_line (y.insert table.name batch))) MAX_LINE_LENGTH) f.0 in
      let g = and_parts (leb (length batch) MAX_VALUES) (leb (length (session_line (y.insert table.name batch))) MAX_LINE_LENGTH) n.1 in
      let r = all-parts (is_row_of table.cols) batch (rows_in batches) rows in (
        record {
          readable = insert-readable table.name batch named (some-rows batch n.0) (rows-user table.cols batch columns r.0) (leb-true (length batch) MAX_VALUES g.0)
              (leb-true (length (session_line (y.insert table.name batch))) MAX_LINE_LENGTH g.1);
          rows = r.0;
        },
        batches-good batches f.1 r.1,
      )

-- ---- the commands are read

break-readable : (count : ℕ) → AllByRecursion IsReadable (transaction_break count)
break-readable count = by (ltb 0 count && eqb (count % MAX_STEPS) 0)
  where
    by : (b : Bool) → AllByRecursion IsReadable (cond b (y.Command.commit ∷ y.begin false ∷ []) [])
    by true = (commit-readable, (begin-readable, tt))
    by false = tt

from-readable : (table : Table) (count : ℕ) (batches : List Rows) → AllByRecursion (IsBatch table) batches → AllByRecursion IsReadable (inserts_from table.name count batches)
from-readable table count [] all = tt
from-readable table count (batch ∷ batches) all =
    each_append IsReadable (transaction_break count) (y.insert table.name batch ∷ inserts_from table.name (suc count) batches) (break-readable count) (all.0.readable, from-readable table (suc count) batches all.1)

-- ---- and accepted

-- the table has these rows at the end
record HasRows (table : Table) (rows : Rows) (state : Plain) : Type 0 where
  catalogue : state.catalogue ≡ table ∷ []
  cells : cells_in (newest state) ≡ rows

idle-rows : (table : Table) (rows : Rows) (t n most : ℕ) (state : Plain) → Idle table rows t n most state → HasRows table rows state
idle-rows table rows t n most state h = record { catalogue = h.catalogue; cells = h.cells }

-- transactions are full after MAX_STEPS statements
full : (q k count : ℕ) → count ≡ 256 * q + k → 1 ≤ k → k ≤ 256 → eqb (count % MAX_STEPS) 0 ≡ true → k ≡ 256
full q k count is some most e =
    let rest : count % 256 ≡ 0 = eqb-true (count % 256) 0 e in
    let parts = div-add-mod count 256 in
    omega (arith, is, some, most, rest, parts)

open_yet : (q k count : ℕ) → count ≡ 256 * q + k → 1 ≤ k → k ≤ 256 → eqb (count % MAX_STEPS) 0 ≡ false → k < 256
open_yet q k count is some most e =
    let rest = eqb-false (count % 256) 0 e in
    let parts = div-add-mod count 256 in
    let below : count % 256 < 256 = mod-lt count (omega arith) in
    at-most (eqb k 256) refl rest parts below
  where
    at-most : (b : Bool) → eqb k 256 ≡ b → (count % 256 ≡ 0 → ⊥) → 256 * (count / 256) + count % 256 ≡ count → count % 256 < 256 → k < 256
    at-most false other rest parts below = let differ = eqb-false k 256 other in less differ
      where
        less : (k ≡ 256 → ⊥) → k < 256
        less differ = elim (cases_Bool (leb 256 k)) [
          | inl large ↦ let h : 256 ≤ k = leb-true 256 k large in absurd (differ (omega (arith, most, h)))
          | inr small ↦ leb-false 256 k small
        ]
    at-most true same rest parts below = let e : k ≡ 256 = eqb-true k 256 same in absurd (rest (omega (arith, is, e, parts, below)))

length-is : (a b c all : Rows) → (a ++ b) ++ c ≡ all → length all ≡ length a + length b + length c
length-is a b c all e =
    let f : length ((a ++ b) ++ c) ≡ length (a ++ b) + length c = length-append (a ++ b) c in
    let g : length (a ++ b) ≡ length a + length b = length-append a b in
    let same = ap (λ (x : Rows). length x) e in
    omega (arith, same, f, g)

module _ (table : Table) (all : Rows) (short : length all ≤ MAX_ROWS) where
  -- the property of the state at the end
  abbrev Ends : Plain → Type 0
  Ends state = HasRows table all state

  accepts-from : (q k count : ℕ) (rows : Rows) (batches : List Rows) (state : Plain) (line : ℕ) → Running table rows (suc q) k count (10000 * q) state
      → count ≡ 256 * q + k → 1 ≤ k → k ≤ 256 → count + length batches ≤ MAX_INSERTS → rows ++ rows_in batches ≡ all → AllByRecursion (IsBatch table) batches
      → Accepts state line (inserts_from table.name count batches ++ (y.Command.commit ∷ [])) Ends
  accepts-from q k count rows [] state line h is some most few same good =
      let whole : rows ≡ all = sym (append-nil rows) ∙ same in
      let size = ap (λ (x : Rows). length x) whole in
      commits table rows (suc q) k count (10000 * q) (10000 * suc q) line state [] Ends h (omega (arith, short, size)) (omega (arith, is, some, few))
      (λ next l idle. subst (λ (x : Rows). HasRows table x next) whole (idle-rows table rows (suc q) count (10000 * suc q) next idle))
  accepts-from q k count rows (batch ∷ batches) state line h is some most few same good =
      let rest : List Command = inserts_from table.name (suc count) batches ++ (y.Command.commit ∷ []) in
      let whole : (rows ++ batch) ++ rows_in batches ≡ all = append_assoc rows batch (rows_in batches) ∙ same in
      let size = length-is rows batch (rows_in batches) all whole in
      elim (cases_Bool (eqb (count % MAX_STEPS) 0)) [
        | inl e ↦
            let whole_transaction = full q k count is some most e in
            rw (lt-ltb 0 count (omega (arith, is, some)), e) (commits table rows (suc q) k count (10000 * q) (10000 * suc q) line state (y.begin false ∷ y.insert table.name batch ∷ rest) Ends h (omega (arith, short, size)) (omega (arith, is, some, few))
            (λ s1 l1 idle. begins table rows (suc q) count (10000 * suc q) l1 s1 (y.insert table.name batch ∷ rest) Ends idle (omega (arith, is, few))
            (λ s2 l2 running. inserts table rows batch (suc (suc q)) 0 count (10000 * suc q) l2 s2 rest Ends running (omega arith) (omega (arith, few)) (omega (arith, short, size)) good.0.rows
            (λ s3 l3 next. accepts-from (suc q) 1 (suc count) (rows ++ batch) batches s3 l3 next (omega (arith, is, whole_transaction)) (omega arith) (omega arith) (omega (arith, few)) whole good.1))))
        | inr e ↦
            let room = open_yet q k count is some most e in
            rw (lt-ltb 0 count (omega (arith, is, some)), e) (inserts table rows batch (suc q) k count (10000 * q) line state rest Ends h room (omega (arith, few)) (omega (arith, short, size)) good.0.rows
            (λ next l running. accepts-from q (suc k) (suc count) (rows ++ batch) batches next l running (omega (arith, is)) (omega arith) (omega (arith, room)) (omega (arith, few)) whole good.1))
      ]

  accepts-batches : (batches : List Rows) (state : Plain) (line : ℕ) → Running table [] 1 0 0 0 state → length batches ≤ MAX_INSERTS → rows_in batches ≡ all → AllByRecursion (IsBatch table) batches
      → Accepts state line (inserts_from table.name 0 batches ++ (y.Command.commit ∷ [])) Ends
  accepts-batches [] state line h few same good =
      commits table [] 1 0 0 0 0 line state [] Ends h (omega arith) (omega arith) (λ next l idle. subst (λ (x : Rows). HasRows table x next) same (idle-rows table [] 1 0 0 next idle))
  accepts-batches (batch ∷ batches) state line h few same good =
      let size = length-is [] batch (rows_in batches) all same in
      inserts table [] batch 1 0 0 0 line state (inserts_from table.name 1 batches ++ (y.Command.commit ∷ [])) Ends h (omega arith) (omega arith) (omega (arith, short, size)) good.0.rows
      (λ next l running. accepts-from 0 1 1 batch batches next l running (omega arith) (omega arith) (omega arith) (omega (arith, few)) same good.1)

  accepts-all : (batches : List Rows) → parameters.created [] table ≡ None → length batches ≤ MAX_INSERTS → rows_in batches ≡ all → AllByRecursion (IsBatch table) batches
      → Accepts start 1 (y.create table ∷ y.begin false ∷ (inserts_from table.name 0 batches ++ (y.Command.commit ∷ []))) Ends
  accepts-all batches named few same good =
      let rest : List Command = inserts_from table.name 0 batches ++ (y.Command.commit ∷ []) in
      creates table 1 (y.begin false ∷ rest) Ends named
      (λ s1 l1 idle. begins table [] 0 0 0 l1 s1 rest Ends idle (omega arith)
      (λ s2 l2 running. accepts-batches batches s2 l2 running few same good))

-- ---- the script

some-columns : (columns : List Column) → 0 < length columns → IsSome columns
some-columns [] some = absurd (omega (arith, some))
some-columns (column ∷ columns) some = tt

columns-named : (columns : List Column) → list_all is_name (column_names columns) ≡ true → AllByRecursion IsNamed columns
columns-named [] all = tt
columns-named (column ∷ columns) all = let h = and_parts (is_name column.name) (list_all is_name (column_names columns)) all in (h.0, columns-named columns h.1)

-- ---- the length of the script

ended-length : (c : Command) → length (ended_line c) ≡ length (session_line c) + 1
ended-length c = length-append (session_line c) (10 ∷ [])

cons-length : (c : Command) (cs : List Command) → length (script_text (c ∷ cs)) ≡ length (session_line c) + 1 + length (script_text cs)
cons-length c cs =
    let a : length (ended_line c ++ script_text cs) ≡ length (ended_line c) + length (script_text cs) = length-append (ended_line c) (script_text cs) in
    let b = ended-length c in
    omega (arith, a, b)

both-length : (cs others : List Command) → length (script_text (cs ++ others)) ≡ length (script_text cs) + length (script_text others)
both-length cs others = ap (λ (text : List ℕ). length text) (flat_map-append ended_line cs others) ∙ length-append (script_text cs) (script_text others)

break-length : (count : ℕ) → length (script_text (transaction_break count)) ≤ 42
break-length count = by (ltb 0 count && eqb (count % MAX_STEPS) 0)
  where
    by : (b : Bool) → length (script_text (cond b (y.Command.commit ∷ y.begin false ∷ []) [])) ≤ 42
    by true =
        let a = cons-length y.Command.commit (y.begin false ∷ []) in
        let b = cons-length (y.begin false) [] in
        let c = commit-short in
        let d = begin-short in
        omega (arith, a, b, c, d)
    by false = omega arith

from-length : (table : Table) (count : ℕ) (batches : List Rows) → AllByRecursion (IsBatch table) batches → length (script_text (inserts_from table.name count batches)) ≤ 4139 * length batches
from-length table count [] all = omega arith
from-length table count (batch ∷ batches) all =
    let others : List Command = inserts_from table.name (suc count) batches in
    let a = both-length (transaction_break count) (y.insert table.name batch ∷ others) in
    let b = cons-length (y.insert table.name batch) others in
    let c = break-length count in
    let d = all.0.readable.short in
    let e = from-length table (suc count) batches all.1 in
    omega (arith, a, b, c, d, e)

script-short : (table : Table) (batches : List Rows) → IsReadable (y.create table) → AllByRecursion (IsBatch table) batches → length batches ≤ MAX_INSERTS
    → length (script_text (y.create table ∷ y.begin false ∷ (inserts_from table.name 0 batches ++ (y.Command.commit ∷ [])))) ≤ MAX_SCRIPT_LENGTH
script-short table batches readable all few =
    let ends : List Command = y.Command.commit ∷ [] in
    let a = cons-length (y.create table) (y.begin false ∷ (inserts_from table.name 0 batches ++ ends)) in
    let b = cons-length (y.begin false) (inserts_from table.name 0 batches ++ ends) in
    let c = both-length (inserts_from table.name 0 batches) ends in
    let d = cons-length y.Command.commit [] in
    let e = from-length table 0 batches all in
    let f = readable.short in
    let g = begin-short in
    let h = commit-short in
    omega (arith, a, b, c, d, e, f, g, h, few)

-- ---- the script loads the sheet

loads-by : (name : List ℕ) (sheet : Sheet) (batches : List Rows) → is_name name ≡ true → IsSheet sheet → HoldsAll name sheet.rows batches → Loads name sheet (script_text (commands_of name sheet batches))
loads-by name sheet batches named h holds =
    let table : Table = table_of name sheet in
    let some = some-columns sheet.cols h.some in
    let good = batches-good table named some batches holds.fit (subst (λ (x : Rows). list_all (is_row_of sheet.cols) x ≡ true) (sym holds.kept) h.rows) in
    let readable : AllByRecursion IsReadable (commands_of name sheet batches) = (
      create-readable table named some (columns-named sheet.cols h.names) h.few,
      (begin-readable, each_append IsReadable (inserts_from name 0 batches) (y.Command.commit ∷ []) (from-readable table 0 batches good) (commit-readable, tt)),
    ) in
    let accepts = accepts-all table sheet.rows holds.counted batches (not-refused table h.different) holds.few holds.kept good in
    let leads = lines-lead start 1 (commands_of name sheet batches) (HasRows table sheet.rows) readable accepts in
    let same = lines-are (commands_of name sheet batches) readable in
    let script : List ℕ = script_text (commands_of name sheet batches) in
    record {
      short = script-short table batches readable.0 good holds.few;
      lines = lines_as_read script;
      are = is-script script;
      accepted = ap has_refusal (replies-read script) ∙ ap (λ (lines : List (ℕ × List ℕ)). has_refusal (replies_from unannotated start lines)) same ∙ leads.accepted;
      table = ap (λ (state : Plain). state.catalogue) (state-read unannotated script) ∙ ap (λ (lines : List (ℕ × List ℕ)). (state_after unannotated start lines).catalogue) same ∙ leads.final.catalogue;
      rows = ap (λ (state : Plain). last_rows state 0) (state-read unannotated script) ∙ ap (λ (lines : List (ℕ × List ℕ)). last_rows (state_after unannotated start lines) 0) same ∙ leads.final.cells;
    }

pub loads-sheets : (name : List ℕ) (sheet : Sheet) (script : List ℕ) → is_name name ≡ true → IsSheet sheet → script_of name sheet ≡ Ok script → Loads name sheet script
loads-sheets name sheet script named h e =
    let x = from_map (λ (batches : List Rows). script_text (commands_of name sheet batches)) (batches_of name sheet.rows) script e in
    subst (Loads name sheet) x.2 (loads-by name sheet x.0 named h (lines-hold-all name sheet.rows x.0 x.1))
