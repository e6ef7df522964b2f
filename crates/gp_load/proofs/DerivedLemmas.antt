-- The commands of a script are derived by the grammar from their canonical lexemes, and these can be written in a line.
use Rattle.std.proofs.Common.{◌≡◌, ℕ, suc, pos, negsuc, ◌+◌, ◌-◌, ◌*◌, ◌^◌, ◌<◌, ◌≤◌, Bool, true, false, not, cond, eqb, leb, ltb, ◌&&◌, List, [], ◌∷◌, ◌++◌, length, length-append, refl, sym, subst, append_assoc, append-nil, eqb-true, leb-true, ltb-true, ltb-false, le-ltb, inl, inr, arith}
use Rattle.std.specs.Char.{is_ascii_control}
use Rattle.std.specs.List.{AllByRecursion, flat_map, list_any}
use Rattle.std.specs.Str.Lossy.{utf8_valid_len}
use Rattle.std.proofs.lemmas.Bool.{cases_Bool, and_parts, eqb-false, not-true}
use Rattle.gp_base.specs.Cells.{is_user_text}
use Rattle.gp_base.specs.UserCells.{is_user_cell}
use Rattle.gp_base.specs.Names.{is_name}
use Rattle.gp_base.specs.declared.cell.Cell.{Cell}
use Rattle.gp_base.specs.declared.cell.Cell.TheVariants as cell
use Rattle.gp_base.specs.declared.name.TheConstants.{MAX_NAME_LENGTH}
use Rattle.gp_base.specs.declared.table.Column.{Column}
use Rattle.gp_base.specs.declared.table.Kind.{Kind}
use Rattle.gp_base.specs.declared.table.Kind.TheVariants as kind
use Rattle.gp_base.specs.declared.table.Table.{Table}
use Rattle.gp_base.specs.declared.text.TheConstants.{MAX_TEXT_LENGTH}
use Rattle.gp_dumpline.proofs.QuotedUtf8.{valid-utf8}
use Rattle.gp_lexer.specs.declared.gap.Gap.{Gap}
use Rattle.gp_lexer.specs.declared.gap.Gap.TheVariants.{Start}
use Rattle.gp_lexer.specs.declared.lexeme.Symbol.TheVariants as s
use Rattle.gp_lexer.specs.declared.lexeme.Lexeme.{Lexeme}
use Rattle.gp_lexer.specs.declared.lexeme.Lexeme.TheVariants.{Symbol as Sign, Word, Number, Big, Text}
use Rattle.gp_lexer.specs.Layout.{empty_page, has_space, laid_out, next_gap, spaced}
use Rattle.gp_lexer.specs.Lexemes.{spelled, symbol_text}
use Rattle.gp_lexer.specs.ProperLexemes.{AreProper, HasUtf8Text, HaveUtf8Texts, IsProper}
use Rattle.gp_lexer.proofs.LayoutLemmas.{added, written-added}
use Rattle.gp_lexer.proofs.SpellingLemmas.{name-parts}
use Rattle.gp_grammar.specs.declared.limits.TheConstants.{MAX_COLUMNS, MAX_LINE_LENGTH, MAX_VALUES}
use Rattle.gp_grammar.specs.Canonical.{cell_lexemes, column_definition_lexemes, command_lexemes, kind_lexeme, listed_lexemes, tuple_lexemes}
use Rattle.gp_grammar.specs.CommandGrammar as g
use Rattle.gp_grammar.specs.CommandGrammar.{IsColumn, IsList, IsLiteral, IsTuple, comma}
use Rattle.gp_grammar.specs.Syntax as y
use Rattle.gp_grammar.specs.Syntax.{Command, Lexemes}
use Rattle.gp_csv.specs.Scripts.{session_line}
use Rattle.gp_base.proofs.SmallLemmas.{each_append}
use Rattle.gp_load.proofs.ReadLemmas.{IsReadable}

abbrev pub IsSome : {A : Type 0} → List A → Type 0
IsSome [] = ⊥
IsSome (x ∷ xs) = Unit {0}

-- ---- lists

module _ {A : Type 0} (Is : Lexemes → A → Type 0) (lexemes : A → Lexemes) (P : A → Type 0) (one : (x : A) → P x → Is (lexemes x) x) where
  more-derived : (a : Lexemes) (xs others : List A) → IsList comma Is a xs → AllByRecursion P others → IsList comma Is (a ++ flat_map (λ z. comma ++ lexemes z) others) (xs ++ others)
  more-derived a xs [] is all = subst (λ (b : Lexemes). IsList comma Is b (xs ++ [])) (sym (append-nil a)) (subst (IsList comma Is a) (sym (append-nil xs)) is)
  more-derived a xs (z ∷ others) is all =
      subst (λ (b : Lexemes). IsList comma Is b (xs ++ (z ∷ others))) (append_assoc a (comma ++ lexemes z) (flat_map (λ z. comma ++ lexemes z) others))
      (subst (IsList comma Is ((a ++ (comma ++ lexemes z)) ++ flat_map (λ z. comma ++ lexemes z) others)) (append_assoc xs (z ∷ []) others)
      (more-derived (a ++ (comma ++ lexemes z)) (xs ++ z ∷ []) others (g.more a (lexemes z) xs z is (one z all.0)) all.1))

  list-derived : (xs : List A) → IsSome xs → AllByRecursion P xs → IsList comma Is (listed_lexemes lexemes xs) xs
  list-derived [] some all = absurd some
  list-derived (x ∷ xs) some all = more-derived (lexemes x) (x ∷ []) xs (g.one (lexemes x) x (one x all.0)) all.1

-- ---- parts of commands

abbrev pub IsUser : Cell → Type 0
IsUser c = is_user_cell c ≡ true

negative-by : (n : ℕ) (b : Bool) → eqb (suc n) (2 ^ 63) ≡ b → IsLiteral (Sign s.Minus ∷ cond b Big (Number (suc n)) ∷ []) (cell.Int (negsuc n))
negative-by n false e = g.negative n
negative-by n true e =
    let same : suc n ≡ 2 ^ 63 = eqb-true (suc n) (2 ^ 63) e in
    let least : 2 ^ 63 - 1 ≡ n = omega (arith, same) in
    subst (λ (m : ℕ). IsLiteral (Sign s.Minus ∷ Big ∷ []) (cell.Int (negsuc m))) least g.least

literal-derived : (c : Cell) → IsUser c → IsLiteral (cell_lexemes c) c
literal-derived cell.Null e = g.null
literal-derived (cell.Int (pos n)) e = g.number n
literal-derived (cell.Int (negsuc n)) e = negative-by n (eqb (suc n) (2 ^ 63)) refl
literal-derived (cell.Text bytes) e = g.text bytes
literal-derived (cell.Id id) e = absurd cc
literal-derived (cell.Mark mark) e = absurd cc
literal-derived (cell.Mono monomial) e = absurd cc

-- a row that a VALUES can have
pub record IsUserRow (row : List Cell) : Type 0 where
  pub some : IsSome row
  pub cells : AllByRecursion IsUser row

tuple-derived : (row : List Cell) → IsUserRow row → IsTuple (tuple_lexemes row) row
tuple-derived row h = g.tuple (listed_lexemes cell_lexemes row) row (list-derived IsLiteral cell_lexemes IsUser literal-derived row h.some h.cells)

kind-derived : (name : List ℕ) (k : Kind) → IsColumn (Word name ∷ kind_lexeme k ∷ []) (record { name = name; kind = k })
kind-derived name kind.Int = g.int_column name
kind-derived name kind.Text = g.text_column name

abbrev pub IsNamed : Column → Type 0
IsNamed column = is_name column.name ≡ true

column-derived : (column : Column) → IsNamed column → IsColumn (column_definition_lexemes column) column
column-derived column e = kind-derived column.name column.kind

-- ---- lexemes that a line can hold, with texts in UTF-8

abbrev IsUsual : Lexeme → Type 0
IsUsual t = IsProper t × HasUtf8Text t

abbrev AreUsual : Lexemes → Type 0
AreUsual ls = AllByRecursion IsUsual ls

others-usual : {A : Type 0} (lexemes : A → Lexemes) (P : A → Type 0) → ((x : A) → P x → AreUsual (lexemes x)) → (xs : List A) → AllByRecursion P xs → AreUsual (flat_map (λ z. comma ++ lexemes z) xs)
others-usual lexemes P one [] all = tt
others-usual lexemes P one (x ∷ xs) all = ((tt, tt), each_append IsUsual (lexemes x) (flat_map (λ z. comma ++ lexemes z) xs) (one x all.0) (others-usual lexemes P one xs all.1))

list-usual : {A : Type 0} (lexemes : A → Lexemes) (P : A → Type 0) → ((x : A) → P x → AreUsual (lexemes x)) → (xs : List A) → AllByRecursion P xs → AreUsual (listed_lexemes lexemes xs)
list-usual lexemes P one [] all = tt
list-usual lexemes P one (x ∷ xs) all = each_append IsUsual (lexemes x) (flat_map (λ z. comma ++ lexemes z) xs) (one x all.0) (others-usual lexemes P one xs all.1)

bracketed-usual : (ls : Lexemes) → AreUsual ls → AreUsual (Sign s.Open ∷ (ls ++ (Sign s.Close ∷ [])))
bracketed-usual ls all = ((tt, tt), each_append IsUsual ls (Sign s.Close ∷ []) all ((tt, tt), tt))

negative-usual : (n : ℕ) → n < 2 ^ 63 → (b : Bool) → eqb (suc n) (2 ^ 63) ≡ b → AreUsual (Sign s.Minus ∷ cond b Big (Number (suc n)) ∷ [])
negative-usual n fits true e = ((tt, tt), ((tt, tt), tt))
negative-usual n fits false e = ((tt, tt), ((let other = eqb-false (suc n) (2 ^ 63) e in lower n fits other, tt), tt))
  where
    lower : (n : ℕ) → n < 2 ^ 63 → (suc n ≡ 2 ^ 63 → ⊥) → suc n < 2 ^ 63
    lower n fits other = elim (cases_Bool (ltb (suc n) (2 ^ 63))) [
      | inl less ↦ ltb-true (suc n) (2 ^ 63) less
      | inr more ↦ let large : 2 ^ 63 ≤ suc n = ltb-false (suc n) (2 ^ 63) more in absurd (other (omega (arith, fits, large)))
    ]

text-usual : (bytes : List ℕ) → is_user_text bytes ≡ true → IsUsual (Text bytes)
text-usual bytes e =
    let a = and_parts (eqb (utf8_valid_len bytes) (length bytes)) (leb (length bytes) MAX_TEXT_LENGTH && not (list_any is_ascii_control bytes)) e in
    let b = and_parts (leb (length bytes) MAX_TEXT_LENGTH) (not (list_any is_ascii_control bytes)) a.1 in
    ((leb-true (length bytes) MAX_TEXT_LENGTH b.0, not-true (list_any is_ascii_control bytes) b.1), valid-utf8 bytes (eqb-true (utf8_valid_len bytes) (length bytes) a.0))

cell-usual : (c : Cell) → IsUser c → AreUsual (cell_lexemes c)
cell-usual cell.Null e = ((tt, tt), tt)
cell-usual (cell.Int (pos n)) e = ((ltb-true n (2 ^ 63) e, tt), tt)
cell-usual (cell.Int (negsuc n)) e =
    let p : n ≤ 2 ^ 63 - 1 = leb-true n (2 ^ 63 - 1) (and_parts (leb n (2 ^ 63 - 1)) true e).0 in
    negative-usual n (omega (arith, p)) (eqb (suc n) (2 ^ 63)) refl
cell-usual (cell.Text bytes) e = (text-usual bytes e, tt)
cell-usual (cell.Id id) e = absurd cc
cell-usual (cell.Mark mark) e = absurd cc
cell-usual (cell.Mono monomial) e = absurd cc

tuple-usual : (row : List Cell) → IsUserRow row → AreUsual (tuple_lexemes row)
tuple-usual row h = bracketed-usual (listed_lexemes cell_lexemes row) (list-usual cell_lexemes IsUser cell-usual row h.cells)

column-usual : (column : Column) → IsNamed column → AreUsual (column_definition_lexemes column)
column-usual column e = ((e, tt), (by column.kind, tt))
  where
    by : (k : Kind) → IsUsual (kind_lexeme k)
    by kind.Int = (tt, tt)
    by kind.Text = (tt, tt)

insert-usual : (name : List ℕ) (rows : List (List Cell)) → is_name name ≡ true → AllByRecursion IsUserRow rows → AreUsual (command_lexemes (y.insert name rows))
insert-usual name rows named all = ((tt, tt), ((tt, tt), ((named, tt), ((tt, tt), list-usual tuple_lexemes IsUserRow tuple-usual rows all))))

create-usual : (table : Table) → is_name table.name ≡ true → AllByRecursion IsNamed table.cols → AreUsual (command_lexemes (y.create table))
create-usual table named all =
    ((tt, tt), ((tt, tt), ((named, tt), bracketed-usual (listed_lexemes column_definition_lexemes table.cols) (list-usual column_definition_lexemes IsNamed column-usual table.cols all))))

proper-all : (ls : Lexemes) → AreUsual ls → AreProper ls
proper-all [] all = tt
proper-all (t ∷ ls) all = (all.0.0, proper-all ls all.1)

utf8-all : (ls : Lexemes) → AreUsual ls → HaveUtf8Texts ls
utf8-all [] all = tt
utf8-all (t ∷ ls) all = (all.0.1, utf8-all ls all.1)

-- ---- INSERT

pub insert-readable : (name : List ℕ) (rows : List (List Cell)) → is_name name ≡ true → IsSome rows → AllByRecursion IsUserRow rows → length rows ≤ MAX_VALUES
    → length (session_line (y.insert name rows)) ≤ MAX_LINE_LENGTH → IsReadable (y.insert name rows)
insert-readable name rows named some all few short = record {
  laid = refl;
  again = record {
    derived = g.insert name (listed_lexemes tuple_lexemes rows) rows (list-derived IsTuple tuple_lexemes IsUserRow tuple-derived rows some all);
    within = let fits : ltb MAX_VALUES (length rows) ≡ false = le-ltb MAX_VALUES (length rows) few in rw fits refl;
    are = proper-all (command_lexemes (y.insert name rows)) (insert-usual name rows named all);
    texts = utf8-all (command_lexemes (y.insert name rows)) (insert-usual name rows named all);
  };
  short = short;
}

-- ---- the length of CREATE TABLE

-- a bound on the length of the lexemes in a line, each with a space before it
abbrev size : Lexemes → ℕ
size [] = 0
size (t ∷ ls) = suc (length (spelled t)) + size ls

size-append : (a b : Lexemes) → size (a ++ b) ≡ size a + size b
size-append [] b = omega arith
size-append (t ∷ a) b = let e = size-append a b in omega (arith, e)

spaced-length : (space : Bool) (text : List ℕ) → length (spaced space text) ≤ suc (length text)
spaced-length true text = omega arith
spaced-length false text = omega arith

added-length : (gap : Gap) (ls : Lexemes) → length (added gap ls) ≤ size ls
added-length gap [] = omega arith
added-length gap (t ∷ ls) =
    let e : length (spaced (has_space gap t) (spelled t) ++ added (next_gap gap t) ls) ≡ length (spaced (has_space gap t) (spelled t)) + length (added (next_gap gap t) ls) =
    length-append (spaced (has_space gap t) (spelled t)) (added (next_gap gap t) ls) in
    let one = spaced-length (has_space gap t) (spelled t) in
    let rest = added-length (next_gap gap t) ls in
    omega (arith, e, one, rest)

laid_out-length : (ls : Lexemes) → length (laid_out ls) ≤ size ls
laid_out-length ls = subst (λ (text : List ℕ). length text ≤ size ls) (sym (written-added empty_page ls)) (added-length Start ls)

name-short : (name : List ℕ) → is_name name ≡ true → length name ≤ MAX_NAME_LENGTH
name-short [] e = omega arith
name-short (b ∷ bytes) e = leb-true (length (b ∷ bytes)) MAX_NAME_LENGTH (name-parts b bytes e).short

kind-size : (k : Kind) → size (kind_lexeme k ∷ []) ≤ 5
unfolding symbol_text
kind-size kind.Int = omega arith
kind-size kind.Text = omega arith

column-size : (column : Column) → IsNamed column → size (column_definition_lexemes column) ≤ 36
column-size column e = let a = name-short column.name e in let b = kind-size column.kind in omega (arith, a, b)

comma-size : size comma ≡ 2
unfolding symbol_text
comma-size = refl

others-size : (columns : List Column) → AllByRecursion IsNamed columns → size (flat_map (λ z. comma ++ column_definition_lexemes z) columns) ≤ 38 * length columns
others-size [] all = omega arith
others-size (column ∷ columns) all =
    let a = column-size column all.0 in
    let b = others-size columns all.1 in
    let c = comma-size in
    let d = size-append (comma ++ column_definition_lexemes column) (flat_map (λ z. comma ++ column_definition_lexemes z) columns) in
    let e = size-append comma (column_definition_lexemes column) in
    omega (arith, a, b, c, d, e)

columns-size : (columns : List Column) → AllByRecursion IsNamed columns → size (listed_lexemes column_definition_lexemes columns) ≤ 38 * length columns
columns-size [] all = omega arith
columns-size (column ∷ columns) all =
    let a = column-size column all.0 in
    let b = others-size columns all.1 in
    let d = size-append (column_definition_lexemes column) (flat_map (λ z. comma ++ column_definition_lexemes z) columns) in
    omega (arith, a, b, d)

signs-size : (size (Sign s.Create ∷ Sign s.Table ∷ []) ≡ 13) × ((size (Sign s.Open ∷ []) ≡ 2) × (size (Sign s.Close ∷ []) ≡ 2))
unfolding symbol_text
signs-size = (refl, (refl, refl))

create-short : (table : Table) → is_name table.name ≡ true → AllByRecursion IsNamed table.cols → length table.cols ≤ MAX_COLUMNS → length (session_line (y.create table)) ≤ MAX_LINE_LENGTH
create-short table named all few =
    let columns : Lexemes = listed_lexemes column_definition_lexemes table.cols in
    let a = laid_out-length (command_lexemes (y.create table)) in
    let b = columns-size table.cols all in
    let c = size-append columns (Sign s.Close ∷ []) in
    let d = signs-size.0 in
    let e = signs-size.1.0 in
    let f = signs-size.1.1 in
    let n = name-short table.name named in
    omega (arith, a, b, c, d, e, f, n, few)

pub create-readable : (table : Table) → is_name table.name ≡ true → IsSome table.cols → AllByRecursion IsNamed table.cols → length table.cols ≤ MAX_COLUMNS → IsReadable (y.create table)
create-readable table named some all few = record {
  laid = refl;
  again = record {
    derived = g.create table.name (listed_lexemes column_definition_lexemes table.cols) table.cols (list-derived IsColumn column_definition_lexemes IsNamed column-derived table.cols some all);
    within = let fits : ltb MAX_COLUMNS (length table.cols) ≡ false = le-ltb MAX_COLUMNS (length table.cols) few in rw fits refl;
    are = proper-all (command_lexemes (y.create table)) (create-usual table named all);
    texts = utf8-all (command_lexemes (y.create table)) (create-usual table named all);
  };
  short = create-short table named all few;
}

-- ---- the other lines

pub begin-readable : IsReadable (y.begin false)
unfolding symbol_text
begin-readable = record { laid = refl; again = record { derived = g.begin; within = refl; are = (tt, tt); texts = (tt, tt) }; short = let a = laid_out-length (command_lexemes (y.begin false)) in omega (arith, a) }

pub begin-short : length (session_line (y.begin false)) ≤ 20
unfolding symbol_text
begin-short = let a = laid_out-length (command_lexemes (y.begin false)) in omega (arith, a)

pub commit-short : length (session_line y.Command.commit) ≤ 20
unfolding symbol_text
commit-short = let a = laid_out-length (command_lexemes y.Command.commit) in omega (arith, a)

pub commit-readable : IsReadable y.Command.commit
unfolding symbol_text
commit-readable = record { laid = refl; again = record { derived = g.commit; within = refl; are = (tt, tt); texts = (tt, tt) }; short = let a = laid_out-length (command_lexemes y.Command.commit) in omega (arith, a) }
