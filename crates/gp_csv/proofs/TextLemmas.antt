-- The canonical text of an INSERT of rows, from the texts of its rows.
use Rattle.std.proofs.Common.{◌≡◌, ℕ, suc, pos, negsuc, ◌^◌, Bool, true, false, cond, eqb, List, [], ◌∷◌, ◌++◌, refl, sym, ap, ◌∙◌, append_assoc, append-nil}
use Rattle.std.specs.Prelude.{codes}
use Rattle.std.proofs.lemmas.Grind.{flat_map-append}
use Rattle.std.specs.Fmt.{decimal, digits}
use Rattle.std.specs.List.{flat_map, concat}
use Rattle.std.proofs.lemmas.Bool.{eqb-true}
use Rattle.gp_base.specs.CellForms.{IsPlain, ArePlain}
use Rattle.gp_base.specs.Texts.{cell_text, row_text}
use Rattle.gp_base.specs.declared.cell.Cell.{Cell}
use Rattle.gp_base.specs.declared.cell.Cell.TheVariants as cell
use Rattle.gp_lexer.specs.declared.lexeme.Symbol.TheVariants as s
use Rattle.gp_lexer.specs.declared.lexeme.Lexeme.TheVariants.{Symbol as Sign, Number, Big}
use Rattle.gp_lexer.specs.declared.gap.Gap.{Gap}
use Rattle.gp_lexer.specs.declared.gap.Gap.TheVariants.{Start, AfterComma, Joined, Spaced}
use Rattle.gp_lexer.specs.Layout.{Page, put, written, empty_page}
use Rattle.gp_lexer.specs.Lexemes.{symbol_text}
use Rattle.gp_grammar.specs.Syntax.{Lexemes, Command, begin, insert}
use Rattle.gp_csv.specs.Packing.{tuple_text, insert_text}
use Rattle.gp_csv.specs.Scripts.{session_line, ended_line}
use Rattle.gp_csv.specs.SheetForms.{ArePlainRows}
use Rattle.gp_grammar.specs.Canonical.{cell_lexemes, tuple_lexemes, listed_lexemes, command_lexemes}
use Rattle.gp_syntax.proofs.CanonicalLemmas.{written-append}

abbrev page : List ℕ → Gap → Page
page text gap = record { text = text; gap = gap }

big-text : (text : List ℕ) (n : ℕ) → n ≡ 2 ^ 63 → put (page text Joined) Big ≡ page (text ++ decimal n) Spaced
unfolding digits
big-text text n same = ap (λ (m : ℕ). page (text ++ decimal m) Spaced) (sym same)

-- the greatest magnitude is spelled as a number
big-number : (text : List ℕ) (n : ℕ) (b : Bool) → eqb n (2 ^ 63) ≡ b → put (page text Joined) (cond b Big (Number n)) ≡ page (text ++ decimal n) Spaced
big-number text n true e = big-text text n (eqb-true n (2 ^ 63) e)
big-number text n false e = refl

minus-number : (text : List ℕ) (n : ℕ) → put (page (text ++ codes "-") Joined) (cond (eqb n (2 ^ 63)) Big (Number n)) ≡ page (text ++ (codes "-" ++ decimal n)) Spaced
minus-number text n = big-number (text ++ codes "-") n (eqb n (2 ^ 63)) refl ∙ ap (λ (t : List ℕ). page t Spaced) (append_assoc text (codes "-") (decimal n))

minus-spaced : (text : List ℕ) (n : ℕ) → put (page (text ++ (32 ∷ codes "-")) Joined) (cond (eqb n (2 ^ 63)) Big (Number n)) ≡ page (text ++ (32 ∷ (codes "-" ++ decimal n))) Spaced
minus-spaced text n = big-number (text ++ (32 ∷ codes "-")) n (eqb n (2 ^ 63)) refl ∙ ap (λ (t : List ℕ). page t Spaced) (append_assoc text (32 ∷ codes "-") (decimal n))

-- a cell after a bracket, and after a comma
cell-first : (text : List ℕ) (c : Cell) → IsPlain c → written (page text Start) (cell_lexemes c) ≡ page (text ++ cell_text c) Spaced
unfolding written symbol_text
cell-first text cell.Null plain = refl
cell-first text (cell.Int (pos n)) plain = refl
cell-first text (cell.Int (negsuc n)) plain = minus-number text (suc n)
cell-first text (cell.Text bytes) plain = refl
cell-first text (cell.Id id) plain = absurd plain
cell-first text (cell.Mark mark) plain = absurd plain
cell-first text (cell.Mono monomial) plain = absurd plain

cell-other : (text : List ℕ) (c : Cell) → IsPlain c → written (page text AfterComma) (cell_lexemes c) ≡ page (text ++ (32 ∷ cell_text c)) Spaced
unfolding written symbol_text
cell-other text cell.Null plain = refl
cell-other text (cell.Int (pos n)) plain = refl
cell-other text (cell.Int (negsuc n)) plain = minus-spaced text (suc n)
cell-other text (cell.Text bytes) plain = refl
cell-other text (cell.Id id) plain = absurd plain
cell-other text (cell.Mark mark) plain = absurd plain
cell-other text (cell.Mono monomial) plain = absurd plain

-- ---- the cells of a row

abbrev comma_cells : List Cell → Lexemes
comma_cells cells = flat_map (λ (y : Cell). (Sign s.Comma ∷ []) ++ cell_lexemes y) cells

abbrev other_texts : List Cell → List ℕ
other_texts cells = flat_map (λ (y : Cell). codes ", " ++ cell_text y) cells

cells-other : (text : List ℕ) (cells : List Cell) → ArePlain cells → written (page text Spaced) (comma_cells cells) ≡ page (text ++ other_texts cells) Spaced
unfolding written symbol_text
cells-other text [] plain = ap (λ (t : List ℕ). page t Spaced) (sym (append-nil text))
cells-other text (c ∷ cells) plain =
    written-append (page (text ++ codes ",") AfterComma) (cell_lexemes c) (comma_cells cells)
    ∙ ap (λ (p : Page). written p (comma_cells cells)) (cell-other (text ++ codes ",") c plain.0)
    ∙ cells-other ((text ++ codes ",") ++ (32 ∷ cell_text c)) cells plain.1
    ∙ ap (λ (t : List ℕ). page t Spaced)
    (ap (λ (t : List ℕ). t ++ other_texts cells) (append_assoc text (codes ",") (32 ∷ cell_text c))
    ∙ append_assoc text (codes ", " ++ cell_text c) (other_texts cells))

-- a row after its open bracket, and its closing one
cells-closed : (text : List ℕ) (cells : List Cell) → ArePlain cells → written (page text Start) (listed_lexemes cell_lexemes cells ++ (Sign s.Close ∷ [])) ≡ page (text ++ (row_text cells ++ codes ")")) Spaced
unfolding written symbol_text
cells-closed text [] plain = refl
cells-closed text (c ∷ cells) plain =
    written-append (page text Start) (cell_lexemes c ++ comma_cells cells) (Sign s.Close ∷ [])
    ∙ ap (λ (p : Page). written p (Sign s.Close ∷ []))
    (written-append (page text Start) (cell_lexemes c) (comma_cells cells)
    ∙ ap (λ (p : Page). written p (comma_cells cells)) (cell-first text c plain.0)
    ∙ cells-other (text ++ cell_text c) cells plain.1)
    ∙ ap (λ (t : List ℕ). page t Spaced)
    (ap (λ (t : List ℕ). t ++ codes ")") (append_assoc text (cell_text c) (other_texts cells)) ∙ append_assoc text (cell_text c ++ other_texts cells) (codes ")"))

-- ---- the tuples of an INSERT

opened : (text rest : List ℕ) → (text ++ (32 ∷ codes "(")) ++ (rest ++ codes ")") ≡ text ++ (32 ∷ concat (codes "(" ∷ rest ∷ codes ")" ∷ []))
opened text rest = append_assoc text (32 ∷ codes "(") (rest ++ codes ")")

tuple-first : (text : List ℕ) (row : List Cell) → ArePlain row → written (page text Spaced) (tuple_lexemes row) ≡ page (text ++ (32 ∷ tuple_text row)) Spaced
unfolding written symbol_text
tuple-first text row plain = cells-closed (text ++ (32 ∷ codes "(")) row plain ∙ ap (λ (t : List ℕ). page t Spaced) (opened text (row_text row))

tuple-other : (text : List ℕ) (row : List Cell) → ArePlain row → written (page text AfterComma) (tuple_lexemes row) ≡ page (text ++ (32 ∷ tuple_text row)) Spaced
unfolding written symbol_text
tuple-other text row plain = cells-closed (text ++ (32 ∷ codes "(")) row plain ∙ ap (λ (t : List ℕ). page t Spaced) (opened text (row_text row))

abbrev comma_tuples : List (List Cell) → Lexemes
comma_tuples rows = flat_map (λ (y : List Cell). (Sign s.Comma ∷ []) ++ tuple_lexemes y) rows

-- the further tuples of a line
abbrev pub tuple_texts : List (List Cell) → List ℕ
tuple_texts rows = flat_map (λ (y : List Cell). codes ", " ++ tuple_text y) rows

tuples-other : (text : List ℕ) (rows : List (List Cell)) → ArePlainRows rows → written (page text Spaced) (comma_tuples rows) ≡ page (text ++ tuple_texts rows) Spaced
unfolding written symbol_text
tuples-other text [] plain = ap (λ (t : List ℕ). page t Spaced) (sym (append-nil text))
tuples-other text (row ∷ rows) plain =
    written-append (page (text ++ codes ",") AfterComma) (tuple_lexemes row) (comma_tuples rows)
    ∙ ap (λ (p : Page). written p (comma_tuples rows)) (tuple-other (text ++ codes ",") row plain.0)
    ∙ tuples-other ((text ++ codes ",") ++ (32 ∷ tuple_text row)) rows plain.1
    ∙ ap (λ (t : List ℕ). page t Spaced)
    (ap (λ (t : List ℕ). t ++ tuple_texts rows) (append_assoc text (codes ",") (32 ∷ tuple_text row))
    ∙ append_assoc text (codes ", " ++ tuple_text row) (tuple_texts rows))

abbrev begun_insert : List ℕ → List ℕ
begun_insert name = (codes "INSERT INTO" ++ (32 ∷ name)) ++ codes " VALUES"

insert-page : (name : List ℕ) (row : List Cell) (rows : List (List Cell)) → ArePlain row → ArePlainRows rows
    → written empty_page (command_lexemes (insert name (row ∷ rows))) ≡ page ((begun_insert name ++ (32 ∷ tuple_text row)) ++ tuple_texts rows) Spaced
unfolding written symbol_text
insert-page name row rows plain others =
    written-append (page (begun_insert name) Spaced) (tuple_lexemes row) (comma_tuples rows)
    ∙ ap (λ (p : Page). written p (comma_tuples rows)) (tuple-first (begun_insert name) row plain)
    ∙ tuples-other (begun_insert name ++ (32 ∷ tuple_text row)) rows others

insert-parts : (name row rows : List ℕ) → codes "s1: " ++ ((begun_insert name ++ (32 ∷ row)) ++ rows) ≡ concat (codes "s1: INSERT INTO " ∷ name ∷ codes " VALUES " ∷ []) ++ (row ++ rows)
insert-parts name row rows =
    ap (λ (t : List ℕ). codes "s1: " ++ t) (append_assoc (begun_insert name) (32 ∷ row) rows ∙ append_assoc (codes "INSERT INTO" ++ (32 ∷ name)) (codes " VALUES") (32 ∷ (row ++ rows)) ∙ append_assoc (codes "INSERT INTO") (32 ∷ name) (codes " VALUES " ++ (row ++ rows)))
    ∙ sym (append_assoc (codes "s1: INSERT INTO ") (name ++ codes " VALUES ") (row ++ rows) ∙ ap (λ (t : List ℕ). codes "s1: INSERT INTO " ++ t) (append_assoc name (codes " VALUES ") (row ++ rows)))

-- the line of an INSERT, from the texts of its rows
pub line-text : (name : List ℕ) (row : List Cell) (rows : List (List Cell)) → ArePlain row → ArePlainRows rows
    → session_line (insert name (row ∷ rows)) ≡ insert_text name ++ (tuple_text row ++ tuple_texts rows)
line-text name row rows plain others =
    ap (λ (p : Page). codes "s1: " ++ p.text) (insert-page name row rows plain others) ∙ insert-parts name (tuple_text row) (tuple_texts rows)

-- a line of one row
pub line-one : (name : List ℕ) (row : List Cell) → ArePlain row → session_line (insert name (row ∷ [])) ≡ insert_text name ++ tuple_text row
line-one name row plain = line-text name row [] plain tt ∙ ap (λ (t : List ℕ). insert_text name ++ t) (append-nil (tuple_text row))

all-more : (rows : List (List Cell)) (row : List Cell) → ArePlainRows rows → ArePlain row → ArePlainRows (rows ++ row ∷ [])
all-more [] row plain last = (last, tt)
all-more (first ∷ rows) row plain last = (plain.0, all-more rows row plain.1 last)

-- and of one row more
pub line-more : (name : List ℕ) (first : List Cell) (rows : List (List Cell)) (row : List Cell) → ArePlain first → ArePlainRows rows → ArePlain row
    → session_line (insert name (first ∷ (rows ++ row ∷ []))) ≡ session_line (insert name (first ∷ rows)) ++ concat (codes ", " ∷ tuple_text row ∷ [])
line-more name first rows row plain others last =
    line-text name first (rows ++ row ∷ []) plain (all-more rows row others last)
    ∙ ap (λ (t : List ℕ). insert_text name ++ (tuple_text first ++ t)) (flat_map-append (λ (y : List Cell). codes ", " ++ tuple_text y) rows (row ∷ []))
    ∙ sym (ap (λ (t : List ℕ). t ++ concat (codes ", " ∷ tuple_text row ∷ [])) (line-text name first rows plain others)
    ∙ append_assoc (insert_text name) (tuple_text first ++ tuple_texts rows) (concat (codes ", " ∷ tuple_text row ∷ []))
    ∙ ap (λ (t : List ℕ). insert_text name ++ t) (append_assoc (tuple_text first) (tuple_texts rows) (concat (codes ", " ∷ tuple_text row ∷ []))))

pub all_more : (rows : List (List Cell)) (row : List Cell) → ArePlainRows rows → ArePlain row → ArePlainRows (rows ++ row ∷ [])
all_more rows row plain last = all-more rows row plain last

-- ---- the other lines

pub commit-line : ended_line Command.commit ≡ codes "s1: COMMIT\n"
unfolding written symbol_text
commit-line = refl

pub begin-line : ended_line (begin false) ≡ codes "s1: BEGIN\n"
unfolding written symbol_text
begin-line = refl
