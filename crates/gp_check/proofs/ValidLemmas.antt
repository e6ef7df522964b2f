-- Commands and questions that were read are valid: their literals are lexemes of a text, their lists are not empty by the grammar, and
-- few by the limits.
use Rattle.std.proofs.Common.{◌≡◌, ◌<◌, ◌≤◌, ◌-◌, ◌^◌, ℕ, suc, pos, negsuc, Bool, true, false, ltb, not, nat_lt, List, [], ◌∷◌, ◌++◌, length, Some, None, Ok, refl, sym, ap, ◌∙◌, arith}
use Rattle.std.specs.Prelude.{codes}
use Rattle.std.specs.Char.{is_ascii_control}
use Rattle.std.specs.List.{AllByRecursion, list_all, list_any}
use Rattle.std.specs.Option.{option_map}
use Rattle.std.specs.Result.{result_ok}
use Rattle.std.specs.Str.{IsUtf8}
use Rattle.std.specs.Str.Lossy.{utf8_valid_len}
use Rattle.std.proofs.lemmas.Bool.{eq-eqb, le-leb, lt-ltb, ltb-false, and_from}
use Rattle.std.proofs.lemmas.List.Folds.{list_all-append}
use Rattle.std.proofs.lemmas.Str.{utf8_valid_len-IsUtf8}
use Rattle.gp_base.specs.declared.cell.Cell.TheVariants as cell
use Rattle.gp_base.specs.declared.table.Table.{Table}
use Rattle.gp_base.specs.declared.text.TheConstants.{MAX_TEXT_LENGTH}
use Rattle.gp_base.specs.Cells.{is_user_text}
use Rattle.gp_base.specs.UserCells.{is_user_cell}
use Rattle.gp_lexer.specs.declared.lexeme.Lexeme.{Lexeme}
use Rattle.gp_lexer.specs.declared.lexeme.Lexeme.TheVariants.{Symbol as Sign, Word}
use Rattle.gp_lexer.specs.declared.lexeme.Symbol.TheVariants as s
use Rattle.gp_lexer.specs.ProperLexemes.{IsProper, AreProper, HasUtf8Text, HaveUtf8Texts}
use Rattle.gp_lexer.specs.LexResults.{lexemes_of}
use Rattle.gp_lexer.proofs.ProperLemmas.{lexemes-proper}
use Rattle.gp_lexer.proofs.Utf8Lemmas.{texts-utf8}
use Rattle.gp_grammar.specs.declared.limits.TheConstants.{MAX_BRANCHES, MAX_VALUES}
use Rattle.gp_grammar.specs.Syntax as y
use Rattle.gp_grammar.specs.Syntax.{Lexemes, Bytes, Term, Query, Command, ScriptLine, LogChange, Side, Question}
use Rattle.gp_grammar.specs.Grammar as t
use Rattle.gp_grammar.specs.Grammar.{Phrase, Derives, IsTerm}
use Rattle.gp_grammar.specs.CommandGrammar as g
use Rattle.gp_grammar.specs.CommandGrammar.{IsList, comma, union_all, IsLiteral, IsTuple, IsItems, IsWhere, IsBlock, IsQuery, IsSetTerm, IsCommand, Closed, IsSessionCommand, IsScriptLine}
use Rattle.gp_grammar.specs.QuestionGrammar as q
use Rattle.gp_grammar.specs.QuestionGrammar.{IsChange, IsChanges, IsSide, IsOpenQuestion, IsQuestion}
use Rattle.gp_grammar.specs.Limits.{Shape, passed_limit, query_shape, command_shape, line_shape, change_shape, both, shape_of_count, commands_shape, changes_shape, side_shape, question_shape}
use Rattle.gp_grammar.specs.LineReading.{HasLexemes, ReadsText, ReadsLine}
use Rattle.gp_grammar.specs.Reading.{command_of, script_line_of, question_of}
use Rattle.gp_grammar.specs.CommandParsing.{command, script_line}
use Rattle.gp_grammar.specs.QuestionParsing.{question}
use Rattle.gp_grammar.specs.Capping.{capped_command, capped_line, capped_question}
use Rattle.gp_grammar.proofs.BothLemmas.{both-within}
use Rattle.gp_grammar.proofs.LineLaws.{texts-read, lines-read}
use Rattle.gp_grammar.proofs.ParserLaws.{lawful-command, lawful-line, lawful-question}
use Rattle.gp_grammar.proofs.ShapeLemmas.{first_limit, of_shape, commands-fair, lines-fair, questions-fair}
use Rattle.gp_algebra.specs.Fitting.{is_countable}
use Rattle.gp_check.specs.Valid.{term_is_valid, condition_is_valid, items_are_valid, block_is_valid, query_is_valid, set_is_valid, is_valid, change_is_valid, changes_are_valid, side_is_valid, question_is_valid, table_is_valid, tables_are_valid}

-- ---- the lexemes of a text

abbrev IsOfText : Lexeme → Type 0
IsOfText lexeme = IsProper lexeme × HasUtf8Text lexeme

abbrev AreOfText : Lexemes → Type 0
AreOfText = AllByRecursion IsOfText

of_text : (lexemes : Lexemes) → AreProper lexemes → HaveUtf8Texts lexemes → AreOfText lexemes
of_text [] proper utf8 = tt
of_text (lexeme ∷ lexemes) proper utf8 = ((proper.0, utf8.0), of_text lexemes proper.1 utf8.1)

lexed-of_text : (bytes : Bytes) (lexemes : Lexemes) (columns : List ℕ) → HasLexemes bytes lexemes columns → AreOfText lexemes
lexed-of_text bytes lexemes columns h =
    let e : lexemes_of bytes ≡ Some lexemes = ap (λ o. option_map (λ found. found.0) (result_ok o)) h.found in
    of_text lexemes (lexemes-proper bytes lexemes e) (texts-utf8 bytes lexemes h.utf8 e)

first : (a b : Lexemes) → AreOfText (a ++ b) → AreOfText a
first [] b h = tt
first (x ∷ a) b h = (h.0, first a b h.1)

second : (a b : Lexemes) → AreOfText (a ++ b) → AreOfText b
second [] b h = h
second (x ∷ a) b h = second a b h.1

inner : (a : Lexemes) → AreOfText (Sign s.Open ∷ (a ++ (Sign s.Close ∷ []))) → AreOfText a
inner a h = first a (Sign s.Close ∷ []) h.1

-- ---- literals

number-valid : (n : ℕ) → n < 2 ^ 63 → is_user_cell (cell.Int (pos n)) ≡ true
number-valid n h = lt-ltb n (2 ^ 63) h

negative-valid : (n : ℕ) → suc n < 2 ^ 63 → is_user_cell (cell.Int (negsuc n)) ≡ true
negative-valid n h = and_from _ _ (le-leb n (2 ^ 63 - 1) (omega (arith, h))) refl

text-valid : (bytes : Bytes) → length bytes ≤ MAX_TEXT_LENGTH → list_any is_ascii_control bytes ≡ false → IsUtf8 bytes → is_user_text bytes ≡ true
text-valid bytes short plain utf8 =
    and_from _ _ (eq-eqb (utf8_valid_len bytes) (length bytes) (utf8_valid_len-IsUtf8 bytes utf8))
    (and_from _ _ (le-leb (length bytes) MAX_TEXT_LENGTH short) (ap not plain))

-- ---- terms

term-valid : {p : Phrase} {a : Lexemes} {x : Term} → Derives p a x → AreOfText a → term_is_valid x ≡ true
term-valid (t.operation at o symbol a b x z e i j) h = and_from _ _ (term-valid i (first a (Sign symbol ∷ b) h)) (term-valid j (second a (Sign symbol ∷ b) h).1)
term-valid (t.one_operand at a x i) h = term-valid i h
term-valid (t.negated a x i) h = term-valid i h.1
term-valid (t.not_negated a x i) h = term-valid i h
term-valid (t.null_test a x i) h = term-valid i (first a (Sign s.Is ∷ Sign s.Null ∷ []) h)
term-valid (t.not_null_test a x i) h = term-valid i (first a (Sign s.Is ∷ Sign s.Not ∷ Sign s.Null ∷ []) h)
term-valid (t.true_test a x i) h = term-valid i (first a (Sign s.Is ∷ Sign s.True ∷ []) h)
term-valid (t.not_true_test a x i) h = term-valid i (first a (Sign s.Is ∷ Sign s.Not ∷ Sign s.True ∷ []) h)
term-valid (t.no_test a x i) h = term-valid i h
term-valid (t.compared o symbol a b x z e i j) h = and_from _ _ (term-valid i (first a (Sign symbol ∷ b) h)) (term-valid j (second a (Sign symbol ∷ b) h).1)
term-valid (t.not_compared a x i) h = term-valid i h
term-valid (t.signed a x i) h = term-valid i h.1
term-valid (t.not_signed a x i) h = term-valid i h
term-valid (t.number n) h = number-valid n h.0.0
term-valid (t.text_literal bytes) h = text-valid bytes h.0.0.0 h.0.0.1 h.0.1
term-valid t.null_literal h = refl
term-valid (t.column name) h = refl
term-valid (t.qualified_column item name) h = refl
term-valid (t.brackets a x i) h = term-valid i (inner a h)
term-valid (t.choice a b c x z w i j k) h =
    let u : AreOfText (b ++ (Sign s.Else ∷ (c ++ (Sign s.End ∷ [])))) = (second a (Sign s.Then ∷ (b ++ (Sign s.Else ∷ (c ++ (Sign s.End ∷ []))))) h.1.1).1 in
    let v : AreOfText (c ++ (Sign s.End ∷ [])) = (second b (Sign s.Else ∷ (c ++ (Sign s.End ∷ []))) u).1 in
    and_from _ _ (term-valid i (first a (Sign s.Then ∷ (b ++ (Sign s.Else ∷ (c ++ (Sign s.End ∷ []))))) h.1.1))
    (and_from _ _ (term-valid j (first b (Sign s.Else ∷ (c ++ (Sign s.End ∷ []))) u)) (term-valid k (first c (Sign s.End ∷ []) v)))

-- ---- lists

-- a phrase of a text has what passes the test
abbrev Valid : {A : Type 0} → (Lexemes → A → Type 0) → (A → Bool) → Type 0
Valid {A} Is test = (a : Lexemes) (x : A) → Is a x → AreOfText a → test x ≡ true

list-valid : {A : Type 0} (separator : Lexemes) (Is : Lexemes → A → Type 0) (test : A → Bool) → Valid Is test
    → {a : Lexemes} {xs : List A} → IsList separator Is a xs → AreOfText a → list_all test xs ≡ true
list-valid separator Is test k (g.one a x i) h = and_from _ _ (k a x i h) refl
list-valid separator Is test k (g.more a b xs x i j) h =
    list_all-append test xs (x ∷ [])
    ∙ and_from _ _ (list-valid separator Is test k i (first a (separator ++ b) h)) (and_from _ _ (k b x j (second separator b (second a (separator ++ b) h))) refl)

snoc-nonempty : {A : Type 0} (xs : List A) (x : A) → nat_lt 0 (length (xs ++ x ∷ [])) ≡ true
snoc-nonempty [] x = refl
snoc-nonempty (z ∷ xs) x = lt-ltb 0 _ (omega arith)

list-nonempty : {A : Type 0} {separator : Lexemes} {Is : Lexemes → A → Type 0} {a : Lexemes} {xs : List A} → IsList separator Is a xs → nat_lt 0 (length xs) ≡ true
list-nonempty (g.one a x i) = refl
list-nonempty (g.more a b xs x i j) = snoc-nonempty xs x

few : (n most : ℕ) → most < 2 ^ 32 → ltb most n ≡ false → nat_lt n (2 ^ 32) ≡ true
few n most small e = let k : n ≤ most = ltb-false most n e in lt-ltb n (2 ^ 32) (omega (arith, k, small))

list-countable : {A : Type 0} {separator : Lexemes} {Is : Lexemes → A → Type 0} {a : Lexemes} {xs : List A} → IsList separator Is a xs
    → (most : ℕ) → most < 2 ^ 32 → ltb most (length xs) ≡ false → is_countable xs ≡ true
list-countable {xs = xs} i most small e = and_from _ _ (list-nonempty i) (few (length xs) most small e)

-- ---- limits

none-passed : (c f b v n d k : Bool) → first_limit c f b v n d k ≡ None → (b ≡ false) × (v ≡ false)
none-passed true f b v n d k e = cc
none-passed false true b v n d k e = cc
none-passed false false true v n d k e = cc
none-passed false false false true n d k e = cc
none-passed false false false false n d k e = (refl, refl)

-- the blocks and the tuples are within their limits
within : (shape : Shape) → passed_limit shape ≡ None → (ltb MAX_BRANCHES shape.branches ≡ false) × (ltb MAX_VALUES shape.values ≡ false)
within shape none = none-passed _ _ _ _ _ _ _ (sym (of_shape shape) ∙ none)

-- ---- commands

literal-valid : Valid IsLiteral is_user_cell
literal-valid _ _ g.null h = refl
literal-valid _ _ (g.text bytes) h = text-valid bytes h.0.0.0 h.0.0.1 h.0.1
literal-valid _ _ (g.number n) h = number-valid n h.0.0
literal-valid _ _ g.negative_zero h = refl
literal-valid _ _ (g.negative n) h = negative-valid n h.1.0.0
literal-valid _ _ g.least h = refl

tuple-valid : Valid IsTuple (list_all is_user_cell)
tuple-valid _ _ (g.tuple a x i) h = list-valid comma IsLiteral is_user_cell literal-valid i (inner a h)

terms-valid : Valid IsTerm term_is_valid
terms-valid a x i h = term-valid i h

items-valid : Valid IsItems items_are_valid
items-valid _ _ g.star h = refl
items-valid _ _ (g.terms a xs i) h = and_from _ _ (list-nonempty i) (list-valid comma IsTerm term_is_valid terms-valid i h)

condition-valid : Valid IsWhere condition_is_valid
condition-valid _ _ g.absent h = refl
condition-valid _ _ (g.present a x i) h = term-valid i h.1

block-valid : Valid IsBlock block_is_valid
block-valid _ _ (g.block a b w items from cond i j k) h =
    let u : AreOfText (b ++ w) = (second a (Sign s.From ∷ (b ++ w)) h.1).1 in
    and_from _ _ (list-nonempty j) (and_from _ _ (items-valid a items i (first a (Sign s.From ∷ (b ++ w)) h.1)) (condition-valid w cond k (second b w u)))

query-valid : (a : Lexemes) (x : Query) → IsQuery a x → AreOfText a → passed_limit (query_shape x) ≡ None → query_is_valid x ≡ true
query-valid a x i h none =
    and_from _ _ (list-countable i MAX_BRANCHES (omega arith) (within (query_shape x) none).0) (list-valid union_all IsBlock block_is_valid block-valid i h)

set-valid : Valid IsSetTerm set_is_valid
set-valid _ _ (g.set_term col a x i) h = term-valid i h.1.1

command-valid : (a : Lexemes) (x : Command) → IsCommand a x → AreOfText a → passed_limit (command_shape x) ≡ None → is_valid x ≡ true
command-valid _ _ (g.create name a cols i) h none = list-nonempty i
command-valid _ _ g.begin h none = refl
command-valid _ _ g.begin_read_committed h none = refl
command-valid _ _ g.commit h none = refl
command-valid _ _ g.rollback h none = refl
command-valid _ _ (g.insert table a rows i) h none =
    and_from _ _ (list-countable i MAX_VALUES (omega arith) (within (command_shape (y.insert table rows)) none).1)
    (list-valid comma IsTuple (list_all is_user_cell) tuple-valid i h.1.1.1.1)
command-valid _ _ (g.insert_select table a x i) h none = query-valid a x i h.1.1.1 none
command-valid _ _ (g.update table a w sets cond i j) h none =
    and_from _ _ (list-valid comma IsSetTerm set_is_valid set-valid i (first a w h.1.1.1)) (condition-valid w cond j (second a w h.1.1.1))
command-valid _ _ (g.delete table w cond i) h none = condition-valid w cond i h.1.1.1
command-valid _ _ (g.select a x i) h none = query-valid a x i h none

line-valid : (a : Lexemes) (x : ScriptLine) → IsSessionCommand a x → AreOfText a → passed_limit (line_shape x) ≡ None → is_valid x.command ≡ true
line-valid _ _ (g.in_session name session a x e i) h none = command-valid a x i h.1.1 none

-- the commands of changes

change-valid : (a : Lexemes) (x : LogChange) → IsChange a x → AreOfText a → passed_limit (change_shape x) ≡ None → change_is_valid x ≡ true
change-valid _ _ (q.drop t k) h none = refl
change-valid _ _ (q.drop_all t) h none = refl
change-valid _ _ (q.replace t k a x i) h none = command-valid a x i.command (inner a h.1.1.1.1) none
change-valid _ _ (q.add t a x i) h none = command-valid a x i.command (inner a h.1.1.1) none

-- changes one by one
AreWithin : List LogChange → Type 0
AreWithin = AllByRecursion (λ change. passed_limit (change_shape change) ≡ None)

each-within : (xs : List LogChange) → passed_limit (commands_shape xs) ≡ None → AreWithin xs
unfolding AreWithin
each-within [] none = tt
each-within (x ∷ xs) none =
    let w : (passed_limit (change_shape x) ≡ None) × (passed_limit (commands_shape xs) ≡ None) = both-within (change_shape x) (commands_shape xs) none in
    (w.0, each-within xs w.1)

last-within : (xs : List LogChange) (x : LogChange) → AreWithin (xs ++ x ∷ []) → AreWithin xs × (passed_limit (change_shape x) ≡ None)
unfolding AreWithin
last-within [] x h = (tt, h.0)
last-within (z ∷ xs) x h = let w : AreWithin xs × (passed_limit (change_shape x) ≡ None) = last-within xs x h.1 in ((h.0, w.0), w.1)

each-valid : {a : Lexemes} {xs : List LogChange} → IsChanges a xs → AreOfText a → AreWithin xs → changes_are_valid xs ≡ true
unfolding AreWithin
each-valid (g.one a x i) h w = and_from _ _ (change-valid a x i h w.0) refl
each-valid (g.more a b xs x i j) h w =
    let own : AreWithin xs × (passed_limit (change_shape x) ≡ None) = last-within xs x w in
    list_all-append change_is_valid xs (x ∷ [])
    ∙ and_from _ _ (each-valid i (first a (comma ++ b) h) own.0) (and_from _ _ (change-valid b x j (second a (comma ++ b) h).1 own.1) refl)

changes-valid : (a : Lexemes) (xs : List LogChange) → IsChanges a xs → AreOfText a → passed_limit (changes_shape xs) ≡ None → changes_are_valid xs ≡ true
changes-valid a xs i h none = each-valid i h (each-within xs (both-within (shape_of_count (length xs)) (commands_shape xs) none).1)

-- the changes of a side
side-valid : (a : Lexemes) (x : Side) → IsSide a x → AreOfText a → passed_limit (side_shape x) ≡ None → side_is_valid x ≡ true
side-valid _ _ (q.as_is a subject i) h none = refl
side-valid _ _ (q.changed a b changes subject i j) h none = changes-valid a changes i (first a (Word (codes "of") ∷ b) h.1) none

question-valid : (a : Lexemes) (x : Question) → IsOpenQuestion a x → AreOfText a → passed_limit (question_shape x) ≡ None → question_is_valid x ≡ true
question-valid _ _ (q.bare a question i) h none = refl
question-valid _ _ (q.history table a cond i) h none = condition-valid a cond i h.1.1.1
question-valid _ _ (q.when a query i) h none = query-valid a query i h.1 none
question-valid _ _ (q.diff a b c x z query i j k) h none =
    let within : (passed_limit (both (side_shape x) (side_shape z)) ≡ None) × (passed_limit (query_shape query) ≡ None) = both-within (both (side_shape x) (side_shape z)) (query_shape query) none in
    let sides : (passed_limit (side_shape x) ≡ None) × (passed_limit (side_shape z) ≡ None) = both-within (side_shape x) (side_shape z) within.0 in
    let behind : AreOfText (b ++ c) = (second a (Word (codes "to") ∷ (b ++ c)) h.1).1 in
    and_from _ _ (and_from _ _ (side-valid a x i (first a (Word (codes "to") ∷ (b ++ c)) h.1) sides.0) (side-valid b z j (first b c behind) sides.1))
    (query-valid c query k (second b c behind) within.1)
question-valid _ _ (q.causes a b subject query i j) h none = query-valid b query j (second a b h.1.1) none
question-valid _ _ (q.ask a b subject query i j) h none = query-valid b query j (second a b h) none
question-valid _ _ (q.what_if a b c changes subject query i j k) h none =
    let within : (passed_limit (changes_shape changes) ≡ None) × (passed_limit (query_shape query) ≡ None) = both-within (changes_shape changes) (query_shape query) none in
    let behind : AreOfText (b ++ c) = (second a (Word (codes "of") ∷ (b ++ c)) h.1).1 in
    and_from _ _ (changes-valid a changes i (first a (Word (codes "of") ∷ (b ++ c)) h.1) within.0) (query-valid c query k (second b c behind) within.1)
question-valid _ _ (q.explain_saw t k a query i) h none = query-valid a query i h.1.1.1.1.1 none

closed-valid : {A : Type 0} (Is : Lexemes → A → Type 0) (shape : A → Shape) (test : A → Bool)
    → ((a : Lexemes) (x : A) → Is a x → AreOfText a → passed_limit (shape x) ≡ None → test x ≡ true)
    → (a : Lexemes) (x : A) → Closed Is a x → AreOfText a → passed_limit (shape x) ≡ None → test x ≡ true
closed-valid Is shape test k _ _ (g.open_end a x i) h none = k a x i h none
closed-valid Is shape test k _ _ (g.semicolon a x i) h none = k a x i (first a (Sign s.Semicolon ∷ []) h) none

-- ---- what was read

pub command-derived : (text : Bytes) (x : Command) → ReadsText IsCommand command_shape text x → is_valid x ≡ true
command-derived text x r = command-valid r.lexemes x r.derived (lexed-of_text text r.lexemes r.columns r.lexical) r.within

pub command-read : (text : Bytes) (x : Command) → command_of text ≡ Ok x → is_valid x ≡ true
command-read text x e = command-derived text x ((texts-read command IsCommand capped_command command_shape lawful-command commands-fair text x).0 e)

pub line-derived : (text : Bytes) (x : ScriptLine) → ReadsLine IsScriptLine line_shape text x → is_valid x.command ≡ true
line-derived text x r =
    closed-valid IsSessionCommand line_shape (λ (x : ScriptLine). is_valid x.command) line-valid r.text.lexemes x r.text.derived
    (lexed-of_text text r.text.lexemes r.text.columns r.text.lexical) r.text.within

pub line-read : (text : Bytes) (x : ScriptLine) → script_line_of text ≡ Ok x → is_valid x.command ≡ true
line-read text x e = line-derived text x ((lines-read script_line IsScriptLine capped_line line_shape lawful-line lines-fair text x).0 e)

pub question-derived : (text : Bytes) (x : Question) → ReadsLine IsQuestion question_shape text x → question_is_valid x ≡ true
question-derived text x r =
    closed-valid IsOpenQuestion question_shape question_is_valid question-valid r.text.lexemes x r.text.derived
    (lexed-of_text text r.text.lexemes r.text.columns r.text.lexical) r.text.within

pub question-read : (text : Bytes) (x : Question) → question_of text ≡ Ok x → question_is_valid x ≡ true
question-read text x e = question-derived text x ((lines-read question IsQuestion capped_question question_shape lawful-question questions-fair text x).0 e)

-- ---- catalogues

pub tables-added : (tables : List Table) (table : Table) → tables_are_valid tables ≡ true → is_valid (y.create table) ≡ true → tables_are_valid (tables ++ table ∷ []) ≡ true
tables-added tables table all one = list_all-append table_is_valid tables (table ∷ []) ∙ and_from _ _ all (and_from _ _ one refl)
