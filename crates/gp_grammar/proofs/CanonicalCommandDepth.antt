-- The canonical lexemes of a command within the limits pass the count of open brackets.
use Rattle.gp_grammar.proofs.Prelude.{◌≡◌, ℕ, suc, pos, negsuc, ◌≤◌, Bool, true, false, cond, ltb, eqb, List, [], ◌∷◌, ◌++◌, map, Option, Some, None, refl, sym, ap, ◌∙◌, arith, ◌^◌, bytes_eq, flat_map, append-nil, ltb-false, or_parts, Cell, Column, Sign, Word, Number, Big, MAX_LEVELS, MAX_OPEN, Lexemes, Bytes, Term, SetTerm, Item, Items, Block, Query, Command, Shape, levels, some_above, passed_limit, terms_of_condition, select_terms, terms_of_query, command_shape, is_too_deep, term_lexemes, joined_lexemes, listed_lexemes, column_definition_lexemes, cell_lexemes, tuple_lexemes, item_lexemes, items_lexemes, condition_lexemes, block_lexemes, query_lexemes, set_lexemes, command_lexemes}
use Rattle.gp_base.specs.declared.cell.Cell.TheVariants as cell
use Rattle.gp_base.specs.declared.table.Kind.{Kind}
use Rattle.gp_base.specs.declared.table.Kind.TheVariants as kind
use Rattle.gp_lexer.specs.declared.lexeme.Symbol.TheVariants as s
use Rattle.gp_grammar.specs.Syntax as syntax
use Rattle.gp_grammar.specs.Canonical.{kind_lexeme}
use Rattle.gp_grammar.proofs.ShapeLemmas.{first_limit, of_shape}
use Rattle.gp_grammar.proofs.CanonicalDepth.{Balanced, both, in-brackets, term-balanced}

-- ---- the terms of a command are shallow

AreShallow : List Term → Type 0
AreShallow [] = Unit {0}
AreShallow (x ∷ xs) = (levels x ≤ MAX_LEVELS) × AreShallow xs

shallow-terms : (xs : List Term) → some_above MAX_LEVELS (map levels xs) ≡ false → AreShallow xs
unfolding AreShallow
shallow-terms [] h = tt
shallow-terms (x ∷ xs) h =
    let w : (ltb MAX_LEVELS (levels x) ≡ false) × (some_above MAX_LEVELS (map levels xs) ≡ false) = or_parts (ltb MAX_LEVELS (levels x)) (some_above MAX_LEVELS (map levels xs)) h in
    (ltb-false MAX_LEVELS (levels x) w.0, shallow-terms xs w.1)

shallow-split : (xs ys : List Term) → AreShallow (xs ++ ys) → AreShallow xs × AreShallow ys
unfolding AreShallow
shallow-split [] ys h = (tt, h)
shallow-split (x ∷ xs) ys h = let w : AreShallow xs × AreShallow ys = shallow-split xs ys h.1 in ((h.0, w.0), w.1)

none-deep : (c f b v n d k : Bool) → first_limit c f b v n d k ≡ None → d ≡ false
none-deep true f b v n d k h = cc
none-deep false true b v n d k h = cc
none-deep false false true v n d k h = cc
none-deep false false false true n d k h = cc
none-deep false false false false true d k h = cc
none-deep false false false false false true k h = cc
none-deep false false false false false false k h = refl

within-shallow : (s : Shape) → passed_limit s ≡ None → AreShallow s.terms
within-shallow s h = shallow-terms s.terms (none-deep _ _ _ _ _ _ _ (sym (of_shape s) ∙ h))

-- ---- balanced lexemes

abbrev Even : Lexemes → Type 0
Even = Balanced MAX_OPEN

even-none : Even []
even-none room rest h = refl

term-even : (x : Term) → levels x ≤ MAX_LEVELS → Even (term_lexemes x)
term-even x h = term-balanced x MAX_OPEN (omega arith)

flat-even : {A : Type 0} (n : ℕ) (f : A → Lexemes) → ((x : A) → Balanced n (f x)) → (xs : List A) → Balanced n (flat_map f xs)
flat-even n f k [] = λ room rest h. refl
flat-even n f k (x ∷ xs) = both n (f x) (flat_map f xs) (k x) (flat-even n f k xs)

list-even : {A : Type 0} (n : ℕ) (separator : Lexemes) (f : A → Lexemes) → Balanced n separator → ((x : A) → Balanced n (f x)) → (xs : List A) → Balanced n (joined_lexemes separator f xs)
list-even n separator f w k [] = λ room rest h. refl
list-even n separator f w k (x ∷ xs) = both n (f x) (flat_map (λ y. separator ++ f y) xs) (k x) (flat-even n (λ y. separator ++ f y) (λ y. both n separator (f y) w (k y)) xs)

comma-balanced : (n : ℕ) → Balanced n (Sign s.Comma ∷ [])
comma-balanced n room rest h = refl

-- lists of terms and of things with terms in them are balanced
terms-flat : (xs : List Term) → AreShallow xs → Even (flat_map (λ y. Sign s.Comma ∷ term_lexemes y) xs)
unfolding AreShallow
terms-flat [] h = even-none
terms-flat (x ∷ xs) h = both MAX_OPEN (Sign s.Comma ∷ term_lexemes x) (flat_map (λ y. Sign s.Comma ∷ term_lexemes y) xs)
    (both MAX_OPEN (Sign s.Comma ∷ []) (term_lexemes x) (comma-balanced MAX_OPEN) (term-even x h.0)) (terms-flat xs h.1)

terms-even : (xs : List Term) → AreShallow xs → Even (listed_lexemes term_lexemes xs)
unfolding AreShallow
terms-even [] h = even-none
terms-even (x ∷ xs) h = both MAX_OPEN (term_lexemes x) (flat_map (λ y. Sign s.Comma ∷ term_lexemes y) xs) (term-even x h.0) (terms-flat xs h.1)

items-even : (x : Items) → AreShallow (select_terms x) → Even (items_lexemes x)
items-even syntax.star h = λ room rest k. refl
items-even (syntax.list xs) h = terms-even xs h

condition-even : (x : Option Term) → AreShallow (terms_of_condition x) → Even (condition_lexemes x)
unfolding AreShallow
condition-even None h = even-none
condition-even (Some x) h = term-even x h.0

item-by : (n : ℕ) (b : Bool) (table name : Bytes) → Balanced n (cond b (Word table ∷ []) (Word table ∷ Word name ∷ []))
item-by n true table name room rest h = refl
item-by n false table name room rest h = refl

item-even : (n : ℕ) (x : Item) → Balanced n (item_lexemes x)
item-even n x = item-by n (bytes_eq x.table x.name) x.table x.name

block-even : (x : Block) → AreShallow (select_terms x.items ++ terms_of_condition x.cond) → Even (block_lexemes x)
block-even x h =
    let w : AreShallow (select_terms x.items) × AreShallow (terms_of_condition x.cond) = shallow-split (select_terms x.items) (terms_of_condition x.cond) h in
    let tail : Even (Sign s.From ∷ (listed_lexemes item_lexemes x.from ++ condition_lexemes x.cond)) =
    both MAX_OPEN (listed_lexemes item_lexemes x.from) (condition_lexemes x.cond) (list-even MAX_OPEN (Sign s.Comma ∷ []) item_lexemes (comma-balanced MAX_OPEN) (item-even MAX_OPEN) x.from)
    (condition-even x.cond w.1) in
    both MAX_OPEN (items_lexemes x.items) (Sign s.From ∷ (listed_lexemes item_lexemes x.from ++ condition_lexemes x.cond)) (items-even x.items w.0) tail

blocks-flat : (q : Query) → AreShallow (terms_of_query q) → Even (flat_map (λ y. Sign s.Union ∷ Sign s.All ∷ block_lexemes y) q)
blocks-flat [] h = even-none
blocks-flat (x ∷ q) h =
    let w : AreShallow (select_terms x.items ++ terms_of_condition x.cond) × AreShallow (terms_of_query q) = shallow-split (select_terms x.items ++ terms_of_condition x.cond) (terms_of_query q) h in
    let b : Even (Sign s.Union ∷ Sign s.All ∷ block_lexemes x) = block-even x w.0 in
    both MAX_OPEN (Sign s.Union ∷ Sign s.All ∷ block_lexemes x) (flat_map (λ y. Sign s.Union ∷ Sign s.All ∷ block_lexemes y) q) b (blocks-flat q w.1)

query-even : (q : Query) → AreShallow (terms_of_query q) → Even (query_lexemes q)
query-even [] h = even-none
query-even (x ∷ q) h =
    let w : AreShallow (select_terms x.items ++ terms_of_condition x.cond) × AreShallow (terms_of_query q) = shallow-split (select_terms x.items ++ terms_of_condition x.cond) (terms_of_query q) h in
    both MAX_OPEN (block_lexemes x) (flat_map (λ y. Sign s.Union ∷ Sign s.All ∷ block_lexemes y) q) (block-even x w.0) (blocks-flat q w.1)

set-even : (x : SetTerm) → levels x.term ≤ MAX_LEVELS → Even (set_lexemes x)
set-even x h room rest k = term-even x.term h room rest k

sets-flat : (xs : List SetTerm) → AreShallow (map (λ (set : SetTerm). set.term) xs) → Even (flat_map (λ y. Sign s.Comma ∷ set_lexemes y) xs)
unfolding AreShallow
sets-flat [] h = even-none
sets-flat (x ∷ xs) h =
    let b : Even (Sign s.Comma ∷ set_lexemes x) = set-even x h.0 in
    both MAX_OPEN (Sign s.Comma ∷ set_lexemes x) (flat_map (λ y. Sign s.Comma ∷ set_lexemes y) xs) b (sets-flat xs h.1)

sets-even : (xs : List SetTerm) → AreShallow (map (λ (set : SetTerm). set.term) xs) → Even (listed_lexemes set_lexemes xs)
unfolding AreShallow
sets-even [] h = even-none
sets-even (x ∷ xs) h = both MAX_OPEN (set_lexemes x) (flat_map (λ y. Sign s.Comma ∷ set_lexemes y) xs) (set-even x h.0) (sets-flat xs h.1)

negative-even : (n : ℕ) (b : Bool) (m : ℕ) → Balanced n (Sign s.Minus ∷ cond b Big (Number m) ∷ [])
negative-even n true m room rest h = refl
negative-even n false m room rest h = refl

cell-even : (n : ℕ) (x : Cell) → Balanced n (cell_lexemes x)
cell-even n cell.Null = λ room rest h. refl
cell-even n (cell.Int (pos m)) = λ room rest h. refl
cell-even n (cell.Int (negsuc m)) = negative-even n (eqb (suc m) (2 ^ 63)) (suc m)
cell-even n (cell.Text bytes) = λ room rest h. refl
cell-even n (cell.Id id) = λ room rest h. refl
cell-even n (cell.Mark mark) = λ room rest h. refl
cell-even n (cell.Mono monomial) = λ room rest h. refl

tuple-even : (n : ℕ) (x : List Cell) → Balanced (suc n) (tuple_lexemes x)
tuple-even n x = in-brackets n (listed_lexemes cell_lexemes x) (list-even n (Sign s.Comma ∷ []) cell_lexemes (comma-balanced n) (cell-even n) x)

column-by : (n : ℕ) (name : Bytes) (k : Kind) → Balanced n (Word name ∷ kind_lexeme k ∷ [])
column-by n name kind.Int room rest h = refl
column-by n name kind.Text room rest h = refl

column-even : (n : ℕ) (x : Column) → Balanced n (column_definition_lexemes x)
column-even n x = column-by n x.name x.kind

command-even : (x : Command) → AreShallow (command_shape x).terms → Even (command_lexemes x)
command-even (syntax.create table) h =
    in-brackets 59 (listed_lexemes column_definition_lexemes table.cols) (list-even 59 (Sign s.Comma ∷ []) column_definition_lexemes (comma-balanced 59) (column-even 59) table.cols)
command-even (syntax.begin false) h = λ room rest k. refl
command-even (syntax.begin true) h = λ room rest k. refl
command-even syntax.Command.commit h = λ room rest k. refl
command-even syntax.rollback h = λ room rest k. refl
command-even (syntax.insert table rows) h = list-even MAX_OPEN (Sign s.Comma ∷ []) tuple_lexemes (comma-balanced MAX_OPEN) (tuple-even 59) rows
command-even (syntax.insert_select table q) h = query-even q h
command-even (syntax.update table sets cond) h =
    let w : AreShallow (map (λ (set : SetTerm). set.term) sets) × AreShallow (terms_of_condition cond) = shallow-split (map (λ (set : SetTerm). set.term) sets) (terms_of_condition cond) h in
    both MAX_OPEN (listed_lexemes set_lexemes sets) (condition_lexemes cond) (sets-even sets w.0) (condition-even cond w.1)
command-even (syntax.delete table cond) h = condition-even cond h
command-even (syntax.select q) h = query-even q h

pub command-shallow : (x : Command) → passed_limit (command_shape x) ≡ None → is_too_deep MAX_OPEN (command_lexemes x) ≡ false
command-shallow x h = ap (is_too_deep MAX_OPEN) (sym (append-nil (command_lexemes x))) ∙ command-even x (within-shallow (command_shape x) h) MAX_OPEN [] (omega arith)
