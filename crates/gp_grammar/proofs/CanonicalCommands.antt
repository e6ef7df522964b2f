-- The grammar derives a command from its canonical lexemes.
use Rattle.gp_grammar.proofs.Prelude.{◌≡◌, ℕ, suc, negsuc, Bool, true, false, cond, eqb, List, [], ◌∷◌, ◌++◌, Option, refl, sym, ap, subst, ◌∙◌, arith, append_assoc, ◌^◌, ◌-◌, bytes_eq, flat_map, append-nil, bytes_eq-Decides, Cell, Column, Sign, Word, Number, Big, Lexemes, Bytes, Term, SetTerm, Item, Items, Block, Query, Command, IsTerm, IsList, comma, union_all, IsColumn, IsLiteral, IsTuple, IsItem, IsItems, IsWhere, IsBlock, IsQuery, IsSetTerm, IsCommand, term_lexemes, joined_lexemes, listed_lexemes, column_definition_lexemes, cell_lexemes, tuple_lexemes, item_lexemes, items_lexemes, condition_lexemes, block_lexemes, query_lexemes, set_lexemes, command_lexemes}
use Rattle.std.proofs.lemmas.Bool.{eqb-true}
use Rattle.gp_base.specs.declared.cell.Cell.TheVariants as cell
use Rattle.gp_lexer.specs.declared.lexeme.Symbol.TheVariants as s
use Rattle.gp_grammar.specs.declared.level.Level.TheVariants as l
use Rattle.gp_grammar.specs.Grammar as t
use Rattle.gp_grammar.specs.CommandGrammar as g
use Rattle.gp_grammar.proofs.CanonicalTerms.{lift, canonical-derived}

-- ---- lists

pub IsNonEmpty : {A : Type 0} → List A → Type 0
IsNonEmpty [] = ⊥
IsNonEmpty (x ∷ xs) = Unit {0}

pub snoc-nonempty : {A : Type 0} (xs : List A) (x : A) → IsNonEmpty (xs ++ x ∷ [])
unfolding IsNonEmpty
snoc-nonempty [] x = tt
snoc-nonempty (y ∷ xs) x = tt

pub list-nonempty : {A : Type 0} {separator : Lexemes} {Is : Lexemes → A → Type 0} {a : Lexemes} {xs : List A} → IsList separator Is a xs → IsNonEmpty xs
unfolding IsNonEmpty
list-nonempty (g.one a x i) = tt
list-nonempty (g.more a b xs x i j) = snoc-nonempty xs x

flat_map-snoc : {A : Type 0} (f : A → Lexemes) (xs : List A) (x : A) → flat_map f (xs ++ x ∷ []) ≡ flat_map f xs ++ f x
flat_map-snoc f [] x = append-nil (f x)
flat_map-snoc f (y ∷ xs) x = ap (λ z. f y ++ z) (flat_map-snoc f xs x) ∙ sym (append_assoc (f y) (flat_map f xs) (f x))

pub joined-snoc : {A : Type 0} (separator : Lexemes) (lexemes : A → Lexemes) (xs : List A) (x : A) → IsNonEmpty xs
    → joined_lexemes separator lexemes (xs ++ x ∷ []) ≡ joined_lexemes separator lexemes xs ++ (separator ++ lexemes x)
unfolding IsNonEmpty
joined-snoc separator lexemes [] x h = absurd h
joined-snoc separator lexemes (y ∷ xs) x h =
    ap (λ z. lexemes y ++ z) (flat_map-snoc (λ z. separator ++ lexemes z) xs x)
    ∙ sym (append_assoc (lexemes y) (flat_map (λ z. separator ++ lexemes z) xs) (separator ++ lexemes x))

list-canonical : {A : Type 0} (separator : Lexemes) (Is : Lexemes → A → Type 0) (lexemes : A → Lexemes) → ((a : Lexemes) (x : A) → Is a x → Is (lexemes x) x)
    → {a : Lexemes} {xs : List A} → IsList separator Is a xs → IsList separator Is (joined_lexemes separator lexemes xs) xs
list-canonical separator Is lexemes k (g.one a x i) = rw append-nil (g.one (lexemes x) x (k a x i))
list-canonical separator Is lexemes k (g.more a b xs x i j) =
    let F : Lexemes → Type 0 = λ z. IsList separator Is z (xs ++ x ∷ []) in
    subst F (sym (joined-snoc separator lexemes xs x (list-nonempty i))) (g.more (joined_lexemes separator lexemes xs) (lexemes x) xs x (list-canonical separator Is lexemes k i) (k b x j))

-- ---- parts of commands

column-canonical : (a : Lexemes) (x : Column) → IsColumn a x → IsColumn (column_definition_lexemes x) x
column-canonical _ _ (g.int_column name) = g.int_column name
column-canonical _ _ (g.text_column name) = g.text_column name

-- a number below zero: the greatest of them needs its own lexeme
negative-canonical : (n : ℕ) → IsLiteral (cell_lexemes (cell.Int (negsuc n))) (cell.Int (negsuc n))
negative-canonical n = by (eqb (suc n) (2 ^ 63)) refl
  where
    by : (b : Bool) → eqb (suc n) (2 ^ 63) ≡ b → IsLiteral (Sign s.Minus ∷ cond b Big (Number (suc n)) ∷ []) (cell.Int (negsuc n))
    by false e = g.negative n
    by true e =
        let k : suc n ≡ 2 ^ 63 = eqb-true (suc n) (2 ^ 63) e in
        let m : 2 ^ 63 - 1 ≡ n = omega arith in
        let F : ℕ → Type 0 = λ z. IsLiteral (Sign s.Minus ∷ Big ∷ []) (cell.Int (negsuc z)) in
        subst F m g.least

cell-canonical : (a : Lexemes) (x : Cell) → IsLiteral a x → IsLiteral (cell_lexemes x) x
cell-canonical _ _ g.null = g.null
cell-canonical _ _ (g.text bytes) = g.text bytes
cell-canonical _ _ (g.number n) = g.number n
cell-canonical _ _ g.negative_zero = g.number 0
cell-canonical _ _ (g.negative n) = negative-canonical n
cell-canonical _ _ g.least = g.least

tuple-canonical : (a : Lexemes) (x : List Cell) → IsTuple a x → IsTuple (tuple_lexemes x) x
tuple-canonical _ _ (g.tuple a x i) = g.tuple (listed_lexemes cell_lexemes x) x (list-canonical comma IsLiteral cell_lexemes cell-canonical i)

item-by : (table name : Bytes) (b : Bool) → bytes_eq table name ≡ b → IsItem (cond b (Word table ∷ []) (Word table ∷ Word name ∷ [])) (record { table = table; name = name })
item-by table name true e =
    let k : table ≡ name = (bytes_eq-Decides table name).0 e in
    let F : Bytes → Type 0 = λ z. IsItem (Word table ∷ []) (record { table = table; name = z }) in
    subst F k (g.table table)
item-by table name false e = g.alias table name

item-canonical : (a : Lexemes) (x : Item) → IsItem a x → IsItem (item_lexemes x) x
item-canonical a x i = item-by x.table x.name (bytes_eq x.table x.name) refl

term-canonical : (a : Lexemes) (x : Term) → IsTerm a x → IsTerm (term_lexemes x) x
term-canonical a x i = lift (t.operations l.Disjunction) (term_lexemes x) x (canonical-derived i)

items-canonical : (a : Lexemes) (x : Items) → IsItems a x → IsItems (items_lexemes x) x
items-canonical _ _ g.star = g.star
items-canonical _ _ (g.terms a xs i) = g.terms (listed_lexemes term_lexemes xs) xs (list-canonical comma IsTerm term_lexemes term-canonical i)

condition-canonical : (a : Lexemes) (x : Option Term) → IsWhere a x → IsWhere (condition_lexemes x) x
condition-canonical _ _ g.absent = g.absent
condition-canonical _ _ (g.present a x i) = g.present (term_lexemes x) x (term-canonical a x i)

block-canonical : (a : Lexemes) (x : Block) → IsBlock a x → IsBlock (block_lexemes x) x
block-canonical _ _ (g.block a b w items from cond i j k) =
    g.block (items_lexemes items) (listed_lexemes item_lexemes from) (condition_lexemes cond) items from cond (items-canonical a items i)
    (list-canonical comma IsItem item_lexemes item-canonical j) (condition-canonical w cond k)

query-canonical : (a : Lexemes) (x : Query) → IsQuery a x → IsQuery (query_lexemes x) x
query-canonical a x i = list-canonical union_all IsBlock block_lexemes block-canonical i

set-canonical : (a : Lexemes) (x : SetTerm) → IsSetTerm a x → IsSetTerm (set_lexemes x) x
set-canonical _ _ (g.set_term name a x i) = g.set_term name (term_lexemes x) x (term-canonical a x i)

-- ---- commands

pub command-canonical : (a : Lexemes) (x : Command) → IsCommand a x → IsCommand (command_lexemes x) x
command-canonical _ _ (g.create name a cols i) = g.create name (listed_lexemes column_definition_lexemes cols) cols (list-canonical comma IsColumn column_definition_lexemes column-canonical i)
command-canonical _ _ g.begin = g.begin
command-canonical _ _ g.begin_read_committed = g.begin_read_committed
command-canonical _ _ g.commit = g.commit
command-canonical _ _ g.rollback = g.rollback
command-canonical _ _ (g.insert table a rows i) = g.insert table (listed_lexemes tuple_lexemes rows) rows (list-canonical comma IsTuple tuple_lexemes tuple-canonical i)
command-canonical _ _ (g.insert_select table a x i) = g.insert_select table (query_lexemes x) x (query-canonical a x i)
command-canonical _ _ (g.update table a w sets cond i j) =
    g.update table (listed_lexemes set_lexemes sets) (condition_lexemes cond) sets cond (list-canonical comma IsSetTerm set_lexemes set-canonical i) (condition-canonical w cond j)
command-canonical _ _ (g.delete table w cond i) = g.delete table (condition_lexemes cond) cond (condition-canonical w cond i)
command-canonical _ _ (g.select a x i) = g.select (query_lexemes x) x (query-canonical a x i)
