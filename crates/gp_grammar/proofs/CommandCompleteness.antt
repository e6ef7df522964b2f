-- What the grammar of commands derives is parsed, where nothing after it goes on with it.
use Rattle.gp_grammar.proofs.Prelude.{◌≡◌, ℕ, suc, ◌<◌, true, false, List, [], ◌∷◌, ◌++◌, length, map, Option, Some, None, Ok, Err, refl, sym, ap, subst, arith, ◌∙◌, append_assoc, codes, option_map, append-nil, map-append, Cell, Column, Symbol, Sign, Word, Number, Big, Text, Lexemes, Bytes, Term, SetTerm, Item, Items, Block, Query, Command, is_statement, ScriptLine, capped, capped_set, capped_items, capped_block, capped_command, capped_line, Phrase, Derives, IsTerm, IsList, comma, union_all, IsColumn, IsLiteral, IsTuple, IsItem, IsItems, IsWhere, IsBlock, IsQuery, IsSetTerm, IsCommand, IsStatement, session_of, IsSessionCommand, Closed, Outcome, Parser, ◌>>=◌, by_option, strip, identifier, term, ◌then◌, where_next, accept, strip_word, expect_word, many, push, in_brackets, named, closed}
use Rattle.std.proofs.lemmas.List.{map-id}
use Rattle.gp_lexer.specs.declared.lexeme.Symbol.TheVariants as s
use Rattle.gp_grammar.specs.Syntax as syntax
use Rattle.gp_grammar.specs.Grammar as t
use Rattle.gp_grammar.specs.CommandGrammar as g
use Rattle.gp_grammar.specs.Parsing.{expect}
use Rattle.gp_grammar.specs.CommandParsing as c
use Rattle.gp_grammar.specs.CommandParsing.{separated}
use Rattle.gp_grammar.proofs.Completeness.{term-complete, first_binds}
use Rattle.gp_grammar.proofs.Shrinking.{Below, Shrinks, Keeps, shrinks-keeps, keeps-accept, shrinks-bind, keeps-bind, keeps-next, shrinks-then, shrinks-identifier, shrinks-term, many-none, many-some, shrinks-separated, shrinks-in_brackets}

-- ---- lists

module _ {A : Type 0} (symbol : Symbol) (tail : Lexemes) (Is : Lexemes → A → Type 0) (cap : A → A) (first item : Parser A) (shrinks : Shrinks item)
    (own : (ts : Lexemes) → strip symbol (Sign symbol ∷ ts) ≡ Some ts) (Fits : Lexemes → Type 0) (symbol-fits : (ts : Lexemes) → Fits (Sign symbol ∷ ts))
    (first-complete : (a : Lexemes) (x : A) → Is a x → (rest : Lexemes) → Fits rest → first (a ++ rest) ≡ Ok (cap x, rest))
    (item-complete : (a : Lexemes) (x : A) → Is a x → (rest : Lexemes) → Fits rest → item (tail ++ (a ++ rest)) ≡ Ok (cap x, rest)) where
  abbrev pub list_parser : Parser (List A)
  list_parser ts = first ts >>= (λ r. many (strip symbol) item push (r.0 ∷ []) r.1)

  list-split : (a b rest : Lexemes) → (a ++ (Sign symbol ∷ (tail ++ b))) ++ rest ≡ a ++ (Sign symbol ∷ (tail ++ (b ++ rest)))
  list-split a b rest = append_assoc a (Sign symbol ∷ (tail ++ b)) rest ∙ ap (λ z. a ++ (Sign symbol ∷ z)) (append_assoc tail b rest)

  list-goes-on : {a : Lexemes} {xs : List A} → IsList (Sign symbol ∷ tail) Is a xs → (rest : Lexemes) → Fits rest
      → list_parser (a ++ rest) ≡ many (strip symbol) item push (map cap xs) rest
  list-goes-on (g.one a x i) rest h = ap (λ p. p >>= (λ r. many (strip symbol) item push (r.0 ∷ []) r.1)) (first-complete a x i rest h)
  list-goes-on (g.more a b xs x i j) rest h =
      ap list_parser (list-split a b rest)
      ∙ list-goes-on i (Sign symbol ∷ (tail ++ (b ++ rest))) (symbol-fits (tail ++ (b ++ rest)))
      ∙ many-some symbol item push shrinks (map cap xs) (Sign symbol ∷ (tail ++ (b ++ rest))) (tail ++ (b ++ rest)) (own (tail ++ (b ++ rest)))
      ∙ ap (λ p. p >>= (λ r. many (strip symbol) item push (push (map cap xs) r.0) r.1)) (item-complete b x j rest h)
      ∙ ap (λ z. many (strip symbol) item push z rest) (sym (map-append cap xs (x ∷ [])))

  pub list-complete : (a : Lexemes) (xs : List A) → IsList (Sign symbol ∷ tail) Is a xs → (rest : Lexemes) → Fits rest → strip symbol rest ≡ None
      → list_parser (a ++ rest) ≡ Ok (map cap xs, rest)
  list-complete a xs i rest h n = list-goes-on i rest h ∙ many-none symbol item push shrinks (map cap xs) rest n

pub separated-complete : {A : Type 0} (Is : Lexemes → A → Type 0) (cap : A → A) (item : Parser A) → Shrinks item → (Fits : Lexemes → Type 0)
    → ((ts : Lexemes) → Fits (Sign s.Comma ∷ ts)) → ((a : Lexemes) (x : A) → Is a x → (rest : Lexemes) → Fits rest → item (a ++ rest) ≡ Ok (cap x, rest))
    → (a : Lexemes) (xs : List A) → IsList comma Is a xs → (rest : Lexemes) → Fits rest → strip s.Comma rest ≡ None → separated item (a ++ rest) ≡ Ok (map cap xs, rest)
unfolding separated
separated-complete Is cap item w Fits f each a xs i rest h n =
    list-complete s.Comma [] Is cap item item w (λ ts. refl) Fits f each each a xs i rest h n

-- without terms in them
pub separated-exact : {A : Type 0} (Is : Lexemes → A → Type 0) (item : Parser A) → Shrinks item → (Fits : Lexemes → Type 0)
    → ((ts : Lexemes) → Fits (Sign s.Comma ∷ ts)) → ((a : Lexemes) (x : A) → Is a x → (rest : Lexemes) → Fits rest → item (a ++ rest) ≡ Ok (x, rest))
    → (a : Lexemes) (xs : List A) → IsList comma Is a xs → (rest : Lexemes) → Fits rest → strip s.Comma rest ≡ None → separated item (a ++ rest) ≡ Ok (xs, rest)
separated-exact Is item w Fits f each a xs i rest h n =
    separated-complete Is (λ x. x) item w Fits f each a xs i rest h n ∙ ap (λ z. Ok (z, rest)) (map-id xs)

abbrev Anything : Lexemes → Type 0
Anything ts = Unit {0}

abbrev pub Loose : Lexemes → Type 0
Loose rest = first_binds rest < 1

-- ---- the parsers shrink

pub shrinks-literal : Shrinks c.literal
shrinks-literal = record { below = below }
  where
    behind_sign : (ts : Lexemes) → Below (length (Sign s.Minus ∷ ts)) (c.negative ts)
    behind_sign [] = tt
    behind_sign (Number (suc n) ∷ ts) = omega arith
    behind_sign (Number n ∷ ts) = omega arith
    behind_sign (Big ∷ ts) = omega arith
    behind_sign (Sign symbol ∷ ts) = tt
    behind_sign (Word word ∷ ts) = tt
    behind_sign (Text bytes ∷ ts) = tt

    by_symbol : (symbol : Symbol) (ts : Lexemes) → Below (length (Sign symbol ∷ ts)) (c.literal_by symbol (Sign symbol ∷ ts) ts)
    by_symbol s.Null ts = omega arith
    by_symbol s.Minus ts = behind_sign ts
    by_symbol _ ts = tt

    below : (ts : Lexemes) → Below (length ts) (c.literal ts)
    below [] = tt
    below (Sign symbol ∷ ts) = by_symbol symbol ts
    below (Number n ∷ ts) = omega arith
    below (Text bytes ∷ ts) = omega arith
    below (Word word ∷ ts) = tt
    below (Big ∷ ts) = tt

pub shrinks-tuple : Shrinks c.tuple
unfolding c.tuple
shrinks-tuple = shrinks-in_brackets (separated c.literal) (shrinks-keeps _ (shrinks-separated c.literal shrinks-literal))

pub shrinks-column : Shrinks c.column
unfolding c.column
shrinks-column = shrinks-bind identifier _ shrinks-identifier (λ name. keeps-next s.Int (accept _) _ (keeps-accept _) (shrinks-keeps _ (shrinks-then s.Text (accept _) (keeps-accept _))))

keeps-optional_name : (table : Bytes) → Keeps (c.optional_name table)
keeps-optional_name table = record { below = below }
  where
    below : (ts : Lexemes) → Below (suc (length ts)) (c.optional_name table ts)
    below [] = omega arith
    below (Word name ∷ ts) = omega arith
    below (Sign symbol ∷ ts) = omega arith
    below (Number n ∷ ts) = omega arith
    below (Big ∷ ts) = omega arith
    below (Text bytes ∷ ts) = omega arith

pub shrinks-item : Shrinks c.item
unfolding c.item
shrinks-item = shrinks-bind identifier _ shrinks-identifier (λ table. keeps-next s.As (λ rest. identifier rest >>= (λ r. Ok (named table r.0, r.1))) (c.optional_name table)
    (shrinks-keeps _ (shrinks-bind identifier _ shrinks-identifier (λ name. keeps-accept (named table name)))) (keeps-optional_name table))

keeps-items : Keeps c.items
unfolding c.items
keeps-items = keeps-next s.Star (accept syntax.star) (λ ts. separated term ts >>= (λ r. Ok (syntax.list r.0, r.1))) (keeps-accept syntax.star)
    (shrinks-keeps _ (shrinks-bind (separated term) _ (shrinks-separated term shrinks-term) (λ xs. keeps-accept (syntax.list xs))))

keeps-condition : Keeps c.condition
unfolding c.condition
keeps-condition = keeps-next s.Where (λ ts. term ts >>= (λ r. Ok (Some r.0, r.1))) (accept None)
    (shrinks-keeps _ (shrinks-bind term _ shrinks-term (λ x. keeps-accept (Some x)))) (keeps-accept None)

shrinks-block : Shrinks c.block
unfolding c.block
shrinks-block = shrinks-then s.Select _ (keeps-bind c.items _ keeps-items (λ items. shrinks-keeps _ (shrinks-then s.From _
    (keeps-bind (separated c.item) _ (shrinks-keeps _ (shrinks-separated c.item shrinks-item)) (λ from. keeps-bind c.condition _ keeps-condition
    (λ cond. keeps-accept (record { items = items; from = from; cond = cond })))))))

pub shrinks-all : Shrinks (s.All then c.block)
shrinks-all = shrinks-then s.All c.block (shrinks-keeps _ shrinks-block)

pub shrinks-set_term : Shrinks c.set_term
unfolding c.set_term
shrinks-set_term = shrinks-bind identifier _ shrinks-identifier (λ col. shrinks-keeps _ (shrinks-then s.Eq _
    (keeps-bind term _ (shrinks-keeps _ shrinks-term) (λ x. keeps-accept (record { col = col; term = x })))))

-- ---- literals, tuples and columns

literal-complete : (a : Lexemes) (x : Cell) → IsLiteral a x → (rest : Lexemes) → Anything rest → c.literal (a ++ rest) ≡ Ok (x, rest)
literal-complete _ _ g.null rest h = refl
literal-complete _ _ (g.text bytes) rest h = refl
literal-complete _ _ (g.number n) rest h = refl
literal-complete _ _ g.negative_zero rest h = refl
literal-complete _ _ (g.negative n) rest h = refl
literal-complete _ _ g.least rest h = refl

in_brackets-of : {A : Type 0} (p : Parser A) (ts rest : Lexemes) (x : A) → p ts ≡ Ok (x, Sign s.Close ∷ rest) → in_brackets p (Sign s.Open ∷ ts) ≡ Ok (x, rest)
unfolding expect
in_brackets-of p ts rest x e = ap (λ o. o >>= (λ r. (s.Close then accept r.0) r.1)) e

pub in_brackets-complete : {A : Type 0} (p : Parser A) (a rest : Lexemes) (x : A) → p (a ++ (Sign s.Close ∷ rest)) ≡ Ok (x, Sign s.Close ∷ rest)
    → in_brackets p ((Sign s.Open ∷ (a ++ (Sign s.Close ∷ []))) ++ rest) ≡ Ok (x, rest)
in_brackets-complete p a rest x e = in_brackets-of p _ rest x (ap p (append_assoc a (Sign s.Close ∷ []) rest) ∙ e)

tuple-complete : (a : Lexemes) (x : List Cell) → IsTuple a x → (rest : Lexemes) → Anything rest → c.tuple (a ++ rest) ≡ Ok (x, rest)
unfolding c.tuple
tuple-complete _ _ (g.tuple a x i) rest h = in_brackets-complete (separated c.literal) a rest x
    (separated-exact IsLiteral c.literal shrinks-literal Anything (λ ts. tt) literal-complete a x i (Sign s.Close ∷ rest) tt refl)

column-complete : (a : Lexemes) (x : Column) → IsColumn a x → (rest : Lexemes) → Anything rest → c.column (a ++ rest) ≡ Ok (x, rest)
unfolding c.column expect
column-complete _ _ (g.int_column name) rest h = refl
column-complete _ _ (g.text_column name) rest h = refl

-- ---- queries

-- no name of an item follows
abbrev NoAlias : Lexemes → Type 0
NoAlias rest = (table : Bytes) → c.alias table rest ≡ Ok (named table table, rest)

item-complete : (a : Lexemes) (x : Item) → IsItem a x → (rest : Lexemes) → NoAlias rest → c.item (a ++ rest) ≡ Ok (x, rest)
unfolding c.item
item-complete _ _ (g.table table) rest h = h table
item-complete _ _ (g.alias table name) rest h = refl
item-complete _ _ (g.as_alias table name) rest h = refl

no-star : {p : Phrase} {a : Lexemes} {x : Term} → Derives p a x → (rest : Lexemes) → strip s.Star (a ++ rest) ≡ None
no-star (t.operation at o symbol a b x y e i j) rest = ap (strip s.Star) (append_assoc a (Sign symbol ∷ b) rest) ∙ no-star i (Sign symbol ∷ (b ++ rest))
no-star (t.one_operand at a x i) rest = no-star i rest
no-star (t.negated a x i) rest = refl
no-star (t.not_negated a x i) rest = no-star i rest
no-star (t.null_test a x i) rest = ap (strip s.Star) (append_assoc a (Sign s.Is ∷ Sign s.Null ∷ []) rest) ∙ no-star i _
no-star (t.not_null_test a x i) rest = ap (strip s.Star) (append_assoc a (Sign s.Is ∷ Sign s.Not ∷ Sign s.Null ∷ []) rest) ∙ no-star i _
no-star (t.true_test a x i) rest = ap (strip s.Star) (append_assoc a (Sign s.Is ∷ Sign s.True ∷ []) rest) ∙ no-star i _
no-star (t.not_true_test a x i) rest = ap (strip s.Star) (append_assoc a (Sign s.Is ∷ Sign s.Not ∷ Sign s.True ∷ []) rest) ∙ no-star i _
no-star (t.no_test a x i) rest = no-star i rest
no-star (t.compared o symbol a b x y e i j) rest = ap (strip s.Star) (append_assoc a (Sign symbol ∷ b) rest) ∙ no-star i (Sign symbol ∷ (b ++ rest))
no-star (t.not_compared a x i) rest = no-star i rest
no-star (t.signed a x i) rest = refl
no-star (t.not_signed a x i) rest = no-star i rest
no-star (t.number n) rest = refl
no-star (t.text_literal bytes) rest = refl
no-star t.null_literal rest = refl
no-star (t.column name) rest = refl
no-star (t.qualified_column item name) rest = refl
no-star (t.brackets a x i) rest = refl
no-star (t.choice a b e x y z i j k) rest = refl

no-star-list : {a : Lexemes} {xs : List Term} → IsList comma IsTerm a xs → (rest : Lexemes) → strip s.Star (a ++ rest) ≡ None
no-star-list (g.one a x i) rest = no-star i rest
no-star-list (g.more a b xs x i j) rest = ap (strip s.Star) (append_assoc a (Sign s.Comma ∷ b) rest) ∙ no-star-list i (Sign s.Comma ∷ (b ++ rest))

terms-complete : (a : Lexemes) (xs : List Term) → IsList comma IsTerm a xs → (rest : Lexemes) → Loose rest → strip s.Comma rest ≡ None → separated term (a ++ rest) ≡ Ok (map capped xs, rest)
terms-complete a xs i rest h n = separated-complete IsTerm capped term shrinks-term Loose (λ ts. omega arith) (λ a x i rest h. term-complete a x i rest h) a xs i rest h n

items-complete : (a : Lexemes) (x : Items) → IsItems a x → (rest : Lexemes) → Loose rest → strip s.Comma rest ≡ None → c.items (a ++ rest) ≡ Ok (capped_items x, rest)
unfolding c.items
items-complete _ _ g.star rest h n = refl
items-complete _ _ (g.terms a xs i) rest h n =
    ap (λ o. by_option o (separated term (a ++ rest) >>= (λ r. Ok (syntax.list r.0, r.1))) (accept syntax.star)) (no-star-list i rest)
    ∙ ap (λ o. o >>= (λ r. Ok (syntax.list r.0, r.1))) (terms-complete a xs i rest h n)

pub condition-complete : (w : Lexemes) (cond : Option Term) → IsWhere w cond → (rest : Lexemes) → Loose rest → strip s.Where rest ≡ None → c.condition (w ++ rest) ≡ Ok (option_map capped cond, rest)
unfolding c.condition
condition-complete _ _ g.absent rest h n = ap (λ o. by_option o (Ok (None, rest)) (λ ts. term ts >>= (λ r. Ok (Some r.0, r.1)))) n
condition-complete _ _ (g.present a x i) rest h n = ap (λ o. o >>= (λ r. Ok (Some r.0, r.1))) (term-complete a x i rest h)

-- what may follow a block, and a query
pub record EndsBlock (rest : Lexemes) : Type 0 where
  pub loose : first_binds rest < 1
  pub no_comma : strip s.Comma rest ≡ None
  pub no_where : strip s.Where rest ≡ None
  pub no_alias : (table : Bytes) → c.alias table rest ≡ Ok (named table table, rest)

pub record EndsQuery (rest : Lexemes) : Type 0 where
  pub block : EndsBlock rest
  pub no_union : strip s.Union rest ≡ None

-- what may follow a list that a condition may follow
record EndsList (rest : Lexemes) : Type 0 where
  loose : first_binds rest < 1
  no_comma : strip s.Comma rest ≡ None
  no_alias : (table : Bytes) → c.alias table rest ≡ Ok (named table table, rest)

ends-list : (w : Lexemes) (cond : Option Term) → IsWhere w cond → (rest : Lexemes) → EndsBlock rest → EndsList (w ++ rest)
ends-list _ _ g.absent rest h = record { loose = h.loose; no_comma = h.no_comma; no_alias = h.no_alias }
ends-list _ _ (g.present a x i) rest h = record { loose = omega arith; no_comma = refl; no_alias = λ table. refl }

block4 : Items → List Item → Option Term × Lexemes → Outcome (Block × Lexemes)
block4 items from cond = Ok (record { items = items; from = from; cond = cond.0 }, cond.1)

block3 : Items → List Item × Lexemes → Outcome (Block × Lexemes)
block3 items from = c.condition from.1 >>= block4 items from.0

block2 : Items × Lexemes → Outcome (Block × Lexemes)
block2 items = expect s.From items.1 >>= (λ rest. separated c.item rest >>= block3 items.0)

block-of : (ts us ws rest : Lexemes) (items : Items) (from : List Item) (cond : Option Term) → c.items ts ≡ Ok (items, Sign s.From ∷ us) → separated c.item us ≡ Ok (from, ws)
    → c.condition ws ≡ Ok (cond, rest) → c.block (Sign s.Select ∷ ts) ≡ Ok (record { items = items; from = from; cond = cond }, rest)
unfolding c.block expect block2 block3 block4
block-of ts us ws rest items from cond e f h = ap (λ o. o >>= block2) e ∙ ap (λ o. o >>= block3 items) f ∙ ap (λ o. o >>= block4 items from) h

block-split : (a b w rest : Lexemes) → (a ++ (Sign s.From ∷ (b ++ w))) ++ rest ≡ a ++ (Sign s.From ∷ (b ++ (w ++ rest)))
block-split a b w rest = simp append_assoc

block-complete : (a : Lexemes) (x : Block) → IsBlock a x → (rest : Lexemes) → EndsBlock rest → c.block (a ++ rest) ≡ Ok (capped_block x, rest)
block-complete _ _ (g.block a b w items from cond i j k) rest h =
    let e : EndsList (w ++ rest) = ends-list w cond k rest h in
    ap (λ z. c.block (Sign s.Select ∷ z)) (block-split a b w rest)
    ∙ block-of (a ++ (Sign s.From ∷ (b ++ (w ++ rest)))) (b ++ (w ++ rest)) (w ++ rest) rest (capped_items items) from (option_map capped cond)
    (items-complete a items i (Sign s.From ∷ (b ++ (w ++ rest))) (omega arith) refl)
    (separated-exact IsItem c.item shrinks-item NoAlias (λ ts table. refl) item-complete b from j (w ++ rest) e.no_alias e.no_comma)
    (condition-complete w cond k rest h.loose h.no_where)

union-ends : (ts : Lexemes) → EndsBlock (Sign s.Union ∷ ts)
union-ends ts = record { loose = omega arith; no_comma = refl; no_where = refl; no_alias = λ table. refl }

all-complete : (a : Lexemes) (x : Block) → IsBlock a x → (rest : Lexemes) → EndsBlock rest → (s.All then c.block) (Sign s.All ∷ (a ++ rest)) ≡ Ok (capped_block x, rest)
unfolding expect
all-complete a x i rest h = block-complete a x i rest h

pub query-complete : (a : Lexemes) (x : Query) → IsQuery a x → (rest : Lexemes) → EndsQuery rest → c.query (a ++ rest) ≡ Ok (map capped_block x, rest)
unfolding c.query
query-complete a x i rest h = list-complete s.Union (Sign s.All ∷ []) IsBlock capped_block c.block (s.All then c.block) shrinks-all (λ ts. refl) EndsBlock union-ends
    block-complete all-complete a x i rest h.block h.no_union

-- ---- commands

set_term-complete : (a : Lexemes) (x : SetTerm) → IsSetTerm a x → (rest : Lexemes) → Loose rest → c.set_term (a ++ rest) ≡ Ok (capped_set x, rest)
unfolding c.set_term expect
set_term-complete _ _ (g.set_term col a x i) rest h = ap (λ p. p >>= (λ z. Ok (record { col = col; term = z.0 }, z.1))) (term-complete a x i rest h)

query-begins : {a : Lexemes} {x : Query} → IsQuery a x → (rest : Lexemes) → strip s.Values (a ++ rest) ≡ None
query-begins (g.one _ _ (g.block a b w items from cond i j k)) rest = refl
query-begins (g.more a b xs x i j) rest = ap (strip s.Values) (append_assoc a (union_all ++ b) rest) ∙ query-begins i (union_all ++ b ++ rest)

select-begins : {a : Lexemes} {x : Query} → IsQuery a x → (rest : Lexemes) → c.command (a ++ rest) ≡ c.query (a ++ rest) >>= (λ r. Ok (syntax.select r.0, r.1))
select-begins (g.one _ _ (g.block a b w items from cond i j k)) rest = refl
select-begins (g.more a b xs x i j) rest =
    let P : Lexemes → Type 0 = λ z. c.command z ≡ c.query z >>= (λ r. Ok (syntax.select r.0, r.1)) in
    subst P (sym (append_assoc a (union_all ++ b) rest)) (select-begins i ((union_all ++ b) ++ rest))

update3 : Bytes → List SetTerm → Option Term × Lexemes → Outcome (Command × Lexemes)
update3 table sets cond = Ok (syntax.update table sets cond.0, cond.1)

update2 : Bytes → List SetTerm × Lexemes → Outcome (Command × Lexemes)
update2 table sets = c.condition sets.1 >>= update3 table sets.0

update-of : (table : Bytes) (ts ws rest : Lexemes) (sets : List SetTerm) (cond : Option Term) → separated c.set_term ts ≡ Ok (sets, ws) → c.condition ws ≡ Ok (cond, rest)
    → c.update (Word table ∷ Sign s.Set ∷ ts) ≡ Ok (syntax.update table sets cond, rest)
unfolding c.update expect update2 update3
update-of table ts ws rest sets cond h k = ap (λ p. p >>= update2 table) h ∙ ap (λ p. p >>= update3 table sets) k

create-of : (name : Bytes) (ts rest : Lexemes) (cols : List Column) → in_brackets (separated c.column) ts ≡ Ok (cols, rest)
    → c.create (Sign s.Table ∷ Word name ∷ ts) ≡ Ok (syntax.create (record { name = name; cols = cols }), rest)
unfolding c.create expect
create-of name ts rest cols e = ap (λ p. p >>= (λ r. Ok (syntax.create (record { name = name; cols = r.0 }), r.1))) e

insert-of : (table : Bytes) (ts rest : Lexemes) (rows : List (List Cell)) → separated c.tuple ts ≡ Ok (rows, rest)
    → c.insert (Sign s.Into ∷ Word table ∷ Sign s.Values ∷ ts) ≡ Ok (syntax.insert table rows, rest)
unfolding c.insert expect
insert-of table ts rest rows e = ap (λ p. p >>= (λ r. Ok (syntax.insert table r.0, r.1))) e

insert_select-of : (table : Bytes) (ts rest : Lexemes) (xs : Query) → strip s.Values ts ≡ None → c.query ts ≡ Ok (xs, rest)
    → c.insert (Sign s.Into ∷ Word table ∷ ts) ≡ Ok (syntax.insert_select table xs, rest)
unfolding c.insert expect
insert_select-of table ts rest xs n e =
    ap (λ o. by_option o (c.query ts >>= (λ r. Ok (syntax.insert_select table r.0, r.1))) (λ rest. separated c.tuple rest >>= (λ r. Ok (syntax.insert table r.0, r.1)))) n
    ∙ ap (λ p. p >>= (λ r. Ok (syntax.insert_select table r.0, r.1))) e

delete-of : (table : Bytes) (ts rest : Lexemes) (cond : Option Term) → c.condition ts ≡ Ok (cond, rest) → c.delete (Sign s.From ∷ Word table ∷ ts) ≡ Ok (syntax.delete table cond, rest)
unfolding c.delete expect
delete-of table ts rest cond e = ap (λ p. p >>= (λ r. Ok (syntax.delete table r.0, r.1))) e

-- where no name may follow, no word does
no-word : (text : Bytes) (rest : Lexemes) → NoAlias rest → strip_word text rest ≡ None
no-word text [] h = refl
no-word text (Word name ∷ ts) h = let e : length ts ≡ suc (length ts) = ap left (h []) in absurd (omega arith)
  where
    left : Outcome (Item × Lexemes) → ℕ
    left (Ok r) = length r.1
    left (Err rest) = 0
no-word text (Sign symbol ∷ ts) h = refl
no-word text (Number n ∷ ts) h = refl
no-word text (Big ∷ ts) h = refl
no-word text (Text bytes ∷ ts) h = refl

begin-of : (rest : Lexemes) → strip_word (codes "read") rest ≡ None → c.begin rest ≡ Ok (syntax.begin false, rest)
unfolding c.begin
begin-of rest n = ap (λ o. by_option o (Ok (syntax.begin false, rest)) (expect_word (codes "committed") (accept (syntax.begin true)))) n

begin_read_committed-of : (rest : Lexemes) → c.begin (Word (codes "read") ∷ Word (codes "committed") ∷ rest) ≡ Ok (syntax.begin true, rest)
unfolding c.begin
begin_read_committed-of rest = refl

pub command-complete : (a : Lexemes) (x : Command) → IsCommand a x → (rest : Lexemes) → EndsQuery rest → c.command (a ++ rest) ≡ Ok (capped_command x, rest)
command-complete _ _ (g.create name a cols i) rest h = create-of name _ rest cols (in_brackets-complete (separated c.column) a rest cols
    (separated-exact IsColumn c.column shrinks-column Anything (λ ts. tt) column-complete a cols i (Sign s.Close ∷ rest) tt refl))
command-complete _ _ g.begin rest h = begin-of rest (no-word (codes "read") rest h.block.no_alias)
command-complete _ _ g.begin_read_committed rest h = begin_read_committed-of rest
command-complete _ _ g.commit rest h = refl
command-complete _ _ g.rollback rest h = refl
command-complete _ _ (g.insert table a rows i) rest h = insert-of table (a ++ rest) rest rows
    (separated-exact IsTuple c.tuple shrinks-tuple Anything (λ ts. tt) tuple-complete a rows i rest tt h.block.no_comma)
command-complete _ _ (g.insert_select table a xs i) rest h = insert_select-of table (a ++ rest) rest (map capped_block xs) (query-begins i rest) (query-complete a xs i rest h)
command-complete _ _ (g.update table a w sets cond i j) rest h =
    let e : EndsList (w ++ rest) = ends-list w cond j rest h.block in
    ap (λ z. c.command (Sign s.Update ∷ Word table ∷ Sign s.Set ∷ z)) (append_assoc a w rest)
    ∙ update-of table (a ++ (w ++ rest)) (w ++ rest) rest (map capped_set sets) (option_map capped cond)
    (separated-complete IsSetTerm capped_set c.set_term shrinks-set_term Loose (λ ts. omega arith) set_term-complete a sets i (w ++ rest) e.loose e.no_comma)
    (condition-complete w cond j rest h.block.loose h.block.no_where)
command-complete _ _ (g.delete table w cond i) rest h = delete-of table (w ++ rest) rest (option_map capped cond) (condition-complete w cond i rest h.block.loose h.block.no_where)
command-complete _ _ (g.select a xs i) rest h = select-begins i rest ∙ ap (λ p. p >>= (λ r. Ok (syntax.select r.0, r.1))) (query-complete a xs i rest h)

-- ---- statements

statement-begins : {a : Lexemes} {x : Query} → IsQuery a x → (rest : Lexemes) → c.statement (a ++ rest) ≡ c.command (a ++ rest)
statement-begins (g.one _ _ (g.block a b w items from cond i j k)) rest = refl
statement-begins (g.more a b xs x i j) rest =
    let P : Lexemes → Type 0 = λ z. c.statement z ≡ c.command z in
    subst P (sym (append_assoc a (union_all ++ b) rest)) (statement-begins i ((union_all ++ b) ++ rest))

-- where a statement begins, both parsers are the same
statement-is : (a : Lexemes) (x : Command) → IsCommand a x → is_statement x ≡ true → (rest : Lexemes) → c.statement (a ++ rest) ≡ c.command (a ++ rest)
statement-is _ _ (g.create name a cols i) h rest = cc
statement-is _ _ g.begin h rest = cc
statement-is _ _ g.begin_read_committed h rest = cc
statement-is _ _ g.commit h rest = cc
statement-is _ _ g.rollback h rest = cc
statement-is _ _ (g.insert table a rows i) h rest = refl
statement-is _ _ (g.insert_select table a xs i) h rest = refl
statement-is _ _ (g.update table a w sets cond i j) h rest = refl
statement-is _ _ (g.delete table w cond i) h rest = refl
statement-is _ _ (g.select a xs i) h rest = statement-begins i rest

pub statement-complete : (a : Lexemes) (x : Command) → IsStatement a x → (rest : Lexemes) → EndsQuery rest → c.statement (a ++ rest) ≡ Ok (capped_command x, rest)
statement-complete a x i rest h = statement-is a x i.command i.statement rest ∙ command-complete a x i.command rest h

-- ---- lines

pub nothing-ends : EndsQuery []
nothing-ends = record { block = record { loose = omega arith; no_comma = refl; no_where = refl; no_alias = λ table. refl }; no_union = refl }

pub semicolon-ends : (ts : Lexemes) → EndsQuery (Sign s.Semicolon ∷ ts)
semicolon-ends ts = record { block = record { loose = omega arith; no_comma = refl; no_where = refl; no_alias = λ table. refl }; no_union = refl }

pub close-ends : (ts : Lexemes) → EndsQuery (Sign s.Close ∷ ts)
close-ends ts = record { block = record { loose = omega arith; no_comma = refl; no_where = refl; no_alias = λ table. refl }; no_union = refl }

pub whole-command : (a : Lexemes) (x : Command) → IsCommand a x → c.command a ≡ Ok (capped_command x, [])
whole-command a x i = ap c.command (sym (append-nil a)) ∙ command-complete a x i [] nothing-ends

session-of : (session : ℕ) (ts rest : Lexemes) (x : Command) → c.command ts ≡ Ok (x, rest) → c.in_session session (Sign s.Colon ∷ ts) ≡ Ok (record { session = session; command = x }, rest)
unfolding expect
session-of session ts rest x e = ap (λ p. p >>= (λ r. Ok (record { session = session; command = r.0 }, r.1))) e

session_command-complete : (a : Lexemes) (x : ScriptLine) → IsSessionCommand a x → (rest : Lexemes) → EndsQuery rest → c.session_command (a ++ rest) ≡ Ok (capped_line x, rest)
session_command-complete _ _ (g.in_session name session a x e i) rest h =
    ap (λ o. by_option o (Err (Word name ∷ Sign s.Colon ∷ (a ++ rest))) (λ session. c.in_session session (Sign s.Colon ∷ (a ++ rest)))) e
    ∙ session-of session (a ++ rest) rest (capped_command x) (command-complete a x i rest h)

-- a closed phrase is parsed whole
pub closed-complete : {A : Type 0} (Is : Lexemes → A → Type 0) (cap : A → A) (p : Parser A)
    → ((a : Lexemes) (x : A) → Is a x → (rest : Lexemes) → EndsQuery rest → p (a ++ rest) ≡ Ok (cap x, rest))
    → (a : Lexemes) (x : A) → Closed Is a x → closed p a ≡ Ok (cap x, [])
closed-complete Is cap p k _ _ (g.open_end a x i) = ap (λ o. o >>= (λ r. where_next s.Semicolon (accept r.0) (accept r.0) r.1)) (ap p (sym (append-nil a)) ∙ k a x i [] nothing-ends)
closed-complete Is cap p k _ _ (g.semicolon a x i) = ap (λ o. o >>= (λ r. where_next s.Semicolon (accept r.0) (accept r.0) r.1)) (k a x i (Sign s.Semicolon ∷ []) (semicolon-ends []))

pub whole-line : (a : Lexemes) (x : ScriptLine) → Closed IsSessionCommand a x → c.script_line a ≡ Ok (capped_line x, [])
whole-line = closed-complete IsSessionCommand capped_line c.session_command session_command-complete
