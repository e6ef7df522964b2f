-- The canonical lexemes of a command are its own, signs and reserved words, or the big number.
use Rattle.gp_grammar.proofs.Prelude.{ℕ, suc, Bool, true, false, cond, eqb, List, [], ◌∷◌, ◌++◌, Option, sym, subst, ◌^◌, bytes_eq, AllByRecursion, append-nil, Cell, Column, Symbol, Lexeme, Sign, Word, Number, Big, Lexemes, Bytes, Term, SetTerm, Item, Items, Block, Query, Command, Phrase, Derives, IsTerm, IsList, comma, union_all, IsColumn, IsLiteral, IsTuple, IsItem, IsItems, IsWhere, IsBlock, IsQuery, IsSetTerm, IsCommand, symbol_of, term_lexemes, bracketed, joined_lexemes, listed_lexemes, column_definition_lexemes, cell_lexemes, tuple_lexemes, item_lexemes, items_lexemes, condition_lexemes, block_lexemes, query_lexemes, set_lexemes, command_lexemes}
use Rattle.gp_lexer.specs.declared.lexeme.Symbol.TheVariants as s
use Rattle.gp_grammar.specs.Grammar as t
use Rattle.gp_grammar.specs.CommandGrammar as g
use Rattle.gp_grammar.proofs.CanonicalCommands.{list-nonempty, joined-snoc}

-- a property of lexemes that signs, reserved words and the big number have
module _ (P : Lexeme → Type 0) (sign : (symbol : Symbol) → P (Sign symbol)) (big : P Big) where
  abbrev Every : Lexemes → Type 0
  Every = AllByRecursion P

  both : (a b : Lexemes) → Every a → Every b → Every (a ++ b)
  both [] b h k = k
  both (x ∷ a) b h k = (h.0, both a b h.1 k)

  first : (a b : Lexemes) → Every (a ++ b) → Every a
  first [] b h = tt
  first (x ∷ a) b h = (h.0, first a b h.1)

  second : (a b : Lexemes) → Every (a ++ b) → Every b
  second [] b h = h
  second (x ∷ a) b h = second a b h.1

  in_brackets : (a : Lexemes) → Every a → Every (bracketed a)
  in_brackets a h = (sign s.Open, both a (Sign s.Close ∷ []) h (sign s.Close, tt))

  inner : (a : Lexemes) → Every (Sign s.Open ∷ (a ++ (Sign s.Close ∷ []))) → Every a
  inner a h = first a (Sign s.Close ∷ []) h.1

  term-every : {p : Phrase} {a : Lexemes} {x : Term} → Derives p a x → Every a → Every (term_lexemes x)
  term-every (t.operation at o symbol a b x y e i j) h = in_brackets (term_lexemes x ++ (Sign (symbol_of o) ∷ term_lexemes y))
      (both (term_lexemes x) (Sign (symbol_of o) ∷ term_lexemes y) (term-every i (first a (Sign symbol ∷ b) h)) (sign (symbol_of o), term-every j (second a (Sign symbol ∷ b) h).1))
  term-every (t.one_operand at a x i) h = term-every i h
  term-every (t.negated a x i) h = in_brackets (Sign s.Not ∷ term_lexemes x) (sign s.Not, term-every i h.1)
  term-every (t.not_negated a x i) h = term-every i h
  term-every (t.null_test a x i) h = in_brackets (term_lexemes x ++ (Sign s.Is ∷ Sign s.Null ∷ []))
      (both (term_lexemes x) (Sign s.Is ∷ Sign s.Null ∷ []) (term-every i (first a (Sign s.Is ∷ Sign s.Null ∷ []) h)) (sign s.Is, (sign s.Null, tt)))
  term-every (t.not_null_test a x i) h = in_brackets (term_lexemes x ++ (Sign s.Is ∷ Sign s.Not ∷ Sign s.Null ∷ []))
      (both (term_lexemes x) (Sign s.Is ∷ Sign s.Not ∷ Sign s.Null ∷ []) (term-every i (first a (Sign s.Is ∷ Sign s.Not ∷ Sign s.Null ∷ []) h)) (sign s.Is, (sign s.Not, (sign s.Null, tt))))
  term-every (t.true_test a x i) h = in_brackets (term_lexemes x ++ (Sign s.Is ∷ Sign s.True ∷ []))
      (both (term_lexemes x) (Sign s.Is ∷ Sign s.True ∷ []) (term-every i (first a (Sign s.Is ∷ Sign s.True ∷ []) h)) (sign s.Is, (sign s.True, tt)))
  term-every (t.not_true_test a x i) h = in_brackets (term_lexemes x ++ (Sign s.Is ∷ Sign s.Not ∷ Sign s.True ∷ []))
      (both (term_lexemes x) (Sign s.Is ∷ Sign s.Not ∷ Sign s.True ∷ []) (term-every i (first a (Sign s.Is ∷ Sign s.Not ∷ Sign s.True ∷ []) h)) (sign s.Is, (sign s.Not, (sign s.True, tt))))
  term-every (t.no_test a x i) h = term-every i h
  term-every (t.compared o symbol a b x y e i j) h = in_brackets (term_lexemes x ++ (Sign (symbol_of o) ∷ term_lexemes y))
      (both (term_lexemes x) (Sign (symbol_of o) ∷ term_lexemes y) (term-every i (first a (Sign symbol ∷ b) h)) (sign (symbol_of o), term-every j (second a (Sign symbol ∷ b) h).1))
  term-every (t.not_compared a x i) h = term-every i h
  term-every (t.signed a x i) h = in_brackets (Sign s.Minus ∷ term_lexemes x) (sign s.Minus, term-every i h.1)
  term-every (t.not_signed a x i) h = term-every i h
  term-every (t.number n) h = h
  term-every (t.text_literal bytes) h = h
  term-every t.null_literal h = h
  term-every (t.column name) h = h
  term-every (t.qualified_column item name) h = h
  term-every (t.brackets a x i) h = term-every i (inner a h)
  term-every (t.choice a b c x y z i j k) h =
      let u : Every (b ++ (Sign s.Else ∷ (c ++ (Sign s.End ∷ [])))) = (second a (Sign s.Then ∷ (b ++ (Sign s.Else ∷ (c ++ (Sign s.End ∷ []))))) h.1.1).1 in
      let v : Every (c ++ (Sign s.End ∷ [])) = (second b (Sign s.Else ∷ (c ++ (Sign s.End ∷ []))) u).1 in (
        sign s.Case,
        (
          sign s.When,
          both (term_lexemes x) _ (term-every i (first a (Sign s.Then ∷ (b ++ (Sign s.Else ∷ (c ++ (Sign s.End ∷ []))))) h.1.1)) (
            sign s.Then,
            both (term_lexemes y) _ (term-every j (first b (Sign s.Else ∷ (c ++ (Sign s.End ∷ []))) u))
                (sign s.Else, both (term_lexemes z) (Sign s.End ∷ []) (term-every k (first c (Sign s.End ∷ []) v)) (sign s.End, tt)),
          ),
        ),
      )

  list-every : {A : Type 0} (separator : Lexemes) (Is : Lexemes → A → Type 0) (lexemes : A → Lexemes) → Every separator
      → ((a : Lexemes) (x : A) → Is a x → Every a → Every (lexemes x)) → {a : Lexemes} {xs : List A} → IsList separator Is a xs → Every a → Every (joined_lexemes separator lexemes xs)
  list-every separator Is lexemes w k (g.one a x i) h = rw append-nil (k a x i h)
  list-every separator Is lexemes w k (g.more a b xs x i j) h =
      let F : Lexemes → Type 0 = λ z. Every z in
      subst F (sym (joined-snoc separator lexemes xs x (list-nonempty i)))
      (both (joined_lexemes separator lexemes xs) (separator ++ lexemes x) (list-every separator Is lexemes w k i (first a (separator ++ b) h))
      (both separator (lexemes x) w (k b x j (second separator b (second a (separator ++ b) h)))))

  every-comma : Every comma
  every-comma = (sign s.Comma, tt)

  column-every : (a : Lexemes) (x : Column) → IsColumn a x → Every a → Every (column_definition_lexemes x)
  column-every _ _ (g.int_column name) h = h
  column-every _ _ (g.text_column name) h = h

  negative-every : (b : Bool) (n : ℕ) → P (Number n) → Every (Sign s.Minus ∷ cond b Big (Number n) ∷ [])
  negative-every true n h = (sign s.Minus, (big, tt))
  negative-every false n h = (sign s.Minus, (h, tt))

  cell-every : (a : Lexemes) (x : Cell) → IsLiteral a x → Every a → Every (cell_lexemes x)
  cell-every _ _ g.null h = h
  cell-every _ _ (g.text bytes) h = h
  cell-every _ _ (g.number n) h = h
  cell-every _ _ g.negative_zero h = h.1
  cell-every _ _ (g.negative n) h = negative-every (eqb (suc n) (2 ^ 63)) (suc n) h.1.0
  cell-every _ _ g.least h = h

  tuple-every : (a : Lexemes) (x : List Cell) → IsTuple a x → Every a → Every (tuple_lexemes x)
  tuple-every _ _ (g.tuple a x i) h = in_brackets (listed_lexemes cell_lexemes x) (list-every comma IsLiteral cell_lexemes every-comma cell-every i (inner a h))

  item-by : (b : Bool) (table name : Bytes) → P (Word table) → P (Word name) → Every (cond b (Word table ∷ []) (Word table ∷ Word name ∷ []))
  item-by true table name h k = (h, tt)
  item-by false table name h k = (h, (k, tt))

  item-every : (a : Lexemes) (x : Item) → IsItem a x → Every a → Every (item_lexemes x)
  item-every _ _ (g.table table) h = item-by (bytes_eq table table) table table h.0 h.0
  item-every _ _ (g.alias table name) h = item-by (bytes_eq table name) table name h.0 h.1.0
  item-every _ _ (g.as_alias table name) h = item-by (bytes_eq table name) table name h.0 h.1.1.0

  items-every : (a : Lexemes) (x : Items) → IsItems a x → Every a → Every (items_lexemes x)
  items-every _ _ g.star h = h
  items-every _ _ (g.terms a xs i) h = list-every comma IsTerm term_lexemes every-comma (λ a x i h. term-every i h) i h

  condition-every : (a : Lexemes) (x : Option Term) → IsWhere a x → Every a → Every (condition_lexemes x)
  condition-every _ _ g.absent h = tt
  condition-every _ _ (g.present a x i) h = (sign s.Where, term-every i h.1)

  block-every : (a : Lexemes) (x : Block) → IsBlock a x → Every a → Every (block_lexemes x)
  block-every _ _ (g.block a b w items from cond i j k) h =
      let u : Every (b ++ w) = (second a (Sign s.From ∷ (b ++ w)) h.1).1 in (
        sign s.Select,
        both (items_lexemes items) _ (items-every a items i (first a (Sign s.From ∷ (b ++ w)) h.1)) (
          sign s.From,
          both (listed_lexemes item_lexemes from) (condition_lexemes cond) (list-every comma IsItem item_lexemes every-comma item-every j (first b w u))
              (condition-every w cond k (second b w u)),
        ),
      )

  query-every : (a : Lexemes) (x : Query) → IsQuery a x → Every a → Every (query_lexemes x)
  query-every a x i h = list-every union_all IsBlock block_lexemes (sign s.Union, (sign s.All, tt)) block-every i h

  set-every : (a : Lexemes) (x : SetTerm) → IsSetTerm a x → Every a → Every (set_lexemes x)
  set-every _ _ (g.set_term name a x i) h = (h.0, (sign s.Eq, term-every i h.1.1))

  pub command-every : (a : Lexemes) (x : Command) → IsCommand a x → Every a → Every (command_lexemes x)
  command-every _ _ (g.create name a cols i) h = (
    sign s.Create,
    (
      sign s.Table,
      (
        h.1.1.0,
        in_brackets (listed_lexemes column_definition_lexemes cols) (list-every comma IsColumn column_definition_lexemes every-comma column-every i (inner a h.1.1.1)),
      ),
    ),
  )
  command-every _ _ g.begin h = h
  command-every _ _ g.begin_read_committed h = h
  command-every _ _ g.commit h = h
  command-every _ _ g.rollback h = h
  command-every _ _ (g.insert table a rows i) h = (sign s.Insert, (sign s.Into, (h.1.1.0, (sign s.Values, list-every comma IsTuple tuple_lexemes every-comma tuple-every i h.1.1.1.1))))
  command-every _ _ (g.insert_select table a x i) h = (sign s.Insert, (sign s.Into, (h.1.1.0, query-every a x i h.1.1.1)))
  command-every _ _ (g.update table a w sets cond i j) h = (
    sign s.Update,
    (
      h.1.0,
      (
        sign s.Set,
        both (listed_lexemes set_lexemes sets) (condition_lexemes cond)
            (list-every comma IsSetTerm set_lexemes every-comma set-every i (first a w h.1.1.1)) (condition-every w cond j (second a w h.1.1.1)),
      ),
    ),
  )
  command-every _ _ (g.delete table w cond i) h = (sign s.Delete, (sign s.From, (h.1.1.0, condition-every w cond i h.1.1.1)))
  command-every _ _ (g.select a x i) h = query-every a x i h
