-- What the parser builds for lists, queries and commands.
use Rattle.gp_grammar.proofs.Prelude.{◌≡◌, ℕ, true, List, [], ◌∷◌, ◌++◌, map, Option, Some, None, refl, sym, ap, ◌∙◌, option_map, map-append, Sign, Word, Lexemes, Bytes, Term, SetTerm, Item, Items, Block, Query, Command, is_statement, ScriptLine, capped, capped_set, capped_items, capped_block, capped_command, capped_line, IsTerm, IsList, comma, IsItem, IsItems, IsWhere, IsBlock, IsQuery, IsSetTerm, IsCommand, IsStatement, session_of, IsSessionCommand, Closed, Built}
use Rattle.gp_lexer.specs.declared.lexeme.Symbol.TheVariants as s
use Rattle.gp_grammar.specs.Syntax as syntax
use Rattle.gp_grammar.specs.CommandGrammar as g
use Rattle.gp_grammar.proofs.Building.{BuildsTerm}

-- a list of built parts is built for a list
pub list-built : {A : Type 0} {separator : Lexemes} {Is : Lexemes → A → Type 0} {cap : A → A} {a : Lexemes} {ys : List A}
    → IsList separator (Built Is cap) a ys → Built (IsList separator Is) (map cap) a ys
list-built {cap = cap} (g.one a y i) = record { tree = i.tree ∷ []; is = g.one a i.tree i.is; same = ap (λ z. z ∷ []) i.same }
list-built {separator = separator} {cap = cap} (g.more a b ys y i j) =
    let w : Built _ (map cap) a ys = list-built i in
    record {
      tree = w.tree ++ j.tree ∷ [];
      is = g.more a b w.tree j.tree w.is j.is;
      same = ap (λ z. z ++ y ∷ []) w.same ∙ ap (λ z. map cap w.tree ++ z ∷ []) j.same ∙ sym (map-append cap w.tree (j.tree ∷ []));
    }

abbrev pub BuildsWhere : Lexemes → Option Term → Type 0
BuildsWhere = Built IsWhere (option_map capped)

abbrev pub BuildsItems : Lexemes → Items → Type 0
BuildsItems = Built IsItems capped_items

abbrev pub BuildsBlock : Lexemes → Block → Type 0
BuildsBlock = Built IsBlock capped_block

abbrev pub BuildsQuery : Lexemes → Query → Type 0
BuildsQuery = Built IsQuery (map capped_block)

abbrev pub BuildsSetTerm : Lexemes → SetTerm → Type 0
BuildsSetTerm = Built IsSetTerm capped_set

abbrev pub BuildsCommand : Lexemes → Command → Type 0
BuildsCommand = Built IsCommand capped_command

abbrev pub BuildsStatement : Lexemes → Command → Type 0
BuildsStatement = Built IsStatement capped_command

abbrev pub BuildsSession : Lexemes → ScriptLine → Type 0
BuildsSession = Built IsSessionCommand capped_line

pub no_condition : BuildsWhere [] None
no_condition = record { tree = None; is = g.absent; same = refl }

pub condition : (a : Lexemes) (x : Term) → BuildsTerm a x → BuildsWhere (Sign s.Where ∷ a) (Some x)
condition a x i = record { tree = Some i.tree; is = g.present a i.tree i.is; same = ap (λ z. Some z) i.same }

pub star : BuildsItems (Sign s.Star ∷ []) syntax.star
star = record { tree = syntax.star; is = g.star; same = refl }

pub terms : (a : Lexemes) (xs : List Term) → IsList comma BuildsTerm a xs → BuildsItems a (syntax.list xs)
terms a xs i = let w : Built (IsList comma IsTerm) (map capped) a xs = list-built i in
    record { tree = syntax.list w.tree; is = g.terms a w.tree w.is; same = ap (λ z. syntax.list z) w.same }

pub block : (a b w : Lexemes) (items : Items) (from : List Item) (cond : Option Term) → BuildsItems a items → IsList comma IsItem b from → BuildsWhere w cond
    → BuildsBlock (Sign s.Select ∷ (a ++ (Sign s.From ∷ (b ++ w)))) (record { items = items; from = from; cond = cond })
block a b w items from cond i j k = record {
  tree = record { items = i.tree; from = from; cond = k.tree };
  is = g.block a b w i.tree from k.tree i.is j k.is;
  same = ap (λ z. record { items = z; from = from; cond = cond }) i.same ∙ ap (λ z. record { items = capped_items i.tree; from = from; cond = z }) k.same;
}

pub query : (a : Lexemes) (xs : Query) → IsList g.union_all BuildsBlock a xs → BuildsQuery a xs
query a xs i = list-built i

pub set_term : (col : Bytes) (a : Lexemes) (x : Term) → BuildsTerm a x → BuildsSetTerm (Word col ∷ Sign s.Eq ∷ a) (record { col = col; term = x })
set_term col a x i = record { tree = record { col = col; term = i.tree }; is = g.set_term col a i.tree i.is; same = ap (λ z. record { col = col; term = z }) i.same }

pub insert_select : (table : Bytes) (a : Lexemes) (xs : Query) → BuildsQuery a xs
    → BuildsStatement (Sign s.Insert ∷ Sign s.Into ∷ Word table ∷ a) (syntax.insert_select table xs)
insert_select table a xs i = record {
  tree = syntax.insert_select table i.tree;
  is = record { command = g.insert_select table a i.tree i.is; statement = refl };
  same = ap (λ z. syntax.insert_select table z) i.same;
}

pub update : (table : Bytes) (a w : Lexemes) (sets : List SetTerm) (cond : Option Term) → IsList comma BuildsSetTerm a sets → BuildsWhere w cond
    → BuildsStatement (Sign s.Update ∷ Word table ∷ Sign s.Set ∷ (a ++ w)) (syntax.update table sets cond)
update table a w sets cond i j =
    let l : Built (IsList comma IsSetTerm) (map capped_set) a sets = list-built i in
    record {
      tree = syntax.update table l.tree j.tree;
      is = record { command = g.update table a w l.tree j.tree l.is j.is; statement = refl };
      same = ap (λ z. syntax.update table z cond) l.same ∙ ap (λ z. syntax.update table (map capped_set l.tree) z) j.same;
    }

pub delete : (table : Bytes) (w : Lexemes) (cond : Option Term) → BuildsWhere w cond
    → BuildsStatement (Sign s.Delete ∷ Sign s.From ∷ Word table ∷ w) (syntax.delete table cond)
delete table w cond i = record {
  tree = syntax.delete table i.tree;
  is = record { command = g.delete table w i.tree i.is; statement = refl };
  same = ap (λ z. syntax.delete table z) i.same;
}

pub select : (a : Lexemes) (xs : Query) → BuildsQuery a xs → BuildsStatement a (syntax.select xs)
select a xs i = record {
  tree = syntax.select i.tree;
  is = record { command = g.select a i.tree i.is; statement = refl };
  same = ap (λ z. syntax.select z) i.same;
}

-- a statement is built for a command
pub statement : (a : Lexemes) (x : Command) → BuildsStatement a x → BuildsCommand a x
statement a x i = record { tree = i.tree; is = i.is.command; same = i.same }

-- a command in which nothing is capped
pub as_is : (a : Lexemes) (x : Command) → IsCommand a x → capped_command x ≡ x → BuildsCommand a x
as_is a x i e = record { tree = x; is = i; same = sym e }

pub statement_as_is : (a : Lexemes) (x : Command) → IsCommand a x → is_statement x ≡ true → capped_command x ≡ x → BuildsStatement a x
statement_as_is a x i h e = record { tree = x; is = record { command = i; statement = h }; same = sym e }

pub in_session : (name : Bytes) (session : ℕ) (a : Lexemes) (x : Command) → session_of name ≡ Some session → BuildsCommand a x
    → BuildsSession (Word name ∷ Sign s.Colon ∷ a) (record { session = session; command = x })
in_session name session a x e i = record {
  tree = record { session = session; command = i.tree };
  is = g.in_session name session a i.tree e i.is;
  same = ap (λ z. record { session = session; command = z }) i.same;
}

-- what is built for a closed phrase
pub closed-built : {A : Type 0} {Is : Lexemes → A → Type 0} {cap : A → A} {a : Lexemes} {y : A} → Closed (Built Is cap) a y → Built (Closed Is) cap a y
closed-built (g.open_end a y i) = record { tree = i.tree; is = g.open_end a i.tree i.is; same = i.same }
closed-built (g.semicolon a y i) = record { tree = i.tree; is = g.semicolon a i.tree i.is; same = i.same }
