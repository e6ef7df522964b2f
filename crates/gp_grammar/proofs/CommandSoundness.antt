-- The parser of commands is sound, and what it leaves before a fault begins a command.
use Rattle.gp_grammar.proofs.Prelude.{◌≡◌, ℕ, zero, suc, true, false, List, [], ◌∷◌, ◌++◌, Option, Some, None, Ok, Err, refl, codes, append-nil, Symbol, Sign, Word, Number, Big, Text, Lexemes, Bytes, Term, SetTerm, Item, Items, Block, Query, Command, ScriptLine, IsList, comma, union_all, IsColumn, IsLiteral, IsTuple, IsItem, IsCommand, session_of, Closed, ◌>>=◌, by_option, identifier, term, ◌then◌, accept, expect_word, separated, push, named}
use Rattle.gp_base.specs.declared.cell.Cell.TheVariants as cell
use Rattle.gp_base.specs.declared.table.Kind.TheVariants as kind
use Rattle.gp_lexer.specs.declared.lexeme.Symbol.TheVariants as s
use Rattle.gp_grammar.specs.Syntax as syntax
use Rattle.gp_grammar.specs.CommandGrammar as g
use Rattle.gp_grammar.specs.CommandParsing as c
use Rattle.gp_grammar.proofs.Building.{BuildsTerm}
use Rattle.gp_grammar.proofs.CommandBuilding as built
use Rattle.gp_grammar.proofs.CommandBuilding.{BuildsWhere, BuildsItems, BuildsBlock, BuildsQuery, BuildsSetTerm, BuildsCommand, BuildsStatement, BuildsSession, as_is, statement_as_is}
use Rattle.gp_grammar.proofs.Soundness.{Sentence, Sound, sound-ok, sound-err, sound-shift, sound-bind, sound-phrase, expect-sound, identifier-sound, term-sound}
use Rattle.gp_grammar.proofs.SoundCombinators.{next-sound, word-sound, expect_word-sound, list-sound, separated-sound, in_brackets-sound, closed-sound}

-- ---- literals and tuples

a_null : Sentence IsLiteral
a_null = record { lexemes = Sign s.Null ∷ []; tree = cell.Null; is = g.null }

negative_number : Sentence (λ b y. IsLiteral (Sign s.Minus ∷ b) y)
negative_number = record { lexemes = Big ∷ []; tree = _; is = g.least }

negative-sound : (ts : Lexemes) → Sound (λ b y. IsLiteral (Sign s.Minus ∷ b) y) ts (c.negative ts)
negative-sound [] = sound-err _ _ negative_number
negative-sound (Number zero ∷ ts) = record { used = Number zero ∷ []; split = refl; is = g.negative_zero }
negative-sound (Number (suc n) ∷ ts) = record { used = Number (suc n) ∷ []; split = refl; is = g.negative n }
negative-sound (Big ∷ ts) = record { used = Big ∷ []; split = refl; is = g.least }
negative-sound (Sign symbol ∷ ts) = sound-err _ _ negative_number
negative-sound (Word word ∷ ts) = sound-err _ _ negative_number
negative-sound (Text bytes ∷ ts) = sound-err _ _ negative_number

literal_by-sound : (symbol : Symbol) (ts : Lexemes) → Sound IsLiteral (Sign symbol ∷ ts) (c.literal_by symbol (Sign symbol ∷ ts) ts)
literal_by-sound s.Null ts = record { used = Sign s.Null ∷ []; split = refl; is = g.null }
literal_by-sound s.Minus ts = sound-shift IsLiteral (Sign s.Minus ∷ []) ts (c.negative ts) (negative-sound ts)
literal_by-sound _ ts = sound-err IsLiteral _ a_null

literal-sound : (ts : Lexemes) → Sound IsLiteral ts (c.literal ts)
literal-sound [] = sound-err IsLiteral _ a_null
literal-sound (Sign symbol ∷ ts) = literal_by-sound symbol ts
literal-sound (Number n ∷ ts) = record { used = Number n ∷ []; split = refl; is = g.number n }
literal-sound (Text bytes ∷ ts) = record { used = Text bytes ∷ []; split = refl; is = g.text bytes }
literal-sound (Word word ∷ ts) = sound-err IsLiteral _ a_null
literal-sound (Big ∷ ts) = sound-err IsLiteral _ a_null

tuple-sound : (ts : Lexemes) → Sound IsTuple ts (c.tuple ts)
unfolding c.tuple
tuple-sound ts = in_brackets-sound (IsList comma IsLiteral) IsTuple (separated c.literal) (λ a x i. g.tuple a x i) (separated-sound IsLiteral c.literal literal-sound) ts

column-sound : (ts : Lexemes) → Sound IsColumn ts (c.column ts)
unfolding c.column
column-sound ts = identifier-sound IsColumn ts _ (λ name ts1. next-sound s.Int (λ b y. IsColumn (Word name ∷ b) y)
    (accept (record { name = name; kind = kind.Int })) (s.Text then accept (record { name = name; kind = kind.Text })) ts1
    (λ ts2. sound-ok _ ts2 _ (g.int_column name))
    (expect-sound s.Text (λ b y. IsColumn (Word name ∷ b) y) ts1 (accept (record { name = name; kind = kind.Text })) (λ ts2. sound-ok _ ts2 _ (g.text_column name))))

-- ---- queries

optional_name-sound : (table : Bytes) (ts : Lexemes) → Sound (λ b y. IsItem (Word table ∷ b) y) ts (c.optional_name table ts)
optional_name-sound table [] = sound-ok _ _ (named table table) (g.table table)
optional_name-sound table (Word name ∷ ts) = record { used = Word name ∷ []; split = refl; is = g.alias table name }
optional_name-sound table (Sign symbol ∷ ts) = sound-ok _ _ (named table table) (g.table table)
optional_name-sound table (Number n ∷ ts) = sound-ok _ _ (named table table) (g.table table)
optional_name-sound table (Big ∷ ts) = sound-ok _ _ (named table table) (g.table table)
optional_name-sound table (Text bytes ∷ ts) = sound-ok _ _ (named table table) (g.table table)

item-sound : (ts : Lexemes) → Sound IsItem ts (c.item ts)
unfolding c.item
item-sound ts = identifier-sound IsItem ts _ (λ table ts1. next-sound s.As (λ b y. IsItem (Word table ∷ b) y) (λ rest. identifier rest >>= (λ r. Ok (named table r.0, r.1))) (c.optional_name table) ts1
    (λ ts2. identifier-sound (λ b y. IsItem (Word table ∷ Sign s.As ∷ b) y) ts2 _ (λ name ts3. sound-ok _ ts3 (named table name) (g.as_alias table name)))
    (optional_name-sound table ts1))

items-sound : (ts : Lexemes) → Sound BuildsItems ts (c.items ts)
unfolding c.items
items-sound ts = next-sound s.Star BuildsItems (accept syntax.star) (λ ts. separated term ts >>= (λ r. Ok (syntax.list r.0, r.1))) ts (λ ts1. sound-ok _ ts1 syntax.star built.star)
    (sound-bind (IsList comma BuildsTerm) BuildsItems ts (separated term ts) (λ r. Ok (syntax.list r.0, r.1)) (separated-sound BuildsTerm term term-sound ts)
    (λ a ts1 xs i. sound-ok (λ b y. BuildsItems (a ++ b) y) ts1 (syntax.list xs) (rw append-nil (built.terms a xs i))))

pub condition-sound : (ts : Lexemes) → Sound BuildsWhere ts (c.condition ts)
unfolding c.condition
condition-sound ts = next-sound s.Where BuildsWhere (λ ts. term ts >>= (λ r. Ok (Some r.0, r.1))) (accept None) ts
    (λ ts1. sound-bind BuildsTerm (λ b y. BuildsWhere (Sign s.Where ∷ b) y) ts1 (term ts1) _ (term-sound ts1) (λ a ts2 x i. sound-ok _ ts2 (Some x) (rw append-nil (built.condition a x i))))
    (sound-ok BuildsWhere ts None built.no_condition)

block-sound : (ts : Lexemes) → Sound BuildsBlock ts (c.block ts)
unfolding c.block
block-sound ts = expect-sound s.Select BuildsBlock ts _ (λ ts1.
    sound-bind BuildsItems (λ b y. BuildsBlock (Sign s.Select ∷ b) y) ts1 (c.items ts1) _ (items-sound ts1) (λ a ts2 items i.
    expect-sound s.From (λ b y. BuildsBlock (Sign s.Select ∷ (a ++ b)) y) ts2 _ (λ ts3.
    sound-bind (IsList comma IsItem) (λ b y. BuildsBlock (Sign s.Select ∷ (a ++ (Sign s.From ∷ b))) y) ts3 (separated c.item ts3) _ (separated-sound IsItem c.item item-sound ts3) (λ b ts4 from j.
    sound-bind BuildsWhere (λ w y. BuildsBlock (Sign s.Select ∷ (a ++ (Sign s.From ∷ (b ++ w)))) y) ts4 (c.condition ts4) _ (condition-sound ts4) (λ w ts5 cond k.
    sound-ok _ ts5 (record { items = items; from = from; cond = cond }) (let z : w ++ [] ≡ w = append-nil w in rw z (built.block a b w items from cond i j k)))))))

-- ALL and a block
data AllBlock : Lexemes → Block → Type 0 where
  all : (a : Lexemes) (x : Block) → BuildsBlock a x → AllBlock (Sign s.All ∷ a) x

all-sound : (ts : Lexemes) → Sound AllBlock ts ((s.All then c.block) ts)
all-sound ts = expect-sound s.All AllBlock ts c.block (λ ts1. sound-phrase BuildsBlock (λ b y. AllBlock (Sign s.All ∷ b) y) ts1 (c.block ts1) (λ b y i. all b y i) (block-sound ts1))

union-more : (prefix b : Lexemes) (xs : List Block) (x : Block) → IsList union_all BuildsBlock prefix xs → AllBlock b x
    → IsList union_all BuildsBlock (prefix ++ (Sign s.Union ∷ b)) (xs ++ x ∷ [])
union-more prefix _ xs _ i (all a x j) = g.more prefix a xs x i j

pub query-sound : (ts : Lexemes) → Sound BuildsQuery ts (c.query ts)
unfolding c.query
query-sound ts = sound-phrase (IsList union_all BuildsBlock) BuildsQuery ts _ (λ a xs i. built.query a xs i)
    (list-sound union_all BuildsBlock s.Union AllBlock union-more (s.All then c.block) all-sound c.block block-sound ts)

-- ---- commands

set_term-sound : (ts : Lexemes) → Sound BuildsSetTerm ts (c.set_term ts)
unfolding c.set_term
set_term-sound ts = identifier-sound BuildsSetTerm ts _ (λ col ts1. expect-sound s.Eq (λ b y. BuildsSetTerm (Word col ∷ b) y) ts1 _ (λ ts2.
    sound-bind BuildsTerm (λ b y. BuildsSetTerm (Word col ∷ Sign s.Eq ∷ b) y) ts2 (term ts2) _ (term-sound ts2)
    (λ a ts3 x i. sound-ok _ ts3 (record { col = col; term = x }) (rw append-nil (built.set_term col a x i)))))

create-sound : (ts : Lexemes) → Sound (λ b y. BuildsCommand (Sign s.Create ∷ b) y) ts (c.create ts)
unfolding c.create
create-sound ts = expect-sound s.Table (λ b y. BuildsCommand (Sign s.Create ∷ b) y) ts _ (λ ts1.
    identifier-sound (λ b y. BuildsCommand (Sign s.Create ∷ Sign s.Table ∷ b) y) ts1 _ (λ name ts2.
    sound-bind (λ b cols. (BuildsCommand (Sign s.Create ∷ Sign s.Table ∷ Word name ∷ b) (syntax.create (record { name = name; cols = cols }))))
    (λ b y. BuildsCommand (Sign s.Create ∷ Sign s.Table ∷ Word name ∷ b) y) ts2 (c.in_brackets (separated c.column) ts2) _
    (in_brackets-sound (IsList comma IsColumn) _ (separated c.column) (λ a cols i. as_is _ _ (g.create name a cols i) refl) (separated-sound IsColumn c.column column-sound) ts2)
    (λ b ts3 cols i. sound-ok _ ts3 (syntax.create (record { name = name; cols = cols })) (rw append-nil i))))

insert-sound : (ts : Lexemes) → Sound (λ b y. BuildsStatement (Sign s.Insert ∷ b) y) ts (c.insert ts)
unfolding c.insert
insert-sound ts = expect-sound s.Into (λ b y. BuildsStatement (Sign s.Insert ∷ b) y) ts _ (λ ts1.
    identifier-sound (λ b y. BuildsStatement (Sign s.Insert ∷ Sign s.Into ∷ b) y) ts1 _ (λ table ts2.
    next-sound s.Values (λ b y. BuildsStatement (Sign s.Insert ∷ Sign s.Into ∷ Word table ∷ b) y)
    (λ rest. separated c.tuple rest >>= (λ r. Ok (syntax.insert table r.0, r.1))) (λ rest. c.query rest >>= (λ r. Ok (syntax.insert_select table r.0, r.1))) ts2
    (λ ts3. sound-bind (IsList comma IsTuple) (λ b y. BuildsStatement (Sign s.Insert ∷ Sign s.Into ∷ Word table ∷ Sign s.Values ∷ b) y) ts3 (separated c.tuple ts3) _
    (separated-sound IsTuple c.tuple tuple-sound ts3)
    (λ a ts4 rows i. sound-ok _ ts4 (syntax.insert table rows) (rw append-nil (statement_as_is _ _ (g.insert table a rows i) refl refl))))
    (sound-bind BuildsQuery (λ b y. BuildsStatement (Sign s.Insert ∷ Sign s.Into ∷ Word table ∷ b) y) ts2 (c.query ts2) _ (query-sound ts2)
    (λ a ts3 xs i. sound-ok _ ts3 (syntax.insert_select table xs) (rw append-nil (built.insert_select table a xs i))))))

update-sound : (ts : Lexemes) → Sound (λ b y. BuildsStatement (Sign s.Update ∷ b) y) ts (c.update ts)
unfolding c.update
update-sound ts = identifier-sound (λ b y. BuildsStatement (Sign s.Update ∷ b) y) ts _ (λ table ts1.
    expect-sound s.Set (λ b y. BuildsStatement (Sign s.Update ∷ Word table ∷ b) y) ts1 _ (λ ts2.
    sound-bind (IsList comma BuildsSetTerm) (λ b y. BuildsStatement (Sign s.Update ∷ Word table ∷ Sign s.Set ∷ b) y) ts2 (separated c.set_term ts2) _
    (separated-sound BuildsSetTerm c.set_term set_term-sound ts2) (λ a ts3 sets i.
    sound-bind BuildsWhere (λ b y. BuildsStatement (Sign s.Update ∷ Word table ∷ Sign s.Set ∷ (a ++ b)) y) ts3 (c.condition ts3) _ (condition-sound ts3)
    (λ w ts4 cond j. sound-ok _ ts4 (syntax.update table sets cond) (let z : w ++ [] ≡ w = append-nil w in rw z (built.update table a w sets cond i j))))))

delete-sound : (ts : Lexemes) → Sound (λ b y. BuildsStatement (Sign s.Delete ∷ b) y) ts (c.delete ts)
unfolding c.delete
delete-sound ts = expect-sound s.From (λ b y. BuildsStatement (Sign s.Delete ∷ b) y) ts _ (λ ts1.
    identifier-sound (λ b y. BuildsStatement (Sign s.Delete ∷ Sign s.From ∷ b) y) ts1 _ (λ table ts2.
    sound-bind BuildsWhere (λ b y. BuildsStatement (Sign s.Delete ∷ Sign s.From ∷ Word table ∷ b) y) ts2 (c.condition ts2) _ (condition-sound ts2)
    (λ w ts3 cond i. sound-ok _ ts3 (syntax.delete table cond) (rw append-nil (built.delete table w cond i)))))

begin-sound : (ts : Lexemes) → Sound (λ b y. BuildsCommand (Sign s.Begin ∷ b) y) ts (c.begin ts)
unfolding c.begin
begin-sound ts = word-sound (codes "read") (λ b y. BuildsCommand (Sign s.Begin ∷ b) y) (expect_word (codes "committed") (accept (syntax.begin true))) (accept (syntax.begin false)) ts
    (λ ts1. expect_word-sound (codes "committed") (λ b y. BuildsCommand (Sign s.Begin ∷ Word (codes "read") ∷ b) y) (accept (syntax.begin true)) ts1
    (λ ts2. sound-ok _ ts2 (syntax.begin true) (as_is _ _ g.begin_read_committed refl)))
    (sound-ok _ ts (syntax.begin false) (as_is _ _ g.begin refl))

a_delete : Sentence BuildsStatement
a_delete = record {
  lexemes = Sign s.Delete ∷ Sign s.From ∷ Word (codes "r") ∷ [];
  tree = syntax.delete (codes "r") None;
  is = built.delete (codes "r") [] None built.no_condition;
}

statement_by-sound : (symbol : Symbol) (ts : Lexemes) → Sound BuildsStatement (Sign symbol ∷ ts) (c.statement_by symbol (Sign symbol ∷ ts) ts)
statement_by-sound s.Insert ts = sound-shift BuildsStatement (Sign s.Insert ∷ []) ts (c.insert ts) (insert-sound ts)
statement_by-sound s.Update ts = sound-shift BuildsStatement (Sign s.Update ∷ []) ts (c.update ts) (update-sound ts)
statement_by-sound s.Delete ts = sound-shift BuildsStatement (Sign s.Delete ∷ []) ts (c.delete ts) (delete-sound ts)
statement_by-sound s.Select ts = sound-bind BuildsQuery BuildsStatement (Sign s.Select ∷ ts) (c.query (Sign s.Select ∷ ts)) _ (query-sound (Sign s.Select ∷ ts))
    (λ a ts1 xs i. sound-ok _ ts1 (syntax.select xs) (rw append-nil (built.select a xs i)))
statement_by-sound _ ts = sound-err BuildsStatement _ a_delete

pub statement-sound : (ts : Lexemes) → Sound BuildsStatement ts (c.statement ts)
statement-sound [] = sound-err BuildsStatement _ a_delete
statement-sound (Sign symbol ∷ ts) = statement_by-sound symbol ts
statement-sound (Word word ∷ ts) = sound-err BuildsStatement _ a_delete
statement-sound (Number n ∷ ts) = sound-err BuildsStatement _ a_delete
statement-sound (Big ∷ ts) = sound-err BuildsStatement _ a_delete
statement-sound (Text bytes ∷ ts) = sound-err BuildsStatement _ a_delete

a_begin : Sentence BuildsCommand
a_begin = record { lexemes = Sign s.Begin ∷ []; tree = syntax.begin false; is = as_is _ _ g.begin refl }

command_by-sound : (symbol : Symbol) (ts : Lexemes) → Sound BuildsCommand (Sign symbol ∷ ts) (c.command_by symbol (Sign symbol ∷ ts) ts)
command_by-sound s.Create ts = sound-shift BuildsCommand (Sign s.Create ∷ []) ts (c.create ts) (create-sound ts)
command_by-sound s.Begin ts = sound-shift BuildsCommand (Sign s.Begin ∷ []) ts (c.begin ts) (begin-sound ts)
command_by-sound s.Commit ts = record { used = Sign s.Commit ∷ []; split = refl; is = as_is _ _ g.commit refl }
command_by-sound s.Rollback ts = record { used = Sign s.Rollback ∷ []; split = refl; is = as_is _ _ g.rollback refl }
command_by-sound symbol ts = sound-phrase BuildsStatement BuildsCommand (Sign symbol ∷ ts) (c.statement_by symbol (Sign symbol ∷ ts) ts) (λ a y i. built.statement a y i) (statement_by-sound symbol ts)

pub command-sound : (ts : Lexemes) → Sound BuildsCommand ts (c.command ts)
command-sound [] = sound-err BuildsCommand _ a_begin
command-sound (Sign symbol ∷ ts) = command_by-sound symbol ts
command-sound (Word word ∷ ts) = sound-err BuildsCommand _ a_begin
command-sound (Number n ∷ ts) = sound-err BuildsCommand _ a_begin
command-sound (Big ∷ ts) = sound-err BuildsCommand _ a_begin
command-sound (Text bytes ∷ ts) = sound-err BuildsCommand _ a_begin

-- ---- script lines

a_line : Sentence BuildsSession
a_line = record { lexemes = Word (codes "s1") ∷ Sign s.Colon ∷ Sign s.Begin ∷ []; tree = _; is = built.in_session (codes "s1") 1 (Sign s.Begin ∷ []) (syntax.begin false) refl (as_is _ _ g.begin refl) }

session-sound : (name : Bytes) (ts : Lexemes) (o : Option ℕ) → session_of name ≡ o
    → Sound BuildsSession (Word name ∷ ts) (by_option o (Err (Word name ∷ ts)) (λ session. c.in_session session ts))
session-sound name ts None e = sound-err BuildsSession _ a_line
session-sound name ts (Some session) e = sound-shift BuildsSession (Word name ∷ []) ts (c.in_session session ts)
    (expect-sound s.Colon (λ b y. BuildsSession (Word name ∷ b) y) ts _ (λ ts1.
    sound-bind BuildsCommand (λ b y. BuildsSession (Word name ∷ Sign s.Colon ∷ b) y) ts1 (c.command ts1) _ (command-sound ts1)
    (λ a ts2 x i. sound-ok _ ts2 (record { session = session; command = x }) (rw append-nil (built.in_session name session a x e i)))))

session_command-sound : (ts : Lexemes) → Sound BuildsSession ts (c.session_command ts)
session_command-sound [] = sound-err BuildsSession _ a_line
session_command-sound (Word name ∷ ts) = session-sound name ts (session_of name) refl
session_command-sound (Sign symbol ∷ ts) = sound-err BuildsSession _ a_line
session_command-sound (Number n ∷ ts) = sound-err BuildsSession _ a_line
session_command-sound (Big ∷ ts) = sound-err BuildsSession _ a_line
session_command-sound (Text bytes ∷ ts) = sound-err BuildsSession _ a_line

pub script_line-sound : (ts : Lexemes) → Sound (Closed BuildsSession) ts (c.script_line ts)
script_line-sound = closed-sound BuildsSession c.session_command session_command-sound
