-- Part of the statement: the canonical lexemes of a command. Every operator is in brackets, a FROM name is written where it differs
-- from the table's, and nothing else is left to choose.
use Rattle.std.specs.Prelude.{suc, ℤ, pos, negsuc, ◌^◌, Bool, true, false, List, [], ◌∷◌, ◌++◌, Option, Some, None, codes, if◌then◌else◌, ◌==◌}
use Rattle.std.specs.List.{flat_map}
use Rattle.std.specs.Str.{bytes_eq}
use Rattle.gp_base.specs.declared.cell.Cell.{Cell}
use Rattle.gp_base.specs.declared.cell.Cell.TheVariants as cell
use Rattle.gp_base.specs.declared.table.Column.{Column}
use Rattle.gp_base.specs.declared.table.Kind.{Kind}
use Rattle.gp_base.specs.declared.table.Kind.TheVariants as kind
use Rattle.gp_lexer.specs.declared.lexeme.Symbol.{Symbol}
use Rattle.gp_lexer.specs.declared.lexeme.Symbol.TheVariants as s
use Rattle.gp_lexer.specs.declared.lexeme.Lexeme.{Lexeme}
use Rattle.gp_lexer.specs.declared.lexeme.Lexeme.TheVariants.{Symbol as Sign, Word, Number, Big, Text}
use Rattle.gp_lexer.specs.Layout.{laid_out}
use Rattle.gp_grammar.specs.declared.op.Op.{Op}
use Rattle.gp_grammar.specs.declared.op.Op.TheVariants as op
use Rattle.gp_grammar.specs.Syntax as y
use Rattle.gp_grammar.specs.Syntax.{Lexemes, Bytes, Term, SetTerm, Item, Items, Block, Query, Command}

abbrev pub symbol_of : Op → Symbol
symbol_of op.Add = s.Plus
symbol_of op.Sub = s.Minus
symbol_of op.Mul = s.Star
symbol_of op.Eq = s.Eq
symbol_of op.Ne = s.Ne
symbol_of op.Lt = s.Lt
symbol_of op.Le = s.Le
symbol_of op.Gt = s.Gt
symbol_of op.Ge = s.Ge
symbol_of op.And = s.And
symbol_of op.Or = s.Or

-- a number of a term; one below zero comes from no text, since there the sign is an operator
abbrev pub number_lexemes : ℤ → Lexemes
number_lexemes (pos n) = Number n ∷ []
number_lexemes (negsuc n) = Sign s.Minus ∷ Number (suc n) ∷ []

abbrev pub column_lexemes : Option Bytes → Bytes → Lexemes
column_lexemes None name = Word name ∷ []
column_lexemes (Some item) name = Word item ∷ Sign s.Dot ∷ Word name ∷ []

abbrev pub is_lexemes : Bool → Lexemes
is_lexemes true = Sign s.Is ∷ []
is_lexemes false = Sign s.Is ∷ Sign s.Not ∷ []

abbrev pub bracketed : Lexemes → Lexemes
bracketed ts = Sign s.Open ∷ (ts ++ (Sign s.Close ∷ []))

abbrev pub term_lexemes : Term → Lexemes
term_lexemes y.null = Sign s.Null ∷ []
term_lexemes (y.int n) = number_lexemes n
term_lexemes (y.text bytes) = Text bytes ∷ []
term_lexemes (y.col item name) = column_lexemes item name
term_lexemes (y.binary o a b) = bracketed (term_lexemes a ++ (Sign (symbol_of o) ∷ term_lexemes b))
term_lexemes (y.neg a) = bracketed (Sign s.Minus ∷ term_lexemes a)
term_lexemes (y.not a) = bracketed (Sign s.Not ∷ term_lexemes a)
term_lexemes (y.is_null a holds) = bracketed (term_lexemes a ++ (is_lexemes holds ++ (Sign s.Null ∷ [])))
term_lexemes (y.is_true a holds) = bracketed (term_lexemes a ++ (is_lexemes holds ++ (Sign s.True ∷ [])))
term_lexemes (y.case a b c) =
    Sign s.Case ∷ Sign s.When ∷ (term_lexemes a ++ (Sign s.Then ∷ (term_lexemes b ++ (Sign s.Else ∷ (term_lexemes c ++ (Sign s.End ∷ []))))))

-- the lexemes of each, with the separator between each two
abbrev pub joined_lexemes : {A : Type 0} → Lexemes → (A → Lexemes) → List A → Lexemes
joined_lexemes separator lexemes [] = []
joined_lexemes separator lexemes (x ∷ xs) = lexemes x ++ flat_map (λ y. separator ++ lexemes y) xs

abbrev pub listed_lexemes : {A : Type 0} → (A → Lexemes) → List A → Lexemes
listed_lexemes = joined_lexemes (Sign s.Comma ∷ [])

abbrev pub kind_lexeme : Kind → Lexeme
kind_lexeme kind.Int = Sign s.Int
kind_lexeme kind.Text = Sign s.Text

abbrev pub column_definition_lexemes : Column → Lexemes
column_definition_lexemes column = Word column.name ∷ kind_lexeme column.kind ∷ []

-- a cell of a system column is in no command, and is written as NULL
abbrev pub cell_lexemes : Cell → Lexemes
cell_lexemes cell.Null = Sign s.Null ∷ []
cell_lexemes (cell.Int (pos n)) = Number n ∷ []
cell_lexemes (cell.Int (negsuc n)) = Sign s.Minus ∷ (if suc n == 2 ^ 63 then Big else Number (suc n)) ∷ []
cell_lexemes (cell.Text bytes) = Text bytes ∷ []
cell_lexemes _ = Sign s.Null ∷ []

abbrev pub tuple_lexemes : List Cell → Lexemes
tuple_lexemes cells = bracketed (listed_lexemes cell_lexemes cells)

abbrev pub item_lexemes : Item → Lexemes
item_lexemes item = if bytes_eq item.table item.name then Word item.table ∷ [] else Word item.table ∷ Word item.name ∷ []

abbrev pub items_lexemes : Items → Lexemes
items_lexemes y.star = Sign s.Star ∷ []
items_lexemes (y.list xs) = listed_lexemes term_lexemes xs

abbrev pub condition_lexemes : Option Term → Lexemes
condition_lexemes None = []
condition_lexemes (Some x) = Sign s.Where ∷ term_lexemes x

abbrev pub block_lexemes : Block → Lexemes
block_lexemes block =
    Sign s.Select ∷ (items_lexemes block.items ++ (Sign s.From ∷ (listed_lexemes item_lexemes block.from ++ condition_lexemes block.cond)))

abbrev pub query_lexemes : Query → Lexemes
query_lexemes = joined_lexemes (Sign s.Union ∷ Sign s.All ∷ []) block_lexemes

abbrev pub set_lexemes : SetTerm → Lexemes
set_lexemes set = Word set.col ∷ Sign s.Eq ∷ term_lexemes set.term

abbrev pub command_lexemes : Command → Lexemes
command_lexemes (y.create table) = Sign s.Create ∷ Sign s.Table ∷ Word table.name ∷ bracketed (listed_lexemes column_definition_lexemes table.cols)
command_lexemes (y.begin false) = Sign s.Begin ∷ []
command_lexemes (y.begin true) = Sign s.Begin ∷ Word (codes "read") ∷ Word (codes "committed") ∷ []
command_lexemes y.Command.commit = Sign s.Commit ∷ []
command_lexemes y.rollback = Sign s.Rollback ∷ []
command_lexemes (y.insert table rows) = Sign s.Insert ∷ Sign s.Into ∷ Word table ∷ Sign s.Values ∷ listed_lexemes tuple_lexemes rows
command_lexemes (y.insert_select table query) = Sign s.Insert ∷ Sign s.Into ∷ Word table ∷ query_lexemes query
command_lexemes (y.update table sets cond) = Sign s.Update ∷ Word table ∷ Sign s.Set ∷ (listed_lexemes set_lexemes sets ++ condition_lexemes cond)
command_lexemes (y.delete table cond) = Sign s.Delete ∷ Sign s.From ∷ Word table ∷ condition_lexemes cond
command_lexemes (y.select query) = query_lexemes query

-- the canonical text of a command: READ and COMMITTED are in capitals like the reserved words, though a layout writes them as names
abbrev pub command_text : Command → Bytes
command_text (y.begin true) = codes "BEGIN READ COMMITTED"
command_text x = laid_out (command_lexemes x)
