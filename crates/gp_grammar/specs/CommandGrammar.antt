-- Part of the statement: the grammar of commands and script lines, one constructor for each rule. Commands are from SQL (ISO/IEC 9075-2).
use Rattle.std.specs.Prelude.{◌≡◌, ℕ, suc, pos, negsuc, ◌-◌, ◌^◌, Bool, true, false, List, [], ◌∷◌, ◌++◌, Option, Some, None, codes, if◌then◌else◌, ◌&&◌, nat_le, nat_lt, ◌==◌}
use Rattle.std.specs.Str.{all_ascii_digits}
use Rattle.std.specs.Str.Parse.{digits_value}
use Rattle.gp_base.specs.declared.cell.Cell.{Cell}
use Rattle.gp_base.specs.declared.cell.Cell.TheVariants as cell
use Rattle.gp_base.specs.declared.table.Column.{Column}
use Rattle.gp_base.specs.declared.table.Kind.TheVariants as kind
use Rattle.gp_lexer.specs.declared.lexeme.Symbol.TheVariants as s
use Rattle.gp_lexer.specs.declared.lexeme.Lexeme.TheVariants.{Symbol as Sign, Word, Number, Big, Text}
use Rattle.gp_grammar.specs.declared.limits.TheConstants.{MAX_SESSION}
use Rattle.gp_grammar.specs.Syntax as y
use Rattle.gp_grammar.specs.Syntax.{Lexemes, Bytes, Term, SetTerm, Item, Items, Block, Query, Command, is_statement, ScriptLine}
use Rattle.gp_grammar.specs.Grammar.{IsTerm}

-- one or more phrases, with the separator between each two
pub data IsList {A : Type 0} (separator : Lexemes) (Is : Lexemes → A → Type 0) : Lexemes → List A → Type 0 where
  one : (a : Lexemes) (x : A) → Is a x → IsList separator Is a (x ∷ [])
  more : (a b : Lexemes) (xs : List A) (x : A) → IsList separator Is a xs → Is b x → IsList separator Is (a ++ (separator ++ b)) (xs ++ x ∷ [])

abbrev pub comma : Lexemes
comma = Sign s.Comma ∷ []

abbrev pub union_all : Lexemes
union_all = Sign s.Union ∷ Sign s.All ∷ []

pub data IsColumn : Lexemes → Column → Type 0 where
  int_column : (name : Bytes) → IsColumn (Word name ∷ Sign s.Int ∷ []) (record { name = name; kind = kind.Int })
  text_column : (name : Bytes) → IsColumn (Word name ∷ Sign s.Text ∷ []) (record { name = name; kind = kind.Text })

-- a cell of a tuple; the least number of 64 bits is a sign and a number that fits only with it
pub data IsLiteral : Lexemes → Cell → Type 0 where
  null : IsLiteral (Sign s.Null ∷ []) cell.Null
  text : (bytes : Bytes) → IsLiteral (Text bytes ∷ []) (cell.Text bytes)
  number : (n : ℕ) → IsLiteral (Number n ∷ []) (cell.Int (pos n))
  negative_zero : IsLiteral (Sign s.Minus ∷ Number 0 ∷ []) (cell.Int (pos 0))
  negative : (n : ℕ) → IsLiteral (Sign s.Minus ∷ Number (suc n) ∷ []) (cell.Int (negsuc n))
  least : IsLiteral (Sign s.Minus ∷ Big ∷ []) (cell.Int (negsuc (2 ^ 63 - 1)))

pub data IsTuple : Lexemes → List Cell → Type 0 where
  tuple : (a : Lexemes) (cells : List Cell) → IsList comma IsLiteral a cells → IsTuple (Sign s.Open ∷ (a ++ (Sign s.Close ∷ []))) cells

pub data IsItem : Lexemes → Item → Type 0 where
  table : (table : Bytes) → IsItem (Word table ∷ []) (record { table = table; name = table })
  alias : (table name : Bytes) → IsItem (Word table ∷ Word name ∷ []) (record { table = table; name = name })
  as_alias : (table name : Bytes) → IsItem (Word table ∷ Sign s.As ∷ Word name ∷ []) (record { table = table; name = name })

pub data IsItems : Lexemes → Items → Type 0 where
  star : IsItems (Sign s.Star ∷ []) y.star
  terms : (a : Lexemes) (terms : List Term) → IsList comma IsTerm a terms → IsItems a (y.list terms)

pub data IsWhere : Lexemes → Option Term → Type 0 where
  absent : IsWhere [] None
  present : (a : Lexemes) (x : Term) → IsTerm a x → IsWhere (Sign s.Where ∷ a) (Some x)

pub data IsBlock : Lexemes → Block → Type 0 where
  block : (a b w : Lexemes) (items : Items) (from : List Item) (cond : Option Term) → IsItems a items → IsList comma IsItem b from → IsWhere w cond
      → IsBlock (Sign s.Select ∷ (a ++ (Sign s.From ∷ (b ++ w)))) (record { items = items; from = from; cond = cond })

abbrev pub IsQuery : Lexemes → Query → Type 0
IsQuery = IsList union_all IsBlock

pub data IsSetTerm : Lexemes → SetTerm → Type 0 where
  set_term : (col : Bytes) (a : Lexemes) (x : Term) → IsTerm a x → IsSetTerm (Word col ∷ Sign s.Eq ∷ a) (record { col = col; term = x })

-- READ and COMMITTED are no reserved words, and have their meaning only after BEGIN
pub data IsCommand : Lexemes → Command → Type 0 where
  create : (name : Bytes) (a : Lexemes) (cols : List Column) → IsList comma IsColumn a cols
      → IsCommand (Sign s.Create ∷ Sign s.Table ∷ Word name ∷ Sign s.Open ∷ (a ++ (Sign s.Close ∷ []))) (y.create (record {
        name =
            name;
        cols = cols;
      }))
  begin : IsCommand (Sign s.Begin ∷ []) (y.begin false)
  begin_read_committed : IsCommand (Sign s.Begin ∷ Word (codes "read") ∷ Word (codes "committed") ∷ []) (y.begin true)
  commit : IsCommand (Sign s.Commit ∷ []) y.Command.commit
  rollback : IsCommand (Sign s.Rollback ∷ []) y.rollback
  insert : (table : Bytes) (a : Lexemes) (rows : List (List Cell)) → IsList comma IsTuple a rows
      → IsCommand (Sign s.Insert ∷ Sign s.Into ∷ Word table ∷ Sign s.Values ∷ a) (y.insert table rows)
  insert_select : (table : Bytes) (a : Lexemes) (query : Query) → IsQuery a query
      → IsCommand (Sign s.Insert ∷ Sign s.Into ∷ Word table ∷ a) (y.insert_select table query)
  update : (table : Bytes) (a w : Lexemes) (sets : List SetTerm) (cond : Option Term) → IsList comma IsSetTerm a sets → IsWhere w cond
      → IsCommand (Sign s.Update ∷ Word table ∷ Sign s.Set ∷ (a ++ w)) (y.update table sets cond)
  delete : (table : Bytes) (w : Lexemes) (cond : Option Term) → IsWhere w cond
      → IsCommand (Sign s.Delete ∷ Sign s.From ∷ Word table ∷ w) (y.delete table cond)
  select : (a : Lexemes) (query : Query) → IsQuery a query → IsCommand a (y.select query)

-- a command that is a statement
pub record IsStatement (lexemes : Lexemes) (x : Command) : Type 0 where
  pub command : IsCommand lexemes x
  pub statement : is_statement x ≡ true

-- a phrase after which one semicolon may follow
pub data Closed {A : Type 0} (Is : Lexemes → A → Type 0) : Lexemes → A → Type 0 where
  open_end : (a : Lexemes) (x : A) → Is a x → Closed Is a x
  semicolon : (a : Lexemes) (x : A) → Is a x → Closed Is (a ++ (Sign s.Semicolon ∷ [])) x

-- one digit or more, the first of which is not 0
abbrev pub is_number_without_zero : Bytes → Bool
is_number_without_zero [] = false
is_number_without_zero (d ∷ ds) = all_ascii_digits (d ∷ ds) && nat_lt 48 d

abbrev pub session_if : Bool → ℕ → Option ℕ
session_if valid n = if valid && nat_le n MAX_SESSION then Some n else None

-- the session of a name: s1 to the last one, without leading zero
abbrev pub session_of : Bytes → Option ℕ
session_of [] = None
session_of (b ∷ digits) = if b == 115 then session_if (is_number_without_zero digits) (digits_value 10 digits) else None

pub data IsSessionCommand : Lexemes → ScriptLine → Type 0 where
  in_session : (name : Bytes) (session : ℕ) (a : Lexemes) (x : Command) → session_of name ≡ Some session → IsCommand a x
      → IsSessionCommand (Word name ∷ Sign s.Colon ∷ a) (record { session = session; command = x })

-- the lexemes are a line of a script
abbrev pub IsScriptLine : Lexemes → ScriptLine → Type 0
IsScriptLine = Closed IsSessionCommand
