-- Machinery: the parser of commands and script lines as a function.
use Rattle.std.specs.Prelude.{ℕ, zero, suc, pos, negsuc, ◌-◌, ◌^◌, Bool, true, false, List, [], ◌∷◌, ◌++◌, length, Option, Some, None, Ok, Err, codes, if◌then◌else◌}
use Rattle.std.specs.Str.{bytes_eq}
use Rattle.gp_base.specs.declared.cell.Cell.{Cell}
use Rattle.gp_base.specs.declared.cell.Cell.TheVariants as cell
use Rattle.gp_base.specs.declared.table.Column.{Column}
use Rattle.gp_base.specs.declared.table.Kind.TheVariants as kind
use Rattle.gp_lexer.specs.declared.lexeme.Symbol.{Symbol}
use Rattle.gp_lexer.specs.declared.lexeme.Symbol.TheVariants as s
use Rattle.gp_lexer.specs.declared.lexeme.Lexeme.{Lexeme}
use Rattle.gp_lexer.specs.declared.lexeme.Lexeme.TheVariants.{Symbol as Sign, Word, Number, Big, Text}
use Rattle.gp_grammar.specs.Syntax as y
use Rattle.gp_grammar.specs.Syntax.{Lexemes, Bytes, Term, SetTerm, Item, Items, Block, Query, Command, ScriptLine}
use Rattle.gp_grammar.specs.CommandGrammar.{session_of}
use Rattle.gp_grammar.specs.Parsing.{Parser, ◌>>=◌, by_option, strip, expect, identifier, term}

-- ---- combinators

-- the parser after this symbol, which has to be the first lexeme
infixl 10 ◌then◌
abbrev pub ◌then◌ : {A : Type 0} → Symbol → Parser A → Parser A
symbol then p = λ ts. expect symbol ts >>= p

-- one parser after the symbol, where it is the first lexeme, and another one where it is not
abbrev pub where_next : {A : Type 0} → Symbol → Parser A → Parser A → Parser A
where_next symbol some none = λ ts. by_option (strip symbol ts) (none ts) some

abbrev pub fail : {A : Type 0} → Parser A
fail ts = Err ts

abbrev pub accept : {A : Type 0} → A → Parser A
accept x ts = Ok (x, ts)

-- items as long as `next` finds that one follows, at most so many
unfoldable pub repeat : {S A : Type 0} → (Lexemes → Option Lexemes) → Parser A → (S → A → S) → ℕ → S → Parser S
repeat next item step zero found ts = Ok (found, ts)
repeat next item step (suc n) found ts =
    by_option (next ts) (Ok (found, ts)) (λ rest. item rest >>= (λ r. repeat next item step n (step found r.0) r.1))

-- items as long as `next` finds that one follows; no line has more items than lexemes
unfoldable pub many : {S A : Type 0} → (Lexemes → Option Lexemes) → Parser A → (S → A → S) → S → Parser S
many next item step found ts = repeat next item step (length ts) found ts

abbrev pub push : {A : Type 0} → List A → A → List A
push found x = found ++ x ∷ []

-- one item or more, with a comma between each two
unfoldable pub separated : {A : Type 0} → Parser A → Parser (List A)
separated item ts = item ts >>= (λ r. many (strip s.Comma) item push (r.0 ∷ []) r.1)

abbrev pub in_brackets : {A : Type 0} → Parser A → Parser A
in_brackets p = s.Open then (λ ts. p ts >>= (λ r. (s.Close then accept r.0) r.1))

-- one semicolon may follow
abbrev pub closed : {A : Type 0} → Parser A → Parser A
closed p ts = p ts >>= (λ r. where_next s.Semicolon (accept r.0) (accept r.0) r.1)

-- ---- words

abbrev pub is_word : Bytes → Lexeme → Bool
is_word text (Word word) = bytes_eq text word
is_word text (Sign symbol) = false
is_word text (Number n) = false
is_word text Big = false
is_word text (Text bytes) = false

-- the lexemes after this word, where it is the first
abbrev pub strip_word : Bytes → Lexemes → Option Lexemes
strip_word text [] = None
strip_word text (t ∷ ts) = if is_word text t then Some ts else None

abbrev pub where_word : {A : Type 0} → Bytes → Parser A → Parser A → Parser A
where_word text some none = λ ts. by_option (strip_word text ts) (none ts) some

abbrev pub expect_word : {A : Type 0} → Bytes → Parser A → Parser A
expect_word text p = where_word text p fail

-- ---- commands

unfoldable pub column : Parser Column
column ts = identifier ts >>= (λ r. where_next s.Int (accept (record { name = r.0; kind = kind.Int }))
    (s.Text then accept (record { name = r.0; kind = kind.Text })) r.1)

-- after the sign of a number
abbrev pub negative : Parser Cell
negative [] = Err []
negative (Number zero ∷ ts) = Ok (cell.Int (pos 0), ts)
negative (Number (suc n) ∷ ts) = Ok (cell.Int (negsuc n), ts)
negative (Big ∷ ts) = Ok (cell.Int (negsuc (2 ^ 63 - 1)), ts)
negative (Sign symbol ∷ ts) = Err (Sign symbol ∷ ts)
negative (Word word ∷ ts) = Err (Word word ∷ ts)
negative (Text bytes ∷ ts) = Err (Text bytes ∷ ts)

abbrev pub literal_by : Symbol → Lexemes → Parser Cell
literal_by s.Null whole ts = Ok (cell.Null, ts)
literal_by s.Minus whole ts = negative ts
literal_by _ whole ts = Err whole

abbrev pub literal : Parser Cell
literal [] = Err []
literal (Sign symbol ∷ ts) = literal_by symbol (Sign symbol ∷ ts) ts
literal (Number n ∷ ts) = Ok (cell.Int (pos n), ts)
literal (Text bytes ∷ ts) = Ok (cell.Text bytes, ts)
literal (Word word ∷ ts) = Err (Word word ∷ ts)
literal (Big ∷ ts) = Err (Big ∷ ts)

unfoldable pub tuple : Parser (List Cell)
tuple = in_brackets (separated literal)

abbrev pub named : Bytes → Bytes → Item
named table name = record { table = table; name = name }

-- a name without AS, or none
abbrev pub optional_name : Bytes → Parser Item
optional_name table [] = Ok (named table table, [])
optional_name table (Word name ∷ ts) = Ok (named table name, ts)
optional_name table (Sign symbol ∷ ts) = Ok (named table table, Sign symbol ∷ ts)
optional_name table (Number n ∷ ts) = Ok (named table table, Number n ∷ ts)
optional_name table (Big ∷ ts) = Ok (named table table, Big ∷ ts)
optional_name table (Text bytes ∷ ts) = Ok (named table table, Text bytes ∷ ts)

-- the name of an item, after its table
abbrev pub alias : Bytes → Parser Item
alias table = where_next s.As (λ rest. identifier rest >>= (λ r. Ok (named table r.0, r.1))) (optional_name table)

unfoldable pub item : Parser Item
item ts = identifier ts >>= (λ r. alias r.0 r.1)

unfoldable pub items : Parser Items
items = where_next s.Star (accept y.star) (λ ts. separated term ts >>= (λ r. Ok (y.list r.0, r.1)))

unfoldable pub condition : Parser (Option Term)
condition = where_next s.Where (λ ts. term ts >>= (λ r. Ok (Some r.0, r.1))) (accept None)

unfoldable pub block : Parser Block
block = s.Select then (λ ts. do
  listed ← items ts
  rest ← expect s.From listed.1
  from ← separated item rest
  cond ← condition from.1
  Ok (record { items = listed.0; from = from.0; cond = cond.0 }, cond.1))

unfoldable pub query : Parser Query
query ts = block ts >>= (λ r. many (strip s.Union) (s.All then block) push (r.0 ∷ []) r.1)

unfoldable pub set_term : Parser SetTerm
set_term ts = do
  col ← identifier ts
  rest ← expect s.Eq col.1
  new ← term rest
  Ok (record { col = col.0; term = new.0 }, new.1)

unfoldable pub create : Parser Command
create = s.Table then (λ ts. identifier ts >>= (λ name. in_brackets (separated column) name.1 >>= (λ r.
    Ok (y.create (record { name = name.0; cols = r.0 }), r.1))))

unfoldable pub insert : Parser Command
insert = s.Into then (λ ts. identifier ts >>= (λ table. where_next s.Values (λ rest. separated tuple rest >>= (λ r. Ok (y.insert table.0 r.0, r.1)))
    (λ rest. query rest >>= (λ r. Ok (y.insert_select table.0 r.0, r.1))) table.1))

unfoldable pub update : Parser Command
update ts = do
  table ← identifier ts
  rest ← expect s.Set table.1
  sets ← separated set_term rest
  cond ← condition sets.1
  Ok (y.update table.0 sets.0 cond.0, cond.1)

unfoldable pub delete : Parser Command
delete = s.From then (λ ts. identifier ts >>= (λ table. condition table.1 >>= (λ cond. Ok (y.delete table.0 cond.0, cond.1))))

-- what a BEGIN begins
unfoldable pub begin : Parser Command
begin = where_word (codes "read") (expect_word (codes "committed") (accept (y.begin true))) (accept (y.begin false))

abbrev pub statement_by : Symbol → Lexemes → Parser Command
statement_by s.Insert whole ts = insert ts
statement_by s.Update whole ts = update ts
statement_by s.Delete whole ts = delete ts
statement_by s.Select whole ts = query whole >>= (λ r. Ok (y.select r.0, r.1))
statement_by _ whole ts = Err whole

abbrev pub statement : Parser Command
statement [] = Err []
statement (Sign symbol ∷ ts) = statement_by symbol (Sign symbol ∷ ts) ts
statement (Word word ∷ ts) = Err (Word word ∷ ts)
statement (Number n ∷ ts) = Err (Number n ∷ ts)
statement (Big ∷ ts) = Err (Big ∷ ts)
statement (Text bytes ∷ ts) = Err (Text bytes ∷ ts)

abbrev pub command_by : Symbol → Lexemes → Parser Command
command_by s.Create whole ts = create ts
command_by s.Begin whole ts = begin ts
command_by s.Commit whole ts = Ok (y.Command.commit, ts)
command_by s.Rollback whole ts = Ok (y.rollback, ts)
command_by symbol whole ts = statement_by symbol whole ts

abbrev pub command : Parser Command
command [] = Err []
command (Sign symbol ∷ ts) = command_by symbol (Sign symbol ∷ ts) ts
command (Word word ∷ ts) = Err (Word word ∷ ts)
command (Number n ∷ ts) = Err (Number n ∷ ts)
command (Big ∷ ts) = Err (Big ∷ ts)
command (Text bytes ∷ ts) = Err (Text bytes ∷ ts)

-- ---- script lines

abbrev pub in_session : ℕ → Parser ScriptLine
in_session session = s.Colon then (λ rest. command rest >>= (λ r. Ok (record { session = session; command = r.0 }, r.1)))

abbrev pub session_command : Parser ScriptLine
session_command [] = Err []
session_command (Word name ∷ ts) = by_option (session_of name) (Err (Word name ∷ ts)) (λ session. in_session session ts)
session_command (Sign symbol ∷ ts) = Err (Sign symbol ∷ ts)
session_command (Number n ∷ ts) = Err (Number n ∷ ts)
session_command (Big ∷ ts) = Err (Big ∷ ts)
session_command (Text bytes ∷ ts) = Err (Text bytes ∷ ts)

abbrev pub script_line : Parser ScriptLine
script_line = closed session_command
