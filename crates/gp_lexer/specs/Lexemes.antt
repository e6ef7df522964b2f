-- Part of the statement: the canonical spelling of each lexeme, and which lexemes there are. Reserved words are those of SQL (ISO/IEC 9075-2) that
-- the dialect has, and texts are written as character string literals of SQL: between quotes, with each quote in them twice.
use Rattle.std.specs.Prelude.{ℕ, List, [], ◌∷◌, ◌++◌, codes}
use Rattle.std.specs.Fmt.{decimal}
use Rattle.std.specs.List.{flat_map}
use Rattle.gp_base.specs.Texts.{quoted_byte}
use Rattle.gp_lexer.specs.declared.lexeme.Symbol.{Symbol}
use Rattle.gp_lexer.specs.declared.lexeme.Symbol.TheVariants as s
use Rattle.gp_lexer.specs.declared.lexeme.Lexeme.{Lexeme}
use Rattle.gp_lexer.specs.declared.lexeme.Lexeme.TheVariants.{Symbol as Sign, Word, Number, Big, Text}
use Rattle.gp_lexer.specs.declared.lexeme.TheConstants.{QUOTE}

-- a reserved word in capitals, or a sign
unfoldable pub symbol_text : Symbol → List ℕ
symbol_text s.All = codes "ALL"
symbol_text s.And = codes "AND"
symbol_text s.As = codes "AS"
symbol_text s.Begin = codes "BEGIN"
symbol_text s.Case = codes "CASE"
symbol_text s.Commit = codes "COMMIT"
symbol_text s.Create = codes "CREATE"
symbol_text s.Delete = codes "DELETE"
symbol_text s.Else = codes "ELSE"
symbol_text s.End = codes "END"
symbol_text s.From = codes "FROM"
symbol_text s.Insert = codes "INSERT"
symbol_text s.Int = codes "INT"
symbol_text s.Into = codes "INTO"
symbol_text s.Is = codes "IS"
symbol_text s.Not = codes "NOT"
symbol_text s.Null = codes "NULL"
symbol_text s.Or = codes "OR"
symbol_text s.Rollback = codes "ROLLBACK"
symbol_text s.Select = codes "SELECT"
symbol_text s.Set = codes "SET"
symbol_text s.Table = codes "TABLE"
symbol_text s.Text = codes "TEXT"
symbol_text s.Then = codes "THEN"
symbol_text s.True = codes "TRUE"
symbol_text s.Union = codes "UNION"
symbol_text s.Update = codes "UPDATE"
symbol_text s.Values = codes "VALUES"
symbol_text s.When = codes "WHEN"
symbol_text s.Where = codes "WHERE"
symbol_text s.Open = codes "("
symbol_text s.Close = codes ")"
symbol_text s.Comma = codes ","
symbol_text s.Dot = codes "."
symbol_text s.Colon = codes ":"
symbol_text s.Semicolon = codes ";"
symbol_text s.Plus = codes "+"
symbol_text s.Minus = codes "-"
symbol_text s.Star = codes "*"
symbol_text s.Eq = codes "="
symbol_text s.Ne = codes "<>"
symbol_text s.Lt = codes "<"
symbol_text s.Le = codes "<="
symbol_text s.Gt = codes ">"
symbol_text s.Ge = codes ">="

-- the canonical spelling of a lexeme
abbrev pub spelled : Lexeme → List ℕ
spelled (Sign symbol) = symbol_text symbol
spelled (Word word) = word
spelled (Number n) = decimal n
spelled Big = codes "9223372036854775808"
spelled (Text text) = QUOTE ∷ (flat_map quoted_byte text ++ QUOTE ∷ [])
