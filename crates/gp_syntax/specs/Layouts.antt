-- Machinery: parts of canonical texts.
use Rattle.std.specs.Prelude.{Bool, true, false, [], ◌∷◌}
use Rattle.gp_lexer.specs.declared.lexeme.Symbol.TheVariants as s
use Rattle.gp_lexer.specs.declared.lexeme.Lexeme.TheVariants.{Symbol as Sign, Word}
use Rattle.gp_grammar.specs.Syntax.{Lexemes, Bytes, Command, begin}
use Rattle.gp_syntax.specs.declared.canonical.Separator.{Separator}
use Rattle.gp_syntax.specs.declared.canonical.Separator.TheVariants.{Comma, UnionAll}

-- the beginning of an INSERT
abbrev pub insert_into : Bytes → Lexemes
insert_into table = Sign s.Insert ∷ Sign s.Into ∷ Word table ∷ []

-- a BEGIN, whose canonical text may have words in capitals that no layout writes so
abbrev pub is_begin : Command → Bool
is_begin (begin read_committed) = true
is_begin _ = false

-- between the items of a list
abbrev pub separator_lexemes : Separator → Lexemes
separator_lexemes Comma = Sign s.Comma ∷ []
separator_lexemes UnionAll = Sign s.Union ∷ Sign s.All ∷ []
