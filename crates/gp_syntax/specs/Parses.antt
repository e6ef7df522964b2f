-- Machinery: what a parser of the code returns, against the parser as a function.
use Rattle.std.specs.Prelude.{◌≡◌, ◌<◌, List, length, Option, Some, None, Result, Ok, Err}
use denote.Ref.{Bor}
use Rattle.gp_lexer.specs.declared.lexeme.Lexeme.{Lexeme}
use Rattle.gp_grammar.specs.Syntax as y
use Rattle.gp_grammar.specs.Syntax.{Lexemes}
use Rattle.gp_lexer.specs.declared.lexeme.Symbol.TheVariants as s
use Rattle.gp_lexer.specs.declared.lexeme.Symbol.{Symbol}
use Rattle.gp_grammar.specs.Parsing.{Outcome, Parser, ◌>>=◌, expect}
use Rattle.gp_grammar.specs.CommandParsing.{◌then◌, block, item, push, separated}
use Rattle.gp_syntax.specs.declared.error.ParseStop.{ParseStop}
use Rattle.gp_syntax.specs.declared.error.ParseStop.TheVariants.{At, NoMemory}
use Rattle.gp_syntax.specs.declared.built.Built.{Built}
use Rattle.gp_syntax.specs.Views.{term_view}

-- the result is that of the function, where its value is seen so; running out of memory says nothing of the lexemes
abbrev pub Parses : {X A : Type 0} → (X → A) → Result (X × Bor (List Lexeme)) ParseStop → Outcome (A × Lexemes) → Type 0
Parses view (Ok r) parsed = parsed ≡ Ok (view r.0, r.1.now)
Parses view (Err (At rest)) parsed = parsed ≡ Err rest.now
Parses view (Err NoMemory) parsed = Unit {0}

-- of a parser that gives the rest alone
abbrev pub Expects : Result (Bor (List Lexeme)) ParseStop → Outcome Lexemes → Type 0
Expects (Ok rest) parsed = parsed ≡ Ok rest.now
Expects (Err (At rest)) parsed = parsed ≡ Err rest.now
Expects (Err NoMemory) parsed = Unit {0}

-- fewer lexemes are left than there were
abbrev pub Shortens : {X : Type 0} → Result (X × Bor (List Lexeme)) ParseStop → Lexemes → Type 0
Shortens (Ok r) lexemes = length r.1.now < length lexemes
Shortens (Err e) lexemes = Unit {0}

-- the term under construction
abbrev pub built_view : Built → y.Term
built_view built = term_view built.term

-- of a parser of a whole line, which leaves no rest
abbrev pub ParsesAll : {X A : Type 0} → (X → A) → Result X ParseStop → Outcome A → Type 0
ParsesAll view (Ok x) parsed = parsed ≡ Ok (view x)
ParsesAll view (Err (At rest)) parsed = parsed ≡ Err rest.now
ParsesAll view (Err NoMemory) parsed = Unit {0}

-- a SELECT behind UNION
abbrev pub union_block : Parser y.Block
union_block = s.All then block

-- a FROM
abbrev pub from_clause : Parser (List y.Item)
from_clause = s.From then separated item

-- the lexemes behind a word that has to be the first
abbrev pub Strips : Result (Bor (List Lexeme)) ParseStop → Lexemes → Option Lexemes → Type 0
Strips (Ok rest) lexemes stripped = stripped ≡ Some rest.now
Strips (Err (At rest)) lexemes stripped = (stripped ≡ None) × (rest.now ≡ lexemes)
Strips (Err NoMemory) lexemes stripped = Unit {0}

-- the item at the end of a list
abbrev pub pushed : {A : Type 0} → List A → Outcome (A × Lexemes) → Outcome (List A × Lexemes)
pushed found parsed = parsed >>= (λ r. Ok (push found r.0, r.1))

-- of a parser that adds what it parses to a list
abbrev pub Extends : {A : Type 0} → List A → Result (Bor (List Lexeme)) ParseStop → Outcome (List A × Lexemes) → Type 0
Extends list (Ok rest) parsed = parsed ≡ Ok (list, rest.now)
Extends list (Err (At rest)) parsed = parsed ≡ Err rest.now
Extends list (Err NoMemory) parsed = Unit {0}

-- a parser and the symbol behind it
abbrev pub ends_with : {A : Type 0} → Symbol → Parser A → Parser A
ends_with symbol p ts = p ts >>= (λ r. expect symbol r.1 >>= (λ rest. Ok (r.0, rest)))
