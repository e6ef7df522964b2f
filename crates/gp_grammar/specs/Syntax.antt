-- Part of the statement: the abstract syntax of terms, commands and questions. The types of the parser's code are these with boxes.
use Rattle.std.specs.Prelude.{ℕ, ℤ, Bool, true, false, List, Option}
use Rattle.gp_base.specs.declared.cell.Cell.{Cell}
use Rattle.gp_base.specs.declared.table.Table.{Table}
use Rattle.gp_lexer.specs.declared.lexeme.Lexeme.{Lexeme}
use Rattle.gp_grammar.specs.declared.op.Op.{Op}
use Rattle.gp_grammar.specs.declared.semiring_name.SemiringName.{SemiringName}
use Rattle.gp_grammar.specs.declared.token_kind.TokenKind.{TokenKind}

abbrev pub Lexemes : Type 0
Lexemes = List Lexeme

-- names and texts are their bytes
abbrev pub Bytes : Type 0
Bytes = List ℕ

-- a term; a column has a FROM name before it or none, and IS NULL and IS TRUE are negated where the flag is false
pub data Term : Type 0 where
  null : Term
  int : ℤ → Term
  text : Bytes → Term
  col : Option Bytes → Bytes → Term
  binary : Op → Term → Term → Term
  neg not : Term → Term
  is_null is_true : Term → Bool → Term
  case : Term → Term → Term → Term

-- one assignment of an UPDATE
pub record SetTerm : Type 0 where
  pub col : Bytes
  pub term : Term

-- a table of a FROM and its name there, which is the table's own where none is written
pub record Item : Type 0 where
  pub table : Bytes
  pub name : Bytes

-- what a SELECT lists: all columns, or terms
pub data Items : Type 0 where
  star : Items
  list : List Term → Items

-- a SELECT
pub record Block : Type 0 where
  pub items : Items
  pub from : List Item
  pub cond : Option Term

-- blocks with UNION ALL between them
abbrev pub Query : Type 0
Query = List Block

-- a command; the transaction that BEGIN begins reads committed where the flag is true
pub data Command : Type 0 where
  create : Table → Command
  begin : Bool → Command
  commit rollback : Command
  insert : Bytes → List (List Cell) → Command
  insert_select : Bytes → Query → Command
  update : Bytes → List SetTerm → Option Term → Command
  delete : Bytes → Option Term → Command
  select : Query → Command

-- INSERT, UPDATE, DELETE and SELECT are statements
abbrev pub is_statement : Command → Bool
is_statement (create table) = false
is_statement (begin read_committed) = false
is_statement Command.commit = false
is_statement rollback = false
is_statement _ = true

pub record ScriptLine : Type 0 where
  pub session : ℕ
  pub command : Command

-- the state that a question asks about: a version, or a transaction after a statement or at its commit
pub data Point : Type 0 where
  as_of : ℕ → Point
  after : ℕ → ℕ → Point
  commit : ℕ → Point

-- the provenance tokens of a kind, whose numbers are the given ones
pub record Pattern : Type 0 where
  pub kind : TokenKind
  pub t : Option ℕ
  pub k : Option ℕ
  pub n : Option ℕ

-- the value of the tokens of a pattern
pub record Rule : Type 0 where
  pub kind : TokenKind
  pub t : Option ℕ
  pub k : Option ℕ
  pub n : Option ℕ
  pub value : ℕ

abbrev pub rule_of : Pattern → ℕ → Rule
rule_of pattern value = record { kind = pattern.kind; t = pattern.t; k = pattern.k; n = pattern.n; value = value }

-- rules, and the value of the tokens that none of them matches
pub record Rules : Type 0 where
  pub rules : List Rule
  pub other : Option ℕ

-- what a question asks for: rows, their provenance, the query that computes them (with provenance where the flag is true), their values
-- in a semiring, or the rows that are left without the tokens of some patterns, each with a rule that gives them the value 0
pub data How : Type 0 where
  rows provenance : How
  explain : Bool → How
  value : SemiringName → List Rule → Option ℕ → How
  without : List Rule → How

-- a change of a transaction: without its statement k, without any of its statements, with another command in the place of statement k, or with one
-- more at its end
pub data LogChange : Type 0 where
  drop : ℕ → ℕ → LogChange
  drop_all : ℕ → LogChange
  replace : ℕ → ℕ → Command → LogChange
  add : ℕ → Command → LogChange

-- what a query is asked of: a state, of which it asks for something, or what a transaction saw after its first statements, whatever became of it
pub data Subject : Type 0 where
  of_state : How → Point → Subject
  saw : ℕ → ℕ → Subject

-- one of the two sides of a difference: of the history, or of the one that there would be with some changes, made one after another
pub data Side : Type 0 where
  as_is : Subject → Side
  changed : List LogChange → Subject → Side

-- A question without terms. `changes` and `commit_changes` ask for the rows that a statement or a commit changed, `conflicts` for those on which a
-- transaction met others, `serial` whether the transactions could have run one after another, `anomalies` for all that kept them from it, `check` whether the
-- dump is that of a history.
pub data BareQuestion : Type 0 where
  transactions : BareQuestion
  log : ℕ → BareQuestion
  versions : Bytes → BareQuestion
  changes : ℕ → ℕ → BareQuestion
  commit_changes : ℕ → BareQuestion
  conflicts : ℕ → BareQuestion
  serial anomalies check : BareQuestion

-- A question. `history` asks for what changed the rows of a table on which a condition is true, `when` for the versions in which each row of a query is
-- there, `diff` for the difference between the rows of two sides, `causes` for the statements without which the rows would be others. `what_if` asks of the
-- history that there would be with some changes, made one after another. `explain_saw` asks for the query that computes what a transaction saw.
pub data Question : Type 0 where
  bare : BareQuestion → Question
  history : Bytes → Option Term → Question
  when : Query → Question
  diff : Side → Side → Query → Question
  causes : Subject → Query → Question
  ask : Subject → Query → Question
  what_if : List LogChange → Subject → Query → Question
  explain_saw : ℕ → ℕ → Query → Question
