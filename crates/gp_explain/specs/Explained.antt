-- Part of the statement: what the text of an explained query says. It is the text of one program. On every database of past versions, also one that no history
-- has, the program gives the rows of the query over the state that the statements of the transaction lead to there, each as often,
-- and with provenance each with its monomial.
use Rattle.std.specs.Prelude.{◌≡◌, ℕ, Bool, List, ◌++◌, map}
use Rattle.gp_base.specs.declared.cell.Cell.{Cell}
use Rattle.gp_base.specs.declared.cell.Cell.TheVariants as cell
use Rattle.gp_base.specs.Annotated.{Environment, monomials}
use Rattle.gp_base.specs.Tokens.{Monomial}
use Rattle.gp_grammar.specs.Syntax as y
use Rattle.gp_algebra.specs.Answers.{Element, answer}
use Rattle.gp_algebra.specs.Statements.{Select}
use Rattle.gp_algebra.specs.Plain.{PlainProgram, program_meaning}
use Rattle.gp_machine.specs.Entries.{Entry}
use Rattle.gp_machine.specs.Points.{at_point}
use Rattle.gp_compose.specs.Versions.{AreVersions}
use Rattle.gp_plantext.specs.Spelling.{Spells}
use Rattle.gp_prov.specs.Encoding.{encoded, noted}
use Rattle.gp_log.specs.LogFacts.{tables_in}

-- a row of the answer, with its monomial behind it if there is provenance
abbrev pub answer_row : Bool → Element Monomial → List Cell
answer_row prov element = element.cells ++ noted prov (cell.Mono element.annotation)

-- the text explains a query over a state of a log
pub record Explains (entries : List Entry) (point : y.Point) (select : Select) (prov : Bool) (text : List ℕ) : Type 0 where
  pub program : PlainProgram
  pub spelled : Spells (tables_in entries) program text
  pub means : (env : Environment Monomial) → AreVersions (tables_in entries) env
      → program_meaning (encoded prov env) program ≡ map (answer_row prov) (answer monomials select (at_point monomials entries point env))
