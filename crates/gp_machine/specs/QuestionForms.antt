-- Machinery: what laws say of questions and their answers: that a log has the state, that two answers are alike, and that rows are.
use Rattle.std.specs.List.Sorted.{IsPermutation}
use Rattle.std.specs.Prelude.{◌≡◌, ℕ, ◌≤◌, List, map, Some, Result, Ok, Err}
use Rattle.gp_base.specs.declared.cell.Cell.{Cell}
use Rattle.gp_base.specs.declared.refusal.Refusal.{Refusal}
use Rattle.gp_base.specs.Annotated.{Annotated}
use Rattle.gp_base.specs.Identities.{Identity}
use Rattle.gp_grammar.specs.Syntax as y
use Rattle.gp_algebra.specs.Answers.{Element}
use Rattle.gp_machine.specs.Entries.{Entry, statement_count, version_of, versions_in}

-- The log has it: the version was committed; the transaction made a version, and has this many statements.
pub data IsAsked : List Entry → y.Point → Type 0 where
  to_version : {entries : List Entry} {version : ℕ} → version ≤ versions_in entries → IsAsked entries (y.as_of version)
  to_statement : {entries : List Entry} {t k version : ℕ} → version_of t entries ≡ Some version → k ≤ statement_count t entries → IsAsked entries (y.after t k)
  to_commit : {entries : List Entry} {t version : ℕ} → version_of t entries ≡ Some version → IsAsked entries (y.Point.commit t)

-- the same refusal, or the same elements in any order
abbrev pub AreAlike : {M : Type 0} → Result (List (Element M)) Refusal → Result (List (Element M)) Refusal → Type 0
AreAlike (Ok elements) (Ok others) = IsPermutation elements others
AreAlike (Err refusal) (Err other) = refusal ≡ other
AreAlike (Ok elements) (Err other) = ⊥
AreAlike (Err refusal) (Ok others) = ⊥

-- rows without their annotations and marks
abbrev pub identified : {M : Type 0} → List (Annotated M) → List (Identity × List Cell)
identified rows = map (λ row. (row.identity, row.cells)) rows
