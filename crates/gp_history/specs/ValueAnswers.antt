-- Part of the statement: the values of the rows of an answer in a semiring, by their monomials; and the elements of an annotated answer, with its refusals
-- by the history. The limit of an answer is on distinct rows.
use Rattle.std.specs.Prelude.{ℕ, nat_lt, Bool, List, length, map, Option, Some, None, Result, Ok, Err, if◌then◌else◌}
use Rattle.std.specs.Option.{option_or}
use Rattle.gp_base.specs.declared.cell.Cell.{Cell}
use Rattle.gp_base.specs.declared.refusal.Refusal.{Refusal}
use Rattle.gp_base.specs.declared.refusal.Refusal.TheVariants.{E27}
use Rattle.gp_base.specs.declared.table.Table.{Table}
use Rattle.gp_base.specs.declared.token.Token.{Token}
use Rattle.gp_base.specs.Annotated.{Annotations, Annotated}
use Rattle.gp_base.specs.Tokens.{Monomial}
use Rattle.gp_grammar.specs.Syntax as y
use Rattle.gp_versions.specs.declared.span.Span.{Span}
use Rattle.gp_algebra.specs.Answers.{Element, answer, cells_of, pairs_of}
use Rattle.gp_algebra.specs.Statements.{Select}
use Rattle.gp_machine.specs.Annotating.{annotated_versions}
use Rattle.gp_machine.specs.Entries.{Entry, log_of}
use Rattle.gp_machine.specs.Parameters.{Parameters}
use Rattle.gp_machine.specs.Points.{at_point}
use Rattle.gp_machine.specs.Questions.{annotation_stop, given, log_refusal, needed_version, own_stop}
use Rattle.gp_kexec.specs.InSemiring.{in_semiring}
use Rattle.gp_history.specs.DistinctRows.{distinct_rows}

module _ {M : Type 0} (domain : Annotations M) (parameters : Parameters) (agree : List (Annotated M) → List (Annotated M) → Bool) (catalogue : List Table) (entries : List Entry) (spans : ℕ → List Span) (point : y.Point) where
  -- the refusals by the log, by the versions up to the one that is needed, and by the run that is asked about
  abbrev pub history_refusal : Option Refusal
  history_refusal =
      option_or (log_refusal entries point)
      (option_or (annotation_stop domain parameters agree catalogue (log_of entries) spans (needed_version entries point)) (own_stop domain parameters entries point (annotated_versions domain entries spans)))

  -- the elements of the answer, however many they are
  abbrev pub all_elements : Select → Result (List (Element M)) Refusal
  all_elements query = given history_refusal (answer domain query (at_point domain entries point (annotated_versions domain entries spans)))

-- rows with their values, made of the elements, unless they are too many
abbrev pub limited : {M K : Type 0} → ℕ → (List (Element M) → List (List Cell × K)) → Result (List (Element M)) Refusal → Result (List (List Cell × K)) Refusal
limited most values (Err refusal) = Err refusal
limited most values (Ok elements) = given (if nat_lt most (length (values elements)) then Some E27 else None) (values elements)

module _ {K : Type 0} (plus : K → K → K) where
  module _ (zero_of one_of : K) (times : K → K → K) (value : Token → K) where
    -- the distinct rows in row order, each with its value in the semiring: the sum, from zero, of the values of its monomials
    abbrev pub row_values : List (Element Monomial) → List (List Cell × K)
    row_values elements = map (λ row. (row, in_semiring zero_of one_of plus times value (pairs_of elements) row)) (distinct_rows (cells_of elements))
