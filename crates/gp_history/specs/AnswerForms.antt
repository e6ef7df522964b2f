-- Of the laws `values_are_sums_over_the_history` and `annotated_answers_are_carried`: answers without annotations.
use Rattle.std.specs.Prelude.{◌≡◌, ℕ, Bool, List, map, Result, Ok, Err, [], ◌∷◌}
use Rattle.gp_base.specs.declared.cell.Cell.{Cell}
use Rattle.gp_base.specs.declared.refusal.Refusal.{Refusal}
use Rattle.gp_base.specs.declared.table.Table.{Table}
use Rattle.gp_base.specs.Annotated.{Annotations, Annotated}
use Rattle.gp_base.specs.Order.{row_cmp}
use Rattle.gp_grammar.specs.Syntax as y
use Rattle.gp_versions.specs.declared.span.Span.{Span}
use Rattle.gp_algebra.specs.Answers.{Element, answer, pairs_of}
use Rattle.gp_algebra.specs.Reannotation.{element_reannotated}
use Rattle.gp_algebra.specs.Statements.{Select}
use Rattle.gp_semiring.specs.Sums.{summed}
use Rattle.gp_machine.specs.QuestionForms.{identified}
use Rattle.gp_machine.specs.Entries.{Entry}
use Rattle.gp_machine.specs.Parameters.{Parameters}
use Rattle.gp_history.specs.ValueAnswers.{all_elements, limited}
use Rattle.std.specs.List.{AllByRecursion, list_any}
use Rattle.std.specs.Ordering.{eq_by_cmp}
use Rattle.std.specs.declared.cmp.Ordering.TheVariants.{Less}

-- two tests of equal tables, over rows with annotations of two kinds, that say the same of the same identities and cells
pub record IgnoreAnnotations {M N : Type 0} (agree : List (Annotated M) → List (Annotated M) → Bool) (alike : List (Annotated N) → List (Annotated N) → Bool) : Type 0 where
  pub same : (rows others : List (Annotated M)) (rows' others' : List (Annotated N)) → identified rows ≡ identified rows' → identified others ≡ identified others'
      → agree rows others ≡ alike rows' others'

-- the elements with other annotations, by a map of them
abbrev pub carried : {M N : Type 0} → (M → N) → Result (List (Element M)) Refusal → Result (List (Element N)) Refusal
carried h (Ok elements) = Ok (map (element_reannotated h) elements)
carried h (Err refusal) = Err refusal

module _ {K : Type 0} (plus : K → K → K) where
  -- the rows of elements of the semiring, each once in row order, with the sum of its elements as they were computed
  abbrev pub sums_of : List (Element K) → List (List Cell × K)
  sums_of elements = summed row_cmp plus (pairs_of elements)

module _ (parameters : Parameters) {K : Type 0} (plus : K → K → K) where
  -- what is computed with the elements of the semiring as annotations
  abbrev pub summed_answer : Annotations K → (List (Annotated K) → List (Annotated K) → Bool) → List Table → List Entry → (ℕ → List Span) → y.Point → Select → Result (List (List Cell × K)) Refusal
  summed_answer kind agree catalogue entries spans point query = limited parameters.answer (sums_of plus) (all_elements kind parameters agree catalogue entries spans point query)

-- strictly, so that none is there twice
abbrev pub AreAscending : List (List Cell) → Type 0
AreAscending [] = Unit {0}
AreAscending (row ∷ rows) = AllByRecursion (λ other. row_cmp row other ≡ Less) rows × AreAscending rows

abbrev pub occurs_in : List Cell → List (List Cell) → Bool
occurs_in row rows = list_any (λ other. eq_by_cmp row_cmp row other) rows
