-- What is computed with the elements of a semiring is what the monomials of the annotated answer come to.
use Rattle.std.proofs.Common.{◌≡◌, ℕ, refl, sym, ap, ◌∙◌, cond, List, [], ◌∷◌, length, map, nat_lt, Option, Some, None, Result, Bool}
use Rattle.std.specs.List.{AllByRecursion}
use Rattle.std.specs.List.Sorted.{IsPermutation}
use Rattle.std.specs.Option.{option_or}
use Rattle.gp_base.specs.declared.cell.Cell.{Cell}
use Rattle.gp_base.specs.declared.refusal.Refusal.{Refusal}
use Rattle.gp_base.specs.declared.refusal.Refusal.TheVariants.{E27}
use Rattle.gp_base.specs.declared.table.Table.{Table}
use Rattle.gp_base.specs.declared.token.Token.{Token}
use Rattle.gp_base.specs.Annotated.{Annotated, monomials}
use Rattle.gp_base.specs.Order.{row_cmp}
use Rattle.gp_base.specs.RowOrder.{exact_rows, row_cmp_total}
use Rattle.gp_base.specs.Tokens.{Monomial}
use Rattle.gp_grammar.specs.Syntax as y
use Rattle.gp_versions.specs.declared.span.Span.{Span}
use Rattle.gp_algebra.specs.Answers.{Element, answer, cells_of, pairs_of}
use Rattle.gp_algebra.specs.Reannotation.{element_reannotated, reannotated}
use Rattle.gp_algebra.specs.Statements.{Select}
use Rattle.gp_semiring.specs.Semirings.{SemiringLaws}
use Rattle.gp_semiring.specs.Sums.{summed}
use Rattle.gp_semiring.specs.SumForms.{Each}
use Rattle.gp_semiring.specs.Totals.{total_at}
use Rattle.gp_base.proofs.Bags.{SameBag, first, none, swapped, through}
use Rattle.gp_semiring.proofs.GroupLemmas.{summed_bag}
use Rattle.gp_base.proofs.Permutations.{unpermuted}
use Rattle.gp_machine.specs.Annotating.{annotated_versions}
use Rattle.gp_machine.specs.QuestionForms.{identified}
use Rattle.gp_machine.specs.Entries.{Entry, log_of}
use Rattle.gp_machine.specs.Parameters.{Parameters}
use Rattle.gp_machine.specs.Points.{at_point}
use Rattle.gp_machine.specs.Questions.{annotation_stop, given, log_refusal, needed_version, own_stop}
use Rattle.gp_semiring.specs.Values.{monomial_value}
use Rattle.gp_kexec.specs.Valuing.{values_as_annotations}
use Rattle.gp_semiring.proofs.MonomialValues.{monomial_value-in}
use Rattle.gp_kexec.specs.SemiringForms.{counted, word_value, words}
use Rattle.gp_kexec.proofs.WordLemmas.{counted_carries, value_of_counted, word_carries}
use Rattle.gp_history.specs.DistinctRows.{distinct_rows}
use Rattle.gp_history.specs.Room.{HasRoom}
use Rattle.gp_history.specs.ValueAnswers.{all_elements, history_refusal, limited, row_values}
use Rattle.gp_history.specs.AnswerForms.{IgnoreAnnotations, carried, summed_answer, sums_of}
use Rattle.gp_history.specs.ValueForms.{value_answer}
use Rattle.gp_history.proofs.AnswerCounts.{IsCountable, elements_countable}
use Rattle.gp_history.proofs.DistinctLemmas.{rows_of, summed_totals}
use Rattle.gp_history.proofs.VersionReannotation.{elements_reannotated}
use Rattle.gp_base.proofs.SmallLemmas.{map-map, none_parts}

identified_as : {M N : Type 0} (h : M → N) (rows : List (Annotated M)) → identified (map (reannotated h) rows) ≡ identified rows
identified_as h rows = map-map _ (reannotated h) rows

mapped : {X Y : Type 0} (f : X → Y) {xs ys : List X} → SameBag xs ys → SameBag (map f xs) (map f ys)
mapped f none = none
mapped f (first s) = first (mapped f s)
mapped f swapped = swapped
mapped f (through s t) = through (mapped f s) (mapped f t)

-- ---- refusals in their order

module _ {K : Type 0} {element : K → Type 0} {zero_of one_of : K} {plus times_of : K → K → K} (laws : SemiringLaws element zero_of one_of plus times_of) (value : Token → K) (value_in : (t : Token) → element (value t)) where
  abbrev word : List Token → K
  word = word_value one_of times_of value

  abbrev of_monomial : Monomial → K
  of_monomial = monomial_value one_of times_of value

  abbrev valued : List Cell × Monomial → List Cell × K
  valued pair = (pair.0, of_monomial pair.1)

  each_valued : (pairs : List (List Cell × Monomial)) → Each (λ (pair : List Cell × K). element pair.1) (map valued pairs)
  each_valued [] = tt
  each_valued (pair ∷ pairs) = (monomial_value-in laws value value_in pair.1, each_valued pairs)

  -- elements whose values are those of their monomials
  pairs_same : (elements : List (Element (List Token))) → AllByRecursion IsCountable elements → pairs_of (map (element_reannotated word) elements) ≡ map valued (pairs_of (map (element_reannotated counted) elements))
  pairs_same [] few = refl
  pairs_same (e ∷ elements) few = λ i. (e.cells, sym (value_of_counted laws value value_in e.annotation few.0) i) ∷ pairs_same elements few.1 i

  -- their rows
  rows_same : (elements : List (Element Monomial)) → rows_of (map valued (pairs_of elements)) ≡ cells_of elements
  rows_same [] = refl
  rows_same (e ∷ elements) = ap (λ rows. e.cells ∷ rows) (rows_same elements)

  -- the values of rows are sums of the values of monomials, added row by row
  pub values_summed : (elements : List (Element Monomial)) → summed row_cmp plus (map valued (pairs_of elements)) ≡ row_values plus zero_of one_of times_of value elements
  values_summed elements =
      summed_totals element zero_of plus laws.plus_zero (map valued (pairs_of elements)) (each_valued (pairs_of elements))
      ∙ ap (λ rows. map (λ row. (row, total_at row_cmp zero_of plus row (map valued (pairs_of elements)))) (distinct_rows rows)) (rows_same elements)

  -- so they do not depend on the order of the elements
  pub values_moved : (elements others : List (Element Monomial)) → IsPermutation elements others → row_values plus zero_of one_of times_of value elements ≡ row_values plus zero_of one_of times_of value others
  values_moved elements others moved =
      sym (values_summed elements)
      ∙ summed_bag row_cmp row_cmp_total exact_rows element plus laws.plus_in laws.plus_assoc laws.plus_comm (map valued (pairs_of elements)) (map valued (pairs_of others))
      (mapped valued (mapped (λ (e : Element Monomial). (e.cells, e.annotation)) (unpermuted elements others moved))) (each_valued (pairs_of elements))
      ∙ values_summed others

  sums_same : (elements : List (Element (List Token))) → AllByRecursion IsCountable elements → sums_of plus (map (element_reannotated word) elements) ≡ row_values plus zero_of one_of times_of value (map (element_reannotated counted) elements)
  sums_same elements few = ap (summed row_cmp plus) (pairs_same elements few) ∙ values_summed (map (element_reannotated counted) elements)

  module _ (parameters : Parameters) (agree : List (Annotated Monomial) → List (Annotated Monomial) → Bool) (alike : List (Annotated K) → List (Annotated K) → Bool) (ignore : IgnoreAnnotations agree alike)
      (catalogue : List Table) (entries : List Entry) (spans : ℕ → List Span) (point : y.Point) (query : Select) (room : HasRoom parameters entries spans query) where
    -- the test of equal tables, over words
    abbrev agree_words : List (Annotated (List Token)) → List (Annotated (List Token)) → Bool
    agree_words rows others = agree (map (reannotated counted) rows) (map (reannotated counted) others)

    natural : (rows others : List (Annotated (List Token))) → alike (map (reannotated word) rows) (map (reannotated word) others) ≡ agree_words rows others
    natural rows others =
        sym (ignore.same (map (reannotated counted) rows) (map (reannotated counted) others) (map (reannotated word) rows) (map (reannotated word) others)
        (identified_as counted rows ∙ sym (identified_as word rows)) (identified_as counted others ∙ sym (identified_as word others)))

    abbrev spelled : Result (List (Element (List Token))) Refusal
    spelled = all_elements words parameters agree_words catalogue entries spans point query

    over_monomials : all_elements monomials parameters agree catalogue entries spans point query ≡ carried counted spelled
    over_monomials = elements_reannotated words monomials counted counted_carries spans parameters agree_words agree (λ rows others. refl) catalogue entries point query

    over_values : all_elements (values_as_annotations one_of times_of value) parameters alike catalogue entries spans point query ≡ carried word spelled
    over_values = elements_reannotated words (values_as_annotations one_of times_of value) word (word_carries laws value value_in) spans parameters agree_words alike natural catalogue entries point query

    countable : (refusal : Option Refusal) → history_refusal words parameters agree_words catalogue entries spans point ≡ refusal
        → limited parameters.answer (sums_of plus) (carried word (given refusal (answer words query (at_point words entries point (annotated_versions words entries spans)))))
        ≡ limited parameters.answer (row_values plus zero_of one_of times_of value) (carried counted (given refusal (answer words query (at_point words entries point (annotated_versions words entries spans)))))
    countable (Some refusal) e = refl
    countable None e =
        let later = none_parts (log_refusal entries point) (option_or (annotation_stop words parameters agree_words catalogue (log_of entries) spans (needed_version entries point)) (own_stop words parameters entries point (annotated_versions words entries spans))) e in
        let own = none_parts (annotation_stop words parameters agree_words catalogue (log_of entries) spans (needed_version entries point)) (own_stop words parameters entries point (annotated_versions words entries spans)) later.1 in
        ap (λ (rows : List (List Cell × K)). given (cond (nat_lt parameters.answer (length rows)) (Some E27) None) rows)
        (sums_same (answer words query (at_point words entries point (annotated_versions words entries spans))) (elements_countable parameters entries spans point query room own.1))

    pub values_are_sums : summed_answer parameters plus (values_as_annotations one_of times_of value) alike catalogue entries spans point query ≡ value_answer parameters plus zero_of one_of times_of value agree catalogue entries spans point query
    values_are_sums =
        ap (limited parameters.answer (sums_of plus)) over_values
        ∙ countable (history_refusal words parameters agree_words catalogue entries spans point) refl
        ∙ sym (ap (limited parameters.answer (row_values plus zero_of one_of times_of value)) over_monomials)
