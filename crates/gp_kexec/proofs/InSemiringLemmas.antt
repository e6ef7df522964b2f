-- The value of a row of a program is the sum over its occurrences of the values of their monomials.
use Rattle.gp_kexec.proofs.Prelude.{◌≡◌, ℕ, refl, sym, ap, ◌∙◌, cond, List, [], ◌∷◌, map, ◌||◌, find, list_any, eq_by_cmp, Cell, Token, Annotated, Environment, monomials, row_cmp, Monomial, IsMonomial, Program, Derived, program_meaning, reannotated, SemiringLaws, summed, Each, monomial_value, monomial_value-in, row_cmp_total, exact_rows}
use Rattle.std.proofs.Common.{Some, None}
use Rattle.gp_semiring.specs.Totals.{total_at}
use Rattle.gp_semiring.proofs.TotalLemmas.{find-summed}
use Rattle.gp_kexec.specs.Valuing.{values_as_annotations}
use Rattle.gp_kexec.specs.InSemiring.{in_semiring}
use Rattle.gp_kexec.specs.SemiringForms.{NoneStops, counted, derived_reannotated, environment_reannotated, spread, word_value, words}
use Rattle.gp_kexec.specs.Rows.{pairs_of}
use Rattle.gp_kexec.proofs.CarryLemmas.{program_carried}
use Rattle.gp_kexec.proofs.WordLemmas.{counted_carries, counted_spread, value_of_counted, word_carries, word_spread}

spread_back : (rows : List (Annotated Monomial)) → Each (λ (row : Annotated Monomial). IsMonomial row.annotation) rows → map (reannotated counted) (map (reannotated spread) rows) ≡ rows
spread_back [] h = refl
spread_back (row ∷ rows) h = λ i. record { identity = row.identity; cells = row.cells; mark = row.mark; annotation = counted_spread row.annotation h.0 i } ∷ spread_back rows h.1 i

module _ {K : Type 0} {element : K → Type 0} {zero_of one_of : K} {plus times_of : K → K → K} (laws : SemiringLaws element zero_of one_of plus times_of) (value : Token → K) (value_in : (t : Token) → element (value t)) where
  abbrev word : List Token → K
  word = word_value one_of times_of value

  abbrev of_monomial : Monomial → K
  of_monomial = monomial_value one_of times_of value

  spread_value : (rows : List (Annotated Monomial)) → map (reannotated word) (map (reannotated spread) rows) ≡ map (reannotated of_monomial) rows
  spread_value [] = refl
  spread_value (row ∷ rows) = λ i. record { identity = row.identity; cells = row.cells; mark = row.mark; annotation = word_spread laws value value_in row.annotation i } ∷ spread_value rows i

  -- pairs whose values are those of their monomials
  pairs_same : (rows : List (Derived (List Token))) → NoneStops rows →
      pairs_of (map (derived_reannotated word) rows) ≡ map (λ pair. (pair.0, of_monomial pair.1)) (pairs_of (map (derived_reannotated counted) rows))
  pairs_same [] h = refl
  pairs_same (row ∷ rows) h = λ i. (row.cells, sym (value_of_counted laws value value_in row.annotation h.0) i) ∷ pairs_same rows h.1 i

  abbrev valued : List Cell × Monomial → List Cell × K
  valued pair = (pair.0, of_monomial pair.1)

  each_valued : (pairs : List (List Cell × Monomial)) → Each (λ (pair : List Cell × K). element pair.1) (map valued pairs)
  each_valued [] = tt
  each_valued (pair ∷ pairs) = (monomial_value-in laws value value_in pair.1, each_valued pairs)

  any_valued : (row : List Cell) (pairs : List (List Cell × Monomial)) →
      list_any (λ (pair : List Cell × K). eq_by_cmp row_cmp row pair.0) (map valued pairs) ≡ list_any (λ (pair : List Cell × Monomial). eq_by_cmp row_cmp row pair.0) pairs
  any_valued row [] = refl
  any_valued row (pair ∷ pairs) = ap (λ b. eq_by_cmp row_cmp row pair.0 || b) (any_valued row pairs)

  module _ (env : Environment Monomial) (valid : (version table : ℕ) → Each (λ (row : Annotated Monomial). IsMonomial row.annotation) (env version table)) (program : Program)
      (none : NoneStops (program_meaning words (environment_reannotated spread env) program)) where
    abbrev over_values : List (List Cell × K)
    over_values = pairs_of (program_meaning (values_as_annotations one_of times_of value) (environment_reannotated of_monomial env) program)

    abbrev over_monomials : List (List Cell × Monomial)
    over_monomials = pairs_of (program_meaning monomials env program)

    -- occurrence by occurrence
    pairs_valued : over_values ≡ map valued over_monomials
    pairs_valued =
        let spelled = environment_reannotated spread env in
        let kind = values_as_annotations one_of times_of value in
        let rows = program_meaning words spelled program in
        ap (λ (e : Environment K). pairs_of (program_meaning kind e program)) (λ i version table. sym (spread_value (env version table)) i)
        ∙ (ap (λ found. pairs_of found) (program_carried words kind word (word_carries laws value value_in) spelled program)
        ∙ (pairs_same rows none
        ∙ sym (ap (λ (e : Environment Monomial). map valued (pairs_of (program_meaning monomials e program))) (λ i version table. sym (spread_back (env version table) (valid version table)) i)
        ∙ ap (λ found. map valued (pairs_of found)) (program_carried words monomials counted counted_carries spelled program))))

    pub values_sum : (row : List Cell) → total_at row_cmp zero_of plus row over_values ≡ in_semiring zero_of one_of plus times_of value over_monomials row
    values_sum row = ap (total_at row_cmp zero_of plus row) pairs_valued

    -- each row once, if it occurs at all
    pub values_found : (row : List Cell) → find row_cmp row (summed row_cmp plus over_values)
        ≡ cond (list_any (λ (pair : List Cell × Monomial). eq_by_cmp row_cmp row pair.0) over_monomials) (Some (in_semiring zero_of one_of plus times_of value over_monomials row)) None
    values_found row =
        ap (λ (pairs : List (List Cell × K)). find row_cmp row (summed row_cmp plus pairs)) pairs_valued
        ∙ (find-summed row_cmp row_cmp_total exact_rows element zero_of plus laws.plus_zero row (map valued over_monomials) (each_valued over_monomials)
        ∙ ap (λ b. cond b (Some (in_semiring zero_of one_of plus times_of value over_monomials row)) None) (any_valued row over_monomials))
