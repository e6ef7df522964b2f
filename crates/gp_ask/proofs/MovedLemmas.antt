-- What does not depend on the order of the elements of an answer: its distinct rows, and what remains of it.
use Rattle.std.proofs.Common.{◌≡◌, Bool, cond, nat_lt, List, [], ◌∷◌, length, map, Option, Some, None, refl, sym, ap, ◌∙◌}
use Rattle.std.specs.Prelude.{◌||◌, not}
use Rattle.std.specs.List.{filter}
use Rattle.std.specs.Option.{option_or}
use Rattle.std.specs.List.Sorted.{IsPermutation}
use Rattle.std.proofs.lemmas.List.Sorted.{IsPermutation-map}
use Rattle.gp_base.specs.declared.cell.Cell.{Cell}
use Rattle.gp_base.specs.declared.refusal.Refusal.{Refusal}
use Rattle.gp_base.specs.declared.refusal.Refusal.TheVariants.{E27}
use Rattle.gp_base.specs.declared.token.Token.{Token}
use Rattle.gp_base.specs.Annotated.{Database, monomials}
use Rattle.gp_base.specs.Order.{row_cmp}
use Rattle.gp_base.specs.RowOrder.{exact_rows, row_cmp_total}
use Rattle.gp_base.specs.Tokens.{Monomial}
use Rattle.gp_algebra.specs.Answers.{Element, answer, cells_of}
use Rattle.gp_algebra.specs.Statements.{Select}
use Rattle.gp_base.proofs.Bags as bags
use Rattle.gp_base.proofs.Permutations as permutations
use Rattle.gp_log.specs.Parameters.{parameters}
use Rattle.gp_machine.specs.Questions.{given}
use Rattle.gp_semiring.specs.Sums.{summed}
use Rattle.gp_base.proofs.Bags.{SameBag}
use Rattle.gp_base.proofs.Bags.SameBag.{none, swapped, through}
use Rattle.gp_semiring.specs.SumForms.{Each}
use Rattle.gp_semiring.proofs.GroupLemmas.{summed_bag}
use Rattle.gp_base.proofs.Permutations.{unpermuted}
use Rattle.gp_history.specs.DistinctRows.{distinct_rows}
use Rattle.gp_history.proofs.DistinctLemmas.{rows_of, rows_summed}
use Rattle.gp_kexec.specs.Deletion.{has_token}
use Rattle.gp_kexec.proofs.DeletionLemmas.{answer_reduced, monomials_find}
use Rattle.gp_ask.specs.declared.answered.Answered.TheVariants.{Rows}
use Rattle.gp_ask.specs.Asking.{of_elements}
use Rattle.gp_ask.specs.Remaining.{are_too_many, remaining, remaining_answer}
use Rattle.gp_serial.proofs.RunningLemmas.{sorted_same}

-- what each item holds, in any order
pub each_moved : {X : Type 0} (P : X → Type 0) (xs ys : List X) → SameBag xs ys → Each P xs → Each P ys
each_moved P [] [] none are = tt
each_moved P xs ys (SameBag.first {x = x} {xs = us} {ys = vs} s) are = (are.0, each_moved P us vs s are.1)
each_moved P xs ys (swapped {x = x} {y = y} {xs = us}) are = (are.1.0, (are.0, are.1.1))
each_moved P xs ys (through {xs = us} {ys = vs} {zs = ws} s t) are = each_moved P vs ws t (each_moved P us vs s are)

-- ---- distinct rows

-- nothing is added up but the rows themselves
abbrev nothing : Unit {0} → Unit {0} → Unit {0}
nothing a b = tt

abbrev alone : List Cell → List Cell × Unit {0}
alone row = (row, tt)

rows_alone : (rows : List (List Cell)) → rows_of (map alone rows) ≡ rows
rows_alone [] = refl
rows_alone (row ∷ rows) = ap (λ others. row ∷ others) (rows_alone rows)

each_alone : (rows : List (List Cell)) → Each (λ (pair : List Cell × Unit {0}). Unit {0}) (map alone rows)
each_alone [] = tt
each_alone (row ∷ rows) = (tt, each_alone rows)

distinct_is : (rows : List (List Cell)) → rows_of (summed row_cmp nothing (map alone rows)) ≡ distinct_rows rows
distinct_is rows = rows_summed nothing (map alone rows) ∙ ap distinct_rows (rows_alone rows)

pub distinct_moved : (rows others : List (List Cell)) → IsPermutation rows others → distinct_rows rows ≡ distinct_rows others
distinct_moved rows others moved =
    sym (distinct_is rows)
    ∙ ap rows_of
    (summed_bag row_cmp row_cmp_total exact_rows (λ (a : Unit {0}). Unit {0}) nothing (λ a b p q. tt) (λ a b c p q r. refl) (λ a b p q. refl) (map alone rows) (map alone others)
    (unpermuted (map alone rows) (map alone others) (IsPermutation-map alone rows others moved)) (each_alone rows))
    ∙ distinct_is others

-- ---- what remains

module _ (matches : Token → Bool) (select : Select) (db past : Database Monomial) (moved : IsPermutation (answer monomials select db) (answer monomials select past)) where
  abbrev has : Monomial → Bool
  has = has_token matches

  abbrev stays : Element Monomial → Bool
  stays element = not (has element.annotation)

  remaining_is : (other : Database Monomial) → remaining has select other ≡ filter stays (answer monomials select other)
  remaining_is other = sym (answer_reduced monomials has (monomials_find matches) 1 select other)

  remaining_bag : bags.SameBag (remaining has select db) (remaining has select past)
  remaining_bag =
      bags.through (bags.same_from _ _ (remaining_is db))
      (bags.through (bags.filtered stays (permutations.unpermuted (answer monomials select db) (answer monomials select past) moved))
      (bags.same_from _ _ (sym (remaining_is past))))

  too_many_moved : are_too_many has select db ≡ are_too_many has select past
  too_many_moved =
      let distinct = distinct_moved (cells_of (answer monomials select db)) (cells_of (answer monomials select past)) (IsPermutation-map (λ (element : Element Monomial). element.cells) _ _ moved) in
      let rest = bags.as_long remaining_bag in
      λ i. nat_lt parameters.answer (length (distinct i)) || nat_lt parameters.answer (rest i)

  listed_moved : (own : Option Refusal) → of_elements (given own (remaining has select db)) ≡ of_elements (given own (remaining has select past))
  listed_moved None = ap Rows (sorted_same _ _ (IsPermutation-map (λ (element : Element Monomial). element.cells) _ _ (permutations.permuted _ _ remaining_bag)))
  listed_moved (Some refusal) = refl

  pub remaining_moved : (refusal : Option Refusal) → of_elements (remaining_answer has select db refusal) ≡ of_elements (remaining_answer has select past refusal)
  remaining_moved refusal =
      ap (λ many. of_elements (given (option_or refusal (cond many (Some E27) None)) (remaining has select db))) too_many_moved
      ∙ listed_moved (option_or refusal (cond (are_too_many has select past) (Some E27) None))
