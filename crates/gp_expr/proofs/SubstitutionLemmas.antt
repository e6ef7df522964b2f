-- What an expression with others in place of its columns gives: its value on the row of their values. It is simple where all of them are.
use Rattle.std.proofs.Common.{◌≡◌, ℕ, zero, suc, true, cond, List, [], ◌∷◌, map, refl, sym, ap, ◌∙◌}
use Rattle.std.specs.Prelude.{get_or, ◌+ℤ◌, ◌-ℤ◌, ◌*ℤ◌}
use Rattle.std.specs.List.{list_all}
use Rattle.std.proofs.Math.ListN.{get_or-map}
use Rattle.std.proofs.lemmas.Bool.{and_parts}
use Rattle.gp_base.specs.declared.cell.Cell.{Cell}
use Rattle.gp_base.specs.declared.cell.Cell.TheVariants as cell
use Rattle.gp_expr.specs.declared.expr.Expr.{Expr as Code}
use Rattle.gp_expr.specs.Expressions as e
use Rattle.gp_expr.specs.Expressions.{Expr, Cond, Parts}
use Rattle.gp_expr.specs.ExpressionForms.{is_simple, cond_is_simple}
use Rattle.gp_expr.specs.Substitution.{chosen, substituted, substituted_cond, substituted_parts, substituted_each}
use Rattle.gp_expr.specs.Views.{expr_view}
use Rattle.gp_expr.specs.Values.{value, truth, identities, column, on_numbers, negated, multiplied, with_source, made_identity, holds, compared, is_null, tested, both, either, negation}
use Rattle.gp_base.proofs.SmallLemmas.{both_follow}

-- the values of expressions on a row
abbrev pub values_on : List Cell → List Expr → List Cell
values_on row exprs = map (λ expr. value expr row) exprs

chosen_value : (n : ℕ) (inner : List Expr) (row : List Cell) → value (chosen n inner) row ≡ column n (values_on row inner)
chosen_value zero inner row = refl
chosen_value (suc n) inner row = sym (get_or-map (λ expr. value expr row) inner n (e.constant cell.Null))

mutual
  pub value_substituted : (expr : Expr) (inner : List Expr) (row : List Cell) → value (substituted expr inner) row ≡ value expr (map (λ x. value x row) inner)
  value_substituted (e.col n) inner row = chosen_value n inner row
  value_substituted (e.constant x) inner row = refl
  value_substituted (e.add a b) inner row = λ i. on_numbers ◌+ℤ◌ (value_substituted a inner row i) (value_substituted b inner row i)
  value_substituted (e.sub a b) inner row = λ i. on_numbers ◌-ℤ◌ (value_substituted a inner row i) (value_substituted b inner row i)
  value_substituted (e.mul a b) inner row = λ i. on_numbers ◌*ℤ◌ (value_substituted a inner row i) (value_substituted b inner row i)
  value_substituted (e.neg a) inner row = λ i. negated (value_substituted a inner row i)
  value_substituted (e.case c a b) inner row =
      λ i. cond (holds (truth_substituted c inner row i)) (value_substituted a inner row i) (value_substituted b inner row i)
  value_substituted (e.new_id t k b parts) inner row = λ i. made_identity t k b (identities_substituted parts inner row i)
  value_substituted (e.times a b) inner row = λ i. multiplied (value_substituted a inner row i) (value_substituted b inner row i)

  pub truth_substituted : (c : Cond) (inner : List Expr) (row : List Cell) → truth (substituted_cond c inner) row ≡ truth c (map (λ x. value x row) inner)
  truth_substituted e.always inner row = refl
  truth_substituted (e.compare cmp a b) inner row = λ i. compared cmp (value_substituted a inner row i) (value_substituted b inner row i)
  truth_substituted (e.is_null a wanted) inner row = λ i. tested wanted (is_null (value_substituted a inner row i))
  truth_substituted (e.is_true c wanted) inner row = λ i. tested wanted (holds (truth_substituted c inner row i))
  truth_substituted (e.and c d) inner row = λ i. both (truth_substituted c inner row i) (truth_substituted d inner row i)
  truth_substituted (e.or c d) inner row = λ i. either (truth_substituted c inner row i) (truth_substituted d inner row i)
  truth_substituted (e.not c) inner row = λ i. negation (truth_substituted c inner row i)

  pub identities_substituted : (parts : Parts) (inner : List Expr) (row : List Cell) →
      identities (substituted_parts parts inner) row ≡ identities parts (map (λ x. value x row) inner)
  identities_substituted e.no_parts inner row = refl
  identities_substituted (e.part a others) inner row = λ i. with_source (value_substituted a inner row i) (identities_substituted others inner row i)

pub values_substituted : (exprs inner : List Expr) (row : List Cell) →
    map (λ x. value x row) (substituted_each exprs inner) ≡ map (λ x. value x (map (λ y. value y row) inner)) exprs
values_substituted [] inner row = refl
values_substituted (expr ∷ exprs) inner row = λ i. value_substituted expr inner row i ∷ values_substituted exprs inner row i

-- the values of views, where the expressions are those of the code
values_of_views : (inner : List Code) (row : List Cell) → map (λ expr. value expr row) (map expr_view inner) ≡ map (λ a. value (expr_view a) row) inner
values_of_views [] row = refl
values_of_views (a ∷ inner) row = ap (λ rest. value (expr_view a) row ∷ rest) (values_of_views inner row)

pub value_of_views : (expr : Expr) (inner : List Code) (row : List Cell) →
    value (substituted expr (map expr_view inner)) row ≡ value expr (map (λ a. value (expr_view a) row) inner)
value_of_views expr inner row = value_substituted expr (map expr_view inner) row ∙ ap (value expr) (values_of_views inner row)

pub truth_of_views : (c : Cond) (inner : List Code) (row : List Cell) →
    truth (substituted_cond c (map expr_view inner)) row ≡ truth c (map (λ a. value (expr_view a) row) inner)
truth_of_views c inner row = truth_substituted c (map expr_view inner) row ∙ ap (truth c) (values_of_views inner row)

-- ---- simplicity

-- two tests follow from two others

simple_at : (n : ℕ) (inner : List Expr) → list_all is_simple inner ≡ true → is_simple (get_or inner n (e.constant cell.Null)) ≡ true
simple_at n [] all = refl
simple_at zero (expr ∷ inner) all = (and_parts (is_simple expr) (list_all is_simple inner) all).0
simple_at (suc n) (expr ∷ inner) all = simple_at n inner (and_parts (is_simple expr) (list_all is_simple inner) all).1

chosen_simple : (n : ℕ) (inner : List Expr) → list_all is_simple inner ≡ true → is_simple (chosen n inner) ≡ true
chosen_simple zero inner all = refl
chosen_simple (suc n) inner all = simple_at n inner all

mutual
  pub simple_substituted : (expr : Expr) (inner : List Expr) → list_all is_simple inner ≡ true → is_simple expr ≡ true → is_simple (substituted expr inner) ≡ true
  simple_substituted (e.col n) inner all so = chosen_simple n inner all
  simple_substituted (e.constant x) inner all so = refl
  simple_substituted (e.add a b) inner all so = both_follow _ _ _ _ (simple_substituted a inner all) (simple_substituted b inner all) so
  simple_substituted (e.sub a b) inner all so = both_follow _ _ _ _ (simple_substituted a inner all) (simple_substituted b inner all) so
  simple_substituted (e.mul a b) inner all so = both_follow _ _ _ _ (simple_substituted a inner all) (simple_substituted b inner all) so
  simple_substituted (e.neg a) inner all so = simple_substituted a inner all so
  simple_substituted (e.case c a b) inner all so =
      both_follow _ _ _ _ (simple_cond_substituted c inner all) (both_follow _ _ _ _ (simple_substituted a inner all) (simple_substituted b inner all)) so
  simple_substituted (e.new_id t k b parts) inner all so = so
  simple_substituted (e.times a b) inner all so = so

  pub simple_cond_substituted : (c : Cond) (inner : List Expr) → list_all is_simple inner ≡ true → cond_is_simple c ≡ true →
      cond_is_simple (substituted_cond c inner) ≡ true
  simple_cond_substituted e.always inner all so = refl
  simple_cond_substituted (e.compare cmp a b) inner all so = both_follow _ _ _ _ (simple_substituted a inner all) (simple_substituted b inner all) so
  simple_cond_substituted (e.is_null a wanted) inner all so = simple_substituted a inner all so
  simple_cond_substituted (e.is_true c wanted) inner all so = simple_cond_substituted c inner all so
  simple_cond_substituted (e.and c d) inner all so = both_follow _ _ _ _ (simple_cond_substituted c inner all) (simple_cond_substituted d inner all) so
  simple_cond_substituted (e.or c d) inner all so = both_follow _ _ _ _ (simple_cond_substituted c inner all) (simple_cond_substituted d inner all) so
  simple_cond_substituted (e.not c) inner all so = simple_cond_substituted c inner all so

pub simple_each_substituted : (exprs inner : List Expr) → list_all is_simple inner ≡ true → list_all is_simple exprs ≡ true →
    list_all is_simple (substituted_each exprs inner) ≡ true
simple_each_substituted [] inner all so = refl
simple_each_substituted (expr ∷ exprs) inner all so = both_follow _ _ _ _ (simple_substituted expr inner all) (simple_each_substituted exprs inner all) so
