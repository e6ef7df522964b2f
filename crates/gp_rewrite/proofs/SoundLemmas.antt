-- Rewritten statements and queries are sound: their expressions are simple, and their numbers count from 1.
use Rattle.std.proofs.Common.{◌≡◌, ◌<◌, ℕ, zero, suc, Bool, true, false, cond, List, [], ◌∷◌, length, refl, arith, Option, Some, None}
use Rattle.std.specs.Prelude.{◌&&◌, ◌==◌, ◌^◌, nat_lt}
use Rattle.std.specs.List.{AllByRecursion, list_all}
use Rattle.std.proofs.lemmas.Bool.Decides.{nat_tests}
use Rattle.gp_base.specs.declared.table.Table.{Table}
use Rattle.gp_expr.specs.Expressions.{Expr, Cond}
use Rattle.gp_expr.specs.ExpressionForms.{cond_is_simple, is_simple}
use Rattle.gp_algebra.specs.Statements.{SetExpr, Branch, Select, Statement, insert, insert_select, update, delete, read}
use Rattle.gp_algebra.specs.Effects.{set_for}
use Rattle.gp_algebra.specs.Fitting.{select_fits, select_width, statement_fits}
use Rattle.gp_algebra.specs.Statements.{width_of}
use Rattle.gp_algebra.specs.Simple.{where_is_simple}
use Rattle.gp_algebra.specs.AnnotatedQueries as q
use Rattle.gp_algebra.specs.AnnotatedQueries.{Query}
use Rattle.gp_algebra.specs.QueryForms.{is_sound}
use Rattle.gp_rewrite.specs.Rewriting.{branch_of, cased, made_of, made_onto, product_of, query_of, rewritten, selected_by, updated_from}
use Rattle.gp_rewrite.specs.RewritingForms.{product_onto, union_onto}
use Rattle.gp_rewrite.proofs.FitLemmas.{AreFit, IsFit, delete_is_simple, given_are_few, inserted_are_fit, select_is_fit, sets_are_simple, update_is_simple}
use Rattle.gp_base.proofs.SmallLemmas.{left_true, right_true}
use Rattle.std.proofs.lemmas.Bool.{and_from}

above_zero : (n : ℕ) → 0 < n → nat_lt 0 n ≡ true
above_zero n l = grind (arith, nat_tests)

-- ---- the columns of an UPDATE

abbrev expr_is_simple : Option Expr → Bool
expr_is_simple None = true
expr_is_simple (Some e) = is_simple e

set_simple : (n : ℕ) (sets : List SetExpr) → list_all (λ (set : SetExpr). is_simple set.expr) sets ≡ true → expr_is_simple (set_for n sets) ≡ true
set_simple n [] e = refl
set_simple n (set ∷ sets) e = go (set.col == n) (set_simple n sets (right_true (is_simple set.expr) (list_all (λ (set : SetExpr). is_simple set.expr) sets) e))
  where
    go : (b : Bool) → expr_is_simple (set_for n sets) ≡ true → expr_is_simple (cond b (Some set.expr) (set_for n sets)) ≡ true
    go true others = left_true (is_simple set.expr) (list_all (λ (set : SetExpr). is_simple set.expr) sets) e
    go false others = others

cased_simple : (c : Cond) (n : ℕ) (o : Option Expr) → cond_is_simple c ≡ true → expr_is_simple o ≡ true → is_simple (cased c n o) ≡ true
cased_simple c n None simple e = refl
cased_simple c n (Some x) simple e = and_from (cond_is_simple c) (is_simple x && true) simple (and_from (is_simple x) true e refl)

updated_simple : (sets : List SetExpr) (c : Cond) (n more : ℕ) → cond_is_simple c ≡ true → list_all (λ (set : SetExpr). is_simple set.expr) sets ≡ true → list_all is_simple (updated_from sets c n more) ≡ true
updated_simple sets c n zero simple e = refl
updated_simple sets c n (suc more) simple e =
    and_from (is_simple (cased c (suc n) (set_for (suc n) sets))) (list_all is_simple (updated_from sets c (suc n) more)) (cased_simple c (suc n) (set_for (suc n) sets) simple (set_simple (suc n) sets e))
    (updated_simple sets c (suc n) more simple e)

-- ---- queries and statements

module _ (tables : ℕ → Query) (are : (table : ℕ) → is_sound (tables table) ≡ true) where
  onto_sound : (others : List ℕ) (query : Query) → is_sound query ≡ true → is_sound (product_onto tables query others) ≡ true
  onto_sound [] query s = s
  onto_sound (table ∷ others) query s = onto_sound others (q.product query (tables table)) (and_from (is_sound query) (is_sound (tables table)) s (are table))

  product_sound : (from : List ℕ) → is_sound (product_of tables from) ≡ true
  product_sound [] = refl
  product_sound (table ∷ others) = onto_sound others (tables table) (are table)

  selected_sound : (o : Option Cond) (query : Query) → where_is_simple o ≡ true → is_sound query ≡ true → is_sound (selected_by o query) ≡ true
  selected_sound None query simple s = s
  selected_sound (Some c) query simple s = and_from (is_sound query) (cond_is_simple c) s simple

  branch_sound : (width : ℕ) (branch : Branch) → IsFit width branch → is_sound (branch_of tables branch) ≡ true
  branch_sound width branch fit =
      and_from (is_sound (selected_by branch.cond (product_of tables branch.from))) (list_all is_simple branch.items && true)
      (selected_sound branch.cond (product_of tables branch.from) fit.condition (product_sound branch.from)) (and_from (list_all is_simple branch.items) true fit.simple refl)

  union_sound : (width : ℕ) (branches : List Branch) (query : Query) → is_sound query ≡ true → AllByRecursion (IsFit width) branches → is_sound (union_onto tables query branches) ≡ true
  union_sound width [] query s fit = s
  union_sound width (branch ∷ branches) query s fit =
      union_sound width branches (q.union query (branch_of tables branch)) (and_from (is_sound query) (is_sound (branch_of tables branch)) s (branch_sound width branch fit.0)) fit.1

  fit_sound : (width : ℕ) (select : Select) → AreFit width select → is_sound (query_of tables select) ≡ true
  fit_sound width [] fit = absurd fit
  fit_sound width (branch ∷ branches) fit = union_sound width branches (branch_of tables branch) (branch_sound width branch fit.0) fit.1

  pub query_sound : (catalogue : List Table) (select : Select) → select_fits catalogue select ≡ true → is_sound (query_of tables select) ≡ true
  query_sound catalogue select fits = fit_sound (select_width select) select (select_is_fit catalogue select fits)

  module _ (t k : ℕ) (some_transaction : 0 < t) (some_statement : 0 < k) where
    new_sound : (b width : ℕ) (branch : Branch) → 0 < b → IsFit width branch → is_sound (q.new_rows t k b (branch_of tables branch)) ≡ true
    new_sound b width branch some_branch fit =
        and_from (is_sound (branch_of tables branch)) (nat_lt 0 t && (nat_lt 0 k && nat_lt 0 b)) (branch_sound width branch fit)
        (and_from (nat_lt 0 t) (nat_lt 0 k && nat_lt 0 b) (above_zero t some_transaction) (and_from (nat_lt 0 k) (nat_lt 0 b) (above_zero k some_statement) (above_zero b some_branch)))

    made_onto_sound : (b width : ℕ) (branches : List Branch) (query : Query) → 0 < b → is_sound query ≡ true → AllByRecursion (IsFit width) branches → is_sound (made_onto t k b tables query branches) ≡ true
    made_onto_sound b width [] query some_branch s fit = s
    made_onto_sound b width (branch ∷ branches) query some_branch s fit =
        made_onto_sound (suc b) width branches (q.union query (q.new_rows t k b (branch_of tables branch))) (omega arith)
        (and_from (is_sound query) (is_sound (q.new_rows t k b (branch_of tables branch))) s (new_sound b width branch some_branch fit.0)) fit.1

    made_sound : (width : ℕ) (select : Select) → AreFit width select → is_sound (made_of t k tables select) ≡ true
    made_sound width [] fit = absurd fit
    made_sound width (branch ∷ branches) fit = made_onto_sound 2 width branches (q.new_rows t k 1 (branch_of tables branch)) (omega arith) (new_sound 1 width branch (omega arith) fit.0) fit.1

    pub rewritten_sound : (catalogue : List Table) (statement : Statement) → statement_fits catalogue statement ≡ true → is_sound (rewritten (width_of catalogue) t k statement tables) ≡ true
    rewritten_sound catalogue (insert written rows) fits =
        and_from (is_sound (tables written)) (nat_lt 0 t && (nat_lt 0 k && nat_lt (length rows) (2 ^ 32))) (are written)
        (and_from (nat_lt 0 t) (nat_lt 0 k && nat_lt (length rows) (2 ^ 32)) (above_zero t some_transaction)
        (and_from (nat_lt 0 k) (nat_lt (length rows) (2 ^ 32)) (above_zero k some_statement) (given_are_few catalogue written rows fits)))
    rewritten_sound catalogue (insert_select written select) fits =
        and_from (is_sound (tables written)) (is_sound (made_of t k tables select)) (are written) (made_sound (width_of catalogue written) select (inserted_are_fit catalogue written select fits))
    rewritten_sound catalogue (update written sets c) fits =
        and_from (is_sound (tables written)) (list_all is_simple (updated_from sets c 0 (width_of catalogue written)) && cond_is_simple c) (are written)
        (and_from (list_all is_simple (updated_from sets c 0 (width_of catalogue written))) (cond_is_simple c)
        (updated_simple sets c 0 (width_of catalogue written) (update_is_simple catalogue written sets c fits) (sets_are_simple catalogue written sets c fits)) (update_is_simple catalogue written sets c fits))
    rewritten_sound catalogue (delete written c) fits = and_from (is_sound (tables written)) (cond_is_simple c) (are written) (delete_is_simple catalogue written c fits)
    rewritten_sound catalogue (read select) fits = refl
