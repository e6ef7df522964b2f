-- UPDATE as a projection with CASE, DELETE as a selection.
use Rattle.std.proofs.Common.{◌≡◌, ℕ, zero, suc, ◌+◌, Bool, true, false, cond, List, [], ◌∷◌, ◌++◌, length, refl, sym, ap, ◌∙◌, subst, arith, map, Option, Some, None}
use Rattle.std.specs.Prelude.{unwrap_or}
use Rattle.std.specs.Prelude.{not, get_or}
use Rattle.std.specs.List.{AllByRecursion, filter}
use Rattle.std.proofs.lemmas.List.{append_assoc, length-append}
use Rattle.std.proofs.Math.Seq.{get_or-append_seam}
use Rattle.gp_base.specs.declared.cell.Cell.{Cell}
use Rattle.gp_base.specs.declared.cell.Cell.TheVariants as cell
use Rattle.gp_base.specs.declared.token.Token.TheVariants.{Updated}
use Rattle.gp_base.specs.Annotated.{Annotations, Annotated, Environment}
use Rattle.gp_expr.specs.Expressions.{Expr, Cond, col, is_true}
use Rattle.gp_expr.specs.Values.{column, holds, tested, truth, value, passes}
use Rattle.gp_algebra.specs.Answers.{values}
use Rattle.gp_algebra.specs.Effects.{assigned, assigned_from, changed, set_for}
use Rattle.gp_algebra.specs.AnnotatedQueries.{Query}
use Rattle.gp_algebra.specs.AnnotatedMeaning.{Derived, meaning, projected, scanned}
use Rattle.gp_algebra.specs.Statements.{SetExpr}
use Rattle.gp_rewrite.specs.Rewriting.{cased, updated_from, update_query, delete_query}

-- ---- the cells of a row by its columns

-- the next columns, this many
abbrev columns_from : ℕ → ℕ → List Expr
columns_from n zero = []
columns_from n (suc more) = col (suc n) ∷ columns_from (suc n) more

columns_are : (front cells : List Cell) (n : ℕ) → length front ≡ n → values (columns_from n (length cells)) (front ++ cells) ≡ cells
columns_are front [] n e = refl
columns_are front (c ∷ cells) n e =
    let others : values (columns_from (suc n) (length cells)) (front ++ (c ∷ cells)) ≡ cells =
    subst (λ row. values (columns_from (suc n) (length cells)) row ≡ cells) (append_assoc front (c ∷ []) cells) (columns_are (front ++ (c ∷ [])) cells (suc n) longer) in
    λ i. first i ∷ others i
  where
    first : column (suc n) (front ++ (c ∷ cells)) ≡ c
    first = subst (λ n. get_or (front ++ (c ∷ cells)) n cell.Null ≡ c) e (get_or-append_seam front c cells cell.Null)

    longer : length (front ++ (c ∷ [])) ≡ suc n
    longer = let l : length (front ++ (c ∷ [])) ≡ length front + 1 = length-append front (c ∷ []) in omega arith

-- ---- the cells of a changed row

-- where the condition holds, the projection gives the assigned cells; else the columns themselves
cased_are : (sets : List SetExpr) (c : Cond) (row : List Cell) (n more : ℕ) →
    values (updated_from sets c n more) row ≡ cond (passes c row) (values (assigned_from sets n more) row) (values (columns_from n more) row)
cased_are sets c row n zero = go (passes c row)
  where
    nothing : List Cell
    nothing = []

    go : (b : Bool) → nothing ≡ cond b nothing nothing
    go true = refl
    go false = refl
cased_are sets c row n (suc more) =
    ap (λ cells. value (cased c (suc n) (set_for (suc n) sets)) row ∷ cells) (cased_are sets c row (suc n) more) ∙ go (set_for (suc n) sets) (passes c row) refl
  where
    go : (o : Option Expr) (b : Bool) → passes c row ≡ b →
        value (cased c (suc n) o) row ∷ cond b (values (assigned_from sets (suc n) more) row) (values (columns_from (suc n) more) row)
        ≡ cond b (value (unwrap_or o (col (suc n))) row ∷ values (assigned_from sets (suc n) more) row) (column (suc n) row ∷ values (columns_from (suc n) more) row)
    go None true e = refl
    go None false e = refl
    go (Some x) true e = ap (λ b. cond b (value x row) (column (suc n) row) ∷ values (assigned_from sets (suc n) more) row) e
    go (Some x) false e = ap (λ b. cond b (value x row) (column (suc n) row) ∷ values (columns_from (suc n) more) row) e

updated_are : (sets : List SetExpr) (c : Cond) (row : List Cell) → values (updated_from sets c 0 (length row)) row ≡ cond (passes c row) (assigned sets row) row
updated_are sets c row = cased_are sets c row 0 (length row) ∙ ap (λ old. cond (passes c row) (assigned sets row) old) (columns_are [] row 0 refl)

-- IS NOT TRUE is the opposite of passing
not_true_is : (c : Cond) (row : List Cell) → passes (is_true c false) row ≡ not (passes c row)
not_true_is c row = go (holds (truth c row))
  where
    go : (b : Bool) → holds (tested false b) ≡ not b
    go true = refl
    go false = refl

-- ---- the rows of a changed table

module _ {M : Type 0} (domain : Annotations M) where
  changed_is : (t k w : ℕ) (sets : List SetExpr) (c : Cond) (row : Annotated M) → length row.cells ≡ w →
      projected domain (updated_from sets c 0 w) (Some (record { cond = c; token = Updated t k })) (scanned domain row) ≡ scanned domain (changed domain t k sets c row)
  changed_is t k w sets c row e =
      ap (λ w. projected domain (updated_from sets c 0 w) (Some (record { cond = c; token = Updated t k })) (scanned domain row)) (sym e)
      ∙ ap (λ cells. cond (passes c row.cells) (written cells) (record (scanned domain row) { cells = cells })) (updated_are sets c row.cells)
      ∙ go (passes c row.cells)
    where
      written : List Cell → Derived M
      written cells = record { sources = (scanned domain row).sources; cells = cells; mark = true; annotation = domain.times row.annotation (domain.token (Updated t k)) }

      go : (b : Bool) → cond b (written (cond b (assigned sets row.cells) row.cells)) (record (scanned domain row) { cells = cond b (assigned sets row.cells) row.cells })
          ≡ scanned domain (cond b (record { identity = row.identity; cells = assigned sets row.cells; mark = true; annotation = domain.times row.annotation (domain.token (Updated t k)) }) row)
      go true = refl
      go false = refl

  changed_rows : (t k w : ℕ) (sets : List SetExpr) (c : Cond) (rows : List (Annotated M)) → AllByRecursion (λ row. length row.cells ≡ w) rows →
      map (projected domain (updated_from sets c 0 w) (Some (record { cond = c; token = Updated t k }))) (map (scanned domain) rows) ≡ map (scanned domain) (map (changed domain t k sets c) rows)
  changed_rows t k w sets c [] a = refl
  changed_rows t k w sets c (row ∷ rows) a = λ i. changed_is t k w sets c row a.0 i ∷ changed_rows t k w sets c rows a.1 i

  -- over a query that gives a table's rows, all of this width
  pub update_query_is : (steps : ℕ → List (Derived M)) (env : Environment M) (width t k : ℕ) (sets : List SetExpr) (c : Cond) (query : Query) (rows : List (Annotated M)) →
      meaning domain steps env query ≡ map (scanned domain) rows → AllByRecursion (λ row. length row.cells ≡ width) rows →
      meaning domain steps env (update_query width t k sets c query) ≡ map (scanned domain) (map (changed domain t k sets c) rows)
  update_query_is steps env width t k sets c query rows are wide =
      ap (map (projected domain (updated_from sets c 0 width) (Some (record { cond = c; token = Updated t k })))) are ∙ changed_rows t k width sets c rows wide

  pub delete_query_is : (steps : ℕ → List (Derived M)) (env : Environment M) (c : Cond) (query : Query) (rows : List (Annotated M)) →
      meaning domain steps env query ≡ map (scanned domain) rows → meaning domain steps env (delete_query c query) ≡ map (scanned domain) (filter (λ row. not (passes c row.cells)) rows)
  delete_query_is steps env c query rows are = ap (filter (λ (row : Derived M). passes (is_true c false) row.cells)) are ∙ go rows
    where
      kept : (row : Annotated M) (rest : List (Annotated M)) (b d : Bool) → b ≡ d → cond b (scanned domain row ∷ map (scanned domain) rest) (map (scanned domain) rest) ≡ map (scanned domain) (cond d (row ∷ rest) rest)
      kept row rest true d e = ap (λ d. map (scanned domain) (cond d (row ∷ rest) rest)) e
      kept row rest false d e = ap (λ d. map (scanned domain) (cond d (row ∷ rest) rest)) e

      go : (rows : List (Annotated M)) → filter (λ (row : Derived M). passes (is_true c false) row.cells) (map (scanned domain) rows) ≡ map (scanned domain) (filter (λ row. not (passes c row.cells)) rows)
      go [] = refl
      go (row ∷ rows) =
          ap (λ rest. cond (passes (is_true c false) row.cells) (scanned domain row ∷ rest) rest) (go rows)
          ∙ kept row (filter (λ row. not (passes c row.cells)) rows) (passes (is_true c false) row.cells) (not (passes c row.cells)) (not_true_is c row.cells)
