-- A statement that fits keeps every row as wide as its table.
use Rattle.std.proofs.Common.{◌≡◌, ℕ, zero, suc, Bool, true, false, cond, List, [], ◌∷◌, ◌++◌, length, refl, sym, ap, ◌∙◌, subst, map}
use Rattle.std.specs.Prelude.{◌==◌, not}
use Rattle.std.specs.List.{AllByRecursion, filter}
use Rattle.std.proofs.lemmas.List.{length-map}
use Rattle.gp_base.specs.declared.cell.Cell.{Cell}
use Rattle.gp_base.specs.declared.table.Table.{Table}
use Rattle.gp_base.specs.declared.token.Token.TheVariants.{Updated}
use Rattle.gp_base.specs.Annotated.{Annotations, Annotated, Database}
use Rattle.gp_expr.specs.Expressions.{Cond}
use Rattle.gp_expr.specs.Values.{passes, value}
use Rattle.gp_algebra.specs.Statements.{SetExpr, Branch, Select, Statement, insert, insert_select, update, delete, read}
use Rattle.gp_algebra.specs.Answers.{Element, answer, answer_from, chosen, values}
use Rattle.gp_algebra.specs.Effects.{assigned, assigned_from, changed, given_from, made, step, with_rows}
use Rattle.gp_algebra.specs.Fitting.{statement_fits}
use Rattle.gp_algebra.specs.Statements.{width_of}
use Rattle.gp_rewrite.specs.Meaning.{AreAsWide}
use Rattle.gp_rewrite.proofs.Each.{each_filter, each_made}
use Rattle.gp_rewrite.proofs.FitLemmas.{AreFit, IsFit, given_are_wide, inserted_are_fit}
use Rattle.gp_base.proofs.SmallLemmas.{each_append, each_map}
use Rattle.std.proofs.lemmas.Bool.{eqb-true}

assigned_long : (sets : List SetExpr) (row : List Cell) (n more : ℕ) → length (values (assigned_from sets n more) row) ≡ more
assigned_long sets row n zero = refl
assigned_long sets row n (suc more) = ap suc (assigned_long sets row (suc n) more)

module _ {M : Type 0} (domain : Annotations M) (columns : ℕ → ℕ) where
  abbrev pub IsAsWide : ℕ → Annotated M → Type 0
  IsAsWide table row = length row.cells ≡ columns table

  given_wide : (table t k n : ℕ) (rows : List (List Cell)) → AllByRecursion (λ row. length row ≡ columns table) rows → AllByRecursion (IsAsWide table) (given_from domain t k n rows)
  given_wide table t k n [] a = tt
  given_wide table t k n (row ∷ rows) a = (a.0, given_wide table t k (suc n) rows a.1)

  branches_wide : (width number : ℕ) (branches : List Branch) (db : Database M) → AllByRecursion (IsFit width) branches → AllByRecursion (λ (e : Element M). length e.cells ≡ width) (answer_from domain number branches db)
  branches_wide width number [] db a = tt
  branches_wide width number (branch ∷ branches) db a =
      each_append _ (chosen domain number branch db) (answer_from domain (suc number) branches db)
      (each_made _ _ (λ e. length-map branch.items (λ x. value x e.cells) ∙ a.0.items) _)
      (branches_wide width (suc number) branches db a.1)

  answer_wide : (width : ℕ) (select : Select) (db : Database M) → AreFit width select → AllByRecursion (λ (e : Element M). length e.cells ≡ width) (answer domain select db)
  answer_wide width [] db fit = absurd fit
  answer_wide width (branch ∷ branches) db fit = branches_wide width 1 (branch ∷ branches) db fit

  with_rows_wide : (written : ℕ) (rows : List (Annotated M)) (db : Database M) → AllByRecursion (IsAsWide written) rows → AreAsWide columns db → AreAsWide columns (with_rows written rows db)
  with_rows_wide written rows db a wide table =
      elim (table == written) as (λ b. (table == written) ≡ b → AllByRecursion (IsAsWide table) (cond b rows (db table))) [
        | true ↦ λ e. subst (λ table. AllByRecursion (IsAsWide table) rows) (sym (eqb-true table written e)) a
        | false ↦ λ e. wide table
      ] refl

  changed_wide : (t k written : ℕ) (sets : List SetExpr) (c : Cond) (row : Annotated M) → IsAsWide written row → IsAsWide written (changed domain t k sets c row)
  changed_wide t k written sets c row w = go (passes c row.cells)
    where
      go : (b : Bool) → length (cond b (record { identity = row.identity; cells = assigned sets row.cells; mark = true; annotation = domain.times row.annotation (domain.token (Updated t k)) }) row).cells ≡ columns written
      go true = assigned_long sets row.cells 0 (length row.cells) ∙ w
      go false = w

pub step_wide : {M : Type 0} (domain : Annotations M) (catalogue : List Table) (t k : ℕ) (statement : Statement) (db : Database M) →
    statement_fits catalogue statement ≡ true → AreAsWide (width_of catalogue) db → AreAsWide (width_of catalogue) (step domain t k statement db)
step_wide domain catalogue t k (insert written rows) db fits wide =
    let columns = width_of catalogue in
    with_rows_wide domain columns written (db written ++ given_from domain t k 1 rows) db
    (each_append (IsAsWide domain columns written) (db written) (given_from domain t k 1 rows) (wide written) (given_wide domain columns written t k 1 rows (given_are_wide catalogue written rows fits))) wide
step_wide {M} domain catalogue t k (insert_select written select) db fits wide =
    let columns = width_of catalogue in
    with_rows_wide domain columns written (db written ++ map (made domain t k) (answer domain select db)) db
    (each_append (IsAsWide domain columns written) (db written) (map (made domain t k) (answer domain select db)) (wide written)
    (each_map (IsAsWide domain columns written) (λ (e : Element M). length e.cells ≡ columns written) (made domain t k) (λ e w. w) (answer domain select db)
    (answer_wide domain columns (columns written) select db (inserted_are_fit catalogue written select fits)))) wide
step_wide domain catalogue t k (update written sets c) db fits wide =
    let columns = width_of catalogue in
    with_rows_wide domain columns written (map (changed domain t k sets c) (db written)) db
    (each_map (IsAsWide domain columns written) (IsAsWide domain columns written) (changed domain t k sets c) (changed_wide domain columns t k written sets c) (db written) (wide written)) wide
step_wide domain catalogue t k (delete written c) db fits wide =
    let columns = width_of catalogue in
    with_rows_wide domain columns written (filter (λ row. not (passes c row.cells)) (db written)) db (each_filter (IsAsWide domain columns written) (λ row. not (passes c row.cells)) (db written) (wide written)) wide
step_wide domain catalogue t k (read select) db fits wide = wide
