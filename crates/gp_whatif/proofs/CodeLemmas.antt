-- What the code tells of a statement, and of tables without row versions.
use Rattle.gp_whatif.proofs.Prelude.{◌≡◌, ◌≤◌, ℕ, true, List, ◌++◌, length, take, drop, refl, ◌∙◌, arith, take_all, statement_fits, Statement, insert, insert_select, update, delete, read, statement_view, Table}
use Rattle.std.proofs.lemmas.List.{take-append-le}
use Rattle.gp_algebra.specs.declared.statement.Select as code
use Rattle.gp_algebra.specs.declared.statement.Stmt.{Stmt}
use Rattle.gp_algebra.specs.declared.statement.Stmt.TheVariants as variant
use Rattle.gp_txn.proofs.FitLemmas.{statement-applicable}
use Rattle.gp_txn.specs.Applying.{is_applicable}
use Rattle.gp_whatif.specs.Remade.{can_run}

-- a statement that fits can run
pub fitting_runs : (tables : List Table) (statement : Statement) → statement_fits tables statement ≡ true → can_run (length tables) statement ≡ true
fitting_runs tables (insert table rows) fits = statement-applicable tables (insert table rows) tt fits
fitting_runs tables (insert_select table select) fits = statement-applicable tables (insert_select table select) tt fits
fitting_runs tables (update table sets c) fits = statement-applicable tables (update table sets c) tt fits
fitting_runs tables (delete table c) fits = statement-applicable tables (delete table c) tt fits
fitting_runs tables (read select) fits = refl

-- one of the code that is no SELECT can be applied
pub applies : (count : ℕ) (stmt : Stmt) → ((select : code.Select) → stmt ≡ variant.Read select → ⊥) → can_run count (statement_view stmt) ≡ true → is_applicable count (statement_view stmt) ≡ true
applies count (variant.Insert table rows) other runs = runs
applies count (variant.InsertSelect table select) other runs = runs
applies count (variant.Update table sets c) other runs = runs
applies count (variant.Delete table c) other runs = runs
applies count (variant.Read select) other runs = absurd (other select refl)

-- what a slice of a vector has, written back
pub written-back : {A : Type 0} (n : ℕ) (new old : List A) → n ≡ length new → take n (new ++ drop (length new) old) ≡ new
written-back n new old same =
    let most : n ≤ length new = omega (arith, same) in
    let all : length new ≤ n = omega (arith, same) in
    take-append-le n new (drop (length new) old) most ∙ take_all n new all
