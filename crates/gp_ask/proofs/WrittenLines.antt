-- The lines of the rows that a statement wrote: those of the rows that it changed, with their cells in what it read and in what it left.
use Rattle.std.proofs.Common.{◌≡◌, ℕ, suc, true, false, cond, List, [], ◌∷◌, ◌++◌, map, refl, ap, ◌∙◌}
use Rattle.std.specs.Prelude.{◌||◌, ◌==◌}
use Rattle.std.specs.List.{AllByRecursion, filter}
use Rattle.std.proofs.lemmas.Bool.{and_from}
use Rattle.std.proofs.lemmas.List.Elements.{filter-append}
use Rattle.gp_base.proofs.SmallLemmas.{eq_itself}
use Rattle.gp_base.specs.declared.cell.Cell.{Cell}
use Rattle.gp_base.specs.Annotated.{Annotated, Annotations, Database}
use Rattle.gp_expr.specs.Values.{passes}
use Rattle.gp_algebra.specs.Answers.{Element, answer}
use Rattle.gp_algebra.specs.Effects.{given_from, made, written_in, wrote}
use Rattle.gp_algebra.specs.Statements.{Statement, delete, insert, insert_select, read, update}
use Rattle.gp_compose.specs.Seen.{changed_rows, is_made_by}
use Rattle.gp_machine.proofs.Distinct.{filter_every, filter_none}
use Rattle.gp_machine.specs.Event.{target_of}

-- ---- the rows that a statement changed are those that it wrote

module _ {M : Type 0} (domain : Annotations M) (t k : ℕ) where
  -- no row was made by the statement before it ran
  abbrev pub IsFresh : List (Annotated M) → Type 0
  IsFresh rows = AllByRecursion (λ row. is_made_by t k row.identity ≡ false) rows

  made-given : (n : ℕ) (rows : List (List Cell)) → AllByRecursion (λ (row : Annotated M). is_made_by t k row.identity ≡ true) (given_from domain t k n rows)
  made-given n [] = tt
  made-given n (cells ∷ rows) = (and_from (t == t) (k == k) (eq_itself t) (eq_itself k), made-given (suc n) rows)

  made-answer : (elements : List (Element M)) → AllByRecursion (λ (row : Annotated M). is_made_by t k row.identity ≡ true) (map (made domain t k) elements)
  made-answer [] = tt
  made-answer (element ∷ elements) = (and_from (t == t) (k == k) (eq_itself t) (eq_itself k), made-answer elements)

  inserted-are : (table : ℕ) (before rows : List (Annotated M)) (other : List (Annotated M)) → IsFresh before → AllByRecursion (λ (row : Annotated M). is_made_by t k row.identity ≡ true) rows
      → filter (λ (row : Annotated M). is_made_by t k row.identity) (cond (table == table) (before ++ rows) other) ≡ rows
  inserted-are table before rows other fresh own =
      ap (λ b. filter (λ (row : Annotated M). is_made_by t k row.identity) (cond b (before ++ rows) other)) (eq_itself table)
      ∙ filter-append (λ (row : Annotated M). is_made_by t k row.identity) before rows
      ∙ (λ i. filter_none (λ (row : Annotated M). is_made_by t k row.identity) before fresh i ++ filter_every (λ (row : Annotated M). is_made_by t k row.identity) rows own i)

  all-changed : (rows : List (Annotated M)) → filter (λ row. true) rows ≡ rows
  all-changed [] = refl
  all-changed (row ∷ rows) = ap (λ (own : List (Annotated M)). row ∷ own) (all-changed rows)

  pub changed-written : (statement : Statement) (db : Database M) → IsFresh (db (target_of statement)) → written_in (target_of statement) (changed_rows domain t k statement db) ≡ wrote domain t k statement db
  changed-written (insert table rows) db fresh = ap (written_in table) (inserted-are table (db table) (given_from domain t k 1 rows) (db table) fresh (made-given 1 rows))
  changed-written (insert_select table select) db fresh =
      ap (written_in table) (inserted-are table (db table) (map (made domain t k) (answer domain select db)) (db table) fresh (made-answer (answer domain select db)))
  changed-written (update table sets c) db fresh = ap (written_in table) (all-changed (filter (λ row. passes c row.cells) (db table)))
  changed-written (delete table c) db fresh = ap (written_in table) (all-changed (filter (λ row. passes c row.cells) (db table)))
  changed-written (read select) db fresh = refl
