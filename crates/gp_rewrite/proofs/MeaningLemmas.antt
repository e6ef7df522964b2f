-- A rewritten statement means what the statement does, and a rewritten query its answer.
use Rattle.std.proofs.Common.{◌≡◌, ℕ, suc, true, cond, List, [], ◌∷◌, ◌++◌, refl, sym, ap, ◌∙◌, subst, map, Some}
use Rattle.std.specs.Prelude.{not}
use Rattle.std.specs.List.{AllByRecursion, filter}
use Rattle.std.proofs.lemmas.List.{append-nil, append_assoc, map-append}
use Rattle.gp_base.specs.declared.table.Table.{Table}
use Rattle.gp_base.specs.declared.token.Token.TheVariants.{Queried}
use Rattle.gp_base.specs.Identities.{identity, no_sources, source}
use Rattle.gp_base.specs.Annotated.{Annotations, Annotated, Database, Environment}
use Rattle.gp_expr.specs.Values.{passes}
use Rattle.gp_algebra.specs.Statements.{Branch, Select, Statement, insert, insert_select, update, delete, read, target, width_of}
use Rattle.gp_algebra.specs.Fitting.{select_fits, select_width, statement_fits}
use Rattle.gp_algebra.specs.Answers.{Element, answer, answer_from, chosen}
use Rattle.gp_algebra.specs.Effects.{changed, given_from, made, step, with_rows}
use Rattle.gp_algebra.specs.AnnotatedQueries.{Query, new_rows, union}
use Rattle.gp_algebra.specs.AnnotatedMeaning.{Derived, meaning, renewed, scanned}
use Rattle.gp_rewrite.specs.Meaning.{AreAsWide, IsMonoid, StandFor, row_of_element, unmarked}
use Rattle.gp_rewrite.specs.Rewriting.{branch_of, made_of, made_onto, query_of, rewritten}
use Rattle.gp_rewrite.specs.RewritingForms.{union_onto}
use Rattle.gp_rewrite.proofs.ChoiceLemmas.{branch_is, chosen_number}
use Rattle.gp_rewrite.proofs.FitLemmas.{AreFit, IsFit, inserted_are_fit, select_is_fit}
use Rattle.gp_rewrite.proofs.UpdateLemmas.{delete_query_is, update_query_is}
use Rattle.gp_base.proofs.SmallLemmas.{eq_itself, map-map}
use Rattle.std.proofs.lemmas.Option.{none-some, same_Some}

module _ {M : Type 0} (domain : Annotations M) (monoid : IsMonoid domain) (steps : ℕ → List (Derived M)) (env : Environment M) (tables : ℕ → Query) (db : Database M) (are : StandFor domain steps env tables db) where
  -- ---- the rows that branches make

  branch_makes : (t k b width : ℕ) (branch : Branch) → IsFit width branch →
      map (renewed domain t k b) (meaning domain steps env (branch_of tables branch)) ≡ map (scanned domain) (map (made domain t k) (chosen domain b branch db))
  branch_makes t k b width branch fit =
      sym (map-map (renewed domain t k b) unmarked (meaning domain steps env (branch_of tables branch))) ∙ ap (map (renewed domain t k b)) (branch_is domain monoid steps env tables db are b width branch fit)
      ∙ map-map (renewed domain t k b) row_of_element (chosen domain b branch db)
      ∙ go (chosen domain b branch db) (chosen_number domain b branch db)
      ∙ sym (map-map (scanned domain) (made domain t k) (chosen domain b branch db))
    where
      go : (es : List (Element M)) → AllByRecursion (λ e. e.branch ≡ b) es → map (λ e. renewed domain t k b (row_of_element e)) es ≡ map (λ e. scanned domain (made domain t k e)) es
      go [] a = refl
      go (e ∷ es) a = λ i. record { sources = source (identity t k (sym a.0 i) e.sources) no_sources; cells = e.cells; mark = true; annotation = domain.times (domain.token (Queried t k)) e.annotation } ∷ go es a.1 i

  branches_make : (t k b width : ℕ) (branches : List Branch) (query : Query) → AllByRecursion (IsFit width) branches →
      meaning domain steps env (made_onto t k b tables query branches) ≡ meaning domain steps env query ++ map (scanned domain) (map (made domain t k) (answer_from domain b branches db))
  branches_make t k b width [] query fit = sym (append-nil (meaning domain steps env query))
  branches_make t k b width (branch ∷ branches) query fit =
      branches_make t k (suc b) width branches (union query (new_rows t k b (branch_of tables branch))) fit.1
      ∙ append_assoc (meaning domain steps env query) (map (renewed domain t k b) (meaning domain steps env (branch_of tables branch))) (map (scanned domain) (map (made domain t k) (answer_from domain (suc b) branches db)))
      ∙ ap (λ rows. meaning domain steps env query ++ rows)
      (ap (λ rows. rows ++ map (scanned domain) (map (made domain t k) (answer_from domain (suc b) branches db))) (branch_makes t k b width branch fit.0)
      ∙ sym (map-append (scanned domain) (map (made domain t k) (chosen domain b branch db)) (map (made domain t k) (answer_from domain (suc b) branches db)))
      ∙ ap (map (scanned domain)) (sym (map-append (made domain t k) (chosen domain b branch db) (answer_from domain (suc b) branches db))))

  made_is : (t k width : ℕ) (select : Select) → AreFit width select → meaning domain steps env (made_of t k tables select) ≡ map (scanned domain) (map (made domain t k) (answer domain select db))
  made_is t k width [] fit = absurd fit
  made_is t k width (branch ∷ branches) fit =
      branches_make t k 2 width branches (new_rows t k 1 (branch_of tables branch)) fit.1
      ∙ ap (λ rows. rows ++ map (scanned domain) (map (made domain t k) (answer_from domain 2 branches db))) (branch_makes t k 1 width branch fit.0)
      ∙ sym (map-append (scanned domain) (map (made domain t k) (chosen domain 1 branch db)) (map (made domain t k) (answer_from domain 2 branches db)))
      ∙ ap (map (scanned domain)) (sym (map-append (made domain t k) (chosen domain 1 branch db) (answer_from domain 2 branches db)))

  -- ---- statements

  in_table : (table : ℕ) (rows : List (Annotated M)) → with_rows table rows db table ≡ rows
  in_table table rows = ap (λ b. cond b rows (db table)) (eq_itself table)

  -- the rows of a table, and rows behind them
  appended : (table : ℕ) (rows : List (Annotated M)) → meaning domain steps env (tables table) ++ map (scanned domain) rows ≡ map (scanned domain) (with_rows table (db table ++ rows) db table)
  appended table rows =
      ap (λ xs. xs ++ map (scanned domain) rows) (are table) ∙ sym (map-append (scanned domain) (db table) rows) ∙ ap (map (scanned domain)) (sym (in_table table (db table ++ rows)))

  module _ (catalogue : List Table) (wide : AreAsWide (width_of catalogue) db) where
    -- in the table that it writes
    abbrev Means : ℕ → ℕ → Statement → ℕ → Type 0
    Means t k statement table = meaning domain steps env (rewritten (width_of catalogue) t k statement tables) ≡ map (scanned domain) (step domain t k statement db table)

    pub rewritten_is : (t k table : ℕ) (statement : Statement) → statement_fits catalogue statement ≡ true → target statement ≡ Some table → Means t k statement table
    rewritten_is t k table (insert written rows) fits e = subst (Means t k (insert written rows)) (same_Some written table e) (appended written (given_from domain t k 1 rows))
    rewritten_is t k table (insert_select written select) fits e =
        subst (Means t k (insert_select written select)) (same_Some written table e)
        (ap (λ rows. meaning domain steps env (tables written) ++ rows) (made_is t k (width_of catalogue written) select (inserted_are_fit catalogue written select fits)) ∙ appended written (map (made domain t k) (answer domain select db)))
    rewritten_is t k table (update written sets c) fits e =
        subst (Means t k (update written sets c)) (same_Some written table e)
        (update_query_is domain steps env (width_of catalogue written) t k sets c (tables written) (db written) (are written) (wide written) ∙ ap (map (scanned domain)) (sym (in_table written (map (changed domain t k sets c) (db written)))))
    rewritten_is t k table (delete written c) fits e =
        subst (Means t k (delete written c)) (same_Some written table e)
        (delete_query_is domain steps env c (tables written) (db written) (are written) ∙ ap (map (scanned domain)) (sym (in_table written (filter (λ row. not (passes c row.cells)) (db written)))))
    rewritten_is t k table (read select) fits e = absurd (none-some table e)

  -- ---- queries

  branches_answer : (b width : ℕ) (branches : List Branch) (query : Query) → AllByRecursion (IsFit width) branches →
      map unmarked (meaning domain steps env (union_onto tables query branches)) ≡ map unmarked (meaning domain steps env query) ++ map row_of_element (answer_from domain b branches db)
  branches_answer b width [] query fit = sym (append-nil (map unmarked (meaning domain steps env query)))
  branches_answer b width (branch ∷ branches) query fit =
      branches_answer (suc b) width branches (union query (branch_of tables branch)) fit.1
      ∙ ap (λ xs. xs ++ map row_of_element (answer_from domain (suc b) branches db))
      (map-append unmarked (meaning domain steps env query) (meaning domain steps env (branch_of tables branch))
      ∙ ap (λ xs. map unmarked (meaning domain steps env query) ++ xs) (branch_is domain monoid steps env tables db are b width branch fit.0))
      ∙ append_assoc (map unmarked (meaning domain steps env query)) (map row_of_element (chosen domain b branch db)) (map row_of_element (answer_from domain (suc b) branches db))
      ∙ ap (λ xs. map unmarked (meaning domain steps env query) ++ xs) (sym (map-append row_of_element (chosen domain b branch db) (answer_from domain (suc b) branches db)))

  answer_is : (width : ℕ) (select : Select) → AreFit width select → map unmarked (meaning domain steps env (query_of tables select)) ≡ map row_of_element (answer domain select db)
  answer_is width [] fit = absurd fit
  answer_is width (branch ∷ branches) fit =
      branches_answer 2 width branches (branch_of tables branch) fit.1
      ∙ ap (λ xs. xs ++ map row_of_element (answer_from domain 2 branches db)) (branch_is domain monoid steps env tables db are 1 width branch fit.0)
      ∙ sym (map-append row_of_element (chosen domain 1 branch db) (answer_from domain 2 branches db))

  pub query_is : (catalogue : List Table) (select : Select) → select_fits catalogue select ≡ true → map unmarked (meaning domain steps env (query_of tables select)) ≡ map row_of_element (answer domain select db)
  query_is catalogue select fits = answer_is (select_width select) select (select_is_fit catalogue select fits)
