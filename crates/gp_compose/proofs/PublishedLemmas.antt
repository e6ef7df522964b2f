-- What stands for a table of a COMMIT gives what the transaction published there.
use Rattle.gp_compose.proofs.Prelude.{◌≡◌, ℕ, suc, true, false, List, ◌++◌, refl, sym, ap, ◌∙◌, map, Option, Some, None, not, AllByRecursion, filter, Table, Annotations, Annotated, Environment, Statement, statement_fits, width_of, Derived, meaning, scanned, Log, was_written, at_commit, run, AreAsWide, IsMonoid}
use Rattle.gp_compose.specs.Composed.{current, last_write, onto, published_query}
use Rattle.gp_compose.proofs.ComposedLemmas.{current_is, step_rows, untouched}
use Rattle.gp_compose.proofs.PublishedLists.{nothing_published, publish_means}

-- every row of every version is unmarked
module _ {M : Type 0} (domain : Annotations M) (monoid : IsMonoid domain) (catalogue : List Table) (log : Log) (t : ℕ) (env : Environment M)
    (wide : (version : ℕ) → AreAsWide (width_of catalogue) (env version))
    (fits : (k : ℕ) (statement : Statement) → log.statement t (suc k) ≡ Some statement → statement_fits catalogue statement ≡ true)
    (unmarked : (version table : ℕ) → AllByRecursion (λ row. row.mark ≡ false) (env version table)) where
  pub published_is : (before table : ℕ) →
      meaning domain (step_rows domain (width_of catalogue) log t env (log.statement_count t)) env (published_query log t before table) ≡ map (scanned domain) (at_commit domain log t before env table)
  published_is before table = go (last_write log t count table) refl
    where
      count : ℕ
      count = log.statement_count t

      base : List (Annotated M)
      base = env (log.version t (log.statement_count t)) table

      mine : List (Annotated M)
      mine = run domain log t (log.statement_count t) env table

      later : List (Annotated M)
      later = env before table

      steps : ℕ → List (Derived M)
      steps = step_rows domain (width_of catalogue) log t env (log.statement_count t)

      go : (o : Option ℕ) → last_write log t (log.statement_count t) table ≡ o
          → meaning domain steps env (onto (log.version t (log.statement_count t)) before table o (current log t (log.statement_count t) table)) ≡ map (scanned domain) (at_commit domain log t before env table)
      go None e =
          ap (map (scanned domain)) (sym (ap (λ mine. filter (λ row. not (was_written base mine row.identity)) later ++ filter (λ row. row.mark) mine) (untouched domain log t env unmarked (log.statement_count t) table e) ∙ nothing_published domain base later (unmarked (log.version t (log.statement_count t)) table)))
      go (Some j) e =
          publish_means domain base mine later (meaning domain steps env (current log t (log.statement_count t) table)) (current_is domain monoid catalogue log t env wide fits unmarked (log.statement_count t) table)
