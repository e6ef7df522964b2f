-- Products of tables give the choices of an answer, and a branch of a query its elements, but for marks.
use Rattle.std.proofs.Common.{◌≡◌, ℕ, Bool, true, false, List, [], ◌∷◌, ◌++◌, refl, sym, ap, ◌∙◌, subst, map, Option, Some, None}
use Rattle.std.specs.List.{AllByRecursion, filter, flat_map}
use Rattle.std.proofs.lemmas.List.{append-nil, append_assoc}
use Rattle.gp_base.specs.Identities.{Sources, no_sources, source}
use Rattle.gp_base.specs.Annotated.{Annotations, Annotated, Database, Environment}
use Rattle.gp_expr.specs.Expressions.{Cond}
use Rattle.gp_algebra.specs.Statements.{Branch}
use Rattle.gp_algebra.specs.Answers.{Element, choices, chosen, joined, passes_where, values}
use Rattle.gp_algebra.specs.AnnotatedQueries.{Query, product}
use Rattle.gp_algebra.specs.AnnotatedMeaning.{Derived, crossed, joined_sources, meaning, projected, scanned}
use Rattle.gp_rewrite.specs.Meaning.{IsMonoid, StandFor, row_of_element, unmarked}
use Rattle.gp_rewrite.specs.Rewriting.{branch_of, product_of, selected_by}
use Rattle.gp_rewrite.specs.RewritingForms.{product_onto}
use Rattle.gp_rewrite.proofs.Each.{each_filter, each_made}
use Rattle.gp_rewrite.proofs.FitLemmas.{IsFit}
use Rattle.gp_base.proofs.SmallLemmas.{each_append, each_map, filter-map, flat_map-flat_map, flat_map-map, flat_map_agree, map-flat_map, map-map, map_agree}

-- ---- lists and sources

filter_all : {X : Type 0} (xs : List X) → filter (λ x. true) xs ≡ xs
filter_all [] = refl
filter_all (x ∷ xs) = ap (λ ys. x ∷ ys) (filter_all xs)

flat_map-single : {X Y : Type 0} (f : X → Y) (xs : List X) → flat_map (λ x. f x ∷ []) xs ≡ map f xs
flat_map-single f [] = refl
flat_map-single f (x ∷ xs) = ap (λ ys. f x ∷ ys) (flat_map-single f xs)

joined-none : (ids : Sources) → joined_sources ids no_sources ≡ ids
joined-none no_sources = refl
joined-none (source id ids) = ap (source id) (joined-none ids)

joined-joined : (a b c : Sources) → joined_sources (joined_sources a b) c ≡ joined_sources a (joined_sources b c)
joined-joined no_sources b c = refl
joined-joined (source id a) b c = ap (source id) (joined-joined a b c)

-- ---- the number of a branch

module _ {M : Type 0} (domain : Annotations M) where
  choices_number : (number : ℕ) (tables : List ℕ) (db : Database M) → AllByRecursion (λ e. e.branch ≡ number) (choices domain number tables db)
  choices_number number [] db = (refl, tt)
  choices_number number (table ∷ tables) db = go (db table)
    where
      go : (rows : List (Annotated M)) → AllByRecursion (λ e. e.branch ≡ number) (flat_map (λ row. map (joined domain number row) (choices domain number tables db)) rows)
      go [] = tt
      go (row ∷ rows) = each_append _ (map (joined domain number row) (choices domain number tables db)) (flat_map (λ row. map (joined domain number row) (choices domain number tables db)) rows)
          (each_made _ (joined domain number row) (λ c. refl) (choices domain number tables db)) (go rows)

  pub chosen_number : (number : ℕ) (branch : Branch) (db : Database M) → AllByRecursion (λ e. e.branch ≡ number) (chosen domain number branch db)
  chosen_number number branch db =
      each_map _ (λ e. e.branch ≡ number) _ (λ e g. g) _ (each_filter (λ (e : Element M). e.branch ≡ number) (λ e. passes_where branch.cond e.cells) (choices domain number branch.from db) (choices_number number branch.from db))

-- ---- branches

module _ {M : Type 0} (domain : Annotations M) (monoid : IsMonoid domain) (steps : ℕ → List (Derived M)) (env : Environment M) (tables : ℕ → Query) (db : Database M) (are : StandFor domain steps env tables db) where
  -- a row before the rest of a choice
  abbrev before : Derived M → Element M → Derived M
  before row e = record { sources = joined_sources row.sources e.sources; cells = row.cells ++ e.cells; mark = false; annotation = domain.times row.annotation e.annotation }

  onto_is : (number : ℕ) (others : List ℕ) (query : Query) → map unmarked (meaning domain steps env (product_onto tables query others)) ≡ flat_map (λ row. map (before row) (choices domain number others db)) (meaning domain steps env query)
  onto_is number [] query =
      map_agree _ _ (λ (row : Derived M). λ i. record { sources = sym (joined-none row.sources) i; cells = sym (append-nil row.cells) i; mark = false; annotation = sym (monoid.right_one row.annotation) i }) (meaning domain steps env query)
      ∙ sym (flat_map-single _ (meaning domain steps env query))
  onto_is number (table ∷ others) query =
      onto_is number others (product query (tables table))
      ∙ flat_map-flat_map _ _ (meaning domain steps env query)
      ∙ flat_map_agree _ _ each (meaning domain steps env query)
    where
      assoc : (row : Derived M) (r : Annotated M) (e : Element M) → before (crossed domain row (scanned domain r)) e ≡ before row (joined domain number r e)
      assoc row r e = λ i. record {
        sources = joined-joined row.sources (source r.identity no_sources) e.sources i;
        cells = append_assoc row.cells r.cells e.cells i;
        mark = false;
        annotation = monoid.associative row.annotation r.annotation e.annotation i;
      }

      each : (row : Derived M) → flat_map (λ x. map (before x) (choices domain number others db)) (map (crossed domain row) (meaning domain steps env (tables table)))
          ≡ map (before row) (flat_map (λ r. map (joined domain number r) (choices domain number others db)) (db table))
      each row =
          ap (λ rows. flat_map (λ x. map (before x) (choices domain number others db)) (map (crossed domain row) rows)) (are table)
          ∙ ap (flat_map (λ x. map (before x) (choices domain number others db))) (map-map (crossed domain row) (scanned domain) (db table))
          ∙ flat_map-map _ _ (db table)
          ∙ flat_map_agree _ _ (λ r. map_agree _ _ (assoc row r) (choices domain number others db) ∙ sym (map-map (before row) (joined domain number r) (choices domain number others db))) (db table)
          ∙ sym (map-flat_map (before row) _ (db table))

  product_is : (number table : ℕ) (others : List ℕ) → map unmarked (meaning domain steps env (product_of tables (table ∷ others))) ≡ map row_of_element (choices domain number (table ∷ others) db)
  product_is number table others =
      onto_is number others (tables table) ∙ ap (flat_map (λ row. map (before row) (choices domain number others db))) (are table) ∙ flat_map-map _ (scanned domain) (db table)
      ∙ flat_map_agree _ _ (λ r. sym (map-map row_of_element (joined domain number r) (choices domain number others db))) (db table) ∙ sym (map-flat_map row_of_element _ (db table))

  pub branch_is : (number width : ℕ) (branch : Branch) → IsFit width branch → map unmarked (meaning domain steps env (branch_of tables branch)) ≡ map row_of_element (chosen domain number branch db)
  branch_is number width branch fit =
      ap (λ rows. map unmarked (map (projected domain branch.items None) rows)) (selected_rows branch.cond)
      ∙ map-map unmarked (projected domain branch.items None) (filter test rows)
      ∙ sym (map-map valued unmarked (filter test rows))
      ∙ ap (map valued) (sym (filter-map test unmarked rows))
      ∙ ap (λ rows. map valued (filter test rows)) items
      ∙ ap (map valued) (filter-map test row_of_element (choices domain number branch.from db))
      ∙ map-map valued row_of_element (filter (λ (e : Element M). passes_where branch.cond e.cells) (choices domain number branch.from db))
      ∙ sym (map-map row_of_element _ (filter (λ (e : Element M). passes_where branch.cond e.cells) (choices domain number branch.from db)))
    where
      test : Derived M → Bool
      test row = passes_where branch.cond row.cells

      rows : List (Derived M)
      rows = meaning domain steps env (product_of tables branch.from)

      selected_rows : (o : Option Cond) → meaning domain steps env (selected_by o (product_of tables branch.from)) ≡ filter (λ (row : Derived M). passes_where o row.cells) (meaning domain steps env (product_of tables branch.from))
      selected_rows None = sym (filter_all (meaning domain steps env (product_of tables branch.from)))
      selected_rows (Some c) = refl

      valued : Derived M → Derived M
      valued row = record row { cells = values branch.items row.cells }

      items : map unmarked rows ≡ map row_of_element (choices domain number branch.from db)
      items = subst (λ from. map unmarked (meaning domain steps env (product_of tables from)) ≡ map row_of_element (choices domain number from db)) (sym fit.from) (product_is number fit.first fit.others)
