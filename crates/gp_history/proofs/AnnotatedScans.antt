-- The meaning of an annotated program and its stop depend on the tables and versions that it scans alone.
use Rattle.std.proofs.Common.{◌≡◌, ℕ, List, [], ◌∷◌, ◌++◌, refl, ap, ◌∙◌, map}
use Rattle.std.specs.List.{flat_map, filter}
use Rattle.std.proofs.lemmas.List.Elements.{Contains-append_left, Contains-append_right, Contains-push}
use Rattle.gp_base.specs.Annotated.{Annotations, Environment}
use Rattle.gp_expr.specs.Values.{passes}
use Rattle.gp_algebra.specs.declared.plain.ScanAt.{ScanAt}
use Rattle.gp_algebra.specs.AnnotatedQueries.{Program, Query, QueryStep, scan, step, select, project, product, union, given, new_rows, publish}
use Rattle.gp_algebra.specs.AnnotatedMeaning.{Derived, scanned, projected, crossed, renewed, published_onto, meaning, steps_meaning, program_meaning}
use Rattle.gp_algebra.specs.Plain.{no_steps, with_step}
use Rattle.gp_algebra.specs.Scans.{annotated_program_scans, annotated_query_scans, annotated_steps_scans}
use Rattle.gp_algebra.specs.Stops.{first_stop}
use Rattle.gp_kexec.specs.AnnotatedStops.{program_stop, steps_stop, stop_at}
use Rattle.gp_history.specs.Scanning.{AgreesOn}

module _ {M : Type 0} (domain : Annotations M) (a b : Environment M) where
  -- environments that agree on two lists together agree on each
  agree_left : (xs ys : List ScanAt) → AgreesOn (xs ++ ys) a b → AgreesOn xs a b
  agree_left xs ys e at among = e at (Contains-append_left xs ys at among)

  agree_right : (xs ys : List ScanAt) → AgreesOn (xs ++ ys) a b → AgreesOn ys a b
  agree_right xs ys e at among = e at (Contains-append_right xs ys at among)

  meaning_agrees : (steps : ℕ → List (Derived M)) (query : Query) → AgreesOn (annotated_query_scans query) a b → meaning domain steps a query ≡ meaning domain steps b query
  meaning_agrees steps (scan table version) e = ap (map (scanned domain)) (e (record { table = table; version = version }) (Contains-push [] (record { table = table; version = version })))
  meaning_agrees steps (step j) e = refl
  meaning_agrees steps (select query c) e = ap (filter (λ (row : Derived M). passes c row.cells)) (meaning_agrees steps query e)
  meaning_agrees steps (project query exprs change) e = ap (map (projected domain exprs change)) (meaning_agrees steps query e)
  meaning_agrees steps (product l r) e =
      λ i. flat_map (λ row. map (crossed domain row) (meaning_agrees steps r (agree_right (annotated_query_scans l) (annotated_query_scans r) e) i)) (meaning_agrees steps l (agree_left (annotated_query_scans l) (annotated_query_scans r) e) i)
  meaning_agrees steps (union l r) e =
      λ i. meaning_agrees steps l (agree_left (annotated_query_scans l) (annotated_query_scans r) e) i ++ meaning_agrees steps r (agree_right (annotated_query_scans l) (annotated_query_scans r) e) i
  meaning_agrees steps (given t k rows) e = refl
  meaning_agrees steps (new_rows t k b query) e = ap (map (renewed domain t k b)) (meaning_agrees steps query e)
  meaning_agrees steps (publish x y z) e =
      let others : AgreesOn (annotated_query_scans y ++ annotated_query_scans z) a b = agree_right (annotated_query_scans x) (annotated_query_scans y ++ annotated_query_scans z) e in
      λ i. published_onto domain (meaning_agrees steps x (agree_left (annotated_query_scans x) (annotated_query_scans y ++ annotated_query_scans z) e) i)
      (meaning_agrees steps y (agree_left (annotated_query_scans y) (annotated_query_scans z) others) i) (meaning_agrees steps z (agree_right (annotated_query_scans y) (annotated_query_scans z) others) i)

  first_agrees : (first : QueryStep) (others : List QueryStep) (steps : ℕ → List (Derived M)) → AgreesOn (annotated_steps_scans (first ∷ others)) a b → meaning domain steps a first.query ≡ meaning domain steps b first.query
  first_agrees first others steps e = meaning_agrees steps first.query (agree_left (annotated_query_scans first.query) (annotated_steps_scans others) e)

  steps_agree : (all : List QueryStep) (steps : ℕ → List (Derived M)) → AgreesOn (annotated_steps_scans all) a b → steps_meaning domain a all steps ≡ steps_meaning domain b all steps
  steps_agree [] steps e = refl
  steps_agree (first ∷ others) steps e =
      ap (λ rows. steps_meaning domain a others (with_step first.j rows steps)) (first_agrees first others steps e)
      ∙ steps_agree others (with_step first.j (meaning domain steps b first.query) steps) (agree_right (annotated_query_scans first.query) (annotated_steps_scans others) e)

  pub program_meaning_agrees : (program : Program) → AgreesOn (annotated_program_scans program) a b → program_meaning domain a program ≡ program_meaning domain b program
  program_meaning_agrees program e =
      ap (λ steps. meaning domain steps a program.last) (steps_agree program.steps no_steps (agree_left (annotated_steps_scans program.steps) (annotated_query_scans program.last) e))
      ∙ meaning_agrees (steps_meaning domain b program.steps no_steps) program.last (agree_right (annotated_steps_scans program.steps) (annotated_query_scans program.last) e)

  module _ (most_rows most_nodes : ℕ) where
    steps_stop_agrees : (all : List QueryStep) (steps : ℕ → List (Derived M)) → AgreesOn (annotated_steps_scans all) a b
        → steps_stop domain most_rows most_nodes a all steps ≡ steps_stop domain most_rows most_nodes b all steps
    steps_stop_agrees [] steps e = refl
    steps_stop_agrees (first ∷ others) steps e =
        ap (λ rows. first_stop (stop_at domain most_rows most_nodes first rows) (steps_stop domain most_rows most_nodes a others (with_step first.j rows steps))) (first_agrees first others steps e)
        ∙ ap (first_stop (stop_at domain most_rows most_nodes first (meaning domain steps b first.query)))
        (steps_stop_agrees others (with_step first.j (meaning domain steps b first.query) steps) (agree_right (annotated_query_scans first.query) (annotated_steps_scans others) e))

    pub program_stop_agrees : (program : Program) → AgreesOn (annotated_program_scans program) a b → program_stop domain most_rows most_nodes a program ≡ program_stop domain most_rows most_nodes b program
    program_stop_agrees program e = steps_stop_agrees program.steps no_steps (agree_left (annotated_steps_scans program.steps) (annotated_query_scans program.last) e)
