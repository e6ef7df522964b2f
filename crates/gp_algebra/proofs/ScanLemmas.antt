-- The meaning of a plain program and its stop depend on the tables and versions that it scans alone.
use Rattle.std.proofs.Common.{◌≡◌, ℕ, List, [], ◌∷◌, ◌++◌, refl, ap, ◌∙◌, map}
use Rattle.std.specs.Prelude.{Contains}
use Rattle.std.specs.List.{flat_map, filter}
use Rattle.std.proofs.lemmas.List.Elements.{Contains-append_left, Contains-append_right, Contains-push}
use Rattle.gp_expr.specs.Values.{passes}
use Rattle.gp_algebra.specs.declared.plain.ScanAt.{ScanAt}
use Rattle.gp_algebra.specs.Answers.{values}
use Rattle.gp_algebra.specs.Plain as p
use Rattle.gp_algebra.specs.Plain.{Plain, PlainStep, PlainProgram, PlainEnvironment, StepRows, no_steps, with_step, published_onto, meaning, steps_meaning, program_meaning}
use Rattle.gp_algebra.specs.Stops.{first_stop, stop_at, steps_stop, program_stop}
use Rattle.gp_algebra.specs.Scans.{query_scans, steps_scans, program_scans, AgreeOn}

-- a scan is one of its own
pub own_scan : (scan : ScanAt) → Contains (scan ∷ []) scan
own_scan scan = Contains-push [] scan

module _ (a b : PlainEnvironment) where
  -- environments that agree on two lists together agree on each
  agree_left : (xs ys : List ScanAt) → AgreeOn (xs ++ ys) a b → AgreeOn xs a b
  agree_left xs ys e scan among = e scan (Contains-append_left xs ys scan among)

  agree_right : (xs ys : List ScanAt) → AgreeOn (xs ++ ys) a b → AgreeOn ys a b
  agree_right xs ys e scan among = e scan (Contains-append_right xs ys scan among)

  pub meaning_agrees : (steps : StepRows) (query : Plain) → AgreeOn (query_scans query) a b → meaning steps a query ≡ meaning steps b query
  meaning_agrees steps (p.scan table version) e = e (record { table = table; version = version }) (own_scan _)
  meaning_agrees steps (p.step j) e = refl
  meaning_agrees steps (p.select query c) e = ap (filter (passes c)) (meaning_agrees steps query e)
  meaning_agrees steps (p.project query exprs) e = ap (map (values exprs)) (meaning_agrees steps query e)
  meaning_agrees steps (p.product l r) e =
      λ i. flat_map (λ row. map (λ other. row ++ other) (meaning_agrees steps r (agree_right (query_scans l) (query_scans r) e) i)) (meaning_agrees steps l (agree_left (query_scans l) (query_scans r) e) i)
  meaning_agrees steps (p.union l r) e =
      λ i. meaning_agrees steps l (agree_left (query_scans l) (query_scans r) e) i ++ meaning_agrees steps r (agree_right (query_scans l) (query_scans r) e) i
  meaning_agrees steps (p.given rows) e = refl
  meaning_agrees steps (p.publish at x y z) e =
      let others : AgreeOn (query_scans y ++ query_scans z) a b = agree_right (query_scans x) (query_scans y ++ query_scans z) e in
      λ i. published_onto at (meaning_agrees steps x (agree_left (query_scans x) (query_scans y ++ query_scans z) e) i)
      (meaning_agrees steps y (agree_left (query_scans y) (query_scans z) others) i) (meaning_agrees steps z (agree_right (query_scans y) (query_scans z) others) i)

  first_agrees : (first : PlainStep) (others : List PlainStep) (steps : StepRows) → AgreeOn (steps_scans (first ∷ others)) a b → meaning steps a first.query ≡ meaning steps b first.query
  first_agrees first others steps e = meaning_agrees steps first.query (agree_left (query_scans first.query) (steps_scans others) e)

  pub steps_agree : (all : List PlainStep) (steps : StepRows) → AgreeOn (steps_scans all) a b → steps_meaning a all steps ≡ steps_meaning b all steps
  steps_agree [] steps e = refl
  steps_agree (first ∷ others) steps e =
      ap (λ rows. steps_meaning a others (with_step first.j rows steps)) (first_agrees first others steps e)
      ∙ steps_agree others (with_step first.j (meaning steps b first.query) steps) (agree_right (query_scans first.query) (steps_scans others) e)

  pub program_meaning_agrees : (program : PlainProgram) → AgreeOn (program_scans program) a b → program_meaning a program ≡ program_meaning b program
  program_meaning_agrees program e =
      ap (λ steps. meaning steps a program.last) (steps_agree program.steps no_steps (agree_left (steps_scans program.steps) (query_scans program.last) e))
      ∙ meaning_agrees (steps_meaning b program.steps no_steps) program.last (agree_right (steps_scans program.steps) (query_scans program.last) e)

  module _ (most_rows most_nodes : ℕ) where
    steps_stop_agrees : (all : List PlainStep) (steps : StepRows) → AgreeOn (steps_scans all) a b → steps_stop most_rows most_nodes a all steps ≡ steps_stop most_rows most_nodes b all steps
    steps_stop_agrees [] steps e = refl
    steps_stop_agrees (first ∷ others) steps e =
        ap (λ rows. first_stop (stop_at most_rows most_nodes first rows) (steps_stop most_rows most_nodes a others (with_step first.j rows steps))) (first_agrees first others steps e)
        ∙ ap (first_stop (stop_at most_rows most_nodes first (meaning steps b first.query)))
        (steps_stop_agrees others (with_step first.j (meaning steps b first.query) steps) (agree_right (query_scans first.query) (steps_scans others) e))

    pub program_stop_agrees : (program : PlainProgram) → AgreeOn (program_scans program) a b → program_stop most_rows most_nodes a program ≡ program_stop most_rows most_nodes b program
    program_stop_agrees program e = steps_stop_agrees program.steps no_steps (agree_left (steps_scans program.steps) (query_scans program.last) e)
