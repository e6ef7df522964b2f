-- Where two environments have equal bags in the tables that a plain program scans, it has equal bags in them, and stops at the same step.
use Rattle.std.proofs.Common.{◌≡◌, ℕ, suc, true, false, cond, List, [], ◌∷◌, ◌++◌, refl, ap, map, Some, None}
use Rattle.std.specs.Prelude.{◌||◌, ◌&&◌, not, nat_lt, ◌==◌, Contains}
use Rattle.std.specs.List.{filter, list_any}
use Rattle.std.proofs.lemmas.List.Elements.{filter_agree, Contains-append_left, Contains-append_right}
use Rattle.gp_base.specs.declared.cell.Cell.{Cell}
use Rattle.gp_expr.specs.Values.{column, passes}
use Rattle.gp_expr.specs.LargeValues.{is_large}
use Rattle.gp_algebra.specs.declared.plain.ScanAt.{ScanAt}
use Rattle.gp_algebra.specs.Answers.{values}
use Rattle.gp_algebra.specs.Plain as p
use Rattle.gp_algebra.specs.Plain.{Plain, PlainStep, PlainProgram, PlainEnvironment, StepRows, no_steps, with_step, is_same_id, is_marked, is_written, published_onto, meaning, steps_meaning, program_meaning}
use Rattle.gp_algebra.specs.Stops.{first_stop, stop_at, steps_stop, program_stop}
use Rattle.gp_algebra.specs.Stops.{is_insert}
use Rattle.gp_algebra.specs.Stops as stops
use Rattle.gp_algebra.specs.Scans.{query_scans, steps_scans, program_scans}
use Rattle.gp_algebra.proofs.ScanLemmas.{own_scan}
use Rattle.gp_base.proofs.Bags.{SameBag, none, through, same, same_from, joined, mapped, filtered, flat_mapped, flat_mapped_each, as_long, any_same}

is_written_same : (at : ℕ) (b c m n : List (List Cell)) → SameBag b c → SameBag m n → (id : Cell) → is_written at b m id ≡ is_written at c n id
is_written_same at b c m n s u id =
    λ i. any_same (λ row. is_marked (column (suc at) row) && is_same_id (column at row) id) u i
    || (any_same (λ row. is_same_id (column at row) id) s i && not (any_same (λ row. is_same_id (column at row) id) u i))

pub published_same : (at : ℕ) (b c m n k l : List (List Cell)) → SameBag b c → SameBag m n → SameBag k l → SameBag (published_onto at b m k) (published_onto at c n l)
published_same at b c m n k l s u v =
    joined
    (through (filtered (λ row. not (is_written at b m (column at row))) v)
    (same_from (filter (λ row. not (is_written at b m (column at row))) l) (filter (λ row. not (is_written at c n (column at row))) l) (filter_agree _ _ (λ row. ap not (is_written_same at b c m n s u (column at row))) l)))
    (filtered (λ row. is_marked (column (suc at) row)) u)

-- the same rows in each of these tables and versions
abbrev pub SameOn : List ScanAt → PlainEnvironment → PlainEnvironment → Type 0
SameOn scans a b = (scan : ScanAt) → Contains scans scan → SameBag (a scan.version scan.table) (b scan.version scan.table)

-- the same rows in each step
abbrev SameSteps : StepRows → StepRows → Type 0
SameSteps f g = (j : ℕ) → SameBag (f j) (g j)

module _ (a b : PlainEnvironment) where
  same_left : (xs ys : List ScanAt) → SameOn (xs ++ ys) a b → SameOn xs a b
  same_left xs ys e scan among = e scan (Contains-append_left xs ys scan among)

  same_right : (xs ys : List ScanAt) → SameOn (xs ++ ys) a b → SameOn ys a b
  same_right xs ys e scan among = e scan (Contains-append_right xs ys scan among)

  pub meaning_same : (f g : StepRows) → SameSteps f g → (query : Plain) → SameOn (query_scans query) a b → SameBag (meaning f a query) (meaning g b query)
  meaning_same f g s (p.scan table version) e = e (record { table = table; version = version }) (own_scan _)
  meaning_same f g s (p.step j) e = s j
  meaning_same f g s (p.select query c) e = filtered (passes c) (meaning_same f g s query e)
  meaning_same f g s (p.project query exprs) e = mapped (values exprs) (meaning_same f g s query e)
  meaning_same f g s (p.product l r) e =
      through (flat_mapped (λ row. map (λ other. row ++ other) (meaning f a r)) (meaning_same f g s l (same_left (query_scans l) (query_scans r) e)))
      (flat_mapped_each _ _ (λ row. mapped (λ other. row ++ other) (meaning_same f g s r (same_right (query_scans l) (query_scans r) e))) (meaning g b l))
  meaning_same f g s (p.union l r) e = joined (meaning_same f g s l (same_left (query_scans l) (query_scans r) e)) (meaning_same f g s r (same_right (query_scans l) (query_scans r) e))
  meaning_same f g s (p.given rows) e = same rows
  meaning_same f g s (p.publish at x y z) e =
      let others : SameOn (query_scans y ++ query_scans z) a b = same_right (query_scans x) (query_scans y ++ query_scans z) e in
      published_same at _ _ _ _ _ _ (meaning_same f g s x (same_left (query_scans x) (query_scans y ++ query_scans z) e))
      (meaning_same f g s y (same_left (query_scans y) (query_scans z) others)) (meaning_same f g s z (same_right (query_scans y) (query_scans z) others))

  -- one step, given what it gives in both
  with_step_same : (f g : StepRows) → SameSteps f g → (first : ℕ) (xs ys : List (List Cell)) → SameBag xs ys → SameSteps (with_step first xs f) (with_step first ys g)
  with_step_same f g s first xs ys same j = elim (j == first) as (λ c. SameBag (cond c xs (f j)) (cond c ys (g j))) [ true ↦ same | false ↦ s j ]

  first_same : (f g : StepRows) → SameSteps f g → (first : PlainStep) (others : List PlainStep) → SameOn (steps_scans (first ∷ others)) a b → SameBag (meaning f a first.query) (meaning g b first.query)
  first_same f g s first others e = meaning_same f g s first.query (same_left (query_scans first.query) (steps_scans others) e)

  -- after the first step
  next_same : (f g : StepRows) → SameSteps f g → (first : PlainStep) (others : List PlainStep) → SameOn (steps_scans (first ∷ others)) a b
      → SameSteps (with_step first.j (meaning f a first.query) f) (with_step first.j (meaning g b first.query) g)
  next_same f g s first others e = with_step_same f g s first.j (meaning f a first.query) (meaning g b first.query) (first_same f g s first others e)

  pub steps_same : (steps : List PlainStep) → SameOn (steps_scans steps) a b → (f g : StepRows) → SameSteps f g → SameSteps (steps_meaning a steps f) (steps_meaning b steps g)
  steps_same [] e f g s = s
  steps_same (first ∷ others) e f g s =
      steps_same others (same_right (query_scans first.query) (steps_scans others) e) (with_step first.j (meaning f a first.query) f) (with_step first.j (meaning g b first.query) g) (next_same f g s first others e)

  pub program_meaning_same : (program : PlainProgram) → SameOn (program_scans program) a b → SameBag (program_meaning a program) (program_meaning b program)
  program_meaning_same program e =
      meaning_same _ _ (steps_same program.steps (same_left (steps_scans program.steps) (query_scans program.last) e) no_steps no_steps (λ j. none))
      program.last (same_right (steps_scans program.steps) (query_scans program.last) e)

  module _ (most_rows most_nodes : ℕ) where
    stop_at_same : (first : PlainStep) (xs ys : List (List Cell)) → SameBag xs ys → stop_at most_rows most_nodes first xs ≡ stop_at most_rows most_nodes first ys
    stop_at_same first xs ys s =
        λ i. cond (is_insert first.query) (cond (nat_lt most_rows (as_long s i)) (Some (stops.rows first.j)) (cond (any_same (list_any (is_large most_nodes)) s i) (Some (stops.ancestry first.j)) None)) None

    steps_stop_same : (steps : List PlainStep) → SameOn (steps_scans steps) a b → (f g : StepRows) → SameSteps f g → steps_stop most_rows most_nodes a steps f ≡ steps_stop most_rows most_nodes b steps g
    steps_stop_same [] e f g s = refl
    steps_stop_same (first ∷ others) e f g s =
        λ i. first_stop (stop_at_same first (meaning f a first.query) (meaning g b first.query) (first_same f g s first others e) i)
        (steps_stop_same others (same_right (query_scans first.query) (steps_scans others) e) (with_step first.j (meaning f a first.query) f) (with_step first.j (meaning g b first.query) g) (next_same f g s first others e) i)

    pub program_stop_same : (program : PlainProgram) → SameOn (program_scans program) a b → program_stop most_rows most_nodes a program ≡ program_stop most_rows most_nodes b program
    program_stop_same program e = steps_stop_same program.steps (same_left (steps_scans program.steps) (query_scans program.last) e) no_steps no_steps (λ j. none)
