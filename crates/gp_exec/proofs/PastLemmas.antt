-- A program that is run over the rows of one scan gives what it means in every environment that has them there.
use Rattle.std.proofs.Common.{◌≡◌, ◌<◌, ◌≤◌, ◌==◌, Bool, true, false, List, [], ◌∷◌, filter, length, map, Option, Some, None, Result, Ok, Err, if◌then◌else◌, refl, sym, ap, subst, ◌∙◌}
use Rattle.std.specs.List.{list_all}
use Rattle.std.specs.List.Sorted.{IsPermutation}
use Rattle.std.specs.Option.{option_map}
use Rattle.std.proofs.lemmas.Bool.{and_parts, eqb-true}
use Rattle.std.proofs.lemmas.List.Sorted.{IsPermutation-refl}
use Rattle.gp_base.specs.declared.cell.Cell.{Cell}
use Rattle.gp_base.specs.declared.limit.TheConstants.{MAX_ANSWER_ROWS, MAX_TABLE_ROWS}
use Rattle.gp_base.specs.declared.row_id.TheConstants.{MAX_NODES}
use Rattle.gp_expr.specs.Expressions.{Expr}
use Rattle.gp_expr.specs.ExpressionForms.{is_simple}
use Rattle.gp_expr.specs.Values.{passes}
use Rattle.gp_algebra.specs.declared.plain.ScanAt.{ScanAt}
use Rattle.gp_algebra.specs.Answers.{values}
use Rattle.gp_algebra.specs.Plain as p
use Rattle.gp_algebra.specs.Plain.{Plain, PlainEnvironment, PlainProgram, PlainStep, meaning, no_steps, program_meaning, steps_meaning}
use Rattle.gp_algebra.specs.Stops.{program_stop, steps_stop}
use Rattle.gp_exec.specs.declared.error.ExecStop.{ExecStop}
use Rattle.gp_exec.specs.declared.error.ExecStop.TheVariants as exec
use Rattle.gp_exec.specs.Backends.{Executes}
use Rattle.gp_exec.specs.PastRows.{IsGivenIfSome, Runs, after_steps, found_in, is_scan_of, last_in, projected_in, run_in}

-- the rows of a projection
pub projected_is : (at : ScanAt) (rows picks : List (List Cell)) (query : Plain) (exprs : List Expr) → list_all is_simple exprs ≡ true → found_in at rows query ≡ Some picks → projected_in at rows query exprs ≡ Some (map (values exprs) picks)
projected_is at rows picks query exprs simple is = rw (simple, is) refl

abbrev some_or : {A : Type 0} → A → Option A → A
some_or other (Some a) = a
some_or other None = other

module _ (at : ScanAt) (rows : List (List Cell)) (env : PlainEnvironment) (lie : env at.version at.table ≡ rows) where
  abbrev meant : Plain → List (List Cell)
  meant query = meaning no_steps env query

  scan_rows : (query : Plain) → is_scan_of at query ≡ true → meant query ≡ rows
  scan_rows (p.scan table version) is =
      let parts = and_parts (at.version == version) (at.table == table) is in
      ap (λ v. env v table) (sym (eqb-true at.version version parts.0)) ∙ (ap (λ t. env at.version t) (sym (eqb-true at.table table parts.1)) ∙ lie)
  scan_rows (p.step j) is = absurd (cc)
  scan_rows (p.select query c) is = absurd (cc)
  scan_rows (p.project query exprs) is = absurd (cc)
  scan_rows (p.product left right) is = absurd (cc)
  scan_rows (p.union left right) is = absurd (cc)
  scan_rows (p.given given) is = absurd (cc)
  scan_rows (p.publish column base mine later) is = absurd (cc)

  scanned : (query : Plain) (found picks : List (List Cell)) (b : Bool) → is_scan_of at query ≡ b → (if b then Some found else None) ≡ Some picks → (is_scan_of at query ≡ true) × (found ≡ picks)
  scanned query found picks true is same = (is, ap (some_or found) same)
  scanned query found picks false is same = absurd (cc)

  found_given : (query : Plain) (picks : List (List Cell)) → found_in at rows query ≡ Some picks → meant query ≡ picks
  found_given (p.scan table version) picks same =
      let parts = scanned (p.scan table version) rows picks (is_scan_of at (p.scan table version)) refl same in
      scan_rows (p.scan table version) parts.0 ∙ parts.1
  found_given (p.step j) picks same = absurd (cc)
  found_given (p.select query c) picks same =
      let parts = scanned query (filter (passes c) rows) picks (is_scan_of at query) refl same in
      ap (filter (passes c)) (scan_rows query parts.0) ∙ parts.1
  found_given (p.project query exprs) picks same = absurd (cc)
  found_given (p.product left right) picks same = absurd (cc)
  found_given (p.union left right) picks same = absurd (cc)
  found_given (p.given given) picks same = absurd (cc)
  found_given (p.publish column base mine later) picks same = absurd (cc)

  projected_given : (query : Plain) (exprs : List Expr) (made : List (List Cell)) (b : Bool) (picks : Option (List (List Cell))) → found_in at rows query ≡ picks
      → (if b then option_map (map (values exprs)) picks else None) ≡ Some made → meant (p.project query exprs) ≡ made
  projected_given query exprs made true (Some picks) is same = ap (map (values exprs)) (found_given query picks is) ∙ ap (some_or made) same
  projected_given query exprs made true None is same = absurd (cc)
  projected_given query exprs made false picks is same = absurd (cc)

  last_given : (last : Plain) (made : List (List Cell)) → last_in at rows last ≡ Some made → meant last ≡ made
  last_given (p.scan table version) made same = absurd (cc)
  last_given (p.step j) made same = absurd (cc)
  last_given (p.select query c) made same = absurd (cc)
  last_given (p.project query exprs) made same = projected_given query exprs made (list_all is_simple exprs) (found_in at rows query) refl same
  last_given (p.product left right) made same = absurd (cc)
  last_given (p.union left right) made same = absurd (cc)
  last_given (p.given given) made same = absurd (cc)
  last_given (p.publish column base mine later) made same = absurd (cc)

  run_given : (steps : List PlainStep) (last : Plain) (made : List (List Cell)) → after_steps steps (last_in at rows last) ≡ Some made →
      (steps_stop MAX_TABLE_ROWS MAX_NODES env steps no_steps ≡ None) × (meaning (steps_meaning env steps no_steps) env last ≡ made)
  run_given [] last made same = (refl, last_given last made same)
  run_given (first ∷ others) last made same = absurd (cc)

  pub executes_past : {X : Type 0} (view : X → List (List Cell)) (program : PlainProgram) (result : Result (Option X) ExecStop) → Runs view result (run_in at rows program) → IsGivenIfSome view Executes result program env
  executes_past {X} view program result runs = go result (run_in at rows program) refl runs
    where
      given : (made : List (List Cell)) → run_in at rows program ≡ Some made → (program_stop MAX_TABLE_ROWS MAX_NODES env program ≡ None) × (program_meaning env program ≡ made)
      given made same = run_given program.steps program.last made same

      go : (result : Result (Option X) ExecStop) (made : Option (List (List Cell))) → run_in at rows program ≡ made → Runs view result made → IsGivenIfSome view Executes result program env
      go (Ok (Some found)) (Some made) same runs = (
        (given made same).0,
        (subst (IsPermutation (view found)) (runs.0 ∙ sym (given made same).1) (IsPermutation-refl (view found)), subst (λ (rows : List (List Cell)). length rows ≤ MAX_ANSWER_ROWS) (sym (given made same).1) runs.1),
      )
      go (Ok (Some found)) None same runs = absurd runs
      go (Ok None) made same runs = tt
      go (Err exec.Answer) (Some made) same over = ((given made same).0, subst (λ (rows : List (List Cell)). MAX_ANSWER_ROWS < length rows) (sym (given made same).1) over)
      go (Err exec.Answer) None same over = absurd over
      go (Err (exec.Rows j)) made same stop = absurd stop
      go (Err (exec.Ancestry j)) made same stop = absurd stop
      go (Err exec.NoMemory) made same none = tt
