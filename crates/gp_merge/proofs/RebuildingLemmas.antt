-- A rebuilt query gives the same rows, and so does a merged program.
use Rattle.std.proofs.Common.{◌≡◌, ℕ, ◌+◌, Bool, true, false, cond, List, [], ◌∷◌, ◌++◌, refl, sym, ap, ◌∙◌, map}
use Rattle.std.specs.Prelude.{◌&&◌}
use Rattle.std.specs.List.{flat_map, filter}
use Rattle.gp_expr.specs.Expressions as e
use Rattle.gp_expr.specs.Expressions.{Expr, Cond}
use Rattle.gp_expr.specs.Substitution.{substituted_each}
use Rattle.gp_expr.specs.Values.{truth, holds, both}
use Rattle.gp_expr.specs.declared.ternary.Ternary.{Ternary}
use Rattle.gp_expr.specs.declared.ternary.Ternary.TheVariants.{True, False, Unknown}
use Rattle.gp_expr.proofs.SubstitutionLemmas.{values_substituted}
use Rattle.gp_base.specs.declared.cell.Cell.{Cell}
use Rattle.gp_expr.specs.Values.{passes}
use Rattle.gp_algebra.specs.Answers.{values}
use Rattle.gp_algebra.specs.Plain.{Plain, scan, step, select, project, product, union, given, publish, PlainStep, PlainProgram, PlainEnvironment, meaning, steps_meaning, program_meaning, with_step, no_steps, published_onto}
use Rattle.gp_merge.specs.Merging.{is_small, selected, projected, rebuilt, merged, settled}
use Rattle.gp_merge.specs.MergingForms.{step_rebuilt}
use Rattle.gp_merge.proofs.Orders.{AreOrdered}
use Rattle.gp_merge.proofs.InliningLemmas.{settled_is}

module _ (env : PlainEnvironment) where
  and_is : (a b : Ternary) → holds (both a b) ≡ (holds a && holds b)
  and_is True True = refl
  and_is True False = refl
  and_is True Unknown = refl
  and_is False b = refl
  and_is Unknown True = refl
  and_is Unknown False = refl
  and_is Unknown Unknown = refl

  filter_twice : (c d : Cond) (rows : List (List Cell)) → filter (passes d) (filter (passes c) rows) ≡ filter (passes (e.and c d)) rows
  filter_twice c d [] = refl
  filter_twice c d (row ∷ rows) = go (passes c row) (filter_twice c d rows) ∙ ap (λ b. cond b (row ∷ filter (passes (e.and c d)) rows) (filter (passes (e.and c d)) rows)) (sym (and_is (truth c row) (truth d row)))
    where
      go : (a : Bool) → filter (passes d) (filter (passes c) rows) ≡ filter (passes (e.and c d)) rows →
          filter (passes d) (cond a (row ∷ filter (passes c) rows) (filter (passes c) rows)) ≡ cond (a && passes d row) (row ∷ filter (passes (e.and c d)) rows) (filter (passes (e.and c d)) rows)
      go true e = ap (λ rs. cond (passes d row) (row ∷ rs) rs) e
      go false e = e

  selected_is : (steps : ℕ → List (List Cell)) (c : Cond) (query : Plain) → meaning steps env (selected c query) ≡ filter (passes c) (meaning steps env query)
  selected_is steps c (select query first) = sym (filter_twice first c (meaning steps env query))
  selected_is steps c query = refl

  values_twice : (exprs inner : List Expr) (rows : List (List Cell)) → map (values (substituted_each exprs inner)) rows ≡ map (values exprs) (map (values inner) rows)
  values_twice exprs inner [] = refl
  values_twice exprs inner (row ∷ rows) = λ i. values_substituted exprs inner row i ∷ values_twice exprs inner rows i

  projected_is : (steps : ℕ → List (List Cell)) (exprs : List Expr) (query : Plain) → meaning steps env (projected exprs query) ≡ map (values exprs) (meaning steps env query)
  projected_is steps exprs (project query inner) =
      go (is_small (substituted_each exprs inner)) (projected_is steps (substituted_each exprs inner) query ∙ values_twice exprs inner (meaning steps env query))
    where
      go : (b : Bool) → meaning steps env (projected (substituted_each exprs inner) query) ≡ map (values exprs) (map (values inner) (meaning steps env query)) →
          meaning steps env (cond b (projected (substituted_each exprs inner) query) (project (project query inner) exprs)) ≡ map (values exprs) (map (values inner) (meaning steps env query))
      go true e = e
      go false e = refl
  projected_is steps exprs query = refl

  pub rebuilt_is : (steps : ℕ → List (List Cell)) (query : Plain) → meaning steps env (rebuilt query) ≡ meaning steps env query
  rebuilt_is steps (scan table version) = refl
  rebuilt_is steps (step i) = refl
  rebuilt_is steps (select query c) = selected_is steps c (rebuilt query) ∙ ap (filter (passes c)) (rebuilt_is steps query)
  rebuilt_is steps (project query exprs) = projected_is steps exprs (rebuilt query) ∙ ap (map (values exprs)) (rebuilt_is steps query)
  rebuilt_is steps (product a b) = λ i. flat_map (λ row. map (λ other. row ++ other) (rebuilt_is steps b i)) (rebuilt_is steps a i)
  rebuilt_is steps (union a b) = λ i. rebuilt_is steps a i ++ rebuilt_is steps b i
  rebuilt_is steps (given rows) = refl
  rebuilt_is steps (publish at b m a) = λ i. published_onto at (rebuilt_is steps b i) (rebuilt_is steps m i) (rebuilt_is steps a i)

  pub rebuilt_steps : (steps : List PlainStep) (held : ℕ → List (List Cell)) → steps_meaning env (map step_rebuilt steps) held ≡ steps_meaning env steps held
  rebuilt_steps [] held = refl
  rebuilt_steps (s ∷ steps) held =
      rebuilt_steps steps (with_step s.j (meaning held env (rebuilt s.query)) held) ∙ ap (λ x. steps_meaning env steps (with_step s.j x held)) (rebuilt_is held s.query)

  -- A merged program means what the program means, on every environment.
  pub merged_is : (program : PlainProgram) → AreOrdered program.steps → program_meaning env (merged program) ≡ program_meaning env program
  merged_is program ordered =
      rebuilt_is (steps_meaning env (map step_rebuilt (settled program.steps program.last).steps) no_steps) (settled program.steps program.last).last
      ∙ ap (λ held. meaning held env (settled program.steps program.last).last) (rebuilt_steps (settled program.steps program.last).steps no_steps)
      ∙ settled_is env program.steps program.last ordered no_steps
