-- A merged program scans no table and version that the program does not.
use Rattle.std.proofs.Common.{◌≡◌, ℕ, Bool, true, false, cond, List, [], ◌∷◌, ◌++◌, ◌⊎◌, inl, inr, refl, ◌∙◌, subst, map}
use Rattle.std.specs.Prelude.{◌==◌, Contains}
use Rattle.std.proofs.lemmas.List.Elements.{Contains-append_cases, Contains-append_left, Contains-append_right}
use Rattle.gp_expr.specs.Expressions.{Expr, Cond}
use Rattle.gp_expr.specs.Substitution.{substituted_each}
use Rattle.gp_algebra.specs.declared.plain.ScanAt.{ScanAt}
use Rattle.gp_algebra.specs.Plain.{Plain, scan, step, select, project, product, union, given, publish, PlainStep, PlainProgram}
use Rattle.gp_algebra.specs.Scans.{query_scans, steps_scans, program_scans}
use Rattle.gp_merge.specs.Merging.{inlined, stays, settled, is_small, selected, projected, rebuilt, merged}
use Rattle.gp_merge.specs.MergingForms.{step_inlined, program_inlined, step_rebuilt}

-- ---- rebuilt queries scan the same

selected_scans : (c : Cond) (query : Plain) → query_scans (selected c query) ≡ query_scans query
selected_scans c (select query first) = refl
selected_scans c query = refl

projected_scans : (exprs : List Expr) (query : Plain) → query_scans (projected exprs query) ≡ query_scans query
projected_scans exprs (project query inner) = go (is_small (substituted_each exprs inner)) (projected_scans (substituted_each exprs inner) query)
  where
    go : (b : Bool) → query_scans (projected (substituted_each exprs inner) query) ≡ query_scans query
        → query_scans (cond b (projected (substituted_each exprs inner) query) (project (project query inner) exprs)) ≡ query_scans query
    go true e = e
    go false e = refl
projected_scans exprs query = refl

rebuilt_scans : (query : Plain) → query_scans (rebuilt query) ≡ query_scans query
rebuilt_scans (scan table version) = refl
rebuilt_scans (step j) = refl
rebuilt_scans (select query c) = selected_scans c (rebuilt query) ∙ rebuilt_scans query
rebuilt_scans (project query exprs) = projected_scans exprs (rebuilt query) ∙ rebuilt_scans query
rebuilt_scans (product l r) = λ i. rebuilt_scans l i ++ rebuilt_scans r i
rebuilt_scans (union l r) = λ i. rebuilt_scans l i ++ rebuilt_scans r i
rebuilt_scans (given rows) = refl
rebuilt_scans (publish at b m l) = λ i. rebuilt_scans b i ++ (rebuilt_scans m i ++ rebuilt_scans l i)

steps_rebuilt_scans : (steps : List PlainStep) → steps_scans (map step_rebuilt steps) ≡ steps_scans steps
steps_rebuilt_scans [] = refl
steps_rebuilt_scans (s ∷ steps) = λ i. rebuilt_scans s.query i ++ steps_rebuilt_scans steps i

-- ---- scans of a step in the place of its use

module _ (at : ScanAt) where
  -- in one of the lists, or elsewhere
  both_lists : (Z : Type 0) (xs ys us vs : List ScanAt) → (Contains us at → Contains xs at ⊎ Z) → (Contains vs at → Contains ys at ⊎ Z)
      → Contains (us ++ vs) at → Contains (xs ++ ys) at ⊎ Z
  both_lists Z xs ys us vs left right among = go (Contains-append_cases us vs at among)
    where
      first : Contains xs at ⊎ Z → Contains (xs ++ ys) at ⊎ Z
      first (inl there) = inl (Contains-append_left xs ys at there)
      first (inr z) = inr z

      second : Contains ys at ⊎ Z → Contains (xs ++ ys) at ⊎ Z
      second (inl there) = inl (Contains-append_right xs ys at there)
      second (inr z) = inr z

      go : Contains us at ⊎ Contains vs at → Contains (xs ++ ys) at ⊎ Z
      go (inl there) = first (left there)
      go (inr there) = second (right there)

  inlined_scans : (j : ℕ) (body query : Plain) → Contains (query_scans (inlined j body query)) at → Contains (query_scans query) at ⊎ Contains (query_scans body) at
  inlined_scans j body (scan table version) among = inl among
  inlined_scans j body (step i) among = go (i == j) among
    where
      go : (b : Bool) → Contains (query_scans (cond b body (step i))) at → Contains (query_scans (step i)) at ⊎ Contains (query_scans body) at
      go true there = inr there
      go false there = inl there
  inlined_scans j body (select query c) among = inlined_scans j body query among
  inlined_scans j body (project query exprs) among = inlined_scans j body query among
  inlined_scans j body (product l r) among =
      both_lists (Contains (query_scans body) at) (query_scans l) (query_scans r) (query_scans (inlined j body l)) (query_scans (inlined j body r)) (inlined_scans j body l) (inlined_scans j body r) among
  inlined_scans j body (union l r) among =
      both_lists (Contains (query_scans body) at) (query_scans l) (query_scans r) (query_scans (inlined j body l)) (query_scans (inlined j body r)) (inlined_scans j body l) (inlined_scans j body r) among
  inlined_scans j body (given rows) among = inl among
  inlined_scans j body (publish n b m l) among =
      both_lists (Contains (query_scans body) at) (query_scans b) (query_scans m ++ query_scans l) (query_scans (inlined j body b)) (query_scans (inlined j body m) ++ query_scans (inlined j body l)) (inlined_scans j body b)
      (both_lists (Contains (query_scans body) at) (query_scans m) (query_scans l) (query_scans (inlined j body m)) (query_scans (inlined j body l)) (inlined_scans j body m) (inlined_scans j body l)) among

  steps_inlined_scans : (j : ℕ) (body : Plain) (steps : List PlainStep) → Contains (steps_scans (map (step_inlined j body) steps)) at → Contains (steps_scans steps) at ⊎ Contains (query_scans body) at
  steps_inlined_scans j body [] among = inl among
  steps_inlined_scans j body (s ∷ steps) among =
      both_lists (Contains (query_scans body) at) (query_scans s.query) (steps_scans steps) (query_scans (inlined j body s.query)) (steps_scans (map (step_inlined j body) steps))
      (inlined_scans j body s.query) (steps_inlined_scans j body steps) among

  settled_scans : (steps : List PlainStep) (last : Plain) → Contains (program_scans (settled steps last)) at → Contains (steps_scans steps ++ query_scans last) at
  settled_scans [] last among = among
  settled_scans (s ∷ steps) last among = go (settled_scans steps last) (stays s (settled steps last)) among
    where
      S : PlainProgram
      S = settled steps last

      body : List ScanAt
      body = query_scans s.query

      -- among those of this step, or of the others and the last query
      placed : Contains body at ⊎ Contains (steps_scans steps ++ query_scans last) at → Contains ((body ++ steps_scans steps) ++ query_scans last) at
      placed (inl there) = Contains-append_left (body ++ steps_scans steps) (query_scans last) at (Contains-append_left body (steps_scans steps) at there)
      placed (inr there) = later (Contains-append_cases (steps_scans steps) (query_scans last) at there)
        where
          later : Contains (steps_scans steps) at ⊎ Contains (query_scans last) at → Contains ((body ++ steps_scans steps) ++ query_scans last) at
          later (inl there) = Contains-append_left (body ++ steps_scans steps) (query_scans last) at (Contains-append_right body (steps_scans steps) at there)
          later (inr there) = Contains-append_right (body ++ steps_scans steps) (query_scans last) at there

      stayed : (Contains (program_scans S) at → Contains (steps_scans steps ++ query_scans last) at) → Contains ((body ++ steps_scans S.steps) ++ query_scans S.last) at
          → Contains body at ⊎ Contains (steps_scans steps ++ query_scans last) at
      stayed rest among = outer (Contains-append_cases (body ++ steps_scans S.steps) (query_scans S.last) at among)
        where
          inner : Contains body at ⊎ Contains (steps_scans S.steps) at → Contains body at ⊎ Contains (steps_scans steps ++ query_scans last) at
          inner (inl there) = inl there
          inner (inr there) = inr (rest (Contains-append_left (steps_scans S.steps) (query_scans S.last) at there))

          outer : Contains (body ++ steps_scans S.steps) at ⊎ Contains (query_scans S.last) at → Contains body at ⊎ Contains (steps_scans steps ++ query_scans last) at
          outer (inl there) = inner (Contains-append_cases body (steps_scans S.steps) at there)
          outer (inr there) = inr (rest (Contains-append_right (steps_scans S.steps) (query_scans S.last) at there))

      put : (Contains (program_scans S) at → Contains (steps_scans steps ++ query_scans last) at) → Contains (program_scans (program_inlined s.j s.query S)) at
          → Contains body at ⊎ Contains (steps_scans steps ++ query_scans last) at
      put rest among =
          turned (both_lists (Contains body at) (steps_scans S.steps) (query_scans S.last) (steps_scans (map (step_inlined s.j s.query) S.steps)) (query_scans (inlined s.j s.query S.last))
          (steps_inlined_scans s.j s.query S.steps) (inlined_scans s.j s.query S.last) among)
        where
          turned : Contains (program_scans S) at ⊎ Contains body at → Contains body at ⊎ Contains (steps_scans steps ++ query_scans last) at
          turned (inl there) = inr (rest there)
          turned (inr there) = inl there

      go : (Contains (program_scans S) at → Contains (steps_scans steps ++ query_scans last) at) → (b : Bool)
          → Contains (program_scans (cond b (record S { steps = s ∷ S.steps }) (program_inlined s.j s.query S))) at → Contains ((body ++ steps_scans steps) ++ query_scans last) at
      go rest true among = placed (stayed rest among)
      go rest false among = placed (put rest among)

  pub merged_scans : (program : PlainProgram) → Contains (program_scans (merged program)) at → Contains (program_scans program) at
  merged_scans program among =
      let S = settled program.steps program.last in
      settled_scans program.steps program.last (subst (λ scans. Contains scans at) (λ i. steps_rebuilt_scans S.steps i ++ rebuilt_scans S.last i) among)
