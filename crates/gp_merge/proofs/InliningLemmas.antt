-- A program with a step in the place of its use gives the same rows.
use Rattle.std.proofs.Common.{◌≡◌, ℕ, ◌+◌, ◌<◌, Bool, true, false, cond, List, [], ◌∷◌, ◌++◌, refl, sym, ap, ◌∙◌, subst, arith, map}
use Rattle.std.specs.Prelude.{◌==◌}
use Rattle.std.specs.List.{flat_map, filter}
use Rattle.gp_base.specs.declared.cell.Cell.{Cell}
use Rattle.gp_expr.specs.Values.{passes}
use Rattle.gp_algebra.specs.Answers.{values}
use Rattle.gp_algebra.specs.Plain.{Plain, scan, step, select, project, product, union, given, publish, PlainStep, PlainProgram, PlainEnvironment, meaning, steps_meaning, with_step, published_onto}
use Rattle.gp_merge.specs.Merging.{inlined, stays, settled}
use Rattle.gp_merge.specs.MergingForms.{step_inlined, program_inlined}
use Rattle.gp_merge.proofs.Orders.{unequal_back, IsBelow, AreAbove, AreOrdered}
use Rattle.gp_base.proofs.SmallLemmas.{not_eq}
use Rattle.std.proofs.lemmas.Bool.{eqb-true}

module _ (env : PlainEnvironment) where
  -- a query with another in the place of a step means what it means where the step has these rows
  pub inlined_is : (steps : ℕ → List (List Cell)) (j : ℕ) (body query : Plain) → meaning steps env (inlined j body query) ≡ meaning (with_step j (meaning steps env body) steps) env query
  inlined_is steps j body (scan table version) = refl
  inlined_is steps j body (step i) = go (i == j)
    where
      go : (b : Bool) → meaning steps env (cond b body (step i)) ≡ cond b (meaning steps env body) (steps i)
      go true = refl
      go false = refl
  inlined_is steps j body (select query c) = ap (filter (passes c)) (inlined_is steps j body query)
  inlined_is steps j body (project query exprs) = ap (map (values exprs)) (inlined_is steps j body query)
  inlined_is steps j body (product l r) = λ i. flat_map (λ row. map (λ other. row ++ other) (inlined_is steps j body r i)) (inlined_is steps j body l i)
  inlined_is steps j body (union l r) = λ i. inlined_is steps j body l i ++ inlined_is steps j body r i
  inlined_is steps j body (given rows) = refl
  inlined_is steps j body (publish at b m l) = λ i. published_onto at (inlined_is steps j body b i) (inlined_is steps j body m i) (inlined_is steps j body l i)

  -- only the rows of the steps that it reads matter
  pub below_is : (n : ℕ) (f g : ℕ → List (List Cell)) → ((i : ℕ) → i < n → f i ≡ g i) → (query : Plain) → IsBelow n query → meaning f env query ≡ meaning g env query
  below_is n f g e (scan table version) l = refl
  below_is n f g e (step i) l = e i l
  below_is n f g e (select query c) l = ap (filter (passes c)) (below_is n f g e query l)
  below_is n f g e (project query exprs) l = ap (map (values exprs)) (below_is n f g e query l)
  below_is n f g e (product a b) l = λ i. flat_map (λ row. map (λ other. row ++ other) (below_is n f g e b l.1 i)) (below_is n f g e a l.0 i)
  below_is n f g e (union a b) l = λ i. below_is n f g e a l.0 i ++ below_is n f g e b l.1 i
  below_is n f g e (given rows) l = refl
  below_is n f g e (publish at b m a) l = λ i. published_onto at (below_is n f g e b l.0 i) (below_is n f g e m l.1 i) (below_is n f g e a l.2 i)

  pub other_value : (j i : ℕ) (x : List (List Cell)) (f : ℕ → List (List Cell)) → i < j → with_step j x f i ≡ f i
  other_value j i x f l = ap (λ b. cond b x (f i)) (not_eq i j l)

  pub swapped_values : (j k : ℕ) (x y : List (List Cell)) (f : ℕ → List (List Cell)) → j < k → (n : ℕ) → with_step k y (with_step j x f) n ≡ with_step j x (with_step k y f) n
  swapped_values j k x y f l n =
      elim (n == k) as (λ b. (n == k) ≡ b → cond b y (cond (n == j) x (f n)) ≡ cond (n == j) x (cond b y (f n))) [
        | true ↦ λ e. ap (λ b. cond b x y) (sym (let is : n ≡ k = eqb-true n k e in not_at n is))
        | false ↦ λ e. refl
      ] refl
    where
      not_at : (n : ℕ) → n ≡ k → (n == j) ≡ false
      not_at n e = subst (λ n. (n == j) ≡ false) (sym e) (unequal_back j k l)

  -- later steps, with a step in the place of its use
  pub inlined_steps : (j : ℕ) (body : Plain) → IsBelow j body → (steps : List PlainStep) → AreAbove j steps → (held : ℕ → List (List Cell)) →
      steps_meaning env steps (with_step j (meaning held env body) held) ≡ with_step j (meaning held env body) (steps_meaning env (map (step_inlined j body) steps) held)
  inlined_steps j body below [] above held = refl
  inlined_steps j body below (s ∷ steps) above held =
      ap (steps_meaning env steps) same ∙ inlined_steps j body below steps above.1 next ∙ ap (λ x. with_step j x (steps_meaning env (map (step_inlined j body) steps) next)) (sym kept)
    where
      next : ℕ → List (List Cell)
      next = with_step s.j (meaning held env (inlined j body s.query)) held

      kept : meaning held env body ≡ meaning next env body
      kept = below_is j held next (λ i l. sym (other_value s.j i (meaning held env (inlined j body s.query)) held (let a : j < s.j = above.0 in omega arith))) body below

      same : with_step s.j (meaning (with_step j (meaning held env body) held) env s.query) (with_step j (meaning held env body) held)
          ≡ with_step j (meaning next env body) next
      same = λ i n. ((ap (λ x. with_step s.j x (with_step j (meaning held env body) held) n) (sym (inlined_is held j body s.query))) ∙ swapped_values j s.j (meaning held env body) (meaning held env (inlined j body s.query)) held above.0 n ∙ ap (λ x. with_step j x next n) kept) i

  -- what the steps and the last query of a program give, where earlier steps hold these rows
  abbrev pub from_values : (ℕ → List (List Cell)) → PlainProgram → List (List Cell)
  from_values held program = meaning (steps_meaning env program.steps held) env program.last

  pub program_inlined_is : (j : ℕ) (body : Plain) → IsBelow j body → (program : PlainProgram) → AreAbove j program.steps → (held : ℕ → List (List Cell)) →
      from_values held (program_inlined j body program) ≡ from_values (with_step j (meaning held env body) held) program
  program_inlined_is j body below program above held =
      inlined_is after j body program.last ∙ ap (λ x. meaning (with_step j x after) env program.last) (sym (kept program.steps above held))
      ∙ ap (λ steps. meaning steps env program.last) (sym (inlined_steps j body below program.steps above held))
    where
      after : ℕ → List (List Cell)
      after = steps_meaning env (map (step_inlined j body) program.steps) held

      kept : (steps : List PlainStep) → AreAbove j steps → (held : ℕ → List (List Cell)) → meaning held env body ≡ meaning (steps_meaning env (map (step_inlined j body) steps) held) env body
      kept [] above held = refl
      kept (s ∷ steps) above held =
          below_is j held (with_step s.j (meaning held env (inlined j body s.query)) held)
          (λ i l. sym (other_value s.j i (meaning held env (inlined j body s.query)) held (let a : j < s.j = above.0 in omega arith))) body below
          ∙ kept steps above.1 (with_step s.j (meaning held env (inlined j body s.query)) held)

  above_map : (n j : ℕ) (body : Plain) (steps : List PlainStep) → AreAbove n steps → AreAbove n (map (step_inlined j body) steps)
  above_map n j body [] a = tt
  above_map n j body (s ∷ steps) a = (a.0, above_map n j body steps a.1)

  above_before : (n : ℕ) (s : PlainStep) (program : PlainProgram) (b : Bool) → n < s.j → AreAbove n program.steps →
      AreAbove n (cond b (record program { steps = s ∷ program.steps }) (program_inlined s.j s.query program)).steps
  above_before n s program true l a = (l, a)
  above_before n s program false l a = above_map n s.j s.query program.steps a

  pub above_settled : (n : ℕ) (steps : List PlainStep) (last : Plain) → AreAbove n steps → AreAbove n (settled steps last).steps
  above_settled n [] last a = tt
  above_settled n (s ∷ steps) last a = above_before n s (settled steps last) (stays s (settled steps last)) a.0 (above_settled n steps last a.1)

  settled_before_is : (s : PlainStep) (program : PlainProgram) (held : ℕ → List (List Cell)) (b : Bool) → IsBelow s.j s.query → AreAbove s.j program.steps →
      from_values held (cond b (record program { steps = s ∷ program.steps }) (program_inlined s.j s.query program)) ≡ from_values (with_step s.j (meaning held env s.query) held) program
  settled_before_is s program held true below above = refl
  settled_before_is s program held false below above = program_inlined_is s.j s.query below program above held

  -- settling keeps what a program gives
  pub settled_is : (steps : List PlainStep) (last : Plain) → AreOrdered steps → (held : ℕ → List (List Cell)) → from_values held (settled steps last) ≡ from_values held (record { steps = steps; last = last })
  settled_is [] last ordered held = refl
  settled_is (s ∷ steps) last ordered held =
      settled_before_is s (settled steps last) held (stays s (settled steps last)) ordered.0 (above_settled s.j steps last ordered.1)
      ∙ settled_is steps last ordered.2 (with_step s.j (meaning held env s.query) held)
