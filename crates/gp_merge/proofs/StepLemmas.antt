-- A merged program keeps its INSERT steps, their numbers and their rows, and stops where the program does.
use Rattle.std.proofs.Common.{◌≡◌, ℕ, ◌<◌, Bool, true, false, cond, List, [], ◌∷◌, length, refl, sym, ap, ◌∙◌, subst, arith, map}
use Rattle.std.specs.Prelude.{◌||◌, ◌==◌, nat_lt, Option, Some, None}
use Rattle.std.specs.List.{list_any}
use Rattle.gp_expr.specs.LargeValues.{is_large}
use Rattle.gp_base.specs.declared.cell.Cell.{Cell}
use Rattle.gp_algebra.specs.Plain.{Plain, PlainStep, PlainProgram, PlainEnvironment, meaning, steps_meaning, with_step, no_steps}
use Rattle.gp_algebra.specs.Stops as stops
use Rattle.gp_algebra.specs.Stops.{Stop, first_stop, steps_stop, program_stop}
use Rattle.gp_algebra.specs.Stops.{is_insert}
use Rattle.gp_merge.specs.Merging.{inlined, stays, settled, merged}
use Rattle.gp_merge.specs.MergingForms.{insert_numbers, step_inlined, program_inlined, step_rebuilt}
use Rattle.gp_algebra.specs.WellBuilt.{is_among}
use Rattle.std.proofs.lemmas.Bool.{false≢true, eqb-true}
use Rattle.gp_merge.proofs.Orders.{unequal_back, IsBelow, AreAbove, AreOrdered}
use Rattle.gp_merge.proofs.InliningLemmas.{inlined_is, below_is, other_value, swapped_values, inlined_steps, above_settled}
use Rattle.gp_merge.proofs.RebuildingLemmas.{rebuilt_is, rebuilt_steps}
use Rattle.gp_merge.proofs.NormalLemmas.{either_false, inlined_insert, rebuilt_insert}
use Rattle.gp_base.proofs.SmallLemmas.{not_eq}

-- ---- INSERT steps keep their numbers and their held

inlined_inserts : (j : ℕ) (body : Plain) → is_insert body ≡ false → (steps : List PlainStep) → insert_numbers (map (step_inlined j body) steps) ≡ insert_numbers steps
inlined_inserts j body e [] = refl
inlined_inserts j body e (s ∷ steps) = λ i. cond (inlined_insert j body s.query e i) (s.j ∷ inlined_inserts j body e steps i) (inlined_inserts j body e steps i)

pub settled_inserts : (steps : List PlainStep) (last : Plain) → insert_numbers (settled steps last).steps ≡ insert_numbers steps
settled_inserts [] last = refl
settled_inserts (s ∷ steps) last =
    elim (stays s (settled steps last)) as (λ b. stays s (settled steps last) ≡ b →
    insert_numbers (cond b (record (settled steps last) { steps = s ∷ (settled steps last).steps }) (program_inlined s.j s.query (settled steps last))).steps ≡ cond (is_insert s.query) (s.j ∷ insert_numbers steps) (insert_numbers steps)) [
      | true ↦ λ e. ap (λ js. cond (is_insert s.query) (s.j ∷ js) js) (settled_inserts steps last)
      | false ↦ λ e. let none_here : is_insert s.query ≡ false = either_false _ _ e in
          inlined_inserts s.j s.query none_here (settled steps last).steps ∙ settled_inserts steps last ∙ ap (λ b. cond b (s.j ∷ insert_numbers steps) (insert_numbers steps)) (sym none_here)
    ] refl

rebuilt_inserts : (steps : List PlainStep) → insert_numbers (map step_rebuilt steps) ≡ insert_numbers steps
rebuilt_inserts [] = refl
rebuilt_inserts (s ∷ steps) = λ i. cond (rebuilt_insert s.query i) (s.j ∷ rebuilt_inserts steps i) (rebuilt_inserts steps i)

pub merged_inserts : (program : PlainProgram) → insert_numbers (merged program).steps ≡ insert_numbers program.steps
merged_inserts program = rebuilt_inserts (settled program.steps program.last).steps ∙ settled_inserts program.steps program.last

-- no step with this number can be put in the place of its use
abbrev pub OnlyInserts : ℕ → List PlainStep → Type 0
OnlyInserts n [] = Unit {0}
OnlyInserts n (s ∷ steps) = (is_insert s.query ≡ false → (n == s.j) ≡ false) × OnlyInserts n steps

settled_values : (env : PlainEnvironment) (n : ℕ) (steps : List PlainStep) (last : Plain) → AreOrdered steps → OnlyInserts n steps → (held : ℕ → List (List Cell)) →
    steps_meaning env (settled steps last).steps held n ≡ steps_meaning env steps held n
settled_values env n [] last o only held = refl
settled_values env n (s ∷ steps) last o only held =
    elim (stays s (settled steps last)) as (λ b. stays s (settled steps last) ≡ b →
    steps_meaning env (cond b (record (settled steps last) { steps = s ∷ (settled steps last).steps }) (program_inlined s.j s.query (settled steps last))).steps held n
    ≡ steps_meaning env steps (with_step s.j (meaning held env s.query) held) n) [
      | true ↦ λ e. settled_values env n steps last o.2 only.1 (with_step s.j (meaning held env s.query) held)
      | false ↦ λ e.
          ap (λ b. cond b (meaning held env s.query) (steps_meaning env (map (step_inlined s.j s.query) (settled steps last).steps) held n)) (sym (only.0 (either_false _ _ e)))
          ∙ ap (λ (f : ℕ → List (List Cell)). f n) (sym (inlined_steps env s.j s.query o.0 (settled steps last).steps (above_settled env s.j steps last o.1) held))
          ∙ settled_values env n steps last o.2 only.1 (with_step s.j (meaning held env s.query) held)
    ] refl

none_are : (n : ℕ) (steps : List PlainStep) → AreAbove n steps → OnlyInserts n steps
none_are n [] above = tt
none_are n (s ∷ steps) above = (λ e. not_eq n s.j above.0, none_are n steps above.1)

numbers_above : (n m : ℕ) (steps : List PlainStep) → AreAbove n steps → is_among (insert_numbers steps) m ≡ true → n < m
numbers_above n m [] above among = absurd (false≢true among)
numbers_above n m (s ∷ steps) above among = go (numbers_above n m steps above.1) (is_insert s.query) among
  where
    at : (is_among (insert_numbers steps) m ≡ true → n < m) → (b : Bool) → (s.j == m) ≡ b → (b || is_among (insert_numbers steps) m) ≡ true → n < m
    at rest true is among = subst (λ k. n < k) (eqb-true s.j m is) above.0
    at rest false is among = rest among

    go : (is_among (insert_numbers steps) m ≡ true → n < m) → (b : Bool) → is_among (cond b (s.j ∷ insert_numbers steps) (insert_numbers steps)) m ≡ true → n < m
    go rest true among = at rest (s.j == m) refl among
    go rest false among = rest among

-- the number of an INSERT step is that of no other step
only_inserts : (n : ℕ) (steps : List PlainStep) → AreOrdered steps → is_among (insert_numbers steps) n ≡ true → OnlyInserts n steps
only_inserts n [] o among = tt
only_inserts n (s ∷ steps) o among = go (only_inserts n steps o.2) (is_insert s.query) refl among
  where
    at : (is_among (insert_numbers steps) n ≡ true → OnlyInserts n steps) → (b : Bool) → (s.j == n) ≡ b → is_insert s.query ≡ true → (b || is_among (insert_numbers steps) n) ≡ true → OnlyInserts n (s ∷ steps)
    at rest true is insert among = (λ e. absurd (false≢true (sym e ∙ insert)), none_are n steps (subst (λ k. AreAbove k steps) (eqb-true s.j n is) o.1))
    at rest false is insert among = (λ e. absurd (false≢true (sym e ∙ insert)), rest among)

    go : (is_among (insert_numbers steps) n ≡ true → OnlyInserts n steps) → (b : Bool) → is_insert s.query ≡ b
        → is_among (cond b (s.j ∷ insert_numbers steps) (insert_numbers steps)) n ≡ true → OnlyInserts n (s ∷ steps)
    go rest true insert among = at rest (s.j == n) refl insert among
    go rest false insert among = (λ e. unequal_back s.j n (numbers_above s.j n steps o.1 among), rest among)

pub merged_values : (env : PlainEnvironment) (n : ℕ) (program : PlainProgram) → AreOrdered program.steps → is_among (insert_numbers program.steps) n ≡ true →
    steps_meaning env (merged program).steps no_steps n ≡ steps_meaning env program.steps no_steps n
merged_values env n program o among =
    ap (λ (f : ℕ → List (List Cell)). f n) (rebuilt_steps env (settled program.steps program.last).steps no_steps)
    ∙ settled_values env n program.steps program.last o (only_inserts n program.steps o among) no_steps

module _ (most_rows most_nodes : ℕ) (env : PlainEnvironment) where
  abbrev stopped : Bool → ℕ → List (List Cell) → Option Stop
  stopped insert j value = cond insert (cond (nat_lt most_rows (length value)) (Some (stops.rows j)) (cond (list_any (list_any (is_large most_nodes)) value) (Some (stops.ancestry j)) None)) None

  inlined_stops : (j : ℕ) (body : Plain) → IsBelow j body → is_insert body ≡ false → (steps : List PlainStep) → AreAbove j steps → (held : ℕ → List (List Cell)) →
      steps_stop most_rows most_nodes env (map (step_inlined j body) steps) held ≡ steps_stop most_rows most_nodes env steps (with_step j (meaning held env body) held)
  inlined_stops j body below no_insert [] above held = refl
  inlined_stops j body below no_insert (s ∷ steps) above held =
      (λ i. first_stop (stopped (inlined_insert j body s.query no_insert i) s.j (inlined_is env held j body s.query i)) (steps_stop most_rows most_nodes env (map (step_inlined j body) steps) next))
      ∙ ap (first_stop (stopped (is_insert s.query) s.j (meaning (with_step j (meaning held env body) held) env s.query))) (inlined_stops j body below no_insert steps above.1 next ∙ ap (steps_stop most_rows most_nodes env steps) (sym same))
    where
      next : ℕ → List (List Cell)
      next = with_step s.j (meaning held env (inlined j body s.query)) held

      kept : meaning held env body ≡ meaning next env body
      kept = below_is env j held next (λ i l. sym (other_value env s.j i (meaning held env (inlined j body s.query)) held (let a : j < s.j = above.0 in omega arith))) body below

      same : with_step s.j (meaning (with_step j (meaning held env body) held) env s.query) (with_step j (meaning held env body) held)
          ≡ with_step j (meaning next env body) next
      same = λ i n. ((ap (λ x. with_step s.j x (with_step j (meaning held env body) held) n) (sym (inlined_is env held j body s.query))) ∙ swapped_values env j s.j (meaning held env body) (meaning held env (inlined j body s.query)) held above.0 n ∙ ap (λ x. with_step j x next n) kept) i

  settled_stops : (steps : List PlainStep) (last : Plain) → AreOrdered steps → (held : ℕ → List (List Cell)) → steps_stop most_rows most_nodes env (settled steps last).steps held ≡ steps_stop most_rows most_nodes env steps held
  settled_stops [] last o held = refl
  settled_stops (s ∷ steps) last o held =
      elim (stays s (settled steps last)) as (λ b. stays s (settled steps last) ≡ b →
      steps_stop most_rows most_nodes env (cond b (record (settled steps last) { steps = s ∷ (settled steps last).steps }) (program_inlined s.j s.query (settled steps last))).steps held
      ≡ first_stop (stopped (is_insert s.query) s.j (meaning held env s.query)) (steps_stop most_rows most_nodes env steps (with_step s.j (meaning held env s.query) held))) [
        | true ↦ λ e. ap (first_stop (stopped (is_insert s.query) s.j (meaning held env s.query))) (settled_stops steps last o.2 (with_step s.j (meaning held env s.query) held))
        | false ↦ λ e. let none_here : is_insert s.query ≡ false = either_false _ _ e in
            inlined_stops s.j s.query o.0 none_here (settled steps last).steps (above_settled env s.j steps last o.1) held
            ∙ settled_stops steps last o.2 (with_step s.j (meaning held env s.query) held)
            ∙ ap (λ b. first_stop (stopped b s.j (meaning held env s.query)) (steps_stop most_rows most_nodes env steps (with_step s.j (meaning held env s.query) held))) (sym none_here)
      ] refl

  rebuilt_stops : (steps : List PlainStep) (held : ℕ → List (List Cell)) → steps_stop most_rows most_nodes env (map step_rebuilt steps) held ≡ steps_stop most_rows most_nodes env steps held
  rebuilt_stops [] held = refl
  rebuilt_stops (s ∷ steps) held =
      (λ i. first_stop (stopped (rebuilt_insert s.query i) s.j (rebuilt_is env held s.query i)) (rebuilt_stops steps (with_step s.j (rebuilt_is env held s.query i) held) i))

  pub merged_stop : (program : PlainProgram) → AreOrdered program.steps → program_stop most_rows most_nodes env (merged program) ≡ program_stop most_rows most_nodes env program
  merged_stop program o = rebuilt_stops (settled program.steps program.last).steps no_steps ∙ settled_stops program.steps program.last o no_steps
