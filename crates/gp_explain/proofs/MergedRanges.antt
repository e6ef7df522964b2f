-- Merged programs are in range, if the programs are.
use Rattle.gp_explain.proofs.Prelude.{ℕ, Bool, true, false, cond, List, [], ◌∷◌, map, ◌==◌, AllByRecursion, Expr, Cond, substituted_each, Plain, scan, step, select, project, product, union, given, publish, PlainStep, PlainProgram, inlined, stays, settled, is_small, selected, projected, rebuilt, merged, program_inlined, QueryInRange, StepInRange, ProgramInRange}
use Rattle.gp_explain.proofs.SubstitutionRanges.{each_range}

abbrev Stays : Plain → Plain → Type 0
Stays query new = QueryInRange query → QueryInRange new

selected_stays : (c : Cond) (query : Plain) → Stays (select query c) (selected c query)
selected_stays c (select query first) so = (so.0.0, (so.0.1, so.1))
selected_stays c (scan table version) so = so
selected_stays c (step j) so = so
selected_stays c (project query exprs) so = so
selected_stays c (product l r) so = so
selected_stays c (union l r) so = so
selected_stays c (given rows) so = so
selected_stays c (publish at b m l) so = so

projected_stays : (exprs : List Expr) (query : Plain) → Stays (project query exprs) (projected exprs query)
projected_stays exprs (project query inner) so =
    go (is_small (substituted_each exprs inner)) (projected_stays (substituted_each exprs inner) query (so.0.0, each_range inner so.0.1 exprs so.1))
  where
    go : (b : Bool) → QueryInRange (projected (substituted_each exprs inner) query)
        → QueryInRange (cond b (projected (substituted_each exprs inner) query) (project (project query inner) exprs))
    go true rest = rest
    go false rest = so
projected_stays exprs (scan table version) so = so
projected_stays exprs (step j) so = so
projected_stays exprs (select query c) so = so
projected_stays exprs (product l r) so = so
projected_stays exprs (union l r) so = so
projected_stays exprs (given rows) so = so
projected_stays exprs (publish at b m l) so = so

rebuilt_stays : (query : Plain) → Stays query (rebuilt query)
rebuilt_stays (scan table version) so = so
rebuilt_stays (step j) so = so
rebuilt_stays (select query c) so = selected_stays c (rebuilt query) (rebuilt_stays query so.0, so.1)
rebuilt_stays (project query exprs) so = projected_stays exprs (rebuilt query) (rebuilt_stays query so.0, so.1)
rebuilt_stays (product l r) so = (rebuilt_stays l so.0, rebuilt_stays r so.1)
rebuilt_stays (union l r) so = (rebuilt_stays l so.0, rebuilt_stays r so.1)
rebuilt_stays (given rows) so = so
rebuilt_stays (publish at b m l) so = (so.0, (rebuilt_stays b so.1.0, (rebuilt_stays m so.1.1.0, rebuilt_stays l so.1.1.1)))

inlined_stays : (j : ℕ) (own : Plain) → QueryInRange own → (query : Plain) → Stays query (inlined j own query)
inlined_stays j own is (scan table version) so = so
inlined_stays j own is (step i) so = go (i == j)
  where
    go : (b : Bool) → QueryInRange (cond b own (step i))
    go true = is
    go false = so
inlined_stays j own is (select query c) so = (inlined_stays j own is query so.0, so.1)
inlined_stays j own is (project query exprs) so = (inlined_stays j own is query so.0, so.1)
inlined_stays j own is (product l r) so = (inlined_stays j own is l so.0, inlined_stays j own is r so.1)
inlined_stays j own is (union l r) so = (inlined_stays j own is l so.0, inlined_stays j own is r so.1)
inlined_stays j own is (given rows) so = so
inlined_stays j own is (publish at b m l) so = (so.0, (inlined_stays j own is b so.1.0, (inlined_stays j own is m so.1.1.0, inlined_stays j own is l so.1.1.1)))

steps_stay : (put : Plain → Plain) → ((query : Plain) → Stays query (put query)) → (steps : List PlainStep)
    → AllByRecursion StepInRange steps → AllByRecursion StepInRange (map (λ (s : PlainStep). record s { query = put s.query }) steps)
steps_stay put stay [] so = tt
steps_stay put stay (s ∷ steps) so = ((so.0.0, stay s.query so.0.1), steps_stay put stay steps so.1)

settled_stays : (steps : List PlainStep) (last : Plain) → AllByRecursion StepInRange steps → QueryInRange last → ProgramInRange (settled steps last)
settled_stays [] last so is = record { steps = tt; last = is }
settled_stays (s ∷ steps) last so is = go so.0 (settled_stays steps last so.1 is) (stays s (settled steps last))
  where
    go : StepInRange s → ProgramInRange (settled steps last) → (b : Bool)
        → ProgramInRange (cond b (record (settled steps last) { steps = s ∷ (settled steps last).steps }) (program_inlined s.j s.query (settled steps last)))
    go own rest true = record { steps = (own, rest.steps); last = rest.last }
    go own rest false = record {
      steps = steps_stay (inlined s.j s.query) (inlined_stays s.j s.query own.1) (settled steps last).steps rest.steps;
      last = inlined_stays s.j s.query own.1 (settled steps last).last rest.last;
    }

pub merged_range : (program : PlainProgram) → ProgramInRange program → ProgramInRange (merged program)
merged_range program so =
    let all = settled_stays program.steps program.last so.steps so.last in
    record {
      steps = steps_stay rebuilt rebuilt_stays (settled program.steps program.last).steps all.steps;
      last = rebuilt_stays (settled program.steps program.last).last all.last;
    }
