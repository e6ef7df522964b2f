-- A merged program is normal.
use Rattle.std.proofs.Common.{◌≡◌, ℕ, suc, ◌+◌, ◌<◌, Bool, true, false, cond, List, [], ◌∷◌, refl, sym, ap, ◌∙◌, arith, map}
use Rattle.std.specs.Prelude.{◌||◌, ◌&&◌, not, ◌==◌, nat_lt}
use Rattle.std.proofs.lemmas.Bool.{and_parts, false≢true, eqb-true}
use Rattle.gp_expr.specs.Expressions.{Expr, Cond}
use Rattle.gp_expr.specs.Substitution.{substituted_each}
use Rattle.gp_algebra.specs.Plain.{Plain, scan, step, select, project, product, union, given, publish, PlainStep, PlainProgram, PlainEnvironment}
use Rattle.gp_algebra.specs.Stops.{is_insert}
use Rattle.gp_merge.specs.Merging.{uses, program_uses, inlined, stays, settled, is_small, selected, projected, rebuilt, merged}
use Rattle.gp_merge.specs.MergingForms.{step_inlined, program_inlined, step_rebuilt}
use Rattle.gp_merge.specs.Normal.{can_be_one, is_tight, are_normal, is_normal}
use Rattle.gp_merge.proofs.Orders.{IsBelow, AreAbove, AreOrdered}
use Rattle.gp_merge.proofs.InliningLemmas.{above_settled}
use Rattle.gp_base.proofs.SmallLemmas.{not_eq}

-- ---- a merged program is normal

tight_filter : (c : Cond) (query : Plain) → is_tight query ≡ true → is_tight (selected c query) ≡ true
tight_filter c (select query first) e = e
tight_filter c (scan table version) e = refl
tight_filter c (step j) e = refl
tight_filter c (project query exprs) e = e
tight_filter c (product a b) e = e
tight_filter c (union a b) e = e
tight_filter c (given rows) e = refl
tight_filter c (publish at b m a) e = e

tight_project : (exprs : List Expr) (query : Plain) → is_tight query ≡ true → is_tight (projected exprs query) ≡ true
tight_project exprs (project query inner) e =
    go (is_small (substituted_each exprs inner)) refl (tight_project (substituted_each exprs inner) query (and_parts (not (can_be_one inner query)) (is_tight query) e).1)
  where
    go : (b : Bool) → is_small (substituted_each exprs inner) ≡ b → is_tight (projected (substituted_each exprs inner) query) ≡ true →
        is_tight (cond b (projected (substituted_each exprs inner) query) (project (project query inner) exprs)) ≡ true
    go true is t = t
    go false is t = ap (λ b. not b && (not (can_be_one inner query) && is_tight query)) is ∙ e
tight_project exprs (select query c) e = e
tight_project exprs (scan table version) e = refl
tight_project exprs (step j) e = refl
tight_project exprs (product a b) e = e
tight_project exprs (union a b) e = e
tight_project exprs (given rows) e = refl
tight_project exprs (publish at b m a) e = e

pub rebuilt_tight : (query : Plain) → is_tight (rebuilt query) ≡ true
rebuilt_tight (scan table version) = refl
rebuilt_tight (step j) = refl
rebuilt_tight (select query c) = tight_filter c (rebuilt query) (rebuilt_tight query)
rebuilt_tight (project query exprs) = tight_project exprs (rebuilt query) (rebuilt_tight query)
rebuilt_tight (product a b) = λ i. both_at (rebuilt_tight a i) (rebuilt_tight b i)
  where
    both_at : Bool → Bool → Bool
    both_at a b = a && b
rebuilt_tight (union a b) = λ i. rebuilt_tight a i && rebuilt_tight b i
rebuilt_tight (given rows) = refl
rebuilt_tight (publish at b m a) = λ i. rebuilt_tight b i && (rebuilt_tight m i && rebuilt_tight a i)

-- uses, and being an insert, outlive the rebuilding

selected_uses : (j : ℕ) (c : Cond) (query : Plain) → uses j (selected c query) ≡ uses j query
selected_uses j c (select query first) = refl
selected_uses j c query = refl

projected_uses : (j : ℕ) (exprs : List Expr) (query : Plain) → uses j (projected exprs query) ≡ uses j query
projected_uses j exprs (project query inner) = go (is_small (substituted_each exprs inner)) (projected_uses j (substituted_each exprs inner) query)
  where
    go : (b : Bool) → uses j (projected (substituted_each exprs inner) query) ≡ uses j query → uses j (cond b (projected (substituted_each exprs inner) query) (project (project query inner) exprs)) ≡ uses j query
    go true e = e
    go false e = refl
projected_uses j exprs query = refl

rebuilt_uses : (j : ℕ) (query : Plain) → uses j (rebuilt query) ≡ uses j query
rebuilt_uses j (scan table version) = refl
rebuilt_uses j (step i) = refl
rebuilt_uses j (select query c) = selected_uses j c (rebuilt query) ∙ rebuilt_uses j query
rebuilt_uses j (project query exprs) = projected_uses j exprs (rebuilt query) ∙ rebuilt_uses j query
rebuilt_uses j (product a b) = λ i. rebuilt_uses j a i + rebuilt_uses j b i
rebuilt_uses j (union a b) = λ i. rebuilt_uses j a i + rebuilt_uses j b i
rebuilt_uses j (given rows) = refl
rebuilt_uses j (publish at b m a) = λ i. rebuilt_uses j b i + (rebuilt_uses j m i + rebuilt_uses j a i)

rebuilt_uses_in : (j : ℕ) (steps : List PlainStep) (last : Plain) → program_uses j (map step_rebuilt steps) (rebuilt last) ≡ program_uses j steps last
rebuilt_uses_in j [] last = rebuilt_uses j last
rebuilt_uses_in j (s ∷ steps) last = λ i. rebuilt_uses j s.query i + rebuilt_uses_in j steps last i

selected_insert : (c : Cond) (query : Plain) → is_insert (selected c query) ≡ false
selected_insert c (select query first) = refl
selected_insert c query = refl

projected_insert : (exprs : List Expr) (query : Plain) → is_insert (projected exprs query) ≡ false
projected_insert exprs (project query inner) = go (is_small (substituted_each exprs inner)) (projected_insert (substituted_each exprs inner) query)
  where
    go : (b : Bool) → is_insert (projected (substituted_each exprs inner) query) ≡ false → is_insert (cond b (projected (substituted_each exprs inner) query) (project (project query inner) exprs)) ≡ false
    go true e = e
    go false e = refl
projected_insert exprs query = refl

pub rebuilt_insert : (query : Plain) → is_insert (rebuilt query) ≡ is_insert query
rebuilt_insert (select query c) = selected_insert c (rebuilt query)
rebuilt_insert (project query exprs) = projected_insert exprs (rebuilt query)
rebuilt_insert (scan table version) = refl
rebuilt_insert (step i) = refl
rebuilt_insert (product a b) = refl
rebuilt_insert (union a b) = refl
rebuilt_insert (given rows) = refl
rebuilt_insert (publish at b m a) = refl

-- ---- steps that stay are used twice, or are insert_numbers

abbrev pub all_stay : List PlainStep → Plain → Bool
all_stay [] last = true
all_stay (s ∷ steps) last = stays s (record { steps = steps; last = last }) && all_stay steps last

rebuilt_normal : (steps : List PlainStep) (last : Plain) → all_stay steps last ≡ true → are_normal (map step_rebuilt steps) (rebuilt last) ≡ true
rebuilt_normal [] last e = rebuilt_tight last
rebuilt_normal (s ∷ steps) last e =
    let parts : (stays s (record { steps = steps; last = last }) ≡ true) × (all_stay steps last ≡ true) = and_parts _ _ e in
    λ i. (((λ i. rebuilt_insert s.query i || nat_lt 1 (rebuilt_uses_in s.j steps last i)) ∙ parts.0) i && rebuilt_tight s.query i) && rebuilt_normal steps last parts.1 i

pub unused_below : (n j : ℕ) (query : Plain) → n < suc j → IsBelow n query → uses j query ≡ 0
unused_below n j (scan table version) l b = refl
unused_below n j (step i) l b = ap (λ c. cond c 1 0) (not_eq i j (omega arith))
unused_below n j (select query c) l b = unused_below n j query l b
unused_below n j (project query exprs) l b = unused_below n j query l b
unused_below n j (product x y) l b = λ i. unused_below n j x l b.0 i + unused_below n j y l b.1 i
unused_below n j (union x y) l b = λ i. unused_below n j x l b.0 i + unused_below n j y l b.1 i
unused_below n j (given rows) l b = refl
unused_below n j (publish at x y z) l b = λ i. unused_below n j x l b.0 i + (unused_below n j y l b.1 i + unused_below n j z l b.2 i)

-- what is inlined in place of an earlier s uses no later one, and is no insert

inlined_uses : (j k : ℕ) (body : Plain) → j < k → IsBelow j body → (query : Plain) → uses k (inlined j body query) ≡ uses k query
inlined_uses j k body l b (scan table version) = refl
inlined_uses j k body l b (step i) =
    elim (i == j) as (λ c. (i == j) ≡ c → uses k (cond c body (step i)) ≡ cond (i == k) 1 0) [
      | true ↦ λ e. unused_below j k body (omega arith) b ∙ ap (λ c. cond c 1 0) (sym (not_eq i k (let is : i ≡ j = eqb-true i j e in omega arith)))
      | false ↦ λ e. refl
    ] refl
inlined_uses j k body l b (select query c) = inlined_uses j k body l b query
inlined_uses j k body l b (project query exprs) = inlined_uses j k body l b query
inlined_uses j k body l b (product x y) = λ i. inlined_uses j k body l b x i + inlined_uses j k body l b y i
inlined_uses j k body l b (union x y) = λ i. inlined_uses j k body l b x i + inlined_uses j k body l b y i
inlined_uses j k body l b (given rows) = refl
inlined_uses j k body l b (publish at x y z) = λ i. inlined_uses j k body l b x i + (inlined_uses j k body l b y i + inlined_uses j k body l b z i)

program_inlined_uses : (j k : ℕ) (body : Plain) → j < k → IsBelow j body → (steps : List PlainStep) (last : Plain) → program_uses k (map (step_inlined j body) steps) (inlined j body last) ≡ program_uses k steps last
program_inlined_uses j k body l b [] last = inlined_uses j k body l b last
program_inlined_uses j k body l b (s ∷ steps) last = λ i. inlined_uses j k body l b s.query i + program_inlined_uses j k body l b steps last i

pub inlined_insert : (j : ℕ) (body query : Plain) → is_insert body ≡ false → is_insert (inlined j body query) ≡ is_insert query
inlined_insert j body (step i) e = go (i == j)
  where
    go : (b : Bool) → is_insert (cond b body (step i)) ≡ false
    go true = e
    go false = refl
inlined_insert j body (scan table version) e = refl
inlined_insert j body (select query c) e = refl
inlined_insert j body (project query exprs) e = refl
inlined_insert j body (product x y) e = refl
inlined_insert j body (union x y) e = refl
inlined_insert j body (given rows) e = refl
inlined_insert j body (publish at x y z) e = refl

inlined_stay : (j : ℕ) (body : Plain) → IsBelow j body → is_insert body ≡ false → (steps : List PlainStep) (last : Plain) → AreAbove j steps → all_stay (map (step_inlined j body) steps) (inlined j body last) ≡ all_stay steps last
inlined_stay j body b no_insert [] last a = refl
inlined_stay j body b no_insert (s ∷ steps) last a =
    λ i. (inlined_insert j body s.query no_insert i || nat_lt 1 (program_inlined_uses j s.j body a.0 b steps last i)) && inlined_stay j body b no_insert steps last a.1 i

pub either_false : (a b : Bool) → (a || b) ≡ false → a ≡ false
either_false false b e = refl
either_false true b e = absurd (false≢true (sym e))

settled_stay : (steps : List PlainStep) (last : Plain) → AreOrdered steps → all_stay (settled steps last).steps (settled steps last).last ≡ true
settled_stay [] last o = refl
settled_stay (s ∷ steps) last o =
    elim (stays s (settled steps last)) as (λ b. stays s (settled steps last) ≡ b →
    all_stay (cond b (record (settled steps last) { steps = s ∷ (settled steps last).steps }) (program_inlined s.j s.query (settled steps last))).steps (cond b (record (settled steps last) { steps = s ∷ (settled steps last).steps }) (program_inlined s.j s.query (settled steps last))).last ≡ true) [
      | true ↦ λ e. λ i. e i && settled_stay steps last o.2 i
      | false ↦ λ e. inlined_stay s.j s.query o.0 (either_false _ _ e) (settled steps last).steps (settled steps last).last (above_settled no_rows s.j steps last o.1) ∙ settled_stay steps last o.2
    ] refl
  where
    no_rows : PlainEnvironment
    no_rows version table = []

-- The result is normal.
pub merged_normal : (program : PlainProgram) → AreOrdered program.steps → is_normal (merged program) ≡ true
merged_normal program ordered = rebuilt_normal (settled program.steps program.last).steps (settled program.steps program.last).last (settled_stay program.steps program.last ordered)
