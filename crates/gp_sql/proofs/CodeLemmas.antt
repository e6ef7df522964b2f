-- Lemmas of the types that the code finds.
use Rattle.gp_sql.proofs.Prelude.{◌≡◌, ◌≢◌, ℕ, suc, ◌+◌, ◌-◌, ◌≤◌, zero, List, [], ◌∷◌, ◌++◌, ap, append_assoc, cond, drop, length, refl, sym, ◌∙◌, arith, Some, None, slice_get, Option, ◌==◌, Table}
use Rattle.gp_sql.specs.declared.cell_type.CellType.{CellType}
use Rattle.gp_sql.specs.declared.cell_type.CellType.TheVariants.{Id, Mark}
use Rattle.gp_sql.specs.declared.query_types.StepType.{StepType}
use Rattle.gp_sql.specs.StepLists.{types_after}
use Rattle.gp_sql.specs.CellTypes.{column_types}
use Rattle.gp_sql.specs.Types.{StepTypes, common, common_types, scan_types, type_at, with_first, with_types}
use Rattle.gp_sql.proofs.ListLemmas.{drop-get, one-more}

pub type-behind : (n : ℕ) (types : List CellType) → 1 ≤ n → type_at n types ≡ slice_get types (n - 1)
type-behind zero types some = absurd (omega (arith, some))
type-behind (suc n) types some = ap (slice_get types) (omega arith)

pub ruleset columns = (type-behind)

-- ---- lists of types, found one by one

abbrev pub types_behind : List CellType → Option (List CellType) → Option (List CellType)
types_behind found None = None
types_behind found (Some types) = Some (found ++ types)

-- ---- the types of two sides

-- two lists of different lengths have no types
pub common-lengths : (left right : List CellType) → length left ≢ length right → common_types left right ≡ None
common-lengths [] [] differ = absurd (differ refl)
common-lengths [] (b ∷ right) differ = refl
common-lengths (a ∷ left) [] differ = refl
common-lengths (a ∷ left) (b ∷ right) differ = first-none (common a b) (common_types left right) (common-lengths left right (λ e. differ (ap (λ (n : ℕ). suc n) e)))
  where
    first-none : (x : Option CellType) (y : Option (List CellType)) → y ≡ None → with_first x y ≡ None
    first-none (Some type) y e = ap (with_first (Some type)) e
    first-none None y e = refl

-- ---- steps

after-at : (steps : List StepType) (f g : StepTypes) (j : ℕ) → f j ≡ g j → types_after steps f j ≡ types_after steps g j
after-at [] f g j e = e
after-at (x ∷ steps) f g j e = after-at steps (with_types x.j x.types f) (with_types x.j x.types g) j (ap (λ (other : Option (List CellType)). cond (j == x.j) x.types other) e)

module _ (steps : List StepType) (n : ℕ) (x : StepType) (is : slice_get steps n ≡ Some x) (j : ℕ) (found total : Option (List CellType)) (same : types_after (drop n steps) (λ k. found) j ≡ total) where
  step-here : types_after (drop (n + 1) steps) (with_types x.j x.types (λ k. found)) j ≡ total
  step-here =
      ap (λ (m : ℕ). types_after (drop m steps) (with_types x.j x.types (λ k. found)) j) (one-more n)
      ∙ ap (λ (rest : List StepType). types_after rest (λ k. found) j) (sym (drop-get steps n x is))
      ∙ same

  pub step-kept : (next : Option (List CellType)) → next ≡ with_types x.j x.types (λ k. found) j → types_after (drop (n + 1) steps) (λ k. next) j ≡ total
  step-kept next e = after-at (drop (n + 1) steps) (λ k. next) (with_types x.j x.types (λ k. found)) j e ∙ step-here

-- ---- a SCAN

pub scan-is : (tables : List Table) (n : ℕ) (table : Table) (a b c : List CellType) → slice_get tables n ≡ Some table → a ≡ column_types table → b ≡ a ++ Id ∷ [] → c ≡ b ++ Mark ∷ [] → Some c ≡ scan_types (slice_get tables n)
scan-is tables n table a b c there first second third =
    ap Some (third ∙ ap (λ (types : List CellType). types ++ Mark ∷ []) (second ∙ ap (λ (types : List CellType). types ++ Id ∷ []) first) ∙ append_assoc (column_types table) (Id ∷ []) (Mark ∷ []))
    ∙ ap scan_types (sym there)
