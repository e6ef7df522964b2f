-- An expression built anew with its own columns is a copy, and one with others in their place a substitution.
use Rattle.std.specs.Prelude.{IfSome, MatchOption}
use Rattle.std.specs.List.{HoldsAt}
use Rattle.std.specs.Option.{option_map}
use Rattle.std.proofs.Common.{◌-◌, subst, sym, ◌≡◌, ℕ, zero, suc, ◌<◌, ◌≤◌, length, get_or, arith, Bor, List, [], ◌∷◌, map, Option, Some, None, refl, ap}
use Rattle.gp_expr.specs.Expressions as e
use Rattle.gp_expr.specs.Expressions.{Expr, Cond, Parts}
use Rattle.gp_base.specs.declared.cell.Cell.TheVariants as cell
use Rattle.gp_expr.specs.Rebuilding.{expr_or_null, rebuilt, rebuilt_cond, rebuilt_parts}
use Rattle.gp_expr.specs.declared.expr.Expr.{Expr as Code}
use Rattle.gp_expr.specs.Sizes.{size}
use Rattle.gp_expr.specs.SizeForms.{parts_size}
use Rattle.gp_expr.specs.Views.{expr_view, parts_of}
use Rattle.gp_expr.specs.Substitution.{chosen, substituted, substituted_cond, substituted_parts}
use Rattle.gp_expr.proofs.ViewLemmas.{chosen_view, parts_from}

mutual
  pub rebuilt_own : (expr : Expr) → rebuilt None expr ≡ expr
  rebuilt_own (e.col n) = refl
  rebuilt_own (e.constant x) = refl
  rebuilt_own (e.add a b) = λ i. e.add (rebuilt_own a i) (rebuilt_own b i)
  rebuilt_own (e.sub a b) = λ i. e.sub (rebuilt_own a i) (rebuilt_own b i)
  rebuilt_own (e.mul a b) = λ i. e.mul (rebuilt_own a i) (rebuilt_own b i)
  rebuilt_own (e.neg a) = λ i. e.neg (rebuilt_own a i)
  rebuilt_own (e.case c a b) = λ i. e.case (rebuilt_own_cond c i) (rebuilt_own a i) (rebuilt_own b i)
  rebuilt_own (e.new_id t k b parts) = λ i. e.new_id t k b (rebuilt_own_parts parts i)
  rebuilt_own (e.times a b) = λ i. e.times (rebuilt_own a i) (rebuilt_own b i)

  pub rebuilt_own_cond : (c : Cond) → rebuilt_cond None c ≡ c
  rebuilt_own_cond e.always = refl
  rebuilt_own_cond (e.compare cmp a b) = λ i. e.compare cmp (rebuilt_own a i) (rebuilt_own b i)
  rebuilt_own_cond (e.is_null a wanted) = λ i. e.is_null (rebuilt_own a i) wanted
  rebuilt_own_cond (e.is_true c wanted) = λ i. e.is_true (rebuilt_own_cond c i) wanted
  rebuilt_own_cond (e.and c d) = λ i. e.and (rebuilt_own_cond c i) (rebuilt_own_cond d i)
  rebuilt_own_cond (e.or c d) = λ i. e.or (rebuilt_own_cond c i) (rebuilt_own_cond d i)
  rebuilt_own_cond (e.not c) = λ i. e.not (rebuilt_own_cond c i)

  rebuilt_own_parts : (parts : Parts) → rebuilt_parts None parts ≡ parts
  rebuilt_own_parts e.no_parts = refl
  rebuilt_own_parts (e.part a others) = λ i. e.part (rebuilt_own a i) (rebuilt_own_parts others i)

mutual
  pub rebuilt_inner : (expr : Expr) (inner : List Expr) → rebuilt (Some inner) expr ≡ substituted expr inner
  rebuilt_inner (e.col n) inner = refl
  rebuilt_inner (e.constant x) inner = refl
  rebuilt_inner (e.add a b) inner = λ i. e.add (rebuilt_inner a inner i) (rebuilt_inner b inner i)
  rebuilt_inner (e.sub a b) inner = λ i. e.sub (rebuilt_inner a inner i) (rebuilt_inner b inner i)
  rebuilt_inner (e.mul a b) inner = λ i. e.mul (rebuilt_inner a inner i) (rebuilt_inner b inner i)
  rebuilt_inner (e.neg a) inner = λ i. e.neg (rebuilt_inner a inner i)
  rebuilt_inner (e.case c a b) inner = λ i. e.case (rebuilt_inner_cond c inner i) (rebuilt_inner a inner i) (rebuilt_inner b inner i)
  rebuilt_inner (e.new_id t k b parts) inner = λ i. e.new_id t k b (rebuilt_inner_parts parts inner i)
  rebuilt_inner (e.times a b) inner = λ i. e.times (rebuilt_inner a inner i) (rebuilt_inner b inner i)

  pub rebuilt_inner_cond : (c : Cond) (inner : List Expr) → rebuilt_cond (Some inner) c ≡ substituted_cond c inner
  rebuilt_inner_cond e.always inner = refl
  rebuilt_inner_cond (e.compare cmp a b) inner = λ i. e.compare cmp (rebuilt_inner a inner i) (rebuilt_inner b inner i)
  rebuilt_inner_cond (e.is_null a wanted) inner = λ i. e.is_null (rebuilt_inner a inner i) wanted
  rebuilt_inner_cond (e.is_true c wanted) inner = λ i. e.is_true (rebuilt_inner_cond c inner i) wanted
  rebuilt_inner_cond (e.and c d) inner = λ i. e.and (rebuilt_inner_cond c inner i) (rebuilt_inner_cond d inner i)
  rebuilt_inner_cond (e.or c d) inner = λ i. e.or (rebuilt_inner_cond c inner i) (rebuilt_inner_cond d inner i)
  rebuilt_inner_cond (e.not c) inner = λ i. e.not (rebuilt_inner_cond c inner i)

  rebuilt_inner_parts : (parts : Parts) (inner : List Expr) → rebuilt_parts (Some inner) parts ≡ substituted_parts parts inner
  rebuilt_inner_parts e.no_parts inner = refl
  rebuilt_inner_parts (e.part a others) inner = λ i. e.part (rebuilt_inner a inner i) (rebuilt_inner_parts others inner i)

-- parts built anew, as a list
pub rebuilt_from : (inner : Option (List Expr)) (parts : List Expr) → rebuilt_parts inner (parts_from parts) ≡ parts_from (map (rebuilt inner) parts)
rebuilt_from inner [] = refl
rebuilt_from inner (a ∷ others) = ap (e.part (rebuilt inner a)) (rebuilt_from inner others)

-- the nodes of the expressions in place of columns
abbrev pub inner_size : Option (Bor (List Code)) → ℕ
inner_size None = 0
inner_size (Some inner) = parts_size (parts_of inner.now)

-- one of the parts is no larger than all
pub part_size : (parts : List Code) (i : ℕ) (a : Code) → i < length parts → size (expr_view (get_or parts i a)) ≤ parts_size (parts_of parts)
part_size [] i a below = omega (arith, below)
part_size (first ∷ others) zero a below = omega arith
part_size (first ∷ others) (suc i) a below = let rest = part_size others i a (omega (arith, below)) in omega (arith, rest)

-- no expression is chosen behind the last one
none_chosen : (inner : List Code) (i : ℕ) → length inner ≤ i → get_or (map expr_view inner) i (e.constant cell.Null) ≡ e.constant cell.Null
none_chosen [] i behind = refl
none_chosen (a ∷ inner) zero behind = absurd (omega (arith, behind))
none_chosen (a ∷ inner) (suc i) behind = none_chosen inner i (omega (arith, behind))

chosen_behind : (n : ℕ) (inner : List Code) → (n ≡ 0 → ⊥) → length inner ≤ n - 1 → chosen n (map expr_view inner) ≡ e.constant cell.Null
chosen_behind zero inner is_column behind = absurd (is_column refl)
chosen_behind (suc n) inner is_column behind =
    let place : suc n - 1 ≡ n = omega arith in
    none_chosen inner n (subst (λ i. length inner ≤ i) place behind)

-- what is found in the place of a column is the expression that is chosen, and no larger than all
module _ (n : ℕ) (inner : List Code) (is_column : n ≡ 0 → ⊥) where
  pub chosen_found : (found : Option (Bor Code)) → IfSome found (λ x. x.now ≡ get_or inner (n - 1) x.now) →
      MatchOption found (length inner ≤ n - 1) (λ x. (n - 1 < length inner) × HoldsAt (λ y. x.now ≡ y) inner (n - 1)) →
      expr_or_null (option_map (λ expr. expr_view expr.now) found) ≡ chosen n (map expr_view inner)
  chosen_found (Some x) is at = chosen_view n inner x.now is_column at.0 is
  chosen_found None is at = sym (chosen_behind n inner is_column at)

  pub found_size : (found : Option (Bor Code)) → IfSome found (λ x. x.now ≡ get_or inner (n - 1) x.now) →
      MatchOption found (length inner ≤ n - 1) (λ x. (n - 1 < length inner) × HoldsAt (λ y. x.now ≡ y) inner (n - 1)) →
      IfSome found (λ expr. size (expr_view expr.now) ≤ parts_size (parts_of inner))
  found_size (Some x) is at = subst (λ a. size (expr_view a) ≤ parts_size (parts_of inner)) (sym is) (part_size inner (n - 1) x.now at.0)
  found_size None is at = tt
