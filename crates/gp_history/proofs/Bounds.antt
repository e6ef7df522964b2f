-- How often tokens occur in annotations, against the nodes of identities: numbers, tokens and lists.
use Rattle.std.proofs.Common.{◌≡◌, ◌≤◌, ℕ, zero, suc, ◌+◌, ◌*◌, arith, cond, refl, sym, ◌∙◌, subst, T, true, false, List, [], ◌∷◌, ◌++◌}
use Rattle.std.specs.List.{AllByRecursion}
use Rattle.std.specs.Ordering.{eq_by_cmp}
use Rattle.std.proofs.Math.Nat.{mul-add, mul-one, mul-suc}
use Rattle.std.proofs.lemmas.Nat.{mul-le}
use Rattle.gp_base.specs.declared.token.Token.{Token}
use Rattle.gp_base.specs.Annotated.{Annotated}
use Rattle.gp_base.specs.Identities.{Identity, identity, identity_cmp, nodes, same_identity}
use Rattle.gp_base.specs.IdentityOrder.{identity_cmp-exact}
use Rattle.gp_base.specs.TokenOrder.{token_cmp-exact}
use Rattle.gp_base.specs.Tokens.{token_cmp}
use Rattle.gp_base.proofs.IdentityLaws.{same_identity-is}
use Rattle.gp_semiring.specs.SumLaws.{equal}
use Rattle.gp_machine.proofs.Distinct.{each_weaker}
use Rattle.gp_kexec.specs.SemiringForms.{occurs}
use Rattle.gp_history.specs.Room.{IsWithinNodes}

-- ---- numbers

pub at_most : (a b c : ℕ) → a ≤ b → b ≤ c → a ≤ c
at_most a b c p q = omega arith

pub nothing : (n : ℕ) → 0 ≤ n
nothing n = omega arith

sum_within : (x y u v : ℕ) → x ≤ u → y ≤ v → x + y ≤ u + v
sum_within x y u v p q = omega arith

pub parts_within : (m a b x y : ℕ) → x ≤ m * a → y ≤ m * b → x + y ≤ m * (a + b)
parts_within m a b x y p q = rw (mul-add m a b) (sum_within x y (m * a) (m * b) p q)

pub one_within : (m x : ℕ) → x ≤ m → x ≤ m * 1
one_within m x p = rw (mul-one m) p

pub one_more : (m a x y : ℕ) → x ≤ m → y ≤ m * a → x + y ≤ m * (a + 1)
one_more m a x y p q = let e : x + y ≡ y + x = omega arith in subst (λ z. z ≤ m * (a + 1)) (sym e) (parts_within m a 1 y x q (one_within m x p))

pub next_within : (m n x y : ℕ) → x ≤ m → y ≤ m * n → x + y ≤ m * suc n
next_within m n x y p q = rw (mul-suc m n) (let s : x + y ≤ m + m * n = sum_within x y m (m * n) p q in let e : m + m * n ≡ m * n + m = omega arith in subst (λ z. x + y ≤ z) e s)

pub raised_within : (x most more n : ℕ) → x ≤ most * n → suc most ≤ more → 1 ≤ n → x + 1 ≤ more * n
raised_within x most more n p q r =
    at_most (x + 1) (most * n + n) (more * n) (sum_within x 1 (most * n) n p r) (subst (λ z. z ≤ more * n) (turned most n) (mul-le (suc most) n more n q (omega arith)))
  where
    turned : (m n : ℕ) → suc m * n ≡ m * n + n
    turned m n = grind arith

-- ---- tokens

pub same_token : (a b : Token) → eq_by_cmp token_cmp a b ≡ true → a ≡ b
same_token a b e = token_cmp-exact a b (equal (token_cmp a b) (subst T (sym e) tt))

pub occurs-append : (token : Token) (xs ys : List Token) → occurs token (xs ++ ys) ≡ occurs token xs + occurs token ys
occurs-append token [] ys = omega arith
occurs-append token (x ∷ xs) ys =
    let rest : occurs token (xs ++ ys) ≡ occurs token xs + occurs token ys = occurs-append token xs ys in
    elim (eq_by_cmp token_cmp token x) as (λ b. cond b (suc (occurs token (xs ++ ys))) (occurs token (xs ++ ys)) ≡ cond b (suc (occurs token xs)) (occurs token xs) + occurs token ys) [
      | true ↦ omega arith
      | false ↦ rest
    ]

-- one token occurs once
pub one_token : (most : Token → ℕ) (token own : Token) → 1 ≤ most own → occurs token (own ∷ []) ≤ most token
one_token most token own some =
    elim (eq_by_cmp token_cmp token own) as (λ b. eq_by_cmp token_cmp token own ≡ b → cond b (suc zero) zero ≤ most token) [
      | true ↦ λ e. subst (λ other. 1 ≤ most other) (sym (same_token token own e)) some
      | false ↦ λ e. nothing (most token)
    ] refl

-- ---- identities

pub same_equal : (a b : Identity) → same_identity a b ≡ true → a ≡ b
same_equal a b e = identity_cmp-exact a b (equal (identity_cmp a b) (subst T (sym e ∙ same_identity-is a b) tt))

pub some_node : (id : Identity) → 1 ≤ nodes id
some_node (identity t k n ids) = omega arith

-- ---- rows

pub within_more : (most more : Token → ℕ) → ((token : Token) → most token ≤ more token) → (rows : List (Annotated (List Token))) → AllByRecursion (IsWithinNodes most) rows → AllByRecursion (IsWithinNodes more) rows
within_more most more grows rows are =
    each_weaker (IsWithinNodes more) (IsWithinNodes most)
    (λ row is token. at_most (occurs token row.annotation) (most token * nodes row.identity) (more token * nodes row.identity) (is token) (mul-le (most token) (nodes row.identity) (more token) (nodes row.identity) (grows token) (omega arith))) rows are
