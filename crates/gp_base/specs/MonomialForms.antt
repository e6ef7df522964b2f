-- Of the contract of `powers` and of the law `product_adds_counts`: tokens and monomials that the code can hold.
use Rattle.std.specs.Prelude.{ℕ, ◌≤◌, Bool, true, [], ◌∷◌, unwrap_or, IsTrue}
use Rattle.std.specs.Ordering.{is_lt}
use Rattle.std.specs.FinMap.{find, is_sorted}
use Rattle.gp_base.specs.declared.token.Token.{Token}
use Rattle.gp_base.specs.declared.token.Token.TheVariants.{Inserted, Queried, Updated}
use Rattle.gp_base.specs.Tokens.{Monomial, greatest_count, token_cmp}

-- its numbers have 32 bits
abbrev pub IsToken : Token → Type 0
IsToken (Inserted t k n) = (t ≤ 0xffff_ffff) × ((k ≤ 0xffff_ffff) × (n ≤ 0xffff_ffff))
IsToken (Queried t k) = (t ≤ 0xffff_ffff) × (k ≤ 0xffff_ffff)
IsToken (Updated t k) = (t ≤ 0xffff_ffff) × (k ≤ 0xffff_ffff)

-- the count of a token, 0 where it is absent
abbrev pub power : Monomial → Token → ℕ
power monomial token = unwrap_or (find token_cmp token monomial) 0

-- a token with a count
abbrev pub IsPower : Token × ℕ → Type 0
IsPower pair = IsToken pair.0 × ((1 ≤ pair.1) × (pair.1 ≤ greatest_count))

abbrev pub ArePowers : Monomial → Type 0
ArePowers [] = Unit {0}
ArePowers (pair ∷ pairs) = IsPower pair × ArePowers pairs

-- tokens strictly rise, and each has a count
pub record IsMonomial (monomial : Monomial) : Type 0 where
  pub sorted : IsTrue (is_sorted token_cmp monomial)
  pub powers : ArePowers monomial

-- a token is above all of a monomial
abbrev pub follows : Token → Monomial → Bool
follows token [] = true
follows token (pair ∷ []) = is_lt (token_cmp pair.0 token)
follows token (pair ∷ next ∷ pairs) = follows token (next ∷ pairs)
