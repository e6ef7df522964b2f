-- Lemmas of the order of spans and places.
use Rattle.std.proofs.Common.{◌≡◌, ℕ, zero, suc, ◌+◌, [], ◌∷◌, ◌++◌, ap, arith}
use Rattle.std.specs.List.{range_with_len}
use Rattle.std.specs.Option.{option_cmp}
use Rattle.std.specs.Cmp.{IsTotalOrder, on_total, then_total}
use Rattle.std.specs.Cmp.Lexicographic.{options_total}
use Rattle.std.proofs.lemmas.Cmp.{nat_cmp_total}
use Rattle.gp_base.specs.IdentityOrder.{identity_cmp_total}
use Rattle.gp_versions.specs.declared.span.Span.{Span}
use Rattle.gp_versions.specs.Spans.{span_cmp}

pub span_cmp_total : IsTotalOrder span_cmp
span_cmp_total = then_total (on_total (λ (span : Span). span.id) identity_cmp_total) (on_total (λ (span : Span). span.from) nat_cmp_total)

pub places_total : IsTotalOrder (option_cmp span_cmp)
places_total = options_total span_cmp_total

from-more : (a n b : ℕ) → a + n ≡ b → range_with_len a (suc n) ≡ range_with_len a n ++ b ∷ []
from-more a zero b is = ap (λ x. x ∷ []) (omega (arith, is))
from-more a (suc n) b is = ap (λ xs. a ∷ xs) (from-more (a + 1) n b (omega (arith, is)))

-- one number more
pub numbers_more : (n : ℕ) → range_with_len 0 (n + 1) ≡ range_with_len 0 n ++ n ∷ []
numbers_more n = let e : n + 1 ≡ suc n = omega arith in rw e (from-more 0 n n (omega arith))
