-- Machinery: which tests of annotations the laws of deletion hold for.
use Rattle.std.specs.Prelude.{◌≡◌, ◌||◌, Bool, false}
use Rattle.gp_base.specs.Annotated.{Annotations}

-- nothing is found in one, and in a product what is found in a factor
pub record Finds {M : Type 0} (domain : Annotations M) (has : M → Bool) : Type 0 where
  pub one : has domain.one ≡ false
  pub times : (a b : M) → has (domain.times a b) ≡ (has a || has b)
