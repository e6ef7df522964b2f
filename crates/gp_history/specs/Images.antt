-- Of the contract of an `Annotator`: annotations that lists of tokens stand for. Lists of tokens are the free annotation, so whatever is made of one, of
-- products and of tokens alone is an image of them (Green, Karvounarakis and Tannen 2007): monomials are, and so are the elements of a semiring under the
-- values of tokens.
use Rattle.std.specs.Prelude.{ℕ, List, Option, Some, None, unwrap_or}
use Rattle.gp_base.specs.declared.token.Token.{Token}
use Rattle.gp_base.specs.Annotated.{Annotations, monomials}
use Rattle.gp_algebra.specs.Reannotation.{IsHomomorphism}
use Rattle.gp_kexec.specs.SemiringForms.{counted, word_value, words}
use Rattle.gp_kexec.specs.Valuing.{values_by}
use Rattle.gp_kexec.proofs.WordLemmas.{counted_carries, word_carries}
use Rattle.gp_semiring.specs.Semirings.{SemiringLaws}
use Rattle.gp_semiring.specs.declared.rules.Rule.{Rule}
use Rattle.gp_semiring.specs.Rules.{number_by}
use Rattle.gp_semiring.specs.Values.{token_value, value_by}

pub record IsImage {M : Type 0} (domain : Annotations M) : Type 0 where
  pub image : List Token → M
  pub keeps : IsHomomorphism words domain image

pub monomials_are_images : IsImage monomials
monomials_are_images = record { image = counted; keeps = counted_carries }

module _ {K : Type 0} {element : K → Type 0} {zero_of one_of : K} {plus times_of : K → K → K} (laws : SemiringLaws element zero_of one_of plus times_of)
    (number_of : ℕ → Option K) (itself_of : Token → Option K)
    (number_in : (n : ℕ) → element (unwrap_or (number_of n) one_of)) (itself_in : (token : Token) → element (unwrap_or (itself_of token) one_of)) (rules : List Rule × Option ℕ) where
  -- the value of a token is an element
  pub value_in : (token : Token) → element (token_value one_of number_of itself_of rules token)
  value_in token = by (number_by rules.0 rules.1 token)
    where
      by : (number : Option ℕ) → element (value_by one_of number_of itself_of number token)
      by (Some n) = number_in n
      by None = itself_in token

  pub values_are_images : IsImage (values_by one_of times_of number_of itself_of rules)
  values_are_images = record {
    image = word_value one_of times_of (token_value one_of number_of itself_of rules);
    keeps = word_carries laws (token_value one_of number_of itself_of rules) value_in;
  }
