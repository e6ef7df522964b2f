-- Of the laws `programs_carry_annotations` and `values_are_sums`: rows with other annotations, and products of tokens that nothing stops.
use Rattle.std.specs.Prelude.{◌≤◌, ℕ, zero, suc, List, [], ◌∷◌, ◌++◌, if◌then◌else◌}
use Rattle.std.specs.Ordering.{eq_by_cmp}
use Rattle.gp_base.specs.declared.token.Token.{Token}
use Rattle.gp_base.specs.Annotated.{Annotations, Environment}
use Rattle.gp_base.specs.Tokens.{Monomial, greatest_count, once, one, times, token_cmp}
use Rattle.gp_algebra.specs.AnnotatedMeaning.{Derived}
use Rattle.gp_algebra.specs.Reannotation.{database_reannotated}
use Rattle.gp_semiring.specs.SumForms.{Each}

abbrev pub derived_reannotated : {M N : Type 0} → (M → N) → Derived M → Derived N
derived_reannotated h row = record { sources = row.sources; cells = row.cells; mark = row.mark; annotation = h row.annotation }

abbrev pub environment_reannotated : {M N : Type 0} → (M → N) → Environment M → Environment N
environment_reannotated h env version = database_reannotated h (env version)

-- tokens one after another
abbrev pub words : Annotations (List Token)
words = record { one = []; times = ◌++◌; token = λ token. token ∷ [] }

-- the monomial of these tokens
abbrev pub counted : List Token → Monomial
counted [] = one
counted (token ∷ tokens) = times (once token) (counted tokens)

-- the value of these tokens
abbrev pub word_value : {K : Type 0} → K → (K → K → K) → (Token → K) → List Token → K
word_value one_of times_of value [] = one_of
word_value one_of times_of value (token ∷ tokens) = times_of (value token) (word_value one_of times_of value tokens)

-- how often a token is among these
abbrev pub occurs : Token → List Token → ℕ
occurs token [] = 0
occurs token (other ∷ tokens) = if eq_by_cmp token_cmp token other then suc (occurs token tokens) else occurs token tokens

-- no token occurs more often in an annotation than a monomial can count
abbrev pub NoneStops : List (Derived (List Token)) → Type 0
NoneStops rows = Each (λ row. (token : Token) → occurs token row.annotation ≤ greatest_count) rows

abbrev pub repeated : ℕ → Token → List Token
repeated zero token = []
repeated (suc n) token = token ∷ repeated n token

-- each token as often as its count
abbrev pub spread : Monomial → List Token
spread [] = []
spread (power ∷ powers) = repeated power.1 power.0 ++ spread powers
