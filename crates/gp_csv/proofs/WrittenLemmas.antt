-- The text of a record is the same whether or not its writer takes records of other lengths.
use Rattle.std.proofs.Common.{◌≡◌, ℕ, List, [], ◌∷◌, refl}
use Rattle.csv.specs.Writing.{default_writer, escaped, fields_text, is_blank, row_text}
use Rattle.gp_csv.specs.Written.{flexible_writer}

escaped-same : (field : List ℕ) → escaped flexible_writer field ≡ escaped default_writer field
unfolding escaped
escaped-same [] = refl
escaped-same (byte ∷ bytes) = rw (escaped-same bytes) refl

fields-same : (fields : List (List ℕ)) → fields_text flexible_writer fields ≡ fields_text default_writer fields
unfolding fields_text
fields-same [] = refl
fields-same (field ∷ fields) = rw (escaped-same field, fields-same fields) refl

blank-same : (fields : List (List ℕ)) → is_blank flexible_writer fields ≡ is_blank default_writer fields
unfolding is_blank
blank-same [] = refl
blank-same (field ∷ []) = rw (escaped-same field) refl
blank-same (field ∷ next ∷ fields) = refl

pub text-same : (fields : List (List ℕ)) → row_text flexible_writer fields ≡ row_text default_writer fields
text-same [] = rw (blank-same []) refl
text-same (field ∷ fields) = rw (escaped-same field, fields-same fields, blank-same (field ∷ fields)) refl
