-- Machinery: the parts of a row line that the writer appends one after another.
use Rattle.std.specs.Prelude.{ℕ, List, [], ◌∷◌, Option, codes}
use Rattle.std.specs.Fmt.{decimal}
use Rattle.std.specs.List.{concat}
use Rattle.gp_dumpline.specs.Texts.{to_text}

-- the numbers of an identity
abbrev pub numbers_text : ℕ → ℕ → ℕ → List ℕ
numbers_text t k n = concat (decimal t ∷ codes "." ∷ decimal k ∷ codes "." ∷ decimal n ∷ [])

-- the versions at which a span begins and ends
abbrev pub versions_text : ℕ → Option ℕ → List ℕ
versions_text from to = concat (codes " " ∷ decimal from ∷ codes " " ∷ to_text to ∷ codes " " ∷ [])
