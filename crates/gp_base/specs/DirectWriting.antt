-- Machinery: what a direct writer leaves in its output when memory runs out.
use Rattle.std.specs.Prelude.{◌≡◌, ℕ, List, ◌++◌, take}

-- the new output is the old one followed by a prefix of the text
pub record AppendsPrefix (old new text : List ℕ) : Type 0 where
  pub count : ℕ
  pub is : new ≡ old ++ take count text
