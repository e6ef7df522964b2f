-- Machinery: what a write leaves in a writer whose bytes are known.
use Rattle.std.specs.Prelude.{◌≡◌, ℕ, List, ◌++◌, Option, Result, Ok, Err}
use Rattle.std.specs.Io.KnownBytes.{Appends}

-- known bytes grow by some first ones of these
abbrev pub AppendsPrefix : Option (List ℕ) → Option (List ℕ) → List ℕ → Type 0
AppendsPrefix old new bytes = (taken left : List ℕ) × (bytes ≡ taken ++ left) × Appends old new taken

-- both are values, and this holds of them
abbrev pub BothOk : {T E : Type 0} → Result T E → Result T E → (T → T → Type 0) → Type 0
BothOk (Ok old) (Ok new) P = P old new
BothOk (Ok old) (Err error) P = ⊥
BothOk (Err error) new P = ⊥
