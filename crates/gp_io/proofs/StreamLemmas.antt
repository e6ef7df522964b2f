-- Bytes that go to a writer in parts, where its bytes are known.
use Rattle.std.proofs.Common.{◌≡◌, ℕ, List, ◌++◌, None, Some, Option, take, drop, sym, ap, ◌∙◌, append_assoc, take-append-drop}
use Rattle.std.specs.Io.KnownBytes.{Appends, Keeps}

-- one part more is gone from what is left
pub split-more : (all taken left : List ℕ) (n : ℕ) → all ≡ taken ++ left → all ≡ (taken ++ take n left) ++ drop n left
split-more all taken left n split = split ∙ ap (λ (rest : List ℕ). taken ++ rest) (sym (take-append-drop n left)) ∙ sym (append_assoc taken (take n left) (drop n left))

pub Appends-more : (first old new : Option (List ℕ)) (taken part : List ℕ) → Appends first old taken → Appends old new part → Appends first new (taken ++ part)
Appends-more None old new taken part before now = tt
Appends-more (Some xs) None new taken part before now = absurd before
Appends-more (Some xs) (Some ys) None taken part before now = absurd now
Appends-more (Some xs) (Some ys) (Some zs) taken part before now = now ∙ ap (λ (front : List ℕ). front ++ part) before ∙ append_assoc xs taken part

pub Appends-kept : (first old new : Option (List ℕ)) (taken : List ℕ) → Appends first old taken → Keeps old new → Appends first new taken
Appends-kept None old new taken before now = tt
Appends-kept (Some xs) None new taken before now = absurd before
Appends-kept (Some xs) (Some ys) None taken before now = absurd now
Appends-kept (Some xs) (Some ys) (Some zs) taken before now = now ∙ before
