-- A list to which something is appended begins with what was there before.
use Rattle.std.proofs.Common.{◌≡◌, ℕ, ◌≤◌, List, ◌++◌, length, take, sym, ap, ◌∙◌, arith, length-append}
use Rattle.std.proofs.Math.Seq.{take-append_seam}
use Rattle.std.proofs.lemmas.List.{take-take}

pub kept-appended : (old new more : List ℕ) → new ≡ old ++ more → take (length old) new ≡ old
kept-appended old new more is = ap (take (length old)) is ∙ take-append_seam old more

-- something was appended, and what was there then was kept
pub kept-after : (old mid new more : List ℕ) → mid ≡ old ++ more → take (length mid) new ≡ mid → take (length old) new ≡ old
kept-after old mid new more is kept =
    let shorter : length old ≤ length mid = omega (arith, ap length is, length-append old more) in
    sym (take-take (length old) (length mid) new shorter) ∙ (ap (take (length old)) kept ∙ kept-appended old mid more is)

pub ruleset kept_steps = (kept-appended, kept-after)
