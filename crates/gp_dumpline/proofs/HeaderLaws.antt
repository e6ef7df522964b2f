-- The first line is read as the format that it names, and only its text is.
use Rattle.std.proofs.Common.{◌≡◌, ℕ, Bool, true, false, List, Some, refl, ap, ◌∙◌, inl, inr}
use Rattle.std.specs.Str.{bytes_eq}
use Rattle.std.proofs.lemmas.Bool.{cases_Bool}
use Rattle.std.proofs.lemmas.Slice.Eq.{bytes_eq-Decides}
use Rattle.gp_dumpline.specs.Forms.{header_of}
use Rattle.gp_dumpline.specs.Texts.{header}
use Rattle.std.proofs.lemmas.Option.{none-some}

pub header-again : (second : Bool) → header_of (header second) ≡ Some second
header-again false = refl
header-again true = refl

pub header-takes : (text : List ℕ) (second : Bool) → header_of text ≡ Some second → text ≡ header second
header-takes text second e = elim (cases_Bool (bytes_eq text (header false))) [
  | inl one ↦ let f = rw one at e in (bytes_eq-Decides text (header false)).0 one ∙ ap header (same false second f)
  | inr other ↦ elim (cases_Bool (bytes_eq text (header true))) [
    | inl two ↦ let f = rw (other, two) at e in (bytes_eq-Decides text (header true)).0 two ∙ ap header (same true second f)
    | inr none ↦ let f = rw (other, none) at e in absurd (none-some second f)
  ]
]
  where
    same : (a b : Bool) → Some a ≡ Some b → a ≡ b
    same a b h = cc
