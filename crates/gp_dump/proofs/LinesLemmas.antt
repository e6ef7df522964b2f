-- How the first line is found: the bytes so far are in front of the first line of the rest.
use Rattle.std.proofs.Common.{◌≡◌, ℕ, zero, suc, ◌+◌, ◌<◌, true, false, eqb, List, [], ◌∷◌, length, get_or, take, drop, refl, ap, arith, add-one}
use Rattle.gp_dump.specs.Lines.{DumpLine, Whole, Cut, Missing, onto, lines_of}

-- the bytes in front of the first line
abbrev pub ontos : List ℕ → List DumpLine → List DumpLine
ontos [] lines = lines
ontos (byte ∷ bytes) lines = onto byte (ontos bytes lines)

more : (bytes : List ℕ) (at : ℕ) → at < length bytes → eqb (get_or bytes at 0) 10 ≡ false → ontos (take (suc at) bytes) (lines_of (drop (suc at) bytes)) ≡ ontos (take at bytes) (lines_of (drop at bytes))
more [] at within other = absurd (omega (arith, within))
more (b ∷ bytes) zero within other = rw other refl
more (b ∷ bytes) (suc at) within other = ap (λ (x : List DumpLine). onto b x) (more bytes at (omega arith) other)

pub ontos-more : (bytes : List ℕ) (at : ℕ) → at < length bytes → eqb (get_or bytes at 0) 10 ≡ false → ontos (take (at + 1) bytes) (lines_of (drop (at + 1) bytes)) ≡ ontos (take at bytes) (lines_of (drop at bytes))
ontos-more bytes at within other = rw add-one (more bytes at within other)

ended : (bytes : List ℕ) (at : ℕ) → at < length bytes → eqb (get_or bytes at 0) 10 ≡ true → ontos (take at bytes) (lines_of (drop at bytes)) ≡ Whole (take at bytes) ∷ lines_of (drop (suc at) bytes)
ended [] at within feed = absurd (omega (arith, within))
ended (b ∷ bytes) zero within feed = rw feed refl
ended (b ∷ bytes) (suc at) within feed = ap (λ (x : List DumpLine). onto b x) (ended bytes at (omega arith) feed)

pub ontos-ended : (bytes : List ℕ) (at : ℕ) → at < length bytes → eqb (get_or bytes at 0) 10 ≡ true → ontos (take at bytes) (lines_of (drop at bytes)) ≡ Whole (take at bytes) ∷ lines_of (drop (at + 1) bytes)
ontos-ended bytes at within feed = rw add-one (ended bytes at within feed)

pub ontos-cut : (b : ℕ) (bytes : List ℕ) → ontos (b ∷ bytes) (Missing ∷ []) ≡ Cut (b ∷ bytes) ∷ []
ontos-cut b [] = refl
ontos-cut b (c ∷ bytes) = ap (onto b) (ontos-cut c bytes)

pub ontos-end : (bytes : List ℕ) → 0 < length bytes → ontos bytes (Missing ∷ []) ≡ Cut bytes ∷ []
ontos-end [] some = absurd (omega (arith, some))
ontos-end (b ∷ bytes) some = ontos-cut b bytes

pub ruleset first_lines = (ontos-more, ontos-ended, ontos-end)
