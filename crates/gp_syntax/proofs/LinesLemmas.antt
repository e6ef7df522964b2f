-- The first of std's lines, found by the first line feed, and the order of the numbers of lines.
use Rattle.std.proofs.Common.{◌≡◌, ℕ, zero, suc, ◌+◌, ◌-◌, ◌<◌, ◌≤◌, Bool, true, false, eqb, eqb-true, cond, List, [], ◌∷◌, ◌++◌, length, take, drop, get_or, filter, refl, ap, suc-add, ◌∙◌, arith, inl, inr}
use Rattle.std.specs.Char.{is_ascii_control}
use Rattle.std.specs.List.{AllByRecursion, list_any, onto_first, position_or_len, slice_split, enumerate_from, before_first, after_first}
use Rattle.std.specs.List.Sorted.{IsStrictlyIncreasing}
use Rattle.std.specs.Str.Lines.{lines, lines_of_parts, strip_carriage_return}
use Rattle.std.proofs.lemmas.Bool.{cases_Bool, cond-false, ne_eqb, or_parts}
use Rattle.std.proofs.lemmas.List.Elements.{All-from_recursion}
use Rattle.std.proofs.lemmas.List.Splits.{slice_split_first, slice_split_none, length-slice_split}
use Rattle.gp_syntax.specs.Lines.{is_answered, script_lines}
use Rattle.gp_syntax.specs.LineForms.{numbers_of}

abbrev is_feed : ℕ → Bool
is_feed byte = eqb byte 10

abbrev place : List ℕ → ℕ
place bytes = position_or_len is_feed bytes

-- a part that another follows is a line, without the carriage return at its end
lines_of_parts-more : (part : List ℕ) (parts : List (List ℕ)) → 0 < length parts → lines_of_parts (part ∷ parts) ≡ strip_carriage_return part ∷ lines_of_parts parts
lines_of_parts-more part [] some = absurd (omega arith)
lines_of_parts-more part (next ∷ parts) some = refl

-- the first line ends at the first line feed
pub lines-ended : (bytes : List ℕ) → place bytes < length bytes → lines bytes ≡ strip_carriage_return (take (place bytes) bytes) ∷ lines (drop (place bytes + 1) bytes)
lines-ended bytes within =
    ap lines_of_parts (slice_split_first is_feed bytes 0 within)
    ∙ lines_of_parts-more (before_first is_feed bytes) (slice_split is_feed (after_first is_feed bytes)) (omega (arith, length-slice_split is_feed (after_first is_feed bytes)))

-- no byte is a line feed where the first is found at the end
no_feed : (bytes : List ℕ) → length bytes ≤ place bytes → AllByRecursion (λ byte. is_feed byte ≡ false) bytes
no_feed [] far = tt
no_feed (byte ∷ bytes) far = elim (cases_Bool (is_feed byte)) [
  | inl feed ↦
      let here : place (byte ∷ bytes) ≡ 0 = rw feed refl in
      absurd (omega (arith, here, far))
  | inr other ↦
      let later : place (byte ∷ bytes) ≡ 1 + place bytes = rw other refl in
      (other, no_feed bytes (omega (arith, later, far)))
]

-- bytes without a line feed are one line
pub lines-open : (bytes : List ℕ) → 0 < length bytes → length bytes ≤ place bytes → lines bytes ≡ bytes ∷ []
lines-open [] some far = absurd (omega (arith, some))
lines-open (byte ∷ bytes) some far =
    ap lines_of_parts (slice_split_none is_feed (byte ∷ bytes) (All-from_recursion (λ b. is_feed b ≡ false) (byte ∷ bytes) (no_feed (byte ∷ bytes) far)))
    ∙ cond-false (eqb (length (byte ∷ bytes)) 0) [] ((byte ∷ bytes) ∷ []) (ne_eqb (length (byte ∷ bytes)) 0 (λ e. absurd (omega arith)))

-- ---- a text without control characters is the first line, where a line feed follows it

-- a control character is in no text that has none
plain-without : (c : ℕ) (text : List ℕ) → is_ascii_control c ≡ true → list_any is_ascii_control text ≡ false → list_any (λ b. eqb b c) text ≡ false
plain-without c [] control e = refl
plain-without c (b ∷ text) control e =
    let h = or_parts (is_ascii_control b) (list_any is_ascii_control text) e in
    rw (other (eqb b c) refl h.0) (plain-without c text control h.1)
  where
    other : (x : Bool) → eqb b c ≡ x → is_ascii_control b ≡ false → eqb b c ≡ false
    other false same graphic = same
    other true same graphic = let f : is_ascii_control b ≡ true = ap is_ascii_control (eqb-true b c same) ∙ control in absurd cc

split-text : (text rest : List ℕ) → list_any is_feed text ≡ false → slice_split is_feed (text ++ (10 ∷ rest)) ≡ text ∷ slice_split is_feed rest
split-text [] rest e = refl
split-text (b ∷ text) rest e = let h = or_parts (is_feed b) (list_any is_feed text) e in rw h.0 (ap (onto_first b) (split-text text rest h.1))

byte-other : (text : List ℕ) (i : ℕ) → list_any (λ b. eqb b 13) text ≡ false → eqb (get_or text i 0) 13 ≡ false
byte-other [] i e = refl
byte-other (b ∷ text) zero e = (or_parts (eqb b 13) (list_any (λ b. eqb b 13) text) e).0
byte-other (b ∷ text) (suc i) e = byte-other text i (or_parts (eqb b 13) (list_any (λ b. eqb b 13) text) e).1

whole-line : (text : List ℕ) → list_any (λ b. eqb b 13) text ≡ false → strip_carriage_return text ≡ text
whole-line text e = rw (byte-other text (length text - 1) e) refl

pub first-line : (text rest : List ℕ) → list_any is_ascii_control text ≡ false → lines (text ++ (10 ∷ rest)) ≡ text ∷ lines rest
first-line text rest e =
    ap lines_of_parts (split-text text rest (plain-without 10 text refl e))
    ∙ lines_of_parts-more text (slice_split is_feed rest) (let n = length-slice_split is_feed rest in omega (arith, n))
    ∙ ap (λ (x : List ℕ). x ∷ lines rest) (whole-line text (plain-without 13 text refl e))

-- ---- the numbers of lines increase

increasing-cons : (first next : ℕ) (numbers : List ℕ) → first < next → IsStrictlyIncreasing (next ∷ numbers) → IsStrictlyIncreasing (first ∷ next ∷ numbers)
increasing-cons first next numbers below increasing zero within = below
increasing-cons first next numbers below increasing (suc k) within = rw (suc-add k 1) (increasing k (omega arith))

increasing-step : (answered : Bool) (last number : ℕ) (line : List ℕ) (more : List (ℕ × List ℕ)) → last < number → IsStrictlyIncreasing (number ∷ numbers_of more) → IsStrictlyIncreasing (last ∷ numbers_of more)
    → IsStrictlyIncreasing (last ∷ numbers_of (cond answered ((number, line) ∷ more) more))
increasing-step true last number line more below with without = increasing-cons last number (numbers_of more) below with
increasing-step false last number line more below with without = without

increasing-from : (last number : ℕ) (all : List (List ℕ)) → last < number → IsStrictlyIncreasing (last ∷ numbers_of (filter (λ (line : ℕ × List ℕ). is_answered line.1) (enumerate_from number all)))
increasing-from last number [] below = λ k within. absurd (omega arith)
increasing-from last number (line ∷ all) below =
    increasing-step (is_answered line) last number line (filter (λ (other : ℕ × List ℕ). is_answered other.1) (enumerate_from (number + 1) all)) below
    (increasing-from number (number + 1) all (omega arith)) (increasing-from last (number + 1) all (omega arith))

pub script_lines-increasing : (script : List ℕ) → IsStrictlyIncreasing (0 ∷ numbers_of (script_lines script))
script_lines-increasing script = increasing-from 0 1 (lines script) (omega arith)
