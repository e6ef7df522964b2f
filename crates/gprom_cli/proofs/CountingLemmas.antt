-- Lines that are counted one after another, each with a weight.
use Rattle.std.proofs.Common.{◌≡◌, ℕ, zero, suc, ◌+◌, ◌*◌, ◌<◌, ◌≤◌, List, [], ◌∷◌, length, refl, ap, subst, arith, suc-add}
use Rattle.std.specs.Prelude.{slice_index}
use Rattle.std.specs.List.{sum_by}
use Rattle.std.proofs.lemmas.List.Sums.{sum_by-cons}
use Rattle.std.specs.List.Sorted.{IsStrictlyIncreasing}
use Rattle.gp_syntax.specs.Lines.{script_lines}
use Rattle.gp_syntax.specs.LineForms.{numbers_of}

abbrev pub one : ℕ × List ℕ → ℕ
one line = 1

pub total-one : (lines : List (ℕ × List ℕ)) → sum_by one lines ≡ length lines
total-one [] = refl
total-one (line ∷ lines) = let rest = total-one lines in let first = sum_by-cons one line lines in omega (arith, rest, first)

more-times : (below above most count weight : ℕ) → below < above → count ≤ below * most → weight ≤ most → count + weight ≤ above * most
more-times zero zero most count weight less few light = absurd (omega (arith, less))
more-times (suc below) zero most count weight less few light = absurd (omega (arith, less))
more-times zero (suc above) most count weight less few light =
    let none : 0 ≤ above * most = omega arith in
    omega (arith, few, light, none)
more-times (suc below) (suc above) most count weight less few light =
    let before = more-times below above most (below * most) most (omega (arith, less)) (omega arith) (omega arith) in
    omega (arith, before, few, light)

-- The lines that are left, and the weights so far. Numbers of lines rise, so that there are no more lines so far than the number of the last one.
pub record IsCounted (weight : ℕ × List ℕ → ℕ) (most : ℕ) (whole left : List (ℕ × List ℕ)) (count : ℕ) : Type 0 where
  pub last : ℕ
  pub few : count ≤ last * most
  pub numbers : IsStrictlyIncreasing (last ∷ numbers_of left)
  pub all : count + sum_by weight left ≡ sum_by weight whole

module _ (weight : ℕ × List ℕ → ℕ) (most : ℕ) (text : List ℕ) where
  pub counts-none : (lines : List (ℕ × List ℕ)) → lines ≡ script_lines text → IsStrictlyIncreasing (0 ∷ numbers_of lines) → IsCounted weight most (script_lines text) lines 0
  counts-none lines are numbers = record { last = 0; few = omega arith; numbers = numbers; all = let same = ap (sum_by weight) are in omega (arith, same) }

  module _ (line : ℕ × List ℕ) (left : List (ℕ × List ℕ)) (count : ℕ) (so_far : IsCounted weight most (script_lines text) (line ∷ left) count) (light : weight line ≤ most) where
    rising : so_far.last < line.0
    rising = so_far.numbers 0 (omega arith)

    -- so the count fits where the number of the line does
    pub counts-few : count + weight line ≤ line.0 * most
    counts-few = more-times so_far.last line.0 most count (weight line) rising so_far.few light

    pub counts-more : IsCounted weight most (script_lines text) left (count + weight line)
    counts-more =
        let numbers = line.0 ∷ numbers_of left in
        record {
          last = line.0;
          few = counts-few;
          numbers = λ k inside. subst (λ (n : ℕ). slice_index (so_far.last ∷ numbers) (suc k) < slice_index (so_far.last ∷ numbers) n) (suc-add k 1) (so_far.numbers (suc k) (omega (arith, inside)));
          all = let all = so_far.all in let first = sum_by-cons weight line left in omega (arith, all, first);
        }

  pub counts-all : (left : List (ℕ × List ℕ)) (count : ℕ) → left ≡ [] → IsCounted weight most (script_lines text) left count → count ≡ sum_by weight (script_lines text)
  counts-all left count none so_far =
      let nothing : sum_by weight left ≡ 0 = ap (sum_by weight) none in
      let all = so_far.all in
      omega (arith, nothing, all)
