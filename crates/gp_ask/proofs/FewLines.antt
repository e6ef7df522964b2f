-- Lines that are kept as far as they are few: enough to tell whether there are too many, and all of them where there are not.
use Rattle.std.proofs.Common.{◌≡◌, ℕ, zero, suc, ◌+◌, ◌<◌, ◌≤◌, List, [], ◌∷◌, ◌++◌, length, take, Result, Ok, Err, refl, sym, ap, ◌∙◌, arith, append_assoc}
use Rattle.std.specs.Prelude.{OnOk}
use Rattle.std.proofs.lemmas.List.{append-nil}
use Rattle.gp_base.specs.declared.cell.Cell.{Cell}
use Rattle.gp_base.specs.declared.limit.TheConstants.{MAX_ANSWER_ROWS}
use Rattle.gp_ask.specs.HistoryForms.{Pushes}
use Rattle.gp_ask.specs.RowLines.{RowLine, few, keyed_from, keyed_line}
use Rattle.gp_ask.proofs.RowLineLemmas.{keyed-append, keyed-length}

-- ---- the first items of a list

module _ {A : Type 0} where
  pub all-taken : (n : ℕ) (items : List A) → length items ≤ n → take n items ≡ items
  all-taken zero [] within = refl
  all-taken zero (item ∷ items) within = absurd (omega arith)
  all-taken (suc n) [] within = refl
  all-taken (suc n) (item ∷ items) within = ap (λ (rest : List A). item ∷ rest) (all-taken n items (omega arith))

  none-more : (n : ℕ) (items more : List A) → n ≤ length items → take n (items ++ more) ≡ take n items
  none-more zero [] [] within = refl
  none-more zero [] (item ∷ more) within = refl
  none-more zero (item ∷ items) more within = refl
  none-more (suc n) [] more within = absurd (omega arith)
  none-more (suc n) (item ∷ items) more within = ap (λ (rest : List A). item ∷ rest) (none-more n items more (omega arith))

  -- a list of which fewer items are there than may be taken is there as a whole
  short : (n : ℕ) (items : List A) → length (take (suc n) items) ≤ n → length items ≤ n
  short n [] within = omega arith
  short zero (item ∷ items) within = absurd (omega arith)
  short (suc n) (item ∷ items) within = let rest = short n items (omega arith) in omega arith

  long : (n : ℕ) (items : List A) → n < length (take (suc n) items) → n < length items
  long n [] above = absurd (omega arith)
  long zero (item ∷ items) above = omega arith
  long (suc n) (item ∷ items) above = let rest = long n items (omega arith) in omega arith

  -- of more items than that, one more is taken
  pub taken-length : (n : ℕ) (items : List A) → n < length items → n < length (take (suc n) items)
  taken-length n [] above = absurd (omega arith)
  taken-length zero (item ∷ items) above = omega arith
  taken-length (suc n) (item ∷ items) above = let rest = taken-length n items (omega arith) in omega arith

-- ---- lines

pub pushes-none : (rows : List (List Cell)) → Pushes [] rows rows
pushes-none rows = λ lines is. is ∙ ap (λ (own : List RowLine). keyed_from 0 (few own)) (sym (append-nil lines))

pub pushes-then : (more others : List RowLine) (old rows new : List (List Cell)) → Pushes more old rows → Pushes others rows new → Pushes (more ++ others) old new
pushes-then more others old rows new first second =
    λ lines is. second (lines ++ more) (first lines is) ∙ ap (λ (own : List RowLine). keyed_from 0 (few own)) (append_assoc lines more others)

-- one more line, while they are few
pub pushes-one : (line : RowLine) (old new : List (List Cell)) → length old ≤ MAX_ANSWER_ROWS → new ≡ old ++ keyed_line (length old) line ∷ [] → Pushes (line ∷ []) old new
pushes-one line old new within is = λ lines known.
    let count : length old ≡ length (few lines) = ap length known ∙ keyed-length 0 (few lines) in
    let all : length lines ≤ MAX_ANSWER_ROWS = short MAX_ANSWER_ROWS lines (omega (arith, count, within)) in
    let whole : few lines ≡ lines = all-taken (suc MAX_ANSWER_ROWS) lines (omega (arith, all)) in
    let first : length lines ≡ 0 + length lines = omega arith in
    let longer : few (lines ++ line ∷ []) ≡ lines ++ line ∷ [] = all-taken (suc MAX_ANSWER_ROWS) (lines ++ line ∷ []) (omega (arith, all, more-length lines line)) in
    is
    ∙ (λ i. known i ++ keyed_line (count i) line ∷ [])
    ∙ (λ i. keyed_from 0 (whole i) ++ keyed_line (length (whole i)) line ∷ [])
    ∙ ap (λ n. keyed_from 0 lines ++ keyed_line n line ∷ []) first
    ∙ sym (keyed-append 0 lines (line ∷ []))
    ∙ ap (keyed_from 0) (sym longer)
  where
    more-length : (lines : List RowLine) (line : RowLine) → length (lines ++ line ∷ []) ≡ suc (length lines)
    more-length [] line = refl
    more-length (other ∷ lines) line = ap suc (more-length lines line)

-- none, where there are too many
pub pushes-beyond : (line : RowLine) (old : List (List Cell)) → MAX_ANSWER_ROWS < length old → Pushes (line ∷ []) old old
pushes-beyond line old above = λ lines known.
    let count : length old ≡ length (few lines) = ap length known ∙ keyed-length 0 (few lines) in
    let many : MAX_ANSWER_ROWS < length lines = long MAX_ANSWER_ROWS lines (omega (arith, count, above)) in
    known ∙ ap (keyed_from 0) (sym (none-more (suc MAX_ANSWER_ROWS) lines (line ∷ []) (omega (arith, many))))

-- where it is added
pub pushes-if : {E : Type 0} (result : Result (Unit {0}) E) (line : RowLine) (old new : List (List Cell)) → length old ≤ MAX_ANSWER_ROWS → OnOk result (new ≡ old ++ keyed_line (length old) line ∷ []) → OnOk result (Pushes (line ∷ []) old new)
pushes-if (Ok done) line old new within is = pushes-one line old new within is
pushes-if (Err stopped) line old new within is = tt
