-- The lines of intervals: rows that are sorted with their ends behind them, all of one width, are in the order of the intervals.
use Rattle.std.proofs.Common.{◌≡◌, ℕ, ◌<◌, pos, true, false, cond, List, [], ◌∷◌, ◌++◌, length, map, Option, None, Some, refl, sym, ap, ◌∙◌, subst, arith}
use Rattle.std.specs.Prelude.{nat_lt}
use Rattle.std.specs.List.{AllByRecursion, slice_get}
use Rattle.std.specs.Option.{option_to_list}
use Rattle.std.specs.Cmp.Lexicographic.{slice_cmp}
use Rattle.std.specs.Ordering.{MatchOrdering, is_le, nat_cmp, ordering_then}
use Rattle.std.specs.declared.cmp.Ordering.{Ordering}
use Rattle.std.specs.declared.cmp.Ordering.TheVariants.{Less, Equal, Greater}
use Rattle.std.proofs.lemmas.Cmp.{nat_list_cmp_total, ranked, tied_itself}
use Rattle.std.proofs.lemmas.List.{append_assoc, length-append}
use Rattle.gp_base.specs.declared.cell.Cell.{Cell}
use Rattle.gp_base.specs.declared.cell.Cell.TheVariants as cell
use Rattle.gp_base.specs.declared.limit.TheConstants.{MAX_ANSWER_ROWS}
use Rattle.gp_base.specs.declared.refusal.Refusal.TheVariants.{E27}
use Rattle.gp_base.specs.Order.{cell_cmp, insert_sorted, row_cmp, sorted_by}
use Rattle.gp_base.specs.RowOrder.{exact_rows}
use Rattle.gp_base.proofs.SmallLemmas.{length-map}
use Rattle.gp_ask.specs.declared.answered.Answered.TheVariants.{Lines, Refused}
use Rattle.gp_ask.specs.declared.answered.Heading.TheVariants.{When}
use Rattle.gp_ask.specs.IntervalForms.{end_cell, interval_row}
use Rattle.gp_ask.specs.Intervals.{Interval, end_cmp, interval_cmp, interval_lines, interval_text}
use Rattle.gp_ask.specs.RowLines.{as_text, listed, row_texts, text_of}
use Rattle.gp_ask.proofs.RowLineLemmas.{numbers-compared}

-- ---- what keeps an order

module _ {X : Type 0} (cmp : X → X → Ordering) (P : X → Type 0) where
  all-inserted : (x : X) (xs : List X) → P x → AllByRecursion P xs → AllByRecursion P (insert_sorted cmp x xs)
  all-inserted x [] own all = (own, tt)
  all-inserted x (y ∷ xs) own all =
      elim (is_le (cmp x y)) as (λ b. AllByRecursion P (cond b (x ∷ y ∷ xs) (y ∷ insert_sorted cmp x xs))) [
        | true ↦ (own, all)
        | false ↦ (all.0, all-inserted x xs own all.1)
      ]

  pub all-sorted : (xs : List X) → AllByRecursion P xs → AllByRecursion P (sorted_by cmp xs)
  all-sorted [] all = tt
  all-sorted (x ∷ xs) all = all-inserted x (sorted_by cmp xs) all.0 (all-sorted xs all.1)

module _ {X Y : Type 0} (cmp : X → X → Ordering) (other : Y → Y → Ordering) (f : X → Y) (P : X → Type 0) (agree : (x y : X) → P x → P y → is_le (other (f x) (f y)) ≡ is_le (cmp x y)) where
  inserted-map : (x : X) (xs : List X) → P x → AllByRecursion P xs → insert_sorted other (f x) (map f xs) ≡ map f (insert_sorted cmp x xs)
  inserted-map x [] own all = refl
  inserted-map x (y ∷ xs) own all =
      ap (λ b. cond b (f x ∷ f y ∷ map f xs) (f y ∷ insert_sorted other (f x) (map f xs))) (agree x y own all.0)
      ∙ elim (is_le (cmp x y)) as (λ b. cond b (f x ∷ f y ∷ map f xs) (f y ∷ insert_sorted other (f x) (map f xs)) ≡ map f (cond b (x ∷ y ∷ xs) (y ∷ insert_sorted cmp x xs))) [
        | true ↦ refl
        | false ↦ ap (λ (rest : List Y). f y ∷ rest) (inserted-map x xs own all.1)
      ]

  pub sorted-map : (xs : List X) → AllByRecursion P xs → sorted_by other (map f xs) ≡ map f (sorted_by cmp xs)
  sorted-map [] all = refl
  sorted-map (x ∷ xs) all = ap (insert_sorted other (f x)) (sorted-map xs all.1) ∙ inserted-map x (sorted_by cmp xs) all.0 (all-sorted cmp P xs all.1)

-- ---- rows with others behind them

then-then : (o u w : Ordering) → ordering_then o (ordering_then u w) ≡ ordering_then (ordering_then o u) w
then-then Less u w = refl
then-then Equal u w = refl
then-then Greater u w = refl

joined-cmp : (row other more others : List Cell) → length row ≡ length other → row_cmp (row ++ more) (other ++ others) ≡ ordering_then (row_cmp row other) (row_cmp more others)
joined-cmp [] [] more others wide = refl
joined-cmp [] (d ∷ other) more others wide = absurd (omega arith)
joined-cmp (c ∷ row) [] more others wide = absurd (omega arith)
joined-cmp (c ∷ row) (d ∷ other) more others wide =
    ap (ordering_then (cell_cmp c d)) (joined-cmp row other more others (omega arith)) ∙ then-then (cell_cmp c d) (row_cmp row other) (row_cmp more others)

-- ---- ends

ends-compared : (to other : Option ℕ) → cell_cmp (end_cell to) (end_cell other) ≡ end_cmp to other
ends-compared None None = refl
ends-compared None (Some other) = refl
ends-compared (Some to) None = refl
ends-compared (Some to) (Some other) = numbers-compared to other

same-number : (m n : ℕ) → nat_cmp m n ≡ Equal → m ≡ n
same-number m n is = subst (λ (o : Ordering). MatchOrdering o (m < n) (m ≡ n) (n < m)) is (ranked m n (nat_cmp m n) refl)

same-end : (to other : Option ℕ) → end_cmp to other ≡ Equal → to ≡ other
same-end None None is = refl
same-end None (Some other) is = absurd cc
same-end (Some to) None is = absurd cc
same-end (Some to) (Some other) is = ap Some (same-number to other is)

-- ---- intervals

-- the last part matters only where the others are equal
closing : (r f e t : Ordering) → (r ≡ Equal → f ≡ Equal → e ≡ Equal → is_le t ≡ true)
    → is_le (ordering_then r (ordering_then f (ordering_then e t))) ≡ is_le (ordering_then r (ordering_then f e))
closing Less f e t last = refl
closing Greater f e t last = refl
closing Equal Less e t last = refl
closing Equal Greater e t last = refl
closing Equal Equal Less t last = refl
closing Equal Equal Greater t last = refl
closing Equal Equal Equal t last = last refl refl refl

abbrev pub IsWide : ℕ → Interval → Type 0
IsWide width own = length own.row ≡ width

abbrev text-cmp : Interval → Interval → Ordering
text-cmp own other = slice_cmp nat_cmp (interval_text own) (interval_text other)

same-texts : (own other : Interval) → own.row ≡ other.row → own.from ≡ other.from → own.to ≡ other.to → text-cmp own other ≡ Equal
same-texts own other row from to =
    let alike : interval_text own ≡ interval_text other = λ i. interval_text (record { row = row i; from = from i; to = to i }) in
    ap (λ (text : List ℕ). slice_cmp nat_cmp text (interval_text other)) alike ∙ tied_itself nat_list_cmp_total (interval_text other)

compared : (width : ℕ) (own other : Interval) → IsWide width own → IsWide width other → is_le (row_cmp (interval_row own) (interval_row other)) ≡ is_le (interval_cmp own other)
compared width own other wide also =
    let last = ordering_then (text-cmp own other) Equal in
    ap is_le (joined-cmp own.row other.row (cell.Int (pos own.from) ∷ end_cell own.to ∷ cell.Text (interval_text own) ∷ []) (cell.Int (pos other.from) ∷ end_cell other.to ∷ cell.Text (interval_text other) ∷ []) (wide ∙ sym also))
    ∙ ap (λ (o : Ordering). is_le (ordering_then (row_cmp own.row other.row) (ordering_then o (ordering_then (cell_cmp (end_cell own.to) (end_cell other.to)) last)))) (numbers-compared own.from other.from)
    ∙ ap (λ (o : Ordering). is_le (ordering_then (row_cmp own.row other.row) (ordering_then (nat_cmp own.from other.from) (ordering_then o last)))) (ends-compared own.to other.to)
    ∙ closing (row_cmp own.row other.row) (nat_cmp own.from other.from) (end_cmp own.to other.to) last
    (λ row from to. ap (λ (o : Ordering). is_le (ordering_then o Equal)) (same-texts own other (exact_rows own.row other.row row) (same-number own.from other.from from) (same-end own.to other.to to)))

-- the text behind a row
at-end : (cells : List Cell) (c : Cell) → slice_get (cells ++ c ∷ []) (length cells) ≡ Some c
at-end [] c = refl
at-end (d ∷ cells) c = at-end cells c

pub text-found : (cells : List Cell) (text : List ℕ) → text_of (cells ++ cell.Text text ∷ []) ≡ Some text
text-found cells text =
    ap (λ n. as_text (slice_get (cells ++ cell.Text text ∷ []) n)) (omega (arith, length-append cells (cell.Text text ∷ [])))
    ∙ ap as_text (at-end cells (cell.Text text))

interval-text : (own : Interval) → text_of (interval_row own) ≡ Some (interval_text own)
interval-text own =
    ap text_of (sym (append_assoc own.row (cell.Int (pos own.from) ∷ end_cell own.to ∷ []) (cell.Text (interval_text own) ∷ [])))
    ∙ text-found (own.row ++ cell.Int (pos own.from) ∷ end_cell own.to ∷ []) (interval_text own)

texts-are : (all : List Interval) → row_texts (map interval_row all) ≡ map interval_text all
texts-are [] = refl
texts-are (own ∷ all) = (λ i. option_to_list (interval-text own i) ++ texts-are all i)

pub listed-is : (width : ℕ) (all : List Interval) → AllByRecursion (IsWide width) all → listed When (map interval_row all) ≡ interval_lines all
listed-is width all wide =
    ap (λ n. cond (nat_lt MAX_ANSWER_ROWS n) (Refused E27) (Lines When (row_texts (sorted_by row_cmp (map interval_row all))))) (length-map interval_row all)
    ∙ ap (λ (rows : List (List Cell)). cond (nat_lt MAX_ANSWER_ROWS (length all)) (Refused E27) (Lines When (row_texts rows))) (sorted-map interval_cmp row_cmp interval_row (IsWide width) (compared width) all wide)
    ∙ ap (λ (texts : List (List ℕ)). cond (nat_lt MAX_ANSWER_ROWS (length all)) (Refused E27) (Lines When texts)) (texts-are (sorted_by interval_cmp all))
