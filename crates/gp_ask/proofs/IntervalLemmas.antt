-- Intervals: what answers questions about versions alike has the same ones; what one pass over two answers does of their first rows.
use Rattle.std.proofs.Common.{◌≡◌, ℕ, zero, suc, ◌+◌, ◌<◌, ◌≤◌, List, [], ◌∷◌, ◌++◌, drop, get_or, length, map, refl, sym, ap, ◌∙◌, subst, arith}
use Rattle.std.specs.FinMap.Entries.{by_order}
use Rattle.std.specs.declared.cmp.Ordering.{Ordering}
use Rattle.std.specs.declared.cmp.Ordering.TheVariants.{Less, Equal, Greater}
use Rattle.std.specs.List.{zip}
use Rattle.std.proofs.lemmas.Cmp.{tied_itself}
use Rattle.std.proofs.lemmas.List.{append_assoc, at_drop_all, drop_more}
use Rattle.gp_base.specs.declared.cell.Cell.{Cell}
use Rattle.gp_base.specs.Order.{row_cmp}
use Rattle.gp_base.proofs.SmallLemmas.{length-map}
use Rattle.gp_base.specs.RowOrder.{row_cmp_total}
use Rattle.gp_grammar.specs.Syntax as y
use Rattle.gp_machine.specs.Entries.{Entry}
use Rattle.gp_ask.specs.declared.answered.Answered.{Answered}
use Rattle.gp_ask.specs.IntervalForms.{Open, carried, carried_from, closed, closed_from, ended}
use Rattle.gp_ask.specs.Intervals.{Interval, when_answer}

pub when-same : (asks other : y.Subject → y.Query → Answered) → ((subject : y.Subject) (query : y.Query) → asks subject query ≡ other subject query)
    → (entries : List Entry) (query : y.Query) → when_answer asks entries query ≡ when_answer other entries query
when-same asks other same entries query = λ i. when_answer (λ subject own. same subject own i) entries query

-- ---- a version that did not write a table of the query

-- the rows of an answer, and where their intervals began
abbrev pub rows-of : List Open → List (List Cell)
rows-of old = map (λ (own : Open). own.0) old

abbrev pub froms-of : List Open → List ℕ
froms-of old = map (λ (own : Open). own.1) old

pub all-carried : (version : ℕ) (old : List Open) → carried version old (rows-of old) ≡ froms-of old
all-carried version [] = refl
all-carried version (own ∷ old) =
    ap (λ o. by_order o (carried version old (rows-of (own ∷ old))) (own.1 ∷ carried version old (rows-of old)) (version ∷ carried version (own ∷ old) (rows-of old))) (tied_itself row_cmp_total own.0)
    ∙ ap (λ (froms : List ℕ). own.1 ∷ froms) (all-carried version old)

pub none-closed : (version : ℕ) (old : List Open) → closed version old (rows-of old) ≡ []
none-closed version [] = refl
none-closed version (own ∷ old) =
    ap (λ o. by_order o (ended version own ∷ closed version old (rows-of (own ∷ old))) (closed version old (rows-of old)) (closed version (own ∷ old) (rows-of old))) (tied_itself row_cmp_total own.0)
    ∙ none-closed version old

pub zipped-again : (old : List Open) → zip (rows-of old) (froms-of old) ≡ old
zipped-again [] = refl
zipped-again (own ∷ old) = ap (λ (rest : List Open). own ∷ rest) (zipped-again old)

-- ---- each row has a version

from-length : (version : ℕ) (own : Open) (rest : List (List Cell) → List ℕ) → ((rows : List (List Cell)) → length (rest rows) ≡ length rows) → (rows : List (List Cell)) → length (carried_from version own rest rows) ≡ length rows
from-length version own rest each [] = refl
from-length version own rest each (row ∷ rows) =
    elim (row_cmp own.0 row) as (λ o. length (by_order o (rest (row ∷ rows)) (own.1 ∷ rest rows) (version ∷ carried_from version own rest rows)) ≡ suc (length rows)) [
      | Less ↦ each (row ∷ rows)
      | Equal ↦ ap suc (each rows)
      | Greater ↦ ap suc (from-length version own rest each rows)
    ]

pub carried-length : (version : ℕ) (old : List Open) (rows : List (List Cell)) → length (carried version old rows) ≡ length rows
carried-length version [] rows = length-map (λ row. version) rows
carried-length version (own ∷ old) rows = from-length version own (carried version old) (λ others. carried-length version old others) rows

-- ---- one row more

pub carried-none : (version : ℕ) (old : List Open) → carried version old [] ≡ []
carried-none version [] = refl
carried-none version (own ∷ old) = refl

-- what the first rows of both are taken for, by their order
module _ (version : ℕ) (own : Open) (old : List Open) where
  abbrev pub CarriesFirst : Ordering → List (List Cell) → List (List Cell) → List ℕ → List Interval → Type 0
  CarriesFirst Less all rows froms over = (froms ≡ carried version old all) × (over ≡ ended version own ∷ closed version old all)
  CarriesFirst Equal all rows froms over = (froms ≡ own.1 ∷ carried version old rows) × (over ≡ closed version old rows)
  CarriesFirst Greater all rows froms over = (froms ≡ version ∷ carried version (own ∷ old) rows) × (over ≡ closed version (own ∷ old) rows)

  pub carries-first : (row : List Cell) (rows : List (List Cell)) (o : Ordering) → o ≡ row_cmp own.0 row
      → CarriesFirst o (row ∷ rows) rows (carried version (own ∷ old) (row ∷ rows)) (closed version (own ∷ old) (row ∷ rows))
  carries-first row rows o is =
      subst
      (λ (u : Ordering). CarriesFirst o (row ∷ rows) rows (by_order u (carried version old (row ∷ rows)) (own.1 ∷ carried version old rows) (version ∷ carried_from version own (carried version old) rows))
      (by_order u (ended version own ∷ closed version old (row ∷ rows)) (closed version old rows) (closed_from version own (closed version old) rows)))
      is (by o)
    where
      by : (u : Ordering) → CarriesFirst u (row ∷ rows) rows (by_order u (carried version old (row ∷ rows)) (own.1 ∷ carried version old rows) (version ∷ carried_from version own (carried version old) rows))
          (by_order u (ended version own ∷ closed version old (row ∷ rows)) (closed version old rows) (closed_from version own (closed version old) rows))
      by Less = (refl, refl)
      by Equal = (refl, refl)
      by Greater = (refl, refl)

-- ---- at places of both answers

module _ (rows : List (List Cell)) (froms : List ℕ) (beside : length froms ≡ length rows) where
  abbrev old : List Open
  old = zip rows froms

  zip-length : (rows : List (List Cell)) (froms : List ℕ) → length froms ≡ length rows → length (zip rows froms) ≡ length rows
  zip-length [] [] is = refl
  zip-length [] (from ∷ froms) is = absurd (omega arith)
  zip-length (row ∷ rows) [] is = absurd (omega arith)
  zip-length (row ∷ rows) (from ∷ froms) is = ap suc (zip-length rows froms (omega arith))

  zip-at : (rows : List (List Cell)) (froms : List ℕ) (i : ℕ) (row : List Cell) (from : ℕ) → length froms ≡ length rows → get_or (zip rows froms) i (row, from) ≡ (get_or rows i row, get_or froms i from)
  zip-at [] [] i row from is = refl
  zip-at [] (other ∷ froms) i row from is = absurd (omega arith)
  zip-at (other ∷ rows) [] i row from is = absurd (omega arith)
  zip-at (other ∷ rows) (another ∷ froms) zero row from is = refl
  zip-at (other ∷ rows) (another ∷ froms) (suc i) row from is = zip-at rows froms i row from (omega arith)

  -- the row at a place, and the others
  pub zip-more : (i : ℕ) (row : List Cell) → i < length rows → row ≡ get_or rows i row → drop i old ≡ (row, get_or froms i 0) ∷ drop (i + 1) old
  zip-more i row within is =
      drop_more old i (row, 0) (omega (arith, zip-length rows froms beside))
      ∙ ap (λ (own : Open). own ∷ drop (i + 1) old) (zip-at rows froms i row 0 beside ∙ (λ k. (sym is k, get_or froms i 0)))

  pub zip-none : (i : ℕ) → length rows ≤ i → drop i old ≡ []
  zip-none i end = at_drop_all (λ (rest : List Open). rest) old i (omega (arith, zip-length rows froms beside))

-- what the first rows of both are taken for, given what stands behind them
module _ (version : ℕ) (own : Open) (rest all : List Open) (is : all ≡ own ∷ rest) where
  abbrev CarriesAt : Ordering → List (List Cell) → List (List Cell) → Type 0
  CarriesAt Less rows others = (carried version all rows ≡ carried version rest rows) × (closed version all rows ≡ ended version own ∷ closed version rest rows)
  CarriesAt Equal rows others = (carried version all rows ≡ own.1 ∷ carried version rest others) × (closed version all rows ≡ closed version rest others)
  CarriesAt Greater rows others = (carried version all rows ≡ version ∷ carried version all others) × (closed version all rows ≡ closed version all others)

  pub carries-at : (row : List Cell) (rows others : List (List Cell)) → rows ≡ row ∷ others → (o : Ordering) → o ≡ row_cmp own.0 row → CarriesAt o rows others
  carries-at row rows others same o order = by o (carries-first version own rest row others o order)
    where
      froms : carried version all rows ≡ carried version (own ∷ rest) (row ∷ others)
      froms = λ i. carried version (is i) (same i)

      over : closed version all rows ≡ closed version (own ∷ rest) (row ∷ others)
      over = λ i. closed version (is i) (same i)

      by : (o : Ordering) → CarriesFirst version own rest o (row ∷ others) others (carried version (own ∷ rest) (row ∷ others)) (closed version (own ∷ rest) (row ∷ others)) → CarriesAt o rows others
      by Less first = (froms ∙ first.0 ∙ ap (carried version rest) (sym same), over ∙ first.1 ∙ ap (λ (list : List (List Cell)). ended version own ∷ closed version rest list) (sym same))
      by Equal first = (froms ∙ first.0, over ∙ first.1)
      by Greater first = (froms ∙ first.0 ∙ ap (λ (list : List Open). version ∷ carried version list others) (sym is), over ∙ first.1 ∙ ap (λ (list : List Open). closed version list others) (sym is))

  -- where no row remains
  pub closes-at : (rows : List (List Cell)) → rows ≡ [] → (carried version all rows ≡ carried version rest rows) × (closed version all rows ≡ ended version own ∷ closed version rest rows)
  closes-at rows none = (
    (λ i. carried version (is i) (none i)) ∙ sym (carried-none version rest) ∙ ap (carried version rest) (sym none),
    (λ i. closed version (is i) (none i)) ∙ ap (λ (list : List (List Cell)). ended version own ∷ closed version rest list) (sym none),
  )

-- an item that was added, and those that remain
pub pushed-more : {A : Type 0} (before after : List A) (item : A) (rest whole total : List A) → after ≡ before ++ item ∷ [] → whole ≡ item ∷ rest → before ++ whole ≡ total → after ++ rest ≡ total
pushed-more {A} before after item rest whole total pushed first all =
    ap (λ (list : List A). list ++ rest) pushed ∙ append_assoc before (item ∷ []) rest ∙ ap (λ (list : List A). before ++ list) (sym first) ∙ all
