-- The spans in the dump of a history are those of the history, in another order.
use Rattle.std.proofs.Common.{◌≡◌, ℕ, zero, suc, ◌<◌, ◌≤◌, ◌⊎◌, inl, inr, Bool, true, false, cond, ltb, List, [], ◌∷◌, length, get_or, refl, sym, ap, ◌∙◌, subst, arith}
use Rattle.std.specs.List.Sorted.{IsPermutation}
use Rattle.std.specs.Ordering.{is_le}
use Rattle.std.specs.declared.cmp.Ordering.{Ordering}
use Rattle.std.proofs.Math.ListN.{get_or-map}
use Rattle.std.proofs.Math.Nat.{eq-or-lt_of_le}
use Rattle.std.proofs.Math.Seq.{get_or-append_seam}
use Rattle.std.proofs.lemmas.Bool.{ltb-false, ltb-true}
use Rattle.std.proofs.lemmas.List.{get_or_append_left, get_or_past, length-map, length_push}
use Rattle.std.proofs.lemmas.List.Sorted.{IsPermutation-cons, IsPermutation-middle, IsPermutation-refl, IsPermutation-sym, IsPermutation-trans}
use Rattle.gp_base.specs.Order.{insert_sorted, sorted_by}
use Rattle.gp_versions.specs.Spans.{span_cmp}
use Rattle.gp_machine.specs.HistorySpans.{state_spans}
use Rattle.gp_machine.specs.State.{State}
use Rattle.gp_dump.specs.Dumps.{dump_of, spans_in_order}
use Rattle.gp_ask.specs.Asking.{table_spans}

-- ---- sorting

inserted : {T : Type 0} (cmp : T → T → Ordering) (item : T) (items : List T) → IsPermutation (item ∷ items) (insert_sorted cmp item items)
inserted cmp item [] = IsPermutation-refl (item ∷ [])
inserted cmp item (other ∷ others) =
    elim (is_le (cmp item other)) as (λ b. IsPermutation (item ∷ other ∷ others) (cond b (item ∷ other ∷ others) (other ∷ insert_sorted cmp item others))) [
      | true ↦ IsPermutation-refl (item ∷ other ∷ others)
      | false ↦
          IsPermutation-trans (item ∷ other ∷ others) (other ∷ item ∷ others) (other ∷ insert_sorted cmp item others)
          (IsPermutation-sym (other ∷ item ∷ others) (item ∷ other ∷ others) (IsPermutation-middle (other ∷ []) item others))
          (IsPermutation-cons other (item ∷ others) (insert_sorted cmp item others) (inserted cmp item others))
    ]

pub permuted : {T : Type 0} (cmp : T → T → Ordering) (items : List T) → IsPermutation items (sorted_by cmp items)
permuted cmp [] = IsPermutation-refl []
permuted cmp (item ∷ items) =
    IsPermutation-trans (item ∷ items) (item ∷ sorted_by cmp items) (sorted_by cmp (item ∷ items))
    (IsPermutation-cons item items (sorted_by cmp items) (permuted cmp items)) (inserted cmp item (sorted_by cmp items))

-- ---- the tables of a dump

module _ {M : Type 0} (state : State M) where
  as-many : (count : ℕ) → length (spans_in_order state count) ≡ count
  as-many zero = refl
  as-many (suc count) = omega (arith, as-many count, length_push (spans_in_order state count) (state_spans state count))

  pub listed : length (dump_of state).tables ≡ length state.catalogue
  listed = length-map (spans_in_order state (length state.catalogue)) (sorted_by span_cmp) ∙ as-many (length state.catalogue)

  last-of : (count table : ℕ) → table ≡ count → get_or (spans_in_order state (suc count)) table [] ≡ state_spans state table
  last-of count table is =
      subst (λ n. get_or (spans_in_order state (suc count)) n [] ≡ state_spans state n) (sym is)
      (ap (λ n. get_or (spans_in_order state (suc count)) n []) (sym (as-many count)) ∙ get_or-append_seam (spans_in_order state count) (state_spans state count) [] [])

  among : (count table : ℕ) → table < count → get_or (spans_in_order state count) table [] ≡ state_spans state table
  among zero table below = absurd (omega arith)
  among (suc count) table below = by (among count table) (eq-or-lt_of_le (omega arith))
    where
      by : (table < count → get_or (spans_in_order state count) table [] ≡ state_spans state table) → (table ≡ count) ⊎ (table < count)
          → get_or (spans_in_order state (suc count)) table [] ≡ state_spans state table
      by before (inl is) = last-of count table is
      by before (inr less) = get_or_append_left (spans_in_order state count) (state_spans state count ∷ []) [] table (omega (arith, as-many count)) ∙ before less

  module _ (beyond : (table : ℕ) → length state.catalogue ≤ table → state_spans state table ≡ []) where
    at : (table : ℕ) → get_or (spans_in_order state (length state.catalogue)) table [] ≡ state_spans state table
    at table = by (ltb table (length state.catalogue)) refl
      where
        by : (below : Bool) → ltb table (length state.catalogue) ≡ below → get_or (spans_in_order state (length state.catalogue)) table [] ≡ state_spans state table
        by true is = among (length state.catalogue) table (ltb-true table (length state.catalogue) is)
        by false is =
            let past : length state.catalogue ≤ table = ltb-false table (length state.catalogue) is in
            get_or_past (spans_in_order state (length state.catalogue)) table [] (omega (arith, as-many (length state.catalogue))) ∙ sym (beyond table past)

    -- those of a table, whether it is there or not
    pub in-order : (table : ℕ) → table_spans (dump_of state).tables table ≡ sorted_by span_cmp (state_spans state table)
    in-order table = get_or-map (sorted_by span_cmp) (spans_in_order state (length state.catalogue)) table [] ∙ ap (sorted_by span_cmp) (at table)

    pub dumped : (table : ℕ) → IsPermutation (table_spans (dump_of state).tables table) (state_spans state table)
    dumped table =
        subst (λ spans. IsPermutation spans (state_spans state table)) (sym (in-order table))
        (IsPermutation-sym (state_spans state table) (sorted_by span_cmp (state_spans state table)) (permuted span_cmp (state_spans state table)))
