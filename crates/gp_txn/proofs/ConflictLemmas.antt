-- The least row that a transaction and a later commit wrote.
use Rattle.std.proofs.Common.{◌≡◌, ℕ, ◌+◌, true, false, cond, List, [], ◌∷◌, ◌++◌, drop, map, Option, Some, None, refl, ap, sym, ◌∙◌, subst, inl, inr}
use Rattle.std.specs.List.{flat_map}
use Rattle.std.specs.Option.{option_to_list}
use Rattle.std.specs.declared.cmp.Ordering.{Ordering}
use Rattle.std.specs.declared.cmp.Ordering.TheVariants.{Less, Equal, Greater}
use Rattle.std.specs.Ordering.{is_gt, ordering_reverse}
use Rattle.std.proofs.lemmas.Bool.{false≢true}
use Rattle.std.proofs.lemmas.Cmp.{upto, tied_itself}
use Rattle.gp_base.specs.Identities.{identity_cmp}
use Rattle.gp_base.specs.IdentityOrder.{identity_cmp_total}
use Rattle.gp_versions.specs.declared.span.Span.{Span}
use Rattle.gp_txn.specs.declared.carried.Carried.{Carried}
use Rattle.gp_txn.specs.declared.overlay.Slot.{Slot}
use Rattle.gp_txn.specs.declared.conflict.Late.{Late}
use Rattle.gp_txn.specs.Overlay.{head_slot, slots_from, slotted_spans}
use Rattle.gp_txn.specs.Conflicts.{IsLeast, late_of, slot_lates}
use Rattle.gp_txn.specs.LeastSoFar.{least_of, lesser}
use Rattle.gp_txn.specs.declared.overlay.Placed.{Placed}
use Rattle.gp_txn.specs.Ascending.{IsAscending, place_of}
use Rattle.gp_txn.specs.Passes.{of_entry, row_lates}
use Rattle.gp_txn.proofs.PlacedLemmas.{entries-made, made_of}
use Rattle.gp_txn.proofs.PutLemmas.{cons_option-is}

-- ---- the loops

pub least-append : (found : Option Late) (xs ys : List Late) → least_of found (xs ++ ys) ≡ least_of (least_of found xs) ys
least-append found [] ys = refl
least-append found (x ∷ xs) ys = least-append (lesser found (Some x)) xs ys

-- of all rows with a slot
pub lates-made : (slots : List Slot) (spans : List Span) → made_of row_lates slots spans ≡ slot_lates slots spans
lates-made slots [] = refl
lates-made slots (span ∷ spans) =
    ap (λ (rest : List Late). option_to_list (late_of (head_slot slots) span) ++ rest) (lates-made (drop 1 slots) spans) ∙ sym (cons_option-is (late_of (head_slot slots) span) (slot_lates (drop 1 slots) spans))

-- ---- the least

gt-turned : (o : Ordering) → is_gt o ≡ true → is_gt (ordering_reverse o) ≡ false
gt-turned Less e = absurd (false≢true e)
gt-turned Equal e = refl
gt-turned Greater e = refl

-- one more in front, which is not below the first
add-first : (f l : Late) (rest : List Late) (r : Option Late) → is_gt (identity_cmp l.id f.id) ≡ false → IsLeast (l ∷ rest) r → IsLeast (f ∷ l ∷ rest) r
add-first f l rest None le least = absurd cc
add-first f l rest (Some r) le least = (inr least.0, (upto identity_cmp_total r.id l.id f.id least.1.0 le, least.1))

add-behind : (f l : Late) (rest : List Late) (r : Option Late) → is_gt (identity_cmp f.id l.id) ≡ false → IsLeast (f ∷ rest) r → IsLeast (f ∷ l ∷ rest) r
add-behind f l rest None le least = absurd cc
add-behind f l rest (Some r) le least = (
  elim least.0 [ inl is ↦ inl is | inr among ↦ inr (inr among) ],
  (least.1.0, (upto identity_cmp_total r.id f.id l.id least.1.0 le, least.1.1)),
)

abbrev Keeps : List Late → Type 0
Keeps lates = (found : Option Late) → IsLeast (option_to_list found ++ lates) (least_of found lates)

least-alone : (late : Late) → IsLeast (late ∷ []) (Some late)
least-alone late = (inl refl, (ap is_gt (tied_itself identity_cmp_total late.id), tt))

least-more : (lates : List Late) → Keeps lates → (found : Option Late) (late : Late) → IsLeast (option_to_list found ++ late ∷ lates) (least_of (lesser found (Some late)) lates)
least-more lates keeps None late = keeps (Some late)
least-more lates keeps (Some first) late =
    elim (is_gt (identity_cmp first.id late.id)) as (λ b. is_gt (identity_cmp first.id late.id) ≡ b → IsLeast (first ∷ late ∷ lates) (least_of (cond b (Some late) (Some first)) lates)) [
      | true ↦ λ is. add-first first late lates (least_of (Some late) lates) (subst (λ o. is_gt o ≡ false) (sym (identity_cmp_total.antisymm late.id first.id)) (gt-turned (identity_cmp first.id late.id) is)) (keeps (Some late))
      | false ↦ λ is. add-behind first late lates (least_of (Some first) lates) is (keeps (Some first))
    ] refl

least-all : (lates : List Late) → Keeps lates
least-all [] None = refl
least-all [] (Some late) = least-alone late
least-all (late ∷ lates) found = least-more lates (least-all lates) found late

pub least-is : (lates : List Late) → IsLeast lates (least_of None lates)
least-is lates = least-all lates None

pub lates-entries : (carried : List Carried) (v : ℕ) (spans : List Span) (placed : List Placed) → IsAscending (map place_of placed)
    → flat_map (of_entry row_lates carried v spans) placed ≡ slot_lates (slots_from carried v placed 0 spans) (slotted_spans carried v spans)
lates-entries carried v spans placed ascend =
    entries-made row_lates carried v spans placed (λ span. refl) ascend ∙ lates-made (slots_from carried v placed 0 spans) (slotted_spans carried v spans)
