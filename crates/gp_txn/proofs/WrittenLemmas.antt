-- Which rows that have a slot a transaction has written after a statement.
use Rattle.std.proofs.Common.{◌≡◌, ◌≢◌, ℕ, Bool, true, false, cond, ◌&&◌, ◌||◌, List, [], ◌∷◌, ◌++◌, map, drop, Option, Some, None, refl, ap, sym, ◌∙◌}
use Rattle.std.specs.List.{cons_option, list_any, AllByRecursion}
use Rattle.std.specs.Option.{option_to_list}
use Rattle.std.proofs.lemmas.Bool.{eq-eqb, ne_eqb, or_from, false_from_ne_true}
use Rattle.std.proofs.lemmas.List.Folds.{list_any-append}
use Rattle.std.proofs.lemmas.List.Elements.{filter-append}
use Rattle.gp_base.specs.declared.stored.Stored.{Stored}
use Rattle.gp_base.specs.Identities.{Identity, same_identity}
use Rattle.gp_base.specs.IdentityParts.{identity_transaction}
use Rattle.gp_expr.specs.Values.{passes}
use Rattle.gp_algebra.specs.Effects.{assigned, written_in}
use Rattle.gp_versions.specs.declared.span.Write.{Write}
use Rattle.gp_versions.specs.Commits.{is_written}
use Rattle.gp_versions.proofs.SameLemmas.{same-exact}
use Rattle.gp_txn.specs.declared.overlay.Slot.{Slot}
use Rattle.gp_txn.specs.declared.overlay.Slot.TheVariants.{Same, Put, Dropped}
use Rattle.gp_txn.specs.Changes.{Change, update, delete, cond_of, touched}
use Rattle.gp_txn.specs.Overlay.{PlainRow, head_slot, shown, overlaid, own_row, slot_write, base_writes}
use Rattle.gp_txn.specs.Transactions.{has_written}
use Rattle.gp_txn.specs.Slots.{changed_slot, changed_slots}

-- whether a row of this identity is among these
abbrev pub has_identity : List PlainRow → Identity → Bool
has_identity rows id = list_any (λ (row : PlainRow). same_identity row.identity id) rows

-- ---- the pairs that a statement writes

pub written-here : (place : ℕ) (rows : List PlainRow) (id : Identity) → has_written (written_in place rows) place id ≡ has_identity rows id
written-here place [] id = refl
written-here place (row ∷ rows) id =
    ap (λ b. (b && same_identity row.identity id) || has_written (written_in place rows) place id) (eq-eqb place place refl)
    ∙ ap (λ b. same_identity row.identity id || b) (written-here place rows id)

pub written-elsewhere : (place other : ℕ) (rows : List PlainRow) (id : Identity) → other ≢ place → has_written (written_in place rows) other id ≡ false
written-elsewhere place other [] id apart = refl
written-elsewhere place other (row ∷ rows) id apart =
    ap (λ b. (b && same_identity row.identity id) || has_written (written_in place rows) other id) (ne_eqb place other (λ e. apart (sym e)))
    ∙ written-elsewhere place other rows id apart

-- rows of the transaction's own have no other identity
pub own-identity : (t : ℕ) (rows : List PlainRow) (id : Identity) → identity_transaction id ≢ t → AllByRecursion (λ (row : PlainRow). identity_transaction row.identity ≡ t) rows → has_identity rows id ≡ false
own-identity t [] id other all = refl
own-identity t (row ∷ rows) id other all =
    or_from (same_identity row.identity id) (has_identity rows id)
    (false_from_ne_true (same_identity row.identity id) (λ same. other (ap identity_transaction (sym (same-exact row.identity id same)) ∙ all.0)))
    (own-identity t rows id other all.1)

-- ---- UPDATE and DELETE

or-both : (e : Bool) → (e || false) ≡ ((e || false) || (e || false))
or-both true = refl
or-both false = refl

or-one : (e : Bool) → (e || false) ≡ ((e || false) || false)
or-one true = refl
or-one false = refl

or-swap : (a w t r : Bool) → ((w || a) || (r || t)) ≡ ((w || r) || (a || t))
or-swap a true t r = refl
or-swap true false t true = refl
or-swap true false t false = refl
or-swap false false t r = refl

written-cons : (x : Option Write) (rest : List Write) (id : Identity) → is_written (cons_option x rest) id ≡ (is_written (option_to_list x) id || is_written rest id)
written-cons None rest id = refl
written-cons (Some write) rest id = elim (same_identity write.id id) as (λ b. (b || is_written rest id) ≡ ((b || false) || is_written rest id)) [ true ↦ refl | false ↦ refl ]

-- what is written of a slot after the statement
slot-changed : (change : Change) (slot : Slot) (row : PlainRow) (id : Identity)
    → is_written (option_to_list (slot_write (changed_slot change slot row.cells) row)) id ≡ (is_written (option_to_list (slot_write slot row)) id || has_identity (touched change (shown slot row)) id)
slot-changed (update sets c) Same row id =
    elim (passes c row.cells) as (λ b. is_written (option_to_list (slot_write (cond b (Put (assigned sets row.cells)) Same) row)) id ≡ (false || has_identity (cond b (row ∷ []) []) id)) [ true ↦ refl | false ↦ refl ]
slot-changed (delete c) Same row id =
    elim (passes c row.cells) as (λ b. is_written (option_to_list (slot_write (cond b Dropped Same) row)) id ≡ (false || has_identity (cond b (row ∷ []) []) id)) [ true ↦ refl | false ↦ refl ]
slot-changed (update sets c) (Put now) row id =
    elim (passes c now) as (λ b. is_written (option_to_list (slot_write (cond b (Put (assigned sets now)) (Put now)) row)) id ≡ ((same_identity row.identity id || false) || has_identity (cond b (record { identity = row.identity; cells = now; mark = true; annotation = tt } ∷ []) []) id)) [
      | true ↦ or-both (same_identity row.identity id)
      | false ↦ or-one (same_identity row.identity id)
    ]
slot-changed (delete c) (Put now) row id =
    elim (passes c now) as (λ b. is_written (option_to_list (slot_write (cond b Dropped (Put now)) row)) id ≡ ((same_identity row.identity id || false) || has_identity (cond b (record { identity = row.identity; cells = now; mark = true; annotation = tt } ∷ []) []) id)) [
      | true ↦ or-both (same_identity row.identity id)
      | false ↦ or-one (same_identity row.identity id)
    ]
slot-changed change Dropped row id = or-one (same_identity row.identity id)

pub touched-append : (change : Change) (xs ys : List PlainRow) (id : Identity) → has_identity (touched change (xs ++ ys)) id ≡ (has_identity (touched change xs) id || has_identity (touched change ys) id)
touched-append change xs ys id =
    ap (λ (some : List PlainRow). has_identity some id) (filter-append (λ (r : PlainRow). passes (cond_of change) r.cells) xs ys)
    ∙ list_any-append (λ (r : PlainRow). same_identity r.identity id) (touched change xs) (touched change ys)

-- the rows with a slot that were written, after the statement
pub written-changed : (change : Change) (slots : List Slot) (rows : List PlainRow) (id : Identity)
    → is_written (base_writes (changed_slots change slots rows) rows) id ≡ (is_written (base_writes slots rows) id || has_identity (touched change (overlaid slots rows)) id)
written-changed change slots [] id = refl
written-changed change slots (row ∷ rows) id =
    let slot = head_slot slots in
    let here = slot-changed change slot row id in
    let rest = written-changed change (drop 1 slots) rows id in
    let split : has_identity (touched change (shown slot row ++ overlaid (drop 1 slots) rows)) id ≡ (has_identity (touched change (shown slot row)) id || has_identity (touched change (overlaid (drop 1 slots) rows)) id) =
    touched-append change (shown slot row) (overlaid (drop 1 slots) rows) id in
    let old = written-cons (slot_write slot row) (base_writes (drop 1 slots) rows) id in
    written-cons (slot_write (changed_slot change slot row.cells) row) (base_writes (changed_slots change (drop 1 slots) rows) rows) id
    ∙ (cc (here, rest))
    ∙ or-swap (has_identity (touched change (shown slot row)) id) (is_written (option_to_list (slot_write slot row)) id) (has_identity (touched change (overlaid (drop 1 slots) rows)) id) (is_written (base_writes (drop 1 slots) rows) id)
    ∙ (cc (split, old))

pub all-touched : (P : PlainRow → Type 0) (change : Change) (rows : List PlainRow) → AllByRecursion P rows → AllByRecursion P (touched change rows)
all-touched P change [] all = tt
all-touched P change (row ∷ rows) all =
    elim (passes (cond_of change) row.cells) as (λ b. AllByRecursion P (cond b (row ∷ touched change rows) (touched change rows))) [ true ↦ (all.0, all-touched P change rows all.1) | false ↦ all-touched P change rows all.1 ]

pub own-rows : (t : ℕ) (own : List Stored) → AllByRecursion (λ (stored : Stored). identity_transaction stored.id ≡ t) own → AllByRecursion (λ (row : PlainRow). identity_transaction row.identity ≡ t) (map own_row own)
own-rows t [] all = tt
own-rows t (stored ∷ own) all = (all.0, own-rows t own all.1)
