-- The lines of a commit, from the spans of a table in the order of a dump: one for each row that begins or ends with its version.
use Rattle.std.proofs.Common.{◌≡◌, ◌⊎◌, inl, inr, ℕ, zero, suc, ◌-◌, ◌<◌, ◌≤◌, Bool, true, false, cond, ◌&&◌, ◌==◌, not, List, [], ◌∷◌, ◌++◌, map, Option, Some, None, refl, sym, ap, ◌∙◌, subst, arith}
use Rattle.std.specs.Prelude.{IsSomeAnd}
use Rattle.std.specs.List.{AllByRecursion, filter, slice_get}
use Rattle.std.specs.Option.{option_map_or}
use Rattle.std.specs.Ordering.{is_le}
use Rattle.std.specs.Cmp.{tied_itself}
use Rattle.std.specs.declared.cmp.Ordering.{Ordering}
use Rattle.std.specs.declared.cmp.Ordering.TheVariants.{Less, Equal}
use Rattle.std.proofs.lemmas.Bool.{and_from, and_parts, cases_lt, eqb-true, eq-eqb, false≢true, le-leb, leb-true, lt-ltb, ltb-true, not-true}
use Rattle.std.proofs.lemmas.List.{map-append}
use Rattle.std.proofs.lemmas.Option.{none-some, same_Some}
use Rattle.gp_base.specs.declared.cell.Cell.{Cell}
use Rattle.gp_base.specs.Annotated.{Annotated, Environment, unannotated}
use Rattle.gp_base.specs.Identities.{Identity, identity_cmp, same_identity}
use Rattle.gp_base.specs.IdentityOrder.{identity_cmp_total}
use Rattle.gp_base.specs.Order.{insert_sorted, sorted_by}
use Rattle.gp_base.proofs.SmallLemmas.{each_append, each_map}
use Rattle.gp_algebra.specs.Effects.{Written}
use Rattle.gp_algebra.specs.Reannotation.{forgotten, reannotated}
use Rattle.gp_versions.specs.declared.span.Span.{Span}
use Rattle.gp_versions.specs.Spans.{holds_at, is_before_end, row_of, rows_at, span_cmp, spans_at}
use Rattle.gp_versions.specs.TableSpans.{AreWhole, IsEndAbove, NoOverlap}
use Rattle.gp_versions.proofs.SameLemmas.{same-exact, same-itself}
use Rattle.gp_machine.specs.Committed.{is_written}
use Rattle.gp_machine.specs.HistorySpans.{next_written, span_from, spans_from, spans_of, spans_upto}
use Rattle.gp_machine.proofs.Distinct.{each_all, each_filter, each_weaker}
use Rattle.gp_dump.specs.Dumps.{is_after}
use Rattle.gp_dump.proofs.PlaceLemmas.{Follows, follows-after}
use Rattle.gp_dump.proofs.RowPlaces.{Pairwise, sorted_after, sorted_each}
use Rattle.gp_ask.specs.ChangeForms.{ends_at, goes_on, row_before, span_texts, spans_texts}
use Rattle.gp_ask.specs.Changes.{change_text}
use Rattle.gp_ask.specs.ShownWrites.{AreCells, HasCells, HasChange, HasRow, Rise, RowChange, ShowsWrites, row_change_text}

-- ---- elements

abbrev pub IsIn : Span → List Span → Type 0
IsIn x [] = ⊥
IsIn x (y ∷ ys) = (x ≡ y) ⊎ IsIn x ys

of-each : (P : Span → Type 0) (x : Span) (xs : List Span) → AllByRecursion P xs → IsIn x xs → P x
of-each P x [] all is = absurd is
of-each P x (y ∷ ys) all (inl e) = subst P (sym e) all.0
of-each P x (y ∷ ys) all (inr is) = of-each P x ys all.1 is

each-in : (xs zs : List Span) → ((x : Span) → IsIn x xs → IsIn x zs) → AllByRecursion (λ x. IsIn x zs) xs
each-in [] zs within = tt
each-in (x ∷ xs) zs within = (within x (inl refl), each-in xs zs (λ y is. within y (inr is)))

in-inserted : (x y : Span) (ys : List Span) → (x ≡ y) ⊎ IsIn x ys → IsIn x (insert_sorted span_cmp y ys)
in-inserted x y [] is = is
in-inserted x y (z ∷ zs) is =
    elim (is_le (span_cmp y z)) as (λ b. IsIn x (cond b (y ∷ z ∷ zs) (z ∷ insert_sorted span_cmp y zs))) [
      | true ↦ is
      | false ↦ behind (λ own. in-inserted x y zs own) is
    ]
  where
    behind : ((x ≡ y) ⊎ IsIn x zs → IsIn x (insert_sorted span_cmp y zs)) → (x ≡ y) ⊎ ((x ≡ z) ⊎ IsIn x zs) → (x ≡ z) ⊎ IsIn x (insert_sorted span_cmp y zs)
    behind more (inl e) = inr (more (inl e))
    behind more (inr (inl e)) = inl e
    behind more (inr (inr own)) = inr (more (inr own))

in-sorted : (x : Span) (xs : List Span) → IsIn x xs → IsIn x (sorted_by span_cmp xs)
in-sorted x [] is = is
in-sorted x (y ∷ ys) (inl e) = in-inserted x y (sorted_by span_cmp ys) (inl e)
in-sorted x (y ∷ ys) (inr is) = in-inserted x y (sorted_by span_cmp ys) (inr (in-sorted x ys is))

-- ---- changes

-- the first of the spans behind one
abbrev next_of : List Span → Option Span
next_of spans = slice_get spans 0

abbrev span_changes : ℕ → Option Span → Span → Option Span → List RowChange
span_changes version last span next =
    cond (span.from == version) (record { id = span.id; before = row_before version last span; after = Some span.row } ∷ []) []
    ++ cond (ends_at version span && not (goes_on version span next)) (record { id = span.id; before = Some span.row; after = None } ∷ []) []

-- those of the spans behind the last one
abbrev pub changes_in : ℕ → Option Span → List Span → List RowChange
changes_in version last [] = []
changes_in version last (span ∷ spans) = span_changes version last span (next_of spans) ++ changes_in version (Some span) spans

one-or-two : (name : List ℕ) (b c : Bool) (first second : RowChange)
    → cond b (row_change_text name first ∷ []) [] ++ cond c (row_change_text name second ∷ []) [] ≡ map (row_change_text name) (cond b (first ∷ []) [] ++ cond c (second ∷ []) [])
one-or-two name true true first second = refl
one-or-two name true false first second = refl
one-or-two name false true first second = refl
one-or-two name false false first second = refl

pub texts-are : (name : List ℕ) (version : ℕ) (last : Option Span) (spans : List Span) → spans_texts name version last spans ≡ map (row_change_text name) (changes_in version last spans)
texts-are name version last [] = refl
texts-are name version last (span ∷ spans) =
    (λ i. one-or-two name (span.from == version) (ends_at version span && not (goes_on version span (next_of spans)))
    (record { id = span.id; before = row_before version last span; after = Some span.row }) (record { id = span.id; before = Some span.row; after = None }) i
    ++ texts-are name version (Some span) spans i)
    ∙ sym (map-append (row_change_text name) (span_changes version last span (next_of spans)) (changes_in version (Some span) spans))

-- ---- identities

less-differs : (id other : Identity) → identity_cmp id other ≡ Less → id ≡ other → ⊥
less-differs id other less same = let e : identity_cmp id other ≡ Equal = ap (identity_cmp id) (sym same) ∙ tied_itself identity_cmp_total id in let f : Less ≡ Equal = sym less ∙ e in cc

less-through : (x s : Span) (id : Identity) → Follows x s → identity_cmp s.id id ≡ Less → identity_cmp x.id id ≡ Less
less-through x s id (inl first) less = identity_cmp_total.trans x.id s.id id first less
less-through x s id (inr same) less = subst (λ own. identity_cmp own id ≡ Less) (sym same.0) less

follows-same : (x s : Span) → Follows x s → x.id ≡ s.id → (x.from < s.from) × IsSomeAnd x.to (λ to. to ≤ s.from)
follows-same x s (inl less) same = absurd (less-differs x.id s.id less same)
follows-same x s (inr is) same = is.1

-- ---- versions

-- the span holds the version
abbrev pub Holds : ℕ → Span → Type 0
Holds v span = (span.from ≤ v) × IsEndAbove v span.to

before-end : (v : ℕ) (to : Option ℕ) → is_before_end v to ≡ true → IsEndAbove v to
before-end v None is = tt
before-end v (Some to) is = ltb-true v to is

end-before : (v : ℕ) (to : Option ℕ) → IsEndAbove v to → is_before_end v to ≡ true
end-before v None above = refl
end-before v (Some to) above = lt-ltb v to above

pub holds-is : (v : ℕ) (span : Span) → holds_at v span ≡ true → Holds v span
holds-is v span is = let parts = and_parts _ (is_before_end v span.to) is in (leb-true span.from v parts.0, before-end v span.to parts.1)

pub is-held : (v : ℕ) (span : Span) → Holds v span → holds_at v span ≡ true
is-held v span holds = rw (le-leb span.from v holds.0) (end-before v span.to holds.1)

-- a span that ended by then does not hold it
ended-by : (to : Option ℕ) (n v : ℕ) → IsSomeAnd to (λ end. end ≤ n) → IsEndAbove v to → n ≤ v → ⊥
ended-by None n v ended above within = ended
ended-by (Some to) n v ended above within = omega (arith, ended, above, within)

-- it ends at the version, where it ends by then and holds the one before
ends-there : (to : Option ℕ) (p : ℕ) → IsSomeAnd to (λ end. end ≤ suc p) → IsEndAbove p to → to ≡ Some (suc p)
ends-there None p ended above = absurd ended
ends-there (Some to) p ended above = ap Some (omega (arith, ended, above))

ends-is : (version : ℕ) (to : Option ℕ) → option_map_or (λ end. end == version) to false ≡ true → to ≡ Some version
ends-is version None is = absurd (false≢true is)
ends-is version (Some to) is = ap Some (eqb-true to version is)

is-end : (version : ℕ) (span : Span) → span.to ≡ Some version → ends_at version span ≡ true
is-end version span is = ap (λ to. option_map_or (λ end. end == version) to false) is ∙ eq-eqb version version refl

end-from : (from version : ℕ) (to : Option ℕ) → to ≡ Some version → IsEndAbove from to → from < version
end-from from version to is above = subst (IsEndAbove from) is above

end-to : (v end : ℕ) (to : Option ℕ) → to ≡ Some end → v < end → IsEndAbove v to
end-to v end to is below = subst (IsEndAbove v) (sym is) below

-- begins or ends with the version
abbrev pub Yields : ℕ → Span → Type 0
Yields version span = (span.from ≡ version) ⊎ (span.to ≡ Some version)

-- ---- a place in the list

abbrev Whole : Span → Type 0
Whole span = IsEndAbove span.from span.to

-- the spans before the last one are before it
abbrev AreBeforeLast : List Span → Type 0
AreBeforeLast [] = Unit {0}
AreBeforeLast (last ∷ earlier) = AllByRecursion (λ x. Follows x last) earlier

module _ (p : ℕ) (Member : Span → Type 0) where
  -- the spans before a place, the last one first, and those behind it
  record Place (before spans : List Span) : Type 0 where
    first : AreBeforeLast before
    each : AllByRecursion (λ x. AllByRecursion (Follows x) spans) before
    rest : Pairwise Follows spans
    whole : AllByRecursion (λ x. Whole x × Member x) before
    wholes : AllByRecursion (λ x. Whole x × Member x) spans
    known : (x : Span) → Member x → IsIn x before ⊎ IsIn x spans

  place-next : (before : List Span) (s : Span) (spans : List Span) → Place before (s ∷ spans) → Place (s ∷ before) spans
  place-next before s spans place = record {
    first = each_weaker (λ x. Follows x s) (λ x. AllByRecursion (Follows x) (s ∷ spans)) (λ x all. all.0) before place.each;
    each = (place.rest.0, each_weaker (λ x. AllByRecursion (Follows x) spans) (λ x. AllByRecursion (Follows x) (s ∷ spans)) (λ x all. all.1) before place.each);
    rest = place.rest.1;
    whole = (place.wholes.0, place.whole);
    wholes = place.wholes.1;
    known = λ x is. moved x (place.known x is);
  }
    where
      moved : (x : Span) → IsIn x before ⊎ ((x ≡ s) ⊎ IsIn x spans) → ((x ≡ s) ⊎ IsIn x before) ⊎ IsIn x spans
      moved x (inl is) = inl (inr is)
      moved x (inr (inl e)) = inl (inl e)
      moved x (inr (inr is)) = inr is

  -- the cells of the row of an identity in a version
  abbrev Side : ℕ → Identity → Option (List Cell) → Type 0
  Side v id None = (x : Span) → Member x → Holds v x → x.id ≡ id → ⊥
  Side v id (Some cells) = (x : Span) × (Member x × (Holds v x × ((x.id ≡ id) × (x.row ≡ cells))))

  module _ (before : List Span) (s : Span) (spans : List Span) (place : Place before (s ∷ spans)) where
    held-after : (x : Span) → IsIn x spans → x.id ≡ s.id → (s.from < x.from) × IsSomeAnd s.to (λ to. to ≤ x.from)
    held-after x is same = follows-same s x (of-each (Follows s) x spans place.rest.0 is) (sym same)

    follows-it : (x : Span) → IsIn x before → Follows x s
    follows-it x is = (of-each (λ y. AllByRecursion (Follows y) (s ∷ spans)) x before place.each is).0

    -- a span that begins with the version: no later one holds the version before
    none-behind : s.from ≡ suc p → (x : Span) → (x ≡ s) ⊎ IsIn x spans → Holds p x → x.id ≡ s.id → ⊥
    none-behind begins x (inl e) holds same = let from : x.from ≡ suc p = ap (λ (y : Span). y.from) e ∙ begins in omega (arith, from, holds.0)
    none-behind begins x (inr is) holds same = omega (arith, begins, holds.0, (held-after x is same).0)

    begun-after : s.from ≡ suc p → Side (suc p) s.id (Some s.row)
    begun-after begins = (s, (place.wholes.0.1, ((omega (arith, begins), subst (λ n. IsEndAbove n s.to) begins place.wholes.0.0), (refl, refl))))

    ended-before : s.to ≡ Some (suc p) → Side p s.id (Some s.row)
    ended-before ends =
        let from : s.from < suc p = end-from s.from (suc p) s.to ends place.wholes.0.0 in
        (s, (place.wholes.0.1, ((omega (arith, from), end-to p (suc p) s.to ends (omega arith)), (refl, refl))))

    -- a row that goes on has its next span at once
    begins-next : (next : Span) (rest : List Span) → Follows s next → AllByRecursion (Follows next) rest → s.to ≡ Some (suc p) → goes_on (suc p) s (Some next) ≡ false
        → (x : Span) → (x ≡ next) ⊎ IsIn x rest → x.from ≡ suc p → x.id ≡ s.id → ⊥
    begins-next next rest follows others ends goes x (inl e) begins same =
        let from : next.from ≡ suc p = ap (λ (y : Span). y.from) (sym e) ∙ begins in
        let id : next.id ≡ s.id = ap (λ (y : Span). y.id) (sym e) ∙ same in
        let on : goes_on (suc p) s (Some next) ≡ true =
        (λ i. (from i == suc p) && same_identity (id i) s.id) ∙ (λ i. eq-eqb (suc p) (suc p) refl i && same-itself s.id i) in
        false≢true (sym goes ∙ on)
    begins-next next rest follows others ends goes x (inr is) begins same = between follows
      where
        later : Follows next x
        later = of-each (Follows next) x rest others is

        between : Follows s next → ⊥
        between (inl less) = less-differs s.id x.id (passes later) (sym same)
          where
            passes : Follows next x → identity_cmp s.id x.id ≡ Less
            passes (inl more) = identity_cmp_total.trans s.id next.id x.id less more
            passes (inr own) = subst (λ id. identity_cmp s.id id ≡ Less) own.0 less
        between (inr own) =
            let ended : IsSomeAnd (Some (suc p)) (λ to. to ≤ next.from) = subst (λ to. IsSomeAnd to (λ end. end ≤ next.from)) ends own.1.1 in
            omega (arith, ended, begins, (follows-same next x later (sym own.0 ∙ sym same)).0)

    begins-behind : (others : List Span) → AllByRecursion (Follows s) others → Pairwise Follows others → s.to ≡ Some (suc p) → goes_on (suc p) s (next_of others) ≡ false
        → (x : Span) → IsIn x others → x.from ≡ suc p → x.id ≡ s.id → ⊥
    begins-behind [] all rest ends goes x is begins same = is
    begins-behind (next ∷ others) all rest ends goes x is begins same = begins-next next others all.0 rest.0 ends goes x is begins same

    ended-after : s.to ≡ Some (suc p) → goes_on (suc p) s (next_of spans) ≡ false → Side (suc p) s.id None
    ended-after ends goes x member holds same = elim (place.known x member) [
      | inl is ↦
          let from : s.from < suc p = end-from s.from (suc p) s.to ends place.wholes.0.0 in
          ended-by x.to s.from (suc p) (follows-same x s (follows-it x is) same).1 holds.1 (omega (arith, from))
      | inr (inl e) ↦ let below : suc p < suc p = end-from (suc p) (suc p) x.to (ap (λ (y : Span). y.to) e ∙ ends) holds.1 in omega (arith, below)
      | inr (inr is) ↦
          let after = held-after x is same in
          let from : suc p ≤ x.from = subst (λ to. IsSomeAnd to (λ end. end ≤ x.from)) ends after.1 in
          begins-behind spans place.rest.0 place.rest.1 ends goes x is (omega (arith, from, holds.0)) same
    ]

  -- the row before a span that begins with the version
  begun-before : (before : List Span) (s : Span) (spans : List Span) (place : Place before (s ∷ spans)) → s.from ≡ suc p → Side p s.id (row_before (suc p) (next_of before) s)
  begun-before [] s spans place begins = λ x member holds same. elim (place.known x member) [ inl is ↦ is | inr is ↦ none-behind [] s spans place begins x is holds same ]
  begun-before (last ∷ earlier) s spans place begins =
      elim (ends_at (suc p) last && same_identity last.id s.id) as (λ b. (ends_at (suc p) last && same_identity last.id s.id) ≡ b → Side p s.id (cond b (Some last.row) None)) [
        | true ↦ λ is.
            let parts = and_parts (ends_at (suc p) last) _ is in
            let ends : last.to ≡ Some (suc p) = ends-is (suc p) last.to parts.0 in
            let from : last.from < suc p = end-from last.from (suc p) last.to ends place.whole.0.0 in
            (last, (place.whole.0.1, ((omega (arith, from), end-to p (suc p) last.to ends (omega arith)), (same-exact last.id s.id parts.1, refl))))
        | false ↦ λ is x member holds same. elim (place.known x member) [
          | inl (inl e) ↦
              let own : last.id ≡ s.id = ap (λ (y : Span). y.id) (sym e) ∙ same in
              let ended : IsSomeAnd last.to (λ to. to ≤ suc p) =
              subst (λ n. IsSomeAnd last.to (λ to. to ≤ n)) begins (follows-same last s (follows-it (last ∷ earlier) s spans place last (inl refl)) own).1 in
              let ends : last.to ≡ Some (suc p) = ends-there last.to p ended (subst (λ (y : Span). IsEndAbove p y.to) e holds.1) in
              false≢true (sym is ∙ (λ i. is-end (suc p) last ends i && same_identity (own i) s.id) ∙ same-itself s.id)
          | inl (inr own) ↦ earlier-ended x own holds same (follows-it (last ∷ earlier) s spans place last (inl refl))
          | inr own ↦ none-behind (last ∷ earlier) s spans place begins x own holds same
        ]
      ] refl
    where
      earlier-ended : (x : Span) → IsIn x earlier → Holds p x → x.id ≡ s.id → Follows last s → ⊥
      earlier-ended x own holds same (inl less) = less-differs x.id s.id (less-through x last s.id (of-each (λ y. Follows y last) x earlier place.first own) less) same
      earlier-ended x own holds same (inr next) =
          ended-by x.to last.from p (follows-same x last (of-each (λ y. Follows y last) x earlier place.first own) (same ∙ sym next.0)).1 holds.1 (omega (arith, begins, next.1.0))

  -- ---- what is told of a change

  abbrev pub Comes : RowChange → Type 0
  Comes change = (y : Span) × (Member y × ((change.id ≡ y.id) × Yields (suc p) y))

  pub record Told (change : RowChange) : Type 0 where
    pub comes : Comes change
    pub before : Side p change.id change.before
    pub after : Side (suc p) change.id change.after

  all-told : (before spans : List Span) → Place before spans → AllByRecursion Told (changes_in (suc p) (next_of before) spans)
  all-told before [] place = tt
  all-told before (s ∷ spans) place =
      each_append Told (span_changes (suc p) (next_of before) s (next_of spans)) (changes_in (suc p) (Some s) spans)
      (each_append Told (cond (s.from == suc p) _ []) (cond (ends_at (suc p) s && not (goes_on (suc p) s (next_of spans))) _ []) (begun (s.from == suc p) refl) (ended (ends_at (suc p) s && not (goes_on (suc p) s (next_of spans))) refl))
      (all-told (s ∷ before) spans (place-next before s spans place))
    where
      begun : (b : Bool) → (s.from == suc p) ≡ b → AllByRecursion Told (cond b (record { id = s.id; before = row_before (suc p) (next_of before) s; after = Some s.row } ∷ []) [])
      begun true is =
          let begins : s.from ≡ suc p = eqb-true s.from (suc p) is in (
            record {
              comes = (s, (place.wholes.0.1, (refl, inl begins)));
              before = begun-before before s spans place begins;
              after = begun-after before s spans place begins;
            },
            tt,
          )
      begun false is = tt

      ended : (b : Bool) → (ends_at (suc p) s && not (goes_on (suc p) s (next_of spans))) ≡ b → AllByRecursion Told (cond b (record { id = s.id; before = Some s.row; after = None } ∷ []) [])
      ended true is =
          let parts = and_parts (ends_at (suc p) s) _ is in
          let ends : s.to ≡ Some (suc p) = ends-is (suc p) s.to parts.0 in (
            record {
              comes = (s, (place.wholes.0.1, (refl, inr ends)));
              before = ended-before before s spans place ends;
              after = ended-after before s spans place ends (not-true (goes_on (suc p) s (next_of spans)) parts.1);
            },
            tt,
          )
      ended false is = tt

  -- ---- they rise

  -- each change is of a span that begins or ends with the version
  abbrev From : List Span → RowChange → Type 0
  From spans change = (y : Span) × (IsIn y spans × ((change.id ≡ y.id) × Yields (suc p) y))

  all-from : (last : Option Span) (spans : List Span) → AllByRecursion (From spans) (changes_in (suc p) last spans)
  all-from last [] = tt
  all-from last (s ∷ spans) =
      each_append (From (s ∷ spans)) (span_changes (suc p) last s (next_of spans)) (changes_in (suc p) (Some s) spans)
      (each_append (From (s ∷ spans)) (cond (s.from == suc p) _ []) (cond (ends_at (suc p) s && not (goes_on (suc p) s (next_of spans))) _ []) (begun (s.from == suc p) refl) (ended (ends_at (suc p) s && not (goes_on (suc p) s (next_of spans))) refl))
      (each_weaker (From (s ∷ spans)) (From spans) (λ change from. (from.0, (inr from.1.0, from.1.1))) (changes_in (suc p) (Some s) spans) (all-from (Some s) spans))
    where
      begun : (b : Bool) → (s.from == suc p) ≡ b → AllByRecursion (From (s ∷ spans)) (cond b (record { id = s.id; before = row_before (suc p) last s; after = Some s.row } ∷ []) [])
      begun true is = ((s, (inl refl, (refl, inl (eqb-true s.from (suc p) is)))), tt)
      begun false is = tt

      ended : (b : Bool) → (ends_at (suc p) s && not (goes_on (suc p) s (next_of spans))) ≡ b → AllByRecursion (From (s ∷ spans)) (cond b (record { id = s.id; before = Some s.row; after = None } ∷ []) [])
      ended true is = ((s, (inl refl, (refl, inr (ends-is (suc p) s.to (and_parts (ends_at (suc p) s) _ is).0)))), tt)
      ended false is = tt

  -- the span has a change
  abbrev Shows : Span → Option Span → Type 0
  Shows s next = (s.from ≡ suc p) ⊎ ((s.to ≡ Some (suc p)) × (goes_on (suc p) s next ≡ false))

  -- no later span of the row has one too
  no-second : (before : List Span) (s : Span) (spans : List Span) → Place before (s ∷ spans) → Shows s (next_of spans) → (y : Span) → IsIn y spans → y.id ≡ s.id → Yields (suc p) y → ⊥
  no-second before s spans place shows y is same yields = go shows yields
    where
      after : (s.from < y.from) × IsSomeAnd s.to (λ to. to ≤ y.from)
      after = held-after before s spans place y is same

      own : Whole y × Member y
      own = of-each (λ x. Whole x × Member x) y spans place.wholes.1 is

      go : Shows s (next_of spans) → Yields (suc p) y → ⊥
      go (inl begins) (inl from) = omega (arith, begins, from, after.0)
      go (inl begins) (inr to) = omega (arith, begins, after.0, end-from y.from (suc p) y.to to own.0)
      go (inr ends) (inl from) = ended-after before s spans place ends.0 ends.1 y own.1 (omega (arith, from), subst (λ n. IsEndAbove n y.to) from own.0) same
      go (inr ends) (inr to) =
          let above : suc p ≤ y.from = subst (λ to. IsSomeAnd to (λ end. end ≤ y.from)) ends.0 after.1 in
          omega (arith, above, end-from y.from (suc p) y.to to own.0)

  less-behind : (before : List Span) (s : Span) (spans : List Span) → Place before (s ∷ spans) → Shows s (next_of spans)
      → AllByRecursion (λ (other : RowChange). identity_cmp s.id other.id ≡ Less) (changes_in (suc p) (Some s) spans)
  less-behind before s spans place shows =
      each_weaker (λ (other : RowChange). identity_cmp s.id other.id ≡ Less) (From spans) (λ other from. below other from (of-each (Follows s) from.0 spans place.rest.0 from.1.0))
      (changes_in (suc p) (Some s) spans) (all-from (Some s) spans)
    where
      below : (other : RowChange) (from : From spans other) → Follows s from.0 → identity_cmp s.id other.id ≡ Less
      below other from (inl less) = subst (λ id. identity_cmp s.id id ≡ Less) (sym from.1.1.0) less
      below other from (inr own) = absurd (no-second before s spans place shows from.0 from.1.0 (sym own.0) from.1.1.1)

  all-rise : (before spans : List Span) → Place before spans → Rise (changes_in (suc p) (next_of before) spans)
  all-rise before [] place = tt
  all-rise before (s ∷ spans) place =
      risen (all-rise (s ∷ before) spans (place-next before s spans place)) (s.from == suc p) refl (ends_at (suc p) s && not (goes_on (suc p) s (next_of spans))) refl
    where
      ends-by : (ends_at (suc p) s && not (goes_on (suc p) s (next_of spans))) ≡ true → (s.to ≡ Some (suc p)) × (goes_on (suc p) s (next_of spans) ≡ false)
      ends-by is = let parts = and_parts (ends_at (suc p) s) _ is in (ends-is (suc p) s.to parts.0, not-true (goes_on (suc p) s (next_of spans)) parts.1)

      risen : Rise (changes_in (suc p) (Some s) spans) → (b : Bool) → (s.from == suc p) ≡ b → (c : Bool) → (ends_at (suc p) s && not (goes_on (suc p) s (next_of spans))) ≡ c
          → Rise ((cond b (record { id = s.id; before = row_before (suc p) (next_of before) s; after = Some s.row } ∷ []) [] ++ cond c (record { id = s.id; before = Some s.row; after = None } ∷ []) [])
          ++ changes_in (suc p) (Some s) spans)
      risen others true begins true ends =
          let from : s.from ≡ suc p = eqb-true s.from (suc p) begins in
          absurd (omega (arith, from, end-from s.from (suc p) s.to (ends-by ends).0 place.wholes.0.0))
      risen others true begins false ends = (less-behind before s spans place (inl (eqb-true s.from (suc p) begins)), others)
      risen others false begins true ends = (less-behind before s spans place (inr (ends-by ends)), others)
      risen others false begins false ends = others

-- ---- each span that begins or ends with the version has a change

change-behind : (xs ys : List RowChange) (id : Identity) → HasChange ys id → HasChange (xs ++ ys) id
change-behind [] ys id has = has
change-behind (x ∷ xs) ys id has = inr (change-behind xs ys id has)

change-first : (xs ys : List RowChange) (id : Identity) → HasChange xs id → HasChange (xs ++ ys) id
change-first [] ys id has = absurd has
change-first (x ∷ xs) ys id (inl is) = inl is
change-first (x ∷ xs) ys id (inr has) = inr (change-first xs ys id has)

begins-shown : (version : ℕ) (last : Option Span) (s : Span) (spans : List Span) → s.from ≡ version → HasChange (changes_in version last (s ∷ spans)) s.id
begins-shown version last s spans begins =
    change-first (span_changes version last s (next_of spans)) (changes_in version (Some s) spans) s.id
    (subst (λ b. HasChange (cond b (record { id = s.id; before = row_before version last s; after = Some s.row } ∷ []) [] ++ cond (ends_at version s && not (goes_on version s (next_of spans))) (record { id = s.id; before = Some s.row; after = None } ∷ []) []) s.id)
    (sym (eq-eqb s.from version begins)) (inl refl))

goes-on-shown : (version : ℕ) (s : Span) (spans : List Span) → goes_on version s (next_of spans) ≡ true → HasChange (changes_in version (Some s) spans) s.id
goes-on-shown version s [] goes = absurd (false≢true goes)
goes-on-shown version s (next ∷ spans) goes =
    let parts = and_parts (next.from == version) _ goes in
    subst (HasChange (changes_in version (Some s) (next ∷ spans))) (same-exact next.id s.id parts.1) (begins-shown version (Some s) next spans (eqb-true next.from version parts.0))

ends-shown : (version : ℕ) (last : Option Span) (s : Span) (spans : List Span) → s.to ≡ Some version → HasChange (changes_in version last (s ∷ spans)) s.id
ends-shown version last s spans ends =
    elim (goes_on version s (next_of spans)) as (λ b. goes_on version s (next_of spans) ≡ b → HasChange (changes_in version last (s ∷ spans)) s.id) [
      | true ↦ λ goes. change-behind (span_changes version last s (next_of spans)) (changes_in version (Some s) spans) s.id (goes-on-shown version s spans goes)
      | false ↦ λ goes.
          change-first (span_changes version last s (next_of spans)) (changes_in version (Some s) spans) s.id
          (change-behind (cond (s.from == version) _ []) (cond (ends_at version s && not (goes_on version s (next_of spans))) _ []) s.id
          (subst (λ c. HasChange (cond c (record { id = s.id; before = Some s.row; after = None } ∷ []) []) s.id)
          (sym (and_from (ends_at version s) (not (goes_on version s (next_of spans))) (is-end version s ends) (ap not goes))) (inl refl)))
    ] refl

pub yields-shown : (version : ℕ) (last : Option Span) (spans : List Span) (x : Span) → IsIn x spans → Yields version x → HasChange (changes_in version last spans) x.id
yields-shown version last [] x is yields = absurd is
yields-shown version last (s ∷ spans) x (inl e) yields = subst (λ (y : Span). HasChange (changes_in version last (s ∷ spans)) y.id) (sym e) (own (subst (Yields version) e yields))
  where
    own : Yields version s → HasChange (changes_in version last (s ∷ spans)) s.id
    own (inl begins) = begins-shown version last s spans begins
    own (inr ends) = ends-shown version last s spans ends
yields-shown version last (s ∷ spans) x (inr is) yields =
    change-behind (span_changes version last s (next_of spans)) (changes_in version (Some s) spans) x.id (yields-shown version (Some s) spans x is yields)

-- ---- the spans of a table, in any order

module _ (p : ℕ) (spans : List Span) (apart : NoOverlap spans) (whole : AreWhole spans) where
  abbrev Member : Span → Type 0
  Member x = IsIn x spans

  abbrev sorted : List Span
  sorted = sorted_by span_cmp spans

  pairwise-follow : (xs : List Span) → Pairwise (λ a b. is_after a b ≡ true) xs → Pairwise Follows xs
  pairwise-follow [] all = tt
  pairwise-follow (x ∷ xs) all = (each_weaker (Follows x) (λ y. is_after x y ≡ true) (λ y is. follows-after x y is) xs all.0, pairwise-follow xs all.1)

  with-members : (xs : List Span) → AreWhole xs → AllByRecursion Member xs → AllByRecursion (λ x. Whole x × Member x) xs
  with-members [] all are = tt
  with-members (x ∷ xs) all are = ((all.0, are.0), with-members xs all.1 are.1)

  place : Place p Member [] sorted
  place = record {
    first = tt;
    each = tt;
    rest = pairwise-follow sorted (sorted_after spans apart whole);
    whole = tt;
    wholes = sorted_each span_cmp (λ x. Whole x × Member x) spans (with-members spans whole (each-in spans spans (λ x is. is)));
    known = λ x is. inr (in-sorted x spans is);
  }

  pub are-told : AllByRecursion (Told p Member) (changes_in (suc p) None sorted)
  are-told = all-told p Member [] sorted place

  pub do-rise : Rise (changes_in (suc p) None sorted)
  do-rise = all-rise p Member [] sorted place

  pub are-shown : (x : Span) → IsIn x spans → Yields (suc p) x → HasChange (changes_in (suc p) None sorted) x.id
  are-shown x is yields = yields-shown (suc p) None sorted x (in-sorted x spans is) yields

-- ---- their rows

abbrev plain_rows : ℕ → List Span → List (Annotated (Unit {0}))
plain_rows v spans = rows_at unannotated v spans

cells-there : (v : ℕ) (spans : List Span) (x : Span) → IsIn x spans → Holds v x → HasCells (plain_rows v spans) x.id x.row
cells-there v [] x is holds = absurd is
cells-there v (s ∷ spans) x (inl e) holds =
    subst (λ b. HasCells (map (row_of unannotated) (cond b (s ∷ spans_at v spans) (spans_at v spans))) x.id x.row) (sym (is-held v s (subst (Holds v) e holds)))
    (inl (ap (λ (y : Span). y.id) (sym e), ap (λ (y : Span). y.row) (sym e)))
cells-there v (s ∷ spans) x (inr is) holds =
    elim (holds_at v s) as (λ b. HasCells (map (row_of unannotated) (cond b (s ∷ spans_at v spans) (spans_at v spans))) x.id x.row) [
      | true ↦ inr (cells-there v spans x is holds)
      | false ↦ cells-there v spans x is holds
    ]

row-from : (v : ℕ) (spans : List Span) (id : Identity) → HasRow (plain_rows v spans) id → (x : Span) × (IsIn x spans × (Holds v x × (x.id ≡ id)))
row-from v [] id has = absurd has
row-from v (s ∷ spans) id has =
    elim (holds_at v s) as (λ b. holds_at v s ≡ b → HasRow (map (row_of unannotated) (cond b (s ∷ spans_at v spans) (spans_at v spans))) id → (x : Span) × (IsIn x (s ∷ spans) × (Holds v x × (x.id ≡ id)))) [
      | true ↦ λ is found. first (λ own. row-from v spans id own) is found
      | false ↦ λ is found. behind (row-from v spans id found)
    ] refl has
  where
    behind : (x : Span) × (IsIn x spans × (Holds v x × (x.id ≡ id))) → (x : Span) × (IsIn x (s ∷ spans) × (Holds v x × (x.id ≡ id)))
    behind found = (found.0, (inr found.1.0, found.1.1))

    first : (HasRow (plain_rows v spans) id → (x : Span) × (IsIn x spans × (Holds v x × (x.id ≡ id))))
        → holds_at v s ≡ true → (s.id ≡ id) ⊎ HasRow (plain_rows v spans) id → (x : Span) × (IsIn x (s ∷ spans) × (Holds v x × (x.id ≡ id)))
    first more is (inl same) = (s, (inl refl, (holds-is v s is, same)))
    first more is (inr found) = behind (more found)

-- ---- with annotations

module _ {M : Type 0} where
  row-kept : (rows : List (Annotated M)) (id : Identity) → HasRow rows id → HasRow (map (reannotated forgotten) rows) id
  row-kept [] id has = has
  row-kept (row ∷ rows) id (inl is) = inl is
  row-kept (row ∷ rows) id (inr has) = inr (row-kept rows id has)

  cells-kept : (rows : List (Annotated M)) (id : Identity) (cells : List Cell) → HasCells (map (reannotated forgotten) rows) id cells → HasCells rows id cells
  cells-kept [] id cells has = has
  cells-kept (row ∷ rows) id cells (inl is) = inl is
  cells-kept (row ∷ rows) id cells (inr has) = inr (cells-kept rows id cells has)

  row-with : (rows : List (Annotated M)) (id : Identity) (cells : List Cell) → HasCells rows id cells → HasRow rows id
  row-with [] id cells has = has
  row-with (row ∷ rows) id cells (inl is) = inl is.0
  row-with (row ∷ rows) id cells (inr has) = inr (row-with rows id cells has)

  -- a version whose rows are those of the spans
  module _ (v : ℕ) (spans : List Span) (rows : List (Annotated M)) (same : plain_rows v spans ≡ map (reannotated forgotten) rows) where
    pub span-of-row : (id : Identity) → HasRow rows id → (x : Span) × (IsIn x spans × (Holds v x × (x.id ≡ id)))
    span-of-row id has = row-from v spans id (subst (λ own. HasRow own id) (sym same) (row-kept rows id has))

    pub row-of-span : (x : Span) → IsIn x spans → Holds v x → HasCells rows x.id x.row
    row-of-span x is holds = cells-kept rows x.id x.row (subst (λ own. HasCells own x.id x.row) same (cells-there v spans x is holds))

    pub row-there : (x : Span) → IsIn x spans → Holds v x → HasRow rows x.id
    row-there x is holds = row-with rows x.id x.row (row-of-span x is holds)

    pub side-is : (p : ℕ) (id : Identity) (cells : Option (List Cell)) → Side p (λ x. IsIn x spans) v id cells → AreCells rows id cells
    side-is p id None side = λ has. let found = span-of-row id has in side found.0 found.1.0 found.1.1.0 found.1.1.1
    side-is p id (Some cells) side =
        subst (λ own. HasCells rows own cells) side.1.1.1.0 (subst (HasCells rows side.0.id) side.1.1.1.1 (row-of-span side.0 side.1.0 side.1.1.0))

-- ---- a version of a history

above-less : (v n : ℕ) (to : Option ℕ) → v ≤ n → IsEndAbove n to → IsEndAbove v to
above-less v n None within above = tt
above-less v n (Some to) within above = omega (arith, within, above)

next-is-written : (written : ℕ → List Written) (table : ℕ) (id : Identity) (more v w : ℕ) → next_written written table id v more ≡ Some w → is_written table id (written w) ≡ true
next-is-written written table id zero v w is = absurd (none-some w is)
next-is-written written table id (suc more) v w is =
    elim (is_written table id (written (suc v))) as (λ b. is_written table id (written (suc v)) ≡ b → cond b (Some (suc v)) (next_written written table id (suc v) more) ≡ Some w → is_written table id (written w) ≡ true) [
      | true ↦ λ own e. subst (λ n. is_written table id (written n) ≡ true) (same_Some (suc v) w e) own
      | false ↦ λ own e. next-is-written written table id more (suc v) w e
    ] refl is

module _ {M : Type 0} (versions : ℕ) (committed : Environment M) (written : ℕ → List Written) (table : ℕ) where
  each-begun : (P : Span → Type 0) → ((version : ℕ) (row : Annotated M) → is_written table row.identity (written version) ≡ true → P (span_from versions committed written table version row))
      → (m : ℕ) → AllByRecursion P (spans_upto versions committed written table m)
  each-begun P each zero = tt
  each-begun P each (suc m) =
      each_append P (spans_upto versions committed written table m) (spans_from versions committed written table (suc m)) (each-begun P each m)
      (each_map P (λ (row : Annotated M). is_written table row.identity (written (suc m)) ≡ true) (span_from versions committed written table (suc m)) (each (suc m)) _
      (each_filter (λ (row : Annotated M). is_written table row.identity (written (suc m)) ≡ true) (λ row. Unit {0}) (λ (row : Annotated M). is_written table row.identity (written (suc m))) (λ row is t. is)
      (committed (suc m) table) (each_all (λ row. Unit {0}) (λ row. tt) (committed (suc m) table))))

  abbrev own_spans : List Span
  own_spans = spans_of versions committed written table

  pub begins-written : (y : Span) → IsIn y own_spans → is_written table y.id (written y.from) ≡ true
  begins-written y is = of-each (λ (span : Span). is_written table span.id (written span.from) ≡ true) y own_spans (each-begun _ (λ version row own. own) versions) is

  pub ends-written : (y : Span) (w : ℕ) → IsIn y own_spans → y.to ≡ Some w → is_written table y.id (written w) ≡ true
  ends-written y w is ends =
      next-is-written written table y.id (versions - y.from) y.from w
      (sym (of-each (λ (span : Span). span.to ≡ next_written written table span.id span.from (versions - span.from)) y own_spans (each-begun _ (λ version row own. refl) versions) is) ∙ ends)

  module _ (name : List ℕ) (p : ℕ) (within : p < versions) (apart : NoOverlap own_spans) (whole : AreWhole own_spans) (ends : AllByRecursion (λ (span : Span). (version : ℕ) → version ≤ versions → holds_at version span ≡ true → span.to ≡ next_written written table span.id version (versions - version)) own_spans) (older : plain_rows p own_spans ≡ map (reannotated forgotten) (committed p table)) (newer : plain_rows (suc p) own_spans ≡ map (reannotated forgotten) (committed (suc p) table)) where
    abbrev lines_of : List RowChange
    lines_of = changes_in (suc p) None (sorted_by span_cmp own_spans)

    told : AllByRecursion (Told p (λ x. IsIn x own_spans)) lines_of
    told = are-told p own_spans apart whole

    yields-written : (y : Span) → IsIn y own_spans → Yields (suc p) y → is_written table y.id (written (suc p)) ≡ true
    yields-written y is (inl begins) = subst (λ n. is_written table y.id (written n) ≡ true) begins (begins-written y is)
    yields-written y is (inr to) = ends-written y (suc p) is to

    yields-there : (y : Span) → IsIn y own_spans → Yields (suc p) y → HasRow (committed p table) y.id ⊎ HasRow (committed (suc p) table) y.id
    yields-there y is (inl begins) =
        inr (row-there (suc p) own_spans (committed (suc p) table) newer y is
        (omega (arith, begins), subst (λ n. IsEndAbove n y.to) begins (of-each (λ (span : Span). IsEndAbove span.from span.to) y own_spans whole is)))
    yields-there y is (inr to) =
        let from : y.from < suc p = end-from y.from (suc p) y.to to (of-each (λ (span : Span). IsEndAbove span.from span.to) y own_spans whole is) in
        inl (row-there p own_spans (committed p table) older y is (omega (arith, from), end-to p (suc p) y.to to (omega arith)))

    -- a written row that the version before has ends there
    written-ends : (x : Span) → IsIn x own_spans → Holds p x → is_written table x.id (written (suc p)) ≡ true → x.to ≡ Some (suc p)
    written-ends x is holds own =
        let more : versions - p ≡ suc (versions - suc p) = omega (arith, within) in
        of-each (λ (span : Span). (version : ℕ) → version ≤ versions → holds_at version span ≡ true → span.to ≡ next_written written table span.id version (versions - version)) x own_spans ends is
        p (omega (arith, within)) (is-held p x holds)
        ∙ ap (next_written written table x.id p) more
        ∙ ap (λ b. cond b (Some (suc p)) (next_written written table x.id (suc p) (versions - suc p))) own

    -- and one that the version has begins there
    written-begins : (x : Span) → IsIn x own_spans → Holds (suc p) x → is_written table x.id (written (suc p)) ≡ true → x.from ≡ suc p
    written-begins x is holds own = elim (cases_lt x.from (suc p)) [
      | inl earlier ↦
          let to : x.to ≡ Some (suc p) = written-ends x is (omega (arith, earlier), above-less p (suc p) x.to (omega arith) holds.1) own in
          absurd (omega (arith, end-from (suc p) (suc p) x.to to holds.1))
      | inr late ↦ omega (arith, late, holds.0)
    ]

    pub shows : ShowsWrites name (λ id. is_written table id (written (suc p))) (committed p table) (committed (suc p) table) (spans_texts name (suc p) None (sorted_by span_cmp own_spans))
    shows = record {
      changes = lines_of;
      texts = texts-are name (suc p) None (sorted_by span_cmp own_spans);
      rise = do-rise p own_spans apart whole;
      written = each_weaker (λ (change : RowChange). is_written table change.id (written (suc p)) ≡ true) (Told p (λ x. IsIn x own_spans))
          (λ change own. subst (λ id. is_written table id (written (suc p)) ≡ true) (sym own.comes.1.1.0) (yields-written own.comes.0 own.comes.1.0 own.comes.1.1.1)) lines_of told;
      there = each_weaker (λ (change : RowChange). HasRow (committed p table) change.id ⊎ HasRow (committed (suc p) table) change.id) (Told p (λ x. IsIn x own_spans))
          (λ change own. subst (λ id. HasRow (committed p table) id ⊎ HasRow (committed (suc p) table) id) (sym own.comes.1.1.0) (yields-there own.comes.0 own.comes.1.0 own.comes.1.1.1)) lines_of told;
      before = each_weaker (λ (change : RowChange). AreCells (committed p table) change.id change.before) (Told p (λ x. IsIn x own_spans))
          (λ change own. side-is p own_spans (committed p table) older p change.id change.before own.before) lines_of told;
      after = each_weaker (λ (change : RowChange). AreCells (committed (suc p) table) change.id change.after) (Told p (λ x. IsIn x own_spans))
          (λ change own. side-is (suc p) own_spans (committed (suc p) table) newer p change.id change.after own.after) lines_of told;
      all = λ id is there. all-shown id is there;
    }
      where
        shown-by : (id : Identity) (x : Span) → IsIn x own_spans → x.id ≡ id → Yields (suc p) x → HasChange lines_of id
        shown-by id x is same yields = subst (HasChange lines_of) same (are-shown p own_spans apart whole x is yields)

        all-shown : (id : Identity) → is_written table id (written (suc p)) ≡ true → HasRow (committed p table) id ⊎ HasRow (committed (suc p) table) id → HasChange lines_of id
        all-shown id is (inl has) =
            let found = span-of-row p own_spans (committed p table) older id has in
            shown-by id found.0 found.1.0 found.1.1.1 (inr (written-ends found.0 found.1.0 found.1.1.0 (subst (λ own. is_written table own (written (suc p)) ≡ true) (sym found.1.1.1) is)))
        all-shown id is (inr has) =
            let found = span-of-row (suc p) own_spans (committed (suc p) table) newer id has in
            shown-by id found.0 found.1.0 found.1.1.1 (inl (written-begins found.0 found.1.0 found.1.1.0 (subst (λ own. is_written table own (written (suc p)) ≡ true) (sym found.1.1.1) is)))
