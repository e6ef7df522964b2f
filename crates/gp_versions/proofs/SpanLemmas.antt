-- What a commit leaves of spans that never overlap, and of the rows of each version.
use Rattle.std.proofs.Common.{◌≡◌, ℕ, zero, suc, ◌-◌, ◌+◌, ◌<◌, ◌≤◌, Bool, true, false, cond, not, ◌&&◌, leb, List, [], ◌∷◌, ◌++◌, map, Option, Some, None, IsSomeAnd, refl, ap, sym, ◌∙◌, subst, arith}
use Rattle.std.specs.Option.{option_map}
use Rattle.std.specs.List.{cons_option, filter, filter_map, AllByRecursion}
use Rattle.std.proofs.lemmas.Bool.{or_left, or_right, false≢true, both_ways, le-leb, lt-leb, lt-ltb}
use Rattle.std.proofs.lemmas.List.{map-append, append-nil}
use Rattle.std.proofs.lemmas.Bool.Decides.{nat_tests}
use Rattle.std.proofs.lemmas.List.Elements.{filter-append}
use Rattle.gp_base.specs.Identities.{same_identity}
use Rattle.gp_base.specs.Annotated.{Annotated, Annotations}
use Rattle.gp_versions.specs.declared.span.Span.{Span}
use Rattle.gp_versions.specs.declared.span.Write.{Write}
use Rattle.gp_versions.specs.Spans.{holds_at, is_before_end, row_of, rows_at, spans_at}
use Rattle.gp_versions.specs.TableSpans.{AreWhole, IsApart, IsEndAbove, NoOverlap}
use Rattle.gp_versions.specs.Commits.{AreBelow, AreDistinct, IsEndBelow, after_commit, begun, ended, is_open, is_written, live_rows, unwritten_rows}
use Rattle.gp_versions.proofs.SameLemmas.{same-sym}

-- ---- spans never overlap

-- the end of a span after a commit
pub ended_to : (version : ℕ) (writes : List Write) (span : Span) → (ended version writes span).to ≡ cond (is_open span.to && is_written writes span.id) (Some version) span.to
ended_to version writes span = elim (is_open span.to && is_written writes span.id) as (λ b. (cond b (record span { to = Some version }) span).to ≡ cond b (Some version) span.to) [ true ↦ refl | false ↦ refl ]

pub ended_id : (version : ℕ) (writes : List Write) (span : Span) → (ended version writes span).id ≡ span.id
ended_id version writes span = elim (is_open span.to && is_written writes span.id) as (λ b. (cond b (record span { to = Some version }) span).id ≡ span.id) [ true ↦ refl | false ↦ refl ]

pub ended_from : (version : ℕ) (writes : List Write) (span : Span) → (ended version writes span).from ≡ span.from
ended_from version writes span = elim (is_open span.to && is_written writes span.id) as (λ b. (cond b (record span { to = Some version }) span).from ≡ span.from) [ true ↦ refl | false ↦ refl ]

ended_row : {M : Type 0} (domain : Annotations M) (version : ℕ) (writes : List Write) (span : Span) → row_of domain (ended version writes span) ≡ row_of domain span
ended_row domain version writes span = elim (is_open span.to && is_written writes span.id) as (λ b. row_of domain (cond b (record span { to = Some version }) span) ≡ row_of domain span) [ true ↦ refl | false ↦ refl ]

-- an end is never changed
pub end-stays : (version : ℕ) (b : Bool) (to : Option ℕ) (P : ℕ → Type 0) → IsSomeAnd to P → IsSomeAnd (cond (is_open to && b) (Some version) to) P
end-stays version b None P some = absurd some
end-stays version b (Some to) P some = some

pub apart-ended : (version : ℕ) (writes : List Write) (first later : Span) → IsApart first later → IsApart (ended version writes first) (ended version writes later)
apart-ended version writes first later apart =
    rw (ended_id version writes first, ended_id version writes later, ended_to version writes first, ended_from version writes later)
    (λ same. end-stays version (is_written writes first.id) first.to (λ to. to ≤ later.from) (apart same))

all-ended : (version : ℕ) (writes : List Write) (first : Span) (spans : List Span) → AllByRecursion (IsApart first) spans → AllByRecursion (IsApart (ended version writes first)) (map (ended version writes) spans)
all-ended version writes first [] all = tt
all-ended version writes first (span ∷ spans) all = (apart-ended version writes first span all.0, all-ended version writes first spans all.1)

no_overlap-ended : (version : ℕ) (writes : List Write) (spans : List Span) → NoOverlap spans → NoOverlap (map (ended version writes) spans)
no_overlap-ended version writes [] apart = tt
no_overlap-ended version writes (span ∷ spans) apart = (all-ended version writes span spans apart.0, no_overlap-ended version writes spans apart.1)

begun-cases : (version : ℕ) (span : Span) (write : Write) (writes : List Write) → (same_identity span.id write.id ≡ true → IsSomeAnd span.to (λ to. to ≤ version)) → AllByRecursion (IsApart span) (filter_map (begun version) writes) → AllByRecursion (IsApart span) (filter_map (begun version) (write ∷ writes))
begun-cases version span write writes here rest =
    elim write.row as (λ row. AllByRecursion (IsApart span) (cons_option (option_map (λ cells. record { id = write.id; from = version; to = None; row = cells }) row) (filter_map (begun version) writes))) [
      | None ↦ rest
      | Some cells ↦ (here, rest)
    ]

-- a span that has ended by the version if its identity is written is apart from those that begin at the version
apart-begun : (version : ℕ) (span : Span) (writes : List Write) → (is_written writes span.id ≡ true → IsSomeAnd span.to (λ to. to ≤ version)) → AllByRecursion (IsApart span) (filter_map (begun version) writes)
apart-begun version span [] by = tt
apart-begun version span (write ∷ writes) by =
    let rest = apart-begun version span writes (λ is. by (or_right (same_identity write.id span.id) (is_written writes span.id) is)) in
    let here : same_identity span.id write.id ≡ true → IsSomeAnd span.to (λ to. to ≤ version) =
    λ same. by (or_left (same_identity write.id span.id) (is_written writes span.id) (same-sym span.id write.id same)) in
    begun-cases version span write writes here rest

-- writes of different identities begin spans that are apart
no_overlap-begun : (version : ℕ) (writes : List Write) → AreDistinct writes → NoOverlap (filter_map (begun version) writes)
no_overlap-begun version [] distinct = tt
no_overlap-begun version (write ∷ writes) distinct =
    elim write.row as (λ row. NoOverlap (cons_option (option_map (λ cells. record { id = write.id; from = version; to = None; row = cells }) row) (filter_map (begun version) writes))) [
      | None ↦ no_overlap-begun version writes distinct.1
      | Some cells ↦ (
        apart-begun version (record { id = write.id; from = version; to = None; row = cells }) writes (λ is. absurd (both_ways (is_written writes write.id) distinct.0 is)),
        no_overlap-begun version writes distinct.1,
      )
    ]

all-append : (x : Span) (xs ys : List Span) → AllByRecursion (IsApart x) xs → AllByRecursion (IsApart x) ys → AllByRecursion (IsApart x) (xs ++ ys)
all-append x [] ys left right = right
all-append x (y ∷ xs) ys left right = (left.0, all-append x xs ys left.1 right)

no_overlap-append : (xs ys : List Span) → NoOverlap xs → NoOverlap ys → AllByRecursion (λ x. AllByRecursion (IsApart x) ys) xs → NoOverlap (xs ++ ys)
no_overlap-append [] ys left right across = right
no_overlap-append (x ∷ xs) ys left right across = (all-append x xs ys left.0 across.0, no_overlap-append xs ys left.1 right across.1)

-- a span of a written identity has ended by the version
ended-by : (version : ℕ) (b : Bool) (to : Option ℕ) → IsEndBelow version to → b ≡ true → IsSomeAnd (cond (is_open to && b) (Some version) to) (λ end. end ≤ version)
ended-by version true None below is = omega arith
ended-by version true (Some to) below is = omega arith
ended-by version false to below is = absurd (false≢true is)

across-ended : (version : ℕ) (writes : List Write) (spans : List Span) → AreBelow version spans → AllByRecursion (λ x. AllByRecursion (IsApart x) (filter_map (begun version) writes)) (map (ended version writes) spans)
across-ended version writes [] below = tt
across-ended version writes (span ∷ spans) below = (
  apart-begun version (ended version writes span) writes (rw (ended_id version writes span, ended_to version writes span) (ended-by version (is_written writes span.id) span.to below.0.1)),
  across-ended version writes spans below.1,
)

-- a commit keeps spans from overlapping
pub no_overlap-after : (version : ℕ) (writes : List Write) (spans : List Span) → AreBelow version spans → AreDistinct writes → NoOverlap spans → NoOverlap (after_commit version writes spans)
no_overlap-after version writes spans below distinct apart =
    no_overlap-append (map (ended version writes) spans) (filter_map (begun version) writes) (no_overlap-ended version writes spans apart) (no_overlap-begun version writes distinct) (across-ended version writes spans below)

-- ---- the rows of each version after a commit

rows_at-append : {M : Type 0} (domain : Annotations M) (v : ℕ) (xs ys : List Span) → rows_at domain v (xs ++ ys) ≡ rows_at domain v xs ++ rows_at domain v ys
rows_at-append domain v xs ys = ap (map (row_of domain)) (filter-append (holds_at v) xs ys) ∙ map-append (row_of domain) (filter (holds_at v) xs) (filter (holds_at v) ys)

-- a row in front, if there is one
abbrev put : {M : Type 0} → Bool → Annotated M → List (Annotated M) → List (Annotated M)
put b row rows = cond b (row ∷ rows) rows

rows_at-cons : {M : Type 0} (domain : Annotations M) (v : ℕ) (span : Span) (spans : List Span) → rows_at domain v (span ∷ spans) ≡ put (holds_at v span) (row_of domain span) (rows_at domain v spans)
rows_at-cons domain v span spans = elim (holds_at v span) as (λ b. map (row_of domain) (cond b (span ∷ spans_at v spans) (spans_at v spans)) ≡ put b (row_of domain span) (rows_at domain v spans)) [ true ↦ refl | false ↦ refl ]

pub end-before : (v version : ℕ) (b : Bool) (to : Option ℕ) → v < version → is_before_end v (cond (is_open to && b) (Some version) to) ≡ is_before_end v to
end-before v version true None early = lt-ltb v version early
end-before v version false None early = refl
end-before v version b (Some to) early = refl

holds-before : (v version : ℕ) (writes : List Write) (span : Span) → v < version → holds_at v (ended version writes span) ≡ holds_at v span
holds-before v version writes span early =
    rw (ended_from version writes span, ended_to version writes span) (ap (λ b. leb span.from v && b) (end-before v version (is_written writes span.id) span.to early))

ended-before : {M : Type 0} (domain : Annotations M) (v version : ℕ) (writes : List Write) (spans : List Span) → v < version → rows_at domain v (map (ended version writes) spans) ≡ rows_at domain v spans
ended-before domain v version writes [] early = refl
ended-before domain v version writes (span ∷ spans) early =
    let here = holds-before v version writes span early in
    let row = ended_row domain version writes span in
    let rest = ended-before domain v version writes spans early in
    rows_at-cons domain v (ended version writes span) (map (ended version writes) spans) ∙ (cc) ∙ sym (rows_at-cons domain v span spans)

begun-before : {M : Type 0} (domain : Annotations M) (v version : ℕ) (writes : List Write) → v < version → rows_at domain v (filter_map (begun version) writes) ≡ []
begun-before domain v version [] early = refl
begun-before domain v version (write ∷ writes) early =
    let rest = begun-before domain v version writes early in
    elim write.row as (λ row. rows_at domain v (cons_option (option_map (λ cells. record { id = write.id; from = version; to = None; row = cells }) row) (filter_map (begun version) writes)) ≡ []) [
      | None ↦ rest
      | Some cells ↦
          let late = lt-leb version v early in
          rows_at-cons domain v (record { id = write.id; from = version; to = None; row = cells }) (filter_map (begun version) writes) ∙ rw late rest
    ]

-- a commit changes no older version
pub rows-before : {M : Type 0} (domain : Annotations M) (v version : ℕ) (writes : List Write) (spans : List Span) → v < version → rows_at domain v (after_commit version writes spans) ≡ rows_at domain v spans
rows-before domain v version writes spans early =
    let old = ended-before domain v version writes spans early in
    let new = begun-before domain v version writes early in
    rows_at-append domain v (map (ended version writes) spans) (filter_map (begun version) writes) ∙ rw (old, new) (append-nil (rows_at domain v spans))

-- an old span holds the new version if it held the one before and is not written
holds-new : (n : ℕ) (b : Bool) (from : ℕ) (to : Option ℕ) → from < n + 1 → IsEndBelow (n + 1) to → (leb from (n + 1) && is_before_end (n + 1) (cond (is_open to && b) (Some (n + 1)) to)) ≡ ((leb from n && is_before_end n to) && not b)
holds-new n true from None begins ends = grind (arith, nat_tests)
holds-new n false from None begins ends = grind (arith, nat_tests)
holds-new n true from (Some to) begins ends = grind (arith, nat_tests)
holds-new n false from (Some to) begins ends = grind (arith, nat_tests)

unwritten-put : {M : Type 0} (writes : List Write) (b : Bool) (row : Annotated M) (rows : List (Annotated M)) → unwritten_rows writes (put b row rows) ≡ put (b && not (is_written writes row.identity)) row (unwritten_rows writes rows)
unwritten-put writes true row rows = refl
unwritten-put writes false row rows = refl

ended-new : {M : Type 0} (domain : Annotations M) (n : ℕ) (writes : List Write) (spans : List Span) → AreBelow (n + 1) spans → rows_at domain (n + 1) (map (ended (n + 1) writes) spans) ≡ unwritten_rows writes (rows_at domain n spans)
ended-new domain n writes [] below = refl
ended-new domain n writes (span ∷ spans) below =
    let here : holds_at (n + 1) (ended (n + 1) writes span) ≡ (holds_at n span && not (is_written writes span.id)) =
    rw (ended_from (n + 1) writes span, ended_to (n + 1) writes span) (holds-new n (is_written writes span.id) span.from span.to below.0.0 below.0.1) in
    let row = ended_row domain (n + 1) writes span in
    let rest = ended-new domain n writes spans below.1 in
    rows_at-cons domain (n + 1) (ended (n + 1) writes span) (map (ended (n + 1) writes) spans)
    ∙ (cc)
    ∙ sym (unwritten-put writes (holds_at n span) (row_of domain span) (rows_at domain n spans))
    ∙ ap (unwritten_rows writes) (sym (rows_at-cons domain n span spans))

begun-new : {M : Type 0} (domain : Annotations M) (version : ℕ) (writes : List Write) → rows_at domain version (filter_map (begun version) writes) ≡ live_rows domain writes
begun-new domain version [] = refl
begun-new domain version (write ∷ writes) =
    let rest = begun-new domain version writes in
    elim write.row as (λ row. rows_at domain version (cons_option (option_map (λ cells. record { id = write.id; from = version; to = None; row = cells }) row) (filter_map (begun version) writes)) ≡ cons_option (option_map (λ cells. record { identity = write.id; cells = cells; mark = false; annotation = domain.one }) row) (live_rows domain writes)) [
      | None ↦ rest
      | Some cells ↦
          let now = le-leb version version (omega arith) in
          rows_at-cons domain version (record { id = write.id; from = version; to = None; row = cells }) (filter_map (begun version) writes) ∙ rw (now, rest) refl
    ]

-- the new version has the rows that were not written, and then the written rows that were not deleted
pub rows-new : {M : Type 0} (domain : Annotations M) (n : ℕ) (writes : List Write) (spans : List Span) → AreBelow (n + 1) spans → rows_at domain (n + 1) (after_commit (n + 1) writes spans) ≡ unwritten_rows writes (rows_at domain n spans) ++ live_rows domain writes
rows-new domain n writes spans below =
    let old = ended-new domain n writes spans below in
    let new = begun-new domain (n + 1) writes in
    rows_at-append domain (n + 1) (map (ended (n + 1) writes) spans) (filter_map (begun (n + 1)) writes) ∙ cc

pub rows-new-at : {M : Type 0} (domain : Annotations M) (version : ℕ) (writes : List Write) (spans : List Span) → 1 ≤ version → AreBelow version spans → rows_at domain version (after_commit version writes spans) ≡ unwritten_rows writes (rows_at domain (version - 1) spans) ++ live_rows domain writes
rows-new-at domain zero writes spans first below = absurd (omega arith)
rows-new-at domain (suc n) writes spans first below =
    let e : n + 1 ≡ suc n = omega arith in
    let e' : suc n - 1 ≡ n = omega arith in
    rw e' (subst (λ (m : ℕ). AreBelow m spans → rows_at domain m (after_commit m writes spans) ≡ unwritten_rows writes (rows_at domain n spans) ++ live_rows domain writes) e (rows-new domain n writes spans) below)

-- ---- each span holds at least one version

end-above : (version : ℕ) (b : Bool) (from : ℕ) (to : Option ℕ) → from < version → IsEndAbove from to → IsEndAbove from (cond (is_open to && b) (Some version) to)
end-above version true from None begins above = begins
end-above version false from None begins above = above
end-above version b from (Some to) begins above = above

whole-begun : (version : ℕ) (writes : List Write) → AreWhole (filter_map (begun version) writes)
whole-begun version [] = tt
whole-begun version (write ∷ writes) =
    let rest = whole-begun version writes in
    elim write.row as (λ row. AreWhole (cons_option (option_map (λ cells. record { id = write.id; from = version; to = None; row = cells }) row) (filter_map (begun version) writes))) [
      | None ↦ rest
      | Some cells ↦ (tt, rest)
    ]

-- a commit keeps spans whole
pub whole-after : (version : ℕ) (writes : List Write) (spans : List Span) → AreBelow version spans → AreWhole spans → AreWhole (after_commit version writes spans)
whole-after version writes [] below whole = whole-begun version writes
whole-after version writes (span ∷ spans) below whole = (
  rw (ended_from version writes span, ended_to version writes span) (end-above version (is_written writes span.id) span.from span.to below.0.0 whole.0),
  whole-after version writes spans below.1 whole.1,
)

-- ---- each version of a span is below the next version

below-more : (version : ℕ) (b : Bool) (to : Option ℕ) → IsEndBelow version to → IsEndBelow (version + 1) (cond (is_open to && b) (Some version) to)
below-more version true None below = omega arith
below-more version false None below = tt
below-more version b (Some to) below = omega arith

below-begun : (version : ℕ) (writes : List Write) → AreBelow (version + 1) (filter_map (begun version) writes)
below-begun version [] = tt
below-begun version (write ∷ writes) =
    let rest = below-begun version writes in
    elim write.row as (λ row. AreBelow (version + 1) (cons_option (option_map (λ cells. record { id = write.id; from = version; to = None; row = cells }) row) (filter_map (begun version) writes))) [
      | None ↦ rest
      | Some cells ↦ ((omega arith, tt), rest)
    ]

pub below-after : (version : ℕ) (writes : List Write) (spans : List Span) → AreBelow version spans → AreBelow (version + 1) (after_commit version writes spans)
below-after version writes [] below = below-begun version writes
below-after version writes (span ∷ spans) below = (
  rw (ended_from version writes span, ended_to version writes span)
      (omega (arith, below.0.0), below-more version (is_written writes span.id) span.to below.0.1),
  below-after version writes spans below.1,
)
