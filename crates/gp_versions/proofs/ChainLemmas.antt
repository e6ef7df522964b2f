-- Chains of spans with equal keys, and walks along them.
use Rattle.std.proofs.Common.{◌≡◌, ℕ, zero, suc, ◌<◌, ◌≤◌, true, false, cond, ◌&&◌, eqb, leb, List, [], ◌∷◌, ◌++◌, drop, length, map, take, slice_get, Option, Some, None, IfSome, refl, ap, sym, ◌∙◌, subst, arith, inl, inr}
use Rattle.std.specs.List.{AllByRecursion, filter_map}
use Rattle.std.proofs.lemmas.Bool.{and_parts, cases_lt, eqb-true, false≢true, leb-true}
use Rattle.std.proofs.lemmas.Bool.Decides.{nat_tests}
use Rattle.std.proofs.lemmas.List.{length-append, map-append, take-append-drop}
use Rattle.std.proofs.lemmas.Option.{slice_get_within}
use Rattle.indexmap.specs.IndexMap.{IndexMap, get}
use Rattle.gp_base.specs.Identities.{Identity, same_identity}
use Rattle.gp_versions.specs.declared.columns.ColumnIndex.{ColumnIndex}
use Rattle.gp_versions.specs.declared.key.By.TheVariants as variant
use Rattle.gp_versions.specs.declared.key.Key.{Key}
use Rattle.gp_versions.specs.declared.span.Span.{Span}
use Rattle.gp_versions.specs.declared.span.Write.{Write}
use Rattle.gp_versions.specs.Chains.{AreIndexes, HasChains, HasNone, IsKeyAt, IsLast, LeadsTo, change_after, ids_of, is_begun, keys_of, same_keys, up_to}
use Rattle.gp_versions.specs.Commits.{after_commit, begun, ended, is_open, is_written}
use Rattle.gp_versions.specs.Keys.{key_by, key_of, key_of_cell}
use Rattle.gp_versions.specs.Places.{cell_at}
use Rattle.gp_versions.specs.TableSpans.{AreWhole, IsApart, NoOverlap, later, later_end, least, written_after}
use Rattle.gp_versions.proofs.HeldLemmas.{skip-end}
use Rattle.gp_versions.proofs.SameLemmas.{same-exact, same-itself}
use Rattle.gp_versions.proofs.SpanLemmas.{ended_id}

-- ---- keys

keys-same : (a b : Key) → same_keys a b ≡ true → a ≡ b
keys-same a b is =
    let t = and_parts (eqb a.t b.t) (eqb a.k b.k && (eqb a.n b.n && eqb a.folded b.folded)) is in
    let k = and_parts (eqb a.k b.k) (eqb a.n b.n && eqb a.folded b.folded) t.1 in
    let n = and_parts (eqb a.n b.n) (eqb a.folded b.folded) k.1 in
    let e = eqb-true a.t b.t t.0 in
    let f = eqb-true a.k b.k k.0 in
    let g = eqb-true a.n b.n n.0 in
    let h = eqb-true a.folded b.folded n.1 in
    λ i. record { t = e i; k = f i; n = g i; folded = h i }

keys-itself : (a : Key) → same_keys a a ≡ true
keys-itself a = grind (arith, nat_tests)

-- ---- elements of lists

at-longer : {X : Type 0} (xs ys : List X) (q : ℕ) → q < length xs → slice_get (xs ++ ys) q ≡ slice_get xs q
at-longer [] ys q within = absurd (omega arith)
at-longer (x ∷ xs) ys zero within = refl
at-longer (x ∷ xs) ys (suc q) within = at-longer xs ys q (omega arith)

at-end : {X : Type 0} (xs : List X) (x y : X) → slice_get (xs ++ x ∷ []) (length xs) ≡ Some y → x ≡ y
at-end [] x y at = cc
at-end (z ∷ xs) x y at = at-end xs x y at

pub all-at : {X : Type 0} (P : X → Type 0) (xs : List X) (p : ℕ) (x : X) → AllByRecursion P xs → slice_get xs p ≡ Some x → P x
all-at P [] p x all at = absurd (cc)
all-at P (y ∷ xs) zero x all at = subst P (cc) all.0
all-at P (y ∷ xs) (suc p) x all at = all-at P xs p x all.1 at

length-end : {X : Type 0} (xs : List X) (x : X) → length (xs ++ x ∷ []) ≡ suc (length xs)
length-end [] x = refl
length-end (y ∷ xs) x = ap suc (length-end xs x)

-- ---- the last place of a key

-- keys behind the places change nothing
IsLast-longer : (keys more : List Key) (key : Key) (to : ℕ) (place : Option ℕ) → to ≤ length keys → IsLast keys key to place → IsLast (keys ++ more) key to place
IsLast-longer keys more key to None within last =
    record { at = tt; others = λ q above below at. last.others q above below (sym (at-longer keys more q (omega arith)) ∙ at) }
IsLast-longer keys more key to (Some p) within last =
    record {
      at = (last.at.0, at-longer keys more p (omega (arith, last.at.0)) ∙ last.at.1);
      others = λ q above below at. last.others q above below (sym (at-longer keys more q (omega arith)) ∙ at);
    }

-- nor does a place of another key
IsLast-other : (keys : List Key) (key : Key) (to : ℕ) (place : Option ℕ) → (slice_get keys to ≡ Some key → ⊥) → IsLast keys key to place → IsLast keys key (suc to) place
IsLast-other keys key to place other last = record { at = at-more place last.at; others = λ q above below at. others q above below at }
  where
    at-more : (place : Option ℕ) → IfSome place (λ p. (p < to) × (slice_get keys p ≡ Some key)) → IfSome place (λ p. (p < suc to) × (slice_get keys p ≡ Some key))
    at-more None at = tt
    at-more (Some p) at = (omega (arith, at.0), at.1)

    others : (q : ℕ) → up_to place ≤ q → q < suc to → slice_get keys q ≡ Some key → ⊥
    others q above below at = elim (cases_lt q to) [
      | inl early ↦ last.others q above early at
      | inr late ↦ other (subst (λ n. slice_get keys n ≡ Some key) (omega arith) at)
    ]

-- ---- chains

pub HasChains-unchanged : {S : Type 0} (old new : IndexMap Key ℕ S) (befores : List (Option ℕ)) (keys : List Key) → new.entries ≡ old.entries → HasChains old befores keys → HasChains new befores keys
HasChains-unchanged old new befores keys same chains =
    record {
      within = chains.within;
      last = λ key. rw same (chains.last key);
      linked = chains.linked;
    }

HasChains-longer : {S : Type 0} (newest : IndexMap Key ℕ S) (befores : List (Option ℕ)) (keys more : List Key) → HasChains newest befores keys → HasChains newest befores (keys ++ more)
HasChains-longer newest befores keys more chains =
    record {
      within = omega (arith, chains.within, length-append keys more);
      last = λ key. IsLast-longer keys more key (length befores) (get same_keys newest key) chains.within (chains.last key);
      linked = λ p key place at is.
          let within : p < length keys = omega (arith, chains.within, slice_get_within befores p place at) in
          IsLast-longer keys more key p place (omega arith) (chains.linked p key place at (sym (at-longer keys more p within) ∙ is));
    }

keys-kept : (key : Span → Key) (version : ℕ) (writes : List Write) (spans : List Span) → ((span : Span) → key (ended version writes span) ≡ key span) → map key (map (ended version writes) spans) ≡ map key spans
keys-kept key version writes [] kept = refl
keys-kept key version writes (span ∷ spans) kept =
    ap (λ k. k ∷ map key (map (ended version writes) spans)) (kept span) ∙ ap (λ keys. key span ∷ keys) (keys-kept key version writes spans kept)

-- a commit leaves the keys of the spans that are there
HasChains-kept : {S : Type 0} (newest : IndexMap Key ℕ S) (befores : List (Option ℕ)) (key : Span → Key) (version : ℕ) (writes : List Write) (spans : List Span) → ((span : Span) → key (ended version writes span) ≡ key span) →
    HasChains newest befores (map key spans) → HasChains newest befores (map key (after_commit version writes spans))
HasChains-kept newest befores key version writes spans kept chains =
    let begun_spans = filter_map (begun version) writes in
    let keys : map key (after_commit version writes spans) ≡ map key spans ++ map key begun_spans =
    map-append key (map (ended version writes) spans) begun_spans ∙ ap (λ list. list ++ map key begun_spans) (keys-kept key version writes spans kept) in
    subst (HasChains newest befores) (sym keys) (HasChains-longer newest befores (map key spans) (map key begun_spans) chains)

pub HasChains-after : {S : Type 0} (newest : IndexMap Key ℕ S) (befores : List (Option ℕ)) (version : ℕ) (writes : List Write) (spans : List Span) →
    HasChains newest befores (keys_of spans) → HasChains newest befores (keys_of (after_commit version writes spans))
HasChains-after newest befores version writes spans chains =
    HasChains-kept newest befores (λ (span : Span). key_of span.id) version writes spans (λ span. ap key_of (ended_id version writes span)) chains

ended-cells : (version : ℕ) (writes : List Write) (span : Span) → (ended version writes span).row ≡ span.row
ended-cells version writes span = elim (is_open span.to && is_written writes span.id) as (λ b. (cond b (record span { to = Some version }) span).row ≡ span.row) [ true ↦ refl | false ↦ refl ]

pub AreIndexes-after : (indexes : List ColumnIndex) (version : ℕ) (writes : List Write) (spans : List Span) → AreIndexes indexes spans → AreIndexes indexes (after_commit version writes spans)
AreIndexes-after [] version writes spans all = tt
AreIndexes-after (index ∷ indexes) version writes spans all = (
  HasChains-kept index.chains.newest index.chains.befores.items (key_by (variant.Column index.column)) version writes spans (λ span. ap (λ row. key_of_cell (cell_at index.column row)) (ended-cells version writes span)) all.0,
  AreIndexes-after indexes version writes spans all.1,
)

-- a span is entered
pub HasChains-entered : {S : Type 0} (old new : IndexMap Key ℕ S) (befores : List (Option ℕ)) (keys : List Key) (key : Key) (place : ℕ) (before : Option ℕ) → place ≡ length befores → slice_get keys (length befores) ≡ Some key →
    ((q : Key) → get same_keys new q ≡ cond (same_keys key q) (Some place) (get same_keys old q)) → before ≡ get same_keys old key →
    HasChains old befores keys → HasChains new (befores ++ before ∷ []) keys
HasChains-entered {S} old new befores keys key place before end at updates is chains =
    record {
      within = omega (arith, slice_get_within keys (length befores) key at, length-end befores before);
      last = λ q. subst (λ n. IsLast keys q n (get same_keys new q)) (sym (length-end befores before)) (rw (updates, end) (last q));
      linked = linked;
    }
  where
    here : IsLast keys key (suc (length befores)) (Some (length befores))
    here = record { at = (omega arith, at); others = λ q above below is. absurd (omega arith) }

    last : (q : Key) → IsLast keys q (suc (length befores)) (cond (same_keys key q) (Some (length befores)) (get same_keys old q))
    last q = elim (same_keys key q) as (λ c. same_keys key q ≡ c → IsLast keys q (suc (length befores)) (cond c (Some (length befores)) (get same_keys old q))) [
      | true ↦ λ same. subst (λ k. IsLast keys k (suc (length befores)) (Some (length befores))) (keys-same key q same) here
      | false ↦ λ other. IsLast-other keys q (length befores) (get same_keys old q)
          (λ there. let e : key ≡ q = cc in absurd (false≢true (sym other ∙ (ap (same_keys key) (sym e) ∙ keys-itself key)))) (chains.last q)
    ] refl

    linked : (p : ℕ) (k : Key) (place : Option ℕ) → slice_get (befores ++ before ∷ []) p ≡ Some place → slice_get keys p ≡ Some k → IsLast keys k p place
    linked p k place link there = elim (cases_lt p (length befores)) [
      | inl early ↦ chains.linked p k place (sym (at-longer befores (before ∷ []) p early) ∙ link) there
      | inr late ↦
          let low : p < suc (length befores) = rw length-end at (slice_get_within (befores ++ before ∷ []) p place link) in
          let p-is : p ≡ length befores = omega arith in
          let placed : before ≡ place = at-end befores before place (subst (λ n. slice_get (befores ++ before ∷ []) n ≡ Some place) p-is link) in
          let keyed : key ≡ k = (let e = subst (λ n. slice_get keys n ≡ Some k) p-is there in cc) in
          subst (λ n. IsLast keys k n place) (sym p-is) (subst (λ x. IsLast keys k (length befores) x) (sym is ∙ placed) (subst (λ x. IsLast keys x (length befores) (get same_keys old key)) keyed (chains.last key)))
    ]

-- ---- later writes in a part of the spans

pub least-none : (x : Option ℕ) → least x None ≡ x
least-none None = refl
least-none (Some a) = refl

least-assoc : (x y z : Option ℕ) → least (least x y) z ≡ least x (least y z)
least-assoc None y z = refl
least-assoc (Some a) None z = refl
least-assoc (Some a) (Some b) None = least-none (least (Some a) (Some b))
least-assoc (Some a) (Some b) (Some c) = grind (arith, nat_tests)

written-append : (id : Identity) (v : ℕ) (xs ys : List Span) → written_after id v (xs ++ ys) ≡ least (written_after id v xs) (written_after id v ys)
written-append id v [] ys = refl
written-append id v (x ∷ xs) ys =
    let change = least (later v x.from) (later_end v x.to) in
    let rest = written-append id v xs ys in
    elim (same_identity x.id id) as (λ c. cond c (least change (written_after id v (xs ++ ys))) (written_after id v (xs ++ ys)) ≡ least (cond c (least change (written_after id v xs)) (written_after id v xs)) (written_after id v ys)) [
      | true ↦ ap (least change) rest ∙ sym (least-assoc change (written_after id v xs) (written_after id v ys))
      | false ↦ rest
    ]

-- the first spans, and the others
pub written-parts : (id : Identity) (v : ℕ) (spans : List Span) (count : ℕ) → least (written_after id v (take count spans)) (written_after id v (drop count spans)) ≡ written_after id v spans
written-parts id v spans count = sym (written-append id v (take count spans) (drop count spans)) ∙ ap (written_after id v) (take-append-drop count spans)

-- one span more
written-one : (id : Identity) (v : ℕ) (spans : List Span) (p : ℕ) (span : Span) → slice_get spans p ≡ Some span →
    written_after id v (take (suc p) spans) ≡ least (written_after id v (take p spans)) (change_after id v span)
written-one id v [] p span at = absurd (cc)
written-one id v (x ∷ spans) zero span at =
    let change = least (later v x.from) (later_end v x.to) in
    let here : x ≡ span = cc in
    subst (λ s. written_after id v (x ∷ []) ≡ change_after id v s) here
    (elim (same_identity x.id id) as (λ c. cond c (least change None) None ≡ cond c change None) [ true ↦ least-none change | false ↦ refl ])
written-one id v (x ∷ spans) (suc p) span at =
    let change = least (later v x.from) (later_end v x.to) in
    let some = written_after id v (take p spans) in
    let more = written_after id v (take (suc p) spans) in
    let rest : more ≡ least some (change_after id v span) = written-one id v spans p span at in
    elim (same_identity x.id id) as (λ c. cond c (least change more) more ≡ least (cond c (least change some) some) (change_after id v span)) [
      | true ↦ ap (least change) rest ∙ sym (least-assoc change some (change_after id v span))
      | false ↦ rest
    ]

-- spans with other keys change nothing
skip : (id : Identity) (v : ℕ) (spans : List Span) (low high : ℕ) → low ≤ high → ((q : ℕ) → low ≤ q → q < high → slice_get (keys_of spans) q ≡ Some (key_of id) → ⊥) →
    written_after id v (take low spans) ≡ written_after id v (take high spans)
skip id v [] zero zero le others = refl
skip id v [] zero (suc high) le others = refl
skip id v [] (suc low) zero le others = refl
skip id v [] (suc low) (suc high) le others = refl
skip id v (x ∷ spans) zero zero le others = refl
skip id v (x ∷ spans) (suc low) zero le others = absurd (omega arith)
skip id v (x ∷ spans) zero (suc high) le others =
    let change = least (later v x.from) (later_end v x.to) in
    let some = written_after id v (take high spans) in
    let rest : None ≡ some = skip id v spans zero high (omega arith) (λ q above below at. others (suc q) (omega arith) (omega arith) at) in
    elim (same_identity x.id id) as (λ c. same_identity x.id id ≡ c → None ≡ cond c (least change some) some) [
      | true ↦ λ same. absurd (others zero (omega arith) (omega arith) (ap (λ i. Some (key_of i)) (same-exact x.id id same)))
      | false ↦ λ other. rest
    ] refl
skip id v (x ∷ spans) (suc low) (suc high) le others =
    let change = least (later v x.from) (later_end v x.to) in
    let few = written_after id v (take low spans) in
    let some = written_after id v (take high spans) in
    let rest : few ≡ some = skip id v spans low high (omega arith) (λ q above below at. others (suc q) (omega arith) (omega arith) at) in
    elim (same_identity x.id id) as (λ c. cond c (least change few) few ≡ cond c (least change some) some) [ true ↦ ap (least change) rest | false ↦ rest ]

-- where a span of the identity began by v, the earlier ones have ended by v
settled : (id : Identity) (v : ℕ) (spans : List Span) (p : ℕ) (span : Span) → NoOverlap spans → AreWhole spans → slice_get spans p ≡ Some span → same_identity span.id id ≡ true → span.from ≤ v →
    written_after id v (take p spans) ≡ None
settled id v [] p span apart whole at same begun = absurd (cc)
settled id v (x ∷ spans) zero span apart whole at same begun = refl
settled id v (x ∷ spans) (suc p) span apart whole at same begun =
    let change = least (later v x.from) (later_end v x.to) in
    let some = written_after id v (take p spans) in
    let rest : some ≡ None = settled id v spans p span apart.1 whole.1 at same begun in
    let ends = all-at (IsApart x) spans p span apart.0 at in
    elim (same_identity x.id id) as (λ c. same_identity x.id id ≡ c → cond c (least change some) some ≡ None) [
      | true ↦ λ is.
          let ended = skip-end v span.from x.from x.to begun whole.0 (ends (subst (λ i. same_identity x.id i ≡ true) (sym (same-exact span.id id same)) is)) in
          ap (λ w. least w some) ended ∙ rest
      | false ↦ λ other. rest
    ] refl

-- ---- walks

pub up_to-within : (spans : List Span) (id : Identity) (to : ℕ) (place : Option ℕ) → IsKeyAt spans id to place → up_to place ≤ to
up_to-within spans id to None at = omega arith
up_to-within spans id to (Some p) at = omega (arith, at.0)

pub IsKeyAt-within : (spans : List Span) (id : Identity) (low high : ℕ) (place : Option ℕ) → low ≤ high → IsKeyAt spans id low place → IsKeyAt spans id high place
IsKeyAt-within spans id low high None le at = tt
IsKeyAt-within spans id low high (Some p) le at = (omega (arith, at.0), at.1)

-- a chain leads to the place before in it
pub LeadsTo-last : (spans : List Span) (id : Identity) (v to : ℕ) (place : Option ℕ) → IsLast (keys_of spans) (key_of id) to place → LeadsTo spans id v to place
LeadsTo-last spans id v to place last =
    record { at = last.at; after = skip id v spans (up_to place) to (up_to-within spans id to place last.at) last.others }

-- or ends where the rest is settled
pub LeadsTo-begun : (spans : List Span) (id : Identity) (v p : ℕ) (span : Span) → NoOverlap spans → AreWhole spans → slice_get spans p ≡ Some span → is_begun id v span ≡ true → LeadsTo spans id v p None
LeadsTo-begun spans id v p span apart whole at begun =
    let parts = and_parts (leb span.from v) (same_identity span.id id) begun in
    record { at = tt; after = sym (settled id v spans p span apart whole at parts.1 (leb-true span.from v parts.0)) }

pub step : (spans : List Span) (id : Identity) (v p : ℕ) (span : Span) (next found all : Option ℕ) → slice_get spans p ≡ Some span → LeadsTo spans id v p next →
    least (written_after id v (take (suc p) spans)) found ≡ all → least (written_after id v (take (up_to next) spans)) (least (change_after id v span) found) ≡ all
step spans id v p span next found all at leads so_far =
    let change = change_after id v span in
    ap (λ w. least w (least change found)) leads.after
    ∙ sym (least-assoc (written_after id v (take p spans)) change found)
    ∙ ap (λ w. least w found) (sym (written-one id v spans p span at))
    ∙ so_far

-- ---- the newest span of an identity

pub ids-at : (spans : List Span) (p : ℕ) (span : Span) → slice_get spans p ≡ Some span → slice_get (ids_of spans) p ≡ Some span.id
ids-at [] p span at = absurd (cc)
ids-at (x ∷ spans) zero span at = let e : x ≡ span = cc in ap (λ (s : Span). Some s.id) e
ids-at (x ∷ spans) (suc p) span at = ids-at spans p span at

-- its key is there too
ids-keyed : (spans : List Span) (q : ℕ) (id : Identity) → slice_get (ids_of spans) q ≡ Some id → slice_get (keys_of spans) q ≡ Some (key_of id)
ids-keyed [] q id at = absurd (cc)
ids-keyed (x ∷ spans) zero id at = let e : x.id ≡ id = cc in ap (λ i. Some (key_of i)) e
ids-keyed (x ∷ spans) (suc q) id at = ids-keyed spans q id at

pub HasNone-last : (spans : List Span) (id : Identity) (to : ℕ) (place : Option ℕ) → IsLast (keys_of spans) (key_of id) to place → HasNone spans id to place
HasNone-last spans id to place last = record { at = last.at; others = λ q above below at. last.others q above below (ids-keyed spans q id at) }

-- a walk goes on behind a span of another identity
pub HasNone-next : (spans : List Span) (id : Identity) (to p : ℕ) (span : Span) (next : Option ℕ) → slice_get spans p ≡ Some span → same_identity span.id id ≡ false → HasNone spans id to (Some p) → IsLast (keys_of spans) (key_of id) p next → HasNone spans id to next
HasNone-next spans id to p span next here other none last =
    record { at = IsKeyAt-within spans id p to next (omega (arith, none.at.0)) last.at; others = others }
  where
    not-here : slice_get (ids_of spans) p ≡ Some id → ⊥
    not-here at = (let e : span.id ≡ id = (let f = ids-at spans p span here in cc) in false≢true (sym other ∙ (ap (λ i. same_identity i id) e ∙ same-itself id)))

    others : (q : ℕ) → up_to next ≤ q → q < to → slice_get (ids_of spans) q ≡ Some id → ⊥
    others q above below at = elim (cases_lt q p) [
      | inl early ↦ last.others q above early (ids-keyed spans q id at)
      | inr late ↦ elim (cases_lt p q) [
        | inl behind ↦ none.others q (omega (arith, behind)) below at
        | inr up ↦ not-here (subst (λ n. slice_get (ids_of spans) n ≡ Some id) (omega (arith, late, up)) at)
      ]
    ]

-- or stops at one of the identity
pub IsLast-here : (spans : List Span) (id : Identity) (to p : ℕ) (span : Span) → slice_get spans p ≡ Some span → same_identity span.id id ≡ true → HasNone spans id to (Some p) → IsLast (ids_of spans) id to (Some p)
IsLast-here spans id to p span here same none =
    record { at = (none.at.0, ids-at spans p span here ∙ ap Some (same-exact span.id id same)); others = none.others }

pub IsLast-none : (spans : List Span) (id : Identity) (to : ℕ) → HasNone spans id to None → IsLast (ids_of spans) id to None
IsLast-none spans id to none = record { at = tt; others = none.others }
