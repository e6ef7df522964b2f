-- The ends that a commit makes, write by write: among spans that never overlap, only the newest one of an identity is open.
use Rattle.std.proofs.Common.{◌≡◌, ◌≢◌, ℕ, zero, suc, ◌+◌, ◌<◌, ◌≤◌, Bool, true, false, cond, ◌&&◌, ◌||◌, List, [], ◌∷◌, ◌++◌, drop, length, map, take, slice_get, Option, Some, None, IsSomeAnd, refl, ap, sym, ◌∙◌, subst, arith, inl, inr}
use borrow.Rule.Slice.PartMut.{post_of, put_mid}
use Rattle.std.specs.Prelude.{slice_set}
use Rattle.std.specs.List.{AllByRecursion}
use Rattle.std.proofs.lemmas.Bool.{cases_lt, false_from_ne_true}
use Rattle.std.proofs.lemmas.List.Folds.{list_any-append}
use Rattle.std.proofs.lemmas.List.{append-nil, drop-drop, drop_all}
use Rattle.gp_base.specs.Identities.{same_identity}
use Rattle.gp_versions.specs.declared.span.Span.{Span}
use Rattle.gp_versions.specs.declared.span.Write.{Write}
use Rattle.gp_versions.specs.Chains.{IsLast, closed, ended_first, ids_of, keys_of}
use Rattle.gp_versions.specs.Commits.{ended, is_open, is_written}
use Rattle.gp_versions.specs.Keys.{key_of}
use Rattle.gp_versions.specs.TableSpans.{IsApart, NoOverlap}
use Rattle.gp_versions.proofs.ChainLemmas.{all-at, ids-at}
use Rattle.gp_versions.proofs.SameLemmas.{same-exact, same-itself, same-sym}
use Rattle.gp_versions.proofs.SpanLemmas.{apart-ended, end-stays, ended_id, ended_to}

-- ---- one span

ended-none : (version : ℕ) (span : Span) → ended version [] span ≡ span
ended-none version span = elim (is_open span.to) as (λ b. cond (b && false) (record span { to = Some version }) span ≡ span) [ true ↦ refl | false ↦ refl ]

both-ends : (version : ℕ) (span : Span) (write : Write) (o a : Bool) → is_open span.to ≡ o
    → cond (o && (a || (same_identity write.id span.id || false))) (record span { to = Some version }) span ≡ ended version (write ∷ []) (cond (o && a) (record span { to = Some version }) span)
both-ends version span write true true is = refl
both-ends version span write true false is = sym (ap (λ o. cond (o && (same_identity write.id span.id || false)) (record span { to = Some version }) span) is)
both-ends version span write false a is = sym (ap (λ o. cond (o && (same_identity write.id span.id || false)) (record span { to = Some version }) span) is)

-- one write more
ended-more : (version : ℕ) (writes : List Write) (write : Write) (span : Span) → ended version (writes ++ write ∷ []) span ≡ ended version (write ∷ []) (ended version writes span)
ended-more version writes write span =
    ap (λ w. cond (is_open span.to && w) (record span { to = Some version }) span) (list_any-append (λ (w : Write). same_identity w.id span.id) writes (write ∷ []))
    ∙ both-ends version span write (is_open span.to) (is_written writes span.id) refl

ended-other : (version : ℕ) (write : Write) (span : Span) → same_identity write.id span.id ≡ false → ended version (write ∷ []) span ≡ span
ended-other version write span other =
    ap (λ b. cond (is_open span.to && (b || false)) (record span { to = Some version }) span) other
    ∙ (elim (is_open span.to) as (λ o. cond (o && false) (record span { to = Some version }) span ≡ span) [ true ↦ refl | false ↦ refl ])

ended-closed : (version : ℕ) (writes : List Write) (span : Span) → is_open span.to ≡ false → ended version writes span ≡ span
ended-closed version writes span is = ap (λ o. cond (o && is_written writes span.id) (record span { to = Some version }) span) is

ended-written : (version : ℕ) (write : Write) (span : Span) → same_identity write.id span.id ≡ true → ended version (write ∷ []) span ≡ closed version span
ended-written version write span same =
    ap (λ b. cond (is_open span.to && (b || false)) (record span { to = Some version }) span) same
    ∙ (elim (is_open span.to) as (λ o. cond (o && true) (record span { to = Some version }) span ≡ cond o (record span { to = Some version }) span) [ true ↦ refl | false ↦ refl ])

-- ---- the first spans

pub ended_first-none : (to version : ℕ) (spans : List Span) → ended_first to version [] spans ≡ spans
ended_first-none zero version spans = refl
ended_first-none (suc to) version [] = refl
ended_first-none (suc to) version (span ∷ spans) =
    ap (λ s. s ∷ ended_first to version [] spans) (ended-none version span) ∙ ap (λ ss. span ∷ ss) (ended_first-none to version spans)

pub ended_first-more : (to version : ℕ) (writes : List Write) (write : Write) (spans : List Span) → ended_first to version (writes ++ write ∷ []) spans ≡ ended_first to version (write ∷ []) (ended_first to version writes spans)
ended_first-more zero version writes write spans = refl
ended_first-more (suc to) version writes write [] = refl
ended_first-more (suc to) version writes write (span ∷ spans) =
    ap (λ s. s ∷ ended_first to version (writes ++ write ∷ []) spans) (ended-more version writes write span)
    ∙ ap (λ ss. ended version (write ∷ []) (ended version writes span) ∷ ss) (ended_first-more to version writes write spans)

pub ended_first-keys : (to version : ℕ) (writes : List Write) (spans : List Span) → keys_of (ended_first to version writes spans) ≡ keys_of spans
ended_first-keys zero version writes spans = refl
ended_first-keys (suc to) version writes [] = refl
ended_first-keys (suc to) version writes (span ∷ spans) =
    ap (λ id. key_of id ∷ keys_of (ended_first to version writes spans)) (ended_id version writes span) ∙ ap (λ keys. key_of span.id ∷ keys) (ended_first-keys to version writes spans)

apart-left : (version : ℕ) (writes : List Write) (first later : Span) → IsApart first later → IsApart (ended version writes first) later
apart-left version writes first later apart =
    rw (ended_id version writes first, ended_to version writes first)
    (λ same. end-stays version (is_written writes first.id) first.to (λ to. to ≤ later.from) (apart same))

all-left : (version : ℕ) (writes : List Write) (first : Span) (spans : List Span) → AllByRecursion (IsApart first) spans → AllByRecursion (IsApart (ended version writes first)) spans
all-left version writes first [] all = tt
all-left version writes first (span ∷ spans) all = (apart-left version writes first span all.0, all-left version writes first spans all.1)

all-first : (to version : ℕ) (writes : List Write) (first : Span) (spans : List Span) → AllByRecursion (IsApart first) spans → AllByRecursion (IsApart (ended version writes first)) (ended_first to version writes spans)
all-first zero version writes first spans all = all-left version writes first spans all
all-first (suc to) version writes first [] all = tt
all-first (suc to) version writes first (span ∷ spans) all = (apart-ended version writes first span all.0, all-first to version writes first spans all.1)

pub ended_first-apart : (to version : ℕ) (writes : List Write) (spans : List Span) → NoOverlap spans → NoOverlap (ended_first to version writes spans)
ended_first-apart zero version writes spans apart = apart
ended_first-apart (suc to) version writes [] apart = tt
ended_first-apart (suc to) version writes (span ∷ spans) apart = (all-first to version writes span spans apart.0, ended_first-apart to version writes spans apart.1)

-- the first spans, and then the others in one pass
pub ended_first-rest : (to version : ℕ) (writes : List Write) (spans : List Span) → take to (ended_first to version writes spans) ++ map (ended version writes) (drop to (ended_first to version writes spans)) ≡ map (ended version writes) spans
ended_first-rest zero version writes spans = refl
ended_first-rest (suc to) version writes [] = refl
ended_first-rest (suc to) version writes (span ∷ spans) = ap (λ ss. ended version writes span ∷ ss) (ended_first-rest to version writes spans)

-- where the others are written in place
pub put-rest : (f : Span → Span) (to k : ℕ) (spans rest : List Span) → length spans ≤ to + k → rest ≡ map f (drop to spans) → put_mid to k spans rest ≡ take to spans ++ map f (drop to spans)
put-rest f to k spans rest long is =
    ap (λ list. take to spans ++ (list ++ post_of to k spans)) is
    ∙ ap (λ list. take to spans ++ (map f (drop to spans) ++ list)) (drop-drop k to spans ∙ drop_all (to + k) spans long)
    ∙ ap (λ list. take to spans ++ list) (append-nil (map f (drop to spans)))

ended_first-fixed : (to version : ℕ) (writes : List Write) (spans : List Span) → ((q : ℕ) (span : Span) → q < to → slice_get spans q ≡ Some span → ended version writes span ≡ span)
    → ended_first to version writes spans ≡ spans
ended_first-fixed zero version writes spans fixed = refl
ended_first-fixed (suc to) version writes [] fixed = refl
ended_first-fixed (suc to) version writes (span ∷ spans) fixed =
    ap (λ s. s ∷ ended_first to version writes spans) (fixed zero span (omega arith) refl)
    ∙ ap (λ ss. span ∷ ss) (ended_first-fixed to version writes spans (λ q s below at. fixed (suc q) s (omega arith) at))

ended_first-set : (to version : ℕ) (writes : List Write) (spans : List Span) (p : ℕ) (here : Span) → p < to → slice_get spans p ≡ Some here
    → ((q : ℕ) (span : Span) → q < to → q ≢ p → slice_get spans q ≡ Some span → ended version writes span ≡ span)
    → ended_first to version writes spans ≡ slice_set spans p (ended version writes here)
ended_first-set zero version writes spans p here below at fixed = absurd (omega arith)
ended_first-set (suc to) version writes [] p here below at fixed = absurd (cc)
ended_first-set (suc to) version writes (span ∷ spans) zero here below at fixed =
    let e : span ≡ here = cc in
    ap (λ s. ended version writes s ∷ ended_first to version writes spans) e
    ∙ ap (λ ss. ended version writes here ∷ ss) (ended_first-fixed to version writes spans (λ q s low is. fixed (suc q) s (omega arith) (λ same. omega (arith, same)) is))
ended_first-set (suc to) version writes (span ∷ spans) (suc p) here below at fixed =
    ap (λ s. s ∷ ended_first to version writes spans) (fixed zero span (omega arith) (λ same. omega (arith, same)) refl)
    ∙ ap (λ ss. span ∷ ss) (ended_first-set to version writes spans p here (omega arith) at (λ q s low other is. fixed (suc q) s (omega arith) (λ same. other (omega (arith, same))) is))

-- ---- the newest span of an identity

apart-at : (spans : List Span) (q p : ℕ) (first later : Span) → NoOverlap spans → q < p → slice_get spans q ≡ Some first → slice_get spans p ≡ Some later → IsApart first later
apart-at [] q p first later apart before at there = absurd (cc)
apart-at (span ∷ spans) zero zero first later apart before at there = absurd (omega arith)
apart-at (span ∷ spans) (suc q) zero first later apart before at there = absurd (omega arith)
apart-at (span ∷ spans) zero (suc p) first later apart before at there =
    let e : span ≡ first = cc in subst (λ s. IsApart s later) e (all-at (IsApart span) spans p later apart.0 there)
apart-at (span ∷ spans) (suc q) (suc p) first later apart before at there = apart-at spans q p first later apart.1 (omega arith) at there

closed-some : (to : Option ℕ) (P : ℕ → Type 0) → IsSomeAnd to P → is_open to ≡ false
closed-some None P some = absurd some
closed-some (Some to) P some = refl

-- nothing ends where there is none
pub end-none : (to version : ℕ) (write : Write) (spans : List Span) → IsLast (ids_of spans) write.id to None → spans ≡ ended_first to version (write ∷ []) spans
end-none to version write spans last =
    sym (ended_first-fixed to version (write ∷ []) spans (λ q span below at. ended-other version write span (false_from_ne_true (same_identity write.id span.id)
    (λ same. last.others q (omega arith) below (ids-at spans q span at ∙ ap Some (sym (same-exact write.id span.id same)))))))

-- else only the newest one ends, if it is open
pub end-at : (to version : ℕ) (write : Write) (spans : List Span) (p : ℕ) (newest : Span) → NoOverlap spans → IsLast (ids_of spans) write.id to (Some p) → slice_get spans p ≡ Some newest
    → slice_set spans p (closed version newest) ≡ ended_first to version (write ∷ []) spans
end-at to version write spans p newest apart last here =
    sym (ended_first-set to version (write ∷ []) spans p newest last.at.0 here fixed ∙ ap (slice_set spans p) (ended-written version write newest same))
  where
    is : newest.id ≡ write.id
    is = (let e = ids-at spans p newest here in let f = last.at.1 in cc)

    same : same_identity write.id newest.id ≡ true
    same = subst (λ id. same_identity write.id id ≡ true) (sym is) (same-itself write.id)

    early : (q : ℕ) (span : Span) → q < to → q ≢ p → slice_get spans q ≡ Some span → same_identity write.id span.id ≡ true → q < p
    early q span below other at own = elim (cases_lt q p) [
      | inl before ↦ before
      | inr late ↦ elim (cases_lt p q) [
        | inl behind ↦ absurd (last.others q (omega (arith, behind)) below (ids-at spans q span at ∙ ap Some (sym (same-exact write.id span.id own))))
        | inr up ↦ absurd (other (omega (arith, late, up)))
      ]
    ]

    fixed : (q : ℕ) (span : Span) → q < to → q ≢ p → slice_get spans q ≡ Some span → ended version (write ∷ []) span ≡ span
    fixed q span below other at =
        elim (same_identity write.id span.id) as (λ b. same_identity write.id span.id ≡ b → ended version (write ∷ []) span ≡ span) [
          | true ↦ λ own. ended-closed version (write ∷ []) span (closed-some span.to (λ to. to ≤ newest.from)
              (apart-at spans q p span newest apart (early q span below other at own) at here (subst (λ id. same_identity span.id id ≡ true) (sym is) (same-sym write.id span.id own))))
          | false ↦ λ different. ended-other version write span different
        ] refl
