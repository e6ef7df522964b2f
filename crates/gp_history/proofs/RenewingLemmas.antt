-- Annotations that are renewed by the places of the spans that begin with a version, and the finders of these.
use Rattle.std.proofs.Common.{◌≡◌, ◌+◌, inl, inr, ℕ, zero, suc, ◌<◌, ◌≤◌, ◌==◌, ◌⊎◌, Bool, true, false, cond, List, [], ◌∷◌, ◌++◌, length, get_or, set, refl, sym, ap, ◌∙◌, subst, arith, Option, Some, None, Contains, unwrap_or, slice_get}
use Rattle.std.specs.Prelude.{slice_index_or, slice_set}
use Rattle.std.specs.BTreeMap.{BTreeMap, get}
use Rattle.std.proofs.lemmas.Bool.{cases_lt, eqb-true, false≢true}
use Rattle.std.proofs.lemmas.List.{get_or-set_other, get_or-set_same, length-append, length-set}
use Rattle.gp_base.specs.Identities.{Identity, identity_cmp}
use Rattle.gp_versions.specs.declared.finder.Finder.{Finder}
use Rattle.gp_versions.specs.declared.span.Span.{Span}
use Rattle.gp_versions.specs.Finding.{HasThose, IsFinder}
use Rattle.gp_history.specs.Changes.{renewed, renewed_span}
use Rattle.gp_history.specs.Seeking.{AreFinders}
use Rattle.gp_history.proofs.CommitLemmas.{pushed}
use Rattle.gp_history.proofs.SeekingLemmas.{read}

-- what a list has at a place
pub got : {X : Type 0} (xs : List X) (at : ℕ) (x : X) → at < length xs → x ≡ slice_index_or xs at x → slice_get xs at ≡ Some x
got [] at x l is = absurd (omega (arith, l))
got (y ∷ xs) zero x l is = ap (λ o. Some o) (sym is)
got (y ∷ xs) (suc at) x l is = got xs at x (omega (arith, l)) is

-- ---- one annotation

module _ {M : Type 0} (one : M) (version : ℕ) (found : BTreeMap Identity M) where
  -- the annotation that the span is due
  abbrev due : Span → M
  due span = unwrap_or (get identity_cmp found span.id) one

  -- renewing all is the same after one is renewed
  pub renewed_once : (spans : List Span) (annotations : List M) (at : ℕ) (span : Span) → slice_get spans at ≡ Some span → renewed one version found spans (renewed_span one version found span at annotations) ≡ renewed one version found spans annotations
  renewed_once [] annotations at span is = absurd (cc)
  renewed_once (s ∷ spans) [] at span is = by (span.from == version) at
    where
      by : (b : Bool) (at : ℕ) → renewed one version found (s ∷ spans) (cond b (set [] at (due span)) []) ≡ []
      by true zero = refl
      by true (suc at) = refl
      by false at = refl
  renewed_once (s ∷ spans) (a ∷ annotations) zero span is =
      let same : s ≡ span = cc in
      subst (λ (own : Span). renewed one version found (s ∷ spans) (renewed_span one version found own zero (a ∷ annotations)) ≡ renewed one version found (s ∷ spans) (a ∷ annotations)) same (by (s.from == version) refl)
    where
      by : (b : Bool) → (s.from == version) ≡ b → renewed one version found (s ∷ spans) (cond b (due s ∷ annotations) (a ∷ annotations)) ≡ renewed one version found (s ∷ spans) (a ∷ annotations)
      by true is = ap (λ c. cond c (due s) (due s) ∷ renewed one version found spans annotations) is ∙ sym (ap (λ c. cond c (due s) a ∷ renewed one version found spans annotations) is)
      by false is = refl
  renewed_once (s ∷ spans) (a ∷ annotations) (suc at) span is = by (span.from == version) (renewed_once spans annotations at span is)
    where
      by : (b : Bool) → renewed one version found spans (cond b (set annotations at (due span)) annotations) ≡ renewed one version found spans annotations
          → renewed one version found (s ∷ spans) (cond b (set (a ∷ annotations) (suc at) (due span)) (a ∷ annotations)) ≡ renewed one version found (s ∷ spans) (a ∷ annotations)
      by true rest = ap (λ (others : List M). cond (s.from == version) (due s) a ∷ others) rest
      by false rest = refl

  -- the annotation at a place is the one that the span there is due, if the span begins with the version
  abbrev pub IsDone : List Span → List M → ℕ → Type 0
  IsDone spans annotations q = (span : Span) → slice_get spans q ≡ Some span → (span.from == version) ≡ true → (d : M) → q < length annotations → get_or annotations q d ≡ due span

  pub done_next : (spans : List Span) (annotations : List M) (at : ℕ) (span : Span) → slice_get spans at ≡ Some span → (q : ℕ) → (q ≡ at) ⊎ IsDone spans annotations q → IsDone spans (renewed_span one version found span at annotations) q
  done_next spans annotations at span is q before own there begins d within = by (span.from == version) refl before within
    where
      here : (b : Bool) → (span.from == version) ≡ b → q ≡ at → q < length (cond b (set annotations at (due span)) annotations) → get_or (cond b (set annotations at (due span)) annotations) q d ≡ due own
      here b begun same within = of b begun within
        where
          -- the span is the same
          alike : span ≡ own
          alike = cc

          of : (b : Bool) → (span.from == version) ≡ b → q < length (cond b (set annotations at (due span)) annotations) → get_or (cond b (set annotations at (due span)) annotations) q d ≡ due own
          of true begun within =
              let low : at < length annotations = omega (arith, within, same, length-set annotations at (due span)) in
              ap (λ k. get_or (set annotations at (due span)) k d) same ∙ get_or-set_same annotations at (due span) d low ∙ ap due alike
          of false begun within = absurd (false≢true (sym begun ∙ ap (λ (s : Span). s.from == version) alike ∙ begins))

      other : (b : Bool) → (q ≡ at → ⊥) → IsDone spans annotations q → q < length (cond b (set annotations at (due span)) annotations) → get_or (cond b (set annotations at (due span)) annotations) q d ≡ due own
      other true apart done within =
          get_or-set_other annotations at q (due span) d apart ∙ done own there begins d (omega (arith, within, length-set annotations at (due span)))
      other false apart done within = done own there begins d within

      by : (b : Bool) → (span.from == version) ≡ b → (q ≡ at) ⊎ IsDone spans annotations q → q < length (cond b (set annotations at (due span)) annotations) → get_or (cond b (set annotations at (due span)) annotations) q d ≡ due own
      by b begun (inl same) within = here b begun same within
      by b begun (inr done) within = split (cases_lt q at) (cases_lt at q)
        where
          split : (q < at) ⊎ (at ≤ q) → (at < q) ⊎ (q ≤ at) → get_or (cond b (set annotations at (due span)) annotations) q d ≡ due own
          split (inl below) late = other b (λ e. omega (arith, below, e)) done within
          split (inr above) (inl over) = other b (λ e. omega (arith, over, e)) done within
          split (inr above) (inr low) = here b begun (omega (arith, above, low)) within

  -- where all are done, renewing changes nothing
  pub all_done : (spans : List Span) (annotations : List M) → ((q : ℕ) → IsDone spans annotations q) → renewed one version found spans annotations ≡ annotations
  all_done [] annotations done = refl
  all_done (s ∷ spans) [] done = refl
  all_done (s ∷ spans) (a ∷ annotations) done =
      let rest = all_done spans annotations (λ q span there begins d within. done (suc q) span there begins d (omega (arith, within))) in
      λ i. by (s.from == version) refl i ∷ rest i
    where
      by : (b : Bool) → (s.from == version) ≡ b → cond b (due s) a ≡ a
      by true begins = sym (done zero s refl begins a (omega arith))
      by false begins = refl

  -- ---- places

  -- the annotations at the first places are done, and the others are as they were
  pub record Renews (spans : List Span) (initial annotations : List M) (places : List ℕ) (index : ℕ) : Type 0 where
    pub same : renewed one version found spans annotations ≡ renewed one version found spans initial
    pub done : (k : ℕ) (d : ℕ) → k < index → k < length places → IsDone spans annotations (slice_index_or places k d)

  pub renews_first : (spans : List Span) (initial : List M) (places : List ℕ) → Renews spans initial initial places 0
  renews_first spans initial places = record { same = refl; done = λ k d below. absurd (omega (arith, below)) }

  none-past : (spans : List Span) (at : ℕ) (span : Span) → length spans ≤ at → slice_get spans at ≡ Some span → ⊥
  none-past [] at span past is = absurd (cc)
  none-past (s ∷ spans) zero span past is = omega (arith, past)
  none-past (s ∷ spans) (suc at) span past is = none-past spans at span (omega (arith, past)) is

  pub renews_next : (spans : List Span) (initial annotations new : List M) (places : List ℕ) (index at : ℕ) (span : Span) → index < length places → at ≡ slice_index_or places index at → at < length spans → span ≡ slice_index_or spans at span
      → new ≡ renewed_span one version found span at annotations → Renews spans initial annotations places index → Renews spans initial new places (index + 1)
  renews_next spans initial annotations new places index at span within is below of_span is_new renews = record {
    same = ap (renewed one version found spans) is_new ∙ renewed_once spans annotations at span here ∙ renews.same;
    done = λ k d earlier there. subst (λ (some : List M). IsDone spans some (slice_index_or places k d)) (sym is_new) (by k d there (cases_lt k index) earlier);
  }
    where
      here : slice_get spans at ≡ Some span
      here = got spans at span below of_span

      by : (k d : ℕ) → k < length places → (k < index) ⊎ (index ≤ k) → k < index + 1 → IsDone spans (renewed_span one version found span at annotations) (slice_index_or places k d)
      by k d there (inl before) earlier = done_next spans annotations at span here (slice_index_or places k d) (inr (renews.done k d before there))
      by k d there (inr later) earlier =
          let e : index ≡ k = omega (arith, earlier, later) in
          done_next spans annotations at span here (slice_index_or places k d) (inl (sym (is ∙ read places index at d within ∙ ap (λ j. slice_index_or places j d) e)))

  -- a place without a span
  pub renews_past : (spans : List Span) (initial annotations : List M) (places : List ℕ) (index at : ℕ) → index < length places → at ≡ slice_index_or places index at → length spans ≤ at → Renews spans initial annotations places index
      → Renews spans initial annotations places (index + 1)
  renews_past spans initial annotations places index at within is past renews = record {
    same = renews.same;
    done = λ k d earlier there. by k d there (cases_lt k index) earlier;
  }
    where
      by : (k d : ℕ) → k < length places → (k < index) ⊎ (index ≤ k) → k < index + 1 → IsDone spans annotations (slice_index_or places k d)
      by k d there (inl before) earlier = renews.done k d before there
      by k d there (inr later) earlier =
          let e : index ≡ k = omega (arith, earlier, later) in
          let here : at ≡ slice_index_or places k d = is ∙ read places index at d within ∙ ap (λ j. slice_index_or places j d) e in
          λ span got begins other low. absurd (none-past spans (slice_index_or places k d) span (subst (λ n. length spans ≤ n) here past) got)

  pub renews_all : (spans : List Span) (initial annotations : List M) (places : List ℕ) (index : ℕ) → HasThose (λ span. span.from ≡ version) spans places → length places ≤ index → Renews spans initial annotations places index
      → annotations ≡ renewed one version found spans initial
  renews_all spans initial annotations places index has all renews = sym (all_done spans annotations done) ∙ renews.same
    where
      done : (q : ℕ) → IsDone spans annotations q
      done q span there begins d within = by (has q span there (eqb-true span.from version begins))
        where
          by : Contains places q → get_or annotations q d ≡ due span
          by (k, low, here) = subst (λ n. IsDone spans annotations n) here (renews.done k q (omega (arith, low, all)) low) span there begins d within

-- ---- finders

pub no_finders : (spans : ℕ → List Span) (finders : List Finder) → finders ≡ [] → AreFinders spans finders
no_finders spans finders none table finder is = absurd (some (ap (λ (list : List Finder). slice_get list table) (sym none) ∙ is))
  where
    some : slice_get [] table ≡ Some finder → ⊥
    some e = cc

-- those of the first tables
pub record AreFirst (spans : ℕ → List Span) (count : ℕ) (finders : List Finder) : Type 0 where
  pub many : length finders ≡ count
  pub each : AreFinders spans finders

pub first_none : (spans : ℕ → List Span) (finders : List Finder) → finders ≡ [] → AreFirst spans 0 finders
first_none spans finders none = record { many = ap length none; each = no_finders spans finders none }

pub first_more : (spans : ℕ → List Span) (count : ℕ) (finders : List Finder) (finder : Finder) → IsFinder (spans count) finder → AreFirst spans count finders → AreFirst spans (count + 1) (finders ++ finder ∷ [])
first_more spans count finders finder own first = record {
  many = omega (arith, length-append finders (finder ∷ []), first.many);
  each = λ table other is. by table other (pushed finders finder table count other first.many is);
}
  where
    by : (table : ℕ) (other : Finder) → (slice_get finders table ≡ Some other) ⊎ ((table ≡ count) × (finder ≡ other)) → IsFinder (spans table) other
    by table other (inl earlier) = first.each table other earlier
    by table other (inr last) = subst (λ n. IsFinder (spans n) other) (sym last.0) (subst (IsFinder (spans count)) last.1 own)

-- one of them is another
pub finders_set : (spans : ℕ → List Span) (finders : List Finder) (at : ℕ) (finder : Finder) → IsFinder (spans at) finder → AreFinders spans finders → AreFinders spans (slice_set finders at finder)
finders_set spans [] at finder own are table other is = absurd (cc)
finders_set spans (one ∷ finders) zero finder own are zero other is = subst (IsFinder (spans zero)) (cc) own
finders_set spans (one ∷ finders) zero finder own are (suc table) other is = are (suc table) other is
finders_set spans (one ∷ finders) (suc at) finder own are zero other is = are zero other is
finders_set spans (one ∷ finders) (suc at) finder own are (suc table) other is =
    finders_set (λ n. spans (suc n)) finders at finder own (λ n f e. are (suc n) f e) table other is
