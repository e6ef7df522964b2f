-- Ascending terms added to others in one pass.
use Rattle.std.proofs.Common.{◌≡◌, ◌≤◌, ◌<◌, ◌+◌, ℕ, zero, suc, refl, sym, ap, subst, ◌∙◌, arith, T, cond, Bool, true, false, [], ◌∷◌, ◌++◌, drop, length, slice_get, Option, Some, None}
use Rattle.std.specs.Prelude.{IsTrue}
use Rattle.std.specs.Ordering.{is_eq, is_lt, ordering_reverse}
use Rattle.std.specs.declared.cmp.Ordering.{Ordering}
use Rattle.std.specs.declared.cmp.Ordering.TheVariants.{Less, Equal, Greater}
use Rattle.std.specs.FinMap.{is_sorted}
use Rattle.std.specs.FinMap.Entries.{below_all, by_order}
use Rattle.std.proofs.lemmas.List.{append_assoc}
use Rattle.gp_base.specs.Tokens.{Monomial, greatest_count, monomial_cmp}
use Rattle.gp_base.specs.TokenOrder.{monomial_cmp_total, monomial_cmp-exact}
use Rattle.gp_semiring.specs.Sums.{plus_up_to}
use Rattle.gp_semiring.specs.Polynomials.{Terms}
use Rattle.gp_semiring.specs.Adding.{Joins, term_if, with_term, with_terms}
use Rattle.gp_semiring.specs.SumLaws.{below_less, both, first, is_sorted_of, less, second}

-- ---- the first term

-- a term before all that are added stays the first
stays : (e : Monomial × ℕ) (ts es : Terms) → T (below_all monomial_cmp e.0 ts) → with_terms ts (e ∷ es) ≡ e ∷ with_terms ts es
stays e [] es h = refl
stays e (t ∷ ts) es h =
    let before : monomial_cmp e.0 t.0 ≡ Less = less (monomial_cmp e.0 t.0) (first (is_lt (monomial_cmp e.0 t.0)) (below_all monomial_cmp e.0 ts) h) in
    let after : monomial_cmp t.0 e.0 ≡ Greater = monomial_cmp_total.antisymm t.0 e.0 ∙ ap ordering_reverse before in
    ap (λ r. with_terms ts (by_order r ((t.0, t.1) ∷ e ∷ es) ((e.0, plus_up_to greatest_count t.1 e.1) ∷ es) (e ∷ with_term t.0 t.1 es))) after
    ∙ stays e ts (with_term t.0 t.1 es) (second (is_lt (monomial_cmp e.0 t.0)) (below_all monomial_cmp e.0 ts) h)

-- a term before the others is the first
goes-first : (t e : Monomial × ℕ) (ts es : Terms) → T (below_all monomial_cmp t.0 ts) → monomial_cmp t.0 e.0 ≡ Less → with_terms (t ∷ ts) (e ∷ es) ≡ t ∷ with_terms ts (e ∷ es)
goes-first t e ts es h before =
    ap (λ r. with_terms ts (by_order r ((t.0, t.1) ∷ e ∷ es) ((e.0, plus_up_to greatest_count t.1 e.1) ∷ es) (e ∷ with_term t.0 t.1 es))) before
    ∙ stays t ts (e ∷ es) h

-- two terms of one monomial are one
join-first : (t e : Monomial × ℕ) (ts es : Terms) → T (below_all monomial_cmp t.0 ts) → monomial_cmp t.0 e.0 ≡ Equal → with_terms (t ∷ ts) (e ∷ es) ≡ (e.0, plus_up_to greatest_count t.1 e.1) ∷ with_terms ts es
join-first t e ts es h same =
    ap (λ r. with_terms ts (by_order r ((t.0, t.1) ∷ e ∷ es) ((e.0, plus_up_to greatest_count t.1 e.1) ∷ es) (e ∷ with_term t.0 t.1 es))) same
    ∙ stays (e.0, plus_up_to greatest_count t.1 e.1) ts es (subst (λ m. T (below_all monomial_cmp m ts)) (monomial_cmp-exact t.0 e.0 same) h)

-- ascending terms by themselves
with-none : (ts : Terms) → T (is_sorted monomial_cmp ts) → with_terms ts [] ≡ ts
with-none [] h = refl
with-none (t ∷ ts) h =
    stays t ts [] (first (below_all monomial_cmp t.0 ts) (is_sorted monomial_cmp ts) h)
    ∙ ap (λ rest. t ∷ rest) (with-none ts (second (below_all monomial_cmp t.0 ts) (is_sorted monomial_cmp ts) h))

-- ---- the terms from a place on

rest-sorted : (n : ℕ) (ts : Terms) → T (is_sorted monomial_cmp ts) → T (is_sorted monomial_cmp (drop n ts))
rest-sorted zero [] h = tt
rest-sorted (suc n) [] h = tt
rest-sorted zero (t ∷ ts) h = h
rest-sorted (suc n) (t ∷ ts) h = rest-sorted n ts (second (below_all monomial_cmp t.0 ts) (is_sorted monomial_cmp ts) h)

rest-is : (ts : Terms) (n : ℕ) (t : Monomial × ℕ) → slice_get ts n ≡ Some t → drop n ts ≡ t ∷ drop (suc n) ts
rest-is [] n t at = absurd (cc)
rest-is (u ∷ ts) zero t at = ap (λ v. v ∷ ts) (cc)
rest-is (u ∷ ts) (suc n) t at = rest-is ts n t at

pub got-within : (ts : Terms) (n : ℕ) (t : Monomial × ℕ) → slice_get ts n ≡ Some t → n < length ts
got-within [] n t at = absurd (cc)
got-within (u ∷ ts) zero t at = omega arith
got-within (u ∷ ts) (suc n) t at = let rest = got-within ts n t at in omega (arith, rest)

rest-below : (ts : Terms) (n : ℕ) (t : Monomial × ℕ) → T (is_sorted monomial_cmp ts) → slice_get ts n ≡ Some t → T (below_all monomial_cmp t.0 (drop (suc n) ts))
rest-below ts n t h at =
    first (below_all monomial_cmp t.0 (drop (suc n) ts)) (is_sorted monomial_cmp (drop (suc n) ts))
    (subst (λ rest. T (is_sorted monomial_cmp rest)) (rest-is ts n t at) (rest-sorted n ts h))

-- a term that is found is there, and passes the test
pub found-at : (test : Ordering → Bool) (o : Option (Monomial × ℕ)) (m : Monomial) (t : Monomial × ℕ) → term_if test o m ≡ Some t → (o ≡ Some t) × (test (monomial_cmp t.0 m) ≡ true)
found-at test None m t is = absurd (cc)
found-at test (Some u) m t is = by (test (monomial_cmp u.0 m)) refl is
  where
    by : (b : Bool) → test (monomial_cmp u.0 m) ≡ b → cond b (Some u) None ≡ Some t → (Some u ≡ Some t) × (test (monomial_cmp t.0 m) ≡ true)
    by true passes e = let same : u ≡ t = cc in (e, subst (λ (v : Monomial × ℕ). test (monomial_cmp v.0 m) ≡ true) same passes)
    by false passes e = absurd (cc)

not-found : (test : Ordering → Bool) (t : Monomial × ℕ) (m : Monomial) → term_if test (Some t) m ≡ None → test (monomial_cmp t.0 m) ≡ false
not-found test t m none = by (test (monomial_cmp t.0 m)) none
  where
    by : (b : Bool) → cond b (Some t) None ≡ None → b ≡ false
    by true e = absurd (cc)
    by false e = refl

less-of : (r : Ordering) → is_lt r ≡ true → r ≡ Less
less-of Less e = refl
less-of Equal e = absurd (cc)
less-of Greater e = absurd (cc)

equal-of : (r : Ordering) → is_eq r ≡ true → r ≡ Equal
equal-of Less e = absurd (cc)
equal-of Equal e = refl
equal-of Greater e = absurd (cc)

greater-of : (r : Ordering) → is_lt r ≡ false → is_eq r ≡ false → r ≡ Greater
greater-of Less e f = absurd (cc)
greater-of Equal e f = absurd (cc)
greater-of Greater e f = refl

-- where the term at a place neither stands before the monomial nor has it, all from there on stand behind
rest-above : (ts : Terms) (n : ℕ) (m : Monomial) → T (is_sorted monomial_cmp ts) → term_if is_lt (slice_get ts n) m ≡ None → term_if is_eq (slice_get ts n) m ≡ None → T (below_all monomial_cmp m (drop n ts))
rest-above [] zero m h behind other = tt
rest-above [] (suc n) m h behind other = tt
rest-above (t ∷ ts) zero m h behind other =
    let above : monomial_cmp t.0 m ≡ Greater = greater-of (monomial_cmp t.0 m) (not-found is_lt t m behind) (not-found is_eq t m other) in
    let before : monomial_cmp m t.0 ≡ Less = monomial_cmp_total.antisymm m t.0 ∙ ap ordering_reverse above in
    both (is_lt (monomial_cmp m t.0)) (below_all monomial_cmp m ts) (subst (λ r. T (is_lt r)) (sym before) tt)
    (below_less monomial_cmp (plus_up_to greatest_count) monomial_cmp_total m t.0 ts before (first (below_all monomial_cmp t.0 ts) (is_sorted monomial_cmp ts) h))
rest-above (t ∷ ts) (suc n) m h behind other = rest-above ts n m (second (below_all monomial_cmp t.0 ts) (is_sorted monomial_cmp ts) h) behind other

-- ---- one step

-- a term that stands before the monomial is done
pub pass-one : (ts : Terms) (n : ℕ) (t : Monomial × ℕ) (m : Monomial) → IsTrue (is_sorted monomial_cmp ts) → term_if is_lt (slice_get ts n) m ≡ Some t → (old new all : Terms) → new ≡ old ++ t ∷ []
    → (c : ℕ) (es : Terms) → old ++ with_terms (drop n ts) ((m, c) ∷ es) ≡ all → new ++ with_terms (drop (n + 1) ts) ((m, c) ∷ es) ≡ all
pass-one ts n t m h found old new all is_new c es so_far =
    let here = found-at is_lt (slice_get ts n) m t found in
    let next : n + 1 ≡ suc n = omega arith in
    ap (λ (done : Terms). done ++ with_terms (drop (n + 1) ts) ((m, c) ∷ es)) is_new
    ∙ append_assoc old (t ∷ []) (with_terms (drop (n + 1) ts) ((m, c) ∷ es))
    ∙ ap (λ k. old ++ t ∷ with_terms (drop k ts) ((m, c) ∷ es)) next
    ∙ ap (λ (rest : Terms). old ++ rest)
    (sym (goes-first t (m, c) (drop (suc n) ts) es (rest-below ts n t (is_sorted_of _ h) here.0) (less-of (monomial_cmp t.0 m) here.1))
    ∙ ap (λ (rest : Terms). with_terms rest ((m, c) ∷ es)) (sym (rest-is ts n t here.0)))
    ∙ so_far

-- a term is joined with the one of its monomial
pub join-one : (ts : Terms) (n : ℕ) (t own : Monomial × ℕ) → IsTrue (is_sorted monomial_cmp ts) → term_if is_eq (slice_get ts n) own.0 ≡ Some t → (old new : Terms) → new ≡ old ++ (own.0, plus_up_to greatest_count t.1 own.1) ∷ []
    → Joins old new ts n own (n + 1)
join-one ts n t own h found old new is_new =
    let here = found-at is_eq (slice_get ts n) own.0 t found in
    let low = got-within ts n t here.0 in
    let next : n + 1 ≡ suc n = omega arith in
    record {
      within = omega (arith, low);
      same = λ es.
          ap (λ (done : Terms). done ++ with_terms (drop (n + 1) ts) es) is_new
          ∙ append_assoc old ((own.0, plus_up_to greatest_count t.1 own.1) ∷ []) (with_terms (drop (n + 1) ts) es)
          ∙ ap (λ k. old ++ (own.0, plus_up_to greatest_count t.1 own.1) ∷ with_terms (drop k ts) es) next
          ∙ ap (λ (rest : Terms). old ++ rest)
          (sym (join-first t own (drop (suc n) ts) es (rest-below ts n t (is_sorted_of _ h) here.0) (equal-of (monomial_cmp t.0 own.0) here.1))
          ∙ ap (λ (rest : Terms). with_terms rest (own ∷ es)) (sym (rest-is ts n t here.0)));
    }

-- or stands alone
pub stand-one : (ts : Terms) (n : ℕ) (own : Monomial × ℕ) → IsTrue (is_sorted monomial_cmp ts) → n ≤ length ts → term_if is_lt (slice_get ts n) own.0 ≡ None → term_if is_eq (slice_get ts n) own.0 ≡ None
    → (old new : Terms) → new ≡ old ++ own ∷ [] → Joins old new ts n own n
stand-one ts n own h within behind other old new is_new = record {
  within = within;
  same = λ es.
      ap (λ (done : Terms). done ++ with_terms (drop n ts) es) is_new
      ∙ append_assoc old (own ∷ []) (with_terms (drop n ts) es)
      ∙ ap (λ (rest : Terms). old ++ rest) (sym (stays own (drop n ts) es (rest-above ts n own.0 (is_sorted_of _ h) behind other)));
}

-- the terms that remain are copied
pub merge-end : (ts : Terms) (n : ℕ) → IsTrue (is_sorted monomial_cmp ts) → with_terms (drop n ts) [] ≡ drop n ts
merge-end ts n h = with-none (drop n ts) (rest-sorted n ts (is_sorted_of _ h))
