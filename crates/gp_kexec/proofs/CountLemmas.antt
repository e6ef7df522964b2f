-- What is counted is listed again, in order.
use Rattle.gp_kexec.proofs.Prelude.{◌≡◌, ◌≤◌, ◌<◌, ◌+◌, ℕ, zero, suc, refl, sym, ap, subst, ◌∙◌, arith, T, cond, Bool, true, false, List, [], ◌∷◌, ◌++◌, length, map, min, replicate, not, Some, list_any, is_lt, IsTotalOrder, Ordering, Less, Equal, Greater, is_sorted, below_all, by_order, Token, Cell, Database, Environment, monomials, Monomial, greatest_count, Program, Derived, program_meaning, Element, answer, IsHomomorphism, Select, raised, added, summed, Each, first, second, less, below_less, monomial_value}
use Rattle.std.proofs.Common.{◌*◌, ◌||◌}
use Rattle.std.specs.List.{filter}
use Rattle.std.specs.Ordering.{is_le}
use Rattle.std.proofs.lemmas.Cmp.{tied_itself}
use Rattle.gp_base.specs.Order.{insert_sorted, sorted_by}
use Rattle.gp_algebra.specs.Answers.{cells_of, pairs_of as element_pairs}
use Rattle.gp_semiring.specs.Elements.{no_token, number_up_to}
use Rattle.gp_semiring.specs.Numbers.{Same}
use Rattle.gp_semiring.specs.Sums.{plus_up_to, times_up_to}
use Rattle.gp_semiring.specs.SumLaws.{both, is_sorted-summed, value, value_summed}
use Rattle.gp_semiring.specs.declared.rules.Rule.{Rule}
use Rattle.gp_semiring.specs.Rules.{fits_rule, number_by}
use Rattle.gp_semiring.specs.Values.{token_value, value_by}
use Rattle.gp_kexec.specs.Valuing.{values_as_annotations}
use Rattle.gp_kexec.specs.SemiringForms.{derived_reannotated, environment_reannotated}
use Rattle.gp_kexec.specs.Rows.{pairs_of}
use Rattle.gp_kexec.proofs.CarryLemmas.{program_carried}
use Rattle.gp_kexec.specs.CountForms.{HasCounts}
use Rattle.gp_kexec.specs.Counting.{counted_by, counted_pairs, kept}
use Rattle.gp_kexec.specs.Deletion.{has_token, reduced}
use Rattle.gp_kexec.specs.Remaining.{number_of, repeated}
use Rattle.gp_kexec.proofs.DeletionLemmas.{answer_reduced, found_in_product, monomials_find}
use Rattle.gp_base.proofs.SmallLemmas.{or_nothing}

-- ---- counting is a homomorphism

count_product : (a b : Bool) → cond (a || b) 0 1 ≡ min (cond a 0 1 * cond b 0 1) greatest_count
count_product true true = refl
count_product true false = refl
count_product false true = refl
count_product false false = refl

pub counting_carries : (matches : Token → Bool) → IsHomomorphism monomials (values_as_annotations 1 (times_up_to greatest_count) (counted_by matches)) (counted_by (has_token matches))
counting_carries matches = record {
  one = refl;
  times = λ a b. ap (λ c. cond c 0 1) (found_in_product matches a b) ∙ count_product (has_token matches a) (has_token matches b);
  token = λ token. ap (λ c. cond c 0 1) (or_nothing (matches token));
}

-- ---- rows listed again

module _ {X : Type 0} (R : X → X → Ordering) (o : IsTotalOrder R) (same : (x y : X) → R x y ≡ Equal → x ≡ y) (most : ℕ) where
  -- before rows that are all above it
  before_all : (x : X) (es : List (X × ℕ)) → T (below_all R x es) → insert_sorted R x (repeated es) ≡ x ∷ repeated es
  before_all x [] h = refl
  before_all x (e ∷ es) h = front e.1 (before_all x es (second _ _ h))
    where
      front : (n : ℕ) → insert_sorted R x (repeated es) ≡ x ∷ repeated es → insert_sorted R x (replicate n e.0 ++ repeated es) ≡ x ∷ (replicate n e.0 ++ repeated es)
      front zero rest = rest
      front (suc n) rest = ap (λ r. cond (is_le r) (x ∷ e.0 ∷ (replicate n e.0 ++ repeated es)) (e.0 ∷ insert_sorted R x (replicate n e.0 ++ repeated es))) (less _ (first _ _ h))

  -- before its own
  before_own : (x : X) (n : ℕ) (es : List (X × ℕ)) → T (below_all R x es) → insert_sorted R x (replicate n x ++ repeated es) ≡ x ∷ (replicate n x ++ repeated es)
  before_own x zero es h = before_all x es h
  before_own x (suc n) es h = ap (λ r. cond (is_le r) (x ∷ x ∷ (replicate n x ++ repeated es)) (x ∷ insert_sorted R x (replicate n x ++ repeated es))) (tied_itself o x)

  -- past those that are below it
  past : (x y : X) (n : ℕ) (zs : List X) → R x y ≡ Greater → insert_sorted R x (replicate n y ++ zs) ≡ replicate n y ++ insert_sorted R x zs
  past x y zero zs p = refl
  past x y (suc n) zs p =
      ap (λ r. cond (is_le r) (x ∷ y ∷ (replicate n y ++ zs)) (y ∷ insert_sorted R x (replicate n y ++ zs))) p ∙ ap (λ ws. y ∷ ws) (past x y n zs p)

  added_one : (x : X) (es : List (X × ℕ)) → T (is_sorted R es) → Each (λ (e : X × ℕ). e.1 < most) es → 1 ≤ most → repeated (added R (plus_up_to most) x 1 es) ≡ insert_sorted R x (repeated es)
  added_one x [] h small some = refl
  added_one x (e ∷ es) h small some =
      elim (R x e.0) as (λ r. R x e.0 ≡ r → repeated (by_order r ((x, 1) ∷ e ∷ es) ((e.0, min (1 + e.1) most) ∷ es) (e ∷ added R (plus_up_to most) x 1 es)) ≡ insert_sorted R x (replicate e.1 e.0 ++ repeated es)) [
        | Less ↦ λ p. sym (before_all x (e ∷ es) (both _ _ (subst (λ r. T (is_lt r)) (sym p) tt) (below_less R (plus_up_to most) o x e.0 es p (first _ _ h))))
        | Equal ↦ λ p. ap (λ n. replicate n e.0 ++ repeated es) (one_more e.1 small.0) ∙ sym (before_own e.0 e.1 es (first _ _ h)) ∙ ap (λ y. insert_sorted R y (replicate e.1 e.0 ++ repeated es)) (sym (same x e.0 p))
        | Greater ↦ λ p. ap (λ zs. replicate e.1 e.0 ++ zs) (added_one x es (second _ _ h) small.1 some) ∙ sym (past x e.0 e.1 (repeated es) p)
      ] refl
    where
      one_more : (n : ℕ) → n < most → min (1 + n) most ≡ suc n
      one_more n l = omega arith

  added_none : (x : X) (es : List (X × ℕ)) → Each (λ (e : X × ℕ). e.1 ≤ most) es → repeated (added R (plus_up_to most) x 0 es) ≡ repeated es
  added_none x [] within = refl
  added_none x (e ∷ es) within =
      elim (R x e.0) as (λ r. repeated (by_order r ((x, 0) ∷ e ∷ es) ((e.0, min (0 + e.1) most) ∷ es) (e ∷ added R (plus_up_to most) x 0 es)) ≡ replicate e.1 e.0 ++ repeated es) [
        | Less ↦ refl
        | Equal ↦ ap (λ n. replicate n e.0 ++ repeated es) (none_more e.1 within.0)
        | Greater ↦ ap (λ zs. replicate e.1 e.0 ++ zs) (added_none x es within.1)
      ]
    where
      none_more : (n : ℕ) → n ≤ most → min (0 + n) most ≡ n
      none_more n l = omega arith

  within_added : (x : X) (a : ℕ) (es : List (X × ℕ)) → a ≤ most → Each (λ (e : X × ℕ). e.1 ≤ most) es → Each (λ (e : X × ℕ). e.1 ≤ most) (added R (plus_up_to most) x a es)
  within_added x a [] l within = (l, tt)
  within_added x a (e ∷ es) l within =
      elim (R x e.0) as (λ r. Each (λ (e : X × ℕ). e.1 ≤ most) (by_order r ((x, a) ∷ e ∷ es) ((e.0, min (a + e.1) most) ∷ es) (e ∷ added R (plus_up_to most) x a es))) [
        | Less ↦ (l, within)
        | Equal ↦ (omega arith, within.1)
        | Greater ↦ (within.0, within_added x a es l within.1)
      ]

  -- no number falls
  number_added : (x : X) (a : ℕ) (es : List (X × ℕ)) → Each (λ (e : X × ℕ). e.1 ≤ most) es → number_of es ≤ number_of (added R (plus_up_to most) x a es)
  number_added x a [] within = omega arith
  number_added x a (e ∷ es) within =
      elim (R x e.0) as (λ r. e.1 + number_of es ≤ number_of (by_order r ((x, a) ∷ e ∷ es) ((e.0, min (a + e.1) most) ∷ es) (e ∷ added R (plus_up_to most) x a es))) [
        | Less ↦ omega arith
        | Equal ↦ (let w = within.0 in omega arith)
        | Greater ↦ (let n = number_added x a es within.1 in omega arith)
      ]

  below_number : (es : List (X × ℕ)) → number_of es < most → Each (λ (e : X × ℕ). e.1 < most) es
  below_number [] l = tt
  below_number (e ∷ es) l = (omega arith, below_number es (omega arith))

  module _ {M : Type 0} (has : M → Bool) where
    abbrev sums : List (X × M) → List (X × ℕ)
    sums pairs = summed R (plus_up_to most) (counted_pairs has pairs)

    sums_within : (pairs : List (X × M)) → 1 ≤ most → Each (λ (e : X × ℕ). e.1 ≤ most) (sums pairs)
    sums_within [] some = tt
    sums_within (pair ∷ pairs) some = within_added pair.0 (counted_by has pair.1) (sums pairs) (bit (has pair.1)) (sums_within pairs some)
      where
        bit : (b : Bool) → cond b 0 1 ≤ most
        bit true = omega arith
        bit false = some

    pub listed_again : (pairs : List (X × M)) → number_of (sums pairs) < most → repeated (sums pairs) ≡ sorted_by R (kept has pairs)
    listed_again [] l = refl
    listed_again (pair ∷ pairs) l =
        elim (has pair.1) as (λ b. number_of (added R (plus_up_to most) pair.0 (cond b 0 1) (sums pairs)) < most → repeated (added R (plus_up_to most) pair.0 (cond b 0 1) (sums pairs)) ≡ sorted_by R (map (λ (p : X × M). p.0) (cond (not b) (pair ∷ filter (λ (p : X × M). not (has p.1)) pairs) (filter (λ (p : X × M). not (has p.1)) pairs)))) [
          | true ↦ λ k. (let n = number_added pair.0 0 (sums pairs) within in added_none pair.0 (sums pairs) within ∙ listed_again pairs (omega arith))
          | false ↦ λ k. (let n = number_added pair.0 1 (sums pairs) within in let m : number_of (sums pairs) < most = omega arith in
              added_one pair.0 (sums pairs) (is_sorted-summed R (plus_up_to most) o (counted_pairs has pairs)) (below_number (sums pairs) m) (omega arith) ∙ ap (insert_sorted R pair.0) (listed_again pairs m))
        ] l
      where
        within : Each (λ (e : X × ℕ). e.1 ≤ most) (sums pairs)
        within = sums_within pairs (omega arith)

    number_is : (es : List (X × ℕ)) → number_of es ≡ value (λ x. 1) es
    number_is [] = refl
    number_is (e ∷ es) = let n = number_is es in omega arith

    value_kept : (pairs : List (X × M)) → value (λ x. 1) (counted_pairs has pairs) ≡ length (kept has pairs)
    value_kept [] = refl
    value_kept (pair ∷ pairs) =
        elim (has pair.1) as (λ b. cond b 0 1 * 1 + value (λ (x : X). 1) (counted_pairs has pairs) ≡ length (map (λ (p : X × M). p.0) (cond (not b) (pair ∷ filter (λ (p : X × M). not (has p.1)) pairs) (filter (λ (p : X × M). not (has p.1)) pairs)))) [
          | true ↦ (let n = value_kept pairs in omega arith)
          | false ↦ (let n = value_kept pairs in omega arith)
        ]

    pub counted_up_to : (pairs : List (X × M)) → Same most (number_of (sums pairs)) (length (kept has pairs))
    counted_up_to pairs = ap (λ n. min n most) (number_is (sums pairs)) ∙ value_summed R same most (λ x. 1) (counted_pairs has pairs) ∙ ap (λ n. min n most) (value_kept pairs)

-- ---- values by rules

raised_one : (n : ℕ) → raised 1 (times_up_to greatest_count) 1 n ≡ 1
raised_one zero = refl
raised_one (suc n) = ap (λ m. min (1 * m) greatest_count) (raised_one n)

raised_bit : (b : Bool) (n : ℕ) → 1 ≤ n → raised 1 (times_up_to greatest_count) (cond b 0 1) n ≡ cond b 0 1
raised_bit true zero some = absurd (omega arith)
raised_bit true (suc n) some = nothing (raised 1 (times_up_to greatest_count) 0 n)
  where
    nothing : (m : ℕ) → min (0 * m) greatest_count ≡ 0
    nothing m = omega arith
raised_bit false n some = raised_one n

-- a monomial counts 0 where a token of it is matched, else 1
pub monomial_counted : (matches : Token → Bool) (m : Monomial) → HasCounts m → monomial_value 1 (times_up_to greatest_count) (counted_by matches) m ≡ counted_by (has_token matches) m
monomial_counted matches [] are = refl
monomial_counted matches (p ∷ ps) are =
    ap (λ n. min (n * monomial_value 1 (times_up_to greatest_count) (counted_by matches) ps) greatest_count) (raised_bit (matches p.0) p.1 are.0)
    ∙ ap (λ n. min (counted_by matches p.0 * n) greatest_count) (monomial_counted matches ps are.1)
    ∙ sym (count_product (matches p.0) (has_token matches ps))

-- a token counts 0 where a rule of value 0 fits, else 1
pub token_counted : (rules : List Rule) → Each (λ (rule : Rule). rule.value ≡ 0) rules → (token : Token)
    → token_value 1 (number_up_to greatest_count) no_token (rules, Some 1) token ≡ counted_by (λ other. list_any (λ rule. fits_rule rule other) rules) token
token_counted [] are token = refl
token_counted (rule ∷ rules) are token =
    elim (fits_rule rule token) as (λ b. value_by 1 (number_up_to greatest_count) no_token (cond b (Some rule.value) (number_by rules (Some 1) token)) token ≡ cond (b || list_any (λ rule. fits_rule rule token) rules) 0 1) [
      | true ↦ ap (λ n. value_by 1 (number_up_to greatest_count) no_token (Some n) token) are.0
      | false ↦ token_counted rules are.1 token
    ]

-- ---- programs and answers

pairs_counted : {M : Type 0} (has : M → Bool) (rows : List (Derived M)) → pairs_of (map (derived_reannotated (counted_by has)) rows) ≡ counted_pairs has (pairs_of rows)
pairs_counted has [] = refl
pairs_counted has (row ∷ rows) = ap (λ pairs. (row.cells, counted_by has row.annotation) ∷ pairs) (pairs_counted has rows)

pub program_counted : (matches : Token → Bool) (env : Environment Monomial) (program : Program)
    → pairs_of (program_meaning (values_as_annotations 1 (times_up_to greatest_count) (counted_by matches)) (environment_reannotated (counted_by (has_token matches)) env) program)
    ≡ counted_pairs (has_token matches) (pairs_of (program_meaning monomials env program))
program_counted matches env program =
    ap pairs_of (program_carried monomials (values_as_annotations 1 (times_up_to greatest_count) (counted_by matches)) (counted_by (has_token matches)) (counting_carries matches) env program)
    ∙ pairs_counted (has_token matches) (program_meaning monomials env program)

kept_cells : {M : Type 0} (has : M → Bool) (elements : List (Element M)) → kept has (element_pairs elements) ≡ cells_of (filter (λ (element : Element M). not (has element.annotation)) elements)
kept_cells has [] = refl
kept_cells {M = M} has (e ∷ es) =
    elim (has e.annotation) as (λ b. map (λ (p : List Cell × M). p.0) (cond (not b) ((e.cells, e.annotation) ∷ filter (λ (p : List Cell × M). not (has p.1)) (element_pairs es)) (filter (λ (p : List Cell × M). not (has p.1)) (element_pairs es)))
    ≡ cells_of (cond (not b) (e ∷ filter (λ (element : Element M). not (has element.annotation)) es) (filter (λ (element : Element M). not (has element.annotation)) es))) [
      | true ↦ kept_cells has es
      | false ↦ ap (λ rows. e.cells ∷ rows) (kept_cells has es)
    ]

pub answer_kept : (matches : Token → Bool) (select : Select) (db : Database Monomial) → kept (has_token matches) (element_pairs (answer monomials select db)) ≡ cells_of (answer monomials select (reduced (has_token matches) db))
answer_kept matches select db = kept_cells (has_token matches) (answer monomials select db) ∙ ap cells_of (answer_reduced monomials (has_token matches) (monomials_find matches) 1 select db)
