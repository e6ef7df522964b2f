-- The first limit of two parts is the first of those that they pass.
use Rattle.gp_grammar.proofs.Prelude.{◌≡◌, ℕ, Bool, true, false, cond, ltb, List, ◌++◌, map, Option, Some, None, refl, sym, ap, ◌∙◌, arith, ◌||◌, max, nat_tests, map-append, MAX_COLUMNS, MAX_FROM, MAX_BRANCHES, MAX_VALUES, MAX_NODES, MAX_LEVELS, MAX_CHANGES, Term, Limit, Shape, nodes, levels, some_above, both, passed_limit}
use Rattle.std.proofs.Common.{nat_lt}
use Rattle.std.proofs.lemmas.List.Folds.{list_any-append}
use Rattle.gp_grammar.specs.Limits as l
use Rattle.gp_grammar.proofs.ShapeLemmas.{first_limit, of_shape, some_large}

-- the place of a limit in the order of the tests
abbrev pub rank : Limit → ℕ
rank l.columns = 0
rank l.from = 1
rank l.branches = 2
rank l.values = 3
rank l.node_count = 4
rank l.depth = 5
rank l.change_count = 6

abbrev pub earlier : Option Limit → Option Limit → Option Limit
earlier None b = b
earlier (Some a) None = Some a
earlier (Some a) (Some b) = cond (nat_lt (rank b) (rank a)) (Some b) (Some a)

-- ---- the tests of both parts, limit by limit

columns-first : (f b v n d k : Bool) → earlier (Some l.columns) (cond f (Some l.from) (cond b (Some l.branches) (cond v (Some l.values) (cond n (Some l.node_count) (cond d (Some l.depth) (cond k (Some l.change_count) None)))))) ≡ Some l.columns
columns-first true b v n d k = refl
columns-first false true v n d k = refl
columns-first false false true n d k = refl
columns-first false false false true d k = refl
columns-first false false false false true k = refl
columns-first false false false false false true = refl
columns-first false false false false false false = refl

columns-last : (f b v n d k : Bool) → earlier (cond f (Some l.from) (cond b (Some l.branches) (cond v (Some l.values) (cond n (Some l.node_count) (cond d (Some l.depth) (cond k (Some l.change_count) None)))))) (Some l.columns) ≡ Some l.columns
columns-last true b v n d k = refl
columns-last false true v n d k = refl
columns-last false false true n d k = refl
columns-last false false false true d k = refl
columns-last false false false false true k = refl
columns-last false false false false false true = refl
columns-last false false false false false false = refl

from-first : (b v n d k : Bool) → earlier (Some l.from) (cond b (Some l.branches) (cond v (Some l.values) (cond n (Some l.node_count) (cond d (Some l.depth) (cond k (Some l.change_count) None))))) ≡ Some l.from
from-first true v n d k = refl
from-first false true n d k = refl
from-first false false true d k = refl
from-first false false false true k = refl
from-first false false false false true = refl
from-first false false false false false = refl

from-last : (b v n d k : Bool) → earlier (cond b (Some l.branches) (cond v (Some l.values) (cond n (Some l.node_count) (cond d (Some l.depth) (cond k (Some l.change_count) None))))) (Some l.from) ≡ Some l.from
from-last true v n d k = refl
from-last false true n d k = refl
from-last false false true d k = refl
from-last false false false true k = refl
from-last false false false false true = refl
from-last false false false false false = refl

branches-first : (v n d k : Bool) → earlier (Some l.branches) (cond v (Some l.values) (cond n (Some l.node_count) (cond d (Some l.depth) (cond k (Some l.change_count) None)))) ≡ Some l.branches
branches-first true n d k = refl
branches-first false true d k = refl
branches-first false false true k = refl
branches-first false false false true = refl
branches-first false false false false = refl

branches-last : (v n d k : Bool) → earlier (cond v (Some l.values) (cond n (Some l.node_count) (cond d (Some l.depth) (cond k (Some l.change_count) None)))) (Some l.branches) ≡ Some l.branches
branches-last true n d k = refl
branches-last false true d k = refl
branches-last false false true k = refl
branches-last false false false true = refl
branches-last false false false false = refl

values-first : (n d k : Bool) → earlier (Some l.values) (cond n (Some l.node_count) (cond d (Some l.depth) (cond k (Some l.change_count) None))) ≡ Some l.values
values-first true d k = refl
values-first false true k = refl
values-first false false true = refl
values-first false false false = refl

values-last : (n d k : Bool) → earlier (cond n (Some l.node_count) (cond d (Some l.depth) (cond k (Some l.change_count) None))) (Some l.values) ≡ Some l.values
values-last true d k = refl
values-last false true k = refl
values-last false false true = refl
values-last false false false = refl

nodes-first : (d k : Bool) → earlier (Some l.node_count) (cond d (Some l.depth) (cond k (Some l.change_count) None)) ≡ Some l.node_count
nodes-first true k = refl
nodes-first false true = refl
nodes-first false false = refl

nodes-last : (d k : Bool) → earlier (cond d (Some l.depth) (cond k (Some l.change_count) None)) (Some l.node_count) ≡ Some l.node_count
nodes-last true k = refl
nodes-last false true = refl
nodes-last false false = refl

depth-first : (k : Bool) → earlier (Some l.depth) (cond k (Some l.change_count) None) ≡ Some l.depth
depth-first true = refl
depth-first false = refl

depth-last : (k : Bool) → earlier (cond k (Some l.change_count) None) (Some l.depth) ≡ Some l.depth
depth-last true = refl
depth-last false = refl

first-both : (c f b v n d k c' f' b' v' n' d' k' : Bool)
    → first_limit (c || c') (f || f') (b || b') (v || v') (n || n') (d || d') (k || k') ≡ earlier (first_limit c f b v n d k) (first_limit c' f' b' v' n' d' k')
first-both true f b v n d k true f' b' v' n' d' k' = refl
first-both true f b v n d k false f' b' v' n' d' k' = sym (columns-first f' b' v' n' d' k')
first-both false f b v n d k true f' b' v' n' d' k' = sym (columns-last f b v n d k)
first-both false true b v n d k false true b' v' n' d' k' = refl
first-both false true b v n d k false false b' v' n' d' k' = sym (from-first b' v' n' d' k')
first-both false false b v n d k false true b' v' n' d' k' = sym (from-last b v n d k)
first-both false false true v n d k false false true v' n' d' k' = refl
first-both false false true v n d k false false false v' n' d' k' = sym (branches-first v' n' d' k')
first-both false false false v n d k false false true v' n' d' k' = sym (branches-last v n d k)
first-both false false false true n d k false false false true n' d' k' = refl
first-both false false false true n d k false false false false n' d' k' = sym (values-first n' d' k')
first-both false false false false n d k false false false true n' d' k' = sym (values-last n d k)
first-both false false false false true d k false false false false true d' k' = refl
first-both false false false false true d k false false false false false d' k' = sym (nodes-first d' k')
first-both false false false false false d k false false false false true d' k' = sym (nodes-last d k)
first-both false false false false false true k false false false false false true k' = refl
first-both false false false false false true k false false false false false false k' = sym (depth-first k')
first-both false false false false false false k false false false false false true k' = sym (depth-last k)
first-both false false false false false false true false false false false false false true = refl
first-both false false false false false false true false false false false false false false = refl
first-both false false false false false false false false false false false false false true = refl
first-both false false false false false false false false false false false false false false = refl

above-max : (most x y : ℕ) → nat_lt most (max x y) ≡ nat_lt most x || nat_lt most y
above-max most x y = by (nat_lt most x) (nat_lt most y) (nat_lt most (max x y)) refl refl refl
  where
    by : (a b m : Bool) → nat_lt most x ≡ a → nat_lt most y ≡ b → nat_lt most (max x y) ≡ m → m ≡ a || b
    by true b true e f g = refl
    by true b false e f g = absurd (grind (arith, nat_tests))
    by false true true e f g = refl
    by false true false e f g = absurd (grind (arith, nat_tests))
    by false false true e f g = absurd (grind (arith, nat_tests))
    by false false false e f g = refl

above-append : (most : ℕ) (xs ys : List ℕ) → some_above most (xs ++ ys) ≡ some_above most xs || some_above most ys
above-append most xs ys = list_any-append (λ n. nat_lt most n) xs ys

measured-append : (most : ℕ) (measure : Term → ℕ) (xs ys : List Term) → some_above most (map measure (xs ++ ys)) ≡ some_above most (map measure xs) || some_above most (map measure ys)
measured-append most measure xs ys = ap (some_above most) (map-append measure xs ys) ∙ above-append most (map measure xs) (map measure ys)

same-tests : (c f b v n d k c' f' b' v' n' d' k' : Bool) → c ≡ c' → f ≡ f' → b ≡ b' → v ≡ v' → n ≡ n' → d ≡ d' → k ≡ k'
    → first_limit c f b v n d k ≡ first_limit c' f' b' v' n' d' k'
same-tests c f b v n d k c' f' b' v' n' d' k' p q r s t u w = rw (p, q, r, s, t, u, w) refl

abbrev tests : Shape → Option Limit
tests s = first_limit (some_above MAX_COLUMNS s.columns) (some_above MAX_FROM s.from) (ltb MAX_BRANCHES s.branches) (ltb MAX_VALUES s.values) (some_large s.terms)
    (some_above MAX_LEVELS (map levels s.terms)) (ltb MAX_CHANGES s.changes)

tests-both : (x y : Shape) → tests (both x y) ≡ earlier (tests x) (tests y)
unfolding some_large
tests-both x y =
    same-tests _ _ _ _ _ _ _ _ _ _ _ _ _ _ (above-append MAX_COLUMNS x.columns y.columns) (above-append MAX_FROM x.from y.from) (above-max MAX_BRANCHES x.branches y.branches)
    (above-max MAX_VALUES x.values y.values) (measured-append MAX_NODES nodes x.terms y.terms) (measured-append MAX_LEVELS levels x.terms y.terms)
    (above-max MAX_CHANGES x.changes y.changes)
    ∙ first-both (some_above MAX_COLUMNS x.columns) (some_above MAX_FROM x.from) (ltb MAX_BRANCHES x.branches) (ltb MAX_VALUES x.values) (some_large x.terms)
    (some_above MAX_LEVELS (map levels x.terms)) (ltb MAX_CHANGES x.changes) (some_above MAX_COLUMNS y.columns) (some_above MAX_FROM y.from) (ltb MAX_BRANCHES y.branches)
    (ltb MAX_VALUES y.values) (some_large y.terms) (some_above MAX_LEVELS (map levels y.terms)) (ltb MAX_CHANGES y.changes)

pub both-limit : (x y : Shape) → passed_limit (both x y) ≡ earlier (passed_limit x) (passed_limit y)
both-limit x y =
    of_shape (both x y)
    ∙ tests-both x y
    ∙ ap (λ z. earlier z (tests y)) (sym (of_shape x))
    ∙ ap (λ z. earlier (passed_limit x) z) (sym (of_shape y))

earlier-none : (a b : Option Limit) → earlier a b ≡ None → (a ≡ None) × (b ≡ None)
earlier-none None b h = (refl, h)
earlier-none (Some a) None h = cc
earlier-none (Some a) (Some b) h = by (nat_lt (rank b) (rank a)) h
  where
    by : (c : Bool) → cond c (Some b) (Some a) ≡ None → (Some a ≡ None) × (Some b ≡ None)
    by true h = cc
    by false h = cc

-- where both parts as one whole pass no limit, neither does
pub both-within : (x y : Shape) → passed_limit (both x y) ≡ None → (passed_limit x ≡ None) × (passed_limit y ≡ None)
both-within x y h = earlier-none (passed_limit x) (passed_limit y) (sym (both-limit x y) ∙ h)
