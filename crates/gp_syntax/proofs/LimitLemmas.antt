-- Tests on the terms of lists.
use Rattle.std.proofs.Common.{◌≡◌, ℕ, ◌-◌, ◌^◌, ◌<◌, Bool, true, false, cond, ◌||◌, List, Option, [], ◌∷◌, length, map, min, Some, None, refl, sym, ap, ◌∙◌, arith, nat_lt}
use Rattle.std.proofs.lemmas.Bool.Decides.{nat_tests}
use Rattle.std.proofs.lemmas.List.{length-map}
use Rattle.std.proofs.lemmas.List.Folds.{list_any-append}
use Rattle.std.specs.List.{flat_map, list_any}
use Rattle.std.specs.Option.{option_map}
use Rattle.gp_base.specs.declared.limit.Limit.{Limit}
use Rattle.gp_base.specs.declared.limit.Limit.TheVariants as limit
use Rattle.gp_grammar.specs.declared.limits.TheConstants.{MAX_BRANCHES, MAX_COLUMNS, MAX_FROM, MAX_NODES, MAX_LEVELS}
use Rattle.gp_grammar.specs.Syntax as y
use Rattle.gp_grammar.specs.Syntax.{Term}
use Rattle.gp_grammar.specs.Limits as g
use Rattle.gp_grammar.specs.Limits.{Shape, nodes, levels, select_terms, some_above, passed_limit, both, query_shape, terms_of_query, change_shape, commands_shape}
use Rattle.gp_grammar.proofs.BothLemmas as parts
use Rattle.gp_grammar.proofs.BothLemmas.{both-limit}
use Rattle.gp_syntax.specs.declared.term.Term as r
use Rattle.gp_syntax.specs.declared.command.Block.{Block}
use Rattle.gp_syntax.specs.declared.command.SetTerm.{SetTerm}
use Rattle.gp_syntax.specs.declared.limits.Measure.{Measure}
use Rattle.gp_syntax.specs.declared.question.LogChange.{LogChange}
use Rattle.gp_syntax.specs.Refusals.{limit_of}
use Rattle.gp_syntax.specs.Views.{block_view, change_view, changes_view, item_view, items_view, set_view, term_view}
use Rattle.gp_syntax.specs.declared.limits.Measure.TheVariants.{Nodes, Levels}
use Rattle.gp_syntax.specs.Measures.{is_above, are_above, earlier, rank, set_term_of, terms_limit, term_limit, terms_of_block, terms_of_sets}
use Rattle.gp_base.proofs.SmallLemmas.{any-map, or_nothing}

pub list_any-flat_map : {X Y : Type 0} (p : Y → Bool) (f : X → List Y) (xs : List X) → list_any p (flat_map f xs) ≡ list_any (λ x. list_any p (f x)) xs
list_any-flat_map p f [] = refl
list_any-flat_map p f (x ∷ xs) = list_any-append p (f x) (flat_map f xs) ∙ ap (λ b. list_any p (f x) || b) (list_any-flat_map p f xs)

pub ruleset any = (any-map, list_any-flat_map, list_any-append, or_nothing)

-- a saturated number above a limit
above-by : (n m most : ℕ) (a b : Bool) → nat_lt most n ≡ a → nat_lt most m ≡ b → n ≡ min m (2 ^ 64 - 1) → most < 2 ^ 64 - 1 → a ≡ b
above-by n m most true true e f s l = refl
above-by n m most true false e f s l = absurd (grind (arith, nat_tests))
above-by n m most false true e f s l = absurd (grind (arith, nat_tests))
above-by n m most false false e f s l = refl

pub above-nodes : (n : ℕ) (term : Term) → n ≡ min (nodes term) (2 ^ 64 - 1) → nat_lt MAX_NODES n ≡ nat_lt MAX_NODES (nodes term)
above-nodes n term s = above-by n (nodes term) MAX_NODES _ _ refl refl s (omega arith)

pub above-levels : (n : ℕ) (term : Term) → n ≡ min (levels term) (2 ^ 64 - 1) → nat_lt MAX_LEVELS n ≡ nat_lt MAX_LEVELS (levels term)
above-levels n term s = above-by n (levels term) MAX_LEVELS _ _ refl refl s (omega arith)

pub ruleset measures = (above-nodes, above-levels)

pub over-nodes : (terms : List Term) → some_above MAX_NODES (map nodes terms) ≡ are_above Nodes terms
over-nodes terms = any-map (λ n. nat_lt MAX_NODES n) nodes terms

pub over-levels : (terms : List Term) → some_above MAX_LEVELS (map levels terms) ≡ are_above Levels terms
over-levels terms = any-map (λ n. nat_lt MAX_LEVELS n) levels terms

terms_limit-by : (a b : Bool) (terms : List Term) → some_above MAX_NODES (map nodes terms) ≡ a → some_above MAX_LEVELS (map levels terms) ≡ b → terms_limit terms ≡ term_limit a b
terms_limit-by true b terms e f = rw e refl
terms_limit-by false true terms e f = rw (e, f) refl
terms_limit-by false false terms e f = rw (e, f) refl

pub terms_limit-is : (terms : List Term) → terms_limit terms ≡ term_limit (are_above Nodes terms) (are_above Levels terms)
terms_limit-is terms = terms_limit-by _ _ terms (over-nodes terms) (over-levels terms)

pub ruleset updates = (terms_limit-is, list_any-append)

pub limit-nodes : (q : y.Query) → some_above MAX_COLUMNS (query_shape q).columns ≡ false → some_above MAX_FROM (query_shape q).from ≡ false → nat_lt MAX_BRANCHES (length q) ≡ false
    → are_above Nodes (terms_of_query q) ≡ true → Some limit.Nodes ≡ option_map limit_of (passed_limit (query_shape q))
limit-nodes q a b c d = rw (a, b, c, over-nodes (terms_of_query q) ∙ d) refl

pub limit-levels : (q : y.Query) → some_above MAX_COLUMNS (query_shape q).columns ≡ false → some_above MAX_FROM (query_shape q).from ≡ false → nat_lt MAX_BRANCHES (length q) ≡ false
    → are_above Nodes (terms_of_query q) ≡ false → are_above Levels (terms_of_query q) ≡ true → Some limit.Depth ≡ option_map limit_of (passed_limit (query_shape q))
limit-levels q a b c d e = rw (a, b, c, over-nodes (terms_of_query q) ∙ d, over-levels (terms_of_query q) ∙ e) refl

pub limit-none : (q : y.Query) → some_above MAX_COLUMNS (query_shape q).columns ≡ false → some_above MAX_FROM (query_shape q).from ≡ false → nat_lt MAX_BRANCHES (length q) ≡ false
    → are_above Nodes (terms_of_query q) ≡ false → are_above Levels (terms_of_query q) ≡ false → None ≡ option_map limit_of (passed_limit (query_shape q))
limit-none q a b c d e = rw (a, b, c, over-nodes (terms_of_query q) ∙ d, over-levels (terms_of_query q) ∙ e) refl

pub ruleset queries = (limit-nodes, limit-levels, limit-none)

-- lists of the code's values
pub terms-above : (measure : Measure) (terms : List r.Term) → are_above measure (map term_view terms) ≡ list_any (λ term. is_above measure (term_view term)) terms
terms-above measure terms = any-map (is_above measure) term_view terms

pub blocks-above : (measure : Measure) (blocks : List Block) → are_above measure (terms_of_query (map block_view blocks)) ≡ list_any (λ block. are_above measure (terms_of_block (block_view block))) blocks
blocks-above measure blocks = list_any-flat_map (is_above measure) terms_of_block (map block_view blocks) ∙ any-map (λ (b : y.Block). are_above measure (terms_of_block b)) block_view blocks

pub sets-above : (measure : Measure) (sets : List SetTerm) → are_above measure (terms_of_sets (map set_view sets)) ≡ list_any (λ set. is_above measure (term_view set.term)) sets
sets-above measure sets = any-map (is_above measure) set_term_of (map set_view sets) ∙ any-map (λ (set : y.SetTerm). is_above measure set.term) set_view sets

pub columns-above : (most : ℕ) (blocks : List Block) → some_above most (query_shape (map block_view blocks)).columns ≡ list_any (λ block. nat_lt most (length (select_terms (items_view block.items)))) blocks
columns-above most blocks = any-map (λ n. nat_lt most n) (λ (b : y.Block). length (select_terms b.items)) (map block_view blocks) ∙ any-map (λ (b : y.Block). nat_lt most (length (select_terms b.items))) block_view blocks

pub tables-above : (most : ℕ) (blocks : List Block) → some_above most (query_shape (map block_view blocks)).from ≡ list_any (λ block. nat_lt most (length block.from)) blocks
tables-above most [] = refl
tables-above most (b ∷ bs) = rw (length-map b.from item_view) (ap (λ z. nat_lt most (length b.from) || z) (tables-above most bs))

-- ---- the first limit of two

rank-of : (l : g.Limit) → rank (limit_of l) ≡ parts.rank l
rank-of g.columns = refl
rank-of g.from = refl
rank-of g.branches = refl
rank-of g.values = refl
rank-of g.node_count = refl
rank-of g.depth = refl
rank-of g.change_count = refl

earlier-of : (x y : Option g.Limit) → option_map limit_of (parts.earlier x y) ≡ earlier (option_map limit_of x) (option_map limit_of y)
earlier-of None y = refl
earlier-of (Some x) None = refl
earlier-of (Some x) (Some y) =
    by (nat_lt (parts.rank y) (parts.rank x))
    ∙ ap (λ n. cond (nat_lt n (parts.rank x)) (Some (limit_of y)) (Some (limit_of x))) (sym (rank-of y))
    ∙ ap (λ n. cond (nat_lt (rank (limit_of y)) n) (Some (limit_of y)) (Some (limit_of x))) (sym (rank-of x))
  where
    by : (c : Bool) → option_map limit_of (cond c (Some y) (Some x)) ≡ cond c (Some (limit_of y)) (Some (limit_of x))
    by true = refl
    by false = refl

pub whole-limit : (x y : Shape) → option_map limit_of (passed_limit (both x y)) ≡ earlier (option_map limit_of (passed_limit x)) (option_map limit_of (passed_limit y))
whole-limit x y = ap (option_map limit_of) (both-limit x y) ∙ earlier-of (passed_limit x) (passed_limit y)

-- ---- the first limit of many

earlier-none : (x : Option Limit) → earlier x None ≡ x
earlier-none None = refl
earlier-none (Some a) = refl

earlier-assoc : (x y z : Option Limit) → earlier (earlier x y) z ≡ earlier x (earlier y z)
earlier-assoc None y z = refl
earlier-assoc (Some a) None z = refl
earlier-assoc (Some a) (Some b) None = earlier-none (earlier (Some a) (Some b))
earlier-assoc (Some a) (Some b) (Some c) =
    left (nat_lt (rank b) (rank a))
    ∙ by (nat_lt (rank b) (rank a)) (nat_lt (rank c) (rank b)) (nat_lt (rank c) (rank a)) refl refl refl
    ∙ sym (right (nat_lt (rank c) (rank b)))
  where
    left : (p : Bool) → earlier (cond p (Some b) (Some a)) (Some c) ≡ cond p (earlier (Some b) (Some c)) (earlier (Some a) (Some c))
    left true = refl
    left false = refl

    right : (q : Bool) → earlier (Some a) (cond q (Some c) (Some b)) ≡ cond q (earlier (Some a) (Some c)) (earlier (Some a) (Some b))
    right true = refl
    right false = refl

    by : (p q r : Bool) → nat_lt (rank b) (rank a) ≡ p → nat_lt (rank c) (rank b) ≡ q → nat_lt (rank c) (rank a) ≡ r
        → cond p (cond q (Some c) (Some b)) (cond r (Some c) (Some a)) ≡ cond q (cond r (Some c) (Some a)) (cond p (Some b) (Some a))
    by true true true e f g = refl
    by true true false e f g = absurd (grind (arith, nat_tests))
    by true false r e f g = refl
    by false true r e f g = refl
    by false false true e f g = absurd (grind (arith, nat_tests))
    by false false false e f g = refl

abbrev pub limit_of_change : LogChange → Option Limit
limit_of_change change = option_map limit_of (passed_limit (change_shape (change_view change)))

abbrev pub limit_of_commands : List LogChange → Option Limit
limit_of_commands changes = option_map limit_of (passed_limit (commands_shape (changes_view changes)))

-- one more change, before those that are left
pub commands-step : (found : Option Limit) (change : LogChange) (left : List LogChange)
    → earlier (earlier found (limit_of_change change)) (limit_of_commands left) ≡ earlier found (limit_of_commands (change ∷ left))
commands-step found change left =
    earlier-assoc found (limit_of_change change) (limit_of_commands left)
    ∙ ap (earlier found) (sym (whole-limit (change_shape (change_view change)) (commands_shape (changes_view left))))

-- no change is left
pub commands-end : (found : Option Limit) → found ≡ earlier found (limit_of_commands [])
commands-end found = sym (earlier-none found)
