-- Capping keeps the first limit that is passed, and a command within the limits.
use Rattle.gp_grammar.proofs.Prelude.{◌≡◌, Bool, true, false, cond, ltb, List, [], ◌∷◌, ◌++◌, length, map, Option, Some, None, refl, sym, ap, ◌∙◌, max, option_map, ◌||◌, map-append, ltb-false, ltb-true, or_parts, MAX_COLUMNS, MAX_FROM, MAX_BRANCHES, MAX_VALUES, MAX_NODES, MAX_LEVELS, MAX_CHANGES, Term, SetTerm, Item, Items, Block, Query, Command, ScriptLine, LogChange, Side, Question, Limit, Shape, nodes, levels, some_above, passed_limit, terms_of_condition, select_terms, terms_of_query, command_shape, line_shape, both, shape_of_count, question_shape, CapsFairly, term_shape, is_large, capped, capped_set, capped_items, capped_block, capped_command, capped_line, capped_change, capped_side, capped_question, IsTerm, IsCommand, IsScriptLine, IsQuestion, term, command, script_line, question}
use Rattle.std.proofs.lemmas.List.{length-map}
use Rattle.std.proofs.lemmas.Bool.{lt-ltb}
use Rattle.gp_grammar.specs.Syntax as syntax
use Rattle.gp_grammar.specs.Limits as l
use Rattle.gp_grammar.specs.Limits.{query_shape, shape_of_terms, change_shape, commands_shape, changes_shape, side_shape}
use Rattle.gp_grammar.proofs.CappingLemmas.{Fair, capped-fair}

-- ---- terms

AreExact : List Term → Type 0
AreExact [] = Unit {0}
AreExact (x ∷ xs) = (capped x ≡ x) × AreExact xs

unfoldable pub some_large : List Term → Bool
some_large xs = some_above MAX_NODES (map nodes xs)

large-same : (x : Term) → is_large (capped x) ≡ is_large x
large-same x = by (is_large x) refl
  where
    f : Fair x (capped x)
    f = capped-fair x

    by : (b : Bool) → is_large x ≡ b → is_large (capped x) ≡ b
    by true e = lt-ltb MAX_NODES (nodes (capped x)) (f.large (ltb-true MAX_NODES (nodes x) e))
    by false e = ap is_large (f.small (ltb-false MAX_NODES (nodes x) e)) ∙ e

some_large-same : (xs : List Term) → some_large (map capped xs) ≡ some_large xs
unfolding some_large
some_large-same [] = refl
some_large-same (x ∷ xs) = ap (λ b. b || some_large (map capped xs)) (large-same x) ∙ ap (λ b. is_large x || b) (some_large-same xs)

exact-terms : (xs : List Term) → some_large xs ≡ false → AreExact xs
unfolding some_large AreExact
exact-terms [] h = tt
exact-terms (x ∷ xs) h =
    let w : (is_large x ≡ false) × (some_large xs ≡ false) = or_parts (is_large x) (some_large xs) h in
    ((capped-fair x).small (ltb-false MAX_NODES (nodes x) w.0), exact-terms xs w.1)

exact-map : (xs : List Term) → AreExact xs → map capped xs ≡ xs
unfolding AreExact
exact-map [] h = refl
exact-map (x ∷ xs) h = ap (λ z. z ∷ map capped xs) h.0 ∙ ap (λ z. x ∷ z) (exact-map xs h.1)

exact-split : (xs ys : List Term) → AreExact (xs ++ ys) → AreExact xs × AreExact ys
unfolding AreExact
exact-split [] ys h = (tt, h)
exact-split (x ∷ xs) ys h = let w : AreExact xs × AreExact ys = exact-split xs ys h.1 in ((h.0, w.0), w.1)

-- ---- the limits

abbrev capped_shape : Shape → Shape
capped_shape shape = record { columns = shape.columns; from = shape.from; branches = shape.branches; values = shape.values; terms = map capped shape.terms; changes = shape.changes }

abbrev pub first_limit : Bool → Bool → Bool → Bool → Bool → Bool → Bool → Option Limit
first_limit c f b v n d k = cond c (Some l.columns) (cond f (Some l.from) (cond b (Some l.branches) (cond v (Some l.values) (cond n (Some l.node_count) (cond d (Some l.depth)
    (cond k (Some l.change_count) None))))))

pub of_shape : (s : Shape) → passed_limit s ≡ first_limit (some_above MAX_COLUMNS s.columns) (some_above MAX_FROM s.from) (ltb MAX_BRANCHES s.branches) (ltb MAX_VALUES s.values)
    (some_large s.terms) (some_above MAX_LEVELS (map levels s.terms)) (ltb MAX_CHANGES s.changes)
unfolding some_large
of_shape s = refl

last-same : (n : Bool) (xs ys : List Term) (last : Option Limit) → (n ≡ false → xs ≡ ys)
    → cond n (Some l.node_count) (cond (some_above MAX_LEVELS (map levels xs)) (Some l.depth) last) ≡ cond n (Some l.node_count) (cond (some_above MAX_LEVELS (map levels ys)) (Some l.depth) last)
last-same true xs ys last h = refl
last-same false xs ys last h = ap (λ z. cond (some_above MAX_LEVELS (map levels z)) (Some l.depth) last) (h refl)

pub capped-limit : (s : Shape) → passed_limit (capped_shape s) ≡ passed_limit s
capped-limit s =
    of_shape (capped_shape s)
    ∙ ap (λ n. first_limit (some_above MAX_COLUMNS s.columns) (some_above MAX_FROM s.from) (ltb MAX_BRANCHES s.branches) (ltb MAX_VALUES s.values) n
    (some_above MAX_LEVELS (map levels (map capped s.terms))) (ltb MAX_CHANGES s.changes)) (some_large-same s.terms)
    ∙ ap (λ z. cond (some_above MAX_COLUMNS s.columns) (Some l.columns) (cond (some_above MAX_FROM s.from) (Some l.from) (cond (ltb MAX_BRANCHES s.branches) (Some l.branches)
    (cond (ltb MAX_VALUES s.values) (Some l.values) z))))
    (last-same (some_large s.terms) (map capped s.terms) s.terms (cond (ltb MAX_CHANGES s.changes) (Some l.change_count) None) (λ e. exact-map s.terms (exact-terms s.terms e)))
    ∙ sym (of_shape s)

none-small : (c f b v n d k : Bool) → first_limit c f b v n d k ≡ None → n ≡ false
none-small true f b v n d k h = cc
none-small false true b v n d k h = cc
none-small false false true v n d k h = cc
none-small false false false true n d k h = cc
none-small false false false false true d k h = cc
none-small false false false false false d k h = refl

within-exact : (s : Shape) → passed_limit s ≡ None → AreExact s.terms
within-exact s h = exact-terms s.terms (none-small _ _ _ _ _ _ _ (sym (of_shape s) ∙ h))

-- ---- queries

listed-length : (items : Items) → length (select_terms (capped_items items)) ≡ length (select_terms items)
listed-length syntax.star = refl
listed-length (syntax.list xs) = length-map xs capped

listed-terms : (items : Items) → select_terms (capped_items items) ≡ map capped (select_terms items)
listed-terms syntax.star = refl
listed-terms (syntax.list xs) = refl

condition-terms : (cond : Option Term) → terms_of_condition (option_map capped cond) ≡ map capped (terms_of_condition cond)
condition-terms None = refl
condition-terms (Some x) = refl

query-columns : (q : Query) → map (λ (block : Block). length (select_terms block.items)) (map capped_block q) ≡ map (λ (block : Block). length (select_terms block.items)) q
query-columns [] = refl
query-columns (b ∷ q) = ap (λ z. z ∷ map (λ (block : Block). length (select_terms block.items)) (map capped_block q)) (listed-length b.items) ∙ ap (λ z. length (select_terms b.items) ∷ z) (query-columns q)

query-from : (q : Query) → map (λ (block : Block). length block.from) (map capped_block q) ≡ map (λ (block : Block). length block.from) q
query-from [] = refl
query-from (b ∷ q) = ap (λ z. length b.from ∷ z) (query-from q)

block-terms : (b : Block) → select_terms (capped_items b.items) ++ terms_of_condition (option_map capped b.cond) ≡ map capped (select_terms b.items ++ terms_of_condition b.cond)
block-terms b =
    ap (λ z. z ++ terms_of_condition (option_map capped b.cond)) (listed-terms b.items)
    ∙ ap (λ z. map capped (select_terms b.items) ++ z) (condition-terms b.cond)
    ∙ sym (map-append capped (select_terms b.items) (terms_of_condition b.cond))

query-terms : (q : Query) → terms_of_query (map capped_block q) ≡ map capped (terms_of_query q)
query-terms [] = refl
query-terms (b ∷ q) =
    ap (λ z. z ++ terms_of_query (map capped_block q)) (block-terms b)
    ∙ ap (λ z. map capped (select_terms b.items ++ terms_of_condition b.cond) ++ z) (query-terms q)
    ∙ sym (map-append capped (select_terms b.items ++ terms_of_condition b.cond) (terms_of_query q))

query-shape : (q : Query) → query_shape (map capped_block q) ≡ capped_shape (query_shape q)
query-shape q =
    ap (λ z. record { columns = z; from = map (λ (block : Block). length block.from) (map capped_block q); branches = length (map capped_block q); values = 0; terms = terms_of_query (map capped_block q); changes = 0 }) (query-columns q)
    ∙ ap (λ z. record { columns = (query_shape q).columns; from = z; branches = length (map capped_block q); values = 0; terms = terms_of_query (map capped_block q); changes = 0 }) (query-from q)
    ∙ ap (λ z. record { columns = (query_shape q).columns; from = (query_shape q).from; branches = z; values = 0; terms = terms_of_query (map capped_block q); changes = 0 }) (length-map q capped_block)
    ∙ ap (λ z. record { columns = (query_shape q).columns; from = (query_shape q).from; branches = length q; values = 0; terms = z; changes = 0 }) (query-terms q)

exact-items : (items : Items) → AreExact (select_terms items) → capped_items items ≡ items
exact-items syntax.star h = refl
exact-items (syntax.list xs) h = ap (λ z. syntax.list z) (exact-map xs h)

exact-condition : (cond : Option Term) → AreExact (terms_of_condition cond) → option_map capped cond ≡ cond
unfolding AreExact
exact-condition None h = refl
exact-condition (Some x) h = ap (λ z. Some z) h.0

exact-block : (b : Block) → AreExact (select_terms b.items ++ terms_of_condition b.cond) → capped_block b ≡ b
exact-block b h =
    let w : AreExact (select_terms b.items) × AreExact (terms_of_condition b.cond) = exact-split (select_terms b.items) (terms_of_condition b.cond) h in
    ap (λ z. record { items = z; from = b.from; cond = option_map capped b.cond }) (exact-items b.items w.0)
    ∙ ap (λ z. record { items = b.items; from = b.from; cond = z }) (exact-condition b.cond w.1)

exact-query : (q : Query) → AreExact (terms_of_query q) → map capped_block q ≡ q
exact-query [] h = refl
exact-query (b ∷ q) h =
    let w : AreExact (select_terms b.items ++ terms_of_condition b.cond) × AreExact (terms_of_query q) = exact-split (select_terms b.items ++ terms_of_condition b.cond) (terms_of_query q) h in
    ap (λ z. z ∷ map capped_block q) (exact-block b w.0) ∙ ap (λ z. b ∷ z) (exact-query q w.1)

-- ---- commands

set-terms : (sets : List SetTerm) → map (λ (set : SetTerm). set.term) (map capped_set sets) ≡ map capped (map (λ (set : SetTerm). set.term) sets)
set-terms [] = refl
set-terms (x ∷ sets) = ap (λ z. capped x.term ∷ z) (set-terms sets)

update-terms : (sets : List SetTerm) (cond : Option Term)
    → map (λ (set : SetTerm). set.term) (map capped_set sets) ++ terms_of_condition (option_map capped cond) ≡ map capped (map (λ (set : SetTerm). set.term) sets ++ terms_of_condition cond)
update-terms sets cond =
    ap (λ z. z ++ terms_of_condition (option_map capped cond)) (set-terms sets)
    ∙ ap (λ z. map capped (map (λ (set : SetTerm). set.term) sets) ++ z) (condition-terms cond)
    ∙ sym (map-append capped (map (λ (set : SetTerm). set.term) sets) (terms_of_condition cond))

pub command-shape : (c : Command) → command_shape (capped_command c) ≡ capped_shape (command_shape c)
command-shape (syntax.create table) = refl
command-shape (syntax.begin read_committed) = refl
command-shape syntax.Command.commit = refl
command-shape syntax.rollback = refl
command-shape (syntax.insert table rows) = refl
command-shape (syntax.insert_select table q) = query-shape q
command-shape (syntax.update table sets cond) = ap shape_of_terms (update-terms sets cond)
command-shape (syntax.delete table cond) = ap shape_of_terms (condition-terms cond)
command-shape (syntax.select q) = query-shape q

exact-sets : (sets : List SetTerm) → AreExact (map (λ (set : SetTerm). set.term) sets) → map capped_set sets ≡ sets
unfolding AreExact
exact-sets [] h = refl
exact-sets (x ∷ sets) h = ap (λ z. record { col = x.col; term = z } ∷ map capped_set sets) h.0 ∙ ap (λ z. x ∷ z) (exact-sets sets h.1)

exact-command : (c : Command) → AreExact (command_shape c).terms → capped_command c ≡ c
exact-command (syntax.create table) h = refl
exact-command (syntax.begin read_committed) h = refl
exact-command syntax.Command.commit h = refl
exact-command syntax.rollback h = refl
exact-command (syntax.insert table rows) h = refl
exact-command (syntax.insert_select table q) h = ap (λ z. syntax.insert_select table z) (exact-query q h)
exact-command (syntax.update table sets cond) h =
    let w : AreExact (map (λ (set : SetTerm). set.term) sets) × AreExact (terms_of_condition cond) = exact-split (map (λ (set : SetTerm). set.term) sets) (terms_of_condition cond) h in
    ap (λ z. syntax.update table z (option_map capped cond)) (exact-sets sets w.0) ∙ ap (λ z. syntax.update table sets z) (exact-condition cond w.1)
exact-command (syntax.delete table cond) h = ap (λ z. syntax.delete table z) (exact-condition cond h)
exact-command (syntax.select q) h = ap (λ z. syntax.select z) (exact-query q h)

pub command-limit : (c : Command) → passed_limit (command_shape (capped_command c)) ≡ passed_limit (command_shape c)
command-limit c = ap passed_limit (command-shape c) ∙ capped-limit (command_shape c)

pub command-exact : (c : Command) → passed_limit (command_shape c) ≡ None → capped_command c ≡ c
command-exact c h = exact-command c (within-exact (command_shape c) h)

pub line-exact : (x : ScriptLine) → passed_limit (line_shape x) ≡ None → capped_line x ≡ x
line-exact x h = ap (λ z. record { session = x.session; command = z }) (command-exact x.command h)

-- ---- terms and questions

pub term-limit : (x : Term) → passed_limit (term_shape (capped x)) ≡ passed_limit (term_shape x)
term-limit x = capped-limit (shape_of_terms (x ∷ []))

pub term-exact : (x : Term) → passed_limit (term_shape x) ≡ None → capped x ≡ x
unfolding AreExact
term-exact x h = (within-exact (shape_of_terms (x ∷ [])) h).0

change-shape : (x : LogChange) → change_shape (capped_change x) ≡ capped_shape (change_shape x)
change-shape (syntax.drop t k) = refl
change-shape (syntax.drop_all t) = refl
change-shape (syntax.replace t k c) = command-shape c
change-shape (syntax.add t c) = command-shape c

exact-change : (x : LogChange) → AreExact (change_shape x).terms → capped_change x ≡ x
exact-change (syntax.drop t k) h = refl
exact-change (syntax.drop_all t) h = refl
exact-change (syntax.replace t k c) h = ap (λ z. syntax.replace t k z) (exact-command c h)
exact-change (syntax.add t c) h = ap (λ z. syntax.add t z) (exact-command c h)

both-shape : (a b : Shape) → both (capped_shape a) (capped_shape b) ≡ capped_shape (both a b)
both-shape a b =
    ap (λ z. record { columns = a.columns ++ b.columns; from = a.from ++ b.from; branches = max a.branches b.branches; values = max a.values b.values; terms = z; changes = max a.changes b.changes })
    (sym (map-append capped a.terms b.terms))

commands-shape : (xs : List LogChange) → commands_shape (map capped_change xs) ≡ capped_shape (commands_shape xs)
commands-shape [] = refl
commands-shape (x ∷ xs) =
    ap (λ z. both z (commands_shape (map capped_change xs))) (change-shape x)
    ∙ ap (λ z. both (capped_shape (change_shape x)) z) (commands-shape xs)
    ∙ both-shape (change_shape x) (commands_shape xs)

changes-shape : (xs : List LogChange) → changes_shape (map capped_change xs) ≡ capped_shape (changes_shape xs)
changes-shape xs =
    ap (λ n. both (shape_of_count n) (commands_shape (map capped_change xs))) (length-map xs capped_change)
    ∙ ap (λ z. both (shape_of_count (length xs)) z) (commands-shape xs)
    ∙ both-shape (shape_of_count (length xs)) (commands_shape xs)

exact-changes : (xs : List LogChange) → AreExact (commands_shape xs).terms → map capped_change xs ≡ xs
exact-changes [] h = refl
exact-changes (x ∷ xs) h =
    let w : AreExact (change_shape x).terms × AreExact (commands_shape xs).terms = exact-split (change_shape x).terms (commands_shape xs).terms h in
    ap (λ z. z ∷ map capped_change xs) (exact-change x w.0) ∙ ap (λ z. x ∷ z) (exact-changes xs w.1)

what_if-shape : (xs : List LogChange) (q : Query) → both (changes_shape (map capped_change xs)) (query_shape (map capped_block q)) ≡ capped_shape (both (changes_shape xs) (query_shape q))
what_if-shape xs q =
    ap (λ z. both z (query_shape (map capped_block q))) (changes-shape xs)
    ∙ ap (λ z. both (capped_shape (changes_shape xs)) z) (query-shape q)
    ∙ both-shape (changes_shape xs) (query_shape q)

side-shape : (x : Side) → side_shape (capped_side x) ≡ capped_shape (side_shape x)
side-shape (syntax.as_is subject) = refl
side-shape (syntax.changed changes subject) = changes-shape changes

exact-side : (x : Side) → AreExact (side_shape x).terms → capped_side x ≡ x
exact-side (syntax.as_is subject) h = refl
exact-side (syntax.changed changes subject) h = ap (λ z. syntax.changed z subject) (exact-changes changes h)

diff-shape : (x z : Side) (q : Query) → both (both (side_shape (capped_side x)) (side_shape (capped_side z))) (query_shape (map capped_block q))
    ≡ capped_shape (both (both (side_shape x) (side_shape z)) (query_shape q))
diff-shape x z q =
    ap (λ s. both (both s (side_shape (capped_side z))) (query_shape (map capped_block q))) (side-shape x)
    ∙ ap (λ s. both (both (capped_shape (side_shape x)) s) (query_shape (map capped_block q))) (side-shape z)
    ∙ ap (λ s. both (both (capped_shape (side_shape x)) (capped_shape (side_shape z))) s) (query-shape q)
    ∙ ap (λ s. both s (capped_shape (query_shape q))) (both-shape (side_shape x) (side_shape z))
    ∙ both-shape (both (side_shape x) (side_shape z)) (query_shape q)

pub question-limit : (x : Question) → passed_limit (question_shape (capped_question x)) ≡ passed_limit (question_shape x)
question-limit (syntax.bare question) = refl
question-limit (syntax.history table cond) = ap (λ z. passed_limit (shape_of_terms z)) (condition-terms cond) ∙ capped-limit (shape_of_terms (terms_of_condition cond))
question-limit (syntax.when q) = ap passed_limit (query-shape q) ∙ capped-limit (query_shape q)
question-limit (syntax.diff first second q) = ap passed_limit (diff-shape first second q) ∙ capped-limit (both (both (side_shape first) (side_shape second)) (query_shape q))
question-limit (syntax.causes subject q) = ap passed_limit (query-shape q) ∙ capped-limit (query_shape q)
question-limit (syntax.ask subject q) = ap passed_limit (query-shape q) ∙ capped-limit (query_shape q)
question-limit (syntax.what_if changes subject q) = ap passed_limit (what_if-shape changes q) ∙ capped-limit (both (changes_shape changes) (query_shape q))
question-limit (syntax.explain_saw t k q) = ap passed_limit (query-shape q) ∙ capped-limit (query_shape q)

pub question-exact : (x : Question) → passed_limit (question_shape x) ≡ None → capped_question x ≡ x
question-exact (syntax.bare question) h = refl
question-exact (syntax.history table cond) h = ap (λ z. syntax.history table z) (exact-condition cond (within-exact (shape_of_terms (terms_of_condition cond)) h))
question-exact (syntax.when q) h = ap (λ z. syntax.when z) (exact-query q (within-exact (query_shape q) h))
question-exact (syntax.diff first second q) h =
    let sides : List Term = (side_shape first).terms ++ (side_shape second).terms in
    let w : AreExact sides × AreExact (terms_of_query q) = exact-split sides (terms_of_query q) (within-exact (both (both (side_shape first) (side_shape second)) (query_shape q)) h) in
    let s : AreExact (side_shape first).terms × AreExact (side_shape second).terms = exact-split (side_shape first).terms (side_shape second).terms w.0 in
    ap (λ z. syntax.diff z (capped_side second) (map capped_block q)) (exact-side first s.0)
    ∙ ap (λ z. syntax.diff first z (map capped_block q)) (exact-side second s.1)
    ∙ ap (λ z. syntax.diff first second z) (exact-query q w.1)
question-exact (syntax.causes subject q) h = ap (λ z. syntax.causes subject z) (exact-query q (within-exact (query_shape q) h))
question-exact (syntax.ask subject q) h = ap (λ z. syntax.ask subject z) (exact-query q (within-exact (query_shape q) h))
question-exact (syntax.what_if changes subject q) h =
    let w : AreExact (commands_shape changes).terms × AreExact (terms_of_query q) =
    exact-split (commands_shape changes).terms (terms_of_query q) (within-exact (both (changes_shape changes) (query_shape q)) h) in
    ap (λ z. syntax.what_if z subject (map capped_block q)) (exact-changes changes w.0) ∙ ap (λ z. syntax.what_if changes subject z) (exact-query q w.1)
question-exact (syntax.explain_saw t k q) h = ap (λ z. syntax.explain_saw t k z) (exact-query q (within-exact (query_shape q) h))

pub terms-fair : CapsFairly term IsTerm capped term_shape
terms-fair = record { limit = term-limit; exact = term-exact }

pub commands-fair : CapsFairly command IsCommand capped_command command_shape
commands-fair = record { limit = command-limit; exact = command-exact }

pub lines-fair : CapsFairly script_line IsScriptLine capped_line line_shape
lines-fair = record { limit = λ x. command-limit x.command; exact = line-exact }

pub questions-fair : CapsFairly question IsQuestion capped_question question_shape
questions-fair = record { limit = question-limit; exact = question-exact }
