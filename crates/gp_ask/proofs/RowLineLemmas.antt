-- Lines of rows that are sorted by their tables, identities and places are in the order of the rows, and those of one row in the order in which they came.
use Rattle.std.proofs.Common.{◌≡◌, ℕ, suc, ◌+◌, ◌<◌, ◌≤◌, pos, ◌<ℤ◌, Bool, true, false, cond, List, [], ◌∷◌, ◌++◌, get_or, length, map, take, Some, None, refl, sym, ap, ◌∙◌, subst, arith}
use Rattle.std.specs.List.{flat_map}
use Rattle.std.specs.Ordering.{MatchOrdering, int_cmp, is_eq, is_le, nat_cmp, ordering_then}
use Rattle.std.specs.declared.cmp.Ordering.{Ordering}
use Rattle.std.specs.declared.cmp.Ordering.TheVariants.{Less, Equal, Greater}
use Rattle.std.specs.Cmp.{nat_cmp_is}
use Rattle.std.specs.Cmp.{IsTotalOrder}
use Rattle.std.specs.Option.{option_to_list}
use Rattle.std.specs.Prelude.{◌&&◌}
use Rattle.std.proofs.lemmas.Cmp.{int_ranked, nat_cmp_total, on_total, then_total}
use Rattle.std.proofs.lemmas.Int.{ints}
use Rattle.std.proofs.lemmas.Grind.{flat_map-append}
use Rattle.std.proofs.lemmas.List.{append-nil, append_assoc, length-append, take_more}
use Rattle.gp_base.specs.declared.cell.Cell.{Cell}
use Rattle.gp_base.specs.declared.cell.Cell.TheVariants as cell
use Rattle.gp_base.specs.Identities.{identity_cmp}
use Rattle.gp_base.specs.IdentityOrder.{identity_cmp_total}
use Rattle.gp_base.specs.Order.{insert_sorted, row_cmp, sorted_by}
use Rattle.gp_algebra.specs.Effects.{Written}
use Rattle.gp_machine.specs.Conflicts.{written_cmp}
use Rattle.gp_ask.specs.RowLines.{RowLine, first_text, first_texts, keyed_from, keyed_line, line_cmp, row_texts, same_key, sorted_texts, text_of}
use Rattle.gp_ask.proofs.OnceLemmas.{adjacent, once, once-sorted}
use Rattle.gp_ask.proofs.ChangesLemmas.{rises}

-- ---- numbers of tables

as-numbers : (p q : ℕ) (o : Ordering) → MatchOrdering o (pos p <ℤ pos q) (pos p ≡ pos q) (pos q <ℤ pos p) → MatchOrdering o (p < q) (p ≡ q) (q < p)
as-numbers p q Less is = omega (arith, ints)
as-numbers p q Equal is = cc
as-numbers p q Greater is = omega (arith, ints)

pub numbers-compared : (p q : ℕ) → int_cmp (pos p) (pos q) ≡ nat_cmp p q
numbers-compared p q = nat_cmp_is p q (int_cmp (pos p) (pos q)) (as-numbers p q (int_cmp (pos p) (pos q)) (int_ranked (pos p) (pos q) (int_cmp (pos p) (pos q)) refl))

-- ---- keys

compared-by : (o u w rest : Ordering) → w ≡ Less → is_le (ordering_then o (ordering_then u (ordering_then w rest))) ≡ is_le (ordering_then o u)
compared-by Less u w rest e = refl
compared-by Greater u w rest e = refl
compared-by Equal Less w rest e = refl
compared-by Equal Greater w rest e = refl
compared-by Equal Equal w rest e = ap (λ own. is_le (ordering_then own rest)) e

-- what follows the place of a key
abbrev behind : RowLine → List Cell
behind line = cell.Text line.1 ∷ []

pub compared : (p q : ℕ) (line other : RowLine) → p < q → is_le (row_cmp (keyed_line p line) (keyed_line q other)) ≡ is_le (line_cmp line other)
compared p q line other less =
    ap (λ (o : Ordering). is_le (ordering_then o (ordering_then (identity_cmp line.0.identity other.0.identity) (ordering_then (int_cmp (pos p) (pos q)) (row_cmp (behind line) (behind other))))))
    (numbers-compared line.0.table other.0.table)
    ∙ compared-by (nat_cmp line.0.table other.0.table) (identity_cmp line.0.identity other.0.identity) (int_cmp (pos p) (pos q)) (row_cmp (behind line) (behind other)) (rises p q less)

-- each key is that of the line beside it, with a place of this number at least
abbrev pub AreKeys : ℕ → List (List Cell) → List RowLine → Type 0
AreKeys low [] [] = Unit {0}
AreKeys low [] (line ∷ lines) = ⊥
AreKeys low (own ∷ keys) [] = ⊥
AreKeys low (own ∷ keys) (line ∷ lines) = ((place : ℕ) × ((low ≤ place) × (own ≡ keyed_line place line))) × AreKeys low keys lines

weaker : (low high : ℕ) (keys : List (List Cell)) (lines : List RowLine) → low ≤ high → AreKeys high keys lines → AreKeys low keys lines
weaker low high [] [] within are = tt
weaker low high [] (line ∷ lines) within are = absurd are
weaker low high (own ∷ keys) [] within are = absurd are
weaker low high (own ∷ keys) (line ∷ lines) within ((place, (above, is)), rest) = ((place, (omega arith, is)), weaker low high keys lines within rest)

-- by whether the line comes first, given the others with the line among them
placed : (p q : ℕ) (line other : RowLine) (own : List Cell) (keys : List (List Cell)) (lines : List RowLine) → suc p ≤ q → own ≡ keyed_line q other → AreKeys (suc p) keys lines
    → AreKeys p (insert_sorted row_cmp (keyed_line p line) keys) (insert_sorted line_cmp line lines)
    → (b : Bool) → AreKeys p (cond b (keyed_line p line ∷ own ∷ keys) (own ∷ insert_sorted row_cmp (keyed_line p line) keys)) (cond b (line ∷ other ∷ lines) (other ∷ insert_sorted line_cmp line lines))
placed p q line other own keys lines above is rest later true = ((p, (omega arith, refl)), ((q, (omega arith, is)), weaker p (suc p) keys lines (omega arith) rest))
placed p q line other own keys lines above is rest later false = ((q, (omega arith, is)), later)

inserted : (p : ℕ) (line : RowLine) (keys : List (List Cell)) (lines : List RowLine) → AreKeys (suc p) keys lines
    → AreKeys p (insert_sorted row_cmp (keyed_line p line) keys) (insert_sorted line_cmp line lines)
inserted p line [] [] are = ((p, (omega arith, refl)), tt)
inserted p line [] (other ∷ lines) are = absurd are
inserted p line (own ∷ keys) [] are = absurd are
inserted p line (own ∷ keys) (other ∷ lines) ((q, (above, is)), rest) =
    let same : is_le (row_cmp (keyed_line p line) own) ≡ is_le (line_cmp line other) = ap (λ k. is_le (row_cmp (keyed_line p line) k)) is ∙ compared p q line other (omega arith) in
    subst
    (λ b. AreKeys p (cond b (keyed_line p line ∷ own ∷ keys) (own ∷ insert_sorted row_cmp (keyed_line p line) keys))
    (cond (is_le (line_cmp line other)) (line ∷ other ∷ lines) (other ∷ insert_sorted line_cmp line lines)))
    (sym same) (placed p q line other own keys lines above is rest (inserted p line keys lines rest) (is_le (line_cmp line other)))

pub are-keys : (place : ℕ) (lines : List RowLine) → AreKeys place (sorted_by row_cmp (keyed_from place lines)) (sorted_by line_cmp lines)
are-keys place [] = tt
are-keys place (line ∷ lines) = inserted place line (sorted_by row_cmp (keyed_from (suc place) lines)) (sorted_by line_cmp lines) (are-keys (suc place) lines)

texts-are : (low : ℕ) (keys : List (List Cell)) (lines : List RowLine) → AreKeys low keys lines → row_texts keys ≡ map (λ (line : RowLine). line.1) lines
texts-are low [] [] are = refl
texts-are low [] (line ∷ lines) are = absurd are
texts-are low (own ∷ keys) [] are = absurd are
texts-are low (own ∷ keys) (line ∷ lines) ((place, (above, is)), rest) =
    ap (λ (k : List Cell). row_texts (k ∷ keys)) is ∙ ap (λ (texts : List (List ℕ)). line.1 ∷ texts) (texts-are low keys lines rest)

pub sorted-lines : (lines : List RowLine) → row_texts (sorted_by row_cmp (keyed_from 0 lines)) ≡ sorted_texts lines
sorted-lines lines = texts-are 0 (sorted_by row_cmp (keyed_from 0 lines)) (sorted_by line_cmp lines) (are-keys 0 lines)

-- ---- of each row the first line

pub written-total : IsTotalOrder written_cmp
written-total = then_total (on_total (λ (pair : Written). pair.table) nat_cmp_total) (on_total (λ (pair : Written). pair.identity) identity_cmp_total)

pub line-total : IsTotalOrder line_cmp
line-total = on_total (λ (line : RowLine). line.0) written-total

equal-both : (o u : Ordering) → (is_eq o && is_eq u) ≡ is_eq (ordering_then o u)
equal-both Less u = refl
equal-both Equal u = refl
equal-both Greater u = refl

same-key : (p q : ℕ) (line other : RowLine) → same_key (keyed_line p line) (keyed_line q other) ≡ is_eq (line_cmp line other)
same-key p q line other =
    ap (λ (o : Ordering). is_eq o && is_eq (identity_cmp line.0.identity other.0.identity)) (numbers-compared line.0.table other.0.table)
    ∙ equal-both (nat_cmp line.0.table other.0.table) (identity_cmp line.0.identity other.0.identity)

-- behind the key of a line
first-behind : (low p : ℕ) (last : RowLine) (keys : List (List Cell)) (lines : List RowLine) → AreKeys low keys lines
    → first_texts (Some (keyed_line p last)) keys ≡ map (λ (line : RowLine). line.1) (adjacent line_cmp line-total (Some last) lines)
first-behind low p last [] [] are = refl
first-behind low p last [] (line ∷ lines) are = absurd are
first-behind low p last (own ∷ keys) [] are = absurd are
first-behind low p last (own ∷ keys) (line ∷ lines) ((place, (above, is)), rest) =
    ap (λ (k : List Cell). first_text (Some (keyed_line p last)) k ++ first_texts (Some k) keys) is
    ∙ ap (λ (texts : List (List ℕ)). first_text (Some (keyed_line p last)) (keyed_line place line) ++ texts) (first-behind low place line keys lines rest)
    ∙ ap (λ b. cond b [] (line.1 ∷ []) ++ map (λ (line : RowLine). line.1) (adjacent line_cmp line-total (Some line) lines)) (same-key p place last line)
    ∙ elim (is_eq (line_cmp last line)) as (λ b. cond b [] (line.1 ∷ []) ++ map (λ (line : RowLine). line.1) (adjacent line_cmp line-total (Some line) lines)
    ≡ map (λ (line : RowLine). line.1) (cond b [] (line ∷ []) ++ adjacent line_cmp line-total (Some line) lines)) [ true ↦ refl | false ↦ refl ]

first-are : (low : ℕ) (keys : List (List Cell)) (lines : List RowLine) → AreKeys low keys lines → first_texts None keys ≡ map (λ (line : RowLine). line.1) (adjacent line_cmp line-total None lines)
first-are low [] [] are = refl
first-are low [] (line ∷ lines) are = absurd are
first-are low (own ∷ keys) [] are = absurd are
first-are low (own ∷ keys) (line ∷ lines) ((place, (above, is)), rest) =
    ap (λ (k : List Cell). option_to_list (text_of k) ++ first_texts (Some k) keys) is
    ∙ ap (λ (texts : List (List ℕ)). line.1 ∷ texts) (first-behind low place line keys lines rest)

pub first-lines : (lines : List RowLine) → first_texts None (sorted_by row_cmp (keyed_from 0 lines)) ≡ map (λ (line : RowLine). line.1) (sorted_by line_cmp (once line_cmp line-total lines))
first-lines lines =
    first-are 0 (sorted_by row_cmp (keyed_from 0 lines)) (sorted_by line_cmp lines) (are-keys 0 lines)
    ∙ ap (map (λ (line : RowLine). line.1)) (once-sorted line_cmp line-total lines)

-- ---- lists of keys

pub keyed-append : (place : ℕ) (lines others : List RowLine) → keyed_from place (lines ++ others) ≡ keyed_from place lines ++ keyed_from (place + length lines) others
keyed-append place [] others = ap (λ n. keyed_from n others) (omega arith)
keyed-append place (line ∷ lines) others =
    ap (λ (rows : List (List Cell)). keyed_line place line ∷ rows) (keyed-append (suc place) lines others)
    ∙ ap (λ n. keyed_line place line ∷ (keyed_from (suc place) lines ++ keyed_from n others)) (omega arith)

pub keyed-length : (place : ℕ) (lines : List RowLine) → length (keyed_from place lines) ≡ length lines
keyed-length place [] = refl
keyed-length place (line ∷ lines) = ap suc (keyed-length (suc place) lines)

-- lines behind others, in two steps
pub keyed-more : (old middle new : List (List Cell)) (lines others : List RowLine) → middle ≡ old ++ keyed_from (length old) lines → new ≡ middle ++ keyed_from (length middle) others
    → new ≡ old ++ keyed_from (length old) (lines ++ others)
keyed-more old middle new lines others first second =
    let count : length middle ≡ length old + length lines =
    ap length first ∙ length-append old (keyed_from (length old) lines) ∙ ap (λ n. length old + n) (keyed-length (length old) lines) in
    second
    ∙ (λ i. first i ++ keyed_from (count i) others)
    ∙ append_assoc old (keyed_from (length old) lines) (keyed_from (length old + length lines) others)
    ∙ ap (λ (rows : List (List Cell)). old ++ rows) (sym (keyed-append (length old) lines others))

-- what one more item gives
pub flat-more : {X Y : Type 0} (f : X → List Y) (xs : List X) (i : ℕ) (x : X) → i < length xs → x ≡ get_or xs i x → flat_map f (take (i + 1) xs) ≡ flat_map f (take i xs) ++ f x
flat-more {Y = Y} f xs i x within is =
    ap (flat_map f) (take_more xs i x within)
    ∙ flat_map-append f (take i xs) (get_or xs i x ∷ [])
    ∙ ap (λ own. flat_map f (take i xs) ++ (f own ++ [])) (sym is)
    ∙ ap (λ (more : List Y). flat_map f (take i xs) ++ more) (append-nil (f x))
