-- The answer of a query depends on the identities and the cells of the tables that it reads, and on nothing else.
use Rattle.std.proofs.Common.{◌≡◌, ℕ, suc, ◌+◌, ◌<◌, ◌==◌, Bool, true, false, ◌||◌, ltb, List, [], ◌∷◌, ◌++◌, map, length, get_or, refl, ap, sym, ◌∙◌, subst, arith, inl, inr}
use Rattle.std.proofs.Math.ListN.{get_or-append}
use Rattle.std.proofs.Math.Seq.{get_or-append_seam}
use Rattle.std.specs.List.{filter, flat_map, list_all}
use Rattle.std.proofs.lemmas.Bool.{and_parts, cases_lt, eq-eqb, eqb-true, ltb-true, or_left, or_right}
use Rattle.gp_base.specs.declared.stored.Stored.{Stored}
use Rattle.gp_base.specs.Annotated.{unannotated, Database}
use Rattle.gp_algebra.specs.Statements.{Branch, Select}
use Rattle.gp_algebra.specs.Answers.{Element, values, passes_where, joined, choices, chosen, answer_from, answer}
use Rattle.gp_exec.specs.Choosing.{row_view}
use Rattle.gp_txn.specs.Applying.{reads_below}
use Rattle.gp_txn.specs.Inserting.{names_table, reads_table}
use Rattle.gp_txn.specs.Overlay.{PlainRow, stored_of}
use Rattle.gp_base.proofs.SmallLemmas.{flat_map-map}

-- ---- the answer

-- its tables are those of another database, as they are stored
abbrev pub Agree : (ℕ → Bool) → Database (Unit {0}) → Database (Unit {0}) → Type 0
Agree is_read db other = (p : ℕ) → is_read p ≡ true → other p ≡ map row_view (map stored_of (db p))

rows-agree : (b : ℕ) (rest : List (Element (Unit {0}))) (rows : List PlainRow) → flat_map (λ row. map (joined unannotated b row) rest) (map row_view (map stored_of rows)) ≡ flat_map (λ row. map (joined unannotated b row) rest) rows
rows-agree b rest rows =
    flat_map-map (λ (row : PlainRow). map (joined unannotated b row) rest) row_view (map stored_of rows)
    ∙ flat_map-map (λ (stored : Stored). map (joined unannotated b (row_view stored)) rest) stored_of rows

named-first : (place : ℕ) (places : List ℕ) → names_table place (place ∷ places) ≡ true
named-first place places = ap (λ b. b || names_table place places) (eq-eqb place place refl)

choices-agree : (b : ℕ) (places : List ℕ) (db other : Database (Unit {0})) → Agree (λ p. names_table p places) db other → choices unannotated b places other ≡ choices unannotated b places db
choices-agree b [] db other agree = refl
choices-agree b (place ∷ places) db other agree =
    ap (λ rows. flat_map (λ row. map (joined unannotated b row) (choices unannotated b places other)) rows) (agree place (named-first place places))
    ∙ rows-agree b (choices unannotated b places other) (db place)
    ∙ ap (λ (rest : List (Element (Unit {0}))). flat_map (λ row. map (joined unannotated b row) rest) (db place)) (choices-agree b places db other (λ p is. agree p (or_right (place == p) (names_table p places) is)))

chosen-agree : (b : ℕ) (branch : Branch) (db other : Database (Unit {0})) → Agree (λ p. names_table p branch.from) db other → chosen unannotated b branch other ≡ chosen unannotated b branch db
chosen-agree b branch db other agree =
    ap (λ (elements : List (Element (Unit {0}))). map (λ (e : Element (Unit {0})). record e { cells = values branch.items e.cells }) (filter (λ (e : Element (Unit {0})). passes_where branch.cond e.cells) elements)) (choices-agree b branch.from db other agree)

answer_from-agree : (b : ℕ) (select : Select) (db other : Database (Unit {0})) → Agree (λ p. reads_table p select) db other → answer_from unannotated b select other ≡ answer_from unannotated b select db
answer_from-agree b [] db other agree = refl
answer_from-agree b (branch ∷ select) db other agree =
    let here = chosen-agree b branch db other (λ p is. agree p (or_left (names_table p branch.from) (reads_table p select) is)) in
    let rest = answer_from-agree (suc b) select db other (λ p is. agree p (or_right (names_table p branch.from) (reads_table p select) is)) in
    cc (here, rest)

pub answer-agree : (select : Select) (db other : Database (Unit {0})) → Agree (λ p. reads_table p select) db other → answer unannotated select other ≡ answer unannotated select db
answer-agree select db other agree = answer_from-agree 1 select db other agree

-- ---- the tables that are read

either : (a b : Bool) (P : Type 0) → (a ≡ true → P) → (b ≡ true → P) → (a || b) ≡ true → P
either true b P left right is = left refl
either false b P left right is = right is

below-named : (count p : ℕ) (places : List ℕ) → list_all (λ place. ltb place count) places ≡ true → names_table p places ≡ true → p < count
below-named count p [] all is = absurd (cc)
below-named count p (place ∷ places) all is =
    let parts = and_parts (ltb place count) (list_all (λ q. ltb q count) places) all in
    either (place == p) (names_table p places) (p < count) (λ same. subst (λ q. q < count) (eqb-true place p same) (ltb-true place count parts.0)) (below-named count p places parts.1) is

pub below-read : (count p : ℕ) (select : Select) → reads_below count select ≡ true → reads_table p select ≡ true → p < count
below-read count p [] all is = absurd (cc)
below-read count p (branch ∷ select) all is =
    let parts = and_parts (list_all (λ q. ltb q count) branch.from) (reads_below count select) all in
    either (names_table p branch.from) (reads_table p select) (p < count) (below-named count p branch.from parts.0) (below-read count p select parts.1) is

-- ---- one more table

pub up-to : (Q : ℕ → Type 0) (n : ℕ) → ((p : ℕ) → p < n → Q p) → Q n → (p : ℕ) → p < n + 1 → Q p
up-to Q n each last p low =
    elim (cases_lt p n) [
      | inl early ↦ each p early
      | inr late ↦ let same : n ≡ p = omega (arith, low, late) in subst Q same last
    ]

pub each-more : (P : ℕ → List Stored → Type 0) (tables : List (List Stored)) (rows : List Stored) (n : ℕ) → length tables ≡ n → ((p : ℕ) → p < n → P p (get_or tables p [])) → P n rows
    → (p : ℕ) → p < n + 1 → P p (get_or (tables ++ rows ∷ []) p [])
each-more P tables rows n len each last =
    up-to (λ p. P p (get_or (tables ++ rows ∷ []) p [])) n
    (λ p early. subst (P p) (sym (get_or-append tables (rows ∷ []) [] p (omega (arith, early, len)))) (each p early))
    (subst (λ q. P q (get_or (tables ++ rows ∷ []) q [])) len (subst (P (length tables)) (sym (get_or-append_seam tables rows [] [])) (subst (λ q. P q rows) (sym len) last)))
