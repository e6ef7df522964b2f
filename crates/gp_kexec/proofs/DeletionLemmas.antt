-- Leaving rows out before a query or a statement, or after it.
use Rattle.gp_kexec.proofs.Prelude.{◌≡◌, ℕ, suc, refl, sym, ap, ◌∙◌, cond, Bool, true, false, List, [], ◌∷◌, ◌++◌, map, min, ◌+◌, ◌||◌, ◌==◌, not, ◌&&◌, flat_map, Less, Equal, Greater, by_order, Token, Annotations, Annotated, Database, monomials, Monomial, greatest_count, times, times_from, token_cmp, token_cmp-exact, passes, Select, Element, answer, values, given_from, filter-append, filter-map, filter_agree}
use Rattle.std.specs.List.{filter}
use Rattle.gp_base.specs.declared.token.Token.TheVariants.{Updated}
use Rattle.gp_algebra.specs.Statements.{Branch, Statement, insert, insert_select, update, delete, read}
use Rattle.gp_algebra.specs.Answers.{answer_from, choices, chosen, joined, no_choice, passes_where}
use Rattle.gp_algebra.specs.Effects.{assigned, changed, made, step, with_rows}
use Rattle.gp_kexec.specs.Deletion.{has_token, reduced}
use Rattle.gp_kexec.specs.DeletionForms.{Finds}
use Rattle.std.proofs.lemmas.Bool.{both_ways}

early : {X Y : Type 0} (p : Y → Bool) (q : X → Bool) (f : X → List Y) → ((x : X) → q x ≡ false → filter p (f x) ≡ []) → (xs : List X) → filter p (flat_map f xs) ≡ flat_map (λ x. cond (q x) (filter p (f x)) []) xs
early p q f none [] = refl
early p q f none (x ∷ xs) =
    filter-append p (f x) (flat_map f xs)
    ∙ ap (λ ys. filter p (f x) ++ ys) (early p q f none xs)
    ∙ ap (λ zs. zs ++ flat_map (λ x. cond (q x) (filter p (f x)) []) xs) (elim (q x) as (λ b. q x ≡ b → filter p (f x) ≡ cond b (filter p (f x)) []) [ true ↦ λ e. refl | false ↦ λ e. none x e ] refl)

not_or : (a b : Bool) → not (a || b) ≡ (not a && not b)
not_or true b = refl
not_or false b = refl

filter_twice : {X : Type 0} (p q : X → Bool) → ((x : X) → q x ≡ true → p x ≡ true) → (xs : List X) → filter q (filter p xs) ≡ filter q xs
filter_twice p q stronger [] = refl
filter_twice p q stronger (x ∷ xs) =
    elim (p x) as (λ b. p x ≡ b → filter q (cond b (x ∷ filter p xs) (filter p xs)) ≡ filter q (x ∷ xs)) [
      | true ↦ λ e. ap (λ ys. cond (q x) (x ∷ ys) ys) (filter_twice p q stronger xs)
      | false ↦ λ e. filter_twice p q stronger xs ∙ elim (q x) as (λ c. q x ≡ c → filter q xs ≡ cond c (x ∷ filter q xs) (filter q xs)) [
        | true ↦ λ f. absurd (let g = stronger x f in both_ways (p x) e g)
        | false ↦ λ f. refl
      ] refl
    ] refl

filter_none : {X : Type 0} (xs : List X) → filter (λ x. false) xs ≡ []
filter_none [] = refl
filter_none (x ∷ xs) = filter_none xs

pub filter_crossed : {X : Type 0} (p q : X → Bool) (xs : List X) → filter p (filter q xs) ≡ filter q (filter p xs)
filter_crossed p q [] = refl
filter_crossed p q (x ∷ xs) =
    elim (q x) as (λ b. q x ≡ b → filter p (cond b (x ∷ filter q xs) (filter q xs)) ≡ filter q (cond (p x) (x ∷ filter p xs) (filter p xs))) [
      | true ↦ λ e. ap (λ ys. cond (p x) (x ∷ ys) ys) (filter_crossed p q xs) ∙ elim (p x) as (λ c. cond c (x ∷ filter q (filter p xs)) (filter q (filter p xs)) ≡ filter q (cond c (x ∷ filter p xs) (filter p xs))) [ true ↦ sym (ap (λ d. cond d (x ∷ filter q (filter p xs)) (filter q (filter p xs))) e) | false ↦ refl ]
      | false ↦ λ e. filter_crossed p q xs ∙ elim (p x) as (λ c. filter q (filter p xs) ≡ filter q (cond c (x ∷ filter p xs) (filter p xs))) [ true ↦ sym (ap (λ d. cond d (x ∷ filter q (filter p xs)) (filter q (filter p xs))) e) | false ↦ refl ]
    ] refl

flat_map_filter : {X Y : Type 0} (q : X → Bool) (f : X → List Y) (xs : List X) → flat_map (λ x. cond (q x) (f x) []) xs ≡ flat_map f (filter q xs)
flat_map_filter q f [] = refl
flat_map_filter q f (x ∷ xs) =
    elim (q x) as (λ b. cond b (f x) [] ++ flat_map (λ x. cond (q x) (f x) []) xs ≡ flat_map f (cond b (x ∷ filter q xs) (filter q xs))) [
      | true ↦ ap (λ ys. f x ++ ys) (flat_map_filter q f xs)
      | false ↦ flat_map_filter q f xs
    ]

flat_map_same : {X Y : Type 0} (f g : X → List Y) (p : X → Bool) → ((x : X) → p x ≡ true → f x ≡ g x) → (xs : List X) → flat_map f (filter p xs) ≡ flat_map g (filter p xs)
flat_map_same f g p are [] = refl
flat_map_same f g p are (x ∷ xs) =
    elim (p x) as (λ b. p x ≡ b → flat_map f (cond b (x ∷ filter p xs) (filter p xs)) ≡ flat_map g (cond b (x ∷ filter p xs) (filter p xs))) [
      | true ↦ λ e. ap (λ ys. ys ++ flat_map f (filter p xs)) (are x e) ∙ ap (λ ys. g x ++ ys) (flat_map_same f g p are xs)
      | false ↦ λ e. flat_map_same f g p are xs
    ] refl

module _ {M : Type 0} (domain : Annotations M) (has : M → Bool) (finds : Finds domain has) where
  abbrev clear : Element M → Bool
  clear e = not (has e.annotation)

  clear_joined : (number : ℕ) (row : Annotated M) (e : Element M) → clear (joined domain number row e) ≡ (not (has row.annotation) && clear e)
  clear_joined number row e = ap not (finds.times row.annotation e.annotation) ∙ not_or (has row.annotation) (has e.annotation)

  row_out : (number : ℕ) (row : Annotated M) (es : List (Element M)) → not (has row.annotation) ≡ false → filter clear (map (joined domain number row) es) ≡ []
  row_out number row es out =
      filter-map clear (joined domain number row) es
      ∙ ap (map (joined domain number row)) (filter_agree (λ e. clear (joined domain number row e)) (λ e. false) (λ e. clear_joined number row e ∙ ap (λ b. b && clear e) out) es ∙ filter_none es)

  row_in : (number : ℕ) (row : Annotated M) (es : List (Element M)) → not (has row.annotation) ≡ true → filter clear (map (joined domain number row) es) ≡ map (joined domain number row) (filter clear es)
  row_in number row es kept =
      filter-map clear (joined domain number row) es
      ∙ ap (map (joined domain number row)) (filter_agree (λ e. clear (joined domain number row e)) clear (λ e. clear_joined number row e ∙ ap (λ b. b && clear e) kept) es)

  -- the clear choices are those among the clear rows
  choices_reduced : (number : ℕ) (tables : List ℕ) (db : Database M) → filter clear (choices domain number tables db) ≡ choices domain number tables (reduced has db)
  choices_reduced number [] db = ap (λ b. cond (not b) (no_choice domain number ∷ []) []) finds.one
  choices_reduced number (table ∷ tables) db =
      early clear (λ row. not (has row.annotation)) (λ row. map (joined domain number row) (choices domain number tables db)) (λ row. row_out number row (choices domain number tables db)) (db table)
      ∙ flat_map_filter (λ row. not (has row.annotation)) (λ row. filter clear (map (joined domain number row) (choices domain number tables db))) (db table)
      ∙ flat_map_same _ _ (λ (row : Annotated M). not (has row.annotation)) (λ row kept. row_in number row (choices domain number tables db) kept ∙ ap (map (joined domain number row)) (choices_reduced number tables db)) (db table)

  chosen_reduced : (number : ℕ) (branch : Branch) (db : Database M) → filter clear (chosen domain number branch db) ≡ chosen domain number branch (reduced has db)
  chosen_reduced number branch db =
      filter-map clear (λ (e : Element M). record e { cells = values branch.items e.cells }) (filter (λ (e : Element M). passes_where branch.cond e.cells) (choices domain number branch.from db))
      ∙ ap (map (λ (e : Element M). record e { cells = values branch.items e.cells }))
      (filter_crossed clear (λ (e : Element M). passes_where branch.cond e.cells) (choices domain number branch.from db) ∙ ap (filter (λ (e : Element M). passes_where branch.cond e.cells)) (choices_reduced number branch.from db))

  -- the answer over the reduced database is the clear part of the answer
  pub answer_reduced : (number : ℕ) (branches : Select) (db : Database M) → filter clear (answer_from domain number branches db) ≡ answer_from domain number branches (reduced has db)
  answer_reduced number [] db = refl
  answer_reduced number (branch ∷ branches) db =
      filter-append clear (chosen domain number branch db) (answer_from domain (suc number) branches db)
      ∙ ap (λ es. es ++ filter clear (answer_from domain (suc number) branches db)) (chosen_reduced number branch db)
      ∙ ap (λ es. chosen domain number branch (reduced has db) ++ es) (answer_reduced (suc number) branches db)

  abbrev clean : Annotated M → Bool
  clean row = not (has row.annotation)

  clean_twice : (rows : List (Annotated M)) → filter clean rows ≡ filter clean (filter clean rows)
  clean_twice rows = sym (filter_twice clean clean (λ row e. e) rows)

  -- what is found in a factor is found in the product
  left_clear : (a b : M) → not (has (domain.times a b)) ≡ true → not (has a) ≡ true
  left_clear a b e = both (has a) (has b) (sym (ap not (finds.times a b)) ∙ e)
    where
      both : (x y : Bool) → not (x || y) ≡ true → not x ≡ true
      both true y p = p
      both false y p = refl

  right_clear : (a b : M) → not (has (domain.times a b)) ≡ true → not (has b) ≡ true
  right_clear a b e = both (has a) (has b) (sym (ap not (finds.times a b)) ∙ e)
    where
      both : (x y : Bool) → not (x || y) ≡ true → not y ≡ true
      both true true p = p
      both true false p = refl
      both false y p = p

  in_table : (table : ℕ) (xs ys : List (Annotated M)) (db : Database M) → filter clean xs ≡ filter clean ys → (other : ℕ) → reduced has (with_rows table xs db) other ≡ reduced has (with_rows table ys (reduced has db)) other
  in_table table xs ys db s other = elim (other == table) as (λ c. filter clean (cond c xs (db other)) ≡ filter clean (cond c ys (reduced has db other))) [ true ↦ s | false ↦ clean_twice (db other) ]

  appended : (rows xs ys : List (Annotated M)) → filter clean xs ≡ filter clean ys → filter clean (rows ++ xs) ≡ filter clean (filter clean rows ++ ys)
  appended rows xs ys s = filter-append clean rows xs ∙ ap (λ zs. filter clean rows ++ zs) s ∙ ap (λ zs. zs ++ filter clean ys) (clean_twice rows) ∙ sym (filter-append clean (filter clean rows) ys)

  mapped : {X : Type 0} (f : X → Annotated M) (p : X → Bool) → ((x : X) → clean (f x) ≡ true → p x ≡ true) → (xs : List X) → filter clean (map f xs) ≡ filter clean (map f (filter p xs))
  mapped f p stronger xs = filter-map clean f xs ∙ ap (map f) (sym (filter_twice p (λ x. clean (f x)) stronger xs)) ∙ sym (filter-map clean f (filter p xs))

  -- leaving rows out before a statement, and then from its result, is leaving them out from its result
  pub step_reduced : (t k : ℕ) (statement : Statement) (db : Database M) (table : ℕ) → reduced has (step domain t k statement db) table ≡ reduced has (step domain t k statement (reduced has db)) table
  step_reduced t k (insert table rows) db = in_table table _ _ db (appended (db table) (given_from domain t k 1 rows) (given_from domain t k 1 rows) refl)
  step_reduced t k (insert_select table branches) db =
      in_table table _ _ db (appended (db table) _ _ (mapped (made domain t k) clear (λ e c. right_clear _ e.annotation c) (answer domain branches db) ∙ ap (λ es. filter clean (map (made domain t k) es)) (answer_reduced 1 branches db)))
  step_reduced t k (update table sets c) db = in_table table _ _ db (mapped (changed domain t k sets c) clean one (db table))
    where
      one : (row : Annotated M) → clean (changed domain t k sets c row) ≡ true → clean row ≡ true
      one row = elim (passes c row.cells) as (λ b. clean (cond b (record { identity = row.identity; cells = assigned sets row.cells; mark = true; annotation = domain.times row.annotation (domain.token (Updated t k)) }) row) ≡ true → clean row ≡ true) [
        | true ↦ λ h. left_clear row.annotation _ h
        | false ↦ λ h. h
      ]
  step_reduced t k (delete table c) db =
      in_table table _ _ db (filter_crossed clean (λ row. not (passes c row.cells)) (db table) ∙ ap (filter (λ row. not (passes c row.cells))) (clean_twice (db table)) ∙ sym (filter_crossed clean (λ row. not (passes c row.cells)) (filter clean (db table))))
  step_reduced t k (read branches) db = λ table. clean_twice (db table)

-- ---- tokens in monomials

or_within : (a b c : Bool) → (a || (b || c)) ≡ (a || (b || (a || c)))
or_within true b c = refl
or_within false true c = refl
or_within false false c = refl

or_front : (o a b c : Bool) → (o || (a || (b || c))) ≡ (a || (b || (o || c)))
or_front true true b c = refl
or_front true false true c = refl
or_front true false false c = refl
or_front false a b c = refl

or_grouped : (a b c : Bool) → (a || (b || c)) ≡ ((a || b) || c)
or_grouped true b c = refl
or_grouped false b c = refl

module _ (matches : Token → Bool) where
  found_from : (pair : Token × ℕ) (rest : Monomial → Monomial) (b : Bool) → ((others : Monomial) → has_token matches (rest others) ≡ (b || has_token matches others))
      → (others : Monomial) → has_token matches (times_from pair rest others) ≡ (matches pair.0 || (b || has_token matches others))
  found_from pair rest b found [] = ap (λ c. matches pair.0 || c) (found [])
  found_from pair rest b found (other ∷ others) =
      elim (token_cmp pair.0 other.0) as (λ r. token_cmp pair.0 other.0 ≡ r → has_token matches (by_order r (pair ∷ rest (other ∷ others)) ((pair.0, min (pair.1 + other.1) greatest_count) ∷ rest others) (other ∷ times_from pair rest others))
      ≡ (matches pair.0 || (b || (matches other.0 || has_token matches others)))) [
        | Less ↦ λ p. ap (λ c. matches pair.0 || c) (found (other ∷ others))
        | Equal ↦ λ p. ap (λ c. matches pair.0 || c) (found others) ∙ or_within (matches pair.0) b (has_token matches others) ∙ ap (λ t. matches pair.0 || (b || (matches t || has_token matches others))) (token_cmp-exact pair.0 other.0 p)
        | Greater ↦ λ p. ap (λ c. matches other.0 || c) (found_from pair rest b found others) ∙ or_front (matches other.0) (matches pair.0) b (has_token matches others)
      ] refl

  pub found_in_product : (a b : Monomial) → has_token matches (times a b) ≡ (has_token matches a || has_token matches b)
  found_in_product [] b = refl
  found_in_product (pair ∷ pairs) b =
      found_from pair (times pairs) (has_token matches pairs) (λ others. found_in_product pairs others) b ∙ or_grouped (matches pair.0) (has_token matches pairs) (has_token matches b)

pub monomials_find : (matches : Token → Bool) → Finds monomials (has_token matches)
monomials_find matches = record { one = refl; times = found_in_product matches }
