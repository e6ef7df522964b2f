-- What a relation is after a flag was set, and the flags of one that is empty.
use Rattle.gp_serial.proofs.Prelude.{◌≡◌, ◌<◌, ℕ, zero, suc, Bool, true, false, List, [], ◌∷◌, length, get_or, map, refl, sym, ap, ◌∙◌, subst, arith, inl, inr, ◌&&◌, ◌||◌, ◌==◌, AllByRecursion, cases_eq, eq-eqb, ne_eqb, get_or-map, length-map, or_nothing}
use Rattle.std.proofs.Common.{replicate, set, get_or-set_other, get_or-set_same}
use Rattle.std.specs.Prelude.{Vec}
use Rattle.std.specs.declared.alloc.Global.{Global}
use Rattle.std.proofs.lemmas.List.{length-replicate, map-set}
use Rattle.gp_serial.specs.Relations.{is_edge}

-- ---- rows of one length

rows_even : (n m : ℕ) (rows : List (Vec Bool Global)) → map (λ (row : Vec Bool Global). row.items) rows ≡ replicate m (replicate n false) → AllByRecursion (λ (row : Vec Bool Global). length row.items ≡ n) rows
rows_even n m [] e = tt
rows_even n zero (row ∷ rows) e = absurd cc
rows_even n (suc m) (row ∷ rows) e =
    let own : row.items ≡ replicate n false = cc in
    let others : map (λ (row : Vec Bool Global). row.items) rows ≡ replicate m (replicate n false) = cc in
    (ap length own ∙ length-replicate n false, rows_even n m rows others)

pub rows_square : (n : ℕ) (rows : List (Vec Bool Global)) → map (λ (row : Vec Bool Global). row.items) rows ≡ replicate n (replicate n false)
    → AllByRecursion (λ (row : Vec Bool Global). length row.items ≡ length rows) rows
rows_square n rows e =
    let count : length rows ≡ n = sym (length-map rows (λ (row : Vec Bool Global). row.items)) ∙ ap length e ∙ length-replicate n (replicate n false) in
    subst (λ m. AllByRecursion (λ (row : Vec Bool Global). length row.items ≡ m) rows) (sym count) (rows_even n n rows e)

pub each_at : {A : Type 0} (P : A → Type 0) (xs : List A) → AllByRecursion P xs → (i : ℕ) (d : A) → i < length xs → P (get_or xs i d)
each_at P [] each i d within = absurd (omega (arith, within))
each_at P (x ∷ xs) each zero d within = each.0
each_at P (x ∷ xs) each (suc i) d within = each_at P xs each.1 i d (omega (arith, within))

-- ---- an edge more

or_all : (a : Bool) → (a || true) ≡ true
or_all true = refl
or_all false = refl

row_added : (row : List Bool) (b y : ℕ) → y < length row → get_or (set row b true) y false ≡ (get_or row y false || (y == b))
row_added row b y within =
    elim (cases_eq y b) [
      | inl is ↦ rw (eq-eqb y b is) (
          ap (λ n. get_or (set row n true) y false) (sym is) ∙ get_or-set_same row y true false within ∙ sym (or_all (get_or row y false)))
      | inr other ↦ rw (ne_eqb y b other) (get_or-set_other row b y true false other ∙ sym (or_nothing (get_or row y false)))
    ]

pub edge_added : (rows : List (List Bool)) (a b x y : ℕ) → x < length rows → y < length (get_or rows x [])
    → is_edge (set rows a (set (get_or rows a []) b true)) x y ≡ (is_edge rows x y || ((x == a) && (y == b)))
edge_added rows a b x y there within =
    elim (cases_eq x a) [
      | inl is ↦ rw (eq-eqb x a is) (
          ap (λ n. get_or (get_or (set rows n (set (get_or rows n []) b true)) x []) y false) (sym is)
          ∙ ap (λ row. get_or row y false) (get_or-set_same rows x (set (get_or rows x []) b true) [] there)
          ∙ row_added (get_or rows x []) b y within)
      | inr other ↦ rw (ne_eqb x a other) (
          ap (λ row. get_or row y false) (get_or-set_other rows a x (set (get_or rows a []) b true) [] other) ∙ sym (or_nothing (get_or (get_or rows x []) y false)))
    ]

-- one flag of one row was set
pub added : {V : Type 0} (flags : V → List Bool) (rows : List V) (now : List (List Bool)) (a b x y : ℕ) (old new : V) → map flags rows ≡ now
    → AllByRecursion (λ row. length (flags row) ≡ length rows) rows → a < length rows → old ≡ get_or rows a old → flags new ≡ set (flags old) b true → x < length now → y < length now
    → is_edge (map flags (set rows a new)) x y ≡ (is_edge now x y || ((x == a) && (y == b)))
added flags rows now a b x y old new is even there at made one two =
    let long : length now ≡ length rows = ap length (sym is) ∙ length-map rows flags in
    let within : x < length rows = subst (λ n. x < n) long one in
    let row : get_or now x [] ≡ flags (get_or rows x old) = ap (λ all. get_or all x []) (sym is) ∙ get_or-map flags rows x old [] within in
    let wide : length (get_or now x []) ≡ length now = ap length row ∙ each_at (λ row. length (flags row) ≡ length rows) rows even x old within ∙ sym long in
    let own : flags old ≡ get_or now a [] = ap flags at ∙ sym (get_or-map flags rows a old [] there) ∙ ap (λ all. get_or all a []) is in
    let whole : map flags (set rows a new) ≡ set now a (set (get_or now a []) b true) =
    map-set flags rows a new ∙ (λ i. set (is i) a (made i)) ∙ ap (λ row. set now a (set row b true)) own in
    ap (λ all. is_edge all x y) whole ∙ edge_added now a b x y one (subst (λ n. y < n) (sym wide) two)
