-- The first of all reasons is the first that the code finds.
use Rattle.gp_serial.proofs.Prelude.{◌≡◌, ◌≢◌, ◌<◌, ◌≤◌, ◌+◌, ℕ, zero, suc, Bool, true, false, cond, List, [], ◌∷◌, ◌++◌, map, Option, Some, None, refl, sym, ap, ◌∙◌, subst, arith, add-one, ⊎_elim, ◌==◌, ◌&&◌, filter, nat_lt, slice_get, flat_map, list_any, option_map, option_map_or, option_or, cases_lt, append-nil, append_assoc, Table, eq_not, map-map, Entry, committer_of, statement_at, statement_count, statement_version, Look, looks, Reason, ReadAfter, ReadBefore, Wrote, changes_by, meets, numbers, read_after, read_before, reasons, same_row, wrote_before, RowChange}
use Rattle.std.proofs.lemmas.Grind.{flat_map-append}
use Rattle.gp_base.proofs.SmallLemmas.{filter-map, flat_map_agree, map-flat_map, map_agree}
use Rattle.gp_serial.specs.declared.changes.RowChange as code
use Rattle.gp_serial.specs.Changes.{AreMade, change_view}
use Rattle.gp_serial.specs.Reasons.{first_looked, first_of, first_reading, first_write, is_looked, is_on_side, is_rewrite, looked, paired, readings, rewrites}
use Rattle.gp_machine.proofs.Distinct.{filter-filter}

-- ---- the first of a list

pub first_append : {A : Type 0} (xs ys : List A) → first_of (xs ++ ys) ≡ option_or (first_of xs) (first_of ys)
first_append [] ys = refl
first_append (x ∷ xs) ys = refl

pub first_map : {A B : Type 0} (f : A → B) (xs : List A) → first_of (map f xs) ≡ option_map f (first_of xs)
first_map f [] = refl
first_map f (x ∷ xs) = refl

pub none_first : {A : Type 0} (xs : List A) → first_of xs ≡ None → xs ≡ []
none_first [] e = refl
none_first (x ∷ xs) e = absurd (filled x e)
  where
    filled : {A : Type 0} (x : A) → Some x ≡ None → ⊥
    filled x e = cc

none_pass : {A : Type 0} (xs : List A) → filter (λ x. false) xs ≡ []
none_pass [] = refl
none_pass (x ∷ xs) = none_pass xs

-- ---- what a statement looks at

module _ (tables : List Table) (entries : List Entry) where
  abbrev looks_at : ℕ → ℕ → List Look
  looks_at reader k = option_map_or (looks tables) (statement_at reader k entries) []

  -- the tests are one test of the changes of the code
  pub looked_is : (reader k writer : ℕ) (earlier : Bool) (changes : List code.RowChange) → AreMade entries changes
      → looked tables entries reader k writer (map change_view changes) earlier ≡ map change_view (filter (is_looked writer (statement_version reader k entries) earlier (looks_at reader k)) changes)
  looked_is reader k writer earlier changes made =
      filter-filter (λ shown. list_any (meets shown) (looks_at reader k)) (λ (shown : RowChange). is_on_side (statement_version reader k entries) shown earlier)
      (changes_by tables entries (map change_view changes) writer)
      ∙ filter-filter (λ shown. is_on_side (statement_version reader k entries) shown earlier && list_any (meets shown) (looks_at reader k))
      (λ (shown : RowChange). committer_of shown.version entries == writer) (map change_view changes)
      ∙ filter-map (λ shown. (committer_of shown.version entries == writer) && (is_on_side (statement_version reader k entries) shown earlier && list_any (meets shown) (looks_at reader k))) change_view changes
      ∙ ap (map change_view) (agree changes made)
    where
      agree : (changes : List code.RowChange) → AreMade entries changes
          → filter (λ (change : code.RowChange). (committer_of change.version entries == writer)
          && (is_on_side (statement_version reader k entries) (change_view change) earlier && list_any (meets (change_view change)) (looks_at reader k))) changes
          ≡ filter (is_looked writer (statement_version reader k entries) earlier (looks_at reader k)) changes
      agree [] made = refl
      agree (change ∷ changes) (here, made) = λ i.
          cond ((sym here i == writer) && (is_on_side (statement_version reader k entries) (change_view change) earlier && list_any (meets (change_view change)) (looks_at reader k)))
          (change ∷ agree changes made i) (agree changes made i)

  -- the first of them
  pub looked_first : (reader k writer : ℕ) (earlier : Bool) (changes : List code.RowChange) (found : Option code.RowChange) → AreMade entries changes
      → found ≡ first_of (filter (is_looked writer (statement_version reader k entries) earlier (looks_at reader k)) changes)
      → option_map change_view found ≡ first_looked tables entries reader k writer (map change_view changes) earlier
  looked_first reader k writer earlier changes found made is =
      ap (option_map change_view) is
      ∙ sym (first_map change_view (filter (is_looked writer (statement_version reader k entries) earlier (looks_at reader k)) changes))
      ∙ sym (ap first_of (looked_is reader k writer earlier changes made))

  -- a number without a statement looks at nothing
  pub looked_none : (reader k writer : ℕ) (changes : List RowChange) (earlier : Bool) → statement_at reader k entries ≡ None → first_looked tables entries reader k writer changes earlier ≡ None
  looked_none reader k writer changes earlier none =
      ap (λ found. first_of (filter (λ shown. list_any (meets shown) (option_map_or (looks tables) found []))
      (filter (λ (shown : RowChange). is_on_side (statement_version reader k entries) shown earlier) (changes_by tables entries changes writer)))) none
      ∙ ap first_of (none_pass (filter (λ (shown : RowChange). is_on_side (statement_version reader k entries) shown earlier) (changes_by tables entries changes writer)))

  -- ---- the statements of a transaction

  module _ {A : Type 0} (kind : ℕ → RowChange → A) (reader writer : ℕ) (changes : List RowChange) (earlier : Bool) where
    abbrev all : ℕ → List A
    all n = readings tables entries kind reader writer changes earlier n

    abbrev own : ℕ → List A
    own k = map (kind k) (looked tables entries reader k writer changes earlier)

    pub readings_next : (n : ℕ) → all (suc n) ≡ all n ++ own (suc n)
    readings_next n =
        flat_map-append (λ k. map (kind k) (looked tables entries reader k writer changes earlier)) (numbers n) (suc n ∷ []) ∙ ap (λ rest. all n ++ rest) (append-nil (own (suc n)))

    -- the others stand behind those of the first ones
    begins : (n k : ℕ) → k ≤ n → (rest : List A) × (all n ≡ all k ++ rest)
    begins zero k l = ([], ap all (sym (zero_is k l)) ∙ sym (append-nil (all k)))
      where
        zero_is : (k : ℕ) → k ≤ 0 → k ≡ 0
        zero_is k l = omega (arith, l)
    begins (suc n) k l =
        ⊎_elim
        (λ below. let earlier = begins n k (omega (arith, below)) in
        (earlier.0 ++ own (suc n), readings_next n ∙ ap (λ front. front ++ own (suc n)) earlier.1 ∙ append_assoc (all k) earlier.0 (own (suc n))))
        (λ above. ([], ap all (same above) ∙ sym (append-nil (all k))))
        (cases_lt k (suc n))
      where
        same : suc n ≤ k → suc n ≡ k
        same above = omega (arith, above, l)

    pub first_at : (n k : ℕ) → k < n → all k ≡ [] → (change : RowChange) → first_looked tables entries reader (suc k) writer changes earlier ≡ Some change → first_of (all n) ≡ Some (kind (suc k) change)
    first_at n k l none change is =
        let rest = begins n (suc k) (omega (arith, l)) in
        ap first_of (rest.1 ∙ ap (λ front. front ++ rest.0) (readings_next k ∙ ap (λ front. front ++ own (suc k)) none))
        ∙ first_append (own (suc k)) rest.0
        ∙ ap (λ first. option_or first (first_of rest.0)) (first_map (kind (suc k)) (looked tables entries reader (suc k) writer changes earlier) ∙ ap (option_map (kind (suc k))) is)

    pub none_at : (k : ℕ) → all k ≡ [] → first_looked tables entries reader (suc k) writer changes earlier ≡ None → all (suc k) ≡ []
    none_at k none is =
        readings_next k ∙ ap (λ front. front ++ own (suc k)) none ∙ ap (map (kind (suc k))) (none_first (looked tables entries reader (suc k) writer changes earlier) is)

    -- by the number of the code
    pub first_plus : (n k : ℕ) → k < n → all k ≡ [] → (change : RowChange) → first_looked tables entries reader (k + 1) writer changes earlier ≡ Some change → Some (kind (k + 1) change) ≡ first_of (all n)
    first_plus n k l none change is =
        subst (λ m. first_looked tables entries reader m writer changes earlier ≡ Some change → Some (kind m change) ≡ first_of (all n)) (sym (add-one k)) (λ is. sym (first_at n k l none change is)) is

    pub none_plus : (k : ℕ) → all k ≡ [] → first_looked tables entries reader (k + 1) writer changes earlier ≡ None → all (k + 1) ≡ []
    none_plus k none is = subst (λ m. first_looked tables entries reader m writer changes earlier ≡ None → all m ≡ []) (sym (add-one k)) (none_at k none) is

  -- the reasons are the readings under another name
  pub named : {A B : Type 0} (kind : ℕ → RowChange → A) (name : A → B) (other : ℕ → RowChange → B) → ((k : ℕ) (change : RowChange) → name (kind k change) ≡ other k change)
      → (reader writer : ℕ) (changes : List RowChange) (earlier : Bool) (n : ℕ) → map name (readings tables entries kind reader writer changes earlier n) ≡ readings tables entries other reader writer changes earlier n
  named kind name other same reader writer changes earlier n =
      map-flat_map name (λ k. map (kind k) (looked tables entries reader k writer changes earlier)) (numbers n)
      ∙ flat_map_agree (λ k. map name (map (kind k) (looked tables entries reader k writer changes earlier))) (λ k. map (other k) (looked tables entries reader k writer changes earlier))
      (λ k. map-map name (kind k) (looked tables entries reader k writer changes earlier)
      ∙ map_agree (λ change. name (kind k change)) (other k) (same k) (looked tables entries reader k writer changes earlier)) (numbers n)

  -- ---- rows

  module _ (a b : ℕ) (all : List code.RowChange) (made_all : AreMade entries all) where
    abbrev pub shown : List RowChange
    shown = map change_view all

    -- the later changes of a row by the other one
    abbrev pub later : RowChange → List RowChange
    later change = filter (λ (other : RowChange). same_row change other && nat_lt change.version other.version) (changes_by tables entries shown b)

    pub later_is : (change : code.RowChange) → later (change_view change) ≡ map change_view (rewrites change b all)
    later_is change =
        filter-filter (λ (other : RowChange). same_row (change_view change) other && nat_lt change.version other.version) (λ (other : RowChange). committer_of other.version entries == b) shown
        ∙ filter-map (λ (other : RowChange). (committer_of other.version entries == b) && (same_row (change_view change) other && nat_lt change.version other.version)) change_view all
        ∙ ap (map change_view) (agree all made_all)
      where
        agree : (changes : List code.RowChange) → AreMade entries changes
            → filter (λ (other : code.RowChange). (committer_of other.version entries == b) && (same_row (change_view change) (change_view other) && nat_lt change.version other.version)) changes
            ≡ filter (is_rewrite change b) changes
        agree [] made = refl
        agree (other ∷ changes) (here, made) = λ i.
            cond ((sym here i == b) && (same_row (change_view change) (change_view other) && nat_lt change.version other.version)) (other ∷ agree changes made i) (agree changes made i)

    pub wrote_first : (changes : List code.RowChange) → AreMade entries changes
        → first_of (flat_map (λ (change : RowChange). map (Wrote change) (later change)) (filter (λ (change : RowChange). committer_of change.version entries == a) (map change_view changes)))
        ≡ first_write a b all changes
    wrote_first [] made = refl
    wrote_first (change ∷ changes) (here, made) =
        ap (λ t. first_of (flat_map (λ (change : RowChange). map (Wrote change) (later change)) (cond (t == a) (change_view change ∷ filter (λ (change : RowChange). committer_of change.version entries == a) (map change_view changes))
        (filter (λ (change : RowChange). committer_of change.version entries == a) (map change_view changes))))) (sym here)
        ∙ by (change.t == a) (wrote_first changes made)
      where
        first_own : (found : List code.RowChange) (rest : Option Reason) → option_or (first_of (map (Wrote (change_view change)) (map change_view found))) rest
            ≡ option_map_or (λ (other : code.RowChange). Some (Wrote (change_view change) (change_view other))) (first_of found) rest
        first_own [] rest = refl
        first_own (other ∷ found) rest = refl

        by : (own : Bool) → first_of (flat_map (λ (change : RowChange). map (Wrote change) (later change)) (filter (λ (change : RowChange). committer_of change.version entries == a) (map change_view changes)))
            ≡ first_write a b all changes
            → first_of (flat_map (λ (change : RowChange). map (Wrote change) (later change))
            (cond own (change_view change ∷ filter (λ (change : RowChange). committer_of change.version entries == a) (map change_view changes)) (filter (λ (change : RowChange). committer_of change.version entries == a) (map change_view changes))))
            ≡ option_map_or (λ (other : code.RowChange). Some (Wrote (change_view change) (change_view other))) (cond own (first_of (rewrites change b all)) None) (first_write a b all changes)
        by false rest = rest
        by true rest =
            first_append (map (Wrote (change_view change)) (later (change_view change)))
            (flat_map (λ (change : RowChange). map (Wrote change) (later change)) (filter (λ (change : RowChange). committer_of change.version entries == a) (map change_view changes)))
            ∙ (λ i. option_or (first_of (map (Wrote (change_view change)) (later_is change i))) (rest i))
            ∙ first_own (rewrites change b all) (first_write a b all changes)

    -- ---- all reasons

    pub reasons_first : a ≢ b → first_of (reasons tables entries shown a b)
        ≡ option_or (first_of (readings tables entries ReadBefore a b shown true (statement_count a entries)))
        (option_or (first_of (readings tables entries ReadAfter b a shown false (statement_count b entries))) (first_write a b all all))
    reasons_first other =
        ap (λ e. first_of (cond e [] (read_before tables entries shown a b ++ (read_after tables entries shown a b ++ wrote_before tables entries shown a b)))) (eq_not a b other)
        ∙ first_append (read_before tables entries shown a b) (read_after tables entries shown a b ++ wrote_before tables entries shown a b)
        ∙ ap (option_or (first_of (read_before tables entries shown a b)))
        (first_append (read_after tables entries shown a b) (wrote_before tables entries shown a b) ∙ ap (option_or (first_of (read_after tables entries shown a b))) (wrote_first all made_all))

    -- by the first reading of each kind
    pub reading_named : (kind : ℕ → RowChange → Reason) (reader writer : ℕ) (earlier : Bool)
        → first_of (readings tables entries kind reader writer shown earlier (statement_count reader entries))
        ≡ option_map (λ (found : ℕ × RowChange). kind found.0 found.1) (first_reading tables entries reader writer shown earlier)
    reading_named kind reader writer earlier =
        ap first_of (sym (named paired (λ (found : ℕ × RowChange). kind found.0 found.1) kind (λ k change. refl) reader writer shown earlier (statement_count reader entries)))
        ∙ first_map (λ (found : ℕ × RowChange). kind found.0 found.1) (readings tables entries paired reader writer shown earlier (statement_count reader entries))

    -- the first reason is the one that is found first
    pub reads_before : a ≢ b → (k : ℕ) (change : RowChange) → first_reading tables entries a b shown true ≡ Some (k, change) → Some (ReadBefore k change) ≡ slice_get (reasons tables entries shown a b) 0
    reads_before other k change is =
        sym (reasons_first other
        ∙ ap (λ found. option_or found (option_or (first_of (readings tables entries ReadAfter b a shown false (statement_count b entries))) (first_write a b all all)))
        (reading_named ReadBefore a b true ∙ ap (option_map (λ (found : ℕ × RowChange). ReadBefore found.0 found.1)) is))

    pub reads_after : a ≢ b → first_reading tables entries a b shown true ≡ None → (k : ℕ) (change : RowChange) → first_reading tables entries b a shown false ≡ Some (k, change)
        → Some (ReadAfter k change) ≡ slice_get (reasons tables entries shown a b) 0
    reads_after other none k change is =
        sym (reasons_first other
        ∙ (λ i. option_or ((reading_named ReadBefore a b true ∙ ap (option_map (λ (found : ℕ × RowChange). ReadBefore found.0 found.1)) none) i)
        (option_or ((reading_named ReadAfter b a false ∙ ap (option_map (λ (found : ℕ × RowChange). ReadAfter found.0 found.1)) is) i) (first_write a b all all))))

    pub writes_before : a ≢ b → first_reading tables entries a b shown true ≡ None → first_reading tables entries b a shown false ≡ None → (found : Option Reason) → found ≡ first_write a b all all
        → found ≡ slice_get (reasons tables entries shown a b) 0
    writes_before other none none' found is =
        is
        ∙ sym (reasons_first other
        ∙ (λ i. option_or ((reading_named ReadBefore a b true ∙ ap (option_map (λ (found : ℕ × RowChange). ReadBefore found.0 found.1)) none) i)
        (option_or ((reading_named ReadAfter b a false ∙ ap (option_map (λ (found : ℕ × RowChange). ReadAfter found.0 found.1)) none') i) (first_write a b all all))))
