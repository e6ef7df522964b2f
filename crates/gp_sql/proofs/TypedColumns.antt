-- The columns c1, c2, .. of a query have types for those that are due, and are found by their names.
use Rattle.gp_sql.proofs.Prelude.{◌≡◌, ℕ, zero, suc, ◌+◌, ◌<◌, Bool, true, cond, List, [], ◌∷◌, ◌++◌, map, drop, take, length, Some, None, refl, sym, ap, subst, ◌∙◌, append-nil, arith, Option, ◌&&◌, ◌==◌, slice_get, and_parts, eq_itself, Cell, Expr}
use Rattle.std.proofs.lemmas.Option.{none-some, same_Some}
use Rattle.std.specs.Prelude.{not}
use Rattle.gp_base.proofs.SmallLemmas.{eq_from_same, eq_not}
use Rattle.gp_base.specs.declared.table.Column as t
use Rattle.gp_sql.specs.declared.cell_type.CellType.{CellType}
use Rattle.gp_sql.specs.declared.cell_type.CellType.TheVariants.{Null, Int, Text, Id, Mark}
use Rattle.gp_sql.specs.NamedQueries.{columns_of, stored_terms}
use Rattle.gp_sql.specs.Sql as s
use Rattle.gp_sql.specs.Sql.{Alias, Terms}
use Rattle.gp_sql.specs.Translation.{cell_term, cells_terms, expr_term, exprs_terms}
use Rattle.gp_sql.specs.TypedQueries as q
use Rattle.gp_sql.specs.TypedQueries.{Entry, Scope, Sources, TypedColumn, ValueType, bigint, column_before, integer, named_columns, only, stored_columns, term_type, types_in, types_named, united, varchar}
use Rattle.gp_sql.specs.Types.{are_whole, cell_type, common, common_types, expr_type, exprs_types, is_of_null, row_types, with_first}
use Rattle.gp_sql.proofs.TypedTerms.{HasColumns, cell-typed, common-resolved, covers, expr-typed, resolved, suits, suits-common}

-- ---- what is due

abbrev pub numbered_columns : ℕ → List ValueType → List TypedColumn
numbered_columns n [] = []
numbered_columns n (type ∷ types) = record { name = Some (s.numbered n); type = type } ∷ numbered_columns (suc n) types

-- a value for each type that is due
abbrev pub AllSuit : List CellType → List ValueType → Type 0
AllSuit [] [] = Unit {0}
AllSuit [] (v ∷ vs) = ⊥
AllSuit (d ∷ due) [] = ⊥
AllSuit (d ∷ due) (v ∷ vs) = (suits d (Some v) ≡ true) × AllSuit due vs

-- what is due of columns of these types: another type where they have that of NULL alone
abbrev pub Meets : List CellType → List CellType → Type 0
Meets [] [] = Unit {0}
Meets [] (type ∷ types) = ⊥
Meets (d ∷ due) [] = ⊥
Meets (d ∷ due) (type ∷ types) = (resolved type d ≡ d) × Meets due types

resolved-itself : (type : CellType) → resolved type type ≡ type
resolved-itself Null = refl
resolved-itself Int = refl
resolved-itself Text = refl
resolved-itself Id = refl
resolved-itself Mark = refl

pub meets-itself : (types : List CellType) → Meets types types
meets-itself [] = tt
meets-itself (type ∷ types) = (resolved-itself type, meets-itself types)

whole-same : (type d : CellType) → not (is_of_null type) ≡ true → resolved type d ≡ d → d ≡ type
whole-same Null d whole is = absurd cc
whole-same Int d whole is = sym is
whole-same Text d whole is = sym is
whole-same Id d whole is = sym is
whole-same Mark d whole is = sym is

pub meets-whole : (due types : List CellType) → are_whole types ≡ true → Meets due types → due ≡ types
meets-whole [] [] whole meets = refl
meets-whole [] (type ∷ types) whole meets = absurd meets
meets-whole (d ∷ due) [] whole meets = absurd meets
meets-whole (d ∷ due) (type ∷ types) whole meets =
    let parts = and_parts (not (is_of_null type)) (are_whole types) whole in
    λ i. whole-same type d parts.0 meets.0 i ∷ meets-whole due types parts.1 meets.1 i

through : (a type d : CellType) → resolved a type ≡ type → resolved type d ≡ d → resolved a d ≡ d
through Null type d first second = refl
through Int type d first second = subst (λ t. resolved t d ≡ d) (sym first) second
through Text type d first second = subst (λ t. resolved t d ≡ d) (sym first) second
through Id type d first second = subst (λ t. resolved t d ≡ d) (sym first) second
through Mark type d first second = subst (λ t. resolved t d ≡ d) (sym first) second

pub record FirstIs (x : Option CellType) (y : Option (List CellType)) (own : List CellType) : Type 0 where
  pub type : CellType
  pub types : List CellType
  pub first : x ≡ Some type
  pub others : y ≡ Some types
  pub is : type ∷ types ≡ own

pub first-is : (x : Option CellType) (y : Option (List CellType)) (own : List CellType) → with_first x y ≡ Some own → FirstIs x y own
first-is (Some type) (Some types) own is = record { type = type; types = types; first = refl; others = refl; is = same_Some (type ∷ types) own is }
first-is (Some type) None own is = absurd (none-some own is)
first-is None y own is = absurd (none-some own is)

pub meets-both : (due xs ys own : List CellType) → common_types xs ys ≡ Some own → Meets due own → Meets due xs × Meets due ys
meets-both due [] [] own is meets = (subst (Meets due) (sym (same_Some [] own is)) meets, subst (Meets due) (sym (same_Some [] own is)) meets)
meets-both due [] (y ∷ ys) own is meets = absurd (none-some own is)
meets-both due (x ∷ xs) [] own is meets = absurd (none-some own is)
meets-both [] (x ∷ xs) (y ∷ ys) own is meets = absurd (subst (Meets []) (sym (first-is (common x y) (common_types xs ys) own is).is) meets)
meets-both (d ∷ due) (x ∷ xs) (y ∷ ys) own is meets =
    let found = first-is (common x y) (common_types xs ys) own is in
    let own_meets : Meets (d ∷ due) (found.type ∷ found.types) = subst (Meets (d ∷ due)) (sym found.is) meets in
    let same = common-resolved x y found.type found.first in
    let rest = meets-both due xs ys found.types found.others own_meets.1 in
    ((through x found.type d same.0 own_meets.0, rest.0), (through y found.type d same.1 own_meets.0, rest.1))

pub meets-split : (due xs ys : List CellType) → Meets due (xs ++ ys) → Meets (take (length xs) due) xs × Meets (drop (length xs) due) ys
meets-split due [] ys meets = (tt, meets)
meets-split [] (x ∷ xs) ys meets = absurd meets
meets-split (d ∷ due) (x ∷ xs) ys meets = let rest = meets-split due xs ys meets.1 in ((meets.0, rest.0), rest.1)

pub suit-join : (n : ℕ) (due : List CellType) (vs ws : List ValueType) → AllSuit (take n due) vs → AllSuit (drop n due) ws → AllSuit due (vs ++ ws)
suit-join zero due [] ws first second = second
suit-join zero due (v ∷ vs) ws first second = absurd first
suit-join (suc n) [] [] ws first second = second
suit-join (suc n) [] (v ∷ vs) ws first second = absurd first
suit-join (suc n) (d ∷ due) [] ws first second = absurd first
suit-join (suc n) (d ∷ due) (v ∷ vs) ws first second = (first.0, suit-join n due vs ws first.1 second)

pub as-long : (due types : List CellType) (vs : List ValueType) → Meets due types → AllSuit due vs → length types ≡ length vs
as-long [] [] [] meets all = refl
as-long [] [] (v ∷ vs) meets all = absurd all
as-long [] (type ∷ types) vs meets all = absurd meets
as-long (d ∷ due) [] vs meets all = absurd meets
as-long (d ∷ due) (type ∷ types) [] meets all = absurd all
as-long (d ∷ due) (type ∷ types) (v ∷ vs) meets all = ap (λ (n : ℕ). suc n) (as-long due types vs meets.1 all.1)

-- ---- columns for what is due

-- columns from this number on
pub record Columns (n : ℕ) (due : List CellType) (found : Option (List TypedColumn)) : Type 0 where
  pub values : List ValueType
  pub is : found ≡ Some (numbered_columns n values)
  pub all : AllSuit due values

record HasValue (d : CellType) (x : Option ValueType) : Type 0 where
  value : ValueType
  is : x ≡ Some value
  suit : suits d (Some value) ≡ true

has-value : (d : CellType) (x : Option ValueType) → suits d x ≡ true → HasValue d x
has-value d (Some value) e = record { value = value; is = refl; suit = e }
has-value Null None e = absurd cc
has-value Int None e = absurd cc
has-value Text None e = absurd cc
has-value Id None e = absurd cc
has-value Mark None e = absurd cc

pub no-column : (n : ℕ) → Columns n [] (Some [])
no-column n = record { values = []; is = refl; all = tt }

pub column-first : (n : ℕ) (d : CellType) (due : List CellType) (x : Option ValueType) (o : Option (List TypedColumn)) → suits d x ≡ true → Columns (suc n) due o
    → Columns n (d ∷ due) (column_before (Some (s.numbered n)) x o)
column-first n d due x o suit rest =
    let found = has-value d x suit in
    record { values = found.value ∷ rest.values; is = λ i. column_before (Some (s.numbered n)) (found.is i) (rest.is i); all = (found.suit, rest.all) }

pub united-columns : (n : ℕ) (due : List CellType) (vs ws : List ValueType) → AllSuit due vs → AllSuit due ws → Columns n due (united (numbered_columns n vs) (numbered_columns n ws))
united-columns n [] [] [] first second = no-column n
united-columns n [] [] (w ∷ ws) first second = absurd second
united-columns n [] (v ∷ vs) ws first second = absurd first
united-columns n (d ∷ due) [] ws first second = absurd first
united-columns n (d ∷ due) (v ∷ vs) [] first second = absurd second
united-columns n (d ∷ due) (v ∷ vs) (w ∷ ws) first second =
    column-first n d due (q.common v w) (united (numbered_columns (suc n) vs) (numbered_columns (suc n) ws)) (suits-common d (Some v) (Some w) first.0 second.0)
    (united-columns (suc n) due vs ws first.1 second.1)

-- ---- names

none-named : (vs : List ValueType) (k m : ℕ) → m < k → types_named (s.numbered m) (numbered_columns k vs) ≡ []
none-named [] k m less = refl
none-named (v ∷ vs) k m less =
    ap (λ b. cond b (v ∷ types_named (s.numbered m) (numbered_columns (suc k) vs)) (types_named (s.numbered m) (numbered_columns (suc k) vs))) (eq_not m k (λ e. omega (arith, less, e)))
    ∙ none-named vs (suc k) m (omega (arith, less))

one-named : (vs : List ValueType) (k i m : ℕ) → m ≡ k + i → (v : ValueType) → slice_get vs i ≡ Some v → types_named (s.numbered m) (numbered_columns k vs) ≡ v ∷ []
one-named [] k i m e v is = absurd (none-some v is)
one-named (x ∷ vs) k zero m e v is =
    ap (λ b. cond b (x ∷ types_named (s.numbered m) (numbered_columns (suc k) vs)) (types_named (s.numbered m) (numbered_columns (suc k) vs))) (eq_from_same k m (omega (arith, e)))
    ∙ (λ i. same_Some x v is i ∷ none-named vs (suc k) m (omega (arith, e)) i)
one-named (x ∷ vs) k (suc i) m e v is =
    ap (λ b. cond b (x ∷ types_named (s.numbered m) (numbered_columns (suc k) vs)) (types_named (s.numbered m) (numbered_columns (suc k) vs))) (eq_not m k (λ same. omega (arith, e, same)))
    ∙ one-named vs (suc k) i m (omega (arith, e)) v is

pub column-named : (vs : List ValueType) (i : ℕ) (v : ValueType) → slice_get vs i ≡ Some v → only (types_named (s.numbered (suc i)) (numbered_columns 1 vs) ++ []) ≡ Some v
column-named vs i v is = ap only (append-nil (types_named (s.numbered (suc i)) (numbered_columns 1 vs)) ∙ one-named vs 1 i (suc i) (omega arith) v is)

pub record Found (own : CellType) (vs : List ValueType) (i : ℕ) : Type 0 where
  pub value : ValueType
  pub is : slice_get vs i ≡ Some value
  pub covers : covers own (Some value) ≡ true

cover-one : (type d : CellType) (v : ValueType) → resolved type d ≡ d → suits d (Some v) ≡ true → covers type (Some v) ≡ true
cover-one Null d v same suit = refl
cover-one Int d v same suit = ap (λ t. suits t (Some v)) same ∙ suit
cover-one Text d v same suit = ap (λ t. suits t (Some v)) same ∙ suit
cover-one Id d v same suit = ap (λ t. suits t (Some v)) same ∙ suit
cover-one Mark d v same suit = ap (λ t. suits t (Some v)) same ∙ suit

pub found-at : (due types : List CellType) (vs : List ValueType) → Meets due types → AllSuit due vs → (i : ℕ) (own : CellType) → slice_get types i ≡ Some own → Found own vs i
found-at due [] vs meets all i own is = absurd (none-some own is)
found-at [] (type ∷ types) vs meets all i own is = absurd meets
found-at (d ∷ due) (type ∷ types) [] meets all i own is = absurd all
found-at (d ∷ due) (type ∷ types) (v ∷ vs) meets all zero own is =
    record { value = v; is = refl; covers = ap (λ t. covers t (Some v)) (sym (same_Some type own is)) ∙ cover-one type d v meets.0 all.0 }
found-at (d ∷ due) (type ∷ types) (v ∷ vs) meets all (suc i) own is =
    let rest = found-at due types vs meets.1 all.1 i own is in record { value = rest.value; is = rest.is; covers = rest.covers }

abbrev pub entry : Alias → List TypedColumn → Entry
entry alias columns = record { alias = alias; columns = columns }

module _ (sources : Sources) where
  pub has-columns : (due types : List CellType) (vs : List ValueType) → Meets due types → AllSuit due vs → HasColumns sources (entry s.no_alias (numbered_columns 1 vs) ∷ []) types
  has-columns due types vs meets all zero own is = absurd (none-some own is)
  has-columns due types vs meets all (suc i) own is =
      let found = found-at due types vs meets all i own is in
      ap (covers own) (column-named vs i found.value found.is) ∙ found.covers

  -- ---- lists of terms

  module _ (scope : Scope) where
    pub exprs-typed : (types : List CellType) → HasColumns sources scope types → (exprs : List Expr) (due own : List CellType) (n : ℕ) → exprs_types types exprs ≡ Some own → Meets due own
        → Columns n due (named_columns sources scope n (exprs_terms types due exprs))
    exprs-typed types has [] [] own n is meets = no-column n
    exprs-typed types has [] (d ∷ due) own n is meets = absurd (subst (Meets (d ∷ due)) (sym (same_Some [] own is)) meets)
    exprs-typed types has (a ∷ exprs) [] own n is meets = absurd (subst (Meets []) (sym (first-is (expr_type types a) (exprs_types types exprs) own is).is) meets)
    exprs-typed types has (a ∷ exprs) (d ∷ due) own n is meets =
        let found = first-is (expr_type types a) (exprs_types types exprs) own is in
        let own_meets : Meets (d ∷ due) (found.type ∷ found.types) = subst (Meets (d ∷ due)) (sym found.is) meets in
        column-first n d due (term_type sources scope (expr_term types d a)) (named_columns sources scope (suc n) (exprs_terms types due exprs))
        (subst (λ t. suits t (term_type sources scope (expr_term types d a)) ≡ true) own_meets.0 (expr-typed sources scope types has a d found.type found.first))
        (exprs-typed types has exprs due found.types (suc n) found.others own_meets.1)

    pub cells-typed : (row : List Cell) (due own : List CellType) (n : ℕ) → row_types row ≡ Some own → Meets due own → Columns n due (named_columns sources scope n (cells_terms due row))
    cells-typed [] [] own n is meets = no-column n
    cells-typed [] (d ∷ due) own n is meets = absurd (subst (Meets (d ∷ due)) (sym (same_Some [] own is)) meets)
    cells-typed (c ∷ row) [] own n is meets = absurd (subst (Meets []) (sym (first-is (cell_type c) (row_types row) own is).is) meets)
    cells-typed (c ∷ row) (d ∷ due) own n is meets =
        let found = first-is (cell_type c) (row_types row) own is in
        let own_meets : Meets (d ∷ due) (found.type ∷ found.types) = subst (Meets (d ∷ due)) (sym found.is) meets in
        column-first n d due (term_type sources scope (cell_term d c)) (named_columns sources scope (suc n) (cells_terms due row))
        (subst (λ t. suits t (term_type sources scope (cell_term d c)) ≡ true) own_meets.0 (cell-typed sources scope c d found.type found.first))
        (cells-typed row due found.types (suc n) found.others own_meets.1)

    slice-drop : {X : Type 0} (xs : List X) (i : ℕ) (x : X) (post : List X) → drop i xs ≡ x ∷ post → (slice_get xs i ≡ Some x) × (drop (suc i) xs ≡ post)
    slice-drop [] zero x post e = absurd cc
    slice-drop [] (suc i) x post e = absurd cc
    slice-drop (y ∷ xs) zero x post e = (ap (λ zs. slice_get zs 0) e, ap (drop 1) e)
    slice-drop (y ∷ xs) (suc i) x post e = slice-drop xs i x post e

    -- the columns of a source from one on, before other terms
    pub columns-typed : (alias : Alias) (vs : List ValueType) → ((i : ℕ) (v : ValueType) → slice_get vs i ≡ Some v → term_type sources scope (s.column alias (s.numbered (suc i))) ≡ Some v)
        → (n i : ℕ) (post : List ValueType) → drop i vs ≡ post → (others : Terms) (more : List ValueType) (end : ℕ) → end ≡ n + length post
        → named_columns sources scope end others ≡ Some (numbered_columns end more)
        → named_columns sources scope n (columns_of alias (suc i) (length post) others) ≡ Some (numbered_columns n (post ++ more))
    columns-typed alias vs has n i [] is others more end e rest = subst (λ m. named_columns sources scope m others ≡ Some (numbered_columns m more)) (omega (arith, e)) rest
    columns-typed alias vs has n i (v ∷ post) is others more end e rest =
        let found = slice-drop vs i v post is in
        λ j. column_before (Some (s.numbered n)) (has i v found.0 j) (columns-typed alias vs has (suc n) (suc i) post found.1 others more end (omega (arith, e)) rest j)

-- ---- tables

no-stored : (table k m : ℕ) (columns : List t.Column) → m < k → types_named (s.stored table m) (stored_columns table k columns) ≡ []
no-stored table k m [] less = refl
no-stored table k m (column ∷ columns) less =
    ap (λ (b : Bool). cond (b && (m == k)) (q.kind_type column.kind ∷ types_named (s.stored table m) (stored_columns table (suc k) columns)) (types_named (s.stored table m) (stored_columns table (suc k) columns))) (eq_itself table)
    ∙ ap (λ b. cond b (q.kind_type column.kind ∷ types_named (s.stored table m) (stored_columns table (suc k) columns)) (types_named (s.stored table m) (stored_columns table (suc k) columns))) (eq_not m k (λ e. omega (arith, less, e)))
    ∙ no-stored table (suc k) m columns (omega (arith, less))

one-stored : (table k i m : ℕ) (columns : List t.Column) → m ≡ k + i → (column : t.Column) → slice_get columns i ≡ Some column
    → types_named (s.stored table m) (stored_columns table k columns) ≡ q.kind_type column.kind ∷ []
one-stored table k i m [] e column is = absurd (none-some column is)
one-stored table k zero m (other ∷ columns) e column is =
    ap (λ (b : Bool). cond (b && (m == k)) (q.kind_type other.kind ∷ types_named (s.stored table m) (stored_columns table (suc k) columns)) (types_named (s.stored table m) (stored_columns table (suc k) columns))) (eq_itself table)
    ∙ ap (λ b. cond b (q.kind_type other.kind ∷ types_named (s.stored table m) (stored_columns table (suc k) columns)) (types_named (s.stored table m) (stored_columns table (suc k) columns))) (eq_from_same k m (omega (arith, e)))
    ∙ (λ i. q.kind_type (same_Some other column is i).kind ∷ no-stored table (suc k) m columns (omega (arith, e)) i)
one-stored table k (suc i) m (other ∷ columns) e column is =
    ap (λ (b : Bool). cond (b && (m == k)) (q.kind_type other.kind ∷ types_named (s.stored table m) (stored_columns table (suc k) columns)) (types_named (s.stored table m) (stored_columns table (suc k) columns))) (eq_itself table)
    ∙ ap (λ b. cond b (q.kind_type other.kind ∷ types_named (s.stored table m) (stored_columns table (suc k) columns)) (types_named (s.stored table m) (stored_columns table (suc k) columns))) (eq_not m k (λ same. omega (arith, e, same)))
    ∙ one-stored table (suc k) i m columns (omega (arith, e)) column is

pub no-identity : (table k : ℕ) (columns : List t.Column) → types_named s.identity (stored_columns table k columns) ≡ []
no-identity table k [] = refl
no-identity table k (column ∷ columns) = no-identity table (suc k) columns

pub no-begin : (table k : ℕ) (columns : List t.Column) → types_named s.begins (stored_columns table k columns) ≡ []
no-begin table k [] = refl
no-begin table k (column ∷ columns) = no-begin table (suc k) columns

pub no-end : (table k : ℕ) (columns : List t.Column) → types_named s.ends (stored_columns table k columns) ≡ []
no-end table k [] = refl
no-end table k (column ∷ columns) = no-end table (suc k) columns

abbrev pub kinds : List t.Column → List ValueType
kinds columns = map (λ (column : t.Column). q.kind_type column.kind) columns

pub stored-named : (table : ℕ) (columns : List t.Column) (i : ℕ) (column : t.Column) → slice_get columns i ≡ Some column
    → only (types_named (s.stored table i) (stored_columns table 0 columns) ++ []) ≡ Some (q.kind_type column.kind)
stored-named table columns i column is = ap only (append-nil (types_named (s.stored table i) (stored_columns table 0 columns)) ∙ one-stored table 0 i i columns (omega arith) column is)

module _ (sources : Sources) (scope : Scope) (table : ℕ) (columns : List t.Column)
    (has : (i : ℕ) (column : t.Column) → slice_get columns i ≡ Some column → term_type sources scope (s.column s.no_alias (s.stored table i)) ≡ Some (q.kind_type column.kind))
    (identity : term_type sources scope (s.column s.no_alias s.identity) ≡ Some varchar) where
  pub stored-typed : (n i : ℕ) (post : List t.Column) → drop i columns ≡ post
      → named_columns sources scope n (stored_terms table i (length post)) ≡ Some (numbered_columns n (kinds post ++ varchar ∷ integer ∷ []))
  stored-typed n i [] is = λ j. column_before (Some (s.numbered n)) (identity j) (Some (record { name = Some (s.numbered (suc n)); type = integer } ∷ []))
  stored-typed n i (column ∷ post) is =
      let found = slice-drop sources scope columns i column post is in
      λ j. column_before (Some (s.numbered n)) (has i column found.0 j) (stored-typed (suc n) (suc i) post found.1 j)
