-- The queries of operators have columns for the types that are due, over sources that have.
use Rattle.gp_sql.proofs.Prelude.{◌≡◌, ℕ, zero, suc, Bool, true, false, cond, List, [], ◌∷◌, ◌++◌, map, drop, take, length, Some, None, refl, sym, ap, subst, ◌∙◌, append-nil, arith, Option, is_some, ◌&&◌, option_map_or, and_from, eq_itself, Cell, Table, Expr, Cond}
use Rattle.std.proofs.lemmas.Option.{none-some, same_Some}
use Rattle.std.specs.Option.{option_and_then, option_map}
use Rattle.std.specs.Prelude.{not}
use Rattle.gp_base.specs.declared.table.Column as t
use Rattle.gp_base.specs.declared.table.Kind.{Kind}
use Rattle.gp_base.specs.declared.table.Kind.TheVariants as kind
use Rattle.gp_sql.specs.declared.cell_type.CellType.{CellType}
use Rattle.gp_sql.specs.declared.cell_type.CellType.TheVariants.{Id, Mark}
use Rattle.gp_sql.specs.CellTypes.{column_types, kind_type}
use Rattle.gp_sql.specs.NamedQueries.{all_of, columns_of, crossed, from, given_query, holding, is_marked, is_missing, known_types, published_query, scanned, stored_terms, written_query}
use Rattle.gp_sql.specs.Sql as s
use Rattle.gp_sql.specs.Sql.{Alias, Items, Source, Test, Where}
use Rattle.gp_sql.specs.Translation.{cond_test, exprs_terms}
use Rattle.gp_sql.specs.TypedQueries as q
use Rattle.gp_sql.specs.TypedQueries.{Entry, Scope, Sources, TypedColumn, ValueType, bigint, column_before, from_scope, integer, item_before, items_columns, named_columns, of_both, only, query_columns, stored_columns, term_type, test_is_typed, types_named, united, varchar, version_columns, where_is_typed}
use Rattle.gp_sql.specs.Types.{are_published, are_whole, both_types, common_types, cond_is_typed, exprs_types, is_id, is_mark, is_of_null, product_types, projected_types, published_types, row_types, rows_types, scan_types, selected_types, type_at}
use Rattle.gp_sql.proofs.TypedColumns.{AllSuit, Columns, Meets, as-long, cells-typed, column-named, columns-typed, entry, exprs-typed, found-at, has-columns, kinds, meets-both, meets-whole, no-begin, no-end, no-identity, numbered_columns, stored-named, stored-typed, suit-join, united-columns}
use Rattle.gp_sql.proofs.TypedTerms.{cond-typed, covers, suits}

-- ---- what the types of a query say of its operands

abbrev IsKnown : Option (List CellType) → Type 0
IsKnown x = x ≡ Some (known_types x)

pub selected-known : (c : Cond) (x : Option (List CellType)) (own : List CellType) → selected_types c x ≡ Some own → IsKnown x × (cond_is_typed (known_types x) c ≡ true) × (known_types x ≡ own)
selected-known c None own is = absurd (none-some own is)
selected-known c (Some types) own is = go (cond_is_typed types c) refl is
  where
    go : (b : Bool) → cond_is_typed types c ≡ b → cond b (Some types) None ≡ Some own → IsKnown (Some types) × (cond_is_typed types c ≡ true) × (types ≡ own)
    go true typed is = (refl, typed, same_Some types own is)
    go false typed is = absurd (none-some own is)

pub projected-known : (exprs : List Expr) (x : Option (List CellType)) (own : List CellType) → projected_types exprs x ≡ Some own → IsKnown x × (exprs_types (known_types x) exprs ≡ Some own)
projected-known exprs None own is = absurd (none-some own is)
projected-known exprs (Some types) own is = (refl, is)

pub product-known : (x y : Option (List CellType)) (own : List CellType) → product_types x y ≡ Some own → IsKnown x × IsKnown y × (known_types x ++ known_types y ≡ own)
product-known (Some types) (Some others) own is = (refl, refl, same_Some (types ++ others) own is)
product-known (Some types) None own is = absurd (none-some own is)
product-known None y own is = absurd (none-some own is)

pub both-known : (x y : Option (List CellType)) (own : List CellType) → both_types x y ≡ Some own → IsKnown x × IsKnown y × (common_types (known_types x) (known_types y) ≡ Some own)
both-known (Some types) (Some others) own is = (refl, refl, is)
both-known (Some types) None own is = absurd (none-some own is)
both-known None y own is = absurd (none-some own is)

pub record IsPublished (at : ℕ) (x y z : Option (List CellType)) (own : List CellType) : Type 0 where
  pub base : IsKnown x
  pub mine : IsKnown y
  pub later : IsKnown z
  pub types : are_published at (known_types x) (known_types y) (known_types z) ≡ true
  pub common : common_types (known_types z) (known_types y) ≡ Some own

pub published-known : (at : ℕ) (x y z : Option (List CellType)) (own : List CellType) → published_types at x y z ≡ Some own → IsPublished at x y z own
published-known at None y z own is = absurd (none-some own is)
published-known at (Some base) None z own is = absurd (none-some own is)
published-known at (Some base) (Some mine) None own is = absurd (none-some own is)
published-known at (Some base) (Some mine) (Some later) own is = go (are_published at base mine later) refl is
  where
    go : (b : Bool) → are_published at base mine later ≡ b → cond b (common_types later mine) None ≡ Some own → IsPublished at (Some base) (Some mine) (Some later) own
    go true types is = record { base = refl; mine = refl; later = refl; types = types; common = is }
    go false types is = absurd (none-some own is)

-- ---- a column of a type of its own

record IsAt (vs : List ValueType) (at : ℕ) (type : ValueType → Type 0) : Type 0 where
  value : ValueType
  named : only (types_named (s.numbered at) (numbered_columns 1 vs) ++ []) ≡ Some value
  is : type value

id-at : (o : Option CellType) → is_id o ≡ true → o ≡ Some Id
id-at (Some Id) e = refl
id-at o e = absurd cc

mark-at : (o : Option CellType) → is_mark o ≡ true → o ≡ Some Mark
mark-at (Some Mark) e = refl
mark-at o e = absurd cc

-- the identities of a source are texts
abbrev HasIds : ℕ → List ValueType → Type 0
HasIds at vs = only (types_named (s.numbered at) (numbered_columns 1 vs) ++ []) ≡ Some varchar

text-is : (v : ValueType) → covers Id (Some v) ≡ true → v ≡ varchar
text-is varchar e = refl
text-is integer e = absurd cc
text-is bigint e = absurd cc

pub has-ids : (at : ℕ) (due types : List CellType) (vs : List ValueType) → Meets due types → AllSuit due vs → is_id (type_at at types) ≡ true → HasIds at vs
has-ids zero due types vs meets all is = absurd cc
has-ids (suc i) due types vs meets all is =
    let found = found-at due types vs meets all i Id (id-at (type_at (suc i) types) is) in
    column-named vs i found.value found.is ∙ ap Some (text-is found.value found.covers)

-- marks are numbers
abbrev HasMarks : ℕ → List ValueType → Type 0
HasMarks at vs = is_some (of_both q.common (only (types_named (s.numbered (suc at)) (numbered_columns 1 vs) ++ [])) (Some integer)) ≡ true

number-is : (v : ValueType) → covers Mark (Some v) ≡ true → is_some (q.common v integer) ≡ true
number-is integer e = refl
number-is bigint e = refl
number-is varchar e = absurd cc

pub has-marks : (at : ℕ) (due types : List CellType) (vs : List ValueType) → Meets due types → AllSuit due vs → is_mark (type_at (suc at) types) ≡ true → HasMarks at vs
has-marks at due types vs meets all is =
    let found = found-at due types vs meets all at Mark (mark-at (type_at (suc at) types) is) in
    ap (λ o. is_some (of_both q.common o (Some integer))) (column-named vs at found.value found.is) ∙ number-is found.value found.covers

-- ---- the columns of a table

kind-suits : (k : Kind) → suits (kind_type k) (Some (q.kind_type k)) ≡ true
kind-suits kind.Int = refl
kind-suits kind.Text = refl

kinds-suit : (columns : List t.Column) → AllSuit (map (λ (column : t.Column). kind_type column.kind) columns ++ Id ∷ Mark ∷ []) (kinds columns ++ varchar ∷ integer ∷ [])
kinds-suit [] = (refl, (refl, tt))
kinds-suit (column ∷ columns) = (kind-suits column.kind, kinds-suit columns)

kind-whole : (k : Kind) → not (is_of_null (kind_type k)) ≡ true
kind-whole kind.Int = refl
kind-whole kind.Text = refl

kinds-whole : (columns : List t.Column) → are_whole (map (λ (column : t.Column). kind_type column.kind) columns ++ Id ∷ Mark ∷ []) ≡ true
kinds-whole [] = refl
kinds-whole (column ∷ columns) = and_from (not (is_of_null (kind_type column.kind))) (are_whole (map (λ (column : t.Column). kind_type column.kind) columns ++ Id ∷ Mark ∷ [])) (kind-whole column.kind) (kinds-whole columns)

-- the columns of a scan have types of their own
pub scan-whole : (x : Option Table) (own : List CellType) → scan_types x ≡ Some own → are_whole own ≡ true
scan-whole None own is = absurd (none-some own is)
scan-whole (Some table) own is = ap are_whole (sym (same_Some (column_types table ++ Id ∷ Mark ∷ []) own is)) ∙ kinds-whole table.cols

module _ (sources : Sources) where
  -- ---- one source

  abbrev over : Alias → List TypedColumn → Scope
  over alias columns = entry alias columns ∷ []

  block-one : (items : Items) (where' : Where) (alias : Alias) (source : Source) (columns : List TypedColumn) → sources source ≡ Some columns → where_is_typed sources (over alias columns) where' ≡ true
      → query_columns sources [] (s.block (s.select items (from alias source) where')) ≡ items_columns sources [] (over alias columns) items
  block-one items where' alias source columns is typed =
      ap (λ (o : Option (List TypedColumn)). option_and_then (λ own. cond (where_is_typed sources (own ++ []) where') (items_columns sources [] own items) None) (item_before alias o (Some []))) is
      ∙ ap (λ b. cond b (items_columns sources [] (over alias columns) items) None) typed

  pub all-typed : (alias : Alias) (where' : Where) (source : Source) (columns : List TypedColumn) → sources source ≡ Some columns → where_is_typed sources (over alias columns) where' ≡ true
      → query_columns sources [] (s.block (s.select s.all (from alias source) where')) ≡ Some columns
  all-typed alias where' source columns is typed = block-one s.all where' alias source columns is typed ∙ ap Some (append-nil columns)

  -- a source has columns for what is due
  abbrev pub Has : Source → List CellType → Type 0
  Has source due = Columns 1 due (sources source)

  pub step-typed : (due : List CellType) (source : Source) → Has source due → Columns 1 due (query_columns sources [] (s.block (all_of source)))
  step-typed due source has = record { values = has.values; is = all-typed s.no_alias s.everywhere source (numbered_columns 1 has.values) has.is refl; all = has.all }

  pub select-typed : (c : Cond) (types due : List CellType) (source : Source) → Meets due types → Has source due → cond_is_typed types c ≡ true
      → Columns 1 due (query_columns sources [] (s.block (s.select s.all (from s.no_alias source) (s.passing (cond_test types c)))))
  select-typed c types due source meets has typed = record {
    values = has.values;
    is =
        all-typed s.no_alias (s.passing (cond_test types c)) source (numbered_columns 1 has.values) has.is
        (cond-typed sources (over s.no_alias (numbered_columns 1 has.values)) types (has-columns sources due types has.values meets has.all) c typed);
    all = has.all;
  }

  pub project-typed : (exprs : List Expr) (types own due : List CellType) (source : Source) → Meets types types → Has source types → exprs_types types exprs ≡ Some own → Meets due own
      → Columns 1 due (query_columns sources [] (s.block (s.select (s.named (exprs_terms types due exprs)) (from s.no_alias source) s.everywhere)))
  project-typed exprs types own due source itself has is meets =
      let scope = over s.no_alias (numbered_columns 1 has.values) in
      let made = exprs-typed sources scope types (has-columns sources types types has.values itself has.all) exprs due own 1 is meets in
      record {
        values = made.values;
        is = block-one (s.named (exprs_terms types due exprs)) s.everywhere s.no_alias source (numbered_columns 1 has.values) has.is refl ∙ made.is;
        all = made.all;
      }

  -- ---- PRODUCT

  block-two : (items : Items) (left right : Source) (columns others : List TypedColumn) → sources left ≡ Some columns → sources right ≡ Some others
      → query_columns sources [] (s.block (s.select items (from s.x left ++ from s.y right) s.everywhere)) ≡ items_columns sources [] (entry s.x columns ∷ entry s.y others ∷ []) items
  block-two items left right columns others is so =
      λ i. option_and_then (λ own. cond (where_is_typed sources (own ++ []) s.everywhere) (items_columns sources [] own items) None) (item_before s.x (is i) (item_before s.y (so i) (Some [])))

  pub product-typed : (types others due : List CellType) (left right : Source) → Meets (take (length types) due) types → Meets (drop (length types) due) others
      → Has left (take (length types) due) → Has right (drop (length types) due)
      → Columns 1 due (query_columns sources [] (s.block (crossed (length types) (length others) left right)))
  product-typed types others due left right meets also has so =
      let vs = has.values in
      let ws = so.values in
      let scope : Scope = entry s.x (numbered_columns 1 vs) ∷ entry s.y (numbered_columns 1 ws) ∷ [] in
      let long = as-long (take (length types) due) types vs meets has.all in
      let wide = as-long (drop (length types) due) others ws also so.all in
      let second = columns-typed sources scope s.y ws (λ i v is. column-named ws i v is) in
      let first = columns-typed sources scope s.x vs (λ i v is. column-named vs i v is) in
      record {
        values = vs ++ ws;
        is =
            block-two (s.named (columns_of s.x 1 (length types) (columns_of s.y 1 (length others) s.no_terms))) left right (numbered_columns 1 vs) (numbered_columns 1 ws) has.is so.is
            ∙ (λ i. named_columns sources scope 1 (columns_of s.x 1 (long i) (columns_of s.y 1 (wide i) s.no_terms)))
            ∙ first 1 0 vs refl (columns_of s.y 1 (length ws) s.no_terms) ws (suc (length vs)) (omega arith)
            (second (suc (length vs)) 0 ws refl s.no_terms [] _ refl refl ∙ ap (λ zs. Some (numbered_columns (suc (length vs)) zs)) (append-nil ws));
        all = suit-join (length types) due vs ws has.all so.all;
      }

  -- ---- UNION and VALUES

  pub union-typed : (due : List CellType) (left right : Source) → Has left due → Has right due → Columns 1 due (query_columns sources [] (s.union_all (all_of left) (s.block (all_of right))))
  union-typed due left right has so =
      let both = united-columns 1 due has.values so.values has.all so.all in
      record {
        values = both.values;
        is =
            (λ i. of_both united (all-typed s.no_alias s.everywhere left (numbered_columns 1 has.values) has.is refl i) (all-typed s.no_alias s.everywhere right (numbered_columns 1 so.values) so.is refl i))
            ∙ both.is;
        all = both.all;
      }

  pub given-typed : (row : List Cell) (rows : List (List Cell)) (due own : List CellType) → rows_types row rows ≡ Some own → Meets due own → Columns 1 due (query_columns sources [] (given_query due row rows))
  given-typed row [] due own is meets = cells-typed sources [] row due own 1 is meets
  given-typed row (next ∷ rows) due own is meets =
      let parts = both-known (row_types row) (rows_types next rows) own is in
      let apart = meets-both due (known_types (row_types row)) (known_types (rows_types next rows)) own parts.2 meets in
      let first = cells-typed sources [] row due (known_types (row_types row)) 1 parts.0 apart.0 in
      let others = given-typed next rows due (known_types (rows_types next rows)) parts.1 apart.1 in
      let both = united-columns 1 due first.values others.values first.all others.all in
      record { values = both.values; is = (λ i. of_both united (first.is i) (others.is i)) ∙ both.is; all = both.all }

  -- ---- SCAN

  holding-typed : (place version : ℕ) (table : Table) → test_is_typed sources (over s.no_alias (version_columns place table)) (holding version) ≡ true
  holding-typed place version table =
      λ i. is_some (of_both q.common (only (bigint ∷ (no-begin place 0 table.cols i ++ []))) (Some integer))
      && (is_some (only (bigint ∷ (no-end place 0 table.cols i ++ []))) && is_some (of_both q.common (Some integer) (only (bigint ∷ (no-end place 0 table.cols i ++ [])))))

  pub scan-typed : (place version : ℕ) (x : Option Table) (due own : List CellType) → sources (s.versions place) ≡ option_map (version_columns place) x → scan_types x ≡ Some own → Meets due own
      → Columns 1 due (query_columns sources [] (s.block (scanned place (option_map_or (λ (table : Table). length table.cols) x 0) version)))
  scan-typed place version None due own there is meets = absurd (none-some own is)
  scan-typed place version (Some table) due own there is meets =
      let scope = over s.no_alias (version_columns place table) in
      let same = same_Some (column_types table ++ Id ∷ Mark ∷ []) own is in
      let due_is : due ≡ column_types table ++ Id ∷ Mark ∷ [] = meets-whole due (column_types table ++ Id ∷ Mark ∷ []) (kinds-whole table.cols) (subst (Meets due) (sym same) meets) in
      record {
        values = kinds table.cols ++ varchar ∷ integer ∷ [];
        is =
            block-one (s.named (stored_terms place 0 (length table.cols))) (s.passing (holding version)) s.no_alias (s.versions place) (version_columns place table) there (holding-typed place version table)
            ∙ stored-typed sources scope place table.cols (λ i column is. stored-named place table.cols i column is) (ap (λ types. only (varchar ∷ (types ++ []))) (no-identity place 0 table.cols)) 1 0 table.cols refl;
        all = subst (λ d. AllSuit d (kinds table.cols ++ varchar ∷ integer ∷ [])) (sym due_is) (kinds-suit table.cols);
      }

  -- ---- PUBLISH

  abbrev id_column : ℕ → List TypedColumn
  id_column at = record { name = Some (s.numbered at); type = varchar } ∷ []

  marked-typed : (at : ℕ) (vs : List ValueType) → HasMarks at vs → test_is_typed sources (over s.no_alias (numbered_columns 1 vs)) (is_marked at) ≡ true
  marked-typed at vs marks = marks

  -- the source may have other columns
  missing-typed : (at : ℕ) (source : Source) (columns : List TypedColumn) (vs : List ValueType) → sources source ≡ Some columns → only (types_named (s.numbered at) columns ++ []) ≡ Some varchar → HasIds at vs
      → test_is_typed sources (over s.x (numbered_columns 1 vs)) (is_missing at source) ≡ true
  missing-typed at source columns vs is ids own =
      ap (λ (o : Option (List TypedColumn)). is_some (option_and_then (λ inner. cond
      (is_some (of_both q.common (term_type sources (inner ++ over s.x (numbered_columns 1 vs)) (s.column s.y (s.numbered at))) (term_type sources (inner ++ over s.x (numbered_columns 1 vs)) (s.column s.x (s.numbered at)))))
      (column_before None (Some integer) (Some [])) None) (item_before s.y o (Some [])))) is
      ∙ (λ i. is_some {T = List TypedColumn} (cond (is_some (of_both q.common (ids i) (own i))) (Some (record { name = None; type = integer } ∷ [])) None))

  pub written-typed : (at : ℕ) (base mine : Source) (vs ws : List ValueType) → sources base ≡ Some (numbered_columns 1 vs) → sources mine ≡ Some (numbered_columns 1 ws)
      → HasIds at vs → HasIds at ws → HasMarks at ws → query_columns sources [] (written_query at base mine) ≡ Some (id_column at)
  written-typed at base mine vs ws is so ids own marks =
      let name : Option s.Column = Some (s.numbered at) in
      (λ i. of_both united
      (block-one (s.single (s.column s.no_alias (s.numbered at))) (s.passing (is_marked at)) s.no_alias mine (numbered_columns 1 ws) so (marked-typed at ws marks) i)
      (block-one (s.single (s.column s.x (s.numbered at))) (s.passing (is_missing at mine)) s.x base (numbered_columns 1 vs) is (missing-typed at mine (numbered_columns 1 ws) vs so own ids) i))
      ∙ (λ i. of_both united (column_before name (own i) (Some [])) (column_before name (ids i) (Some [])))

  pub publish-typed : (at : ℕ) (due : List CellType) (written mine later : Source) (ws : List ValueType) → sources written ≡ Some (id_column at)
      → (own : Has mine due) → (is : Has later due) → HasIds at is.values → HasMarks at own.values
      → Columns 1 due (query_columns sources [] (published_query at written mine later))
  publish-typed at due written mine later ws there own is ids marks =
      let both = united-columns 1 due is.values own.values is.all own.all in
      let named : only (types_named (s.numbered at) (id_column at) ++ []) ≡ Some varchar = ap (λ b. only (cond b (varchar ∷ []) [] ++ [])) (eq_itself at) in
      record {
        values = both.values;
        is =
            (λ i. of_both united
            (all-typed s.x (s.passing (is_missing at written)) later (numbered_columns 1 is.values) is.is (missing-typed at written (id_column at) is.values there named ids) i)
            (all-typed s.no_alias (s.passing (is_marked at)) mine (numbered_columns 1 own.values) own.is (marked-typed at own.values marks) i))
            ∙ both.is;
        all = both.all;
      }
