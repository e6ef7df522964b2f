-- A query of SQL gives the rows of the plain query that it is made of, and its columns are c1, c2, ..
use Rattle.gp_sql.proofs.Prelude.{◌≡◌, ℕ, zero, suc, Bool, true, false, cond, List, [], ◌∷◌, ◌++◌, map, drop, length, Some, None, refl, sym, ap, ◌∙◌, append-nil, Option, is_some, filter, AllByRecursion, flat_map, option_map_or, map-append, map-map, map_agree_at, filter-map, map-flat_map, length-map, Cell, Table, unannotated, Expr, Cond, holds, passes, values, encoded_row, Span, holds_at, row_of, spans_at, rows_at}
use Rattle.std.specs.Option.{unwrap_or}
use Rattle.gp_base.proofs.SmallLemmas.{filter_agree, flat_map-map}
use Rattle.gp_base.specs.declared.cell.Cell.TheVariants as cell
use Rattle.gp_base.specs.declared.table.Column as t
use Rattle.gp_base.specs.declared.table.Kind.TheVariants as kind
use Rattle.gp_sql.specs.declared.cell_type.CellType.{CellType}
use Rattle.gp_sql.specs.declared.cell_type.CellType.TheVariants.{Id, Mark}
use Rattle.gp_sql.specs.Sql as s
use Rattle.gp_sql.specs.Sql.{Alias, Column, Source, Terms}
use Rattle.gp_sql.specs.SqlCells.{sql_cell, sql_rows}
use Rattle.gp_sql.specs.Meaning.{Relation, Scope, cell_named, term_values, test_truth, names_from, query_relation}
use Rattle.gp_sql.specs.NamedQueries.{from, all_of, columns_of, crossed, given_query, holding, known_types, scanned, stored_terms}
use Rattle.gp_sql.specs.Translation.{cells_terms, cond_test, exprs_terms, first_due}
use Rattle.gp_sql.specs.CellTypes.{AreOf, IsOf, column_types, kind_type}
use Rattle.gp_sql.specs.Types.{cell_type, common, common_types, cond_is_typed, both_types, expr_type, exprs_types, product_types, projected_types, row_types, rows_types, scan_types, selected_types, with_first}
use Rattle.gp_sql.specs.VersionTables.{SpanFits, SpansFit, stored_names, version_row}
use Rattle.gp_sql.proofs.ColumnLemmas.{alone, are-long, columns-value, named-cell, numbered_names, relation_with, stored-cell, stored-value}
use Rattle.gp_sql.proofs.SourceLemmas.{all-alone, all-rows, block-alone, block-two, flat_agree, kept_agree, made-alone, rows_of_two, rows_over, two}
use Rattle.gp_sql.proofs.TermLemmas.{are-wide, cell-value, cond-value, expr-value, same-int, same-text, sql_row}
use Rattle.gp_sql.proofs.TruthLemmas.{version-holds}
use Rattle.gp_sql.proofs.TypeLemmas.{HaveTypes, each_filter, each_weaker}

-- ---- what a type says of its parts

pub first-parts : (x : Option CellType) (y : Option (List CellType)) → is_some (with_first x y) ≡ true → (is_some x ≡ true) × (is_some y ≡ true)
first-parts (Some type) (Some types) e = (refl, refl)
first-parts (Some type) None e = absurd cc
first-parts None y e = absurd cc

pub both-parts : (x y : Option (List CellType)) → is_some (both_types x y) ≡ true → (is_some x ≡ true) × (is_some y ≡ true)
both-parts (Some types) (Some others) e = (refl, refl)
both-parts (Some types) None e = absurd cc
both-parts None y e = absurd cc

if-typed : (b : Bool) (types : List CellType) → is_some (cond b (Some types) None) ≡ true → cond b (Some types) None ≡ Some types
if-typed true types e = refl
if-typed false types e = absurd cc

if-true : (b : Bool) (types : List CellType) → is_some (cond b (Some types) None) ≡ true → b ≡ true
if-true true types e = refl
if-true false types e = absurd cc

-- ---- how many columns there are

abbrev pub width : Option (List CellType) → ℕ
width x = length (known_types x)

first-width : (x : Option CellType) (y : Option (List CellType)) → is_some (with_first x y) ≡ true → width (with_first x y) ≡ suc (width y)
first-width (Some type) (Some types) e = refl
first-width (Some type) None e = absurd cc
first-width None y e = absurd cc

exprs-width : (types : List CellType) (exprs : List Expr) → is_some (exprs_types types exprs) ≡ true → width (exprs_types types exprs) ≡ length exprs
exprs-width types [] e = refl
exprs-width types (a ∷ exprs) e =
    first-width (expr_type types a) (exprs_types types exprs) e
    ∙ ap (λ (n : ℕ). suc n) (exprs-width types exprs (first-parts (expr_type types a) (exprs_types types exprs) e).1)

row-width : (row : List Cell) → is_some (row_types row) ≡ true → width (row_types row) ≡ length row
row-width [] e = refl
row-width (c ∷ row) e = first-width (cell_type c) (row_types row) e ∙ ap (λ (n : ℕ). suc n) (row-width row (first-parts (cell_type c) (row_types row) e).1)

common-width : (types others : List CellType) → is_some (common_types types others) ≡ true → width (common_types types others) ≡ length types
common-width [] [] e = refl
common-width [] (b ∷ others) e = absurd cc
common-width (a ∷ types) [] e = absurd cc
common-width (a ∷ types) (b ∷ others) e =
    first-width (common a b) (common_types types others) e
    ∙ ap (λ (n : ℕ). suc n) (common-width types others (first-parts (common a b) (common_types types others) e).1)

pub both-width : (x y : Option (List CellType)) → is_some (both_types x y) ≡ true → width (both_types x y) ≡ width x
both-width (Some types) (Some others) e = common-width types others e
both-width (Some types) None e = absurd cc
both-width None y e = absurd cc

rows-width : (row : List Cell) (rows : List (List Cell)) → is_some (rows_types row rows) ≡ true → width (rows_types row rows) ≡ length row
rows-width row [] e = row-width row e
rows-width row (next ∷ rows) e =
    both-width (row_types row) (rows_types next rows) e ∙ row-width row (both-parts (row_types row) (rows_types next rows) e).0

-- ---- the names of the columns

exprs-names : (types due : List CellType) (n : ℕ) (exprs : List Expr) → names_from n (exprs_terms types due exprs) ≡ numbered_names n (length exprs)
exprs-names types due n [] = refl
exprs-names types due n (a ∷ exprs) = ap (λ (names : List Column). s.numbered n ∷ names) (exprs-names types (drop 1 due) (suc n) exprs)

cells-names : (due : List CellType) (n : ℕ) (row : List Cell) → names_from n (cells_terms due row) ≡ numbered_names n (length row)
cells-names due n [] = refl
cells-names due n (c ∷ row) = ap (λ (names : List Column). s.numbered n ∷ names) (cells-names (drop 1 due) (suc n) row)

one-names : (alias : Alias) (k n : ℕ) (types : List CellType) → names_from n (columns_of alias k (length types) s.no_terms) ≡ numbered_names n (length types)
one-names alias k n [] = refl
one-names alias k n (type ∷ types) = ap (λ (names : List Column). s.numbered n ∷ names) (one-names alias (suc k) (suc n) types)

two-names : (k n : ℕ) (types others : List CellType)
    → names_from n (columns_of s.x k (length types) (columns_of s.y 1 (length others) s.no_terms)) ≡ numbered_names n (length (types ++ others))
two-names k n [] others = one-names s.y 1 n others
two-names k n (type ∷ types) others = ap (λ (names : List Column). s.numbered n ∷ names) (two-names (suc k) (suc n) types others)

stored-names : (table k n : ℕ) (columns : List t.Column)
    → names_from n (stored_terms table k (length columns)) ≡ numbered_names n (length (map (λ (column : t.Column). kind_type column.kind) columns ++ Id ∷ Mark ∷ []))
stored-names table k n [] = refl
stored-names table k n (column ∷ columns) = ap (λ (names : List Column). s.numbered n ∷ names) (stored-names table (suc k) (suc n) columns)

-- column n of a row with so many columns
abbrev found : ℕ → ℕ → List Cell → Cell
found count n row = unwrap_or (cell_named (s.numbered n) (numbered_names 1 count) row) cell.Null

module _ (relations : Source → Relation) where
  -- ---- FILTER

  selected-rows : (types : List CellType) (c : Cond) → cond_is_typed types c ≡ true → (rows : List (List Cell)) → AllByRecursion (λ row. AreOf row types) rows
      → filter (λ row. holds (test_truth relations (alone s.no_alias (numbered_names 1 (length types)) row) (cond_test types c))) (sql_rows rows) ≡ sql_rows (filter (passes c) rows)
  selected-rows types c typed rows all =
      let kept : List Cell → Bool = λ row. holds (test_truth relations (alone s.no_alias (numbered_names 1 (length types)) row) (cond_test types c)) in
      filter-map kept sql_row rows
      ∙ ap sql_rows
      (kept_agree (λ row. kept (sql_row row)) (passes c) rows
      (each_weaker (λ row. AreOf row types) (λ row. kept (sql_row row) ≡ passes c row) (λ row is. ap holds (cond-value relations types row is c typed)) rows all))

  pub select-value : (c : Cond) (x : Option (List CellType)) (source : Source) (rows : List (List Cell)) → is_some (selected_types c x) ≡ true → HaveTypes x rows
      → (is_some x ≡ true → relations source ≡ relation_with (width x) rows)
      → query_relation relations (s.block (s.select s.all (from s.no_alias source) (s.passing (cond_test (known_types x) c)))) ≡ relation_with (width (selected_types c x)) (filter (passes c) rows)
  select-value c None source rows typed all same = absurd cc
  select-value c (Some types) source rows typed all same =
      let test : s.Test = cond_test types c in
      let own =
      block-alone relations [] s.all s.no_alias source (s.passing test)
      ∙ ap (rows_over relations [] s.all s.no_alias (s.passing test)) (same refl)
      ∙ all-alone relations [] s.no_alias (s.passing test) (relation_with (length types) rows)
      ∙ selected-rows types c (if-true (cond_is_typed types c) types typed) rows all in
      λ i. record {
        columns = (append-nil (relations source).columns ∙ ap (λ (r : Relation). r.columns) (same refl) ∙ ap (λ (z : Option (List CellType)). numbered_names 1 (width z)) (sym (if-typed (cond_is_typed types c) types typed))) i;
        rows = own i;
      }

  -- ---- PROJECT

  exprs-value : (types : List CellType) (row : List Cell) → AreOf row types → (exprs : List Expr) (due : List CellType) → is_some (exprs_types types exprs) ≡ true
      → term_values relations (alone s.no_alias (numbered_names 1 (length types)) (sql_row row)) (exprs_terms types due exprs) ≡ sql_row (values exprs row)
  exprs-value types row is [] due typed = refl
  exprs-value types row is (a ∷ exprs) due typed =
      let parts = first-parts (expr_type types a) (exprs_types types exprs) typed in
      λ i. expr-value relations types row is a (first_due due) parts.0 i ∷ exprs-value types row is exprs (drop 1 due) parts.1 i

  pub project-value : (exprs : List Expr) (due : List CellType) (x : Option (List CellType)) (source : Source) (rows : List (List Cell)) → is_some (projected_types exprs x) ≡ true → HaveTypes x rows
      → (is_some x ≡ true → relations source ≡ relation_with (width x) rows)
      → query_relation relations (s.block (s.select (s.named (exprs_terms (known_types x) due exprs)) (from s.no_alias source) s.everywhere)) ≡ relation_with (width (projected_types exprs x)) (map (values exprs) rows)
  project-value exprs due None source rows typed all same = absurd cc
  project-value exprs due (Some types) source rows typed all same =
      let terms : Terms = exprs_terms types due exprs in
      let made : List Cell → List Cell = λ row. term_values relations (alone s.no_alias (numbered_names 1 (length types)) row) terms in
      let own =
      block-alone relations [] (s.named terms) s.no_alias source s.everywhere
      ∙ made-alone relations [] (s.named terms) s.no_alias (relations source)
      ∙ ap (λ (r : Relation). map (λ row. term_values relations (alone s.no_alias r.columns row) terms) r.rows) (same refl)
      ∙ map-map made sql_row rows
      ∙ map_agree_at (λ row. made (sql_row row)) (λ row. sql_row (values exprs row)) rows
      (each_weaker (λ row. AreOf row types) (λ row. made (sql_row row) ≡ sql_row (values exprs row)) (λ row is. exprs-value types row is exprs due typed) rows all)
      ∙ sym (map-map sql_row (values exprs) rows) in
      λ i. record {
        columns = (exprs-names types due 1 exprs ∙ ap (numbered_names 1) (sym (exprs-width types exprs typed))) i;
        rows = own i;
      }

  -- ---- PRODUCT

  pair-value : (types others : List CellType) (row other : List Cell) → AreOf row types → AreOf other others
      → term_values relations (two relations (relation_with (length types) []) (relation_with (length others) []) (sql_row row) (sql_row other)) (columns_of s.x 1 (length types) (columns_of s.y 1 (length others) s.no_terms))
      ≡ sql_row (row ++ other)
  pair-value types others row other is so =
      let scope : Scope = two relations (relation_with (length types) []) (relation_with (length others) []) (sql_row row) (sql_row other) in
      let long = are-wide row types is in
      let wide = are-wide other others so in
      ap (λ (n : ℕ). term_values relations scope (columns_of s.x 1 n (columns_of s.y 1 (length others) s.no_terms))) long
      ∙ columns-value relations scope s.x (sql_row row) (λ n. ap (λ (count : ℕ). found count (suc n) (sql_row row)) long ∙ named-cell (suc n) (sql_row row)) 0 (sql_row row) (columns_of s.y 1 (length others) s.no_terms) refl
      ∙ ap (λ (n : ℕ). sql_row row ++ term_values relations scope (columns_of s.y 1 n s.no_terms)) wide
      ∙ ap (λ (cells : List Cell). sql_row row ++ cells)
      (columns-value relations scope s.y (sql_row other) (λ n. ap (λ (count : ℕ). found count (suc n) (sql_row other)) wide ∙ named-cell (suc n) (sql_row other)) 0 (sql_row other) s.no_terms refl ∙ append-nil (sql_row other))
      ∙ sym (map-append sql_cell row other)

  pairs-value : (types others : List CellType) (rows more : List (List Cell)) → AllByRecursion (λ row. AreOf row types) rows → AllByRecursion (λ row. AreOf row others) more
      → rows_of_two relations (s.named (columns_of s.x 1 (length types) (columns_of s.y 1 (length others) s.no_terms))) (relation_with (length types) rows) (relation_with (length others) more)
      ≡ sql_rows (flat_map (λ row. map (λ other. row ++ other) more) rows)
  pairs-value types others rows more all these =
      let terms : Terms = columns_of s.x 1 (length types) (columns_of s.y 1 (length others) s.no_terms) in
      let made : List Cell → List Cell → List Cell = λ row other. term_values relations (two relations (relation_with (length types) []) (relation_with (length others) []) row other) terms in
      let pairs : List Cell → List (List Cell) = λ row. map (made row) (sql_rows more) in
      flat_map-map pairs sql_row rows
      ∙ flat_agree (λ row. pairs (sql_row row)) (λ row. sql_rows (map (λ other. row ++ other) more)) rows
      (each_weaker (λ row. AreOf row types) (λ row. pairs (sql_row row) ≡ sql_rows (map (λ other. row ++ other) more))
      (λ row is.
      map-map (made (sql_row row)) sql_row more
      ∙ map_agree_at (λ other. made (sql_row row) (sql_row other)) (λ other. sql_row (row ++ other)) more
      (each_weaker (λ other. AreOf other others) (λ other. made (sql_row row) (sql_row other) ≡ sql_row (row ++ other)) (λ other so. pair-value types others row other is so) more these)
      ∙ sym (map-map sql_row (λ other. row ++ other) more)) rows all)
      ∙ sym (map-flat_map sql_row (λ row. map (λ other. row ++ other) more) rows)

  pub product-value : (x y : Option (List CellType)) (left right : Source) (rows more : List (List Cell)) → is_some (product_types x y) ≡ true → HaveTypes x rows → HaveTypes y more
      → (is_some x ≡ true → relations left ≡ relation_with (width x) rows) → (is_some y ≡ true → relations right ≡ relation_with (width y) more)
      → query_relation relations (s.block (crossed (width x) (width y) left right)) ≡ relation_with (width (product_types x y)) (flat_map (λ row. map (λ other. row ++ other) more) rows)
  product-value (Some types) (Some others) left right rows more typed all these same and =
      let items : s.Items = s.named (columns_of s.x 1 (length types) (columns_of s.y 1 (length others) s.no_terms)) in
      let own =
      block-two relations items left right
      ∙ (λ i. rows_of_two relations items (same refl i) (and refl i))
      ∙ pairs-value types others rows more all these in
      λ i. record { columns = two-names 1 1 types others i; rows = own i }
  product-value (Some types) None left right rows more typed all these same and = absurd cc
  product-value None y left right rows more typed all these same and = absurd cc

  -- ---- UNION and VALUES

  pub union-value : (x y : Option (List CellType)) (left right : Source) (rows more : List (List Cell)) → is_some (both_types x y) ≡ true
      → relations left ≡ relation_with (width x) rows → relations right ≡ relation_with (width y) more
      → query_relation relations (s.union_all (all_of left) (s.block (all_of right))) ≡ relation_with (width (both_types x y)) (rows ++ more)
  union-value x y left right rows more typed same and =
      λ i. record {
        columns = (append-nil (relations left).columns ∙ ap (λ (r : Relation). r.columns) same ∙ ap (numbered_names 1) (sym (both-width x y typed))) i;
        rows = ((λ j. (all-rows relations left ∙ ap (λ (r : Relation). r.rows) same) j ++ (all-rows relations right ∙ ap (λ (r : Relation). r.rows) and) j) ∙ sym (map-append sql_row rows more)) i;
      }

  pub all-value : (count : ℕ) (source : Source) (rows : List (List Cell)) → relations source ≡ relation_with count rows
      → query_relation relations (s.block (all_of source)) ≡ relation_with count rows
  all-value count source rows same =
      λ i. record {
        columns = (append-nil (relations source).columns ∙ ap (λ (r : Relation). r.columns) same) i;
        rows = (all-rows relations source ∙ ap (λ (r : Relation). r.rows) same) i;
      }

  cells-value : (due : List CellType) (row : List Cell) → is_some (row_types row) ≡ true → term_values relations [] (cells_terms due row) ≡ sql_row row
  cells-value due [] typed = refl
  cells-value due (c ∷ row) typed =
      let parts = first-parts (cell_type c) (row_types row) typed in
      λ i. cell-value relations [] (first_due due) c parts.0 i ∷ cells-value (drop 1 due) row parts.1 i

  given-rows : (due : List CellType) (row : List Cell) (rows : List (List Cell)) → is_some (rows_types row rows) ≡ true
      → (query_relation relations (given_query due row rows)).rows ≡ sql_rows (row ∷ rows)
  given-rows due row [] typed = λ i. cells-value due row typed i ∷ []
  given-rows due row (next ∷ rows) typed =
      let parts = both-parts (row_types row) (rows_types next rows) typed in
      λ i. cells-value due row parts.0 i ∷ given-rows due next rows parts.1 i

  given-names : (due : List CellType) (row : List Cell) (rows : List (List Cell)) → (query_relation relations (given_query due row rows)).columns ≡ numbered_names 1 (length row)
  given-names due row [] = cells-names due 1 row
  given-names due row (next ∷ rows) = cells-names due 1 row

  pub given-value : (due : List CellType) (row : List Cell) (rows : List (List Cell)) → is_some (rows_types row rows) ≡ true
      → query_relation relations (given_query due row rows) ≡ relation_with (width (rows_types row rows)) (row ∷ rows)
  given-value due row rows typed =
      λ i. record { columns = (given-names due row rows ∙ ap (numbered_names 1) (sym (rows-width row rows typed))) i; rows = given-rows due row rows typed i }

-- ---- SCAN

plain-cells : (columns : List t.Column) (row : List Cell) → AreOf row (map (λ (column : t.Column). kind_type column.kind) columns) → sql_row row ≡ row
plain-cells [] [] is = refl
plain-cells [] (c ∷ row) is = absurd is
plain-cells (column ∷ columns) [] is = absurd is
plain-cells (column ∷ columns) (c ∷ row) is = λ i. kind-same column.kind c is.0 i ∷ plain-cells columns row is.1 i
  where
    kind-same : (type : _) (c : Cell) → IsOf c (kind_type type) → sql_cell c ≡ c
    kind-same kind.Int c is = same-int c is
    kind-same kind.Text c is = same-text c is

-- a table of row versions with so many columns
abbrev pub stored_relation : ℕ → ℕ → List Span → Relation
stored_relation place count spans = record { columns = s.identity ∷ s.begins ∷ s.ends ∷ stored_names place 0 count; rows = map version_row spans }

module _ (relations : Source → Relation) where
  abbrev span_scope : ℕ → ℕ → List Cell → Scope
  span_scope place count row = alone s.no_alias (s.identity ∷ s.begins ∷ s.ends ∷ stored_names place 0 count) row

  span-value : (place : ℕ) (table : Table) (span : Span) → SpanFits table span
      → term_values relations (span_scope place (length table.cols) (version_row span)) (stored_terms place zero (length table.cols)) ≡ sql_row (encoded_row (λ annotation. []) (row_of unannotated span))
  span-value place table span fits =
      let long : length table.cols ≡ length span.row = sym (length-map (λ (column : t.Column). kind_type column.kind) table.cols) ∙ are-long span.row (column_types table) fits.1 in
      let own : List Cell = cell.Id span.id ∷ cell.Mark false ∷ [] in
      ap (λ (n : ℕ). term_values relations (span_scope place n (version_row span)) (stored_terms place zero n)) long
      ∙ stored-value relations (span_scope place (length span.row) (version_row span)) place span.row (sql_row own) (λ n. stored-cell place n span.row) refl zero span.row refl
      ∙ ap (λ (cells : List Cell). cells ++ sql_row own) (sym (plain-cells table.cols span.row fits.1))
      ∙ sym (map-append sql_cell span.row own)

  pub scan-value : (place version : ℕ) (x : Option Table) (spans : List Span) → relations (s.versions place) ≡ stored_relation place (option_map_or (λ (table : Table). length table.cols) x 0) spans
      → is_some (scan_types x) ≡ true → SpansFit x spans
      → query_relation relations (s.block (scanned place (option_map_or (λ (table : Table). length table.cols) x 0) version))
      ≡ relation_with (width (scan_types x)) (map (encoded_row (λ annotation. [])) (rows_at unannotated version spans))
  scan-value place version None spans stored typed fit = absurd cc
  scan-value place version (Some table) spans stored typed fit =
      let count : ℕ = length table.cols in
      let terms : Terms = stored_terms place zero count in
      let made : List Cell → List Cell = λ row. term_values relations (span_scope place count row) terms in
      let kept : List Cell → Bool = λ row. holds (test_truth relations (span_scope place count row) (holding version)) in
      let own =
      block-alone relations [] (s.named terms) s.no_alias (s.versions place) (s.passing (holding version))
      ∙ ap (rows_over relations [] (s.named terms) s.no_alias (s.passing (holding version))) stored
      ∙ ap (map made) (filter-map kept version_row spans)
      ∙ ap (λ (found : List Span). map made (map version_row found)) (filter_agree (λ span. kept (version_row span)) (holds_at version) (λ span. version-holds span.from version span.to) spans)
      ∙ map-map made version_row (spans_at version spans)
      ∙ map_agree_at (λ span. made (version_row span)) (λ span. sql_row (encoded_row (λ annotation. []) (row_of unannotated span))) (spans_at version spans)
      (each_weaker (SpanFits table) (λ span. made (version_row span) ≡ sql_row (encoded_row (λ annotation. []) (row_of unannotated span))) (λ span fits. span-value place table span fits) (spans_at version spans)
      (each_filter (SpanFits table) (holds_at version) spans fit))
      ∙ sym (map-map sql_row (λ span. encoded_row (λ annotation. []) (row_of unannotated span)) (spans_at version spans))
      ∙ ap sql_rows (sym (map-map (encoded_row (λ annotation. [])) (row_of unannotated) (spans_at version spans))) in
      λ i. record { columns = stored-names place zero 1 table.cols i; rows = own i }
