-- PUBLISH: the query of the written identities, and the query that reads it.
use Rattle.gp_sql.proofs.Prelude.{◌≡◌, ℕ, suc, Bool, true, false, cond, List, [], ◌∷◌, ◌++◌, map, length, Some, None, pos, refl, sym, ap, ◌∙◌, append-nil, Option, is_some, ◌&&◌, ◌||◌, not, filter, AllByRecursion, list_any, and_parts, map-append, each_append, eq_itself, filter-map, map-map, map_agree_at, Cell, column, compared, holds, known, negation, is_marked, is_same_id, published_onto}
use Rattle.gp_plantext.specs.Spellable.{has_item}
use Rattle.std.specs.Option.{unwrap_or}
use Rattle.std.proofs.lemmas.List.Folds.{list_any-append}
use Rattle.std.proofs.lemmas.Map.Views.{any-filter_same}
use Rattle.gp_base.proofs.SmallLemmas.{any-map}
use Rattle.gp_base.specs.declared.cell.Cell.TheVariants as cell
use Rattle.gp_expr.specs.declared.expr.Cmp.TheVariants as cmp
use Rattle.gp_algebra.specs.Plain.{has_id, is_written}
use Rattle.gp_sql.specs.declared.cell_type.CellType.{CellType}
use Rattle.gp_sql.specs.declared.cell_type.CellType.TheVariants.{Null, Int, Text, Id, Mark}
use Rattle.gp_sql.specs.Sql as s
use Rattle.gp_sql.specs.Sql.{Column, Source}
use Rattle.gp_sql.specs.SqlCells.{sql_cell, sql_rows}
use Rattle.gp_sql.specs.Meaning.{Relation, Scope, cell_named, query_relation, test_truth}
use Rattle.gp_sql.specs.NamedQueries as n
use Rattle.gp_sql.specs.NamedQueries.{is_missing, published_query, written_query}
use Rattle.gp_sql.specs.CellTypes.{AreOf, IsOf}
use Rattle.gp_sql.specs.Types.{are_published, is_id, is_mark, published_types, common_types, type_at}
use Rattle.gp_sql.proofs.ColumnLemmas.{alone, numbered_names, relation_with}
use Rattle.gp_sql.proofs.QueryLemmas.{both-width, width}
use Rattle.gp_sql.proofs.SourceLemmas.{all-alone, any_agree, block-alone, has-any, kept_agree, rows_over}
use Rattle.gp_sql.proofs.TermLemmas.{column-value, sql_row}
use Rattle.gp_sql.proofs.TruthLemmas.{exact-id, holds-not, marked, same-id, turned}
use Rattle.gp_sql.proofs.TypeLemmas.{HasType, column-has, each_filter, each_weaker, id-has}

mark-has : (x : Option CellType) → is_mark x ≡ true → (c : Cell) → HasType x c → IsOf c Mark
mark-has (Some Mark) e c h = h
mark-has (Some Null) e c h = absurd cc
mark-has (Some Int) e c h = absurd cc
mark-has (Some Text) e c h = absurd cc
mark-has (Some Id) e c h = absurd cc
mark-has None e c h = absurd cc

-- ---- which identities are written

abbrev own_marks : ℕ → List (List Cell) → List (List Cell)
own_marks at rows = filter (λ row. is_marked (column (suc at) row)) rows

abbrev gone : ℕ → List (List Cell) → List (List Cell) → List (List Cell)
gone at mine base = filter (λ row. not (has_id at (column at row) mine)) base

any-filter : {X : Type 0} (p q : X → Bool) (xs : List X) → list_any p (filter q xs) ≡ list_any (λ x. q x && p x) xs
any-filter p q [] = refl
any-filter p q (x ∷ xs) = elim (q x) as (λ b. list_any p (cond b (x ∷ filter q xs) (filter q xs)) ≡ ((b && p x) || list_any (λ x. q x && p x) xs)) [
  | true ↦ ap (λ b. p x || b) (any-filter p q xs)
  | false ↦ any-filter p q xs
]

-- the rows whose identities are written are those that PUBLISH takes for written
pub written-rows : (at : ℕ) (base mine : List (List Cell)) (id : Cell) → has_id at id (own_marks at mine ++ gone at mine base) ≡ is_written at base mine id
written-rows at base mine id =
    let same : List Cell → Bool = λ row. is_same_id (column at row) id in
    list_any-append same (own_marks at mine) (gone at mine base)
    ∙ (λ i.
    any-filter same (λ row. is_marked (column (suc at) row)) mine i
    || (any-filter_same same (λ row. not (has_id at (column at row) mine)) (not (has_id at id mine)) (λ row e. ap (λ c. not (has_id at c mine)) (exact-id (column at row) id e)) base
    ∙ turned (not (has_id at id mine)) (has_id at id base)) i)

-- ---- NOT EXISTS

module _ (relations : Source → Relation) (at : ℕ) where
  -- row x of a source with so many columns
  abbrev pub row_x : ℕ → List Cell → Scope
  row_x count row = alone s.x (numbered_names 1 count) row

  -- the identities of column c of a relation are compared with that of row x
  abbrev is_same : List Column → Cell → List Cell → Bool
  is_same columns id other = holds (compared cmp.Eq (unwrap_or (cell_named (s.numbered at) columns other) cell.Null) id)

  missing-any : (types : List CellType) (row : List Cell) → AreOf row types → (source : Source)
      → test_truth relations (row_x (length types) (sql_row row)) (is_missing at source)
      ≡ negation (known (list_any (is_same (relations source).columns (sql_cell (column at row))) (relations source).rows))
  missing-any types row are source =
      let scope : Scope = row_x (length types) (sql_row row) in
      let test : s.Test = s.compare cmp.Eq (s.column s.y (s.numbered at)) (s.column s.x (s.numbered at)) in
      ap (λ b. negation (known b))
      (ap has_item (block-alone relations scope (s.single (s.number (pos 1))) s.y source (s.passing test))
      ∙ has-any (λ row. cell.Int (pos 1) ∷ []) (λ other. holds (test_truth relations (alone s.y (relations source).columns other ++ scope) test)) (relations source).rows
      ∙ ap (λ id. list_any (is_same (relations source).columns id) (relations source).rows) (column-value types row are at))

  -- over a source of the rows of a plain query
  missing-value : (types others : List CellType) (row : List Cell) (rows : List (List Cell)) (source : Source) → AreOf row types → IsOf (column at row) Id
      → is_id (type_at at others) ≡ true → AllByRecursion (λ row. AreOf row others) rows → relations source ≡ relation_with (length others) rows
      → holds (test_truth relations (row_x (length types) (sql_row row)) (is_missing at source)) ≡ not (has_id at (column at row) rows)
  missing-value types others row rows source are id typed all same =
      let found : List Cell → Bool = is_same (numbered_names 1 (length others)) (sql_cell (column at row)) in
      ap holds (missing-any types row are source)
      ∙ holds-not (list_any (is_same (relations source).columns (sql_cell (column at row))) (relations source).rows)
      ∙ ap not
      (ap (λ (r : Relation). list_any (is_same r.columns (sql_cell (column at row))) r.rows) same
      ∙ any-map found sql_row rows
      ∙ any_agree (λ other. found (sql_row other)) (λ other. is_same_id (column at other) (column at row)) rows
      (each_weaker (λ other. AreOf other others) (λ other. found (sql_row other) ≡ is_same_id (column at other) (column at row))
      (λ other is.
      ap (λ c. holds (compared cmp.Eq c (sql_cell (column at row)))) (column-value others other is at)
      ∙ same-id (column at other) (column at row) (id-has (type_at at others) typed (column at other) (column-has other others at is)) id)
      rows all))

  -- over the query of the written identities
  abbrev pub id_row : List Cell → List Cell
  id_row row = sql_cell (column at row) ∷ []

  abbrev pub ids_relation : List (List Cell) → Relation
  ids_relation rows = record { columns = s.numbered at ∷ []; rows = map id_row rows }

  unwritten-value : (types : List CellType) (row : List Cell) (rows : List (List Cell)) (source : Source) → AreOf row types → IsOf (column at row) Id
      → AllByRecursion (λ row. IsOf (column at row) Id) rows → relations source ≡ ids_relation rows
      → holds (test_truth relations (row_x (length types) (sql_row row)) (is_missing at source)) ≡ not (has_id at (column at row) rows)
  unwritten-value types row rows source are id all same =
      let found : List Cell → Bool = is_same (s.numbered at ∷ []) (sql_cell (column at row)) in
      ap holds (missing-any types row are source)
      ∙ holds-not (list_any (is_same (relations source).columns (sql_cell (column at row))) (relations source).rows)
      ∙ ap not
      (ap (λ (r : Relation). list_any (is_same r.columns (sql_cell (column at row))) r.rows) same
      ∙ any-map found id_row rows
      ∙ any_agree (λ other. found (id_row other)) (λ other. is_same_id (column at other) (column at row)) rows
      (each_weaker (λ other. IsOf (column at other) Id) (λ other. found (id_row other) ≡ is_same_id (column at other) (column at row))
      (λ other is.
      ap (λ b. holds (compared cmp.Eq (unwrap_or (cond b (Some (sql_cell (column at other))) None) cell.Null) (sql_cell (column at row)))) (eq_itself at)
      ∙ same-id (column at other) (column at row) is id)
      rows all))

  -- ---- marked rows

  -- column n of a row of a source with so many columns
  abbrev cell_at : ℕ → ℕ → List Cell → Cell
  cell_at count n row = unwrap_or (cell_named (s.numbered n) (numbered_names 1 count) row) cell.Null

  marked-rows : (types : List CellType) (rows : List (List Cell)) → is_mark (type_at (suc at) types) ≡ true → AllByRecursion (λ row. AreOf row types) rows
      → filter (λ row. holds (compared cmp.Eq (cell_at (length types) (suc at) row) (cell.Int (pos 1)))) (sql_rows rows) ≡ sql_rows (own_marks at rows)
  marked-rows types rows typed all =
      let kept : List Cell → Bool = λ row. holds (compared cmp.Eq (cell_at (length types) (suc at) row) (cell.Int (pos 1))) in
      filter-map kept sql_row rows
      ∙ ap sql_rows
      (kept_agree (λ row. kept (sql_row row)) (λ row. is_marked (column (suc at) row)) rows
      (each_weaker (λ row. AreOf row types) (λ row. kept (sql_row row) ≡ is_marked (column (suc at) row))
      (λ row is.
      ap (λ c. holds (compared cmp.Eq c (cell.Int (pos 1)))) (column-value types row is (suc at))
      ∙ marked (column (suc at) row) (mark-has (type_at (suc at) types) typed (column (suc at) row) (column-has row types (suc at) is)))
      rows all))

  id-rows : (types : List CellType) (rows : List (List Cell)) → AllByRecursion (λ row. AreOf row types) rows
      → map (λ row. cell_at (length types) at row ∷ []) (sql_rows rows) ≡ map id_row rows
  id-rows types rows all =
      map-map (λ row. cell_at (length types) at row ∷ []) sql_row rows
      ∙ map_agree_at (λ row. cell_at (length types) at (sql_row row) ∷ []) id_row rows
      (each_weaker (λ row. AreOf row types) (λ row. (cell_at (length types) at (sql_row row) ∷ []) ≡ id_row row) (λ row is. ap (λ c. c ∷ []) (column-value types row is at)) rows all)

-- what the types of a PUBLISH say
pub record PublishedTypes (at : ℕ) (a b c : List CellType) : Type 0 where
  pub base : is_id (type_at at a) ≡ true
  pub mine : is_id (type_at at b) ≡ true
  pub later : is_id (type_at at c) ≡ true
  pub mark : is_mark (type_at (suc at) b) ≡ true

published-parts : (at : ℕ) (a b c : List CellType) → are_published at a b c ≡ true → PublishedTypes at a b c
published-parts at a b c e =
    let x = and_parts (is_id (type_at at a)) (is_id (type_at at b) && (is_id (type_at at c) && is_mark (type_at (suc at) b))) e in
    let y = and_parts (is_id (type_at at b)) (is_id (type_at at c) && is_mark (type_at (suc at) b)) x.1 in
    let z = and_parts (is_id (type_at at c)) (is_mark (type_at (suc at) b)) y.1 in
    record { base = x.0; mine = y.0; later = z.0; mark = z.1 }

ids-of : (at : ℕ) (types : List CellType) → is_id (type_at at types) ≡ true → (row : List Cell) → AreOf row types → IsOf (column at row) Id
ids-of at types typed row is = id-has (type_at at types) typed (column at row) (column-has row types at is)

module _ (relations : Source → Relation) (at : ℕ) (a b c : List CellType) (bases ours others : List (List Cell)) (typed : PublishedTypes at a b c)
    (ones : AllByRecursion (λ row. AreOf row a) bases) (twos : AllByRecursion (λ row. AreOf row b) ours) (threes : AllByRecursion (λ row. AreOf row c) others) where
  abbrev pub written_rows : List (List Cell)
  written_rows = own_marks at ours ++ gone at ours bases

  -- ---- the written identities

  gone-rows : (mine : Source) → relations mine ≡ relation_with (length b) ours
      → filter (λ row. holds (test_truth relations (row_x relations at (length a) row) (is_missing at mine))) (sql_rows bases) ≡ sql_rows (gone at ours bases)
  gone-rows mine second =
      let kept : List Cell → Bool = λ row. holds (test_truth relations (row_x relations at (length a) row) (is_missing at mine)) in
      filter-map kept sql_row bases
      ∙ ap sql_rows
      (kept_agree (λ row. kept (sql_row row)) (λ row. not (has_id at (column at row) ours)) bases
      (each_weaker (λ row. AreOf row a) (λ row. kept (sql_row row) ≡ not (has_id at (column at row) ours))
      (λ row is. missing-value relations at a b row ours mine is (ids-of at a typed.base row is) typed.mine twos second) bases ones))

  pub written-value : (base mine : Source) → relations base ≡ relation_with (length a) bases → relations mine ≡ relation_with (length b) ours
      → query_relation relations (written_query at base mine) ≡ ids_relation relations at written_rows
  written-value base mine first second =
      let marks : s.Where = s.passing (n.is_marked at) in
      let gaps : s.Where = s.passing (is_missing at mine) in
      let own =
      block-alone relations [] (s.single (s.column s.no_alias (s.numbered at))) s.no_alias mine marks
      ∙ ap (rows_over relations [] (s.single (s.column s.no_alias (s.numbered at))) s.no_alias marks) second
      ∙ ap (map (λ row. cell_at relations at (length b) at row ∷ [])) (marked-rows relations at b ours typed.mark twos)
      ∙ id-rows relations at b (own_marks at ours) (each_filter (λ row. AreOf row b) (λ row. is_marked (column (suc at) row)) ours twos) in
      let more =
      block-alone relations [] (s.single (s.column s.x (s.numbered at))) s.x base gaps
      ∙ ap (rows_over relations [] (s.single (s.column s.x (s.numbered at))) s.x gaps) first
      ∙ ap (map (λ row. cell_at relations at (length a) at row ∷ [])) (gone-rows mine second)
      ∙ id-rows relations at a (gone at ours bases) (each_filter (λ row. AreOf row a) (λ row. not (has_id at (column at row) ours)) bases ones) in
      λ i. record {
        columns = s.numbered at ∷ [];
        rows = ((λ j. own j ++ more j) ∙ sym (map-append (id_row relations at) (own_marks at ours) (gone at ours bases))) i;
      }

  -- ---- the published rows

  written-ids : AllByRecursion (λ row. IsOf (column at row) Id) written_rows
  written-ids =
      each_append (λ row. IsOf (column at row) Id) (own_marks at ours) (gone at ours bases)
      (each_filter (λ row. IsOf (column at row) Id) (λ row. is_marked (column (suc at) row)) ours (each_weaker (λ row. AreOf row b) (λ row. IsOf (column at row) Id) (ids-of at b typed.mine) ours twos))
      (each_filter (λ row. IsOf (column at row) Id) (λ row. not (has_id at (column at row) ours)) bases (each_weaker (λ row. AreOf row a) (λ row. IsOf (column at row) Id) (ids-of at a typed.base) bases ones))

  left-rows : (written : Source) → relations written ≡ ids_relation relations at written_rows
      → filter (λ row. holds (test_truth relations (row_x relations at (length c) row) (is_missing at written))) (sql_rows others) ≡ sql_rows (filter (λ row. not (is_written at bases ours (column at row))) others)
  left-rows written same =
      let kept : List Cell → Bool = λ row. holds (test_truth relations (row_x relations at (length c) row) (is_missing at written)) in
      filter-map kept sql_row others
      ∙ ap sql_rows
      (kept_agree (λ row. kept (sql_row row)) (λ row. not (is_written at bases ours (column at row))) others
      (each_weaker (λ row. AreOf row c) (λ row. kept (sql_row row) ≡ not (is_written at bases ours (column at row)))
      (λ row is.
      unwritten-value relations at c row written_rows written is (ids-of at c typed.later row is) written-ids same
      ∙ ap not (written-rows at bases ours (column at row))) others threes))

  pub published-value : (written mine later : Source) → relations written ≡ ids_relation relations at written_rows → relations mine ≡ relation_with (length b) ours
      → relations later ≡ relation_with (length c) others → query_relation relations (published_query at written mine later) ≡ relation_with (length c) (published_onto at bases ours others)
  published-value written mine later zeroth second third =
      let marks : s.Where = s.passing (n.is_marked at) in
      let gaps : s.Where = s.passing (is_missing at written) in
      let left =
      block-alone relations [] s.all s.x later gaps
      ∙ ap (rows_over relations [] s.all s.x gaps) third
      ∙ all-alone relations [] s.x gaps (relation_with (length c) others)
      ∙ left-rows written zeroth in
      let own =
      block-alone relations [] s.all s.no_alias mine marks
      ∙ ap (rows_over relations [] s.all s.no_alias marks) second
      ∙ all-alone relations [] s.no_alias marks (relation_with (length b) ours)
      ∙ marked-rows relations at b ours typed.mark twos in
      λ i. record {
        columns = (append-nil (relations later).columns ∙ ap (λ (r : Relation). r.columns) third) i;
        rows = ((λ j. left j ++ own j) ∙ sym (map-append sql_row (filter (λ row. not (is_written at bases ours (column at row))) others) (own_marks at ours))) i;
      }

-- ---- with types that may be missing

pub record IsPublished (at : ℕ) (x y z : Option (List CellType)) : Type 0 where
  pub base : is_some x ≡ true
  pub mine : is_some y ≡ true
  pub later : is_some z ≡ true
  pub types : PublishedTypes at (n.known_types x) (n.known_types y) (n.known_types z)
  pub columns : width (published_types at x y z) ≡ width z

pub is-published : (at : ℕ) (x y z : Option (List CellType)) → is_some (published_types at x y z) ≡ true → IsPublished at x y z
is-published at None y z e = absurd cc
is-published at (Some a) None z e = absurd cc
is-published at (Some a) (Some b) None e = absurd cc
is-published at (Some a) (Some b) (Some c) e =
    let is = if-published (are_published at a b c) (common_types c b) e in
    record {
      base = refl;
      mine = refl;
      later = refl;
      types = published-parts at a b c is.0;
      columns = ap (λ (t : Bool). width (cond t (common_types c b) None)) is.0 ∙ both-width (Some c) (Some b) is.1;
    }
  where
    if-published : (t : Bool) (types : Option (List CellType)) → is_some (cond t types None) ≡ true → (t ≡ true) × (is_some types ≡ true)
    if-published true types e = (refl, e)
    if-published false types e = absurd cc
