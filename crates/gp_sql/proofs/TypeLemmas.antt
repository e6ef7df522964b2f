-- The value of an expression has its type, and the rows of a query have its types.
use Rattle.gp_sql.proofs.Prelude.{◌≡◌, ℕ, zero, suc, Bool, true, false, cond, List, [], ◌∷◌, ◌++◌, map, Some, None, ℤ, refl, Option, ◌+ℤ◌, ◌-ℤ◌, ◌*ℤ◌, ◌&&◌, slice_get, filter, AllByRecursion, flat_map, each_append, Cell, Table, unannotated, fits_number, and_parts, and_from, Sources, Expr, Cond, Parts, column, on_numbers, negated, with_source, made_identity, holds, truth, value, identities, passes, values, encoded_row, Plain, StepRows, published_onto, meaning, Span, holds_at, row_of, spans_at, rows_at}
use Rattle.std.specs.Prelude.{neg_ℤ, get_or}
use Rattle.gp_base.proofs.SmallLemmas.{each_map, each_flat_map}
use Rattle.gp_base.specs.declared.cell.Cell.TheVariants as cell
use Rattle.gp_base.specs.Annotated.{Annotated}
use Rattle.gp_expr.specs.Expressions as e
use Rattle.gp_expr.specs.Values.{number}
use Rattle.gp_algebra.specs.Plain as p
use Rattle.gp_sql.specs.declared.cell_type.CellType.{CellType}
use Rattle.gp_sql.specs.declared.cell_type.CellType.TheVariants.{Null, Int, Text, Id, Mark}
use Rattle.gp_sql.specs.CellTypes.{IsOf, AreOf, numbers_fit, all_numbers_fit, column_types}
use Rattle.gp_sql.specs.Types.{are_u32, is_id, cell_type, common, is_numeric, type_at, negation_type, arithmetic_type, case_type, expr_type, cond_is_typed, parts_are_ids, with_first, exprs_types, row_types, common_types, both_types, rows_types, scan_types, selected_types, projected_types, product_types, are_published, published_types, StepTypes, query_types}
use Rattle.gp_sql.specs.HeldRows.{held_rows}
use Rattle.gp_sql.specs.VersionTables.{SpanFits, SpansFit, AllSpansFit}

-- ---- cells

abbrev pub HasType : Option CellType → Cell → Type 0
HasType None c = Unit {0}
HasType (Some type) c = IsOf c type

pub of-null : (c : Cell) → IsOf c Null → (type : CellType) → IsOf c type
of-null cell.Null h type = tt
of-null (cell.Int n) h type = absurd h
of-null (cell.Text t) h type = absurd h
of-null (cell.Id id) h type = absurd h
of-null (cell.Mark mark) h type = absurd h
of-null (cell.Mono m) h type = absurd h

number-of : (z : ℤ) → IsOf (number z) Int
number-of z = elim (fits_number z) as (λ b. IsOf (cond b (cell.Int z) cell.Null) Int) [ true ↦ tt | false ↦ tt ]

pub numbers-of : (f : ℤ → ℤ → ℤ) (c d : Cell) → IsOf (on_numbers f c d) Int
numbers-of f (cell.Int x) (cell.Int y) = number-of (f x y)
numbers-of f _ _ = tt

pub negated-of : (c : Cell) → IsOf (negated c) Int
negated-of (cell.Int x) = number-of (neg_ℤ x)
negated-of _ = tt

arithmetic-has : (x y : Option CellType) (f : ℤ → ℤ → ℤ) (c d : Cell) → HasType (arithmetic_type x y) (on_numbers f c d)
arithmetic-has (Some a) (Some b) f c d = elim (is_numeric a && is_numeric b) as (λ t. HasType (cond t (Some Int) None) (on_numbers f c d)) [ true ↦ numbers-of f c d | false ↦ tt ]
arithmetic-has (Some a) None f c d = tt
arithmetic-has None y f c d = tt

negation-has : (x : Option CellType) (c : Cell) → HasType (negation_type x) (negated c)
negation-has (Some a) c = elim (is_numeric a) as (λ t. HasType (cond t (Some Int) None) (negated c)) [ true ↦ negated-of c | false ↦ tt ]
negation-has None c = tt

pub common-left : (a b : CellType) (c : Cell) → IsOf c a → HasType (common a b) c
common-left Null b c h = of-null c h b
common-left Int Null c h = h
common-left Int Int c h = h
common-left Int Text c h = tt
common-left Int Id c h = tt
common-left Int Mark c h = tt
common-left Text Null c h = h
common-left Text Int c h = tt
common-left Text Text c h = h
common-left Text Id c h = tt
common-left Text Mark c h = tt
common-left Id Null c h = h
common-left Id Int c h = tt
common-left Id Text c h = tt
common-left Id Id c h = h
common-left Id Mark c h = tt
common-left Mark Null c h = h
common-left Mark Int c h = tt
common-left Mark Text c h = tt
common-left Mark Id c h = tt
common-left Mark Mark c h = h

pub common-right : (a b : CellType) (c : Cell) → IsOf c b → HasType (common a b) c
common-right Null b c h = h
common-right Int Null c h = of-null c h Int
common-right Int Int c h = h
common-right Int Text c h = tt
common-right Int Id c h = tt
common-right Int Mark c h = tt
common-right Text Null c h = of-null c h Text
common-right Text Int c h = tt
common-right Text Text c h = h
common-right Text Id c h = tt
common-right Text Mark c h = tt
common-right Id Null c h = of-null c h Id
common-right Id Int c h = tt
common-right Id Text c h = tt
common-right Id Id c h = h
common-right Id Mark c h = tt
common-right Mark Null c h = of-null c h Mark
common-right Mark Int c h = tt
common-right Mark Text c h = tt
common-right Mark Id c h = tt
common-right Mark Mark c h = h

case-has : (t : Bool) (x y : Option CellType) (d : Bool) (u v : Cell) → HasType x u → HasType y v → HasType (case_type t x y) (cond d u v)
case-has true (Some a) (Some b) true u v h k = common-left a b u h
case-has true (Some a) (Some b) false u v h k = common-right a b v k
case-has true (Some a) None d u v h k = tt
case-has true None y d u v h k = tt
case-has false x y d u v h k = tt

-- the type of an identity, under a test
if-has : (is : Bool) (c : Cell) → (is ≡ true → IsOf c Id) → HasType (cond is (Some Id) None) c
if-has true c f = f refl
if-has false c f = tt

cell-has : (c : Cell) → HasType (cell_type c) c
cell-has cell.Null = tt
cell-has (cell.Int n) = tt
cell-has (cell.Text t) = tt
cell-has (cell.Id id) = if-has (numbers_fit id) (cell.Id id) (λ is. is)
cell-has (cell.Mark mark) = tt
cell-has (cell.Mono m) = tt

get-has : (row : List Cell) (types : List CellType) (n : ℕ) → AreOf row types → HasType (slice_get types n) (get_or row n cell.Null)
get-has [] [] n h = tt
get-has [] (type ∷ types) n h = absurd h
get-has (c ∷ row) [] n h = absurd h
get-has (c ∷ row) (type ∷ types) zero h = h.0
get-has (c ∷ row) (type ∷ types) (suc n) h = get-has row types n h.1

pub column-has : (row : List Cell) (types : List CellType) (n : ℕ) → AreOf row types → HasType (type_at n types) (column n row)
column-has row types zero h = tt
column-has row types (suc n) h = get-has row types n h

-- the numbers of identities that were found
abbrev SourcesFit : Option Sources → Type 0
SourcesFit None = Unit {0}
SourcesFit (Some ids) = all_numbers_fit ids ≡ true

source-fits : (c : Cell) (ids : Option Sources) → IsOf c Id → SourcesFit ids → SourcesFit (with_source c ids)
source-fits cell.Null None h k = tt
source-fits cell.Null (Some ids) h k = tt
source-fits (cell.Int n) ids h k = absurd h
source-fits (cell.Text t) ids h k = absurd h
source-fits (cell.Id id) None h k = tt
source-fits (cell.Id id) (Some ids) h k = and_from (numbers_fit id) (all_numbers_fit ids) h k
source-fits (cell.Mark mark) ids h k = absurd h
source-fits (cell.Mono m) ids h k = absurd h

id-of : (t k b : ℕ) (ids : Option Sources) → are_u32 t k b ≡ true → SourcesFit ids → IsOf (made_identity t k b ids) Id
id-of t k b None h k' = tt
id-of t k b (Some ids) h k' = and_from (are_u32 t k b) (all_numbers_fit ids) h k'

pub id-has : (x : Option CellType) → is_id x ≡ true → (c : Cell) → HasType x c → IsOf c Id
id-has (Some Id) e c h = h
id-has (Some Null) e c h = absurd cc
id-has (Some Int) e c h = absurd cc
id-has (Some Text) e c h = absurd cc
id-has (Some Mark) e c h = absurd cc
id-has None e c h = absurd cc

-- ---- expressions

mutual
  pub expr-has : (types : List CellType) (row : List Cell) → AreOf row types → (x : Expr) → HasType (expr_type types x) (value x row)
  expr-has types row h (e.col n) = column-has row types n h
  expr-has types row h (e.constant c) = cell-has c
  expr-has types row h (e.add a b) = arithmetic-has (expr_type types a) (expr_type types b) ◌+ℤ◌ (value a row) (value b row)
  expr-has types row h (e.sub a b) = arithmetic-has (expr_type types a) (expr_type types b) ◌-ℤ◌ (value a row) (value b row)
  expr-has types row h (e.mul a b) = arithmetic-has (expr_type types a) (expr_type types b) ◌*ℤ◌ (value a row) (value b row)
  expr-has types row h (e.neg a) = negation-has (expr_type types a) (value a row)
  expr-has types row h (e.case c a b) =
      case-has (cond_is_typed types c) (expr_type types a) (expr_type types b) (holds (truth c row)) (value a row) (value b row) (expr-has types row h a) (expr-has types row h b)
  expr-has types row h (e.new_id t k b parts) =
      if-has (are_u32 t k b && parts_are_ids types parts) (made_identity t k b (identities parts row))
      (λ is. let both = and_parts (are_u32 t k b) (parts_are_ids types parts) is in id-of t k b (identities parts row) both.0 (parts-have types row h parts both.1))
  expr-has types row h (e.times a b) = tt

  parts-have : (types : List CellType) (row : List Cell) → AreOf row types → (parts : Parts) → parts_are_ids types parts ≡ true → SourcesFit (identities parts row)
  parts-have types row h e.no_parts is = refl
  parts-have types row h (e.part a others) is =
      let both = and_parts (is_id (expr_type types a)) (parts_are_ids types others) is in
      source-fits (value a row) (identities others row) (id-has (expr_type types a) both.0 (value a row) (expr-has types row h a)) (parts-have types row h others both.1)

-- ---- rows

abbrev pub HasTypes : Option (List CellType) → List Cell → Type 0
HasTypes None row = Unit {0}
HasTypes (Some types) row = AreOf row types

abbrev pub HaveTypes : Option (List CellType) → List (List Cell) → Type 0
HaveTypes None rows = Unit {0}
HaveTypes (Some types) rows = AllByRecursion (λ row. AreOf row types) rows

first-has : (x : Option CellType) (y : Option (List CellType)) (c : Cell) (row : List Cell) → HasType x c → HasTypes y row → HasTypes (with_first x y) (c ∷ row)
first-has (Some type) (Some types) c row h k = (h, k)
first-has (Some type) None c row h k = tt
first-has None y c row h k = tt

values-have : (types : List CellType) (row : List Cell) → AreOf row types → (exprs : List Expr) → HasTypes (exprs_types types exprs) (values exprs row)
values-have types row h [] = tt
values-have types row h (a ∷ exprs) = first-has (expr_type types a) (exprs_types types exprs) (value a row) (values exprs row) (expr-has types row h a) (values-have types row h exprs)

cells-have : (row : List Cell) → HasTypes (row_types row) row
cells-have [] = tt
cells-have (c ∷ row) = first-has (cell_type c) (row_types row) c row (cell-has c) (cells-have row)

pub are-append : (row : List Cell) (types : List CellType) (other : List Cell) (others : List CellType) → AreOf row types → AreOf other others → AreOf (row ++ other) (types ++ others)
are-append [] [] other others h k = k
are-append [] (type ∷ types) other others h k = absurd h
are-append (c ∷ row) [] other others h k = absurd h
are-append (c ∷ row) (type ∷ types) other others h k = (h.0, are-append row types other others h.1 k)

wider-left : (types others : List CellType) (row : List Cell) → AreOf row types → HasTypes (common_types types others) row
wider-left [] [] row h = h
wider-left [] (b ∷ others) row h = tt
wider-left (a ∷ types) [] row h = tt
wider-left (a ∷ types) (b ∷ others) [] h = absurd h
wider-left (a ∷ types) (b ∷ others) (c ∷ row) h = first-has (common a b) (common_types types others) c row (common-left a b c h.0) (wider-left types others row h.1)

wider-right : (types others : List CellType) (row : List Cell) → AreOf row others → HasTypes (common_types types others) row
wider-right [] [] row h = h
wider-right [] (b ∷ others) row h = tt
wider-right (a ∷ types) [] row h = tt
wider-right (a ∷ types) (b ∷ others) [] h = absurd h
wider-right (a ∷ types) (b ∷ others) (c ∷ row) h = first-has (common a b) (common_types types others) c row (common-right a b c h.0) (wider-right types others row h.1)

-- ---- lists of rows

pub each_filter : {X : Type 0} (P : X → Type 0) (p : X → Bool) (xs : List X) → AllByRecursion P xs → AllByRecursion P (filter p xs)
each_filter P p [] h = tt
each_filter P p (x ∷ xs) h =
    elim (p x) as (λ b. AllByRecursion P (cond b (x ∷ filter p xs) (filter p xs))) [ true ↦ (h.0, each_filter P p xs h.1) | false ↦ each_filter P p xs h.1 ]

pub each_weaker : {X : Type 0} (P Q : X → Type 0) → ((x : X) → P x → Q x) → (xs : List X) → AllByRecursion P xs → AllByRecursion Q xs
each_weaker P Q f [] h = tt
each_weaker P Q f (x ∷ xs) h = (f x h.0, each_weaker P Q f xs h.1)

each-have : (y : Option (List CellType)) (rows : List (List Cell)) → AllByRecursion (HasTypes y) rows → HaveTypes y rows
each-have None rows h = tt
each-have (Some types) rows h = h

both-have : (x y : Option (List CellType)) (rows others : List (List Cell)) → HaveTypes x rows → HaveTypes y others → HaveTypes (both_types x y) (rows ++ others)
both-have (Some a) (Some b) rows others h k =
    each-have (common_types a b) (rows ++ others)
    (each_append (HasTypes (common_types a b)) rows others
    (each_weaker (λ row. AreOf row a) (HasTypes (common_types a b)) (λ row. wider-left a b row) rows h)
    (each_weaker (λ row. AreOf row b) (HasTypes (common_types a b)) (λ row. wider-right a b row) others k))
both-have (Some a) None rows others h k = tt
both-have None y rows others h k = tt

given-have : (row : List Cell) (rows : List (List Cell)) → HaveTypes (rows_types row rows) (row ∷ rows)
given-have row [] = each-have (row_types row) (row ∷ []) (cells-have row, tt)
given-have row (next ∷ rows) = both-have (row_types row) (rows_types next rows) (row ∷ []) (next ∷ rows) (each-have (row_types row) (row ∷ []) (cells-have row, tt)) (given-have next rows)

-- ---- queries

selected-have : (c : Cond) (x : Option (List CellType)) (rows : List (List Cell)) → HaveTypes x rows → HaveTypes (selected_types c x) (filter (passes c) rows)
selected-have c None rows h = tt
selected-have c (Some types) rows h =
    elim (cond_is_typed types c) as (λ t. HaveTypes (cond t (Some types) None) (filter (passes c) rows)) [ true ↦ each_filter (λ row. AreOf row types) (passes c) rows h | false ↦ tt ]

projected-have : (exprs : List Expr) (x : Option (List CellType)) (rows : List (List Cell)) → HaveTypes x rows → HaveTypes (projected_types exprs x) (map (values exprs) rows)
projected-have exprs None rows h = tt
projected-have exprs (Some types) rows h =
    each-have (exprs_types types exprs) (map (values exprs) rows)
    (each_map (HasTypes (exprs_types types exprs)) (λ row. AreOf row types) (values exprs) (λ row is. values-have types row is exprs) rows h)

product-have : (x y : Option (List CellType)) (rows others : List (List Cell)) → HaveTypes x rows → HaveTypes y others → HaveTypes (product_types x y) (flat_map (λ row. map (λ other. row ++ other) others) rows)
product-have (Some a) (Some b) rows others h k =
    each_flat_map (λ row. AreOf row (a ++ b)) (λ row. AreOf row a) (λ row. map (λ other. row ++ other) others)
    (λ row is. each_map (λ row. AreOf row (a ++ b)) (λ row. AreOf row b) (λ other. row ++ other) (λ other so. are-append row a other b is so) others k) rows h
product-have (Some a) None rows others h k = tt
product-have None y rows others h k = tt

published-have : (at : ℕ) (x y z : Option (List CellType)) (base mine later : List (List Cell)) → HaveTypes y mine → HaveTypes z later → HaveTypes (published_types at x y z) (published_onto at base mine later)
published-have at None y z base mine later h k = tt
published-have at (Some a) None z base mine later h k = tt
published-have at (Some a) (Some b) None base mine later h k = tt
published-have at (Some a) (Some b) (Some c) base mine later h k =
    elim (are_published at a b c) as (λ t. HaveTypes (cond t (common_types c b) None) (published_onto at base mine later)) [
      | true ↦ both-have (Some c) (Some b) _ _ (each_filter (λ row. AreOf row c) _ later k) (each_filter (λ row. AreOf row b) _ mine h)
      | false ↦ tt
    ]

abbrev RowFits : Table → Annotated (Unit {0}) → Type 0
RowFits table row = (numbers_fit row.identity ≡ true) × AreOf row.cells (column_types table)

version-has : (table : Table) (version : ℕ) (spans : List Span) → AllByRecursion (SpanFits table) spans
    → AllByRecursion (λ row. AreOf row (column_types table ++ Id ∷ Mark ∷ [])) (map (encoded_row (λ annotation. [])) (rows_at unannotated version spans))
version-has table version spans h =
    each_map (λ row. AreOf row (column_types table ++ Id ∷ Mark ∷ [])) (RowFits table) (encoded_row (λ annotation. []))
    (λ row is. are-append row.cells (column_types table) _ (Id ∷ Mark ∷ []) is.1 (is.0, (tt, tt))) (rows_at unannotated version spans)
    (each_map (RowFits table) (SpanFits table) (row_of unannotated) (λ span is. is) (spans_at version spans)
    (each_filter (SpanFits table) (holds_at version) spans h))

scan-has : (table : Option Table) (version : ℕ) (spans : List Span) → SpansFit table spans → HaveTypes (scan_types table) (map (encoded_row (λ annotation. [])) (rows_at unannotated version spans))
scan-has None version spans h = tt
scan-has (Some table) version spans h = version-has table version spans h

-- the rows of each step have its types
abbrev pub StepsHave : StepTypes → StepRows → Type 0
StepsHave types rows = (j : ℕ) → HaveTypes (types j) (rows j)

pub query-has : (tables : List Table) (spans : ℕ → List Span) → AllSpansFit tables spans → (types : StepTypes) (rows : StepRows) → StepsHave types rows
    → (query : Plain) → HaveTypes (query_types tables types query) (meaning rows (held_rows spans) query)
query-has tables spans fit types rows have (p.scan table version) = scan-has (slice_get tables table) version (spans table) (fit table)
query-has tables spans fit types rows have (p.step j) = have j
query-has tables spans fit types rows have (p.select query c) = selected-have c (query_types tables types query) _ (query-has tables spans fit types rows have query)
query-has tables spans fit types rows have (p.project query exprs) = projected-have exprs (query_types tables types query) _ (query-has tables spans fit types rows have query)
query-has tables spans fit types rows have (p.product left right) =
    product-have (query_types tables types left) (query_types tables types right) _ _ (query-has tables spans fit types rows have left) (query-has tables spans fit types rows have right)
query-has tables spans fit types rows have (p.union left right) =
    both-have (query_types tables types left) (query_types tables types right) _ _ (query-has tables spans fit types rows have left) (query-has tables spans fit types rows have right)
query-has tables spans fit types rows have (p.given []) = tt
query-has tables spans fit types rows have (p.given (row ∷ others)) = given-have row others
query-has tables spans fit types rows have (p.publish at base mine later) =
    published-have at (query_types tables types base) (query_types tables types mine) (query_types tables types later) _ _ _
    (query-has tables spans fit types rows have mine) (query-has tables spans fit types rows have later)
