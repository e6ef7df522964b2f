-- The query of a program that has types and a text is spelled, where its text has fewer than 2 ^ 63 bytes.
use Rattle.gp_sql.proofs.Prelude.{◌≡◌, ℕ, pos, zero, suc, ◌+◌, ◌^◌, ◌<◌, ◌≤◌, Bool, true, false, cond, List, [], ◌∷◌, ◌++◌, length, take, drop, get_or, Some, None, refl, sym, subst, ◌∙◌, length-append, arith, codes, is_some, ◌&&◌, ◌||◌, ◌==◌, slice_get, decimal, flat_map, list_all, and_parts, and_from, false≢true, list_all-append, eq_itself, Cell, Table, table_names, fits_number, is_name, newline, is_u32, Expr, Cond, Plain, PlainStep, PlainProgram, width_of, cell_is_spellable, expr_is_spellable, cond_is_spellable}
use Rattle.std.specs.Option.{option_map_or}
use Rattle.std.proofs.Common.{Option}
use Rattle.gp_base.specs.declared.table.Column as table
use Rattle.gp_algebra.specs.Plain as p
use Rattle.gp_plantext.specs.Spellable.{has_item, row_is_spellable, table_is_spellable, query_is_spellable, step_is_spellable, is_spellable}
use Rattle.gp_plantext.proofs.Rests.{length-concat}
use Rattle.gp_sql.specs.declared.cell_type.CellType.{CellType}
use Rattle.gp_sql.specs.declared.cell_type.CellType.TheVariants.{Id, Mark}
use Rattle.gp_sql.specs.NamedQueries.{Operand, Translated, TranslatedSteps, from, all_of, stored_terms, holding, scanned, columns_of, given_block, given_query, is_marked, is_missing, written_query, published_query, is_projection, operand, known_types, types_of, translated, translated_steps, program_query}
use Rattle.gp_sql.proofs.NamesAgain.{named_is_spelled}
use Rattle.gp_sql.specs.Spelled.{table_of, source_is_spelled, terms_are_spelled, test_is_spelled, items_are_spelled, block_is_spelled, query_is_spelled, is_spelled}
use Rattle.gp_sql.specs.Spelling.{column_name, term_text, named_text, others_named, from_text, where_text, block_text, query_text, source_text, materialized_text, expression_text, other_expression, expressions_text, with_text}
use Rattle.gp_sql.specs.Sql as s
use Rattle.gp_sql.specs.Sql.{Alias, Source, FromItem, Terms, Where, Block, Query, NamedQuery, With}
use Rattle.gp_sql.specs.Translation.{cond_test, exprs_terms, cells_terms}
use Rattle.gp_sql.specs.CellTypes.{column_types}
use Rattle.gp_sql.specs.Types.{StepTypes, cond_is_typed, with_first, exprs_types, row_types, common_types, both_types, rows_types, scan_types, selected_types, projected_types, product_types, are_published, published_types, query_types, no_types, with_types, step_is_typed, steps_types, steps_are_typed, is_typed}
use Rattle.gp_sql.proofs.PublishLemmas.{is-published}
use Rattle.gp_sql.proofs.QueryLemmas.{both-parts}
use Rattle.gp_sql.proofs.SpelledTerms.{fits, fits-u32, fits-next, three, cond-spelled, exprs-spelled, cells-spelled}
use Rattle.gp_sql.proofs.NamedLemmas.{product-some, projected-some, selected-some, step-some}

-- ---- every query of a program that has a text has a column

abbrev IsWide : Option (List CellType) → Type 0
IsWide None = Unit {0}
IsWide (Some []) = ⊥
IsWide (Some (type ∷ types)) = Unit {0}

first-wide : (x : Option CellType) (y : Option (List CellType)) → IsWide (with_first x y)
first-wide (Some a) (Some types) = tt
first-wide (Some a) None = tt
first-wide None y = tt

common-wide : (types others : List CellType) → IsWide (Some types) → IsWide (common_types types others)
common-wide [] others wide = absurd wide
common-wide (a ∷ types) [] wide = tt
common-wide (a ∷ types) (b ∷ others) wide = first-wide _ _

both-wide : (x y : Option (List CellType)) → IsWide x → IsWide (both_types x y)
both-wide (Some types) (Some others) wide = common-wide types others wide
both-wide (Some types) None wide = tt
both-wide None y wide = tt

row-wide : (row : List Cell) → has_item row ≡ true → IsWide (row_types row)
row-wide [] some = absurd (false≢true some)
row-wide (x ∷ cells) some = first-wide _ _

rows-wide : (row : List Cell) (rows : List (List Cell)) → has_item row ≡ true → IsWide (rows_types row rows)
rows-wide row [] some = row-wide row some
rows-wide row (next ∷ rows) some = both-wide (row_types row) (rows_types next rows) (row-wide row some)

exprs-wide : (types : List CellType) (exprs : List Expr) → has_item exprs ≡ true → IsWide (exprs_types types exprs)
exprs-wide types [] some = absurd (false≢true some)
exprs-wide types (a ∷ exprs) some = first-wide _ _

more-wide : (types : List CellType) → IsWide (Some (types ++ Id ∷ Mark ∷ []))
more-wide [] = tt
more-wide (type ∷ types) = tt

scan-wide : (own : Option Table) → IsWide (scan_types own)
scan-wide None = tt
scan-wide (Some own) = more-wide (column_types own)

selected-wide : (c : Cond) (x : Option (List CellType)) → IsWide x → IsWide (selected_types c x)
selected-wide c None wide = tt
selected-wide c (Some types) wide = elim (cond_is_typed types c) as (λ b. IsWide (cond b (Some types) None)) [ true ↦ wide | false ↦ tt ]

projected-wide : (exprs : List Expr) (x : Option (List CellType)) → has_item exprs ≡ true → IsWide (projected_types exprs x)
projected-wide exprs None some = tt
projected-wide exprs (Some types) some = exprs-wide types exprs some

product-wide : (x y : Option (List CellType)) → IsWide x → IsWide (product_types x y)
product-wide (Some []) y wide = absurd wide
product-wide (Some (type ∷ types)) (Some others) wide = tt
product-wide (Some (type ∷ types)) None wide = tt
product-wide None y wide = tt

published-wide : (at : ℕ) (x y z : Option (List CellType)) → IsWide z → IsWide (published_types at x y z)
published-wide at None y z wide = tt
published-wide at (Some a) None z wide = tt
published-wide at (Some a) (Some b) None wide = tt
published-wide at (Some a) (Some b) (Some c) wide = elim (are_published at a b c) as (λ t. IsWide (cond t (common_types c b) None)) [ true ↦ common-wide c b wide | false ↦ tt ]

abbrev AreWide : StepTypes → Type 0
AreWide types = (j : ℕ) → IsWide (types j)

module _ (tables : List Table) where
  query-wide : (types : StepTypes) → AreWide types → (query : Plain) → query_is_spellable tables query ≡ true → IsWide (query_types tables types query)
  query-wide types wide (p.scan table version) is = scan-wide (slice_get tables table)
  query-wide types wide (p.step j) is = wide j
  query-wide types wide (p.select query c) is =
      let q = and_parts (query_is_spellable tables query) (cond_is_spellable c) is in selected-wide c (query_types tables types query) (query-wide types wide query q.0)
  query-wide types wide (p.project query exprs) is = let q = three (query_is_spellable tables query) (has_item exprs) (list_all expr_is_spellable exprs) is in projected-wide exprs (query_types tables types query) q.1
  query-wide types wide (p.product left right) is =
      let q = and_parts (query_is_spellable tables left) (query_is_spellable tables right) is in product-wide (query_types tables types left) (query_types tables types right) (query-wide types wide left q.0)
  query-wide types wide (p.union left right) is =
      let q = and_parts (query_is_spellable tables left) (query_is_spellable tables right) is in both-wide (query_types tables types left) (query_types tables types right) (query-wide types wide left q.0)
  query-wide types wide (p.given []) is = absurd (false≢true is)
  query-wide types wide (p.given (row ∷ rows)) is =
      let q = and_parts (row_is_spellable row) (list_all row_is_spellable rows) is in
      rows-wide row rows (and_parts (has_item row) (list_all cell_is_spellable row) q.0).0
  query-wide types wide (p.publish at base mine later) is =
      let q = and_parts (is_u32 at) (query_is_spellable tables base && (query_is_spellable tables mine && query_is_spellable tables later)) is in
      let r = three (query_is_spellable tables base) (query_is_spellable tables mine) (query_is_spellable tables later) q.1 in
      published-wide at (query_types tables types base) (query_types tables types mine) (query_types tables types later) (query-wide types wide later r.2)

  with-wide : (place : ℕ) (x : Option (List CellType)) (types : StepTypes) → IsWide x → AreWide types → AreWide (with_types place x types)
  with-wide place x types own wide j = elim (j == place) as (λ b. IsWide (cond b x (types j))) [ true ↦ own | false ↦ wide j ]

known-some : (x : Option (List CellType)) → is_some x ≡ true → IsWide x → 0 < length (known_types x)
known-some None some wide = absurd (false≢true some)
known-some (Some []) some wide = absurd wide
known-some (Some (type ∷ types)) some wide = omega arith

-- ---- lists of terms

abbrev has_term : Terms → Bool
has_term s.no_terms = false
has_term (s.term a others) = true

abbrev count : Terms → ℕ
count s.no_terms = 0
count (s.term a others) = 1 + count others

count-some : (terms : Terms) → 0 < count terms → has_term terms ≡ true
count-some s.no_terms some = absurd (omega (arith, some))
count-some (s.term a others) some = refl

exprs-term : (types due : List CellType) (exprs : List Expr) → has_item exprs ≡ true → has_term (exprs_terms types due exprs) ≡ true
exprs-term types due [] some = absurd (false≢true some)
exprs-term types due (a ∷ exprs) some = refl

cells-term : (due : List CellType) (cells : List Cell) → has_item cells ≡ true → has_term (cells_terms due cells) ≡ true
cells-term due [] some = absurd (false≢true some)
cells-term due (x ∷ cells) some = refl

stored-term : (table n width : ℕ) → has_term (stored_terms table n width) ≡ true
stored-term table n zero = refl
stored-term table n (suc width) = refl

count-columns : (alias : Alias) (n width : ℕ) (others : Terms) → count (columns_of alias n width others) ≡ width + count others
count-columns alias n zero others = omega arith
count-columns alias n (suc width) others = omega (arith, count-columns alias (suc n) width others)

module _ (tables : List Table) where
  named-items : (own : Option ℕ) (terms : Terms) → has_term terms ≡ true → terms_are_spelled tables own terms ≡ true → items_are_spelled tables own (s.named terms) ≡ true
  named-items own s.no_terms some is = absurd (false≢true some)
  named-items own (s.term a others) some is = is

  columns-spelled : (alias : Alias) (n width : ℕ) (others : Terms) → n + width ≤ 2 ^ 63 → terms_are_spelled tables None others ≡ true → terms_are_spelled tables None (columns_of alias n width others) ≡ true
  columns-spelled alias n zero others few is = is
  columns-spelled alias n (suc width) others few is =
      and_from (fits_number (pos n)) (terms_are_spelled tables None (columns_of alias (suc n) width others)) (fits n (omega (arith, few))) (columns-spelled alias (suc n) width others (omega (arith, few)) is)

  others-long : (m : ℕ) (terms : Terms) → count terms ≤ length (others_named tables m terms)
  others-long m s.no_terms = omega arith
  others-long m (s.term a others) =
      let whole = length-concat (codes ", " ∷ term_text tables a ∷ codes " AS c" ∷ decimal m ∷ others_named tables (suc m) others ∷ []) in
      let later = others-long (suc m) others in
      omega (arith, whole, later)

  named-long : (terms : Terms) → count terms ≤ length (named_text tables 1 terms)
  named-long s.no_terms = omega arith
  named-long (s.term a others) =
      let whole = length-concat (term_text tables a ∷ codes " AS c" ∷ decimal 1 ∷ others_named tables 2 others ∷ []) in
      let later = others-long 2 others in
      omega (arith, whole, later)

  block-long : (terms : Terms) (from : List FromItem) (cond : Where) → count terms ≤ length (block_text tables (s.select (s.named terms) from cond))
  block-long terms from cond =
      let whole = length-concat (codes "SELECT " ∷ named_text tables 1 terms ∷ from_text tables from ∷ where_text tables cond ∷ []) in
      omega (arith, whole, named-long terms)

  -- ---- texts of queries

  abbrev long : Query → ℕ
  long query = length (query_text tables query)

  abbrev total : List NamedQuery → ℕ
  total [] = 0
  total (named ∷ queries) = long named.query + total queries

  query-some : (query : Query) → 1 ≤ long query
  query-some (s.block (s.select items from cond)) = omega arith
  query-some (s.union_all (s.select items from cond) query) = omega arith

  total-append : (queries others : List NamedQuery) → total (queries ++ others) ≡ total queries + total others
  total-append [] others = omega arith
  total-append (named ∷ queries) others = omega (arith, total-append queries others)

  all-append : (queries others : List NamedQuery) → list_all (named_is_spelled tables) queries ≡ true → list_all (named_is_spelled tables) others ≡ true → list_all (named_is_spelled tables) (queries ++ others) ≡ true
  all-append queries others one two = list_all-append (named_is_spelled tables) queries others ∙ and_from (list_all (named_is_spelled tables) queries) (list_all (named_is_spelled tables) others) one two

  others-texts : (queries : List NamedQuery) → total queries ≤ length (flat_map (other_expression tables) queries)
  others-texts [] = omega arith
  others-texts (named ∷ queries) =
      let whole = length-append (other_expression tables named) (flat_map (other_expression tables) queries) in
      let one = length-concat (codes "," ∷ newline ∷ expression_text tables named ∷ []) in
      let own = length-concat (source_text tables named.name ∷ codes " AS " ∷ materialized_text named.materialized ∷ codes "(" ∷ query_text tables named.query ∷ codes ")" ∷ []) in
      omega (arith, whole, one, own, others-texts queries)

  expressions-long : (queries : List NamedQuery) → total queries ≤ length (expressions_text tables queries)
  expressions-long [] = omega arith
  expressions-long (first ∷ others) =
      let whole = length-concat (codes "WITH " ∷ expression_text tables first ∷ flat_map (other_expression tables) others ∷ newline ∷ []) in
      let own = length-concat (source_text tables first.name ∷ codes " AS " ∷ materialized_text first.materialized ∷ codes "(" ∷ query_text tables first.query ∷ codes ")" ∷ []) in
      omega (arith, whole, own, others-texts others)

  with-long : (query : With) → 2 + (total query.queries + long query.last) ≤ length (with_text tables query)
  with-long query =
      let whole = length-concat (expressions_text tables query.queries ∷ query_text tables query.last ∷ codes ";" ∷ newline ∷ []) in
      omega (arith, whole, expressions-long query.queries)

  -- ---- blocks

  from-spelled : (alias : Alias) (source : Source) → source_is_spelled tables source ≡ true → list_all (λ (item : FromItem). source_is_spelled tables item.source) (from alias source) ≡ true
  from-spelled alias source is = and_from (source_is_spelled tables source) true is refl

  marked-spelled : (n : ℕ) → is_u32 n ≡ true → test_is_spelled tables (is_marked n) ≡ true
  marked-spelled n is = and_from (fits_number (pos (suc n))) true (fits-next n is) refl

  missing-spelled : (n : ℕ) (source : Source) → is_u32 n ≡ true → source_is_spelled tables source ≡ true → test_is_spelled tables (is_missing n source) ≡ true
  missing-spelled n source is there =
      and_from (list_all (λ (item : FromItem). source_is_spelled tables item.source) (from s.y source)) (fits_number (pos n) && fits_number (pos n)) (from-spelled s.y source there)
      (and_from (fits_number (pos n)) (fits_number (pos n)) (fits-u32 n is) (fits-u32 n is))

  all-spelled : (source : Source) → source_is_spelled tables source ≡ true → block_is_spelled tables (all_of source) ≡ true
  all-spelled source is = and_from (list_all (λ (item : FromItem). source_is_spelled tables item.source) (from s.no_alias source)) true (from-spelled s.no_alias source is) refl

  -- ---- named queries

  -- a query and those before it are spelled, where their texts are short; the numbers behind n are as many as the bytes of these at most
  record Good (n : ℕ) (a : Translated) : Type 0 where
    few : a.next ≤ n + total a.before
    good : n + (total a.before + long a.query) < 2 ^ 63 → (list_all (named_is_spelled tables) a.before ≡ true) × (query_is_spelled tables a.query ≡ true)

  -- an operand, which is no table, and the queries before it are spelled, where their texts are short
  record GoodOperand (n : ℕ) (a : Operand) : Type 0 where
    few : a.next ≤ n + total a.before
    alone : table_of a.source ≡ None
    good : n + total a.before < 2 ^ 63 → (list_all (named_is_spelled tables) a.before ≡ true) × (source_is_spelled tables a.source ≡ true)

  named-good : (n : ℕ) (materialized : Bool) (a : Translated) → Good n a
      → GoodOperand n (record { before = a.before ++ record { name = s.query a.next; materialized = materialized; query = a.query } ∷ []; source = s.query a.next; next = suc a.next })
  named-good n materialized a own =
      let named : NamedQuery = record { name = s.query a.next; materialized = materialized; query = a.query } in
      let sum : total (a.before ++ named ∷ []) ≡ total a.before + (long a.query + 0) = total-append a.before (named ∷ []) in
      let some = query-some a.query in
      let low = own.few in
      record {
        few = omega (arith, low, sum, some);
        alone = refl;
        good = λ short.
            let parts = own.good (omega (arith, short, sum)) in
            let number : fits_number (pos a.next) ≡ true = fits a.next (omega (arith, short, sum, low)) in
            (all-append a.before (named ∷ []) parts.0 (and_from (named_is_spelled tables named) true (and_from (fits_number (pos a.next)) (query_is_spelled tables a.query) number parts.1) refl), number);
      }

  operand-good : (types : StepTypes) (n : ℕ) (in_publish : Bool) (query : Plain) (due : List CellType) → query_is_spellable tables query ≡ true → Good n (translated tables types due query n)
      → GoodOperand n (operand in_publish query (translated tables types due query n))
  operand-good types n in_publish (p.step j) due is own = record { few = omega arith; alone = refl; good = λ short. (refl, fits-u32 j is) }
  operand-good types n in_publish (p.scan table version) due is own = named-good n (in_publish || is_projection (p.scan table version)) (translated tables types due (p.scan table version) n) own
  operand-good types n in_publish (p.select query c) due is own = named-good n (in_publish || is_projection (p.select query c)) (translated tables types due (p.select query c) n) own
  operand-good types n in_publish (p.project query exprs) due is own = named-good n (in_publish || is_projection (p.project query exprs)) (translated tables types due (p.project query exprs) n) own
  operand-good types n in_publish (p.product left right) due is own = named-good n (in_publish || is_projection (p.product left right)) (translated tables types due (p.product left right) n) own
  operand-good types n in_publish (p.union left right) due is own = named-good n (in_publish || is_projection (p.union left right)) (translated tables types due (p.union left right) n) own
  operand-good types n in_publish (p.given rows) due is own = named-good n (in_publish || is_projection (p.given rows)) (translated tables types due (p.given rows) n) own
  operand-good types n in_publish (p.publish at base mine later) due is own = named-good n (in_publish || is_projection (p.publish at base mine later)) (translated tables types due (p.publish at base mine later) n) own

  given-spelled : (due : List CellType) (row : List Cell) (rows : List (List Cell)) → row_is_spellable row ≡ true → list_all row_is_spellable rows ≡ true → query_is_spelled tables (given_query due row rows) ≡ true
  given-spelled due row [] own is =
      let q = and_parts (has_item row) (list_all cell_is_spellable row) own in
      and_from (items_are_spelled tables None (s.named (cells_terms due row))) true (named-items None (cells_terms due row) (cells-term due row q.0) (cells-spelled tables due row q.1)) refl
  given-spelled due row (next ∷ rows) own is =
      let q = and_parts (has_item row) (list_all cell_is_spellable row) own in
      let r = and_parts (row_is_spellable next) (list_all row_is_spellable rows) is in
      and_from (block_is_spelled tables (given_block due row)) (query_is_spelled tables (given_query due next rows))
      (and_from (items_are_spelled tables None (s.named (cells_terms due row))) true (named-items None (cells_terms due row) (cells-term due row q.0) (cells-spelled tables due row q.1)) refl)
      (given-spelled due next rows r.0 r.1)

  -- ---- scans

  holding-spelled : (version : ℕ) → is_u32 version ≡ true → test_is_spelled tables (holding version) ≡ true
  holding-spelled version is =
      let number = fits-u32 version is in
      and_from (fits_number (pos version)) (fits_number (pos version) && true) number (and_from (fits_number (pos version)) true number refl)

  module _ (columns : (own n : ℕ) → n < width_of tables own → is_name (column_name (slice_get tables own) n) ≡ true) (named : (own : ℕ) → table_is_spellable tables own ≡ true → is_name (get_or (table_names tables) own []) ≡ true) where
    stored-spelled : (own n width : ℕ) → n + width ≤ width_of tables own → terms_are_spelled tables (Some own) (stored_terms own n width) ≡ true
    stored-spelled own n zero few = refl
    stored-spelled own n (suc width) few =
        and_from (own == own && is_name (column_name (slice_get tables own) n)) (terms_are_spelled tables (Some own) (stored_terms own (suc n) width))
        (and_from (own == own) (is_name (column_name (slice_get tables own) n)) (eq_itself own) (columns own n (omega (arith, few)))) (stored-spelled own (suc n) width (omega (arith, few)))

    scanned-spelled : (own version : ℕ) → table_is_spellable tables own ≡ true → is_u32 version ≡ true → block_is_spelled tables (scanned own (width_of tables own) version) ≡ true
    scanned-spelled own version is small =
        let width = width_of tables own in
        let terms = stored_terms own 0 width in
        and_from (items_are_spelled tables (Some own) (s.named terms)) (list_all (λ (item : FromItem). source_is_spelled tables item.source) (from s.no_alias (s.versions own)) && test_is_spelled tables (holding version))
        (named-items (Some own) terms (stored-term own 0 width) (stored-spelled own 0 width (omega arith)))
        (and_from (list_all (λ (item : FromItem). source_is_spelled tables item.source) (from s.no_alias (s.versions own))) (test_is_spelled tables (holding version)) (from-spelled s.no_alias (s.versions own) (named own is)) (holding-spelled version small))

    -- ---- queries

    translated-good : (types : StepTypes) → AreWide types → (query : Plain) (due : List CellType) (n : ℕ) → query_is_spellable tables query ≡ true → is_some (query_types tables types query) ≡ true → Good n (translated tables types due query n)
    translated-good types wide (p.scan table version) due n is typed =
        let q = and_parts (table_is_spellable tables table) (is_u32 version) is in
        record { few = omega arith; good = λ short. (refl, scanned-spelled table version q.0 q.1) }
    translated-good types wide (p.step j) due n is typed = record { few = omega arith; good = λ short. (refl, all-spelled (s.step j) (fits-u32 j is)) }
    translated-good types wide (p.select query c) due n is typed =
        let q = and_parts (query_is_spellable tables query) (cond_is_spellable c) is in
        let a = operand false query (translated tables types due query n) in
        let own = operand-good types n false query due q.0 (translated-good types wide query due n q.0 (selected-some c (query_types tables types query) typed)) in
        record {
          few = own.few;
          good = λ short.
              let parts = own.good (omega (arith, short)) in (
                parts.0,
                and_from (list_all (λ (item : FromItem). source_is_spelled tables item.source) (from s.no_alias a.source)) (test_is_spelled tables (cond_test (types_of tables types query) c))
                    (from-spelled s.no_alias a.source parts.1) (cond-spelled tables (types_of tables types query) c q.1).whole,
              );
        }
    translated-good types wide (p.project query exprs) due n is typed =
        let q = three (query_is_spellable tables query) (has_item exprs) (list_all expr_is_spellable exprs) is in
        let inner = types_of tables types query in
        let a = operand false query (translated tables types inner query n) in
        let terms = exprs_terms inner due exprs in
        let own = operand-good types n false query inner q.0 (translated-good types wide query inner n q.0 (projected-some exprs (query_types tables types query) typed)) in
        record {
          few = own.few;
          good = λ short.
              let parts = own.good (omega (arith, short)) in (
                parts.0,
                and_from (items_are_spelled tables (table_of a.source) (s.named terms)) (list_all (λ (item : FromItem). source_is_spelled tables item.source) (from s.no_alias a.source) && true)
                    (subst (λ (table : Option ℕ). items_are_spelled tables table (s.named terms) ≡ true) (sym own.alone) (named-items None terms (exprs-term inner due exprs q.1) (exprs-spelled tables inner due exprs q.2)))
                    (and_from (list_all (λ (item : FromItem). source_is_spelled tables item.source) (from s.no_alias a.source)) true (from-spelled s.no_alias a.source parts.1) refl),
              );
        }
    translated-good types wide (p.product left right) due n is typed =
        let q = and_parts (query_is_spellable tables left) (query_is_spellable tables right) is in
        let some = product-some (query_types tables types left) (query_types tables types right) typed in
        let width = length (types_of tables types left) in
        let other = length (types_of tables types right) in
        let a = operand false left (translated tables types (take width due) left n) in
        let b = operand false right (translated tables types (drop width due) right a.next) in
        let one = operand-good types n false left (take width due) q.0 (translated-good types wide left (take width due) n q.0 some.0) in
        let two = operand-good types a.next false right (drop width due) q.1 (translated-good types wide right (drop width due) a.next q.1 some.1) in
        let sum = total-append a.before b.before in
        let low = one.few in
        let next = two.few in
        let second = columns_of s.y 1 other s.no_terms in
        let terms = columns_of s.x 1 width second in
        let sources = from s.x a.source ++ from s.y b.source in
        let long_block = block-long terms sources s.everywhere in
        let firsts = count-columns s.x 1 width second in
        let seconds : count second ≡ other + 0 = count-columns s.y 1 other s.no_terms in
        let wide_left = known-some (query_types tables types left) some.0 (query-wide tables types wide left q.0) in
        record {
          few = omega (arith, low, next, sum);
          good = λ short.
              let pa = one.good (omega (arith, short, sum)) in
              let pb = two.good (omega (arith, short, sum, low)) in (
                all-append a.before b.before pa.0 pb.0,
                and_from (items_are_spelled tables None (s.named terms)) (list_all (λ (item : FromItem). source_is_spelled tables item.source) sources && true)
                    (named-items None terms (count-some terms (omega (arith, firsts, wide_left)))
                    (columns-spelled s.x 1 width second (omega (arith, short, firsts, seconds, long_block)) (columns-spelled s.y 1 other s.no_terms (omega (arith, short, firsts, seconds, long_block)) refl)))
                    (and_from (list_all (λ (item : FromItem). source_is_spelled tables item.source) sources) true
                    (and_from (source_is_spelled tables a.source) (source_is_spelled tables b.source && true) pa.1 (and_from (source_is_spelled tables b.source) true pb.1 refl)) refl),
              );
        }
    translated-good types wide (p.union left right) due n is typed =
        let q = and_parts (query_is_spellable tables left) (query_is_spellable tables right) is in
        let some = both-parts (query_types tables types left) (query_types tables types right) typed in
        let a = operand false left (translated tables types due left n) in
        let b = operand false right (translated tables types due right a.next) in
        let one = operand-good types n false left due q.0 (translated-good types wide left due n q.0 some.0) in
        let two = operand-good types a.next false right due q.1 (translated-good types wide right due a.next q.1 some.1) in
        let sum = total-append a.before b.before in
        let low = one.few in
        let next = two.few in
        record {
          few = omega (arith, low, next, sum);
          good = λ short.
              let pa = one.good (omega (arith, short, sum)) in
              let pb = two.good (omega (arith, short, sum, low)) in
              (all-append a.before b.before pa.0 pb.0, and_from (block_is_spelled tables (all_of a.source)) (block_is_spelled tables (all_of b.source)) (all-spelled a.source pa.1) (all-spelled b.source pb.1));
        }
    translated-good types wide (p.given []) due n is typed = absurd (false≢true is)
    translated-good types wide (p.given (row ∷ rows)) due n is typed =
        let q = and_parts (row_is_spellable row) (list_all row_is_spellable rows) is in
        record { few = omega arith; good = λ short. (refl, given-spelled due row rows q.0 q.1) }
    translated-good types wide (p.publish at base mine later) due n is typed =
        let q = and_parts (is_u32 at) (query_is_spellable tables base && (query_is_spellable tables mine && query_is_spellable tables later)) is in
        let r = three (query_is_spellable tables base) (query_is_spellable tables mine) (query_is_spellable tables later) q.1 in
        let some = is-published at (query_types tables types base) (query_types tables types mine) (query_types tables types later) typed in
        let inner = types_of tables types base in
        let a = operand true base (translated tables types inner base n) in
        let b = operand true mine (translated tables types due mine a.next) in
        let c = operand true later (translated tables types due later b.next) in
        let one = operand-good types n true base inner r.0 (translated-good types wide base inner n r.0 some.base) in
        let two = operand-good types a.next true mine due r.1 (translated-good types wide mine due a.next r.1 some.mine) in
        let three_of = operand-good types b.next true later due r.2 (translated-good types wide later due b.next r.2 some.later) in
        let written = written_query at a.source b.source in
        let marked : NamedQuery = record { name = s.query c.next; materialized = true; query = written } in
        let behind_b = c.before ++ marked ∷ [] in
        let behind_a = b.before ++ behind_b in
        let sum_c : total behind_b ≡ total c.before + (long written + 0) = total-append c.before (marked ∷ []) in
        let sum_b = total-append b.before behind_b in
        let sum_a = total-append a.before behind_a in
        let low = one.few in
        let next = two.few in
        let last = three_of.few in
        let whole = query-some written in
        record {
          few = omega (arith, low, next, last, sum_a, sum_b, sum_c, whole);
          good = λ short.
              let pa = one.good (omega (arith, short, sum_a)) in
              let pb = two.good (omega (arith, short, sum_a, sum_b, low)) in
              let pc = three_of.good (omega (arith, short, sum_a, sum_b, sum_c, low, next)) in
              let number : fits_number (pos c.next) ≡ true = fits c.next (omega (arith, short, sum_a, sum_b, sum_c, low, next, last)) in
              let column = fits-u32 at q.0 in
              let missing_mine = missing-spelled at b.source q.0 pb.1 in
              let missing_written = missing-spelled at (s.query c.next) q.0 number in
              let is_written : query_is_spelled tables written ≡ true =
              and_from (block_is_spelled tables (s.select (s.single (s.column s.no_alias (s.numbered at))) (from s.no_alias b.source) (s.passing (is_marked at)))) (block_is_spelled tables (s.select (s.single (s.column s.x (s.numbered at))) (from s.x a.source) (s.passing (is_missing at b.source))))
              (and_from (fits_number (pos at)) (list_all (λ (item : FromItem). source_is_spelled tables item.source) (from s.no_alias b.source) && test_is_spelled tables (is_marked at)) column
              (and_from (list_all (λ (item : FromItem). source_is_spelled tables item.source) (from s.no_alias b.source)) (test_is_spelled tables (is_marked at)) (from-spelled s.no_alias b.source pb.1) (marked-spelled at q.0)))
              (and_from (fits_number (pos at)) (list_all (λ (item : FromItem). source_is_spelled tables item.source) (from s.x a.source) && test_is_spelled tables (is_missing at b.source)) column
              (and_from (list_all (λ (item : FromItem). source_is_spelled tables item.source) (from s.x a.source)) (test_is_spelled tables (is_missing at b.source)) (from-spelled s.x a.source pa.1) missing_mine)) in
              let is_published : query_is_spelled tables (published_query at (s.query c.next) b.source c.source) ≡ true =
              and_from (block_is_spelled tables (s.select s.all (from s.x c.source) (s.passing (is_missing at (s.query c.next))))) (block_is_spelled tables (s.select s.all (from s.no_alias b.source) (s.passing (is_marked at))))
              (and_from (list_all (λ (item : FromItem). source_is_spelled tables item.source) (from s.x c.source)) (test_is_spelled tables (is_missing at (s.query c.next))) (from-spelled s.x c.source pc.1) missing_written)
              (and_from (list_all (λ (item : FromItem). source_is_spelled tables item.source) (from s.no_alias b.source)) (test_is_spelled tables (is_marked at)) (from-spelled s.no_alias b.source pb.1) (marked-spelled at q.0)) in (
                all-append a.before behind_a pa.0 (all-append b.before behind_b pb.0 (all-append c.before (marked ∷ []) pc.0
                    (and_from (named_is_spelled tables marked) true (and_from (fits_number (pos c.next)) (query_is_spelled tables written) number is_written) refl))),
                is_published,
              );
        }

    -- ---- programs

    record GoodSteps (n : ℕ) (a : TranslatedSteps) : Type 0 where
      few : a.next ≤ n + total a.before
      good : n + total a.before < 2 ^ 63 → list_all (named_is_spelled tables) a.before ≡ true

    steps-wide : (steps : List PlainStep) (types : StepTypes) → AreWide types → list_all (step_is_spellable tables) steps ≡ true → AreWide (steps_types tables steps types)
    steps-wide [] types wide is = wide
    steps-wide (first ∷ others) types wide is =
        let q = and_parts (step_is_spellable tables first) (list_all (step_is_spellable tables) others) is in
        let r = three (is_u32 first.j) (table_is_spellable tables first.table) (query_is_spellable tables first.query) q.0 in
        let x = query_types tables types first.query in
        steps-wide others (with_types first.j x types) (with-wide tables first.j x types (query-wide tables types wide first.query r.2) wide) q.1

    steps-good : (steps : List PlainStep) (types : StepTypes) (n : ℕ) → AreWide types → list_all (step_is_spellable tables) steps ≡ true → steps_are_typed tables steps types ≡ true → GoodSteps n (translated_steps tables types steps n)
    steps-good [] types n wide is typed = record { few = omega arith; good = λ short. refl }
    steps-good (first ∷ others) types n wide is typed =
        let q = and_parts (step_is_spellable tables first) (list_all (step_is_spellable tables) others) is in
        let r = three (is_u32 first.j) (table_is_spellable tables first.table) (query_is_spellable tables first.query) q.0 in
        let x = query_types tables types first.query in
        let parts = and_parts (step_is_typed (types first.j) x) (steps_are_typed tables others (with_types first.j x types)) typed in
        let own = translated tables types (types_of tables types first.query) first.query n in
        let one = translated-good types wide first.query (types_of tables types first.query) n r.2 (step-some (types first.j) x parts.0) in
        let rest = translated_steps tables (with_types first.j x types) others own.next in
        let more = steps-good others (with_types first.j x types) own.next (with-wide tables first.j x types (query-wide tables types wide first.query r.2) wide) q.1 parts.1 in
        let step : NamedQuery = record { name = s.step first.j; materialized = true; query = own.query } in
        let sum : total (own.before ++ step ∷ rest.before) ≡ total own.before + (long own.query + total rest.before) = total-append own.before (step ∷ rest.before) in
        let low = one.few in
        let next = more.few in
        record {
          few = omega (arith, low, next, sum);
          good = λ short.
              let pa = one.good (omega (arith, short, sum)) in
              let pb = more.good (omega (arith, short, sum, low)) in
              all-append own.before (step ∷ rest.before) pa.0
              (and_from (named_is_spelled tables step) (list_all (named_is_spelled tables) rest.before) (and_from (fits_number (pos first.j)) (query_is_spelled tables own.query) (fits-u32 first.j r.0) pa.1) pb);
        }

    program-good : (program : PlainProgram) → is_typed tables program ≡ true → is_spellable tables program ≡ true → length (with_text tables (program_query tables program)) < 2 ^ 63 → is_spelled tables (program_query tables program) ≡ true
    program-good program typed is short =
        let q = and_parts (list_all (step_is_spellable tables) program.steps) (query_is_spellable tables program.last) is in
        let types = steps_types tables program.steps no_types in
        let parts = and_parts (steps_are_typed tables program.steps no_types) (is_some (query_types tables types program.last)) typed in
        let steps = translated_steps tables no_types program.steps 1 in
        let one = steps-good program.steps no_types 1 (λ j. tt) q.0 parts.0 in
        let due = types_of tables types program.last in
        let own = translated tables types due program.last steps.next in
        let two = translated-good types (steps-wide program.steps no_types (λ j. tt) q.0) program.last due steps.next q.1 parts.1 in
        let sum : total (steps.before ++ own.before) ≡ total steps.before + total own.before = total-append steps.before own.before in
        let text : 2 + (total (steps.before ++ own.before) + long own.query) ≤ length (with_text tables (program_query tables program)) = with-long (program_query tables program) in
        let low = one.few in
        let pa = one.good (omega (arith, short, sum, text)) in
        let pb = two.good (omega (arith, short, sum, text, low)) in
        and_from (list_all (named_is_spelled tables) (steps.before ++ own.before)) (query_is_spelled tables own.query) (all-append steps.before own.before pa pb.0) pb.1

-- ---- catalogues

tables-named : (tables : List Table) (own : ℕ) → table_is_spellable tables own ≡ true → is_name (get_or (table_names tables) own []) ≡ true
tables-named [] own is = absurd (false≢true is)
tables-named (first ∷ tables) zero is = is
tables-named (first ∷ tables) (suc own) is = tables-named tables own is

-- each column of each table has a name
abbrev pub HaveNames : List Table → Type 0
HaveNames tables = list_all (λ (own : Table). list_all (λ (column : table.Column). is_name column.name) own.cols) tables ≡ true

column-named : (columns : List table.Column) (n : ℕ) → list_all (λ (column : table.Column). is_name column.name) columns ≡ true → n < length columns → is_name (option_map_or (λ (column : table.Column). column.name) (slice_get columns n) []) ≡ true
column-named [] n is within = absurd (omega (arith, within))
column-named (column ∷ columns) zero is within = (and_parts (is_name column.name) (list_all (λ (other : table.Column). is_name other.name) columns) is).0
column-named (column ∷ columns) (suc n) is within = column-named columns n (and_parts (is_name column.name) (list_all (λ (other : table.Column). is_name other.name) columns) is).1 (omega (arith, within))

columns-named : (tables : List Table) (own n : ℕ) → HaveNames tables → n < width_of tables own → is_name (column_name (slice_get tables own) n) ≡ true
columns-named [] own n is within = absurd (omega (arith, within))
columns-named (first ∷ tables) zero n is within = column-named first.cols n (and_parts (list_all (λ (column : table.Column). is_name column.name) first.cols) _ is).0 within
columns-named (first ∷ tables) (suc own) n is within = columns-named tables own n (and_parts (list_all (λ (column : table.Column). is_name column.name) first.cols) _ is).1 within

pub program-spelled : (tables : List Table) (program : PlainProgram) → HaveNames tables → is_typed tables program ≡ true → is_spellable tables program ≡ true
    → length (with_text tables (program_query tables program)) < 2 ^ 63 → is_spelled tables (program_query tables program) ≡ true
program-spelled tables program names typed is short = program-good tables (λ own n within. columns-named tables own n names within) (tables-named tables) program typed is short
