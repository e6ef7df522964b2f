-- Rewritten statements and queries have types without provenance, if the statements have, and the queries of the tables have those of the tables.
use Rattle.gp_typed.proofs.Prelude.{◌≡◌, ◌≤◌, ◌<◌, ℕ, zero, suc, ◌+◌, Bool, true, false, cond, List, [], ◌∷◌, ◌++◌, length, map, Some, None, refl, sym, ap, subst, ◌∙◌, append_assoc, append-nil, length-append, arith, Option, is_some, ◌&&◌, ◌==◌, nat_lt, slice_get, fold, list_all, option_map_or, and_parts, and_from, eqb-true, le-leb, ltb-true, false≢true, none-some, same_Some, Cell, Table, identity, no_sources, is_u32, left_true, right_true, Expr, Cond, substituted_each, branch_fits, branches_fit, is_countable, is_there, joined_width, select_fits, select_width, statement_fits, Branch, Select, Statement, insert, insert_select, update, delete, read, target, width_of, Query, identities_from, users_from, rewritten, CellType, Null, Int, Text, Id, Mark, are_u32, both_types, case_type, common, common_types, cond_is_typed, expr_type, exprs_types, is_id, parts_are_ids, product_types, projected_types, published_types, query_types, row_types, scan_types, selected_types, type_at, with_first, StepTypes, substituted-types, are_into, branch_types, fill, is_into, joined_types, optional_cond_is_typed, select_is_typed, select_types, set_is_typed, statement_is_typed, table_types}
use Rattle.std.specs.Prelude.{◌^◌, sum}
use Rattle.std.proofs.lemmas.List.{map-append}
use Rattle.std.proofs.lemmas.List.Sums.{sum_by-cons}
use Rattle.gp_base.specs.declared.cell.Cell.TheVariants as cell
use Rattle.gp_base.specs.declared.token.Token.TheVariants.{Updated}
use Rattle.gp_base.specs.Annotated.{monomials}
use Rattle.gp_expr.specs.Expressions as e
use Rattle.gp_expr.specs.Substitution.{substituted_cond}
use Rattle.gp_algebra.specs.Effects.{given_from, set_for}
use Rattle.gp_algebra.specs.Fitting.{cond_fits, expr_fits, optional_cond_fits, row_fits, set_fits}
use Rattle.gp_algebra.specs.Statements.{SetExpr}
use Rattle.gp_algebra.specs.AnnotatedQueries as q
use Rattle.gp_algebra.specs.AnnotatedQueries.{Change}
use Rattle.gp_prov.specs.Encoding.{encoded_row}
use Rattle.gp_prov.specs.ToPlain.{answer_columns, changed_columns, new_columns, plain_last, plain_query, widths_of}
use Rattle.gp_rewrite.specs.Rewriting.{branch_of, cased, made_of, made_onto, product_of, query_of, selected_by, update_query, updated_from}
use Rattle.gp_rewrite.specs.RewritingForms.{product_onto, union_onto}
use Rattle.gp_sql.specs.Types.{are_published, given_types, is_mark}
use Rattle.gp_sql.proofs.SubstitutionTypes.{substituted-cond}
use Rattle.gp_typed.proofs.TypeLists.{all_into_itself, exprs-append, into_append, row-append, type_behind, union_column, union_into}
use Rattle.gp_typed.proofs.JoinedTypes.{identity_behind, ids_types, mark_behind, row_of, rows-append, rows_of, scan_there, types_width, users_types}

abbrev Known : Option (List CellType) → Type 0
Known types = is_some types ≡ true

-- so few items that 32 bits number them
countable : {X : Type 0} (xs : List X) → is_countable xs ≡ true → length xs ≤ 0xffff_ffff
countable xs so =
    let few : length xs < 2 ^ 32 = ltb-true (length xs) (2 ^ 32) (right_true (nat_lt 0 (length xs)) (nat_lt (length xs) (2 ^ 32)) so) in omega (arith, few)

sum_one : (n : ℕ) → sum (n ∷ []) ≡ n
sum_one n = let first = sum_by-cons (λ (n : ℕ). n) n [] in omega (arith, first)

-- the types of rows that can stand in columns
pub record Fills (columns : List CellType) (types : Option (List CellType)) : Type 0 where
  pub own : List CellType
  pub is : types ≡ Some own
  pub into : are_into columns own ≡ true

pub fills : (columns : List CellType) (types : Option (List CellType)) → fill columns types ≡ true → Fills columns types
fills columns None so = absurd cc
fills columns (Some own) so = record { own = own; is = refl; into = so }

-- two that fill the same columns, as a union
union_fills : (columns : List CellType) (a b : Option (List CellType)) → Fills columns a → Fills columns b → Fills columns (both_types a b)
union_fills columns a b first second =
    let common = union_into columns first.own second.own first.into second.into in
    record { own = common.types; is = (λ i. both_types (first.is i) (second.is i)) ∙ common.are; into = common.fit }

-- the columns, and what fills them, as a union
union_of_columns : (columns : List CellType) (a b : Option (List CellType)) → a ≡ Some columns → Fills columns b → both_types a b ≡ Some columns
union_of_columns columns a b is rest = (λ i. both_types (is i) (rest.is i)) ∙ union_column columns rest.own rest.into

-- with an identity and a mark behind
with_system : (columns : List CellType) (a b : Option (List CellType)) → Fills columns a → b ≡ Some (Id ∷ Mark ∷ []) → Fills (columns ++ Id ∷ Mark ∷ []) (product_types a b)
with_system columns a b first is = record {
  own = first.own ++ Id ∷ Mark ∷ [];
  is = λ i. product_types (first.is i) (is i);
  into = into_append columns first.own (Id ∷ Mark ∷ []) (Id ∷ Mark ∷ []) first.into refl;
}

-- ---- the columns of an UPDATE

-- a set expression can stand in its column
abbrev SetFits : List CellType → ℕ → Option Expr → Type 0
SetFits types n None = Unit {0}
SetFits types n (Some x) = option_map_or (λ column. option_map_or (is_into column) (expr_type types x) false) (type_at n types) false ≡ true

set_fits_of : (types : List CellType) (n : ℕ) (sets : List SetExpr) → list_all (set_is_typed types) sets ≡ true → SetFits types n (set_for n sets)
set_fits_of types n [] so = tt
set_fits_of types n (set ∷ sets) so =
    let p = and_parts (set_is_typed types set) (list_all (set_is_typed types) sets) so in
    go (set.col == n) refl p.0 (set_fits_of types n sets p.1)
  where
    go : (b : Bool) → (set.col == n) ≡ b → set_is_typed types set ≡ true → SetFits types n (set_for n sets) → SetFits types n (cond b (Some set.expr) (set_for n sets))
    go true same own others = subst (λ m. option_map_or (λ column. option_map_or (is_into column) (expr_type types set.expr) false) (type_at m types) false ≡ true) (eqb-true set.col n same) own
    go false same own others = others

turned : (column type : CellType) → is_into column type ≡ true → common type column ≡ Some column
turned Null Null into = refl
turned Int Null into = refl
turned Int Int into = refl
turned Text Null into = refl
turned Text Text into = refl
turned Id Null into = refl
turned Id Id into = refl
turned Mark Null into = refl
turned Mark Mark into = refl
turned column type into = absurd cc

-- in a CASE with its column the column's type stays
cased_type : (types : List CellType) (c : Cond) (n : ℕ) (o : Option Expr) (type : CellType) → cond_is_typed types c ≡ true → type_at n types ≡ Some type → SetFits types n o
    → expr_type types (cased c n o) ≡ Some type
cased_type types c n None type typed is fits = is
cased_type types c n (Some x) type typed is fits =
    go (expr_type types x) (subst (λ found. option_map_or (λ column. option_map_or (is_into column) (expr_type types x) false) found false ≡ true) is fits)
  where
    go : (o : Option CellType) → option_map_or (is_into type) o false ≡ true → case_type (cond_is_typed types c) o (type_at n types) ≡ Some type
    go None into = absurd cc
    go (Some own) into = (λ i. case_type (typed i) (Some own) (is i)) ∙ turned type own into

updated_types : (before own : List CellType) (sets : List SetExpr) (c : Cond) (n : ℕ) → n ≡ length before → cond_is_typed (before ++ own) c ≡ true
    → list_all (set_is_typed (before ++ own)) sets ≡ true → exprs_types (before ++ own) (updated_from sets c n (length own)) ≡ Some own
updated_types before [] sets c n at typed so = refl
updated_types before (type ∷ own) sets c n at typed so =
    let more = length-append before (type ∷ []) in
    let here : slice_get (before ++ type ∷ own) n ≡ Some type = ap (slice_get (before ++ type ∷ own)) at ∙ type_behind before type own in
    let first = cased_type (before ++ type ∷ own) c (suc n) (set_for (suc n) sets) type typed here (set_fits_of (before ++ type ∷ own) (suc n) sets so) in
    let same : (before ++ type ∷ []) ++ own ≡ before ++ type ∷ own = append_assoc before (type ∷ []) own in
    let rest : exprs_types ((before ++ type ∷ []) ++ own) (updated_from sets c (suc n) (length own)) ≡ Some own =
    updated_types (before ++ type ∷ []) own sets c (suc n) (omega (arith, more, at)) (ap (λ types. cond_is_typed types c) same ∙ typed) (ap (λ types. list_all (set_is_typed types) sets) same ∙ so) in
    λ i. with_first (first i) ((ap (λ types. exprs_types types (updated_from sets c (suc n) (length own))) (sym same) ∙ rest) i)

-- ---- queries

module _ (catalogue : List Table) (of_step : ℕ → ℕ) where
  abbrev pub columns : ℕ → ℕ
  columns = width_of catalogue

  -- each step has the types of its table
  abbrev pub at_steps : StepTypes
  at_steps j = scan_types (slice_get catalogue (of_step j))

  abbrev pub typing : Query → Option (List CellType)
  typing query = query_types catalogue at_steps (plain_query columns of_step false query)

  abbrev pub wide : Query → List ℕ
  wide query = widths_of columns of_step false query

  -- a query has the types of a table
  pub record IsContents (place : ℕ) (query : Query) : Type 0 where
    pub types : typing query ≡ Some (row_of catalogue place)
    pub widths : wide query ≡ columns place ∷ []

  pub scan_contents : (place version : ℕ) → is_there catalogue place ≡ true → IsContents place (q.scan place version)
  scan_contents place version there = record { types = scan_there catalogue place there; widths = refl }

  pub step_contents : (place j : ℕ) → of_step j ≡ place → is_there catalogue place ≡ true → IsContents place (q.step j)
  step_contents place j is there = record {
    types = ap (λ own. scan_types (slice_get catalogue own)) is ∙ scan_there catalogue place there;
    widths = ap (λ own. columns own ∷ []) is;
  }

  -- the identity and the mark of a row of the table
  identity_at : (place n : ℕ) → n ≡ columns place → slice_get (row_of catalogue place) n ≡ Some Id
  identity_at place n at =
      ap (λ types. slice_get types n) (sym (append-nil (row_of catalogue place))) ∙ identity_behind catalogue [] place [] n (omega (arith, at))

  pub publish_contents : (place : ℕ) (base mine later : Query) → IsContents place base → IsContents place mine → IsContents place later → IsContents place (q.publish base mine later)
  publish_contents place base mine later b m l = record {
    types =
        (λ i. published_types (at i) (b.types i) (m.types i) (l.types i))
        ∙ ap (λ t. cond t (common_types row row) None) published ∙ union_column row row (all_into_itself row);
    widths = b.widths;
  }
    where
      row : List CellType
      row = row_of catalogue place

      at : suc (sum (wide base)) ≡ suc (columns place)
      at = ap (λ widths. suc (sum widths)) b.widths ∙ ap suc (sum_one (columns place))

      published : are_published (suc (columns place)) row row row ≡ true
      published =
          let id : is_id (slice_get row (columns place)) ≡ true = ap is_id (identity_at place (columns place) refl) in
          let mark : is_mark (slice_get row (suc (columns place))) ≡ true = ap is_mark (mark_behind catalogue place (suc (columns place)) refl) in
          and_from _ _ id (and_from _ _ id (and_from _ _ id mark))

  -- ---- tables side by side

  pub record IsJoin (places : List ℕ) (query : Query) : Type 0 where
    pub types : typing query ≡ Some (rows_of catalogue places)
    pub widths : wide query ≡ map columns places

  join_of_contents : (place : ℕ) (query : Query) → IsContents place query → IsJoin (place ∷ []) query
  join_of_contents place query is = record { types = is.types ∙ ap (λ (types : List CellType). Some types) (sym (append-nil (row_of catalogue place))); widths = is.widths }

  product_joins : (places : List ℕ) (place : ℕ) (left right : Query) → IsJoin places left → IsContents place right → IsJoin (places ++ place ∷ []) (q.product left right)
  product_joins places place left right l r = record {
    types =
        (λ i. product_types (l.types i) (r.types i))
        ∙ ap (λ (types : List CellType). Some (rows_of catalogue places ++ types)) (sym (append-nil (row_of catalogue place)))
        ∙ ap (λ (types : List CellType). Some types) (sym (rows-append catalogue places (place ∷ [])));
    widths = (λ i. l.widths i ++ r.widths i) ∙ sym (map-append columns places (place ∷ []));
  }

  select_joins : (places : List ℕ) (query : Query) (c : Cond) → IsJoin places query → cond_is_typed (joined_types catalogue places) c ≡ true → IsJoin places (q.select query c)
  select_joins places query c is typed = record {
    types =
        (λ i. selected_types (substituted_cond c (users_from false 0 (is.widths i))) (is.types i))
        ∙ ap (λ t. cond t (Some (rows_of catalogue places)) None)
        (substituted-cond (rows_of catalogue places) (users_from false 0 (map columns places)) (joined_types catalogue places) (users_types catalogue places) c typed);
    widths = is.widths;
  }

  -- expressions over the user's columns
  users_project : (places : List ℕ) (exprs : List Expr) → Known (exprs_types (joined_types catalogue places) exprs)
      → exprs_types (rows_of catalogue places) (substituted_each exprs (users_from false 0 (map columns places))) ≡ exprs_types (joined_types catalogue places) exprs
  users_project places exprs known =
      substituted-types (rows_of catalogue places) (users_from false 0 (map columns places)) (joined_types catalogue places) (users_types catalogue places) exprs known

  -- ---- the contents of a table after a statement

  delete_contents : (place : ℕ) (query : Query) (c : Cond) → IsContents place query → cond_is_typed (table_types catalogue place) c ≡ true → IsContents place (q.select query c)
  delete_contents place query c is typed =
      let join = select_joins (place ∷ []) query c (join_of_contents place query is) (ap (λ types. cond_is_typed types c) (append-nil (table_types catalogue place)) ∙ typed) in
      record { types = join.types ∙ ap (λ (types : List CellType). Some types) (append-nil (row_of catalogue place)); widths = join.widths }

  -- the columns of a table where it is alone
  one_users : (place : ℕ) → exprs_types (row_of catalogue place) (users_from false 0 (columns place ∷ [])) ≡ Some (table_types catalogue place)
  one_users place =
      ap (λ types. exprs_types types (users_from false 0 (columns place ∷ []))) (sym (append-nil (row_of catalogue place)))
      ∙ users_types catalogue (place ∷ []) ∙ ap (λ (types : List CellType). Some types) (append-nil (table_types catalogue place))

  updated_long : (sets : List SetExpr) (c : Cond) (n more : ℕ) → length (updated_from sets c n more) ≡ more
  updated_long sets c n zero = refl
  updated_long sets c n (suc more) = ap suc (updated_long sets c (suc n) more)

  update_contents : (place t k : ℕ) (query : Query) (sets : List SetExpr) (c : Cond) → IsContents place query → list_all (set_is_typed (table_types catalogue place)) sets ≡ true
      → cond_is_typed (table_types catalogue place) c ≡ true → IsContents place (update_query (columns place) t k sets c query)
  update_contents place t k query sets c is so typed = record {
    types =
        (λ i. projected_types (changed_columns false (is.widths i) exprs change) (is.types i))
        ∙ exprs-append row (substituted_each exprs users) _ ∙ (λ i. product_types (own i) (system i));
    widths = ap (λ n. n ∷ []) (updated_long sets c 0 (columns place));
  }
    where
      row : List CellType
      row = row_of catalogue place

      exprs : List Expr
      exprs = updated_from sets c 0 (columns place)

      users : List Expr
      users = users_from false 0 (columns place ∷ [])

      change : Option Change
      change = Some (record { cond = c; token = Updated t k })

      mine : exprs_types (table_types catalogue place) exprs ≡ Some (table_types catalogue place)
      mine = ap (λ n. exprs_types (table_types catalogue place) (updated_from sets c 0 n)) (sym (types_width catalogue place))
          ∙ updated_types [] (table_types catalogue place) sets c 0 refl typed so

      own : exprs_types row (substituted_each exprs users) ≡ Some (table_types catalogue place)
      own = substituted-types row users (table_types catalogue place) (one_users place) exprs (ap (λ (o : Option (List CellType)). is_some o) mine) ∙ mine

      at : sum (columns place ∷ []) ≡ columns place
      at = sum_one (columns place)

      test : cond_is_typed row (substituted_cond c users) ≡ true
      test = substituted-cond row users (table_types catalogue place) (one_users place) c typed

      mark : slice_get row (suc (sum (columns place ∷ []))) ≡ Some Mark
      mark = mark_behind catalogue place (suc (sum (columns place ∷ []))) (ap suc at)

      system : exprs_types row (e.col (suc (sum (columns place ∷ []))) ∷ e.case (substituted_cond c users) (e.constant (cell.Mark true)) (e.col (suc (suc (sum (columns place ∷ []))))) ∷ []) ≡ Some (Id ∷ Mark ∷ [])
      system = λ i. with_first (identity_at place (sum (columns place ∷ [])) at i) (with_first (case_type (test i) (Some Mark) (mark i)) (Some []))

  -- ---- the rows that an INSERT appends

  module _ (t k : ℕ) (of_transaction : t ≤ 0xffff_ffff) (of_statement : k ≤ 0xffff_ffff) where
    numbers : (n : ℕ) → n ≤ 0xffff_ffff → are_u32 t k n ≡ true
    numbers n small = and_from (is_u32 t) (is_u32 k && is_u32 n) (le-leb t 0xffff_ffff of_transaction) (and_from (is_u32 k) (is_u32 n) (le-leb k 0xffff_ffff of_statement) (le-leb n 0xffff_ffff small))

    row_fills : (place n : ℕ) (cells : List Cell) → n ≤ 0xffff_ffff → fill (table_types catalogue place) (row_types cells) ≡ true
        → Fills (row_of catalogue place) (row_types (cells ++ cell.Id (identity t k n no_sources) ∷ cell.Mark true ∷ []))
    row_fills place n cells small so =
        let fits : (are_u32 t k n && true) ≡ true = and_from (are_u32 t k n) true (numbers n small) refl in
        let system : row_types (cell.Id (identity t k n no_sources) ∷ cell.Mark true ∷ []) ≡ Some (Id ∷ Mark ∷ []) = ap (λ b. with_first (cond b (Some Id) None) (Some (Mark ∷ []))) fits in
        subst (Fills (row_of catalogue place)) (sym (row-append cells (cell.Id (identity t k n no_sources) ∷ cell.Mark true ∷ [])))
        (with_system (table_types catalogue place) (row_types cells) (row_types (cell.Id (identity t k n no_sources) ∷ cell.Mark true ∷ [])) (fills (table_types catalogue place) (row_types cells) so) system)

    abbrev given_rows : ℕ → List (List Cell) → List (List Cell)
    given_rows n rows = map (encoded_row false) (given_from monomials t k n rows)

    given_fills : (place n : ℕ) (row : List Cell) (rows : List (List Cell)) → n + length rows ≤ 0xffff_ffff
        → list_all (λ (row : List Cell). fill (table_types catalogue place) (row_types row)) (row ∷ rows) ≡ true → Fills (row_of catalogue place) (given_types (given_rows n (row ∷ rows)))
    given_fills place n row [] small so =
        row_fills place n row (omega (arith, small)) (left_true (fill (table_types catalogue place) (row_types row)) true so)
    given_fills place n row (next ∷ rows) small so =
        let others : Bool = list_all (λ (row : List Cell). fill (table_types catalogue place) (row_types row)) (next ∷ rows) in
        union_fills (row_of catalogue place) (row_types (row ++ cell.Id (identity t k n no_sources) ∷ cell.Mark true ∷ [])) (given_types (given_rows (suc n) (next ∷ rows)))
        (row_fills place n row (omega (arith, small)) (left_true (fill (table_types catalogue place) (row_types row)) others so))
        (given_fills place (suc n) next rows (omega (arith, small)) (right_true (fill (table_types catalogue place) (row_types row)) others so))

    insert_contents : (place : ℕ) (query : Query) (rows : List (List Cell)) → IsContents place query → is_countable rows ≡ true
        → list_all (λ (row : List Cell). fill (table_types catalogue place) (row_types row)) rows ≡ true → IsContents place (q.union query (q.given t k rows))
    insert_contents place query [] is some so = absurd (false≢true some)
    insert_contents place query (row ∷ rows) is some so =
        let few : length (row ∷ rows) ≤ 0xffff_ffff = countable (row ∷ rows) some in
        record {
          types = union_of_columns (row_of catalogue place) (typing query) (given_types (given_rows 1 (row ∷ rows))) is.types (given_fills place 1 row rows (omega (arith, few)) so);
          widths = is.widths;
        }

  -- ---- queries over the tables

  module _ (tables : ℕ → Query) (are : (place : ℕ) → is_there catalogue place ≡ true → IsContents place (tables place)) where
    onto_joins : (places others : List ℕ) (query : Query) → list_all (is_there catalogue) others ≡ true → IsJoin places query
        → IsJoin (places ++ others) (product_onto tables query others)
    onto_joins places [] query there is = subst (λ all. IsJoin all query) (sym (append-nil places)) is
    onto_joins places (place ∷ others) query there is =
        subst (λ all. IsJoin all (product_onto tables query (place ∷ others))) (append_assoc places (place ∷ []) others)
        (onto_joins (places ++ place ∷ []) others (q.product query (tables place)) (right_true (is_there catalogue place) (list_all (is_there catalogue) others) there)
        (product_joins places place query (tables place) is (are place (left_true (is_there catalogue place) (list_all (is_there catalogue) others) there))))

    product_joined : (from : List ℕ) → nat_lt 0 (length from) ≡ true → list_all (is_there catalogue) from ≡ true → IsJoin from (product_of tables from)
    product_joined [] some there = absurd (false≢true some)
    product_joined (place ∷ others) some there =
        onto_joins (place ∷ []) others (tables place) (right_true (is_there catalogue place) (list_all (is_there catalogue) others) there)
        (join_of_contents place (tables place) (are place (left_true (is_there catalogue place) (list_all (is_there catalogue) others) there)))

    selected_joins : (places : List ℕ) (o : Option Cond) (query : Query) → IsJoin places query → optional_cond_is_typed (joined_types catalogue places) o ≡ true
        → IsJoin places (selected_by o query)
    selected_joins places None query is typed = is
    selected_joins places (Some c) query is typed = select_joins places query c is typed

    -- the source of a branch, and the types of its items
    record IsTypedBranch (branch : Branch) : Type 0 where
      pub source : IsJoin branch.from (selected_by branch.cond (product_of tables branch.from))
      pub items : exprs_types (joined_types catalogue branch.from) branch.items ≡ branch_types catalogue branch

    typed_branch : (width : ℕ) (branch : Branch) → branch_fits catalogue width branch ≡ true → Known (branch_types catalogue branch) → IsTypedBranch branch
    typed_branch width branch fits known =
        let inner = joined_width catalogue branch.from in
        let there : Bool = list_all (is_there catalogue) branch.from
        && (nat_lt 0 (length branch.items) && ((length branch.items == width) && (list_all (expr_fits inner) branch.items && optional_cond_fits inner branch.cond))) in
        let some = left_true (nat_lt 0 (length branch.from)) there fits in
        let known_tables = left_true (list_all (is_there catalogue) branch.from) _ (right_true (nat_lt 0 (length branch.from)) there fits) in
        go (optional_cond_is_typed (joined_types catalogue branch.from) branch.cond) refl known (product_joined branch.from some known_tables)
      where
        go : (b : Bool) → optional_cond_is_typed (joined_types catalogue branch.from) branch.cond ≡ b
            → Known (cond b (exprs_types (joined_types catalogue branch.from) branch.items) None) → IsJoin branch.from (product_of tables branch.from) → IsTypedBranch branch
        go true typed known join = record {
          source = selected_joins branch.from branch.cond (product_of tables branch.from) join typed;
          items = ap (λ b. cond b (exprs_types (joined_types catalogue branch.from) branch.items) None) (sym typed);
        }
        go false typed known join = absurd cc

    -- the items over the rows of the source
    branch_items : (branch : Branch) → IsTypedBranch branch → Known (branch_types catalogue branch)
        → exprs_types (rows_of catalogue branch.from) (substituted_each branch.items (users_from false 0 (map columns branch.from))) ≡ branch_types catalogue branch
    branch_items branch is known = users_project branch.from branch.items (ap (λ (o : Option (List CellType)). is_some o) is.items ∙ known) ∙ is.items

    -- ---- answers

    abbrev last_typing : Query → Option (List CellType)
    last_typing query = query_types catalogue at_steps (plain_last columns of_step false query)

    answer_types : (width : ℕ) (branch : Branch) → branch_fits catalogue width branch ≡ true → Known (branch_types catalogue branch)
        → last_typing (branch_of tables branch) ≡ branch_types catalogue branch
    answer_types width branch fits known =
        let is = typed_branch width branch fits known in
        let users = users_from false 0 (map columns branch.from) in
        (λ i. projected_types (answer_columns false (is.source.widths i) branch.items) (is.source.types i))
        ∙ ap (exprs_types (rows_of catalogue branch.from)) (append-nil (substituted_each branch.items users)) ∙ branch_items branch is known

    abbrev all_types : Option (List CellType) → List Branch → Option (List CellType)
    all_types types others = fold (λ types other. both_types types (branch_types catalogue other)) types others

    known_both : (a b : Option (List CellType)) → Known (both_types a b) → (Known a) × (Known b)
    known_both None b known = absurd cc
    known_both (Some types) None known = absurd cc
    known_both (Some types) (Some others) known = (refl, refl)

    known_first : (types : Option (List CellType)) (others : List Branch) → Known (all_types types others) → Known types
    known_first types [] known = known
    known_first types (branch ∷ others) known = (known_both types (branch_types catalogue branch) (known_first (both_types types (branch_types catalogue branch)) others known)).0

    answers_types : (width : ℕ) (others : List Branch) (query : Query) (types : Option (List CellType)) → last_typing query ≡ types → list_all (branch_fits catalogue width) others ≡ true
        → Known (all_types types others) → last_typing (union_onto tables query others) ≡ all_types types others
    answers_types width [] query types is fits known = is
    answers_types width (branch ∷ others) query types is fits known =
        let own = (known_both types (branch_types catalogue branch) (known_first (both_types types (branch_types catalogue branch)) others known)).1 in
        let here = answer_types width branch (left_true (branch_fits catalogue width branch) (list_all (branch_fits catalogue width) others) fits) own in
        answers_types width others (q.union query (branch_of tables branch)) (both_types types (branch_types catalogue branch)) (λ i. both_types (is i) (here i))
        (right_true (branch_fits catalogue width branch) (list_all (branch_fits catalogue width) others) fits) known

    select_answers : (width : ℕ) (select : Select) → branches_fit catalogue width select ≡ true → Known (select_types catalogue select)
        → last_typing (query_of tables select) ≡ select_types catalogue select
    select_answers width [] fits known = absurd cc
    select_answers width (branch ∷ others) fits known =
        let all = right_true (is_countable (branch ∷ others)) (list_all (branch_fits catalogue width) (branch ∷ others)) fits in
        let here = answer_types width branch (left_true (branch_fits catalogue width branch) (list_all (branch_fits catalogue width) others) all) (known_first (branch_types catalogue branch) others known) in
        answers_types width others (branch_of tables branch) (branch_types catalogue branch) here (right_true (branch_fits catalogue width branch) (list_all (branch_fits catalogue width) others) all) known

    pub query_is_typed : (select : Select) → select_fits catalogue select ≡ true → select_is_typed catalogue select ≡ true → Known (last_typing (query_of tables select))
    query_is_typed select fits typed = ap (λ (o : Option (List CellType)). is_some o) (select_answers (select_width select) select fits typed) ∙ typed

    -- ---- the rows that the branches of an INSERT make

    module _ (t k : ℕ) (of_transaction : t ≤ 0xffff_ffff) (of_statement : k ≤ 0xffff_ffff) (place : ℕ) where
      new_fills : (b width : ℕ) (branch : Branch) → b ≤ 0xffff_ffff → branch_fits catalogue width branch ≡ true → fill (table_types catalogue place) (branch_types catalogue branch) ≡ true
          → Fills (row_of catalogue place) (typing (q.new_rows t k b (branch_of tables branch)))
      new_fills b width branch small fits so =
          let filled = fills (table_types catalogue place) (branch_types catalogue branch) so in
          let known : Known (branch_types catalogue branch) = ap (λ (o : Option (List CellType)). is_some o) filled.is in
          let is = typed_branch width branch fits known in
          let places = branch.from in
          let users = users_from false 0 (map columns places) in
          let ids = identities_from false 0 (map columns places) in
          let made : (are_u32 t k b && parts_are_ids (rows_of catalogue places) ids) ≡ true =
          and_from (are_u32 t k b) (parts_are_ids (rows_of catalogue places) ids) (numbers t k of_transaction of_statement b small) (ids_types catalogue places) in
          let system : exprs_types (rows_of catalogue places) (e.new_id t k b ids ∷ e.constant (cell.Mark true) ∷ []) ≡ Some (Id ∷ Mark ∷ []) =
          ap (λ t. with_first (cond t (Some Id) None) (Some (Mark ∷ []))) made in
          let same : typing (q.new_rows t k b (branch_of tables branch)) ≡ product_types (branch_types catalogue branch) (exprs_types (rows_of catalogue places) (e.new_id t k b ids ∷ e.constant (cell.Mark true) ∷ [])) =
          (λ i. projected_types (new_columns false t k b (is.source.widths i) branch.items) (is.source.types i))
          ∙ exprs-append (rows_of catalogue places) (substituted_each branch.items users) (e.new_id t k b ids ∷ e.constant (cell.Mark true) ∷ [])
          ∙ ap (λ types. product_types types (exprs_types (rows_of catalogue places) (e.new_id t k b ids ∷ e.constant (cell.Mark true) ∷ []))) (branch_items branch is known) in
          subst (Fills (row_of catalogue place)) (sym same)
          (with_system (table_types catalogue place) (branch_types catalogue branch) (exprs_types (rows_of catalogue places) (e.new_id t k b ids ∷ e.constant (cell.Mark true) ∷ [])) filled system)

      abbrev each_fills : List Branch → Bool
      each_fills branches = list_all (λ branch. fill (table_types catalogue place) (branch_types catalogue branch)) branches

      made_onto_fills : (b width : ℕ) (branches : List Branch) (query : Query) → b + length branches ≤ 0x1_0000_0000 → list_all (branch_fits catalogue width) branches ≡ true → each_fills branches ≡ true
          → Fills (row_of catalogue place) (typing query) → Fills (row_of catalogue place) (typing (made_onto t k b tables query branches))
      made_onto_fills b width [] query small fits so is = is
      made_onto_fills b width (branch ∷ branches) query small fits so is =
          let own : Bool = fill (table_types catalogue place) (branch_types catalogue branch) in
          let here = new_fills b width branch (omega (arith, small)) (left_true (branch_fits catalogue width branch) (list_all (branch_fits catalogue width) branches) fits) (left_true own (each_fills branches) so) in
          made_onto_fills (suc b) width branches (q.union query (q.new_rows t k b (branch_of tables branch))) (omega (arith, small))
          (right_true (branch_fits catalogue width branch) (list_all (branch_fits catalogue width) branches) fits) (right_true own (each_fills branches) so)
          (union_fills (row_of catalogue place) (typing query) (typing (q.new_rows t k b (branch_of tables branch))) is here)

      made_fills : (width : ℕ) (select : Select) → branches_fit catalogue width select ≡ true → each_fills select ≡ true → Fills (row_of catalogue place) (typing (made_of t k tables select))
      made_fills width [] fits so = absurd (false≢true fits)
      made_fills width (branch ∷ branches) fits so =
          let few : length (branch ∷ branches) ≤ 0xffff_ffff = countable (branch ∷ branches) (left_true (is_countable (branch ∷ branches)) (list_all (branch_fits catalogue width) (branch ∷ branches)) fits) in
          let all = right_true (is_countable (branch ∷ branches)) (list_all (branch_fits catalogue width) (branch ∷ branches)) fits in
          let own : Bool = fill (table_types catalogue place) (branch_types catalogue branch) in
          made_onto_fills 2 width branches (q.new_rows t k 1 (branch_of tables branch)) (omega (arith, few))
          (right_true (branch_fits catalogue width branch) (list_all (branch_fits catalogue width) branches) all) (right_true own (each_fills branches) so)
          (new_fills 1 width branch (omega arith) (left_true (branch_fits catalogue width branch) (list_all (branch_fits catalogue width) branches) all) (left_true own (each_fills branches) so))

      made_contents : (query : Query) (select : Select) → IsContents place query → branches_fit catalogue (columns place) select ≡ true → each_fills select ≡ true
          → IsContents place (q.union query (made_of t k tables select))
      made_contents query select is fits so = record {
        types = union_of_columns (row_of catalogue place) (typing query) (typing (made_of t k tables select)) is.types (made_fills (columns place) select fits so);
        widths = is.widths;
      }

    -- ---- statements

    -- the query of a step has the types of its table; a SELECT makes none
    pub rewritten_contents : (t k : ℕ) → t ≤ 0xffff_ffff → k ≤ 0xffff_ffff → (own : ℕ) (statement : Statement) → target statement ≡ Some own
        → statement_fits catalogue statement ≡ true → statement_is_typed catalogue statement ≡ true → IsContents own (rewritten columns t k statement tables)
    rewritten_contents t k few_t few_k own (insert place rows) is fits typed =
        let fit : Bool = list_all (row_fits (columns place)) rows in
        let there = left_true (is_there catalogue place) (is_countable rows && fit) fits in
        let some = left_true (is_countable rows) fit (right_true (is_there catalogue place) (is_countable rows && fit) fits) in
        subst (λ n. IsContents n (q.union (tables place) (q.given t k rows))) (same_Some place own is) (insert_contents t k few_t few_k place (tables place) rows (are place there) some typed)
    rewritten_contents t k few_t few_k own (insert_select place select) is fits typed =
        let fit = branches_fit catalogue (columns place) select in
        let there = left_true (is_there catalogue place) fit fits in
        subst (λ n. IsContents n (q.union (tables place) (made_of t k tables select))) (same_Some place own is)
        (made_contents t k few_t few_k place (tables place) select (are place there) (right_true (is_there catalogue place) fit fits) typed)
    rewritten_contents t k few_t few_k own (update place sets c) is fits typed =
        let fit : Bool = list_all (set_fits (columns place)) sets && cond_fits (columns place) c in
        let there = left_true (is_there catalogue place) fit fits in
        let p = and_parts (list_all (set_is_typed (table_types catalogue place)) sets) (cond_is_typed (table_types catalogue place) c) typed in
        subst (λ n. IsContents n (update_query (columns place) t k sets c (tables place))) (same_Some place own is)
        (update_contents place t k (tables place) sets c (are place there) p.0 p.1)
    rewritten_contents t k few_t few_k own (delete place c) is fits typed =
        let there = left_true (is_there catalogue place) (cond_fits (columns place) c) fits in
        subst (λ n. IsContents n (q.select (tables place) (e.is_true c false))) (same_Some place own is)
        (delete_contents place (tables place) (e.is_true c false) (are place there) typed)
    rewritten_contents t k few_t few_k own (read select) is fits typed = absurd (none-some own is)
