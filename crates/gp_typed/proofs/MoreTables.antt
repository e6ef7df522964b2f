-- A statement that has types over some tables has them with more tables behind.
use Rattle.gp_typed.proofs.Prelude.{◌≡◌, ◌<◌, ℕ, zero, suc, true, cond, List, [], ◌∷◌, ◌++◌, length, None, refl, ap, ◌∙◌, arith, Option, is_some, ◌&&◌, nat_lt, slice_get, fold, list_all, option_map_or, and_parts, ltb-true, Cell, Table, left_true, right_true, branch_fits, branches_fit, is_countable, is_there, select_width, statement_fits, Branch, Select, Statement, delete, insert, insert_select, read, update, width_of, CellType, both_types, column_types, cond_is_typed, exprs_types, row_types, branch_types, fill, joined_types, optional_cond_is_typed, select_types, set_is_typed, statement_is_typed, table_types}

get_before : {X : Type 0} (xs others : List X) (place : ℕ) → place < length xs → slice_get (xs ++ others) place ≡ slice_get xs place
get_before [] others place less = absurd (omega (arith, less))
get_before (x ∷ xs) others zero less = refl
get_before (x ∷ xs) others (suc place) less = get_before xs others place (omega (arith, less))

module _ (tables others : List Table) where
  table_same : (place : ℕ) → is_there tables place ≡ true → table_types (tables ++ others) place ≡ table_types tables place
  table_same place there =
      ap (λ (found : Option Table). option_map_or column_types found []) (get_before tables others place (ltb-true place (length tables) there))

  joined_same : (places : List ℕ) → list_all (is_there tables) places ≡ true → joined_types (tables ++ others) places ≡ joined_types tables places
  joined_same [] there = refl
  joined_same (place ∷ places) there =
      let are = and_parts (is_there tables place) (list_all (is_there tables) places) there in
      λ i. table_same place are.0 i ++ joined_same places are.1 i

  branch_same : (width : ℕ) (branch : Branch) → branch_fits tables width branch ≡ true → branch_types (tables ++ others) branch ≡ branch_types tables branch
  branch_same width branch fits =
      let there = left_true (list_all (is_there tables) branch.from) _ (right_true (nat_lt 0 (length branch.from)) _ fits) in
      ap (λ types. cond (optional_cond_is_typed types branch.cond) (exprs_types types branch.items) None) (joined_same branch.from there)

  fill_same : (columns : List CellType) (width : ℕ) (branches : List Branch) → list_all (branch_fits tables width) branches ≡ true
      → list_all (λ branch. fill columns (branch_types (tables ++ others) branch)) branches ≡ list_all (λ branch. fill columns (branch_types tables branch)) branches
  fill_same columns width [] fits = refl
  fill_same columns width (branch ∷ branches) fits =
      let are = and_parts (branch_fits tables width branch) (list_all (branch_fits tables width) branches) fits in
      λ i. fill columns (branch_same width branch are.0 i) && fill_same columns width branches are.1 i

  folded_same : (width : ℕ) (types : Option (List CellType)) (branches : List Branch) → list_all (branch_fits tables width) branches ≡ true
      → fold (λ types other. both_types types (branch_types (tables ++ others) other)) types branches ≡ fold (λ types other. both_types types (branch_types tables other)) types branches
  folded_same width types [] fits = refl
  folded_same width types (branch ∷ branches) fits =
      let are = and_parts (branch_fits tables width branch) (list_all (branch_fits tables width) branches) fits in
      ap (λ here. fold (λ types other. both_types types (branch_types (tables ++ others) other)) (both_types types here) branches) (branch_same width branch are.0)
      ∙ folded_same width (both_types types (branch_types tables branch)) branches are.1

  select_same : (width : ℕ) (select : Select) → list_all (branch_fits tables width) select ≡ true → select_types (tables ++ others) select ≡ select_types tables select
  select_same width [] fits = refl
  select_same width (branch ∷ branches) fits =
      let are = and_parts (branch_fits tables width branch) (list_all (branch_fits tables width) branches) fits in
      ap (λ here. fold (λ types other. both_types types (branch_types (tables ++ others) other)) here branches) (branch_same width branch are.0)
      ∙ folded_same width (branch_types tables branch) branches are.1

  pub typed_more : (statement : Statement) → statement_fits tables statement ≡ true → statement_is_typed tables statement ≡ true → statement_is_typed (tables ++ others) statement ≡ true
  typed_more (insert table rows) fits typed =
      ap (λ types. list_all (λ (row : List Cell). fill types (row_types row)) rows) (table_same table (left_true (is_there tables table) _ fits)) ∙ typed
  typed_more (insert_select table select) fits typed =
      let are = and_parts (is_there tables table) (branches_fit tables (width_of tables table) select) fits in
      let all = right_true (is_countable select) (list_all (branch_fits tables (width_of tables table)) select) are.1 in
      ap (λ types. list_all (λ branch. fill types (branch_types (tables ++ others) branch)) select) (table_same table are.0)
      ∙ fill_same (table_types tables table) (width_of tables table) select all ∙ typed
  typed_more (update table sets c) fits typed =
      ap (λ types. list_all (set_is_typed types) sets && cond_is_typed types c) (table_same table (left_true (is_there tables table) _ fits)) ∙ typed
  typed_more (delete table c) fits typed = ap (λ types. cond_is_typed types c) (table_same table (left_true (is_there tables table) _ fits)) ∙ typed
  typed_more (read select) fits typed =
      let all = right_true (is_countable select) (list_all (branch_fits tables (select_width select)) select) fits in
      ap (λ (types : Option (List CellType)). is_some types) (select_same (select_width select) select all) ∙ typed
