-- The types of tables side by side, each with its identity and its mark behind its columns, and of the user's columns where they stand between these.
use Rattle.gp_typed.proofs.Prelude.{◌≡◌, ◌<◌, ℕ, zero, suc, ◌+◌, true, false, List, [], ◌∷◌, ◌++◌, length, map, Some, None, refl, sym, ap, ◌∙◌, append_assoc, length-append, arith, Option, is_some, slice_get, option_map_or, and_from, ltb-true, Table, length-map, is_there, columns_behind, width_of, identities_from, users_from, CellType, Id, Mark, column_types, exprs_types, is_id, parts_are_ids, product_types, scan_types, joined_types, table_types}
use Rattle.gp_typed.proofs.TypeLists.{columns_types, exprs-append, type_behind}

-- ---- tables that are there

get_there : {X : Type 0} (xs : List X) (place : ℕ) → place < length xs → is_some (slice_get xs place) ≡ true
get_there [] place less = absurd (omega (arith, less))
get_there (x ∷ xs) zero less = refl
get_there (x ∷ xs) (suc place) less = get_there xs place (omega (arith, less))

module _ (tables : List Table) where
  -- the columns of a table with the identity and the mark behind
  abbrev pub row_of : ℕ → List CellType
  row_of place = table_types tables place ++ Id ∷ Mark ∷ []

  abbrev pub rows_of : List ℕ → List CellType
  rows_of [] = []
  rows_of (place ∷ places) = row_of place ++ rows_of places

  pub scan_there : (place : ℕ) → is_there tables place ≡ true → scan_types (slice_get tables place) ≡ Some (row_of place)
  scan_there place there = go (slice_get tables place) (get_there tables place (ltb-true place (length tables) there))
    where
      go : (found : Option Table) → is_some found ≡ true → scan_types found ≡ Some (option_map_or column_types found [] ++ Id ∷ Mark ∷ [])
      go None known = absurd cc
      go (Some table) known = refl

  pub types_width : (place : ℕ) → length (table_types tables place) ≡ width_of tables place
  types_width place = go (slice_get tables place)
    where
      go : (found : Option Table) → length (option_map_or column_types found []) ≡ option_map_or (λ (table : Table). length table.cols) found 0
      go None = refl
      go (Some table) = length-map _ table.cols

  pub row_width : (place : ℕ) → length (row_of place) ≡ width_of tables place + 2
  row_width place =
      let own = length-append (table_types tables place) (Id ∷ Mark ∷ []) in
      let width = types_width place in
      omega (arith, own, width)

  pub rows-append : (places others : List ℕ) → rows_of (places ++ others) ≡ rows_of places ++ rows_of others
  rows-append [] others = refl
  rows-append (place ∷ places) others = ap (λ types. row_of place ++ types) (rows-append places others) ∙ sym (append_assoc (row_of place) (rows_of places) (rows_of others))

  -- a row of tables, behind others: its columns, then its identity and its mark, then the next ones
  apart : (before : List CellType) (place : ℕ) (others : List CellType)
      → before ++ (row_of place ++ others) ≡ before ++ (table_types tables place ++ (Id ∷ Mark ∷ others))
  apart before place others = ap (λ types. before ++ types) (append_assoc (table_types tables place) (Id ∷ Mark ∷ []) others)

  pub identity_behind : (before : List CellType) (place : ℕ) (others : List CellType) (n : ℕ) → n ≡ length before + width_of tables place
      → slice_get (before ++ (row_of place ++ others)) n ≡ Some Id
  identity_behind before place others n at =
      let own = length-append before (table_types tables place) in
      let width = types_width place in
      let here : n ≡ length (before ++ table_types tables place) = omega (arith, own, width, at) in
      (λ i. slice_get ((apart before place others ∙ sym (append_assoc before (table_types tables place) (Id ∷ Mark ∷ others))) i) (here i))
      ∙ type_behind (before ++ table_types tables place) Id (Mark ∷ others)

  pub mark_behind : (place n : ℕ) → n ≡ suc (width_of tables place) → slice_get (row_of place) n ≡ Some Mark
  mark_behind place n at =
      let own = length-append (table_types tables place) (Id ∷ []) in
      let width = types_width place in
      let here : n ≡ length (table_types tables place ++ Id ∷ []) = omega (arith, own, width, at) in
      (λ i. slice_get (sym (append_assoc (table_types tables place) (Id ∷ []) (Mark ∷ [])) i) (here i))
      ∙ type_behind (table_types tables place ++ Id ∷ []) Mark []

  -- the user's columns of tables behind others
  users_behind : (types before : List CellType) (places : List ℕ) (n : ℕ) → types ≡ before ++ rows_of places → n ≡ length before
      → exprs_types types (users_from false n (map (width_of tables) places)) ≡ Some (joined_types tables places)
  users_behind types before [] n are at = refl
  users_behind types before (place ∷ places) n are at =
      let width = types_width place in
      let row = row_width place in
      let more = length-append before (row_of place) in
      let own : exprs_types types (columns_behind n (width_of tables place)) ≡ Some (table_types tables place) =
      ap (λ w. exprs_types types (columns_behind n w)) (sym width)
      ∙ columns_types types before (table_types tables place) (Id ∷ Mark ∷ rows_of places) n (are ∙ apart before place (rows_of places)) at in
      let rest = users_behind types (before ++ row_of place) places (n + (width_of tables place + 2)) (are ∙ sym (append_assoc before (row_of place) (rows_of places))) (omega (arith, row, more, at)) in
      exprs-append types (columns_behind n (width_of tables place)) (users_from false (n + (width_of tables place + 2)) (map (width_of tables) places))
      ∙ (λ i. product_types (own i) (rest i))

  pub users_types : (places : List ℕ) → exprs_types (rows_of places) (users_from false 0 (map (width_of tables) places)) ≡ Some (joined_types tables places)
  users_types places = users_behind (rows_of places) [] places 0 refl refl

  -- the identities of tables behind others
  ids_behind : (types before : List CellType) (places : List ℕ) (n : ℕ) → types ≡ before ++ rows_of places → n ≡ length before
      → parts_are_ids types (identities_from false n (map (width_of tables) places)) ≡ true
  ids_behind types before [] n are at = refl
  ids_behind types before (place ∷ places) n are at =
      let row = row_width place in
      let more = length-append before (row_of place) in
      let first : slice_get types (n + width_of tables place) ≡ Some Id =
      ap (λ all. slice_get all (n + width_of tables place)) are ∙ identity_behind before place (rows_of places) (n + width_of tables place) (omega (arith, at)) in
      let rest = ids_behind types (before ++ row_of place) places (n + (width_of tables place + 2)) (are ∙ sym (append_assoc before (row_of place) (rows_of places))) (omega (arith, row, more, at)) in
      and_from (is_id (slice_get types (n + width_of tables place))) (parts_are_ids types (identities_from false (n + (width_of tables place + 2)) (map (width_of tables) places)))
      (ap is_id first) rest

  pub ids_types : (places : List ℕ) → parts_are_ids (rows_of places) (identities_from false 0 (map (width_of tables) places)) ≡ true
  ids_types places = ids_behind (rows_of places) [] places 0 refl refl
