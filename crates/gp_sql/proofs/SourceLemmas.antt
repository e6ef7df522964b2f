-- What FROM and WHERE choose where there are one or two sources, and what EXISTS finds.
use Rattle.gp_sql.proofs.Prelude.{◌≡◌, Bool, true, false, cond, List, [], ◌∷◌, ◌++◌, map, refl, ap, ◌∙◌, append-nil, ◌||◌, filter, AllByRecursion, flat_map, list_any, map-map, filter-map, map-flat_map, Cell}
use Rattle.gp_plantext.specs.Spellable.{has_item}
use Rattle.gp_base.proofs.SmallLemmas.{flat_map_agree}
use Rattle.gp_sql.specs.Meaning.{Relation, Scope, choices, items_row, passes_where, block_rows}
use Rattle.gp_sql.specs.NamedQueries.{from, all_of}
use Rattle.gp_sql.specs.Sql as s
use Rattle.gp_sql.specs.Sql.{Alias, Source, Items, Where}
use Rattle.gp_sql.proofs.ColumnLemmas.{alone}

-- ---- agreement where a fact holds

pub kept_agree : {X : Type 0} (p q : X → Bool) (xs : List X) → AllByRecursion (λ x. p x ≡ q x) xs → filter p xs ≡ filter q xs
kept_agree p q [] h = refl
kept_agree p q (x ∷ xs) h = ap (λ b. cond b (x ∷ filter p xs) (filter p xs)) h.0 ∙ ap (λ ys. cond (q x) (x ∷ ys) ys) (kept_agree p q xs h.1)

pub any_agree : {X : Type 0} (p q : X → Bool) (xs : List X) → AllByRecursion (λ x. p x ≡ q x) xs → list_any p xs ≡ list_any q xs
any_agree p q [] h = refl
any_agree p q (x ∷ xs) h = λ i. h.0 i || any_agree p q xs h.1 i

pub flat_agree : {X Y : Type 0} (f g : X → List Y) (xs : List X) → AllByRecursion (λ x. f x ≡ g x) xs → flat_map f xs ≡ flat_map g xs
flat_agree f g [] h = refl
flat_agree f g (x ∷ xs) h = λ i. h.0 i ++ flat_agree f g xs h.1 i

pub has-any : {X : Type 0} (f : X → List Cell) (p : X → Bool) (xs : List X) → has_item (map f (filter p xs)) ≡ list_any p xs
has-any f p [] = refl
has-any f p (x ∷ xs) = elim (p x) as (λ b. has_item (map f (cond b (x ∷ filter p xs) (filter p xs))) ≡ (b || list_any p xs)) [ true ↦ refl | false ↦ has-any f p xs ]

singles : {X Y : Type 0} (f : X → Y) (xs : List X) → flat_map (λ x. f x ∷ []) xs ≡ map f xs
singles f [] = refl
singles f (x ∷ xs) = ap (λ ys. f x ∷ ys) (singles f xs)

all-kept : {X : Type 0} (xs : List X) → filter (λ x. true) xs ≡ xs
all-kept [] = refl
all-kept (x ∷ xs) = ap (λ ys. x ∷ ys) (all-kept xs)

-- ---- one source

whole : (rows : List (List Cell)) → map (λ row. row ++ []) rows ≡ rows
whole [] = refl
whole (row ∷ rows) = λ i. append-nil row i ∷ whole rows i

module _ (relations : Source → Relation) where
  -- the rows of a block over one source that is this relation
  abbrev pub rows_over : Scope → Items → Alias → Where → Relation → List (List Cell)
  rows_over scope items alias cond r =
      map (λ row. items_row relations scope (alone alias r.columns row) items) (filter (λ row. passes_where relations (alone alias r.columns row ++ scope) cond) r.rows)

  chosen-alone : (alias : Alias) (source : Source) → choices relations (from alias source) ≡ map (alone alias (relations source).columns) (relations source).rows
  chosen-alone alias source = singles (alone alias (relations source).columns) (relations source).rows

  pub block-alone : (scope : Scope) (items : Items) (alias : Alias) (source : Source) (cond : Where)
      → block_rows relations scope (s.select items (from alias source) cond) ≡ rows_over scope items alias cond (relations source)
  block-alone scope items alias source cond =
      let own : List Cell → Scope = alone alias (relations source).columns in
      let made : Scope → List Cell = λ choice. items_row relations scope choice items in
      let kept : Scope → Bool = λ choice. passes_where relations (choice ++ scope) cond in
      ap (λ (chosen : List Scope). map made (filter kept chosen)) (chosen-alone alias source)
      ∙ ap (map made) (filter-map kept own (relations source).rows)
      ∙ map-map made own (filter (λ row. kept (own row)) (relations source).rows)

  -- the rows that pass, as they are
  pub all-alone : (scope : Scope) (alias : Alias) (cond : Where) (r : Relation)
      → rows_over scope s.all alias cond r ≡ filter (λ row. passes_where relations (alone alias r.columns row ++ scope) cond) r.rows
  all-alone scope alias cond r = whole (filter (λ row. passes_where relations (alone alias r.columns row ++ scope) cond) r.rows)

  -- every row
  pub made-alone : (scope : Scope) (items : Items) (alias : Alias) (r : Relation)
      → rows_over scope items alias s.everywhere r ≡ map (λ row. items_row relations scope (alone alias r.columns row) items) r.rows
  made-alone scope items alias r = ap (map (λ row. items_row relations scope (alone alias r.columns row) items)) (all-kept r.rows)

  pub all-rows : (source : Source) → block_rows relations [] (all_of source) ≡ (relations source).rows
  all-rows source =
      block-alone [] s.all s.no_alias source s.everywhere
      ∙ made-alone [] s.all s.no_alias (relations source)
      ∙ whole (relations source).rows

  -- ---- two sources

  -- the rows of two sources side by side
  abbrev pub two : Relation → Relation → List Cell → List Cell → Scope
  two r t row other = record { alias = s.x; columns = r.columns; row = row } ∷ alone s.y t.columns other

  abbrev pub rows_of_two : Items → Relation → Relation → List (List Cell)
  rows_of_two items r t = flat_map (λ row. map (λ other. items_row relations [] (two r t row other) items) t.rows) r.rows

  pub block-two : (items : Items) (left right : Source)
      → block_rows relations [] (s.select items (from s.x left ++ from s.y right) s.everywhere) ≡ rows_of_two items (relations left) (relations right)
  block-two items left right =
      let r = relations left in
      let t = relations right in
      let made : Scope → List Cell = λ choice. items_row relations [] choice items in
      let before : List Cell → Scope → Scope = λ row scope. record { alias = s.x; columns = r.columns; row = row } ∷ scope in
      let beside : List Cell → List Scope = λ row. map (before row) (choices relations (from s.y right)) in
      ap (map made) (all-kept (flat_map beside r.rows))
      ∙ map-flat_map made beside r.rows
      ∙ flat_map_agree (λ row. map made (beside row)) (λ row. map (λ other. made (two r t row other)) t.rows)
      (λ row.
      ap (λ (chosen : List Scope). map made (map (before row) chosen)) (chosen-alone s.y right)
      ∙ ap (map made) (map-map (before row) (alone s.y t.columns) t.rows)
      ∙ map-map made (two r t row) t.rows) r.rows
