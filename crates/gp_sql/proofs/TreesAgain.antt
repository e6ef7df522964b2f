-- Terms, conditions and queries that are spelled are read again in front of a rest.
use Rattle.gp_sql.proofs.Prelude.{◌≡◌, ℕ, zero, suc, ◌+◌, ◌<◌, ◌≤◌, Bool, true, false, List, [], ◌∷◌, ◌++◌, length, Some, None, option_and_then, refl, sym, ap, subst, ◌∙◌, append_assoc, arith, codes, ◌&&◌, decimal, signed_decimal, concat, flat_map, list_all, option_map, and_parts, false≢true, Table, if_there, Cmp, Read, with_rest, behind, EndsName, behind-words, concat-onto, Ends, then_is}
use Rattle.std.proofs.Common.{Option}
use Rattle.gp_expr.specs.declared.expr.Cmp.TheVariants as cmp
use Rattle.gp_plantext.proofs.Rests.{onto}
use Rattle.gp_sql.specs.Spelled.{HaveOwnNames, only_table, is_unit, is_chain, source_is_spelled, column_is_spelled, term_is_spelled, terms_are_spelled, test_is_spelled, items_are_spelled, where_is_spelled, block_is_spelled, query_is_spelled}
use Rattle.gp_plantext.specs.Spelling.{cmp_text}
use Rattle.gp_sql.specs.Spelling.{alias_text, source_text, item_text, from_text, term_text, joined_text, others_joined, others_named, test_text, items_text, where_text, block_text, query_text}
use Rattle.gp_sql.specs.Sql as s
use Rattle.gp_sql.specs.Sql.{Column, Source, Alias, FromItem, Term, Terms, Test, Items, Where, Block, Query}
use Rattle.gp_sql.proofs.Reading.{Part, term, opposite, test, star, column_of, more_on, tail_on, joined_at, first_on, bracket_at, others_at, items_on, items_at, where_at, item_with, item_at, from_at, many_at, table_or_first, block_at, query_by, readers}
use Rattle.gp_sql.proofs.NamesAgain.{source-again, under, column-again, under-none, under-same}
use Rattle.gp_sql.proofs.PartsAgain.{term_size, terms_size, test_size, items_size, where_size, block_size, query_size, few-ands, number-behind, Starts, unit-again, test-is, bracket-is, compare-starts, null-starts, part-starts, true-starts, or-starts, and-starts, binary-is, plus-on, minus-on, times-on, joins-on, opposite-is, case-is, term-is, by, by-bracket, by-opposite, by-case, by-not, by-star, by-exists, by-cast, by-null, by-text, by-number, by-cast_number, by-named}

-- ---- what may stand behind

-- behind an item of SELECT
pub record EndsItem (rest : List ℕ) : Type 0 where
  pub ends : Ends rest
  pub comma : behind (codes ", ") rest ≡ None
  pub named : behind (codes " AS c") rest ≡ None

-- behind a source
pub record EndsSource (rest : List ℕ) : Type 0 where
  pub name : EndsName rest
  pub x : behind (codes " x") rest ≡ None
  pub y : behind (codes " y") rest ≡ None

-- behind FROM
pub record EndsFrom (rest : List ℕ) : Type 0 where
  pub item : EndsItem rest
  pub source : EndsSource rest
  pub from : behind (codes " FROM ") rest ≡ None

-- behind a block
pub record EndsBlock (rest : List ℕ) : Type 0 where
  pub from : EndsFrom rest
  pub where_none : behind (codes " WHERE ") rest ≡ None
  pub stops : (read : List ℕ → Read Part) (most k : ℕ) (d : Test) → more_on read most k (d, rest) ≡ Some (d, rest)

pub ends-bracket : (rest : List ℕ) → EndsBlock (codes ")" ++ rest)
unfolding tail_on
ends-bracket rest = record {
  from = record { item = record { ends = refl; comma = refl; named = refl }; source = record { name = refl; x = refl; y = refl }; from = refl };
  where_none = refl;
  stops = λ read most k d. refl;
}

pub ends-last : (rest : List ℕ) → EndsBlock (codes ";" ++ rest)
unfolding tail_on
ends-last rest = record {
  from = record { item = record { ends = refl; comma = refl; named = refl }; source = record { name = refl; x = refl; y = refl }; from = refl };
  where_none = refl;
  stops = λ read most k d. refl;
}

ends-union : (rest : List ℕ) → EndsBlock (codes " UNION ALL " ++ rest)
unfolding tail_on
ends-union rest = record {
  from = record { item = record { ends = refl; comma = refl; named = refl }; source = record { name = refl; x = refl; y = refl }; from = refl };
  where_none = refl;
  stops = λ read most k d. refl;
}

-- ---- lists

-- items with a separator before each are read again, where each of them is
pub many-again : {X : Type 0} (read : List ℕ → Read X) (text : X → List ℕ) (separator : List ℕ) (E : List ℕ → Type 0) (is_good : X → Bool)
    → ((words : List ℕ) → E (separator ++ words)) → ((x : X) (rest : List ℕ) → is_good x ≡ true → E rest → read (text x ++ rest) ≡ Some (x, rest))
    → (xs : List X) (k : ℕ) (rest : List ℕ) → list_all is_good xs ≡ true → length xs ≤ k → E rest → behind separator rest ≡ None
    → many_at read separator k (flat_map (λ x. separator ++ text x) xs ++ rest) ≡ Some (xs, rest)
many-again read text separator E is_good starts again [] zero rest good few ends none = refl
many-again read text separator E is_good starts again [] (suc k) rest good few ends none = rw none refl
many-again read text separator E is_good starts again (x ∷ xs) zero rest good few ends none = absurd (omega (arith, few))
many-again {X} read text separator E is_good starts again (x ∷ xs) (suc k) rest good few ends none =
    let later = flat_map (λ y. separator ++ text y) xs ++ rest in
    let p = and_parts (is_good x) (list_all is_good xs) good in
    let apart : flat_map (λ y. separator ++ text y) (x ∷ xs) ++ rest ≡ separator ++ (text x ++ later) =
    append_assoc (separator ++ text x) (flat_map (λ y. separator ++ text y) xs) rest ∙ append_assoc separator (text x) later in
    ap (many_at read separator (suc k)) apart
    ∙ ap (λ (o : Option (List ℕ)). if_there o (λ after. option_and_then (λ (y : X × List ℕ). option_and_then (λ (z : List X × List ℕ). Some (y.0 ∷ z.0, z.1)) (many_at read separator k y.1)) (read after)) (Some ([], separator ++ (text x ++ later)))) (behind-words separator (text x ++ later))
    ∙ then_is _ x later (λ (y : X × List ℕ). option_and_then (λ (z : List X × List ℕ). Some (y.0 ∷ z.0, z.1)) (many_at read separator k y.1)) (again x later p.0 (ends-later xs))
    ∙ then_is _ xs rest (λ (z : List X × List ℕ). Some (x ∷ z.0, z.1)) (many-again read text separator E is_good starts again xs k rest p.1 (omega (arith, few)) ends none)
  where
    ends-later : (ys : List X) → E (flat_map (λ y. separator ++ text y) ys ++ rest)
    ends-later [] = ends
    ends-later (y ∷ ys) =
        subst E (sym (append_assoc (separator ++ text y) (flat_map (λ z. separator ++ text z) ys) rest ∙ append_assoc separator (text y) (flat_map (λ z. separator ++ text z) ys ++ rest))) (starts (text y ++ (flat_map (λ z. separator ++ text z) ys ++ rest)))

module _ (tables : List Table) (apart : HaveOwnNames tables) where
  -- ---- the columns of another table

  abbrev term_under : ℕ → Term → Term
  term_under only (s.column alias c) = s.column alias (under tables apart only c)
  term_under only (s.null type) = s.null type
  term_under only (s.number z) = s.number z
  term_under only (s.cast_number z) = s.cast_number z
  term_under only (s.text text) = s.text text
  term_under only (s.plus a b) = s.plus a b
  term_under only (s.minus a b) = s.minus a b
  term_under only (s.times a b) = s.times a b
  term_under only (s.negative a) = s.negative a
  term_under only (s.joined terms) = s.joined terms
  term_under only (s.case c a b) = s.case c a b

  abbrev terms_under : ℕ → Terms → Terms
  terms_under only s.no_terms = s.no_terms
  terms_under only (s.term a others) = s.term (term_under only a) (terms_under only others)

  abbrev items_under : ℕ → Items → Items
  items_under only s.all = s.all
  items_under only (s.named terms) = s.named (terms_under only terms)
  items_under only (s.single a) = s.single a

  -- a table that is read is the one whose columns are items
  abbrev Suits : Option ℕ → ℕ → Type 0
  Suits None only = Unit {0}
  Suits (Some table) only = table ≡ only

  column-same : (table : Option ℕ) (only : ℕ) (c : Column) → Suits table only → column_is_spelled tables table c ≡ true → under tables apart only c ≡ c
  column-same None only c suits is = under-none tables apart only c is
  column-same (Some table) only c suits is = under-same tables apart only c (subst (λ (n : ℕ). column_is_spelled tables (Some n) c ≡ true) suits is)

  term-same : (table : Option ℕ) (only : ℕ) (a : Term) → Suits table only → term_is_spelled tables table a ≡ true → term_under only a ≡ a
  term-same table only (s.column alias c) suits is = ap (s.column alias) (column-same table only c suits is)
  term-same table only (s.null type) suits is = refl
  term-same table only (s.number z) suits is = refl
  term-same table only (s.cast_number z) suits is = refl
  term-same table only (s.text text) suits is = refl
  term-same table only (s.plus a b) suits is = refl
  term-same table only (s.minus a b) suits is = refl
  term-same table only (s.times a b) suits is = refl
  term-same table only (s.negative a) suits is = refl
  term-same table only (s.joined terms) suits is = refl
  term-same table only (s.case c a b) suits is = refl

  terms-same : (table : Option ℕ) (only : ℕ) (terms : Terms) → Suits table only → terms_are_spelled tables table terms ≡ true → terms_under only terms ≡ terms
  terms-same table only s.no_terms suits is = refl
  terms-same table only (s.term a others) suits is =
      let p = and_parts (term_is_spelled tables table a) (terms_are_spelled tables table others) is in
      λ i. s.term (term-same table only a suits p.0 i) (terms-same table only others suits p.1 i)

  items-same : (table : Option ℕ) (only : ℕ) (items : Items) → Suits table only → items_are_spelled tables table items ≡ true → items_under only items ≡ items
  items-same table only s.all suits is = refl
  items-same table only (s.named s.no_terms) suits is = absurd (false≢true is)
  items-same table only (s.named (s.term a others)) suits is = ap s.named (terms-same table only (s.term a others) suits is)
  items-same table only (s.single a) suits is = refl

  -- ---- steps

  abbrev part_at : ℕ → ℕ → List ℕ → Read Part
  part_at n only = (readers tables n).part only

  abbrev query_at : ℕ → List ℕ → Read Query
  query_at n = (readers tables n).query

  abbrev by_at : ℕ → ℕ → List ℕ → Read Part
  by_at n only = by (part_at n only) n tables (query_at n) only

  part-suc : (n only : ℕ) (bytes : List ℕ) → part_at (suc n) only bytes ≡ by_at n only bytes
  unfolding readers
  part-suc n only bytes = refl

  query-suc : (n : ℕ) (bytes : List ℕ) → query_at (suc n) bytes ≡ query_by tables (part_at n) n (query_at n) bytes
  unfolding readers
  query-suc n bytes = refl

  enter : (n only : ℕ) (pieces : List (List ℕ)) (rest : List ℕ) → part_at (suc n) only (concat pieces ++ rest) ≡ by_at n only (onto pieces rest)
  enter n only pieces rest = part-suc n only (concat pieces ++ rest) ∙ ap (by_at n only) (concat-onto pieces rest)

  -- no column of a table is in it
  plain : (n only : ℕ) (a : Term) (bytes rest : List ℕ) → term_is_spelled tables None a ≡ true → part_at n only bytes ≡ Some (term (term_under only a), rest) → part_at n only bytes ≡ Some (term a, rest)
  plain n only a bytes rest is read = read ∙ ap (λ (b : Term). Some (term b, rest)) (term-same None only a tt is)

  ends-joined : (others : Terms) (rest : List ℕ) → Ends (others_joined tables others ++ (codes ")" ++ rest))
  ends-joined s.no_terms rest = refl
  ends-joined (s.term a others) rest = refl

  cmp-ends : (op : Cmp) (rest : List ℕ) → Ends (cmp_text op ++ rest)
  cmp-ends cmp.Eq rest = refl
  cmp-ends cmp.Ne rest = refl
  cmp-ends cmp.Lt rest = refl
  cmp-ends cmp.Le rest = refl
  cmp-ends cmp.Gt rest = refl
  cmp-ends cmp.Ge rest = refl

  -- ---- FROM and WHERE

  item-again : (item : FromItem) (rest : List ℕ) → source_is_spelled tables item.source ≡ true → EndsSource rest → item_at tables (item_text tables item ++ rest) ≡ Some (item, rest)
  item-again item rest is ends = alias item.alias refl
    where
      alias : (only : Alias) → item.alias ≡ only → item_at tables (item_text tables item ++ rest) ≡ Some (item, rest)
      alias s.no_alias e =
          ap (item_at tables) (ap (λ (other : Alias). (source_text tables item.source ++ alias_text other) ++ rest) e ∙ append_assoc (source_text tables item.source) [] rest)
          ∙ then_is _ item.source rest (item_with tables) (source-again tables apart item.source rest is ends.name)
          ∙ rw (ends.x, ends.y) (λ i. Some (record { source = item.source; alias = sym e i }, rest))
      alias s.x e =
          ap (item_at tables) (ap (λ (other : Alias). (source_text tables item.source ++ alias_text other) ++ rest) e ∙ append_assoc (source_text tables item.source) (codes " x") rest)
          ∙ then_is _ item.source (codes " x" ++ rest) (item_with tables) (source-again tables apart item.source (codes " x" ++ rest) is refl)
          ∙ (λ i. Some (record { source = item.source; alias = sym e i }, rest))
      alias s.y e =
          ap (item_at tables) (ap (λ (other : Alias). (source_text tables item.source ++ alias_text other) ++ rest) e ∙ append_assoc (source_text tables item.source) (codes " y") rest)
          ∙ then_is _ item.source (codes " y" ++ rest) (item_with tables) (source-again tables apart item.source (codes " y" ++ rest) is refl)
          ∙ (λ i. Some (record { source = item.source; alias = sym e i }, rest))

  from-again : (from : List FromItem) (most : ℕ) (rest : List ℕ) → list_all (λ (item : FromItem). source_is_spelled tables item.source) from ≡ true → length from ≤ most → EndsFrom rest
      → from_at tables most (from_text tables from ++ rest) ≡ Some (from, rest)
  from-again [] most rest is few ends = rw ends.from refl
  from-again (item ∷ items) most rest is few ends =
      let p = and_parts (source_is_spelled tables item.source) (list_all (λ (each : FromItem). source_is_spelled tables each.source) items) is in
      let later = flat_map (λ (other : FromItem). codes ", " ++ item_text tables other) items ++ rest in
      ap (from_at tables most) (concat-onto (codes " FROM " ∷ (item_text tables item ++ flat_map (λ (other : FromItem). codes ", " ++ item_text tables other) items) ∷ []) rest
      ∙ ap (λ (words : List ℕ). codes " FROM " ++ words) (append_assoc (item_text tables item) (flat_map (λ (other : FromItem). codes ", " ++ item_text tables other) items) rest))
      ∙ then_is _ item later (λ (x : FromItem × List ℕ). option_and_then (λ (y : List FromItem × List ℕ). Some (x.0 ∷ y.0, y.1)) (many_at (item_at tables) (codes ", ") most x.1)) (item-again item later p.0 (ends-later items))
      ∙ then_is _ items rest (λ (y : List FromItem × List ℕ). Some (item ∷ y.0, y.1))
      (many-again (item_at tables) (item_text tables) (codes ", ") EndsSource (λ (each : FromItem). source_is_spelled tables each.source) (λ words. record { name = refl; x = refl; y = refl }) item-again items most rest p.1 (omega (arith, few)) ends.source ends.item.comma)
    where
      ends-later : (others : List FromItem) → EndsSource (flat_map (λ (other : FromItem). codes ", " ++ item_text tables other) others ++ rest)
      ends-later [] = ends.source
      ends-later (other ∷ others) = record { name = refl; x = refl; y = refl }

  ends-where : (cond : Where) (rest : List ℕ) → EndsBlock rest → EndsFrom (where_text tables cond ++ rest)
  ends-where s.everywhere rest ends = ends.from
  ends-where (s.passing c) rest ends = record { item = record { ends = refl; comma = refl; named = refl }; source = record { name = refl; x = refl; y = refl }; from = refl }

  ends-from : (from : List FromItem) (rest : List ℕ) → EndsFrom rest → EndsItem (from_text tables from ++ rest)
  ends-from [] rest ends = ends.item
  ends-from (item ∷ items) rest ends = record { ends = refl; comma = refl; named = refl }

  own-suits : (table : Option ℕ) → Suits table (table_or_first table)
  own-suits None = tt
  own-suits (Some table) = refl

  -- a block behind SELECT, and a rest
  abbrev inner : Block → List ℕ → List ℕ
  inner (s.select items from cond) rest = items_text tables items ++ (from_text tables from ++ (where_text tables cond ++ rest))

  block-inner : (block : Block) (rest : List ℕ) → block_text tables block ++ rest ≡ codes "SELECT " ++ inner block rest
  block-inner (s.select items from cond) rest = concat-onto (codes "SELECT " ∷ items_text tables items ∷ from_text tables from ∷ where_text tables cond ∷ []) rest

  block-alone : (n : ℕ) (block : Block) (rest : List ℕ) → block_at tables (part_at n) n (inner block rest) ≡ Some (block, rest) → behind (codes " UNION ALL ") rest ≡ None
      → query_at (suc n) (query_text tables (s.block block) ++ rest) ≡ Some (s.block block, rest)
  unfolding query_by
  block-alone n block rest is none =
      query-suc n (block_text tables block ++ rest) ∙ ap (query_by tables (part_at n) n (query_at n)) (block-inner block rest)
      ∙ then_is _ block rest (λ (x : Block × List ℕ). if_there (behind (codes " UNION ALL ") x.1) (λ after. option_map (λ (y : Query × List ℕ). (s.union_all x.0 y.0, y.1)) (query_at n after)) (Some (s.block x.0, x.1))) is
      ∙ rw none refl

  block-union : (n : ℕ) (block : Block) (query : Query) (rest : List ℕ)
      → block_at tables (part_at n) n (inner block (codes " UNION ALL " ++ (query_text tables query ++ rest))) ≡ Some (block, codes " UNION ALL " ++ (query_text tables query ++ rest))
      → query_at n (query_text tables query ++ rest) ≡ Some (query, rest)
      → query_at (suc n) (query_text tables (s.union_all block query) ++ rest) ≡ Some (s.union_all block query, rest)
  unfolding query_by
  block-union n block query rest is others =
      let later = codes " UNION ALL " ++ (query_text tables query ++ rest) in
      query-suc n (query_text tables (s.union_all block query) ++ rest)
      ∙ ap (query_by tables (part_at n) n (query_at n)) (concat-onto (block_text tables block ∷ codes " UNION ALL " ∷ query_text tables query ∷ []) rest ∙ block-inner block later)
      ∙ then_is _ block later (λ (x : Block × List ℕ). if_there (behind (codes " UNION ALL ") x.1) (λ after. option_map (λ (y : Query × List ℕ). (s.union_all x.0 y.0, y.1)) (query_at n after)) (Some (s.block x.0, x.1))) is
      ∙ ap (option_map (λ (y : Query × List ℕ). (s.union_all block y.0, y.1))) others

  block-is : (n : ℕ) (items : Items) (from : List FromItem) (cond : Where) (bytes behind_items behind_from rest : List ℕ)
      → ((only : ℕ) → items_at (part_at n only) n bytes ≡ Some (items_under only items, behind_items)) → from_at tables n behind_items ≡ Some (from, behind_from)
      → where_at (part_at n 0) n behind_from ≡ Some (cond, rest) → items_under (table_or_first (only_table from)) items ≡ items
      → block_at tables (part_at n) n bytes ≡ Some (s.select items from cond, rest)
  unfolding block_at
  block-is n items from cond bytes behind_items behind_from rest item source condition same =
      let only = table_or_first (only_table from) in
      then_is _ (items_under 0 items) behind_items _ (item 0)
      ∙ then_is _ from behind_from _ source
      ∙ then_is _ (items_under only items) behind_items _ (item only)
      ∙ then_is _ cond rest _ condition
      ∙ ap (λ (own_items : Items). Some (s.select own_items from cond, rest)) same

  -- ---- trees

  left-few : (x y n : ℕ) → 1 + (x + y) < suc n → x < n
  left-few x y n few = omega (arith, few)

  right-few : (x y n : ℕ) → 1 + (x + y) < suc n → y < n
  right-few x y n few = omega (arith, few)

  one-few : (x n : ℕ) → 1 + x < suc n → x < n
  one-few x n few = omega (arith, few)

  one-in : (x n : ℕ) → 1 + x < n → x < n
  one-in x n few = omega (arith, few)

  left-in : (x y n : ℕ) → 1 + (x + y) < n → x < n
  left-in x y n few = omega (arith, few)

  right-in : (x y n : ℕ) → 1 + (x + y) < n → y < n
  right-in x y n few = omega (arith, few)

  mutual
    term-again : (a : Term) (table : Option ℕ) (n only : ℕ) (rest : List ℕ) → term_is_spelled tables table a ≡ true → term_size a < n → Ends rest → part_at n only (term_text tables a ++ rest) ≡ Some (term (term_under only a), rest)
    term-again a table zero only rest is few ends = absurd (omega (arith, few))
    term-again (s.column alias c) table (suc n) only rest is few ends =
        part-suc n only (term_text tables (s.column alias c) ++ rest) ∙ by-named (part_at n only) n tables (query_at n) only alias c rest ∙ ap (column_of tables alias) (column-again tables apart table only c rest is ends)
    term-again (s.null type) table (suc n) only rest is few ends = part-suc n only (term_text tables (s.null type) ++ rest) ∙ by-null (part_at n only) n tables (query_at n) only type rest
    term-again (s.number z) table (suc n) only rest is few ends = part-suc n only (signed_decimal z ++ rest) ∙ by-number (part_at n only) n tables (query_at n) only z rest is ends
    term-again (s.cast_number z) table (suc n) only rest is few ends =
        enter n only (codes "CAST(" ∷ signed_decimal z ∷ codes " AS BIGINT)" ∷ []) rest
        ∙ by-cast (part_at n only) n tables (query_at n) only (signed_decimal z ++ (codes " AS BIGINT)" ++ rest)) ∙ by-cast_number (part_at n only) n tables (query_at n) only z rest is
    term-again (s.text text) table (suc n) only rest is few ends = part-suc n only (term_text tables (s.text text) ++ rest) ∙ by-text (part_at n only) n tables (query_at n) only text rest ends
    term-again (s.plus a b) table (suc n) only rest is few ends =
        let p = and_parts (term_is_spelled tables None a) (term_is_spelled tables None b) is in
        enter n only (codes "(" ∷ term_text tables a ∷ codes " + " ∷ term_text tables b ∷ codes ")" ∷ []) rest
        ∙ by-bracket (part_at n only) n tables (query_at n) only (term_text tables a ++ (codes " + " ++ (term_text tables b ++ (codes ")" ++ rest))))
        ∙ binary-is (part_at n only) n s.plus a b (codes " + ") (term_text tables a) (term_text tables b) rest (plus-on (part_at n only) n a)
        (plain n only a _ _ p.0 (term-again a None n only _ p.0 (left-few (term_size a) (term_size b) n few) refl))
        (plain n only b _ _ p.1 (term-again b None n only _ p.1 (right-few (term_size a) (term_size b) n few) refl))
    term-again (s.minus a b) table (suc n) only rest is few ends =
        let p = and_parts (term_is_spelled tables None a) (term_is_spelled tables None b) is in
        enter n only (codes "(" ∷ term_text tables a ∷ codes " - " ∷ term_text tables b ∷ codes ")" ∷ []) rest
        ∙ by-bracket (part_at n only) n tables (query_at n) only (term_text tables a ++ (codes " - " ++ (term_text tables b ++ (codes ")" ++ rest))))
        ∙ binary-is (part_at n only) n s.minus a b (codes " - ") (term_text tables a) (term_text tables b) rest (minus-on (part_at n only) n a)
        (plain n only a _ _ p.0 (term-again a None n only _ p.0 (left-few (term_size a) (term_size b) n few) refl))
        (plain n only b _ _ p.1 (term-again b None n only _ p.1 (right-few (term_size a) (term_size b) n few) refl))
    term-again (s.times a b) table (suc n) only rest is few ends =
        let p = and_parts (term_is_spelled tables None a) (term_is_spelled tables None b) is in
        enter n only (codes "(" ∷ term_text tables a ∷ codes " * " ∷ term_text tables b ∷ codes ")" ∷ []) rest
        ∙ by-bracket (part_at n only) n tables (query_at n) only (term_text tables a ++ (codes " * " ++ (term_text tables b ++ (codes ")" ++ rest))))
        ∙ binary-is (part_at n only) n s.times a b (codes " * ") (term_text tables a) (term_text tables b) rest (times-on (part_at n only) n a)
        (plain n only a _ _ p.0 (term-again a None n only _ p.0 (left-few (term_size a) (term_size b) n few) refl))
        (plain n only b _ _ p.1 (term-again b None n only _ p.1 (right-few (term_size a) (term_size b) n few) refl))
    term-again (s.negative a) table (suc zero) only rest is few ends = let h : 2 + term_size a < 1 = few in absurd (omega (arith, h))
    term-again (s.negative a) table (suc (suc n)) only rest is few ends =
        let h : 2 + term_size a < suc (suc n) = few in
        enter (suc n) only (codes "(- " ∷ term_text tables a ∷ codes ")" ∷ []) rest
        ∙ by-bracket (part_at (suc n) only) (suc n) tables (query_at (suc n)) only (codes "- " ++ (term_text tables a ++ (codes ")" ++ rest)))
        ∙ opposite-is (part_at (suc n) only) (suc n) a (term_text tables a) rest
        (part-suc n only (codes "- " ++ (term_text tables a ++ (codes ")" ++ rest)))
        ∙ by-opposite (part_at n only) n tables (query_at n) only (term_text tables a ++ (codes ")" ++ rest))
        ∙ ap (option_map (λ (x : Term × List ℕ). (opposite x.0, x.1))) (term-is (part_at n only) n a _ (codes ")" ++ rest) (plain n only a _ _ is (term-again a None n only _ is (omega (arith, h)) refl))))
    term-again (s.joined s.no_terms) table (suc n) only rest is few ends = absurd (false≢true is)
    term-again (s.joined (s.term a s.no_terms)) table (suc n) only rest is few ends = absurd (false≢true is)
    term-again (s.joined (s.term a (s.term b others))) table (suc n) only rest is few ends =
        let p = and_parts (term_is_spelled tables None a) (term_is_spelled tables None b && terms_are_spelled tables None others) is in
        let h : 1 + (1 + (term_size a + terms_size (s.term b others))) < suc n = few in
        let later = others_joined tables (s.term b others) ++ (codes ")" ++ rest) in
        enter n only (codes "(" ∷ joined_text tables (s.term a (s.term b others)) ∷ codes ")" ∷ []) rest
        ∙ by-bracket (part_at n only) n tables (query_at n) only (joined_text tables (s.term a (s.term b others)) ++ (codes ")" ++ rest))
        ∙ ap (bracket_at (part_at n only) n) (append_assoc (term_text tables a) (others_joined tables (s.term b others)) (codes ")" ++ rest))
        ∙ then_is _ (term a) later (first_on (part_at n only) n) (plain n only a _ _ p.0 (term-again a None n only later p.0 (omega (arith, h)) (ends-joined (s.term b others) rest)))
        ∙ joins-on (part_at n only) n a (concat (term_text tables b ∷ others_joined tables others ∷ []) ++ (codes ")" ++ rest))
        ∙ then_is _ (s.term b others) (codes ")" ++ rest) (λ (x : Terms × List ℕ). with_rest (term (s.joined (s.term a x.0))) (behind (codes ")") x.1))
        (joined-again (s.term b others) n n only rest p.1 (omega (arith, h)) (omega (arith, h)))
    term-again (s.case c a b) table (suc n) only rest is few ends =
        let p = and_parts (test_is_spelled tables c) (term_is_spelled tables None a && term_is_spelled tables None b) is in
        let q = and_parts (term_is_spelled tables None a) (term_is_spelled tables None b) p.1 in
        let h : 1 + (test_size c + (term_size a + term_size b)) < suc n = few in
        enter n only (codes "CASE WHEN " ∷ test_text tables c ∷ codes " THEN " ∷ term_text tables a ∷ codes " ELSE " ∷ term_text tables b ∷ codes " END" ∷ []) rest
        ∙ by-case (part_at n only) n tables (query_at n) only (test_text tables c ++ (codes " THEN " ++ (term_text tables a ++ (codes " ELSE " ++ (term_text tables b ++ (codes " END" ++ rest))))))
        ∙ case-is (part_at n only) n c a b (test_text tables c) (term_text tables a) (term_text tables b) rest (test-starts c n only _ p.0 (omega (arith, h)) refl)
        (plain n only a _ _ q.0 (term-again a None n only _ q.0 (omega (arith, h)) refl))
        (plain n only b _ _ q.1 (term-again b None n only _ q.1 (omega (arith, h)) refl))

    joined-again : (terms : Terms) (k n only : ℕ) (rest : List ℕ) → terms_are_spelled tables None terms ≡ true → terms_size terms ≤ k → terms_size terms < n
        → joined_at (part_at n only) n k (others_joined tables terms ++ (codes ")" ++ rest)) ≡ Some (terms, codes ")" ++ rest)
    joined-again s.no_terms zero n only rest is few less = refl
    joined-again s.no_terms (suc k) n only rest is few less = refl
    joined-again (s.term a others) zero n only rest is few less = let h : 1 + (term_size a + terms_size others) ≤ 0 = few in absurd (omega (arith, h))
    joined-again (s.term a others) (suc k) n only rest is few less =
        let p = and_parts (term_is_spelled tables None a) (terms_are_spelled tables None others) is in
        let h : 1 + (term_size a + terms_size others) ≤ suc k = few in
        let later = others_joined tables others ++ (codes ")" ++ rest) in
        ap (joined_at (part_at n only) n (suc k)) (concat-onto (codes " || " ∷ term_text tables a ∷ others_joined tables others ∷ []) (codes ")" ++ rest))
        ∙ then_is _ a later (λ (x : Term × List ℕ). option_and_then (λ (y : Terms × List ℕ). Some (s.term x.0 y.0, y.1)) (joined_at (part_at n only) n k x.1))
        (term-is (part_at n only) n a _ later (plain n only a _ _ p.0 (term-again a None n only later p.0 (left-in (term_size a) (terms_size others) n less) (ends-joined others rest))))
        ∙ then_is _ others (codes ")" ++ rest) (λ (y : Terms × List ℕ). Some (s.term a y.0, y.1)) (joined-again others k n only rest p.1 (omega (arith, h)) (right-in (term_size a) (terms_size others) n less))

    test-starts : (c : Test) (n only : ℕ) (rest : List ℕ) → test_is_spelled tables c ≡ true → test_size c < n → Ends rest → Starts (part_at n only) n c (test_text tables c) rest
    test-starts (s.compare op a b) n only rest is few ends =
        let p = and_parts (term_is_spelled tables None a) (term_is_spelled tables None b) is in
        compare-starts (part_at n only) n op a b (term_text tables a) (term_text tables b) rest
        (plain n only a _ _ p.0 (term-again a None n only (cmp_text op ++ (term_text tables b ++ rest)) p.0 (left-in (term_size a) (term_size b) n few) (cmp-ends op (term_text tables b ++ rest))))
        (plain n only b _ _ p.1 (term-again b None n only rest p.1 (right-in (term_size a) (term_size b) n few) ends))
    test-starts (s.is_null a true) n only rest is few ends =
        null-starts (part_at n only) n a true (term_text tables a) rest (λ words ends. plain n only a _ _ is (term-again a None n only (codes " " ++ words) is (one-in (term_size a) n few) ends))
    test-starts (s.is_null a false) n only rest is few ends =
        null-starts (part_at n only) n a false (term_text tables a) rest (λ words ends. plain n only a _ _ is (term-again a None n only (codes " " ++ words) is (one-in (term_size a) n few) ends))
    test-starts (s.is_true c true) n only rest is few ends =
        let p = and_parts (is_unit c) (test_is_spelled tables c) is in
        true-starts (part_at n only) n c true (test_text tables c) rest p.0 (λ words. test-starts c n only (codes " IS " ++ words) p.1 (one-in (test_size c) n few) refl)
    test-starts (s.is_true c false) n only rest is few ends =
        let p = and_parts (is_unit c) (test_is_spelled tables c) is in
        true-starts (part_at n only) n c false (test_text tables c) rest p.0 (λ words. test-starts c n only (codes " IS " ++ words) p.1 (one-in (test_size c) n few) refl)
    test-starts (s.and c d) n only rest is few ends =
        let p = and_parts (is_chain c && is_unit d) (test_is_spelled tables c && test_is_spelled tables d) is in
        let shape = and_parts (is_chain c) (is_unit d) p.0 in
        let good = and_parts (test_is_spelled tables c) (test_is_spelled tables d) p.1 in
        let h : 1 + (test_size c + test_size d) < n = few in
        and-starts (part_at n only) n c d (test_text tables c) (test_text tables d) rest (omega (arith, h, few-ands c)) shape.0 shape.1
        (test-starts c n only (codes " AND " ++ (test_text tables d ++ rest)) good.0 (left-in (test_size c) (test_size d) n few) refl) (test-starts d n only rest good.1 (right-in (test_size c) (test_size d) n few) ends)
    test-starts (s.or c d) n only rest is few ends =
        let p = and_parts (is_unit c && is_unit d) (test_is_spelled tables c && test_is_spelled tables d) is in
        let shape = and_parts (is_unit c) (is_unit d) p.0 in
        let good = and_parts (test_is_spelled tables c) (test_is_spelled tables d) p.1 in
        or-starts (part_at n only) n c d (test_text tables c) (test_text tables d) rest shape.0 shape.1
        (test-starts c n only (codes " OR " ++ (test_text tables d ++ rest)) good.0 (left-in (test_size c) (test_size d) n few) refl) (test-starts d n only rest good.1 (right-in (test_size c) (test_size d) n few) ends)
    test-starts (s.not c) zero only rest is few ends = absurd (omega (arith, few))
    test-starts (s.not c) (suc n) only rest is few ends =
        let p = and_parts (is_unit c) (test_is_spelled tables c) is in
        part-starts (part_at (suc n) only) (suc n) (s.not c) (test_text tables (s.not c)) rest refl
        (enter n only (codes "NOT " ∷ test_text tables c ∷ []) rest ∙ by-not (part_at n only) n tables (query_at n) only (test_text tables c ++ rest)
        ∙ ap (option_map (λ (x : Test × List ℕ). (test (s.not x.0), x.1))) (unit-again (part_at n only) n c (test_text tables c) rest (test-starts c n only rest p.1 (one-few (test_size c) n few) ends) p.0))
    test-starts (s.exists query) zero only rest is few ends = absurd (omega (arith, few))
    test-starts (s.exists query) (suc n) only rest is few ends =
        part-starts (part_at (suc n) only) (suc n) (s.exists query) (test_text tables (s.exists query)) rest refl
        (enter n only (codes "EXISTS (" ∷ query_text tables query ∷ codes ")" ∷ []) rest ∙ by-exists (part_at n only) n tables (query_at n) only (query_text tables query ++ (codes ")" ++ rest))
        ∙ then_is _ query (codes ")" ++ rest) (λ (x : Query × List ℕ). with_rest (test (s.exists x.0)) (behind (codes ")") x.1)) (query-again query n (codes ")" ++ rest) is (one-few (query_size query) n few) (ends-bracket rest) refl))
    test-starts (s.bracket c) zero only rest is few ends = absurd (omega (arith, few))
    test-starts (s.bracket c) (suc n) only rest is few ends =
        part-starts (part_at (suc n) only) (suc n) (s.bracket c) (test_text tables (s.bracket c)) rest refl
        (enter n only (codes "(" ∷ test_text tables c ∷ codes ")" ∷ []) rest ∙ by-bracket (part_at n only) n tables (query_at n) only (test_text tables c ++ (codes ")" ++ rest))
        ∙ bracket-is (part_at n only) n c (test_text tables c) rest (test-starts c n only (codes ")" ++ rest) is (one-few (test_size c) n few) refl))

    others-again : (terms : Terms) (table : Option ℕ) (k m n only : ℕ) (rest : List ℕ) → terms_are_spelled tables table terms ≡ true → terms_size terms ≤ k → terms_size terms < n → EndsItem rest
        → others_at (part_at n only) n k m (others_named tables m terms ++ rest) ≡ Some (terms_under only terms, rest)
    others-again s.no_terms table zero m n only rest is few less ends = refl
    others-again s.no_terms table (suc k) m n only rest is few less ends = rw ends.comma refl
    others-again (s.term a others) table zero m n only rest is few less ends = let h : 1 + (term_size a + terms_size others) ≤ 0 = few in absurd (omega (arith, h))
    others-again (s.term a others) table (suc k) m n only rest is few less ends =
        let p = and_parts (term_is_spelled tables table a) (terms_are_spelled tables table others) is in
        let h : 1 + (term_size a + terms_size others) ≤ suc k = few in
        let later = others_named tables (suc m) others ++ rest in
        let onto_others : Term × List ℕ → Read Terms = λ (x : Term × List ℕ). if_there (behind (codes " AS c") x.1) (λ number. if_there (behind (decimal m) number) (λ after. option_and_then (λ (y : Terms × List ℕ). Some (s.term x.0 y.0, y.1)) (others_at (part_at n only) n k (suc m) after)) None) None in
        ap (others_at (part_at n only) n (suc k) m) (concat-onto (codes ", " ∷ term_text tables a ∷ codes " AS c" ∷ decimal m ∷ others_named tables (suc m) others ∷ []) rest)
        ∙ then_is _ (term_under only a) (codes " AS c" ++ (decimal m ++ later)) onto_others
        (term-is (part_at n only) n (term_under only a) _ (codes " AS c" ++ (decimal m ++ later)) (term-again a table n only (codes " AS c" ++ (decimal m ++ later)) p.0 (left-in (term_size a) (terms_size others) n less) refl))
        ∙ number-behind (decimal m) later (λ after. option_and_then (λ (y : Terms × List ℕ). Some (s.term (term_under only a) y.0, y.1)) (others_at (part_at n only) n k (suc m) after))
        ∙ then_is _ (terms_under only others) rest (λ (y : Terms × List ℕ). Some (s.term (term_under only a) y.0, y.1))
        (others-again others table k (suc m) n only rest p.1 (omega (arith, h)) (right-in (term_size a) (terms_size others) n less) ends)

    items-again : (items : Items) (table : Option ℕ) (n only : ℕ) (rest : List ℕ) → items_are_spelled tables table items ≡ true → items_size items < n → EndsItem rest
        → items_at (part_at n only) n (items_text tables items ++ rest) ≡ Some (items_under only items, rest)
    items-again s.all table zero only rest is few ends = absurd (omega (arith, few))
    items-again s.all table (suc n) only rest is few ends =
        then_is _ star rest (items_on (part_at (suc n) only) (suc n)) (part-suc n only (codes "*" ++ rest) ∙ by-star (part_at n only) n tables (query_at n) only rest)
    items-again (s.named s.no_terms) table n only rest is few ends = absurd (false≢true is)
    items-again (s.named (s.term a others)) table n only rest is few ends =
        let p = and_parts (term_is_spelled tables table a) (terms_are_spelled tables table others) is in
        let h : 1 + (term_size a + terms_size others) < n = few in
        let later = others_named tables 2 others ++ rest in
        ap (items_at (part_at n only) n) (concat-onto (term_text tables a ∷ codes " AS c" ∷ decimal 1 ∷ others_named tables 2 others ∷ []) rest)
        ∙ then_is _ (term (term_under only a)) (codes " AS c" ++ (decimal 1 ++ later)) (items_on (part_at n only) n)
        (term-again a table n only (codes " AS c" ++ (decimal 1 ++ later)) p.0 (left-in (term_size a) (terms_size others) n few) refl)
        ∙ number-behind (decimal 1) later (λ after. option_and_then (λ (y : Terms × List ℕ). Some (s.named (s.term (term_under only a) y.0), y.1)) (others_at (part_at n only) n n 2 after))
        ∙ then_is _ (terms_under only others) rest (λ (y : Terms × List ℕ). Some (s.named (s.term (term_under only a) y.0), y.1))
        (others-again others table n 2 n only rest p.1 (omega (arith, h)) (right-in (term_size a) (terms_size others) n few) ends)
    items-again (s.single a) table n only rest is few ends =
        then_is _ (term a) rest (items_on (part_at n only) n) (plain n only a _ _ is (term-again a None n only rest is few ends.ends)) ∙ rw ends.named refl

    where-again : (cond : Where) (n : ℕ) (rest : List ℕ) → where_is_spelled tables cond ≡ true → where_size cond < n → EndsBlock rest → where_at (part_at n 0) n (where_text tables cond ++ rest) ≡ Some (cond, rest)
    where-again s.everywhere n rest is few ends = rw ends.where_none refl
    where-again (s.passing c) n rest is few ends =
        ap (where_at (part_at n 0) n) (concat-onto (codes " WHERE " ∷ test_text tables c ∷ []) rest)
        ∙ ap (option_map (λ (x : Test × List ℕ). (s.passing x.0, x.1))) (test-is (part_at n 0) n c (test_text tables c) rest (test-starts c n 0 rest is few ends.from.item.ends) (ends.stops (part_at n 0) n))

    block-again : (block : Block) (n : ℕ) (rest : List ℕ) → block_is_spelled tables block ≡ true → block_size block < suc n → EndsBlock rest → block_at tables (part_at n) n (inner block rest) ≡ Some (block, rest)
    block-again (s.select items from cond) n rest is few ends =
        let p = and_parts (items_are_spelled tables (only_table from) items) _ is in
        let q = and_parts (list_all (λ (item : FromItem). source_is_spelled tables item.source) from) (where_is_spelled tables cond) p.1 in
        let h : 1 + (items_size items + (length from + where_size cond)) < suc n = few in
        let behind_from = where_text tables cond ++ rest in
        let behind_items = from_text tables from ++ behind_from in
        let ends_from = ends-where cond rest ends in
        let ends_items = ends-from from behind_from ends_from in
        block-is n items from cond (items_text tables items ++ behind_items) behind_items behind_from rest
        (λ only. items-again items (only_table from) n only behind_items p.0 (omega (arith, h)) ends_items)
        (from-again from n behind_from q.0 (omega (arith, h)) ends_from) (where-again cond n rest q.1 (omega (arith, h)) ends)
        (items-same (only_table from) (table_or_first (only_table from)) items (own-suits (only_table from)) p.0)

    pub query-again : (query : Query) (n : ℕ) (rest : List ℕ) → query_is_spelled tables query ≡ true → query_size query < n → EndsBlock rest → behind (codes " UNION ALL ") rest ≡ None
        → query_at n (query_text tables query ++ rest) ≡ Some (query, rest)
    query-again query zero rest is few ends none = absurd (omega (arith, few))
    query-again (s.block block) (suc n) rest is few ends none =
        let h : 1 + block_size block < suc n = few in
        block-alone n block rest (block-again block n rest is (omega (arith, h)) ends) none
    query-again (s.union_all block query) (suc n) rest is few ends none =
        let p = and_parts (block_is_spelled tables block) (query_is_spelled tables query) is in
        let h : 1 + (block_size block + query_size query) < suc n = few in
        let later = codes " UNION ALL " ++ (query_text tables query ++ rest) in
        block-union n block query rest (block-again block n later p.0 (omega (arith, h)) (ends-union (query_text tables query ++ rest))) (query-again query n rest p.1 (omega (arith, h)) ends none)
