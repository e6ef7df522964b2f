-- What fits some tables fits them with more behind.
use Rattle.std.proofs.Common.{◌≡◌, ◌<◌, ℕ, zero, suc, Bool, true, List, [], ◌∷◌, ◌++◌, length, Option, refl, sym, ap, subst, arith, length-append}
use Rattle.std.proofs.lemmas.Bool.{and_from, and_parts, lt-ltb, ltb-true}
use Rattle.std.specs.List.{list_all}
use Rattle.std.specs.Option.{option_map_or}
use Rattle.std.specs.Prelude.{◌&&◌, ◌==◌, nat_lt, slice_get}
use Rattle.gp_base.specs.declared.table.Table.{Table}
use Rattle.gp_algebra.specs.Fitting.{branch_fits, branches_fit, cond_fits, expr_fits, is_countable, is_there, joined_width, optional_cond_fits, row_fits, select_width, set_fits, statement_fits}
use Rattle.gp_algebra.specs.Statements.{Branch, Select, Statement, delete, insert, insert_select, read, update, width_of}

get_before : {X : Type 0} (xs others : List X) (place : ℕ) → place < length xs → slice_get (xs ++ others) place ≡ slice_get xs place
get_before [] others place less = absurd (omega (arith, less))
get_before (x ∷ xs) others zero less = refl
get_before (x ∷ xs) others (suc place) less = get_before xs others place (omega (arith, less))

module _ (tables others : List Table) where
  there : (place : ℕ) → is_there tables place ≡ true → is_there (tables ++ others) place ≡ true
  there place is =
      let less : place < length tables = ltb-true place (length tables) is in
      let more = length-append tables others in
      lt-ltb place (length (tables ++ others)) (omega (arith, less, more))

  all_there : (places : List ℕ) → list_all (is_there tables) places ≡ true → list_all (is_there (tables ++ others)) places ≡ true
  all_there [] all = refl
  all_there (place ∷ places) all =
      let are = and_parts (is_there tables place) _ all in and_from _ _ (there place are.0) (all_there places are.1)

  width_same : (place : ℕ) → is_there tables place ≡ true → width_of (tables ++ others) place ≡ width_of tables place
  width_same place is =
      ap (λ (found : Option Table). option_map_or (λ (table : Table). length table.cols) found 0)
      (get_before tables others place (ltb-true place (length tables) is))

  joined_same : (places : List ℕ) → list_all (is_there tables) places ≡ true → joined_width (tables ++ others) places ≡ joined_width tables places
  joined_same [] all = refl
  joined_same (place ∷ places) all =
      let are = and_parts (is_there tables place) _ all in rw (width_same place are.0, joined_same places are.1) refl

  branch_more : (width : ℕ) (branch : Branch) → branch_fits tables width branch ≡ true → branch_fits (tables ++ others) width branch ≡ true
  branch_more width branch fit =
      let from = and_parts (nat_lt 0 (length branch.from)) _ fit in
      let known = and_parts (list_all (is_there tables) branch.from) _ from.1 in
      let some = and_parts (nat_lt 0 (length branch.items)) _ known.1 in
      let same = and_parts (length branch.items == width) _ some.1 in
      and_from _ _ from.0 (and_from _ _ (all_there branch.from known.0) (and_from _ _ some.0 (and_from _ _ same.0
      (subst (λ n. list_all (expr_fits n) branch.items && optional_cond_fits n branch.cond ≡ true) (sym (joined_same branch.from known.0)) same.1))))

  all_branches : (width : ℕ) (select : Select) → list_all (branch_fits tables width) select ≡ true → list_all (branch_fits (tables ++ others) width) select ≡ true
  all_branches width [] all = refl
  all_branches width (branch ∷ select) all =
      let are = and_parts (branch_fits tables width branch) _ all in and_from _ _ (branch_more width branch are.0) (all_branches width select are.1)

  branches_more : (width : ℕ) (select : Select) → branches_fit tables width select ≡ true → branches_fit (tables ++ others) width select ≡ true
  branches_more width select fit = let are = and_parts (is_countable select) _ fit in and_from _ _ are.0 (all_branches width select are.1)

  -- a fact of a table that is there, and of its width
  at_width : (table : ℕ) (test : ℕ → Bool) → is_there tables table && test (width_of tables table) ≡ true
      → is_there (tables ++ others) table && test (width_of (tables ++ others) table) ≡ true
  at_width table test fit =
      let are = and_parts (is_there tables table) _ fit in
      and_from _ _ (there table are.0) (subst (λ n. test n ≡ true) (sym (width_same table are.0)) are.1)

  pub statement_more : (statement : Statement) → statement_fits tables statement ≡ true → statement_fits (tables ++ others) statement ≡ true
  statement_more (insert table rows) fit = at_width table (λ n. is_countable rows && list_all (row_fits n) rows) fit
  statement_more (insert_select table select) fit =
      let are = and_parts (is_there tables table) _ fit in
      and_from _ _ (there table are.0)
      (subst (λ n. branches_fit (tables ++ others) n select ≡ true) (sym (width_same table are.0)) (branches_more (width_of tables table) select are.1))
  statement_more (update table sets c) fit = at_width table (λ n. list_all (set_fits n) sets && cond_fits n c) fit
  statement_more (delete table c) fit = at_width table (λ n. cond_fits n c) fit
  statement_more (read select) fit = branches_more (select_width select) select fit
