-- A homomorphism of annotations commutes with answers and statements, exactly, as lists; written rows and limits do not depend on annotations.
use Rattle.std.proofs.Common.{◌≡◌, ℕ, suc, true, false, cond, List, [], ◌∷◌, ◌++◌, length, refl, sym, ap, ◌∙◌, map}
use Rattle.std.specs.Prelude.{◌==◌, nat_lt, not}
use Rattle.std.specs.List.{filter, list_any}
use Rattle.std.proofs.lemmas.List.{map-append, length-map}
use Rattle.gp_base.specs.declared.cell.Cell.{Cell}
use Rattle.gp_base.specs.declared.token.Token.TheVariants.{Inserted, Queried, Updated}
use Rattle.gp_base.specs.Identities.{identity, no_sources, nodes}
use Rattle.gp_base.specs.Annotated.{Annotations, Annotated, Database}
use Rattle.gp_expr.specs.Expressions.{Cond}
use Rattle.gp_expr.specs.Values.{passes}
use Rattle.gp_algebra.specs.Statements.{SetExpr, Branch, Select, Statement, insert, insert_select, update, delete, read}
use Rattle.gp_algebra.specs.Answers.{Element, passes_where, joined, choices, chosen, answer_from, answer}
use Rattle.gp_algebra.specs.Effects.{with_rows, assigned, given_from, made, changed, step, wrote, written_in, is_over_rows, is_over_nodes}
use Rattle.gp_algebra.specs.Reannotation.{IsHomomorphism, reannotated, element_reannotated}
use Rattle.gp_base.proofs.SmallLemmas.{any-map, filter-map, flat_map-map, flat_map_agree, map-flat_map, map-map, map_agree}

-- the second database is the first with other annotations
abbrev pub Reannotates : {M N : Type 0} → (M → N) → Database M → Database N → Type 0
Reannotates h a b = (table : ℕ) → b table ≡ map (reannotated h) (a table)

in_table : {M N : Type 0} (h : M → N) (table : ℕ) (xs : List (Annotated M)) (ys : List (Annotated N)) (a : Database M) (b : Database N) → ys ≡ map (reannotated h) xs → Reannotates h a b → Reannotates h (with_rows table xs a) (with_rows table ys b)
in_table h table xs ys a b s d other = elim (other == table) as (λ c. cond c ys (b other) ≡ map (reannotated h) (cond c xs (a other))) [ true ↦ s | false ↦ d other ]

-- what is written does not depend on annotations
written_reannotated : {M N : Type 0} (h : M → N) (table : ℕ) (rows : List (Annotated M)) → written_in table (map (reannotated h) rows) ≡ written_in table rows
written_reannotated h table rows = map-map _ (reannotated h) rows

module _ {M N : Type 0} (domain : Annotations M) (other : Annotations N) (h : M → N) (keeps : IsHomomorphism domain other h) where
  joined_reannotated : (number : ℕ) (row : Annotated M) (e : Element M) → joined other number (reannotated h row) (element_reannotated h e) ≡ element_reannotated h (joined domain number row e)
  joined_reannotated number row e = ap (λ m. record (element_reannotated h (joined domain number row e)) { annotation = m }) (sym (keeps.times row.annotation e.annotation))

  pub choices_reannotated : (number : ℕ) (tables : List ℕ) (a : Database M) (b : Database N) → Reannotates h a b → choices other number tables b ≡ map (element_reannotated h) (choices domain number tables a)
  choices_reannotated number [] a b r = ap (λ m. record { branch = number; sources = no_sources; cells = []; annotation = m } ∷ []) (sym keeps.one)
  choices_reannotated number (table ∷ tables) a b r =
      rw (
        r table,
        choices_reannotated number tables a b r,
        flat_map-map (λ row. map (joined other number row) (map (element_reannotated h) (choices domain number tables a))) (reannotated h) (a table),
        map-flat_map (element_reannotated h) (λ row. map (joined domain number row) (choices domain number tables a)) (a table),
      )
      (flat_map_agree _ _ (λ row. each row (choices domain number tables a)) (a table))
    where
      each : (row : Annotated M) (es : List (Element M)) → map (joined other number (reannotated h row)) (map (element_reannotated h) es) ≡ map (element_reannotated h) (map (joined domain number row) es)
      each row es = map-map (joined other number (reannotated h row)) (element_reannotated h) es ∙ map_agree _ _ (joined_reannotated number row) es ∙ sym (map-map (element_reannotated h) (joined domain number row) es)

  pub chosen_reannotated : (number : ℕ) (branch : Branch) (a : Database M) (b : Database N) → Reannotates h a b → chosen other number branch b ≡ map (element_reannotated h) (chosen domain number branch a)
  chosen_reannotated number branch a b r =
      rw (choices_reannotated number branch.from a b r, filter-map (λ (e : Element N). passes_where branch.cond e.cells) (element_reannotated h) (choices domain number branch.from a))
      (map-map _ _ (filter (λ (e : Element M). passes_where branch.cond e.cells) (choices domain number branch.from a)) ∙ sym (map-map (element_reannotated h) _ (filter (λ (e : Element M). passes_where branch.cond e.cells) (choices domain number branch.from a))))

  pub answer_from_reannotated : (number : ℕ) (select : Select) (a : Database M) (b : Database N) → Reannotates h a b → answer_from other number select b ≡ map (element_reannotated h) (answer_from domain number select a)
  answer_from_reannotated number [] a b r = refl
  answer_from_reannotated number (branch ∷ branches) a b r =
      rw (chosen_reannotated number branch a b r, answer_from_reannotated (suc number) branches a b r)
      (sym (map-append (element_reannotated h) (chosen domain number branch a) (answer_from domain (suc number) branches a)))

  pub answer_reannotated : (select : Select) (a : Database M) (b : Database N) → Reannotates h a b → answer other select b ≡ map (element_reannotated h) (answer domain select a)
  answer_reannotated select a b r = answer_from_reannotated 1 select a b r

  pub given_reannotated : (t k n : ℕ) (rows : List (List Cell)) → given_from other t k n rows ≡ map (reannotated h) (given_from domain t k n rows)
  given_reannotated t k n [] = refl
  given_reannotated t k n (cells ∷ rows) =
      ap (λ m. record { identity = identity t k n no_sources; cells = cells; mark = true; annotation = m } ∷ given_from other t k (suc n) rows) (sym (keeps.token (Inserted t k n)))
      ∙ ap (λ rest. record { identity = identity t k n no_sources; cells = cells; mark = true; annotation = h (domain.token (Inserted t k n)) } ∷ rest) (given_reannotated t k (suc n) rows)

  pub made_reannotated : (t k : ℕ) (e : Element M) → made other t k (element_reannotated h e) ≡ reannotated h (made domain t k e)
  made_reannotated t k e = ap (λ m. record { identity = identity t k e.branch e.sources; cells = e.cells; mark = true; annotation = m })
      (ap (λ m. other.times m (h e.annotation)) (sym (keeps.token (Queried t k))) ∙ sym (keeps.times (domain.token (Queried t k)) e.annotation))

  all_made : (t k : ℕ) (elements : List (Element M)) → map (made other t k) (map (element_reannotated h) elements) ≡ map (reannotated h) (map (made domain t k) elements)
  all_made t k elements = map-map (made other t k) (element_reannotated h) elements ∙ map_agree _ _ (made_reannotated t k) elements ∙ sym (map-map (reannotated h) (made domain t k) elements)

  pub changed_reannotated : (t k : ℕ) (sets : List SetExpr) (c : Cond) (row : Annotated M) → changed other t k sets c (reannotated h row) ≡ reannotated h (changed domain t k sets c row)
  changed_reannotated t k sets c row =
      elim (passes c row.cells) as (λ b. cond b (record { identity = row.identity; cells = assigned sets row.cells; mark = true; annotation = other.times (h row.annotation) (other.token (Updated t k)) }) (reannotated h row)
      ≡ reannotated h (cond b (record { identity = row.identity; cells = assigned sets row.cells; mark = true; annotation = domain.times row.annotation (domain.token (Updated t k)) }) row)) [
        | true ↦ ap (λ m. record { identity = row.identity; cells = assigned sets row.cells; mark = true; annotation = m })
            (ap (λ m. other.times (h row.annotation) m) (sym (keeps.token (Updated t k))) ∙ sym (keeps.times row.annotation (domain.token (Updated t k))))
        | false ↦ refl
      ]

  pub step_reannotated : (t k : ℕ) (statement : Statement) (a : Database M) (b : Database N) → Reannotates h a b → Reannotates h (step domain t k statement a) (step other t k statement b)
  step_reannotated t k (insert table rows) a b r = in_table h table _ _ a b (rw (r table, given_reannotated t k 1 rows) (sym (map-append (reannotated h) (a table) (given_from domain t k 1 rows)))) r
  step_reannotated t k (insert_select table select) a b r =
      in_table h table _ _ a b
      (rw (r table, answer_reannotated select a b r) (ap (λ rows. map (reannotated h) (a table) ++ rows) (all_made t k (answer domain select a)) ∙ sym (map-append (reannotated h) (a table) (map (made domain t k) (answer domain select a))))) r
  step_reannotated t k (update table sets c) a b r =
      in_table h table _ _ a b
      (rw (r table) (map-map (changed other t k sets c) (reannotated h) (a table) ∙ map_agree _ _ (changed_reannotated t k sets c) (a table) ∙ sym (map-map (reannotated h) (changed domain t k sets c) (a table)))) r
  step_reannotated t k (delete table c) a b r = in_table h table _ _ a b (rw (r table) (filter-map (λ row. not (passes c row.cells)) (reannotated h) (a table))) r
  step_reannotated t k (read select) a b r = r

  pub wrote_reannotated : (t k : ℕ) (statement : Statement) (a : Database M) (b : Database N) → Reannotates h a b → wrote other t k statement b ≡ wrote domain t k statement a
  wrote_reannotated t k (insert table rows) a b r = rw (given_reannotated t k 1 rows) (written_reannotated h table (given_from domain t k 1 rows))
  wrote_reannotated t k (insert_select table select) a b r =
      rw (answer_reannotated select a b r) (ap (written_in table) (all_made t k (answer domain select a)) ∙ written_reannotated h table (map (made domain t k) (answer domain select a)))
  wrote_reannotated t k (update table sets c) a b r = rw (r table, filter-map (λ row. passes c row.cells) (reannotated h) (a table)) (written_reannotated h table (filter (λ row. passes c row.cells) (a table)))
  wrote_reannotated t k (delete table c) a b r = rw (r table, filter-map (λ row. passes c row.cells) (reannotated h) (a table)) (written_reannotated h table (filter (λ row. passes c row.cells) (a table)))
  wrote_reannotated t k (read select) a b r = refl

  -- nor do the limits
  is_over_rows_from : (most t k : ℕ) (statement : Statement) (table : ℕ) (a : Database M) (b : Database N) → Reannotates h a b
      → nat_lt most (length (step other t k statement b table)) ≡ nat_lt most (length (step domain t k statement a table))
  is_over_rows_from most t k statement table a b r =
      ap (λ rows. nat_lt most (length rows)) (step_reannotated t k statement a b r table) ∙ ap (nat_lt most) (length-map (step domain t k statement a table) (reannotated h))

  pub is_over_rows_reannotated : (most t k : ℕ) (statement : Statement) (a : Database M) (b : Database N) → Reannotates h a b → is_over_rows other most t k statement b ≡ is_over_rows domain most t k statement a
  is_over_rows_reannotated most t k (insert table rows) a b r = is_over_rows_from most t k (insert table rows) table a b r
  is_over_rows_reannotated most t k (insert_select table select) a b r = is_over_rows_from most t k (insert_select table select) table a b r
  is_over_rows_reannotated most t k (update table sets c) a b r = refl
  is_over_rows_reannotated most t k (delete table c) a b r = refl
  is_over_rows_reannotated most t k (read select) a b r = refl

  pub is_over_nodes_reannotated : (most t k : ℕ) (statement : Statement) (a : Database M) (b : Database N) → Reannotates h a b → is_over_nodes other most t k statement b ≡ is_over_nodes domain most t k statement a
  is_over_nodes_reannotated most t k (insert table rows) a b r =
      ap (list_any (λ (row : Annotated N). nat_lt most (nodes row.identity))) (given_reannotated t k 1 rows) ∙ any-map (λ (row : Annotated N). nat_lt most (nodes row.identity)) (reannotated h) (given_from domain t k 1 rows)
  is_over_nodes_reannotated most t k (insert_select table select) a b r =
      ap (λ elements. list_any (λ (row : Annotated N). nat_lt most (nodes row.identity)) (map (made other t k) elements)) (answer_reannotated select a b r)
      ∙ ap (list_any (λ (row : Annotated N). nat_lt most (nodes row.identity))) (all_made t k (answer domain select a))
      ∙ any-map (λ (row : Annotated N). nat_lt most (nodes row.identity)) (reannotated h) (map (made domain t k) (answer domain select a))
  is_over_nodes_reannotated most t k (update table sets c) a b r = refl
  is_over_nodes_reannotated most t k (delete table c) a b r = refl
  is_over_nodes_reannotated most t k (read select) a b r = refl
