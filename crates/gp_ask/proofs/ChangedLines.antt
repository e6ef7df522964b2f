-- The lines of what a statement changed: where no identity occurs twice, they depend neither on the order of the rows nor on their annotations.
use Rattle.std.proofs.Common.{◌≡◌, ℕ, Bool, true, false, cond, List, [], ◌∷◌, map, refl, sym, ap, ◌∙◌}
use Rattle.std.specs.Prelude.{◌||◌}
use Rattle.std.specs.List.{filter, flat_map, list_any}
use Rattle.std.specs.Ordering.{is_eq, is_le, ordering_then}
use Rattle.std.specs.declared.cmp.Ordering.{Ordering}
use Rattle.std.specs.declared.cmp.Ordering.TheVariants.{Less, Equal, Greater}
use Rattle.std.proofs.lemmas.Bool.{false≢true, or_parts}
use Rattle.gp_base.proofs.Bags.{SameBag, any_same, filtered, first, mapped, none, same_from, swapped, through}
use Rattle.gp_base.proofs.IdentityLaws.{same_identity-is}
use Rattle.gp_base.proofs.Permutations as permutations
use Rattle.gp_base.proofs.SmallLemmas.{filter-map, map-map}
use Rattle.gp_base.specs.declared.cell.Cell.{Cell}
use Rattle.gp_base.specs.declared.cell.Cell.TheVariants as cell
use Rattle.gp_base.specs.Annotated.{Annotated, Annotations, Database}
use Rattle.gp_base.specs.Identities.{Identity, identity_cmp, same_identity}
use Rattle.gp_base.specs.IdentityOrder.{identity_cmp-exact}
use Rattle.gp_base.specs.Order.{insert_sorted, row_cmp, sorted_by}
use Rattle.gp_base.specs.Tokens.{Monomial}
use Rattle.gp_expr.specs.Values.{passes}
use Rattle.gp_algebra.proofs.Erasure.{Reannotates, step_reannotated}
use Rattle.gp_algebra.proofs.StepBags.{SameTables, step_same}
use Rattle.gp_algebra.specs.Effects.{step}
use Rattle.gp_algebra.specs.Reannotation.{IsHomomorphism, forgotten, reannotated}
use Rattle.gp_algebra.specs.Statements.{Statement, delete, insert, insert_select, read, update}
use Rattle.gp_compose.specs.Seen.{changed_rows, is_changed_by, looked_at}
use Rattle.gp_machine.proofs.Distinct.{differ_filter, differ_map}
use Rattle.gp_machine.proofs.Made.{same_equal}
use Rattle.gp_machine.specs.SeenRows.{HaveDifferentIdentities, same_row}
use Rattle.gp_ask.specs.ChangeForms.{by_identity, changed_text, changed_texts}
use Rattle.gp_ask.specs.Keyed.{keyed_lines}
use Rattle.gp_ask.proofs.SpanLemmas.{permuted}
use Rattle.gp_serial.proofs.RunningLemmas.{sorted_same}

-- ---- different identities

turned-by : (id other : Identity) (b c : Bool) → same_identity id other ≡ b → same_identity other id ≡ c → b ≡ c
turned-by id other true true is too = refl
turned-by id other false false is too = refl
turned-by id other true false is too =
    absurd (false≢true (sym too ∙ ap (λ (own : Identity). same_identity own id) (sym (same_equal id other is)) ∙ ap (same_identity id) (same_equal id other is) ∙ is))
turned-by id other false true is too =
    absurd (false≢true (sym is ∙ ap (λ (own : Identity). same_identity own other) (sym (same_equal other id too)) ∙ ap (same_identity other) (same_equal other id too) ∙ too))

module _ {M : Type 0} where
  pub turned-rows : (row other : Annotated M) → same_row row other ≡ same_row other row
  turned-rows row other = turned-by row.identity other.identity (same_row row other) (same_row other row) refl refl

  abbrev any-like : Annotated M → List (Annotated M) → Bool
  any-like row rows = list_any (λ other. same_row other row) rows

  different-moved : {rows others : List (Annotated M)} → SameBag rows others → HaveDifferentIdentities others → HaveDifferentIdentities rows
  different-moved none different = tt
  different-moved (first {x = row} moved) different = (any_same (λ other. same_row other row) moved ∙ different.0, different-moved moved different.1)
  different-moved (swapped {x = row} {y = other} {xs = rows}) different =
      let parts = or_parts (same_row row other) (any-like other rows) different.0 in
      (ap (λ b. b || any-like row rows) (turned-rows other row ∙ parts.0) ∙ different.1.0, (parts.1, different.1.1))
  different-moved (through moved again) different = different-moved moved (different-moved again different)

-- ---- rows behind their identities, in row order

module _ {M : Type 0} where
  abbrev by-identity : Annotated M → List Cell
  by-identity row = cell.Id row.identity ∷ cell.Null ∷ row.cells

  compared-by : (row other : Annotated M) → same_row other row ≡ false → (o : Ordering) → identity_cmp row.identity other.identity ≡ o → is_le (ordering_then o (row_cmp row.cells other.cells)) ≡ is_le o
  compared-by row other differ Less is = refl
  compared-by row other differ Greater is = refl
  compared-by row other differ Equal is =
      let same : row.identity ≡ other.identity = identity_cmp-exact row.identity other.identity is in
      absurd (false≢true (sym differ ∙ ap (same_identity other.identity) same ∙ same_identity-is other.identity other.identity ∙ ap is_eq (ap (λ (own : Identity). identity_cmp own other.identity) (sym same) ∙ is)))

  compared : (row other : Annotated M) → same_row other row ≡ false → is_le (row_cmp (by-identity row) (by-identity other)) ≡ is_le (by_identity row other)
  compared row other differ = compared-by row other differ (identity_cmp row.identity other.identity) refl

  inserted : (row : Annotated M) (rows : List (Annotated M)) → list_any (λ other. same_row other row) rows ≡ false
      → map by-identity (insert_sorted by_identity row rows) ≡ insert_sorted row_cmp (by-identity row) (map by-identity rows)
  inserted row [] differ = refl
  inserted row (other ∷ rows) differ =
      let parts = or_parts (same_row other row) (list_any (λ another. same_row another row) rows) differ in
      (elim (is_le (by_identity row other)) as (λ b. map by-identity (cond b (row ∷ other ∷ rows) (other ∷ insert_sorted by_identity row rows))
      ≡ cond b (by-identity row ∷ by-identity other ∷ map by-identity rows) (by-identity other ∷ insert_sorted row_cmp (by-identity row) (map by-identity rows))) [
        | true ↦ refl
        | false ↦ ap (λ (keys : List (List Cell)). by-identity other ∷ keys) (inserted row rows parts.1)
      ])
      ∙ ap (λ b. cond b (by-identity row ∷ by-identity other ∷ map by-identity rows) (by-identity other ∷ insert_sorted row_cmp (by-identity row) (map by-identity rows))) (sym (compared row other parts.0))

  sorted : (rows : List (Annotated M)) → HaveDifferentIdentities rows → map by-identity (sorted_by by_identity rows) ≡ sorted_by row_cmp (map by-identity rows)
  sorted [] different = refl
  sorted (row ∷ rows) different =
      inserted row (sorted_by by_identity rows)
      (sym (any_same (λ other. same_row other row) (permutations.unpermuted rows (sorted_by by_identity rows) (permuted by_identity rows))) ∙ different.0)
      ∙ ap (insert_sorted row_cmp (by-identity row)) (sorted rows different.1)

  lines : (name : List ℕ) (statement : Statement) (rows : List (Annotated M)) → flat_map (keyed_lines name statement) (map by-identity rows) ≡ map (changed_text name statement) rows
  lines name statement [] = refl
  lines name statement (row ∷ rows) = ap (λ (texts : List (List ℕ)). changed_text name statement row ∷ texts) (lines name statement rows)

  by-rows : (name : List ℕ) (statement : Statement) (rows : List (Annotated M)) → HaveDifferentIdentities rows
      → changed_texts name statement rows ≡ flat_map (keyed_lines name statement) (sorted_by row_cmp (map by-identity rows))
  by-rows name statement rows different = sym (lines name statement (sorted_by by_identity rows)) ∙ ap (flat_map (keyed_lines name statement)) (sorted rows different)

pub texts-same : (name : List ℕ) (statement : Statement) (rows : List (Annotated (Unit {0}))) (own : List (Annotated Monomial)) → SameBag rows (map (reannotated forgotten) own) → HaveDifferentIdentities own
    → changed_texts name statement rows ≡ changed_texts name statement own
texts-same name statement rows own moved different =
    by-rows name statement rows (different-moved moved (differ_map same_row same_row (reannotated forgotten) (λ row other. refl) own different))
    ∙ ap (flat_map (keyed_lines name statement))
    (sorted_same (map by-identity rows) (map by-identity own) (permutations.permuted _ _ (through (mapped by-identity moved) (same_from _ _ (map-map by-identity (reannotated forgotten) own)))))
    ∙ sym (by-rows name statement own different)

-- ---- the rows that a statement changed

module _ {M : Type 0} (domain : Annotations M) (t k : ℕ) where
  looked-same : (statement : Statement) (db other : Database M) → SameTables db other → SameBag (looked_at domain t k statement db) (looked_at domain t k statement other)
  looked-same (insert table rows) db other same = step_same domain t k (insert table rows) db other same table
  looked-same (insert_select table select) db other same = step_same domain t k (insert_select table select) db other same table
  looked-same (update table sets c) db other same = filtered (λ row. passes c row.cells) (same table)
  looked-same (delete table c) db other same = filtered (λ row. passes c row.cells) (same table)
  looked-same (read select) db other same = none

  pub changed-same : (statement : Statement) (db other : Database M) → SameTables db other → SameBag (changed_rows domain t k statement db) (changed_rows domain t k statement other)
  changed-same statement db other same = filtered (λ row. is_changed_by t k statement row.identity) (looked-same statement db other same)

  looked-different : (statement : Statement) (db : Database M) → ((table : ℕ) → HaveDifferentIdentities (db table)) → ((table : ℕ) → HaveDifferentIdentities (step domain t k statement db table))
      → HaveDifferentIdentities (looked_at domain t k statement db)
  looked-different (insert table rows) db before after = after table
  looked-different (insert_select table select) db before after = after table
  looked-different (update table sets c) db before after = differ_filter same_row (λ row. passes c row.cells) (db table) (before table)
  looked-different (delete table c) db before after = differ_filter same_row (λ row. passes c row.cells) (db table) (before table)
  looked-different (read select) db before after = tt

  pub changed-different : (statement : Statement) (db : Database M) → ((table : ℕ) → HaveDifferentIdentities (db table)) → ((table : ℕ) → HaveDifferentIdentities (step domain t k statement db table))
      → HaveDifferentIdentities (changed_rows domain t k statement db)
  changed-different statement db before after =
      differ_filter same_row (λ row. is_changed_by t k statement row.identity) (looked_at domain t k statement db) (looked-different statement db before after)

module _ {M N : Type 0} (domain : Annotations M) (other : Annotations N) (h : M → N) (keeps : IsHomomorphism domain other h) (t k : ℕ) (db : Database M) (db' : Database N) (same : Reannotates h db db') where
  looked-reannotated : (statement : Statement) → looked_at other t k statement db' ≡ map (reannotated h) (looked_at domain t k statement db)
  looked-reannotated (insert table rows) = step_reannotated domain other h keeps t k (insert table rows) db db' same table
  looked-reannotated (insert_select table select) = step_reannotated domain other h keeps t k (insert_select table select) db db' same table
  looked-reannotated (update table sets c) = ap (filter (λ row. passes c row.cells)) (same table) ∙ filter-map (λ row. passes c row.cells) (reannotated h) (db table)
  looked-reannotated (delete table c) = ap (filter (λ row. passes c row.cells)) (same table) ∙ filter-map (λ row. passes c row.cells) (reannotated h) (db table)
  looked-reannotated (read select) = refl

  pub changed-reannotated : (statement : Statement) → changed_rows other t k statement db' ≡ map (reannotated h) (changed_rows domain t k statement db)
  changed-reannotated statement =
      ap (filter (λ (row : Annotated N). is_changed_by t k statement row.identity)) (looked-reannotated statement)
      ∙ filter-map (λ row. is_changed_by t k statement row.identity) (reannotated h) (looked_at domain t k statement db)
