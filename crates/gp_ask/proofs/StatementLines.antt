-- What is told of a statement, by a dump or of a history, is what contracts and lemmas say by the rows that it changed.
use Rattle.std.proofs.Common.{◌≡◌, ◌-◌, ℕ, suc, true, false, cond, List, [], ◌∷◌, map, Option, Some, None, refl, sym, ap, ◌∙◌}
use Rattle.std.specs.Prelude.{filter}
use Rattle.std.specs.Option.{option_map_or}
use Rattle.std.specs.Ordering.{is_le}
use Rattle.std.specs.declared.cmp.Ordering.{Ordering}
use Rattle.gp_base.specs.declared.refusal.Refusal.{Refusal}
use Rattle.gp_base.specs.declared.table.Table.{Table}
use Rattle.gp_base.specs.Annotated.{Annotated, Annotations, Database, unannotated}
use Rattle.gp_base.specs.Identities.{identity_cmp}
use Rattle.gp_base.specs.Order.{insert_sorted, sorted_by}
use Rattle.gp_base.proofs.SmallLemmas.{map-map}
use Rattle.gp_expr.specs.Values.{passes}
use Rattle.gp_algebra.specs.Statements.{Statement, insert, insert_select, update, delete, read, target}
use Rattle.gp_compose.specs.Seen.{changed_rows, changes_refusal}
use Rattle.gp_dump.specs.Dumps.{Dump}
use Rattle.gp_log.specs.LogFacts.{tables_in}
use Rattle.gp_machine.specs.Entries.{Entry, statement_at}
use Rattle.gp_machine.specs.Event.{name_at}
use Rattle.gp_machine.specs.Questions.{given}
use Rattle.gp_ask.specs.declared.answered.Answered.TheVariants.{Lines}
use Rattle.gp_ask.specs.declared.answered.Heading.TheVariants.{Changes}
use Rattle.gp_ask.specs.ChangeForms.{after_of, before_of, by_identity, changed_texts, changes_of, changes_over, changes_to, changes_told, dump_changes, if_any, run_starts, run_stops}
use Rattle.gp_ask.specs.Changes.{Change, change_text, change_texts, changed_by, statement_changes}
use Rattle.gp_ask.specs.Values.{or_refused, unless_refused}

-- ---- the rows that a statement changed

module _ {M : Type 0} where
  all-kept : (rows : List (Annotated M)) → filter (λ (row : Annotated M). true) rows ≡ rows
  all-kept [] = refl
  all-kept (row ∷ rows) = ap (λ (rest : List (Annotated M)). row ∷ rest) (all-kept rows)

  -- a row that a statement changed, with its sides
  abbrev pub shown : Statement → Annotated M → Change
  shown statement row = (row.identity, (before_of statement row.cells, after_of statement row.cells))

  pub changed-is : (domain : Annotations M) (t k : ℕ) (statement : Statement) (db : Database M) → changed_by domain t k statement db ≡ map (shown statement) (changed_rows domain t k statement db)
  changed-is domain t k (insert table rows) db = refl
  changed-is domain t k (insert_select table select) db = refl
  changed-is domain t k (update table sets cond) db = ap (map (shown (update table sets cond))) (sym (all-kept (filter (λ (row : Annotated M). passes cond row.cells) (db table))))
  changed-is domain t k (delete table cond) db = ap (map (shown (delete table cond))) (sym (all-kept (filter (λ (row : Annotated M). passes cond row.cells) (db table))))
  changed-is domain t k (read select) db = refl

-- ---- their lines

abbrev by_change : Change → Change → Ordering
by_change change other = identity_cmp change.0 other.0

module _ {M : Type 0} (statement : Statement) where
  inserted-shown : (row : Annotated M) (rows : List (Annotated M)) → insert_sorted by_change (shown statement row) (map (shown statement) rows) ≡ map (shown statement) (insert_sorted by_identity row rows)
  inserted-shown row [] = refl
  inserted-shown row (other ∷ rows) =
      elim (is_le (by_identity row other)) as (λ b. cond b (shown statement row ∷ shown statement other ∷ map (shown statement) rows) (shown statement other ∷ insert_sorted by_change (shown statement row) (map (shown statement) rows))
      ≡ map (shown statement) (cond b (row ∷ other ∷ rows) (other ∷ insert_sorted by_identity row rows))) [
        | true ↦ refl
        | false ↦ ap (λ (changes : List Change). shown statement other ∷ changes) (inserted-shown row rows)
      ]

  sorted-shown : (rows : List (Annotated M)) → sorted_by by_change (map (shown statement) rows) ≡ map (shown statement) (sorted_by by_identity rows)
  sorted-shown [] = refl
  sorted-shown (row ∷ rows) = ap (insert_sorted by_change (shown statement row)) (sorted-shown rows) ∙ inserted-shown row (sorted_by by_identity rows)

  texts-are : (name : List ℕ) (rows : List (Annotated M)) → change_texts name (map (shown statement) rows) ≡ changed_texts name statement rows
  texts-are name rows =
      ap (map (λ (change : Change). change_text name change.0 change.1.0 change.1.1)) (sorted-shown rows)
      ∙ map-map (λ (change : Change). change_text name change.0 change.1.0 change.1.1) (shown statement) (sorted_by by_identity rows)

  answer-is : (tables : List Table) (place : Option ℕ) (refusal : Option Refusal) (rows : List (Annotated M))
      → option_map_or (λ (own : ℕ). or_refused (λ (changes : List Change). Lines Changes (change_texts (name_at own tables) changes)) (given refusal (map (shown statement) rows))) place (Lines Changes [])
      ≡ changes_of tables place statement (given refusal rows)
  answer-is tables None refusal rows = refl
  answer-is tables (Some place) None rows = ap (Lines Changes) (texts-are (name_at place tables) rows)
  answer-is tables (Some place) (Some refusal) rows = refl

-- ---- a statement, over what its transaction read

module _ {M : Type 0} (domain : Annotations M) (entries : List Entry) (tables : List Table) (before : ℕ → ℕ → Database M) (stop : ℕ → ℕ → Option Refusal) where
  pub changes-are : (t k : ℕ) (statement : Statement) → statement_changes domain entries tables before stop t k statement
      ≡ changes_of tables (target statement) statement (given (stop t (suc k)) (changed_rows domain t (suc k) statement (before t k)))
  changes-are t k statement =
      ap (λ (own : List Change). option_map_or (λ (place : ℕ). or_refused (λ (changes : List Change). Lines Changes (change_texts (name_at place tables) changes)) (given (stop t (suc k)) own)) (target statement) (Lines Changes []))
      (changed-is domain t (suc k) statement (before t k))
      ∙ answer-is statement tables (target statement) (stop t (suc k)) (changed_rows domain t (suc k) statement (before t k))

-- ---- a statement of a dump

if-any-are : (dump : Dump) (t k : ℕ) (found : Option Statement) → option_map_or (changes_over dump t k) found (Lines Changes []) ≡ if_any (dump_changes dump t k) found
if-any-are dump t k None = refl
if-any-are dump t k (Some statement) = changes-are unannotated dump.entries (tables_in dump.entries) (run_starts dump) (run_stops dump) t k statement

pub changes-told : (dump : Dump) (t k : ℕ) → unless_refused (changes_refusal t k dump.entries) (changes_told dump t k) ≡ changes_to dump t k
changes-told dump t k = ap (unless_refused (changes_refusal t k dump.entries)) (if-any-are dump t (k - 1) (statement_at t k dump.entries))
