-- The lines of what a statement changed: rows that are sorted by their identities and then by their places are in the order of their identities, and of the
-- table where they have one identity.
use Rattle.std.proofs.Common.{◌≡◌, ℕ, suc, ◌+◌, ◌-◌, ◌<◌, ◌≤◌, pos, ◌<ℤ◌, Bool, true, false, cond, List, [], ◌∷◌, ◌++◌, drop, get_or, length, map, take, Option, Some, None, Result, Ok, Err, refl, sym, ap, ◌∙◌, subst, arith}
use Rattle.std.specs.List.{filter, flat_map, slice_get}
use Rattle.std.specs.Ordering.{MatchOrdering, int_cmp, is_le, ordering_then}
use Rattle.std.specs.declared.cmp.Ordering.{Ordering}
use Rattle.std.specs.declared.cmp.Ordering.TheVariants.{Less, Equal, Greater}
use Rattle.std.specs.Prelude.{◌&&◌, nat_le, nat_lt, not}
use Rattle.std.specs.Option.{is_none}
use Rattle.std.proofs.lemmas.Bool.{and_parts, leb-true, ltb-true}
use Rattle.std.proofs.lemmas.Cmp.{int_ranked}
use Rattle.std.proofs.lemmas.Int.{ints}
use Rattle.std.proofs.lemmas.List.{drop_more, length-append}
use Rattle.std.proofs.lemmas.Option.{get_or_from_slice_get, none-some, slice_get_within}
use Rattle.gp_base.proofs.SmallLemmas.{all_weaker, none_parts, some_none}
use Rattle.gp_base.specs.declared.refusal.Refusal.{Refusal}
use Rattle.gp_base.specs.declared.refusal.Refusal.TheVariants.{E20, E21, E22}
use Rattle.gp_base.specs.declared.table.Table.{Table}
use Rattle.gp_base.specs.declared.cell.Cell.{Cell}
use Rattle.gp_base.specs.declared.cell.Cell.TheVariants as cell
use Rattle.gp_base.specs.Annotated.{Annotated, unannotated}
use Rattle.gp_base.specs.Identities.{identity_cmp}
use Rattle.gp_base.specs.Order.{insert_sorted, row_cmp, sorted_by}
use Rattle.gp_expr.specs.ExpressionForms.{is_simple}
use Rattle.gp_algebra.specs.Fitting.{is_column, is_there, set_fits, statement_fits}
use Rattle.gp_algebra.specs.Statements.{SetExpr, Statement, delete, insert, insert_select, read, target, update, width_of}
use Rattle.gp_txn.specs.Changes.{set_is_simple}
use Rattle.gp_compose.specs.Seen.{changed_rows, changes_refusal, is_changed_by, unknown_refusal, writes}
use Rattle.gp_dump.specs.Dumps.{Dump}
use Rattle.gp_log.specs.LogFacts.{tables_in}
use Rattle.gp_log.specs.Parameters.{parameters}
use Rattle.gp_machine.specs.Entries.{Entry, fate_of, log_of, statement_at, statement_count, version_of}
use Rattle.gp_machine.specs.Event.{name_at}
use Rattle.gp_machine.specs.HistorySpans.{as_of}
use Rattle.gp_machine.specs.Questions.{given, is_known, statement_refusal, transaction_refusal}
use Rattle.gp_machine.specs.Runs.{run_before}
use Rattle.gp_reenact.specs.Looking.{looked_refusal}
use Rattle.gp_reenact.specs.LookingForms.{Looks, looked_answer, looked_rows, system_row}
use Rattle.gp_base.specs.declared.stop.Stop.TheVariants as stop
use Rattle.gp_versions.specs.declared.span.Span.{Span}
use Rattle.gp_versions.specs.Spans.{Versions}
use Rattle.gp_dump.specs.Views.{tables_view}
use Rattle.gp_ask.specs.declared.answered.Answered.TheVariants.{Lines, Refused}
use Rattle.gp_ask.specs.declared.answered.Heading.TheVariants.{Changes}
use Rattle.gp_ask.specs.ChangeForms.{by_identity, changed_text, changed_texts, changes_of, changes_to, commit_changes_to, dump_changes, if_any, spans_texts, table_changes, tables_texts, version_changes}
use Rattle.gp_ask.specs.Values.{unless_refused}
use Rattle.gp_ask.specs.Asking.{table_spans}
use Rattle.gp_ask.specs.Keyed.{as_identity, cells_of, identity_of, keyed_from, keyed_if, keyed_lines, sets_are_simple, shown_texts}

-- ---- rows with their identities and their marks behind their cells

at_end : (cells : List Cell) (x : Cell) (ys : List Cell) → slice_get (cells ++ x ∷ ys) (length cells) ≡ Some x
at_end [] x ys = refl
at_end (c ∷ cells) x ys = at_end cells x ys

taken : (cells ys : List Cell) → take (length cells) (cells ++ ys) ≡ cells
taken [] ys = refl
taken (c ∷ cells) ys = ap (λ (own : List Cell). c ∷ own) (taken cells ys)

before_both : (cells : List Cell) (x z : Cell) → length (cells ++ x ∷ z ∷ []) - 2 ≡ length cells
before_both cells x z = omega (arith, length-append cells (x ∷ z ∷ []))

pub identity_found : (row : Annotated (Unit {0})) → identity_of (system_row row) ≡ Some row.identity
identity_found row =
    ap (λ n. as_identity (slice_get (system_row row) n)) (before_both row.cells (cell.Id row.identity) (cell.Mark row.mark))
    ∙ ap as_identity (at_end row.cells (cell.Id row.identity) (cell.Mark row.mark ∷ []))

pub cells_found : (row : Annotated (Unit {0})) → cells_of (system_row row) ≡ row.cells
cells_found row =
    ap (λ n. take n (system_row row)) (before_both row.cells (cell.Id row.identity) (cell.Mark row.mark))
    ∙ taken row.cells (cell.Id row.identity ∷ cell.Mark row.mark ∷ [])

-- ---- keys

ranked : (p q : ℕ) → p < q → (o : Ordering) → MatchOrdering o (pos p <ℤ pos q) (pos p ≡ pos q) (pos q <ℤ pos p) → o ≡ Less
ranked p q less Less is = refl
ranked p q less Equal is = let same : p ≡ q = cc in absurd (omega arith)
ranked p q less Greater is = absurd (omega (arith, ints))

pub rises : (p q : ℕ) → p < q → int_cmp (pos p) (pos q) ≡ Less
rises p q less = ranked p q less (int_cmp (pos p) (pos q)) (int_ranked (pos p) (pos q) (int_cmp (pos p) (pos q)) refl)

-- of two rows with places that rise, the keys compare as the identities do
compared-by : (p q : ℕ) (cells others : List Cell) (o : Ordering) → int_cmp (pos p) (pos q) ≡ Less → is_le (ordering_then o (ordering_then (int_cmp (pos p) (pos q)) (row_cmp cells others))) ≡ is_le o
compared-by p q cells others Less e = refl
compared-by p q cells others Equal e = ap (λ own. is_le (ordering_then own (row_cmp cells others))) e
compared-by p q cells others Greater e = refl

module _ {M : Type 0} where
  abbrev key : ℕ → Annotated M → List Cell
  key place row = cell.Id row.identity ∷ cell.Int (pos place) ∷ row.cells

  -- each key is that of the row beside it, with a place of this number at least
  abbrev AreKeys : ℕ → List (List Cell) → List (Annotated M) → Type 0
  AreKeys low [] [] = Unit {0}
  AreKeys low [] (row ∷ rows) = ⊥
  AreKeys low (own ∷ keys) [] = ⊥
  AreKeys low (own ∷ keys) (row ∷ rows) = ((place : ℕ) × ((low ≤ place) × (own ≡ key place row))) × AreKeys low keys rows

  weaker : (low high : ℕ) (keys : List (List Cell)) (rows : List (Annotated M)) → low ≤ high → AreKeys high keys rows → AreKeys low keys rows
  weaker low high [] [] within are = tt
  weaker low high [] (row ∷ rows) within are = absurd are
  weaker low high (own ∷ keys) [] within are = absurd are
  weaker low high (own ∷ keys) (row ∷ rows) within ((place, (above, is)), rest) = ((place, (omega arith, is)), weaker low high keys rows within rest)

  compared : (p q : ℕ) (row other : Annotated M) → p < q → is_le (row_cmp (key p row) (key q other)) ≡ is_le (identity_cmp row.identity other.identity)
  compared p q row other less = compared-by p q row.cells other.cells (identity_cmp row.identity other.identity) (rises p q less)

  -- by whether the row comes first, given the others with the row among them
  placed : (p q : ℕ) (row other : Annotated M) (own : List Cell) (keys : List (List Cell)) (rows : List (Annotated M)) → suc p ≤ q → own ≡ key q other → AreKeys (suc p) keys rows
      → AreKeys p (insert_sorted row_cmp (key p row) keys) (insert_sorted by_identity row rows)
      → (b : Bool) → AreKeys p (cond b (key p row ∷ own ∷ keys) (own ∷ insert_sorted row_cmp (key p row) keys)) (cond b (row ∷ other ∷ rows) (other ∷ insert_sorted by_identity row rows))
  placed p q row other own keys rows above is rest later true = ((p, (omega arith, refl)), ((q, (omega arith, is)), weaker p (suc p) keys rows (omega arith) rest))
  placed p q row other own keys rows above is rest later false = ((q, (omega arith, is)), later)

  inserted : (p : ℕ) (row : Annotated M) (keys : List (List Cell)) (rows : List (Annotated M)) → AreKeys (suc p) keys rows
      → AreKeys p (insert_sorted row_cmp (key p row) keys) (insert_sorted by_identity row rows)
  inserted p row [] [] are = ((p, (omega arith, refl)), tt)
  inserted p row [] (other ∷ rows) are = absurd are
  inserted p row (own ∷ keys) [] are = absurd are
  inserted p row (own ∷ keys) (other ∷ rows) ((q, (above, is)), rest) =
      let same : is_le (row_cmp (key p row) own) ≡ is_le (by_identity row other) = ap (λ k. is_le (row_cmp (key p row) k)) is ∙ compared p q row other (omega arith) in
      subst (λ b. AreKeys p (cond b (key p row ∷ own ∷ keys) (own ∷ insert_sorted row_cmp (key p row) keys)) (cond (is_le (by_identity row other)) (row ∷ other ∷ rows) (other ∷ insert_sorted by_identity row rows)))
      (sym same) (placed p q row other own keys rows above is rest (inserted p row keys rows rest) (is_le (by_identity row other)))

  lines_are : (name : List ℕ) (statement : Statement) (low : ℕ) (keys : List (List Cell)) (rows : List (Annotated M)) → AreKeys low keys rows
      → flat_map (keyed_lines name statement) keys ≡ map (changed_text name statement) rows
  lines_are name statement low [] [] are = refl
  lines_are name statement low [] (row ∷ rows) are = absurd are
  lines_are name statement low (own ∷ keys) [] are = absurd are
  lines_are name statement low (own ∷ keys) (row ∷ rows) ((place, (above, is)), rest) =
      ap (λ (k : List Cell). keyed_lines name statement k ++ flat_map (keyed_lines name statement) keys) is
      ∙ ap (λ (texts : List (List ℕ)). changed_text name statement row ∷ texts) (lines_are name statement low keys rows rest)

-- ---- the rows that a statement changed

module _ (t k : ℕ) (statement : Statement) where
  abbrev changed : Annotated (Unit {0}) → Bool
  changed row = is_changed_by t k statement row.identity

  keyed_one : (place : ℕ) (row : Annotated (Unit {0})) → keyed_if t k statement place (system_row row) (identity_of (system_row row)) ≡ cond (changed row) (key place row ∷ []) []
  keyed_one place row =
      ap (keyed_if t k statement place (system_row row)) (identity_found row)
      ∙ ap (λ (cells : List Cell). cond (changed row) ((cell.Id row.identity ∷ cell.Int (pos place) ∷ cells) ∷ []) []) (cells_found row)

  -- by whether the statement changed the row, given the keys of the rows behind it
  with_row : (place : ℕ) (row : Annotated (Unit {0})) (rows : List (Annotated (Unit {0})))
      → AreKeys (suc place) (sorted_by row_cmp (keyed_from t k statement (suc place) (map system_row rows))) (sorted_by by_identity (filter changed rows))
      → (b : Bool) → AreKeys place (sorted_by row_cmp (cond b (key place row ∷ []) [] ++ keyed_from t k statement (suc place) (map system_row rows)))
      (sorted_by by_identity (cond b (row ∷ filter changed rows) (filter changed rows)))
  with_row place row rows rest true = inserted place row (sorted_by row_cmp (keyed_from t k statement (suc place) (map system_row rows))) (sorted_by by_identity (filter changed rows)) rest
  with_row place row rows rest false =
      weaker place (suc place) (sorted_by row_cmp (keyed_from t k statement (suc place) (map system_row rows))) (sorted_by by_identity (filter changed rows)) (omega arith) rest

  are_keys : (place : ℕ) (rows : List (Annotated (Unit {0}))) → AreKeys place (sorted_by row_cmp (keyed_from t k statement place (map system_row rows))) (sorted_by by_identity (filter changed rows))
  are_keys place [] = tt
  are_keys place (row ∷ rows) =
      subst (λ (first : List (List Cell)). AreKeys place (sorted_by row_cmp (first ++ keyed_from t k statement (suc place) (map system_row rows))) (sorted_by by_identity (filter changed (row ∷ rows))))
      (sym (keyed_one place row)) (with_row place row rows (are_keys (suc place) rows) (changed row))

  pub shown_is : (name : List ℕ) (rows : List (Annotated (Unit {0}))) → shown_texts name t k statement (map system_row rows) ≡ changed_texts name statement (filter changed rows)
  shown_is name rows = lines_are name statement 0 _ _ (are_keys 0 rows)

  -- what the code finds, or what it is refused for
  module _ (name : List ℕ) (rows : List (Annotated (Unit {0}))) {X : Type 0} (view : X → List (List Cell)) where
    pub found-changes : (refusal : Option Refusal) (found : X) → Looks view (Ok found) (given refusal (map system_row rows))
        → Lines Changes (shown_texts name t k statement (view found)) ≡ table_changes name statement (given refusal (filter changed rows))
    found-changes None found is = ap (Lines Changes) (ap (shown_texts name t k statement) is ∙ shown_is name rows)
    found-changes (Some refusal) found is = absurd is

    pub refused-changes : (refusal : Option Refusal) (own : Refusal) → Looks view (Err (stop.Refused own)) (given refusal (map system_row rows))
        → Refused own ≡ table_changes name statement (given refusal (filter changed rows))
    refused-changes None own is = absurd is
    refused-changes (Some refusal) own is = ap Refused is

-- ---- a statement that fits the tables

pub writes-target : (statement : Statement) (place : ℕ) → target statement ≡ Some place → writes statement ≡ true
writes-target (insert table rows) place is = refl
writes-target (insert_select table select) place is = refl
writes-target (update table sets c) place is = refl
writes-target (delete table c) place is = refl
writes-target (read select) place is = absurd (none-some place is)

pub sets-simple : (tables : List Table) (statement : Statement) → statement_fits tables statement ≡ true → sets_are_simple statement ≡ true
sets-simple tables (insert table rows) fit = refl
sets-simple tables (insert_select table select) fit = refl
sets-simple tables (update table sets c) fit =
    all_weaker (set_fits (width_of tables table)) set_is_simple
    (λ (set : SetExpr) fits. (and_parts (is_simple set.expr) _ (and_parts (is_column (width_of tables table) set.col) _ fits).1).0) sets
    (and_parts _ _ (and_parts (is_there tables table) _ fit).1).0
sets-simple tables (delete table c) fit = refl
sets-simple tables (read select) fit = refl

-- ---- the spans of a table, and the tables

-- those of the tables behind the first ones, this many
pub tables-more : (version : ℕ) (tables : List Table) (versions : List Versions) (place : ℕ) (table : Table) (own : Versions) → slice_get tables place ≡ Some table
    → place < length versions → own ≡ get_or versions place own
    → tables_texts version (drop place tables) (tables_view (drop place versions))
    ≡ spans_texts table.name version None own.spans ++ tables_texts version (drop (place + 1) tables) (tables_view (drop (place + 1) versions))
tables-more version tables versions place table own there within is =
    ap (λ (all : List Table). tables_texts version all (tables_view (drop place versions))) (drop_more tables place table (slice_get_within tables place table there))
    ∙ ap (λ (all : List Versions). tables_texts version (get_or tables place table ∷ drop (place + 1) tables) (tables_view all)) (drop_more versions place own within)
    ∙ ap (λ (first : Table). spans_texts first.name version None (get_or versions place own).spans ++ tables_texts version (drop (place + 1) tables) (tables_view (drop (place + 1) versions)))
    (get_or_from_slice_get tables place table table there)
    ∙ ap (λ (first : Versions). spans_texts table.name version None first.spans ++ tables_texts version (drop (place + 1) tables) (tables_view (drop (place + 1) versions))) (sym is)

-- ---- the answer

module _ (entries : List Entry) (tables : List (List Span)) (t k : ℕ) (some : 0 < k) (statement : Statement) (place : ℕ) (is : target statement ≡ Some place) where
  abbrev own-refusal : Option Refusal
  own-refusal = looked_refusal parameters entries (table_spans tables) t (k - 1) statement

  abbrev own-rows : List (Annotated (Unit {0}))
  own-rows = looked_rows parameters entries (table_spans tables) t (k - 1) statement

  abbrev changed-by : ℕ → Result (List (Annotated (Unit {0}))) Refusal
  changed-by n = given own-refusal (filter (λ row. is_changed_by t n statement row.identity) own-rows)

  abbrev own-dump : Dump
  own-dump = record { entries = entries; tables = tables }

  as-changes : (name : List ℕ) → name ≡ name_at place (tables_in entries) → table_changes name statement (changed-by k) ≡ dump_changes own-dump t (k - 1) statement
  as-changes name named =
      let next : k ≡ suc (k - 1) = omega (arith, some) in
      ap (λ (own : List ℕ). table_changes own statement (changed-by k)) named
      ∙ ap (λ n. table_changes (name_at place (tables_in entries)) statement (changed-by n)) next
      ∙ ap (λ (found : Option ℕ). changes_of (tables_in entries) found statement (changed-by (suc (k - 1)))) (sym is)

  pub found-is : {X : Type 0} (view : X → List (List Cell)) (found : X) (name : List ℕ) → name ≡ name_at place (tables_in entries)
      → Looks view (Ok found) (looked_answer parameters entries (table_spans tables) t (k - 1) statement) → Lines Changes (shown_texts name t k statement (view found)) ≡ dump_changes own-dump t (k - 1) statement
  found-is view found name named looks = found-changes t k statement name own-rows view own-refusal found looks ∙ as-changes name named

  pub refused-is : {X : Type 0} (view : X → List (List Cell)) (own : Refusal) → Looks view (Err (stop.Refused own)) (looked_answer parameters entries (table_spans tables) t (k - 1) statement)
      → Refused own ≡ dump_changes own-dump t (k - 1) statement
  refused-is view own looks =
      refused-changes t k statement (name_at place (tables_in entries)) own-rows view own-refusal own looks ∙ as-changes (name_at place (tables_in entries)) refl

-- a SELECT changes nothing
pub none-changed : (dump : Dump) (t k : ℕ) (statement : Statement) → None ≡ target statement → Lines Changes [] ≡ dump_changes dump t k statement
none-changed dump t k statement is =
    ap (λ (found : Option ℕ). changes_of (tables_in dump.entries) found statement
    (given (looked_refusal parameters dump.entries (table_spans dump.tables) t k statement) (changed_rows unannotated t (suc k) statement (run_before unannotated (log_of dump.entries) t k (as_of unannotated (table_spans dump.tables)))))) is

-- the numbers of a statement that is not refused
known-by : (t : ℕ) (entries : List Entry) (b : Bool) → is_known t entries ≡ b → cond b None (Some (E20 t)) ≡ None → is_known t entries ≡ true
known-by t entries true is none = is
known-by t entries false is none = absurd (some_none (E20 t) none)

pub known-changed : (t k : ℕ) (entries : List Entry) → changes_refusal t k entries ≡ None → is_known t entries ≡ true
known-changed t k entries none = known-by t entries (is_known t entries) refl (none_parts (unknown_refusal t entries) (statement_refusal t k entries) none).0

pub numbered-by : (t k : ℕ) (entries : List Entry) (b : Bool) → (nat_lt 0 k && nat_le k (statement_count t entries)) ≡ b → cond b None (Some (E22 t (statement_count t entries))) ≡ None
    → (0 < k) × (k ≤ statement_count t entries)
numbered-by t k entries true is none =
    let parts = and_parts (nat_lt 0 k) (nat_le k (statement_count t entries)) is in (ltb-true 0 k parts.0, leb-true k (statement_count t entries) parts.1)
numbered-by t k entries false is none = absurd (some_none (E22 t (statement_count t entries)) none)

pub numbered-changed : (t k : ℕ) (entries : List Entry) → changes_refusal t k entries ≡ None → (0 < k) × (k ≤ statement_count t entries)
numbered-changed t k entries none =
    numbered-by t k entries (nat_lt 0 k && nat_le k (statement_count t entries)) refl (none_parts (unknown_refusal t entries) (statement_refusal t k entries) none).1

pub changes-by : (dump : Dump) (t k number statement : ℕ) → changes_refusal t k dump.entries ≡ None → number ≡ t → statement ≡ k
    → if_any (dump_changes dump number (statement - 1)) (statement_at number statement dump.entries) ≡ changes_to dump t k
changes-by dump t k number statement none first second =
    (λ i. if_any (dump_changes dump (first i) (second i - 1)) (statement_at (first i) (second i) dump.entries))
    ∙ ap (λ (refusal : Option Refusal). unless_refused refusal (if_any (dump_changes dump t (k - 1)) (statement_at t k dump.entries))) (sym none)

-- a transaction that made a version
made-by : (t : ℕ) (entries : List Entry) (b : Bool) → is_known t entries ≡ b → cond (not b) (Some (E20 t)) (cond (is_none (version_of t entries)) (Some (E21 t (fate_of t entries))) None) ≡ None
    → is_known t entries ≡ true
made-by t entries true is none = is
made-by t entries false is none = absurd (some_none (E20 t) none)

pub known-committed : (t : ℕ) (entries : List Entry) → transaction_refusal t entries ≡ None → is_known t entries ≡ true
known-committed t entries none = made-by t entries (is_known t entries) refl none

pub commit-changes-by : (dump : Dump) (t number : ℕ) → transaction_refusal t dump.entries ≡ None → number ≡ t → version_changes dump (version_of number dump.entries) ≡ commit_changes_to dump t
commit-changes-by dump t number none is =
    ap (λ n. version_changes dump (version_of n dump.entries)) is ∙ ap (λ (refusal : Option Refusal). unless_refused refusal (version_changes dump (version_of t dump.entries))) (sym none)
