-- A table that a transaction has not written is, before the next statement, that of the version which the statement reads; and what this changes of its rows.
use Rattle.std.proofs.Common.{Global, Vec, ◌≡◌, ℕ, zero, suc, ◌+◌, ◌<◌, ◌≤◌, Bool, true, false, cond, List, [], ◌∷◌, ◌++◌, drop, get_or, length, map, Option, None, Some, Ok, refl, sym, ap, ◌∙◌, subst, arith}
use Rattle.std.specs.List.{AllByRecursion, list_all}
use Rattle.std.specs.Option.{option_map_or}
use Rattle.std.specs.Prelude.{◌&&◌, ◌||◌, ◌==◌, filter, nat_le, not, option_and_then}
use Rattle.std.proofs.lemmas.Bool.{and_parts, eqb-true, false≢true, leb-false, leb-true}
use Rattle.std.proofs.lemmas.List.{append-nil, append_assoc, at_drop_more, map-append}
use Rattle.std.proofs.lemmas.List.Elements.{filter-append}
use Rattle.std.proofs.lemmas.Option.{same_Some}
use Rattle.gp_base.proofs.SmallLemmas.{each_map, eq_turned, filter-map, map-map, some_none}
use Rattle.gp_base.specs.declared.cell.Cell.{Cell}
use Rattle.gp_base.specs.Annotated.{Annotated, Database, Environment, unannotated}
use Rattle.gp_base.specs.Identities.{Identity, same_identity}
use Rattle.gp_base.specs.Order.{row_cmp, sorted_by}
use Rattle.gp_expr.specs.ExpressionForms.{cond_is_simple}
use Rattle.gp_expr.specs.Expressions.{Cond}
use Rattle.gp_expr.specs.Values.{passes}
use Rattle.gp_algebra.specs.Effects.{step, with_rows}
use Rattle.gp_algebra.specs.Fitting.{cond_fits, is_there, set_fits}
use Rattle.gp_algebra.specs.Statements.{width_of, Statement, insert, insert_select, update, delete, read}
use Rattle.gp_log.specs.LogFacts.{tables_in}
use Rattle.gp_log.specs.LogFitting.{statements_fit}
use Rattle.gp_log.specs.Parameters.{parameters}
use Rattle.gp_machine.proofs.Distinct.{each_all, filter-filter, filter_every, filter_none, none_any}
use Rattle.gp_machine.specs.Entries.{Entry, Log, log_of, statement_at}
use Rattle.gp_machine.specs.HistorySpans.{as_of}
use Rattle.gp_machine.specs.Points.{run_stop}
use Rattle.gp_machine.specs.Publishing.{holds_identity, publish, was_written}
use Rattle.gp_machine.specs.Runs.{refreshed, run, run_before, stepped}
use Rattle.gp_machine.specs.SerialRuns.{row_cells, shown}
use Rattle.gp_reenact.proofs.HeldLemmas.{FitsIfSome, logged_fits}
use Rattle.gp_versions.specs.Spans.{holds_at, row_of, rows_at, spans_at}
use Rattle.gp_versions.specs.declared.span.Span.{Span}
use Rattle.gp_serial.specs.Finding.{IsUnwritten, Search, is_found, keyed_span, search_of, writes_at}
use Rattle.gp_serial.specs.Running.{IsShown, IsToldOf}

abbrev Row : Type 0
Row = Annotated (Unit {0})

abbrev pub search_at : ℕ → Cond → Search
search_at table c = record { table = table; cond = c }

-- ---- statements

pub unwritten_more : (log : Log) (t table n : ℕ) → IsUnwritten log t table n → writes_at table (log.statement t (n + 1)) ≡ false → IsUnwritten log t table (n + 1)
unwritten_more log t table n are last k some within = by (nat_le k n) refl
  where
    by : (b : Bool) → nat_le k n ≡ b → writes_at table (log.statement t k) ≡ false
    by true is = are k some (leb-true k n is)
    by false is = let same : k ≡ n + 1 = omega (arith, leb-false k n is, within) in ap (λ own. writes_at table (log.statement t own)) same ∙ last

module _ (table : ℕ) (db : Database (Unit {0})) where
  elsewhere : (place : ℕ) (rows : List Row) → (place == table) ≡ false → with_rows place rows db table ≡ db table
  elsewhere place rows is = ap (λ b. cond b rows (db table)) (eq_turned place table is)

  unchanged : (t k : ℕ) (found : Option Statement) → writes_at table found ≡ false → stepped unannotated t k found db table ≡ db table
  unchanged t k None is = refl
  unchanged t k (Some (insert place rows)) is = elsewhere place _ is
  unchanged t k (Some (insert_select place select)) is = elsewhere place _ is
  unchanged t k (Some (update place sets c)) is = elsewhere place _ is
  unchanged t k (Some (delete place c)) is = elsewhere place _ is
  unchanged t k (Some (read select)) is = refl

-- ---- versions

not_both : (b : Bool) → (b && not b) ≡ false
not_both true = refl
not_both false = refl

module _ (spans : ℕ → List Span) (table : ℕ) where
  abbrev past : Environment (Unit {0})
  past = as_of unannotated spans

  -- no row of a version is marked
  unmarked_at : (v : ℕ) → AllByRecursion (λ (row : Row). row.mark ≡ false) (past v table)
  unmarked_at v =
      each_map (λ (row : Row). row.mark ≡ false) (λ (span : Span). Unit {0}) (row_of unannotated) (λ span any. refl) (spans_at v (spans table)) (each_all (λ (span : Span). Unit {0}) (λ span. tt) (spans_at v (spans table)))

  -- so nothing was written
  nothing_written : (v : ℕ) (id : Identity) → was_written (past v table) (past v table) id ≡ false
  nothing_written v id =
      ap (λ b. b || (holds_identity id (past v table) && not (holds_identity id (past v table))))
      (none_any (λ (row : Row). row.mark && same_identity row.identity id) (past v table) (weaker (past v table) (unmarked_at v)))
      ∙ not_both (holds_identity id (past v table))
    where
      weaker : (rows : List Row) → AllByRecursion (λ (row : Row). row.mark ≡ false) rows → AllByRecursion (λ (row : Row). (row.mark && same_identity row.identity id) ≡ false) rows
      weaker [] all = tt
      weaker (row ∷ rows) (own, all) = (ap (λ b. b && same_identity row.identity id) own, weaker rows all)

  published : (old new : ℕ) → filter (λ (row : Row). not (was_written (past old table) (past old table) row.identity)) (past new table) ++ filter (λ (row : Row). row.mark) (past old table) ≡ past new table
  published old new =
      (λ i. filter_every (λ (row : Row). not (was_written (past old table) (past old table) row.identity)) (past new table)
      (each_all (λ (row : Row). not (was_written (past old table) (past old table) row.identity) ≡ true) (λ row. ap not (nothing_written old row.identity)) (past new table)) i
      ++ filter_none (λ (row : Row). row.mark) (past old table) (unmarked_at old) i)
      ∙ append-nil (past new table)

  refreshed_is : (old new : ℕ) (db : Database (Unit {0})) → db table ≡ past old table → refreshed old new past db table ≡ past new table
  refreshed_is old new db own = by (new == old) refl
    where
      by : (b : Bool) → (new == old) ≡ b → (cond b db (publish (past old) db (past new))) table ≡ past new table
      by true is = own ∙ ap (λ v. past v table) (sym (eqb-true new old is))
      by false is =
          (λ i. filter (λ (row : Row). not (was_written (past old table) (own i) row.identity)) (past new table) ++ filter (λ (row : Row). row.mark) (own i))
          ∙ published old new

  -- ---- a run

  module _ (log : Log) (t : ℕ) where
    run_is : (n : ℕ) → IsUnwritten log t table n → run unannotated log t n past table ≡ past (log.version t n) table
    run_is zero are = refl
    run_is (suc n) are =
        unchanged table (run_before unannotated log t n past) t (suc n) (log.statement t (suc n)) (are (suc n) (omega arith) (omega arith))
        ∙ refreshed_is (log.version t n) (log.version t (suc n)) (run unannotated log t n past) (run_is n (λ k some within. are k some (omega (arith, within))))

    pub before_is : (n : ℕ) → IsUnwritten log t table n → run_before unannotated log t n past table ≡ past (log.version t (suc n)) table
    before_is n are = refreshed_is (log.version t n) (log.version t (suc n)) (run unannotated log t n past) (run_is n are)

-- ---- rows

-- those of one more span
pub found_more : (version : ℕ) (c : Cond) (spans : List Span) (rows : List (List Cell)) (i : ℕ) (span : Span) → i < length spans → span ≡ get_or spans i span
    → (rows ++ map keyed_span (filter (is_found version c) (span ∷ []))) ++ map keyed_span (filter (is_found version c) (drop (i + 1) spans))
    ≡ rows ++ map keyed_span (filter (is_found version c) (drop i spans))
found_more version c spans rows i span within is =
    append_assoc rows (map keyed_span (filter (is_found version c) (span ∷ []))) (map keyed_span (filter (is_found version c) (drop (i + 1) spans)))
    ∙ ap (λ (more : List (List Cell)). rows ++ more)
    (sym (map-append keyed_span (filter (is_found version c) (span ∷ [])) (filter (is_found version c) (drop (i + 1) spans)))
    ∙ ap (map keyed_span)
    (sym (filter-append (is_found version c) (span ∷ []) (drop (i + 1) spans)) ∙ ap (λ (first : Span). filter (is_found version c) (first ∷ drop (i + 1) spans)) is
    ∙ sym (at_drop_more (filter (is_found version c)) spans i span within)))

found_is : (version : ℕ) (c : Cond) (spans : List Span) → map keyed_span (filter (is_found version c) spans) ≡ map row_cells (filter (λ (row : Row). passes c row.cells) (rows_at unannotated version spans))
found_is version c spans =
    ap (map keyed_span) (sym (filter-filter (λ (span : Span). passes c span.row) (holds_at version) spans))
    ∙ sym (map-map row_cells (row_of unannotated) (filter (λ (span : Span). passes c span.row) (spans_at version spans)))
    ∙ ap (map row_cells) (sym (filter-map (λ (row : Row). passes c row.cells) (row_of unannotated) (spans_at version spans)))

-- the condition of a checked statement is one of the values of a row
pub simple_search : (entries : List Entry) (t k table : ℕ) (c : Cond) → statements_fit (tables_in entries) entries ≡ true → option_and_then search_of (statement_at t k entries) ≡ Some (search_at table c)
    → cond_is_simple c ≡ true
simple_search entries t k table c fit here = by (statement_at t k entries) here (logged_fits (tables_in entries) t k entries fit)
  where
    own : (width : ℕ) (other : Cond) (place : ℕ) → Some (search_at place other) ≡ Some (search_at table c) → cond_fits width other ≡ true → cond_is_simple c ≡ true
    own width other place same fits =
        ap (λ (search : Search). cond_is_simple search.cond) (sym (same_Some (search_at place other) (search_at table c) same))
        ∙ (and_parts (cond_is_simple other) _ fits).0

    by : (found : Option Statement) → option_and_then search_of found ≡ Some (search_at table c) → FitsIfSome (tables_in entries) found → cond_is_simple c ≡ true
    by None none fits = absurd (some_none (search_at table c) (sym none))
    by (Some (insert place rows)) none fits = absurd (some_none (search_at table c) (sym none))
    by (Some (insert_select place select)) none fits = absurd (some_none (search_at table c) (sym none))
    by (Some (update place sets other)) same fits =
        let one = and_parts (is_there (tables_in entries) place) _ fits in
        let two = and_parts (list_all (set_fits (width_of (tables_in entries) place)) sets) (cond_fits (width_of (tables_in entries) place) other) one.1 in
        own (width_of (tables_in entries) place) other place same two.1
    by (Some (delete place other)) same fits =
        let one = and_parts (is_there (tables_in entries) place) (cond_fits (width_of (tables_in entries) place) other) fits in
        own (width_of (tables_in entries) place) other place same one.1
    by (Some (read select)) none fits = absurd (some_none (search_at table c) (sym none))

-- ---- what a statement shows

module _ (entries : List Entry) (spans : ℕ → List Span) (t before table : ℕ) (c : Cond) (rows : Vec (List Cell) Global)
    (here : option_and_then search_of (statement_at t (suc before) entries) ≡ Some (search_at table c))
    (unwritten : IsUnwritten (log_of entries) t table before)
    (runs : run_stop unannotated parameters (log_of entries) t (suc before) (as_of unannotated spans) ≡ None)
    (is : rows.items ≡ sorted_by row_cmp (map keyed_span (filter (is_found ((log_of entries).version t (suc before)) c) (spans table)))) where
  abbrev db : Database (Unit {0})
  db = run_before unannotated (log_of entries) t before (as_of unannotated spans)

  found_rows : (place : ℕ) (own : Cond) → Some (search_at place own) ≡ Some (search_at table c) → rows.items ≡ sorted_by row_cmp (map row_cells (filter (λ (row : Row). passes own row.cells) (db place)))
  found_rows place own same =
      let at : search_at place own ≡ search_at table c = same_Some (search_at place own) (search_at table c) same in
      is
      ∙ ap (sorted_by row_cmp)
      (found_is ((log_of entries).version t (suc before)) c (spans table)
      ∙ ap (λ (all : List Row). map row_cells (filter (λ (row : Row). passes c row.cells) all)) (sym (before_is spans table (log_of entries) t before unwritten))
      ∙ (λ i. map row_cells (filter (λ (row : Row). passes (sym (ap (λ (search : Search). search.cond) at) i) row.cells) (db (sym (ap (λ (search : Search). search.table) at) i)))))

  pub found_shown : IsShown entries spans t (suc before) (Ok (Some rows))
  found_shown = (runs, by (statement_at t (suc before) entries) here)
    where
      by : (found : Option Statement) → option_and_then search_of found ≡ Some (search_at table c) → IsToldOf found t (suc before) db (Some rows)
      by None none = absurd (some_none (search_at table c) (sym none))
      by (Some (insert place own)) none = absurd (some_none (search_at table c) (sym none))
      by (Some (insert_select place select)) none = absurd (some_none (search_at table c) (sym none))
      by (Some (update place sets own)) same = (refl, found_rows place own same)
      by (Some (delete place own)) same = (refl, found_rows place own same)
      by (Some (read select)) none = absurd (some_none (search_at table c) (sym none))
