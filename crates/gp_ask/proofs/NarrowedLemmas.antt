-- The rows of some identities of a table, where a transaction runs over these alone, are those of its run over all rows.
use Rattle.std.proofs.Common.{◌≡◌, ◌≢◌, ℕ, zero, suc, ◌+◌, ◌-◌, ◌<◌, ◌≤◌, Bool, true, false, cond, List, [], ◌∷◌, ◌++◌, drop, get_or, length, map, Option, None, Some, Ok, refl, sym, ap, ◌∙◌, subst, arith}
use Rattle.std.specs.List.{AllByRecursion, list_any}
use Rattle.std.specs.Prelude.{◌&&◌, ◌||◌, ◌==◌, filter, nat_le, not}
use Rattle.std.proofs.lemmas.Bool.{and_parts, eqb-false, eqb-true, false≢true, leb-false, leb-true}
use Rattle.std.proofs.lemmas.List.{append_assoc, at_drop_more}
use Rattle.std.proofs.lemmas.List.Elements.{filter-append}
use Rattle.std.proofs.lemmas.Option.{same_Some}
use Rattle.gp_base.proofs.SmallLemmas.{eq_itself, filter-map, some_none}
use Rattle.gp_base.specs.declared.cell.Cell.{Cell}
use Rattle.gp_base.specs.declared.refusal.Refusal.{Refusal}
use Rattle.gp_base.specs.declared.table.Table.{Table}
use Rattle.gp_base.specs.declared.token.Token.TheVariants.{Updated}
use Rattle.gp_base.specs.Annotated.{Annotated, Database, Environment, unannotated}
use Rattle.gp_base.specs.Identities.{Identity, same_identity}
use Rattle.gp_expr.specs.Expressions.{Cond}
use Rattle.gp_expr.specs.Values.{passes}
use Rattle.gp_algebra.specs.Answers.{answer}
use Rattle.gp_algebra.specs.Effects.{assigned, changed, given_from, made, step, with_rows}
use Rattle.gp_algebra.specs.Statements.{SetExpr, Statement, insert, insert_select, update, delete, read, target, width_of}
use Rattle.gp_compose.specs.Seen.{looked_at}
use Rattle.gp_dump.specs.Dumps.{Dump}
use Rattle.gp_log.specs.LogFitting.{SpanFits, SpansFit}
use Rattle.gp_log.specs.Parameters.{parameters}
use Rattle.gp_machine.proofs.Distinct.{each_all, each_filter, filter-filter, filter_each}
use Rattle.gp_machine.proofs.Made.{same_equal}
use Rattle.gp_machine.specs.Entries.{Entry, Log, log_of, statement_at}
use Rattle.gp_machine.specs.HistorySpans.{as_of}
use Rattle.gp_machine.specs.Publishing.{publish, was_written}
use Rattle.gp_machine.specs.Questions.{given}
use Rattle.gp_machine.specs.Runs.{refreshed, run, run_before, stepped}
use Rattle.gp_reenact.specs.LookingForms.{Looks, looked_rows, system_row}
use Rattle.gp_reenact.specs.Reenacting.{spans_of}
use Rattle.gp_versions.specs.Spans.{Versions, holds_at, row_of, rows_at, spans_at}
use Rattle.gp_versions.specs.TableSpans.{AreWhole, IsApart, IsEndAbove, NoOverlap}
use Rattle.gp_versions.specs.declared.span.Span.{Span}
use Rattle.gp_ask.specs.Asking.{table_spans}
use Rattle.gp_ask.specs.HistoryForms as f
use Rattle.gp_ask.specs.Looked.{rows_of}
use Rattle.gp_ask.proofs.HistoryLines.{kept-told}

abbrev Row : Type 0
Row = Annotated (Unit {0})

and-turned : (a b : Bool) → (a && b) ≡ (b && a)
and-turned true true = refl
and-turned true false = refl
and-turned false true = refl
and-turned false false = refl

and-none : (b : Bool) → (b && false) ≡ false
and-none true = refl
and-none false = refl

-- two filters in either order
turned : {X : Type 0} (p q : X → Bool) (xs : List X) → filter p (filter q xs) ≡ filter q (filter p xs)
turned {X} p q xs =
    filter-filter p q xs ∙ ap (λ (test : X → Bool). filter test xs) (λ i x. and-turned (q x) (p x) i) ∙ sym (filter-filter q p xs)

-- some item passes a test among those that pass a weaker one
any-kept : {X : Type 0} (p q : X → Bool) → ((x : X) → p x ≡ true → q x ≡ true) → (xs : List X) → list_any p (filter q xs) ≡ list_any p xs
any-kept p q weaker [] = refl
any-kept {X} p q weaker (x ∷ xs) =
    elim (q x) as (λ b. q x ≡ b → list_any p (cond b (x ∷ filter q xs) (filter q xs)) ≡ (p x || list_any p xs)) [
      | true ↦ λ is. ap (λ b. p x || b) (any-kept p q weaker xs)
      | false ↦ λ is. any-kept p q weaker xs ∙ ap (λ b. b || list_any p xs) (sym (fails (p x) refl is))
    ] refl
  where
    fails : (b : Bool) → p x ≡ b → q x ≡ false → p x ≡ false
    fails true is not = absurd (false≢true (sym not ∙ weaker x is))
    fails false is not = is

-- ---- statements

pub are-more : (table t n : ℕ) (entries : List Entry) → f.AreByIdentity table t n entries → f.is_found_by_identity table (statement_at t (n + 1) entries) ≡ true
    → f.AreByIdentity table t (n + 1) entries
are-more table t n entries are last k some within = by (nat_le k n) refl
  where
    by : (b : Bool) → nat_le k n ≡ b → f.is_found_by_identity table (statement_at t k entries) ≡ true
    by true is = are k some (leb-true k n is)
    by false is = let same : k ≡ n + 1 = omega (arith, leb-false k n is, within) in ap (λ own. f.is_found_by_identity table (statement_at t own entries)) same ∙ last

-- ---- row versions

module _ (p : Span → Bool) where
  -- those of one more
  pub asked-more : (spans own : List Span) (i : ℕ) (span : Span) → i < length spans → span ≡ get_or spans i span
      → (own ++ filter p (span ∷ [])) ++ filter p (drop (i + 1) spans) ≡ own ++ filter p (drop i spans)
  asked-more spans own i span within is =
      append_assoc own (filter p (span ∷ [])) (filter p (drop (i + 1) spans))
      ∙ ap (λ (more : List Span). own ++ more)
      (sym (filter-append p (span ∷ []) (drop (i + 1) spans)) ∙ ap (λ (first : Span). filter p (first ∷ drop (i + 1) spans)) is ∙ sym (at_drop_more (filter p) spans i span within))

  pub apart-asked : (spans : List Span) → NoOverlap spans → NoOverlap (filter p spans)
  apart-asked [] apart = tt
  apart-asked (span ∷ spans) apart =
      elim (p span) as (λ b. NoOverlap (cond b (span ∷ filter p spans) (filter p spans))) [
        | true ↦ (each_filter (IsApart span) (IsApart span) p (λ other asked is. is) spans apart.0, apart-asked spans apart.1)
        | false ↦ apart-asked spans apart.1
      ]

  pub whole-asked : (spans : List Span) → AreWhole spans → AreWhole (filter p spans)
  whole-asked spans whole =
      each_filter (λ (span : Span). IsEndAbove span.from span.to) (λ (span : Span). IsEndAbove span.from span.to) p (λ span asked is. is) spans whole

-- tables without spans, and one behind them
at-end : (tables : List Versions) (table : Versions) → spans_of (tables ++ table ∷ []) (length tables) ≡ table.spans
at-end [] table = refl
at-end (first ∷ tables) table = at-end tables table

elsewhere : (tables : List Versions) → ((place : ℕ) → spans_of tables place ≡ []) → (table : Versions) (place : ℕ) → place ≢ length tables → spans_of (tables ++ table ∷ []) place ≡ []
elsewhere [] none table zero apart = absurd (apart refl)
elsewhere [] none table (suc place) apart = refl
elsewhere (first ∷ tables) none table zero apart = none 0
elsewhere (first ∷ tables) none table (suc place) apart = elsewhere tables (λ n. none (suc n)) table place (λ is. apart (ap suc is))

pub nowhere : (tables : List Versions) → ((place : ℕ) → spans_of tables place ≡ []) → (table : Versions) → table.spans ≡ [] → (place : ℕ) → spans_of (tables ++ table ∷ []) place ≡ []
nowhere [] none table empty zero = empty
nowhere [] none table empty (suc place) = refl
nowhere (first ∷ tables) none table empty zero = none 0
nowhere (first ∷ tables) none table empty (suc place) = nowhere tables (λ n. none (suc n)) table empty place

pub behind : (tables : List Versions) → ((place : ℕ) → spans_of tables place ≡ []) → (table : Versions) (n : ℕ) → length tables ≡ n → (place : ℕ)
    → spans_of (tables ++ table ∷ []) place ≡ cond (place == n) table.spans []
behind tables none table n count place = by (place == n) refl
  where
    by : (b : Bool) → (place == n) ≡ b → spans_of (tables ++ table ∷ []) place ≡ cond b table.spans []
    by true is = ap (spans_of (tables ++ table ∷ [])) (eqb-true place n is ∙ sym count) ∙ at-end tables table
    by false is = elsewhere tables none table place (λ same. eqb-false place n is (same ∙ count))

module _ (is_asked : Identity → Bool) where
  abbrev asks : Span → Bool
  asks span = is_asked span.id

  abbrev kept : List Row → List Row
  kept rows = filter (λ (row : Row). is_asked row.identity) rows

  pub narrowed-fit : (tables : List Table) (spans : ℕ → List Span) (table : ℕ) → SpansFit tables spans → SpansFit tables (f.narrowed spans table is_asked)
  narrowed-fit tables spans table fit place = by (place == table) refl
    where
      by : (b : Bool) → (place == table) ≡ b → AllByRecursion (SpanFits (width_of tables place)) (cond b (filter asks (spans table)) [])
      by true is =
          subst (λ own. AllByRecursion (SpanFits (width_of tables own)) (filter asks (spans table))) (sym (eqb-true place table is))
          (each_filter (SpanFits (width_of tables table)) (SpanFits (width_of tables table)) asks (λ span asked fits. fits) (spans table) (fit table))
      by false is = tt

  -- the rows of a version
  first-kept : (v : ℕ) (span : Span) (spans : List Span)
      → kept (rows_at unannotated v (span ∷ spans)) ≡ cond (holds_at v span && is_asked span.id) (row_of unannotated span ∷ kept (rows_at unannotated v spans)) (kept (rows_at unannotated v spans))
  first-kept v span spans =
      elim (holds_at v span) as (λ b.
      kept (map (row_of unannotated) (cond b (span ∷ spans_at v spans) (spans_at v spans)))
      ≡ cond (b && is_asked span.id) (row_of unannotated span ∷ kept (rows_at unannotated v spans)) (kept (rows_at unannotated v spans))) [ true ↦ refl | false ↦ refl ]

  asked-rows : (v : ℕ) (spans : List Span) → kept (rows_at unannotated v (filter asks spans)) ≡ kept (rows_at unannotated v spans)
  asked-rows v [] = refl
  asked-rows v (span ∷ spans) =
      (elim (is_asked span.id) as (λ b. is_asked span.id ≡ b → kept (rows_at unannotated v (cond b (span ∷ filter asks spans) (filter asks spans)))
      ≡ cond (holds_at v span && b) (row_of unannotated span ∷ kept (rows_at unannotated v spans)) (kept (rows_at unannotated v spans))) [
        | true ↦ λ is. first-kept v span (filter asks spans)
            ∙ (λ i. cond (holds_at v span && is i) (row_of unannotated span ∷ asked-rows v spans i) (asked-rows v spans i))
        | false ↦ λ is. asked-rows v spans
            ∙ ap (λ b. cond b (row_of unannotated span ∷ kept (rows_at unannotated v spans)) (kept (rows_at unannotated v spans))) (sym (and-none (holds_at v span)))
      ]) refl
      ∙ sym (first-kept v span spans)

  -- ---- a statement

  module _ (table : ℕ) where
    -- two databases have the same of these rows in a table
    abbrev Same : ℕ → Database (Unit {0}) → Database (Unit {0}) → Type 0
    Same place db other = kept (db place) ≡ kept (other place)

    module _ (db other : Database (Unit {0})) (same : Same table db other) where
      -- other rows in some table
      with-same : (place : ℕ) (rows others : List Row) → (Same place db other → kept rows ≡ kept others) → kept (with_rows place rows db table) ≡ kept (with_rows place others other table)
      with-same place rows others new = by (table == place) refl
        where
          by : (b : Bool) → (table == place) ≡ b → kept (cond b rows (db table)) ≡ kept (cond b others (other table))
          by true is = new (subst (λ own. Same own db other) (eqb-true table place is) same)
          by false is = same

      changed-kept : (t k : ℕ) (sets : List SetExpr) (c : Cond) (rows : List Row) → kept (map (changed unannotated t k sets c) rows) ≡ map (changed unannotated t k sets c) (kept rows)
      changed-kept t k sets c rows =
          filter-map (λ (row : Row). is_asked row.identity) (changed unannotated t k sets c) rows
          ∙ ap (λ (test : Row → Bool). map (changed unannotated t k sets c) (filter test rows)) (λ i row. own row i)
        where
          own : (row : Row) → is_asked (changed unannotated t k sets c row).identity ≡ is_asked row.identity
          own row = by (passes c row.cells)
            where
              by : (b : Bool)
                  → is_asked (cond b (record { identity = row.identity; cells = assigned sets row.cells; mark = true; annotation = unannotated.times row.annotation (unannotated.token (Updated t k)) }) row).identity
                  ≡ is_asked row.identity
              by true = refl
              by false = refl

      step-same : (t k : ℕ) (statement : Statement) → f.is_by_identity table statement ≡ true → kept (step unannotated t k statement db table) ≡ kept (step unannotated t k statement other table)
      step-same t k (insert place rows) is =
          with-same place (db place ++ given_from unannotated t k 1 rows) (other place ++ given_from unannotated t k 1 rows)
          (λ own. filter-append (λ (row : Row). is_asked row.identity) (db place) (given_from unannotated t k 1 rows)
          ∙ ap (λ (rows' : List Row). rows' ++ kept (given_from unannotated t k 1 rows)) own
          ∙ sym (filter-append (λ (row : Row). is_asked row.identity) (other place) (given_from unannotated t k 1 rows)))
      step-same t k (insert_select place select) is =
          elim (table == place) as (λ b. not b ≡ true → kept (cond b (db place ++ map (made unannotated t k) (answer unannotated select db)) (db table))
          ≡ kept (cond b (other place ++ map (made unannotated t k) (answer unannotated select other)) (other table))) [
            | true ↦ λ none. absurd (false≢true none)
            | false ↦ λ none. same
          ] is
      step-same t k (update place sets c) is =
          with-same place (map (changed unannotated t k sets c) (db place)) (map (changed unannotated t k sets c) (other place))
          (λ own. changed-kept t k sets c (db place) ∙ ap (map (changed unannotated t k sets c)) own ∙ sym (changed-kept t k sets c (other place)))
      step-same t k (delete place c) is =
          with-same place (filter (λ (row : Row). not (passes c row.cells)) (db place)) (filter (λ (row : Row). not (passes c row.cells)) (other place))
          (λ own. turned (λ (row : Row). is_asked row.identity) (λ (row : Row). not (passes c row.cells)) (db place)
          ∙ ap (filter (λ (row : Row). not (passes c row.cells))) own
          ∙ sym (turned (λ (row : Row). is_asked row.identity) (λ (row : Row). not (passes c row.cells)) (other place)))
      step-same t k (read select) is = same

      stepped-same : (t k : ℕ) (found : Option Statement) → f.is_found_by_identity table found ≡ true → kept (stepped unannotated t k found db table) ≡ kept (stepped unannotated t k found other table)
      stepped-same t k None is = same
      stepped-same t k (Some statement) is = step-same t k statement is

      -- the rows that an UPDATE or a DELETE is about
      about-same : (place : ℕ) (c : Cond) → place ≡ table → kept (filter (λ (row : Row). passes c row.cells) (db place)) ≡ kept (filter (λ (row : Row). passes c row.cells) (other place))
      about-same place c at =
          turned (λ (row : Row). is_asked row.identity) (λ (row : Row). passes c row.cells) (db place)
          ∙ ap (filter (λ (row : Row). passes c row.cells)) (subst (λ own. Same own db other) (sym at) same)
          ∙ sym (turned (λ (row : Row). is_asked row.identity) (λ (row : Row). passes c row.cells) (other place))

      looked-same : (t k : ℕ) (statement : Statement) → f.is_by_identity table statement ≡ true → target statement ≡ Some table
          → kept (looked_at unannotated t k statement db) ≡ kept (looked_at unannotated t k statement other)
      looked-same t k (insert place rows) is at =
          subst (λ own. kept (step unannotated t k (insert place rows) db own) ≡ kept (step unannotated t k (insert place rows) other own)) (sym (same_Some place table at)) (step-same t k (insert place rows) is)
      looked-same t k (insert_select place select) is at =
          subst (λ own. kept (step unannotated t k (insert_select place select) db own) ≡ kept (step unannotated t k (insert_select place select) other own)) (sym (same_Some place table at))
          (step-same t k (insert_select place select) is)
      looked-same t k (update place sets c) is at = about-same place c (same_Some place table at)
      looked-same t k (delete place c) is at = about-same place c (same_Some place table at)
      looked-same t k (read select) is at = absurd (some_none table (sym at))

    -- ---- publishing

    abbrev published : List Row → List Row → List Row → List Row
    published base mine later = filter (λ (row : Row). not (was_written base mine row.identity)) later ++ filter (λ (row : Row). row.mark) mine

    written-kept : (base mine : List Row) (id : Identity) → is_asked id ≡ true → was_written (kept base) (kept mine) id ≡ was_written base mine id
    written-kept base mine id asked = λ i.
        any-kept (λ (row : Row). row.mark && same_identity row.identity id) (λ (row : Row). is_asked row.identity) marked mine i
        || (any-kept (λ (row : Row). same_identity row.identity id) (λ (row : Row). is_asked row.identity) own base i
        && not (any-kept (λ (row : Row). same_identity row.identity id) (λ (row : Row). is_asked row.identity) own mine i))
      where
        own : (row : Row) → same_identity row.identity id ≡ true → is_asked row.identity ≡ true
        own row is = ap is_asked (same_equal row.identity id is) ∙ asked

        marked : (row : Row) → (row.mark && same_identity row.identity id) ≡ true → is_asked row.identity ≡ true
        marked row is = ap is_asked (same_equal row.identity id (and_parts row.mark (same_identity row.identity id) is).1) ∙ asked

    kept-published : (base mine later : List Row) → kept (published base mine later) ≡ published (kept base) (kept mine) (kept later)
    kept-published base mine later =
        filter-append (λ (row : Row). is_asked row.identity) (filter (λ (row : Row). not (was_written base mine row.identity)) later) (filter (λ (row : Row). row.mark) mine)
        ∙ (λ i. (turned (λ (row : Row). is_asked row.identity) (λ (row : Row). not (was_written base mine row.identity)) later ∙ untouched) i
        ++ turned (λ (row : Row). is_asked row.identity) (λ (row : Row). row.mark) mine i)
      where
        untouched : filter (λ (row : Row). not (was_written base mine row.identity)) (kept later) ≡ filter (λ (row : Row). not (was_written (kept base) (kept mine) row.identity)) (kept later)
        untouched =
            filter_each (λ (row : Row). not (was_written base mine row.identity)) (λ (row : Row). not (was_written (kept base) (kept mine) row.identity)) (kept later)
            (each_filter (λ (row : Row). not (was_written base mine row.identity) ≡ not (was_written (kept base) (kept mine) row.identity)) (λ (row : Row). Unit {0}) (λ (row : Row). is_asked row.identity)
            (λ row asked every. ap not (sym (written-kept base mine row.identity asked))) later (each_all (λ (row : Row). Unit {0}) (λ row. tt) later))

    publish-same : (base base' mine mine' later later' : Database (Unit {0})) → Same table base base' → Same table mine mine' → Same table later later'
        → kept (publish base mine later table) ≡ kept (publish base' mine' later' table)
    publish-same base base' mine mine' later later' first own last =
        kept-published (base table) (mine table) (later table) ∙ (λ i. published (first i) (own i) (last i)) ∙ sym (kept-published (base' table) (mine' table) (later' table))

    -- ---- a run

    module _ (log : Log) (t : ℕ) (versions others : Environment (Unit {0})) (same : (v : ℕ) → Same table (versions v) (others v)) where
      refreshed-same : (old new : ℕ) (db other : Database (Unit {0})) → Same table db other → kept (refreshed old new versions db table) ≡ kept (refreshed old new others other table)
      refreshed-same old new db other own =
          elim (new == old) as (λ b. kept ((cond b db (publish (versions old) db (versions new))) table) ≡ kept ((cond b other (publish (others old) other (others new))) table)) [
            | true ↦ own
            | false ↦ publish-same (versions old) (others old) db other (versions new) (others new) (same old) own (same new)
          ]

      run-same : (n : ℕ) → ((k : ℕ) → 0 < k → k ≤ n → f.is_found_by_identity table (log.statement t k) ≡ true) → kept (run unannotated log t n versions table) ≡ kept (run unannotated log t n others table)
      run-same zero are = same (log.version t zero)
      run-same (suc n) are =
          stepped-same (run_before unannotated log t n versions) (run_before unannotated log t n others)
          (refreshed-same (log.version t n) (log.version t (suc n)) (run unannotated log t n versions) (run unannotated log t n others) (run-same n (λ k some within. are k some (omega (arith, within)))))
          t (suc n) (log.statement t (suc n)) (are (suc n) (omega arith) (omega arith))

      before-same : (n : ℕ) → ((k : ℕ) → 0 < k → k ≤ n → f.is_found_by_identity table (log.statement t k) ≡ true)
          → kept (run_before unannotated log t n versions table) ≡ kept (run_before unannotated log t n others table)
      before-same n are = refreshed-same (log.version t n) (log.version t (suc n)) (run unannotated log t n versions) (run unannotated log t n others) (run-same n are)

  -- ---- the rows by which one looks at a statement

  module _ (dump : Dump) (table : ℕ) where
    versions-same : (v place : ℕ) → place ≡ table → kept (as_of unannotated (f.narrowed (table_spans dump.tables) table is_asked) v place) ≡ kept (as_of unannotated (table_spans dump.tables) v place)
    versions-same v place at =
        ap (λ b. kept (rows_at unannotated v (cond b (filter asks (table_spans dump.tables table)) []))) (ap (λ own. own == table) at ∙ eq_itself table)
        ∙ asked-rows v (table_spans dump.tables table)
        ∙ ap (λ own. kept (rows_at unannotated v (table_spans dump.tables own))) (sym at)

    rows-same : (t k : ℕ) (statement : Statement) → 0 < k → f.AreByIdentity table t k dump.entries → statement_at t k dump.entries ≡ Some statement → target statement ≡ Some table
        → kept (looked_rows parameters dump.entries (f.narrowed (table_spans dump.tables) table is_asked) t (k - 1) statement) ≡ kept (rows_of dump t k statement)
    rows-same t k statement some are here at =
        looked-same table
        (run_before unannotated (log_of dump.entries) t (k - 1) (as_of unannotated (f.narrowed (table_spans dump.tables) table is_asked)))
        (run_before unannotated (log_of dump.entries) t (k - 1) (as_of unannotated (table_spans dump.tables)))
        (before-same table (log_of dump.entries) t (as_of unannotated (f.narrowed (table_spans dump.tables) table is_asked)) (as_of unannotated (table_spans dump.tables)) (λ v. versions-same v table refl) (k - 1)
        (λ n some' within. are n some' (omega (arith, within))))
        t (suc (k - 1)) statement (sym (ap (f.is_found_by_identity table) here) ∙ are k some (omega arith)) at

    -- the lines of what looking at these rows alone gives
    pub narrow-told : (version t k : ℕ) (statement : Statement) → 0 < k → f.AreByIdentity table t k dump.entries → statement_at t k dump.entries ≡ Some statement → target statement ≡ Some table
        → (spans : ℕ → List Span) → spans ≡ f.narrowed (table_spans dump.tables) table is_asked → (refusal : Option Refusal) {X : Type 0} (view : X → List (List Cell)) (found : X)
        → Looks view (Ok found) (given refusal (map system_row (looked_rows parameters dump.entries spans t (k - 1) statement)))
        → f.rows_changes is_asked version t k statement table (view found) ≡ f.rows_changes is_asked version t k statement table (map system_row (rows_of dump t k statement))
    narrow-told version t k statement some are here at spans narrow None view found is =
        ap (f.rows_changes is_asked version t k statement table) is
        ∙ ap (λ (own : ℕ → List Span). f.rows_changes is_asked version t k statement table (map system_row (looked_rows parameters dump.entries own t (k - 1) statement))) narrow
        ∙ sym (kept-told is_asked version t k statement table (looked_rows parameters dump.entries (f.narrowed (table_spans dump.tables) table is_asked) t (k - 1) statement))
        ∙ ap (λ (rows : List Row). f.rows_changes is_asked version t k statement table (map system_row rows)) (rows-same t k statement some are here at)
        ∙ kept-told is_asked version t k statement table (rows_of dump t k statement)
    narrow-told version t k statement some are here at spans narrow (Some refusal) view found is = absurd is
