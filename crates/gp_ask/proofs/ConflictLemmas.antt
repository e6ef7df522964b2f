-- The rows that a transaction wrote, by the rows by which one looks at its statements; and the lines of those that another commit wrote too.
use Rattle.std.proofs.Common.{◌≡◌, inl, inr, ℕ, zero, suc, ◌-◌, ◌<◌, ◌≤◌, Bool, true, false, cond, List, [], ◌∷◌, ◌++◌, length, map, Option, None, Some, refl, sym, ap, ◌∙◌, subst, arith}
use Rattle.std.specs.Prelude.{◌&&◌, ◌||◌, ◌==◌, filter, not}
use Rattle.std.specs.Cmp.{IsTotalOrder}
use Rattle.std.specs.List.{AllByRecursion, flat_map, slice_get}
use Rattle.std.specs.Option.{is_some, option_map_or}
use Rattle.std.specs.Ordering.{MatchOrdering, is_eq, nat_cmp, ordering_then}
use Rattle.std.specs.declared.cmp.Ordering.{Ordering}
use Rattle.std.specs.declared.cmp.Ordering.TheVariants.{Less, Equal, Greater}
use Rattle.std.proofs.lemmas.Bool.{and_parts, eqb-true}
use Rattle.std.proofs.lemmas.Cmp.{nat_cmp_total, on_total, ranked, tied_itself}
use Rattle.std.proofs.lemmas.Grind.{flat_map-append}
use Rattle.std.proofs.lemmas.List.{append-nil, append_assoc, length-append, map-append}
use Rattle.std.proofs.lemmas.List.Folds.{list_any-append}
use Rattle.gp_base.proofs.IdentityLaws.{same_identity-is}
use Rattle.gp_base.proofs.OrderLemmas.{equal_from_is_eq}
use Rattle.gp_base.proofs.SmallLemmas.{each_append, eq_itself, filter-append, map-map}
use Rattle.gp_base.specs.declared.cell.Cell.{Cell}
use Rattle.gp_base.specs.declared.cell.Cell.TheVariants as cell
use Rattle.gp_base.specs.Annotated.{Annotated, Database, Environment, unannotated}
use Rattle.gp_base.specs.Identities.{Identity, identity_cmp, same_identity}
use Rattle.gp_base.specs.IdentityOrder.{identity_cmp-exact, identity_cmp_total}
use Rattle.gp_base.specs.declared.token.Token.TheVariants.{Updated}
use Rattle.gp_base.specs.Order.{row_cmp, sorted_by}
use Rattle.gp_expr.specs.Expressions.{Cond}
use Rattle.gp_expr.specs.Values.{passes}
use Rattle.gp_algebra.specs.Answers.{Element, answer}
use Rattle.gp_algebra.specs.Effects.{Written, assigned, changed, given_from, made, with_rows, written_in}
use Rattle.gp_algebra.specs.Statements.{Select, SetExpr, Statement, insert, insert_select, update, delete, read, target}
use Rattle.gp_compose.specs.Seen.{is_changed_by, looked_at}
use Rattle.gp_dump.specs.Dumps.{Dump}
use Rattle.gp_log.specs.LogFacts.{tables_in}
use Rattle.gp_log.specs.Sessions.{KeepsSessions}
use Rattle.gp_log.proofs.KeptSessions.{rising}
use Rattle.gp_machine.specs.Bases.{Based, pairs, with_base}
use Rattle.gp_machine.specs.Committed.{is_written}
use Rattle.gp_machine.specs.Entries.{Log, committer_of, log_of, statement_at, statement_count, statement_version}
use Rattle.gp_machine.specs.Event.{name_at}
use Rattle.gp_machine.specs.HistorySpans.{as_of}
use Rattle.gp_machine.specs.Publishing.{publish, was_written}
use Rattle.gp_machine.specs.Reading.{wrote_by}
use Rattle.gp_machine.specs.Runs.{refreshed, run, run_before, stepped}
use Rattle.gp_reenact.specs.LookingForms.{system_row}
use Rattle.gp_versions.specs.declared.span.Span.{Span}
use Rattle.gp_versions.specs.Spans.{row_of, spans_at}
use Rattle.gp_ask.specs.Asking.{table_spans}
use Rattle.gp_ask.specs.ConflictForms as f
use Rattle.gp_ask.specs.ConflictForms.{dump_wrote}
use Rattle.gp_ask.specs.Keyed.{identity_of}
use Rattle.gp_ask.specs.Looked.{as_mark, mark_of, may_stop, rows_of}
use Rattle.gp_ask.specs.RowConflicts.{based_cmp, conflict_lines, conflict_text, dump_written, first_writer, firsts}
use Rattle.gp_ask.specs.RowLines.{RowLine, first_texts, keyed_from, line_cmp, row_line}
use Rattle.gp_ask.proofs.ChangesLemmas.{identity_found}
use Rattle.gp_ask.proofs.IntervalLines.{sorted-map}
use Rattle.gp_ask.proofs.MetLemmas.{later-writer, met-writer}
use Rattle.gp_ask.proofs.OnceLemmas.{IsAmong, PassesFirst, kept-sorted, once, once-kept, once-map, once-without-all}
use Rattle.gp_ask.proofs.RowLineLemmas.{first-lines, line-total, written-total}
use Rattle.gp_versions.proofs.SameLemmas.{same-itself}

abbrev Row : Type 0
Row = Annotated (Unit {0})

-- ---- rows with their marks behind them

at-end : (cells : List Cell) (x z : Cell) → slice_get (cells ++ x ∷ z ∷ []) (suc (length cells)) ≡ Some z
at-end [] x z = refl
at-end (c ∷ cells) x z = at-end cells x z

mark-found : (row : Row) → mark_of (system_row row) ≡ row.mark
mark-found row =
    let place : length (system_row row) - 1 ≡ suc (length row.cells) = omega (arith, length-append row.cells (cell.Id row.identity ∷ cell.Mark row.mark ∷ [])) in
    ap (λ n. as_mark (slice_get (system_row row) n)) place ∙ ap as_mark (at-end row.cells (cell.Id row.identity) (cell.Mark row.mark))

-- ---- marks are those of rows that were written

abbrev Marked : (Written → Bool) → Database (Unit {0}) → Type 0
Marked among db = (table : ℕ) → AllByRecursion (λ (row : Row). row.mark ≡ true → among (record { table = table; identity = row.identity }) ≡ true) (db table)

abbrev MarkedRows : (Written → Bool) → ℕ → List Row → Type 0
MarkedRows among table rows = AllByRecursion (λ (row : Row). row.mark ≡ true → among (record { table = table; identity = row.identity }) ≡ true) rows

module _ (among : Written → Bool) (table : ℕ) where
  marked-kept : (p : Row → Bool) (rows : List Row) → MarkedRows among table rows → MarkedRows among table (filter p rows)
  marked-kept p [] all = tt
  marked-kept p (row ∷ rows) all =
      elim (p row) as (λ b. MarkedRows among table (cond b (row ∷ filter p rows) (filter p rows))) [ true ↦ (all.0, marked-kept p rows all.1) | false ↦ marked-kept p rows all.1 ]

  none-marked : (spans : List Span) → MarkedRows among table (map (row_of unannotated) spans)
  none-marked [] = tt
  none-marked (span ∷ spans) = (λ is. absurd cc, none-marked spans)

  marked-weaker : (more : Written → Bool) → ((pair : Written) → among pair ≡ true → more pair ≡ true) → (rows : List Row) → MarkedRows among table rows → MarkedRows more table rows
  marked-weaker more weaker [] all = tt
  marked-weaker more weaker (row ∷ rows) all = (λ is. weaker (record { table = table; identity = row.identity }) (all.0 is), marked-weaker more weaker rows all.1)

-- the pairs that were written, as a test
abbrev pub is-among : List Written → Written → Bool
is-among written pair = is_written pair.table pair.identity written

-- with others
abbrev with-more : (Written → Bool) → List Written → Written → Bool
with-more among more pair = among pair || is-among more pair

pub or-true : (a : Bool) → (a || true) ≡ true
or-true true = refl
or-true false = refl

skipped : (a b c : Bool) → (a || c) ≡ true → (a || (b || c)) ≡ true
skipped true b c is = refl
skipped false true c is = refl
skipped false false c is = is

module _ (among : Written → Bool) (table : ℕ) where
  abbrev pair-of : Row → Written
  pair-of row = record { table = table; identity = row.identity }

  first-of : (row : Row) (more : List Written) → with-more among (pair-of row ∷ more) (pair-of row) ≡ true
  first-of row more =
      (λ i. among (pair-of row) || ((eq_itself table i && same-itself row.identity i) || is-among more (pair-of row)))
      ∙ or-true (among (pair-of row))

  later-of : (row : Row) (more : List Written) (pair : Written) → with-more among more pair ≡ true → with-more among (pair-of row ∷ more) pair ≡ true
  later-of row more pair is = skipped (among pair) ((table == pair.table) && same_identity row.identity pair.identity) (is-among more pair) is

  -- rows that were made are written
  made-marked : (rows : List Row) → MarkedRows (with-more among (written_in table rows)) table rows
  made-marked [] = tt
  made-marked (row ∷ rows) = (
    λ is. first-of row (written_in table rows),
    marked-weaker (with-more among (written_in table rows)) table (with-more among (written_in table (row ∷ rows))) (later-of row (written_in table rows)) rows (made-marked rows),
  )

  -- so are rows that were updated
  updated-marked : (t k : ℕ) (sets : List SetExpr) (c : Cond) (rows : List Row) → MarkedRows among table rows
      → MarkedRows (with-more among (written_in table (filter (λ (row : Row). passes c row.cells) rows))) table (map (changed unannotated t k sets c) rows)
  updated-marked t k sets c [] all = tt
  updated-marked t k sets c (row ∷ rows) all =
      let rest = filter (λ (row : Row). passes c row.cells) rows in
      let own = updated-marked t k sets c rows all.1 in
      elim (passes c row.cells) as (λ b. MarkedRows (with-more among (written_in table (cond b (row ∷ rest) rest))) table
      (cond b (record { identity = row.identity; cells = assigned sets row.cells; mark = true; annotation = unannotated.times row.annotation (unannotated.token (Updated t k)) }) row ∷ map (changed unannotated t k sets c) rows)) [
        | true ↦ (
          λ is. first-of row (written_in table rest),
          marked-weaker (with-more among (written_in table rest)) table (with-more among (written_in table (row ∷ rest))) (later-of row (written_in table rest)) (map (changed unannotated t k sets c) rows) own,
        )
        | false ↦ (λ is. ap (λ b. b || is-among (written_in table rest) (pair-of row)) (all.0 is), own)
      ]

weaker-more : (among : Written → Bool) (more : List Written) (pair : Written) → among pair ≡ true → with-more among more pair ≡ true
weaker-more among more pair is = ap (λ b. b || is-among more pair) is

all-weaker : (among : Written → Bool) (more : List Written) (db : Database (Unit {0})) → Marked among db → Marked (with-more among more) db
all-weaker among more db all table = marked-weaker among table (with-more among more) (weaker-more among more) (db table) (all table)

with-marked : (among : Written → Bool) (place : ℕ) (rows : List Row) (db : Database (Unit {0})) → MarkedRows among place rows → Marked among db → Marked among (with_rows place rows db)
with-marked among place rows db own all table =
    elim (table == place) as (λ b. (table == place) ≡ b → MarkedRows among table (cond b rows (db table))) [
      | true ↦ λ is. subst (λ n. MarkedRows among n rows) (sym (eqb-true table place is)) own
      | false ↦ λ is. all table
    ] refl

-- a statement marks what it writes
step-marked : (among : Written → Bool) (t k : ℕ) (statement : Option Statement) (db : Database (Unit {0})) → Marked among db
    → Marked (with-more among (wrote_by unannotated t k statement db)) (stepped unannotated t k statement db)
step-marked among t k None db all = all-weaker among [] db all
step-marked among t k (Some (insert table rows)) db all =
    let new = given_from unannotated t k 1 rows in
    let more = with-more among (written_in table new) in
    with-marked more table (db table ++ new) db
    (each_append (λ (row : Row). row.mark ≡ true → more (record { table = table; identity = row.identity }) ≡ true) (db table) new (all-weaker among (written_in table new) db all table) (made-marked among table new))
    (all-weaker among (written_in table new) db all)
step-marked among t k (Some (insert_select table select)) db all =
    let new = map (made unannotated t k) (answer unannotated select db) in
    let more = with-more among (written_in table new) in
    with-marked more table (db table ++ new) db
    (each_append (λ (row : Row). row.mark ≡ true → more (record { table = table; identity = row.identity }) ≡ true) (db table) new (all-weaker among (written_in table new) db all table) (made-marked among table new))
    (all-weaker among (written_in table new) db all)
step-marked among t k (Some (update table sets c)) db all =
    let own = written_in table (filter (λ (row : Row). passes c row.cells) (db table)) in
    with-marked (with-more among own) table (map (changed unannotated t k sets c) (db table)) db (updated-marked among table t k sets c (db table) (all table)) (all-weaker among own db all)
step-marked among t k (Some (delete table c)) db all =
    let own = written_in table (filter (λ (row : Row). passes c row.cells) (db table)) in
    with-marked (with-more among own) table (filter (λ (row : Row). not (passes c row.cells)) (db table)) db
    (marked-kept (with-more among own) table (λ (row : Row). not (passes c row.cells)) (db table) (all-weaker among own db all table)) (all-weaker among own db all)
step-marked among t k (Some (read select)) db all = all-weaker among [] db all

-- ---- pairs with bases

pub based-total : IsTotalOrder based_cmp
based-total = on_total (λ (own : Based). own.pair) written-total

pub firsts-once : (all : List Based) → once based_cmp based-total all ≡ firsts all
firsts-once [] = refl
firsts-once (own ∷ all) = ap (λ (rest : List Based). own ∷ filter (λ (other : Based). not (is_eq (based_cmp own other))) rest) (firsts-once all)

-- ---- the statements of a transaction of a dump

module _ (dump : Dump) (t : ℕ) where
  abbrev past : Environment (Unit {0})
  past = as_of unannotated (table_spans dump.tables)

  abbrev log : Log
  log = log_of dump.entries

  abbrev wrote-before : ℕ → List Written
  wrote-before k = pairs (dump_written dump t k)

  abbrev wrote-at : ℕ → List Written
  wrote-at k = wrote_by unannotated t (suc k) (statement_at t (suc k) dump.entries) (run_before unannotated log t k past)

  pairs-more : (k : ℕ) → wrote-before (suc k) ≡ wrote-before k ++ wrote-at k
  pairs-more k =
      map-append (λ (written : Based). written.pair) (dump_written dump t k) (map (with_base (statement_version t (suc k) dump.entries)) (wrote-at k))
      ∙ ap (λ (rest : List Written). wrote-before k ++ rest) (map-map (λ (written : Based). written.pair) (with_base (statement_version t (suc k) dump.entries)) (wrote-at k) ∙ map-itself (wrote-at k))
    where
      map-itself : (list : List Written) → map (λ (pair : Written). pair) list ≡ list
      map-itself [] = refl
      map-itself (pair ∷ list) = ap (λ (rest : List Written). pair ∷ rest) (map-itself list)

  among-more : (k : ℕ) → with-more (is-among (wrote-before k)) (wrote-at k) ≡ is-among (wrote-before (suc k))
  among-more k = λ i pair.
      (sym (list_any-append (λ (other : Written). (other.table == pair.table) && same_identity other.identity pair.identity) (wrote-before k) (wrote-at k))
      ∙ ap (is_written pair.table pair.identity) (sym (pairs-more k))) i

  past-marked : (among : Written → Bool) (version : ℕ) → Marked among (past version)
  past-marked among version table = none-marked among table (spans_at version (table_spans dump.tables table))

  refreshed-marked : (among : Written → Bool) (old new : ℕ) (db : Database (Unit {0})) → Marked among db → Marked among (refreshed old new past db)
  refreshed-marked among old new db all table =
      elim (new == old) as (λ b. MarkedRows among table (cond b db (publish (past old) db (past new)) table)) [
        | true ↦ all table
        | false ↦
            each_append (λ (row : Row). row.mark ≡ true → among (record { table = table; identity = row.identity }) ≡ true)
            (filter (λ (row : Row). not (was_written (past old table) (db table) row.identity)) (past new table)) (filter (λ (row : Row). row.mark) (db table))
            (marked-kept among table (λ (row : Row). not (was_written (past old table) (db table) row.identity)) (past new table) (past-marked among new table))
            (marked-kept among table (λ (row : Row). row.mark) (db table) (all table))
      ]

  run-marked : (k : ℕ) → Marked (is-among (wrote-before k)) (run unannotated log t k past)
  run-marked zero = past-marked (is-among []) (statement_version t zero dump.entries)
  run-marked (suc k) =
      subst (λ (among : Written → Bool). Marked among (run unannotated log t (suc k) past)) (among-more k)
      (step-marked (is-among (wrote-before k)) t (suc k) (statement_at t (suc k) dump.entries) (run_before unannotated log t k past)
      (refreshed-marked (is-among (wrote-before k)) (statement_version t k dump.entries) (statement_version t (suc k) dump.entries) (run unannotated log t k past) (run-marked k)))

  start-marked : (k : ℕ) → Marked (is-among (wrote-before k)) (run_before unannotated log t k past)
  start-marked k = refreshed-marked (is-among (wrote-before k)) (statement_version t k dump.entries) (statement_version t (suc k) dump.entries) (run unannotated log t k past) (run-marked k)

  -- ---- the rows that the code finds

  abbrev base-of : ℕ → ℕ
  base-of k = statement_version t k dump.entries

  abbrev own-based : ℕ → ℕ → Row → Based
  own-based k table row = with_base (base-of k) (record { table = table; identity = row.identity })

  abbrev is-own : ℕ → Statement → Row → Bool
  is-own k statement row = is_changed_by t k statement row.identity && (not (may_stop statement) || row.mark)

  -- of a statement
  abbrev found-in : ℕ → Statement → ℕ → List Row → List Based
  found-in k statement table rows = map (own-based k table) (filter (is-own k statement) rows)

  abbrev found-at : ℕ → Option Statement → List Based
  found-at k None = []
  found-at k (Some statement) = option_map_or (λ table. found-in k statement table (rows_of dump t k statement)) (target statement) []

  abbrev all-found : ℕ → List Based
  all-found zero = []
  all-found (suc k) = all-found k ++ found-at (suc k) (statement_at t (suc k) dump.entries)

  -- they are those that the statement wrote, behind some that were written before
  pub record Found (k : ℕ) (found : List Based) : Type 0 where
    pub before : List Based
    pub is : found ≡ before ++ map (with_base (base-of (suc k))) (wrote-at k)
    pub known : AllByRecursion (λ (own : Based). IsAmong based_cmp based-total own (dump_written dump t k)) before

  written-among : (written : List Based) (own : Based) → is_written own.pair.table own.pair.identity (pairs written) ≡ true → IsAmong based_cmp based-total own written
  written-among [] own is = absurd cc
  written-among (first ∷ written) own is =
      elim ((first.pair.table == own.pair.table) && same_identity first.pair.identity own.pair.identity) as (λ b. ((first.pair.table == own.pair.table) && same_identity first.pair.identity own.pair.identity) ≡ b
      → (b || is_written own.pair.table own.pair.identity (pairs written)) ≡ true → IsAmong based_cmp based-total own (first ∷ written)) [
        | true ↦ λ same there. inl (alike same)
        | false ↦ λ other there. inr (written-among written own there)
      ] refl is
    where
      alike : ((first.pair.table == own.pair.table) && same_identity first.pair.identity own.pair.identity) ≡ true → based_cmp first own ≡ Equal
      alike same =
          let parts = and_parts (first.pair.table == own.pair.table) (same_identity first.pair.identity own.pair.identity) same in
          let table : first.pair.table ≡ own.pair.table = eqb-true first.pair.table own.pair.table parts.0 in
          (λ i. ordering_then (nat_cmp (table i) own.pair.table) (identity_cmp first.pair.identity own.pair.identity))
          ∙ ap (λ (o : Ordering). ordering_then o (identity_cmp first.pair.identity own.pair.identity)) (tied_itself nat_cmp_total own.pair.table)
          ∙ equal_from_is_eq (identity_cmp first.pair.identity own.pair.identity) (sym (same_identity-is first.pair.identity own.pair.identity) ∙ parts.1)

  known-rows : (k : ℕ) (statement : Statement) (table : ℕ) → may_stop statement ≡ true → (rows : List Row) → MarkedRows (is-among (wrote-before k)) table rows
      → AllByRecursion (λ (own : Based). IsAmong based_cmp based-total own (dump_written dump t k)) (found-in (suc k) statement table rows)
  known-rows k statement table may [] all = tt
  known-rows k statement table may (row ∷ rows) all =
      elim (is-own (suc k) statement row) as (λ b. is-own (suc k) statement row ≡ b
      → AllByRecursion (λ (own : Based). IsAmong based_cmp based-total own (dump_written dump t k)) (map (own-based (suc k) table) (cond b (row ∷ filter (is-own (suc k) statement) rows) (filter (is-own (suc k) statement) rows)))) [
        | true ↦ λ own. (written-among (dump_written dump t k) (own-based (suc k) table row) (all.0 (marked own)), known-rows k statement table may rows all.1)
        | false ↦ λ own. known-rows k statement table may rows all.1
      ] refl
    where
      marked : is-own (suc k) statement row ≡ true → row.mark ≡ true
      marked own =
          let parts = and_parts (is_changed_by t (suc k) statement row.identity) (not (may_stop statement) || row.mark) own in
          ap (λ b. not b || row.mark) (sym may) ∙ parts.1

  -- the rows that a statement makes are its own
  all-own : (k : ℕ) (statement : Statement) (rows : List Row) → AllByRecursion (λ (row : Row). is-own k statement row ≡ true) rows → filter (is-own k statement) rows ≡ rows
  all-own k statement [] all = refl
  all-own k statement (row ∷ rows) all = ap (λ b. cond b (row ∷ filter (is-own k statement) rows) (filter (is-own k statement) rows)) all.0 ∙ ap (λ (rest : List Row). row ∷ rest) (all-own k statement rows all.1)

  inserted : (k : ℕ) (statement : Statement) (table : ℕ) → may_stop statement ≡ true → (new : List Row) → AllByRecursion (λ (row : Row). is-own (suc k) statement row ≡ true) new
      → wrote-at k ≡ written_in table new → Found k (found-in (suc k) statement table (run_before unannotated log t k past table ++ new))
  inserted k statement table may new all wrote =
      let old = run_before unannotated log t k past table in
      record {
        before = found-in (suc k) statement table old;
        is =
            ap (map (own-based (suc k) table)) (filter-append (is-own (suc k) statement) old new ∙ ap (λ (rest : List Row). filter (is-own (suc k) statement) old ++ rest) (all-own (suc k) statement new all))
            ∙ map-append (own-based (suc k) table) (filter (is-own (suc k) statement) old) new
            ∙ ap (λ (rest : List Based). found-in (suc k) statement table old ++ rest)
            (sym (map-map (with_base (base-of (suc k))) (λ (row : Row). record { table = table; identity = row.identity }) new) ∙ ap (map (with_base (base-of (suc k)))) (sym wrote));
        known = known-rows k statement table may old (start-marked k table);
      }

  touched : (k : ℕ) (statement : Statement) (table : ℕ) (rows : List Row) → AllByRecursion (λ (row : Row). is-own (suc k) statement row ≡ true) rows → wrote-at k ≡ written_in table rows
      → Found k (found-in (suc k) statement table rows)
  touched k statement table rows all wrote = record {
    before = [];
    is =
        ap (map (own-based (suc k) table)) (all-own (suc k) statement rows all)
        ∙ sym (map-map (with_base (base-of (suc k))) (λ (row : Row). record { table = table; identity = row.identity }) rows)
        ∙ ap (map (with_base (base-of (suc k)))) (sym wrote);
    known = tt;
  }

  given-own : (k n : ℕ) (table : ℕ) (all rows : List (List Cell)) → AllByRecursion (λ (row : Row). is-own k (insert table all) row ≡ true) (given_from unannotated t k n rows)
  given-own k n table all [] = tt
  given-own k n table all (cells ∷ rows) = ((λ i. (eq_itself t i && eq_itself k i) && true), given-own k (suc n) table all rows)

  made-own : (k table : ℕ) (select : Select) (elements : List (Element (Unit {0}))) → AllByRecursion (λ (row : Row). is-own k (insert_select table select) row ≡ true) (map (made unannotated t k) elements)
  made-own k table select [] = tt
  made-own k table select (element ∷ elements) = ((λ i. (eq_itself t i && eq_itself k i) && true), made-own k table select elements)

  each-own : (k : ℕ) (statement : Statement) → ((row : Row) → is-own k statement row ≡ true) → (rows : List Row) → AllByRecursion (λ (row : Row). is-own k statement row ≡ true) rows
  each-own k statement own [] = tt
  each-own k statement own (row ∷ rows) = (own row, each-own k statement own rows)

  found-is : (k : ℕ) (found : Option Statement) → statement_at t (suc k) dump.entries ≡ found → Found k (found-at (suc k) found)
  found-is k None is = record { before = []; is = ap (λ (own : Option Statement). map (with_base (base-of (suc k))) (wrote_by unannotated t (suc k) own (run_before unannotated log t k past))) (sym is); known = tt }
  found-is k (Some statement) is =
      by statement (ap (λ (own : Option Statement). wrote_by unannotated t (suc k) own (run_before unannotated log t k past)) is) (looked statement)
    where
      back : suc k - 1 ≡ k
      back = omega arith

      looked : (statement : Statement) → looked_at unannotated t (suc k) statement (run_before unannotated log t k past) ≡ rows_of dump t (suc k) statement
      looked statement = ap (λ n. looked_at unannotated t (suc n) statement (run_before unannotated log t n past)) (sym back)

      with-rows : (statement : Statement) (table : ℕ) (rows : List Row) → rows ≡ rows_of dump t (suc k) statement → Found k (found-in (suc k) statement table rows) → Found k (found-in (suc k) statement table (rows_of dump t (suc k) statement))
      with-rows statement table rows same found = subst (λ (own : List Row). Found k (found-in (suc k) statement table own)) same found

      -- the table of a changed database
      own-table : (table : ℕ) (rows : List Row) (db : Database (Unit {0})) → with_rows table rows db table ≡ rows
      own-table table rows db = ap (λ b. cond b rows (db table)) (eq_itself table)

      by : (statement : Statement) → wrote-at k ≡ wrote_by unannotated t (suc k) (Some statement) (run_before unannotated log t k past)
          → looked_at unannotated t (suc k) statement (run_before unannotated log t k past) ≡ rows_of dump t (suc k) statement
          → Found k (option_map_or (λ table. found-in (suc k) statement table (rows_of dump t (suc k) statement)) (target statement) [])
      by (insert table rows) wrote same =
          let db = run_before unannotated log t k past in
          let new = given_from unannotated t (suc k) 1 rows in
          with-rows (insert table rows) table (db table ++ new) (sym (own-table table (db table ++ new) db) ∙ same) (inserted k (insert table rows) table refl new (given-own (suc k) 1 table rows rows) wrote)
      by (insert_select table select) wrote same =
          let db = run_before unannotated log t k past in
          let new = map (made unannotated t (suc k)) (answer unannotated select db) in
          with-rows (insert_select table select) table (db table ++ new) (sym (own-table table (db table ++ new) db) ∙ same)
          (inserted k (insert_select table select) table refl new (made-own (suc k) table select (answer unannotated select db)) wrote)
      by (update table sets c) wrote same =
          let rows = filter (λ (row : Row). passes c row.cells) (run_before unannotated log t k past table) in
          with-rows (update table sets c) table rows same (touched k (update table sets c) table rows (each-own (suc k) (update table sets c) (λ row. refl) rows) wrote)
      by (delete table c) wrote same =
          let rows = filter (λ (row : Row). passes c row.cells) (run_before unannotated log t k past table) in
          with-rows (delete table c) table rows same (touched k (delete table c) table rows (each-own (suc k) (delete table c) (λ row. refl) rows) wrote)
      by (read select) wrote same = record { before = []; is = ap (map (with_base (base-of (suc k)))) (sym wrote); known = tt }

  -- each row once, they are those that the transaction wrote
  once-found : (k : ℕ) (rest : List Based) → once based_cmp based-total (all-found k ++ rest) ≡ once based_cmp based-total (dump_written dump t k ++ rest)
  once-found zero rest = refl
  once-found (suc k) rest =
      let own = found-is k (statement_at t (suc k) dump.entries) refl in
      let wrote = map (with_base (base-of (suc k))) (wrote-at k) in
      ap (once based_cmp based-total) (append_assoc (all-found k) (found-at (suc k) (statement_at t (suc k) dump.entries)) rest)
      ∙ once-found k (found-at (suc k) (statement_at t (suc k) dump.entries) ++ rest)
      ∙ ap (λ (list : List Based). once based_cmp based-total (dump_written dump t k ++ (list ++ rest))) own.is
      ∙ ap (λ (list : List Based). once based_cmp based-total (dump_written dump t k ++ list)) (append_assoc own.before wrote rest)
      ∙ once-without-all based_cmp based-total (dump_written dump t k) own.before (wrote ++ rest) own.known
      ∙ ap (once based_cmp based-total) (sym (append_assoc (dump_written dump t k) wrote rest))

  pub found-once : (k : ℕ) → once based_cmp based-total (all-found k) ≡ firsts (dump_written dump t k)
  found-once k =
      ap (once based_cmp based-total) (sym (append-nil (all-found k))) ∙ once-found k [] ∙ ap (once based_cmp based-total) (append-nil (dump_written dump t k))
      ∙ firsts-once (dump_written dump t k)

  -- ---- bases rise

  abbrev Rises : List Based → Type 0
  Rises [] = Unit {0}
  Rises (own ∷ all) = AllByRecursion (λ (other : Based). own.base ≤ other.base) all × Rises all

  abbrev Most : ℕ → List Based → Type 0
  Most base all = AllByRecursion (λ (own : Based). own.base ≤ base) all

  rises-append : (all others : List Based) (base : ℕ) → Rises all → Most base all → Rises others → AllByRecursion (λ (own : Based). base ≤ own.base) others → Rises (all ++ others)
  rises-append [] others base rise most up least = up
  rises-append (own ∷ all) others base rise most up least =
      (each_append (λ (other : Based). own.base ≤ other.base) all others rise.0 (through others least), rises-append all others base rise.1 most.1 up least)
    where
      through : (others : List Based) → AllByRecursion (λ (other : Based). base ≤ other.base) others → AllByRecursion (λ (other : Based). own.base ≤ other.base) others
      through [] least = tt
      through (other ∷ others) least = let below = most.0 in (omega (arith, least.0, below), through others least.1)

  abbrev HasBase : ℕ → List Based → Type 0
  HasBase base all = AllByRecursion (λ (own : Based). own.base ≡ base) all

  same-rises : (base : ℕ) (all : List Based) → HasBase base all → Rises all
  same-rises base [] has = tt
  same-rises base (own ∷ all) has = (go all has.1, same-rises base all has.1)
    where
      go : (others : List Based) → HasBase base others → AllByRecursion (λ (other : Based). own.base ≤ other.base) others
      go [] rest = tt
      go (other ∷ others) rest = (omega (arith, has.0, rest.0), go others rest.1)

  same-most : (base upto : ℕ) (all : List Based) → base ≤ upto → HasBase base all → Most upto all
  same-most base upto [] within has = tt
  same-most base upto (own ∷ all) within has = (omega (arith, has.0), same-most base upto all within has.1)

  same-least : (base low : ℕ) (all : List Based) → low ≤ base → HasBase base all → AllByRecursion (λ (own : Based). low ≤ own.base) all
  same-least base low [] within has = tt
  same-least base low (own ∷ all) within has = (omega (arith, has.0), same-least base low all within has.1)

  most-weaker : (low high : ℕ) (all : List Based) → low ≤ high → Most low all → Most high all
  most-weaker low high [] within most = tt
  most-weaker low high (own ∷ all) within most = (omega (arith, most.0), most-weaker low high all within most.1)

  found-base : (k : ℕ) (found : Option Statement) → HasBase (base-of k) (found-at k found)
  found-base k None = tt
  found-base k (Some statement) = by (target statement)
    where
      each : (table : ℕ) (rows : List Row) → HasBase (base-of k) (map (own-based k table) rows)
      each table [] = tt
      each table (row ∷ rows) = (refl, each table rows)

      by : (place : Option ℕ) → HasBase (base-of k) (option_map_or (λ table. found-in k statement table (rows_of dump t k statement)) place [])
      by None = tt
      by (Some table) = each table (filter (is-own k statement) (rows_of dump t k statement))

  module _ (keeps : KeepsSessions dump.entries) where
    found-rises : (k : ℕ) → k ≤ statement_count t dump.entries → Rises (all-found k) × Most (base-of k) (all-found k)
    found-rises zero within = (tt, tt)
    found-rises (suc k) within =
        let before = found-rises k (omega arith) in
        let up : base-of k ≤ base-of (suc k) = rising dump.entries keeps t k (suc k) (omega arith) within in
        let own = found-at (suc k) (statement_at t (suc k) dump.entries) in
        let has : HasBase (base-of (suc k)) own = found-base (suc k) (statement_at t (suc k) dump.entries) in (
          rises-append (all-found k) own (base-of k) before.0 before.1 (same-rises (base-of (suc k)) own has) (same-least (base-of (suc k)) (base-of k) own up has),
          each_append (λ (other : Based). other.base ≤ base-of (suc k)) (all-found k) own (most-weaker (base-of k) (base-of (suc k)) (all-found k) up before.1) (same-most (base-of (suc k)) (base-of (suc k)) own (omega arith) has),
        )

  -- ---- lines

  module _ (upto : ℕ) where
    abbrev writer : Based → Option ℕ
    writer own = first_writer (λ version. dump_wrote dump version own.pair) own.base (upto - own.base)

    abbrev is-met : Based → Bool
    is-met own = is_some (writer own)

    abbrev text-at : Based → ℕ → List ℕ
    text-at own version = conflict_text (name_at own.pair.table (tables_in dump.entries)) own.pair.identity own.base (committer_of version dump.entries) version

    abbrev line-by : Based → Option ℕ → RowLine
    line-by own found = row_line own.pair.table own.pair.identity (option_map_or (text-at own) found [])

    abbrev line-of : Based → RowLine
    line-of own = line-by own (writer own)

    same-pair : (own other : Based) → based_cmp own other ≡ Equal → own.pair ≡ other.pair
    same-pair own other is = by (nat_cmp own.pair.table other.pair.table) refl is
      where
        by : (o : Ordering) → nat_cmp own.pair.table other.pair.table ≡ o → ordering_then o (identity_cmp own.pair.identity other.pair.identity) ≡ Equal → own.pair ≡ other.pair
        by Less table is = absurd cc
        by Greater table is = absurd cc
        by Equal table is =
            let place : own.pair.table ≡ other.pair.table = subst (λ (o : Ordering). MatchOrdering o (own.pair.table < other.pair.table) (own.pair.table ≡ other.pair.table) (other.pair.table < own.pair.table)) table
            (ranked own.pair.table other.pair.table (nat_cmp own.pair.table other.pair.table) refl) in
            let id : own.pair.identity ≡ other.pair.identity = identity_cmp-exact own.pair.identity other.pair.identity is in
            (λ i. record { table = place i; identity = id i })

    passes-first : (all : List Based) → Rises all → PassesFirst based_cmp based-total is-met all
    passes-first [] rise = tt
    passes-first (own ∷ all) rise = (go all rise.0, passes-first all rise.1)
      where
        go : (others : List Based) → AllByRecursion (λ (other : Based). own.base ≤ other.base) others → AllByRecursion (λ (other : Based). based_cmp own other ≡ Equal → is-met other ≡ true → is-met own ≡ true) others
        go [] rest = tt
        go (other ∷ others) rest = (
          λ same met. later-writer (λ version. dump_wrote dump version own.pair) own.base other.base upto rest.0
              (ap (λ (pair : Written). is_some (first_writer (λ version. dump_wrote dump version pair) other.base (upto - other.base))) (same-pair own other same) ∙ met),
          go others rest.1,
        )

    -- the line of a row that the statement wrote
    met-line : (k : ℕ) (statement : Statement) (table : ℕ) (row : Row) (found : Option ℕ) → found ≡ writer (own-based k table row)
        → f.met_line dump.entries (name_at table (tables_in dump.entries)) (λ id. f.met_in (base-of k) upto id (table_spans dump.tables table)) (base-of k) t k statement table row.identity found
        ≡ cond (is_some found) (line-by (own-based k table row) found ∷ []) []
    met-line k statement table row None is = refl
    met-line k statement table row (Some version) is = refl

    abbrev kept-line : Based → List RowLine
    kept-line own = cond (is-met own) (line-of own ∷ []) []

    row-line : (k : ℕ) (statement : Statement) (table : ℕ) (row : Row)
        → f.row_conflict dump.entries (name_at table (tables_in dump.entries)) (λ id. f.met_in (base-of k) upto id (table_spans dump.tables table)) (base-of k) t k statement table (system_row row) (identity_of (system_row row))
        ≡ cond (is-own k statement row) (kept-line (own-based k table row)) []
    row-line k statement table row =
        ap (f.row_conflict dump.entries (name_at table (tables_in dump.entries)) (λ id. f.met_in (base-of k) upto id (table_spans dump.tables table)) (base-of k) t k statement table (system_row row)) (identity_found row)
        ∙ ap (λ b. cond (is_changed_by t k statement row.identity && (not (may_stop statement) || b))
        (f.met_line dump.entries (name_at table (tables_in dump.entries)) (λ id. f.met_in (base-of k) upto id (table_spans dump.tables table)) (base-of k) t k statement table row.identity
        (f.met_in (base-of k) upto row.identity (table_spans dump.tables table))) []) (mark-found row)
        ∙ ap (λ (lines : List RowLine). cond (is-own k statement row) lines [])
        (met-line k statement table row (f.met_in (base-of k) upto row.identity (table_spans dump.tables table)) (met-writer (base-of k) upto row.identity (table_spans dump.tables table))
        ∙ ap (λ (found : Option ℕ). cond (is_some found) (line-by (own-based k table row) found ∷ []) []) (met-writer (base-of k) upto row.identity (table_spans dump.tables table)))

    rows-lines : (k : ℕ) (statement : Statement) (table : ℕ) (rows : List Row)
        → f.rows_conflicts dump.entries (name_at table (tables_in dump.entries)) (λ id. f.met_in (base-of k) upto id (table_spans dump.tables table)) (base-of k) t k statement table (map system_row rows)
        ≡ flat_map kept-line (found-in k statement table rows)
    rows-lines k statement table [] = refl
    rows-lines k statement table (row ∷ rows) =
        (λ i. row-line k statement table row i ++ rows-lines k statement table rows i)
        ∙ elim (is-own k statement row) as (λ b. cond b (kept-line (own-based k table row)) [] ++ flat_map kept-line (found-in k statement table rows)
        ≡ flat_map kept-line (map (own-based k table) (cond b (row ∷ filter (is-own k statement) rows) (filter (is-own k statement) rows)))) [ true ↦ refl | false ↦ refl ]

    statement-lines : (k : ℕ) (found : Option Statement) → f.statement_conflicts dump upto t k found ≡ flat_map kept-line (found-at k found)
    statement-lines k None = refl
    statement-lines k (Some statement) = by (target statement)
      where
        by : (place : Option ℕ) → option_map_or (f.writing_conflicts dump upto t k statement) place [] ≡ flat_map kept-line (option_map_or (λ table. found-in k statement table (rows_of dump t k statement)) place [])
        by None = refl
        by (Some table) = rows-lines k statement table (rows_of dump t k statement)

    all-lines : (k : ℕ) → f.first_conflicts dump upto t k ≡ flat_map kept-line (all-found k)
    all-lines zero = refl
    all-lines (suc k) =
        (λ i. all-lines k i ++ statement-lines (suc k) (statement_at t (suc k) dump.entries) i)
        ∙ sym (flat_map-append kept-line (all-found k) (found-at (suc k) (statement_at t (suc k) dump.entries)))

    kept-lines : (all : List Based) → flat_map kept-line all ≡ map line-of (filter is-met all)
    kept-lines [] = refl
    kept-lines (own ∷ all) =
        ap (λ (rest : List RowLine). kept-line own ++ rest) (kept-lines all)
        ∙ elim (is-met own) as (λ b. cond b (line-of own ∷ []) [] ++ map line-of (filter is-met all) ≡ map line-of (cond b (own ∷ filter is-met all) (filter is-met all))) [ true ↦ refl | false ↦ refl ]

    told : (all : List Based) → map (λ (line : RowLine). line.1) (map line-of (filter is-met all)) ≡ flat_map (conflict_lines dump.entries (tables_in dump.entries) (dump_wrote dump) upto) all
    told [] = refl
    told (own ∷ all) =
        elim (is-met own) as (λ b. map (λ (line : RowLine). line.1) (map line-of (cond b (own ∷ filter is-met all) (filter is-met all))) ≡ cond b ((line-of own).1 ∷ []) [] ++ map (λ (line : RowLine). line.1) (map line-of (filter is-met all))) [ true ↦ refl | false ↦ refl ]
        ∙ (λ i. by (writer own) i ++ told all i)
      where
        by : (found : Option ℕ) → cond (is_some found) (option_map_or (text-at own) found [] ∷ []) [] ≡ option_map_or (λ version. text-at own version ∷ []) found []
        by None = refl
        by (Some version) = refl

    -- the texts of the first lines of all rows
    pub texts-are : KeepsSessions dump.entries → (k : ℕ) → k ≤ statement_count t dump.entries
        → first_texts None (sorted_by row_cmp (keyed_from 0 (f.first_conflicts dump upto t k)))
        ≡ flat_map (conflict_lines dump.entries (tables_in dump.entries) (dump_wrote dump) upto) (sorted_by based_cmp (firsts (dump_written dump t k)))
    texts-are keeps k within =
        let all = all-found k in
        first-lines (f.first_conflicts dump upto t k)
        ∙ ap (map (λ (line : RowLine). line.1))
        (ap (λ (lines : List RowLine). sorted_by line_cmp (once line_cmp line-total lines)) (all-lines k ∙ kept-lines all)
        ∙ ap (sorted_by line_cmp) (once-map based_cmp line_cmp line-of (λ own other. refl) based-total line-total (filter is-met all))
        ∙ ap (λ (own : List Based). sorted_by line_cmp (map line-of own)) (once-kept based_cmp based-total is-met all (passes-first all (found-rises keeps k within).0))
        ∙ sorted-map based_cmp line_cmp line-of (λ own. Unit {0}) (λ own other a b. refl) (filter is-met (once based_cmp based-total all)) (every (filter is-met (once based_cmp based-total all)))
        ∙ ap (map line-of) (sym (kept-sorted based_cmp based-total is-met (once based_cmp based-total all))))
        ∙ told (sorted_by based_cmp (once based_cmp based-total all))
        ∙ ap (λ (own : List Based). flat_map (conflict_lines dump.entries (tables_in dump.entries) (dump_wrote dump) upto) (sorted_by based_cmp own)) (found-once k)
      where
        every : (all : List Based) → AllByRecursion (λ (own : Based). Unit {0}) all
        every [] = tt
        every (own ∷ all) = (tt, every all)
