-- The lines of the changes of rows, as the code makes them, are those of the history of the rows.
use Rattle.std.proofs.Common.{◌≡◌, ◌≢◌, ℕ, zero, suc, ◌+◌, ◌-◌, ◌<◌, ◌≤◌, Bool, true, false, cond, List, [], ◌∷◌, ◌++◌, drop, get_or, length, map, Option, None, Some, Ok, Err, refl, sym, ap, ◌∙◌, arith}
use Rattle.std.specs.Prelude.{◌&&◌, ◌==◌, filter, nat_le, nat_lt}
use Rattle.std.specs.List.{AllByRecursion, list_all}
use Rattle.std.specs.Option.{option_and_then, option_map_or, option_or}
use Rattle.std.specs.Ordering.{is_le, ordering_then}
use Rattle.std.specs.declared.cmp.Ordering.{Ordering}
use Rattle.std.proofs.lemmas.Bool.{and_parts, le-leb, le-ltb, leb-false, leb-true, lt-ltb, ltb-false, ltb-true}
use Rattle.std.proofs.lemmas.Cmp.{nat_cmp_total, tied_itself}
use Rattle.std.proofs.lemmas.List.{at_drop_more, map-append}
use Rattle.gp_base.proofs.SmallLemmas.{all_weaker, eq_itself, eq_not, length-map, map-map}
use Rattle.gp_base.specs.declared.cell.Cell.{Cell}
use Rattle.gp_base.specs.declared.limit.TheConstants.{MAX_ANSWER_ROWS}
use Rattle.gp_base.specs.declared.refusal.Refusal.{Refusal}
use Rattle.gp_base.specs.declared.refusal.Refusal.TheVariants.{E27}
use Rattle.gp_base.specs.declared.table.Table.{Table}
use Rattle.gp_base.specs.Annotated.{Annotated, Database, Environment, unannotated}
use Rattle.gp_base.specs.Identities.{Identity, identity_cmp}
use Rattle.gp_base.specs.Order.{row_cmp, sorted_by}
use Rattle.gp_grammar.specs.Syntax as y
use Rattle.gp_log.proofs.KeptSessions.{orderly}
use Rattle.gp_log.specs.Parameters.{parameters}
use Rattle.gp_log.specs.Sessions.{KeepsSessions}
use Rattle.gp_expr.specs.ExpressionForms.{cond_is_simple}
use Rattle.gp_expr.specs.Expressions.{Cond}
use Rattle.gp_algebra.specs.Fitting.{branch_fits, is_countable, is_there, joined_width, optional_cond_fits, select_fits, select_width}
use Rattle.gp_algebra.specs.Statements.{Branch, Select, Statement, target}
use Rattle.gp_algebra.specs.Views.{branch_view}
use Rattle.gp_algebra.specs.declared.statement.Branch as stored
use Rattle.gp_compose.specs.Seen.{is_changed_by, looked_at}
use Rattle.gp_dump.specs.Dumps.{Dump}
use Rattle.gp_machine.specs.Entries.{Entry, committer_of, log_of, statement_at, statement_count, transactions_in, versions_in}
use Rattle.gp_machine.specs.HistorySpans.{as_of}
use Rattle.gp_machine.specs.Questions.{given, is_known, own_stop}
use Rattle.gp_machine.specs.Runs.{run_before}
use Rattle.gp_reenact.specs.LookingForms.{Looks, system_row}
use Rattle.gp_base.specs.declared.stop.Stop.TheVariants as stop
use Rattle.gp_ask.specs.declared.answered.Answered.{Answered}
use Rattle.gp_ask.specs.declared.answered.Answered.TheVariants.{Lines, Refused}
use Rattle.gp_ask.specs.declared.answered.Heading.TheVariants.{History}
use Rattle.gp_ask.specs.Asking.{table_spans}
use Rattle.gp_ask.specs.Changes.{Change, changed_by}
use Rattle.gp_ask.specs.HistoryForms as f
use Rattle.gp_ask.specs.Keyed.{identity_of}
use Rattle.gp_ask.specs.Looked.{rows_of}
use Rattle.gp_ask.specs.RowHistories as s
use Rattle.gp_ask.specs.RowLines.{RowLine, few, keyed_from, line_cmp, listed, row_line, row_texts}
use Rattle.gp_ask.specs.Values.{unless_refused}
use Rattle.gp_ask.proofs.ChangesLemmas.{cells_found, identity_found}
use Rattle.gp_ask.proofs.FewLines.{all-taken, taken-length}
use Rattle.gp_ask.proofs.IntervalLines.{sorted-map}
use Rattle.gp_ask.proofs.RowLineLemmas.{keyed-length, sorted-lines}
use Rattle.gp_ask.proofs.StatementLines.{changed-is, shown}

abbrev Row : Type 0
Row = Annotated (Unit {0})

-- a line of a history
abbrev pub Told : Type 0
Told = Identity × List ℕ

-- ---- conditions

simple-cond : (width : ℕ) (c : Option Cond) → optional_cond_fits width c ≡ true → option_map_or cond_is_simple c true ≡ true
simple-cond width None fits = refl
simple-cond width (Some c) fits = (and_parts (cond_is_simple c) _ fits).0

simple-branch : (tables : List Table) (width : ℕ) (branch : Branch) → branch_fits tables width branch ≡ true → f.is_simple_branch branch ≡ true
simple-branch tables width branch fits =
    let one = and_parts (nat_lt 0 (length branch.from)) _ fits in
    let two = and_parts (list_all (is_there tables) branch.from) _ one.1 in
    let three = and_parts (nat_lt 0 (length branch.items)) _ two.1 in
    let four = and_parts (length branch.items == width) _ three.1 in
    let five = and_parts (list_all _ branch.items) (optional_cond_fits (joined_width tables branch.from) branch.cond) four.1 in
    simple-cond (joined_width tables branch.from) branch.cond five.1

pub simple-select : (tables : List Table) (select : Select) → select_fits tables select ≡ true → f.is_simple_select select ≡ true
simple-select tables select fits =
    all_weaker (branch_fits tables (select_width select)) f.is_simple_branch (simple-branch tables (select_width select)) select
    (and_parts (is_countable select) (list_all (branch_fits tables (select_width select)) select) fits).1

-- a branch of them
pub simple-next : (branches : List stored.Branch) (i : ℕ) (branch : stored.Branch) → i < length branches → branch ≡ get_or branches i branch
    → list_all f.is_simple_branch (map branch_view (drop i branches)) ≡ true → f.is_simple_branch (branch_view branch) ≡ true
simple-next branches i branch within is all =
    ap (λ (own : stored.Branch). f.is_simple_branch (branch_view own)) is
    ∙ (and_parts (f.is_simple_branch (branch_view (get_or branches i branch))) (list_all f.is_simple_branch (map branch_view (drop (i + 1) branches)))
    (sym (at_drop_more (λ (own : List stored.Branch). list_all f.is_simple_branch (map branch_view own)) branches i branch within) ∙ all)).0

-- ---- a statement

module _ (is_asked : Identity → Bool) (version t k : ℕ) (statement : Statement) (table : ℕ) where
  abbrev line-of : Change → RowLine
  line-of change = row_line table change.0 (s.history_text version t k change)

  abbrev is-told : Row → Bool
  is-told row = is_changed_by t k statement row.identity && is_asked row.identity

  row-told : (row : Row) → f.row_change is_asked version t k statement table (system_row row) (identity_of (system_row row)) ≡ cond (is-told row) (line-of (shown statement row) ∷ []) []
  row-told row =
      ap (f.row_change is_asked version t k statement table (system_row row)) (identity_found row)
      ∙ ap (λ (cells : List Cell). cond (is-told row) (f.change_line version t k statement table row.identity cells ∷ []) []) (cells_found row)

  row-untold : (row : Row) → is_asked row.identity ≡ false → f.row_change is_asked version t k statement table (system_row row) (identity_of (system_row row)) ≡ []
  row-untold row is = row-told row ∙ ap (λ b. cond b (line-of (shown statement row) ∷ []) []) (ap (λ b. is_changed_by t k statement row.identity && b) is ∙ none (is_changed_by t k statement row.identity))
    where
      none : (b : Bool) → (b && false) ≡ false
      none true = refl
      none false = refl

  pub rows-told : (rows : List Row) → f.rows_changes is_asked version t k statement table (map system_row rows)
      ≡ map line-of (filter (λ (change : Change). is_asked change.0) (map (shown statement) (filter (λ (row : Row). is_changed_by t k statement row.identity) rows)))
  rows-told [] = refl
  rows-told (row ∷ rows) =
      (λ i. row-told row i ++ rows-told rows i)
      ∙ elim (is_changed_by t k statement row.identity) as (λ b.
      cond (b && is_asked row.identity) (line-of (shown statement row) ∷ []) []
      ++ map line-of (filter (λ (change : Change). is_asked change.0) (map (shown statement) (filter (λ (row : Row). is_changed_by t k statement row.identity) rows)))
      ≡ map line-of (filter (λ (change : Change). is_asked change.0) (map (shown statement) (cond b (row ∷ filter (λ (row : Row). is_changed_by t k statement row.identity) rows) (filter (λ (row : Row). is_changed_by t k statement row.identity) rows))))) [
        | true ↦ elim (is_asked row.identity) as (λ c.
            cond c (line-of (shown statement row) ∷ []) []
            ++ map line-of (filter (λ (change : Change). is_asked change.0) (map (shown statement) (filter (λ (row : Row). is_changed_by t k statement row.identity) rows)))
            ≡ map line-of (cond c (shown statement row ∷ filter (λ (change : Change). is_asked change.0) (map (shown statement) (filter (λ (row : Row). is_changed_by t k statement row.identity) rows)))
            (filter (λ (change : Change). is_asked change.0) (map (shown statement) (filter (λ (row : Row). is_changed_by t k statement row.identity) rows))))) [ true ↦ refl | false ↦ refl ]
        | false ↦ refl
      ]

  -- they are of the rows that are asked for alone
  pub kept-told : (rows : List Row) → f.rows_changes is_asked version t k statement table (map system_row (filter (λ (row : Row). is_asked row.identity) rows))
      ≡ f.rows_changes is_asked version t k statement table (map system_row rows)
  kept-told [] = refl
  kept-told (row ∷ rows) =
      elim (is_asked row.identity) as (λ b. is_asked row.identity ≡ b → f.rows_changes is_asked version t k statement table
      (map system_row (cond b (row ∷ filter (λ (row : Row). is_asked row.identity) rows) (filter (λ (row : Row). is_asked row.identity) rows)))
      ≡ f.rows_changes is_asked version t k statement table (map system_row (row ∷ rows))) [
        | true ↦ λ is. ap (λ (more : List RowLine). f.row_change is_asked version t k statement table (system_row row) (identity_of (system_row row)) ++ more) (kept-told rows)
        | false ↦ λ is. kept-told rows ∙ ap (λ (first : List RowLine). first ++ f.rows_changes is_asked version t k statement table (map system_row rows)) (sym (row-untold row is))
      ] refl

-- ---- the statements of a dump

module _ (dump : Dump) (table : ℕ) (is_asked : Identity → Bool) where
  abbrev past : Environment (Unit {0})
  past = as_of unannotated (table_spans dump.tables)

  abbrev as-line : Told → RowLine
  as-line line = row_line table line.0 line.1

  abbrev told-of : ℕ → ℕ → ℕ → List Change → List Told
  told-of version t k changes = map (λ (change : Change). (change.0, s.history_text version t k change)) (filter (λ (change : Change). is_asked change.0) changes)

  written-told : (version t k : ℕ) (statement : Statement)
      → f.rows_changes is_asked version t (suc k) statement table (map system_row (rows_of dump t (suc k) statement))
      ≡ map as-line (told-of version t (suc k) (changed_by unannotated t (suc k) statement (run_before unannotated (log_of dump.entries) t (suc k - 1) past)))
  written-told version t k statement =
      let db : Database (Unit {0}) = run_before unannotated (log_of dump.entries) t (suc k - 1) past in
      let back : suc k - 1 ≡ k = omega arith in
      let looked : rows_of dump t (suc k) statement ≡ looked_at unannotated t (suc k) statement db = ap (λ n. looked_at unannotated t (suc n) statement db) back in
      ap (λ (rows : List Row). f.rows_changes is_asked version t (suc k) statement table (map system_row rows)) looked
      ∙ rows-told is_asked version t (suc k) statement table (looked_at unannotated t (suc k) statement db)
      ∙ ap (λ (changes : List Change). map (line-of is_asked version t (suc k) statement table) (filter (λ (change : Change). is_asked change.0) changes)) (sym (changed-is unannotated t (suc k) statement db))
      ∙ sym (map-map as-line (λ (change : Change). (change.0, s.history_text version t (suc k) change)) (filter (λ (change : Change). is_asked change.0) (changed_by unannotated t (suc k) statement db)))

  statement-told : (version t k : ℕ) → f.statement_changes dump table is_asked version t (suc k) (statement_at t (suc k) dump.entries) ≡ map as-line (told-of version t (suc k) (f.dump_changed dump table t (suc k)))
  statement-told version t k = by (statement_at t (suc k) dump.entries)
    where
      by : (found : Option Statement) → f.statement_changes dump table is_asked version t (suc k) found
          ≡ map as-line (told-of version t (suc k) (option_map_or (λ (statement : Statement).
          cond (option_map_or (λ (place : ℕ). place == table) (target statement) false) (changed_by unannotated t (suc k) statement (run_before unannotated (log_of dump.entries) t (suc k - 1) past)) []) found []))
      by None = refl
      by (Some statement) = elim (option_map_or (λ (place : ℕ). place == table) (target statement) false) as (λ b.
          cond b (f.rows_changes is_asked version t (suc k) statement table (map system_row (rows_of dump t (suc k) statement))) []
          ≡ map as-line (told-of version t (suc k) (cond b (changed_by unannotated t (suc k) statement (run_before unannotated (log_of dump.entries) t (suc k - 1) past)) []))) [
            | true ↦ written-told version t k statement
            | false ↦ refl
          ]

  statements-told : (version k : ℕ) → f.first_changes dump table is_asked version (committer_of version dump.entries) k ≡ map as-line (s.statement_lines dump.entries is_asked (f.dump_changed dump table) version k)
  statements-told version zero = refl
  statements-told version (suc k) =
      (λ i. statements-told version k i ++ statement-told version (committer_of version dump.entries) k i)
      ∙ sym (map-append as-line (s.statement_lines dump.entries is_asked (f.dump_changed dump table) version k) (told-of version (committer_of version dump.entries) (suc k) (f.dump_changed dump table (committer_of version dump.entries) (suc k))))

  versions-told : (n : ℕ) → f.versions_changes dump table is_asked n ≡ map as-line (s.version_lines dump.entries is_asked (f.dump_changed dump table) n)
  versions-told zero = refl
  versions-told (suc u) =
      let t = committer_of (suc u) dump.entries in
      (λ i. versions-told u i ++ statements-told (suc u) (statement_count t dump.entries) i)
      ∙ sym (map-append as-line (s.version_lines dump.entries is_asked (f.dump_changed dump table) u) (s.statement_lines dump.entries is_asked (f.dump_changed dump table) (suc u) (statement_count t dump.entries)))

  abbrev by-identity : Told → Told → Ordering
  by-identity line other = identity_cmp line.0 other.0

  agree : (line other : Told) → Unit {0} → Unit {0} → is_le (line_cmp (as-line line) (as-line other)) ≡ is_le (by-identity line other)
  agree line other a b = ap (λ (o : Ordering). is_le (ordering_then o (identity_cmp line.0 other.0))) (tied_itself nat_cmp_total table)

  every : (lines : List Told) → AllByRecursion (λ line. Unit {0}) lines
  every [] = tt
  every (line ∷ lines) = (tt, every lines)

  abbrev answer-of : List Told → Answered
  answer-of lines = cond (nat_lt MAX_ANSWER_ROWS (length lines)) (Refused E27) (Lines History (map (λ (line : Told). line.1) (sorted_by by-identity lines)))

  listed-whole : (lines : List Told) → listed History (keyed_from 0 (few (map as-line lines))) ≡ answer-of lines
  listed-whole lines = by (nat_lt MAX_ANSWER_ROWS (length lines)) refl
    where
      all : List RowLine
      all = map as-line lines

      counted : length (keyed_from 0 (few (map as-line lines))) ≡ length (few (map as-line lines))
      counted = keyed-length 0 (few (map as-line lines))

      by : (b : Bool) → nat_lt MAX_ANSWER_ROWS (length lines) ≡ b → listed History (keyed_from 0 (few (map as-line lines))) ≡ cond b (Refused E27) (Lines History (map (λ (line : Told). line.1) (sorted_by by-identity lines)))
      by true is =
          ap (λ b. cond b (Refused E27) (Lines History (row_texts (sorted_by row_cmp (keyed_from 0 (few (map as-line lines)))))))
          (lt-ltb MAX_ANSWER_ROWS (length (keyed_from 0 (few (map as-line lines))))
          (omega (arith, counted, ltb-true MAX_ANSWER_ROWS (length lines) is, length-map as-line lines, taken-length MAX_ANSWER_ROWS (map as-line lines))))
      by false is =
          let below : length lines ≤ MAX_ANSWER_ROWS = ltb-false MAX_ANSWER_ROWS (length lines) is in
          let whole : few (map as-line lines) ≡ map as-line lines = all-taken (suc MAX_ANSWER_ROWS) (map as-line lines) (omega (arith, length-map as-line lines)) in
          ap (λ (own : List RowLine). listed History (keyed_from 0 own)) whole
          ∙ ap (λ b. cond b (Refused E27) (Lines History (row_texts (sorted_by row_cmp (keyed_from 0 (map as-line lines))))))
          (le-ltb MAX_ANSWER_ROWS (length (keyed_from 0 (map as-line lines))) (omega (arith, keyed-length 0 (map as-line lines), length-map as-line lines)))
          ∙ ap (Lines History)
          (sorted-lines (map as-line lines)
          ∙ ap (map (λ (line : RowLine). line.1)) (sorted-map by-identity line_cmp as-line (λ line. Unit {0}) agree lines (every lines))
          ∙ map-map (λ (line : RowLine). line.1) as-line (sorted_by by-identity lines))

  -- the answer
  pub listed-is : listed History (keyed_from 0 (few (f.versions_changes dump table is_asked (versions_in dump.entries)))) ≡ s.history_of dump.entries is_asked (f.dump_changed dump table)
  listed-is =
      ap (λ (lines : List RowLine). listed History (keyed_from 0 (few lines))) (versions-told (versions_in dump.entries))
      ∙ listed-whole (s.version_lines dump.entries is_asked (f.dump_changed dump table) (versions_in dump.entries))

-- ---- one statement

module _ (dump : Dump) (table : ℕ) (is_asked : Identity → Bool) (version t k : ℕ) where
  -- one that writes the table
  pub own-changes : (statement : Statement) → target statement ≡ Some table
      → f.rows_changes is_asked version t k statement table (map system_row (rows_of dump t k statement)) ≡ f.statement_changes dump table is_asked version t k (Some statement)
  own-changes statement is =
      ap (λ b. cond b (f.rows_changes is_asked version t k statement table (map system_row (rows_of dump t k statement))) []) (sym (eq_itself table))
      ∙ ap (λ (found : Option ℕ). cond (option_map_or (λ (place : ℕ). place == table) found false) (f.rows_changes is_asked version t k statement table (map system_row (rows_of dump t k statement))) []) (sym is)

  -- one that writes another
  pub other-changes : (statement : Statement) (other : ℕ) → target statement ≡ Some other → other ≢ table → f.statement_changes dump table is_asked version t k (Some statement) ≡ []
  other-changes statement other is apart =
      ap (λ (found : Option ℕ). cond (option_map_or (λ (place : ℕ). place == table) found false) (f.rows_changes is_asked version t k statement table (map system_row (rows_of dump t k statement))) []) is
      ∙ ap (λ b. cond b (f.rows_changes is_asked version t k statement table (map system_row (rows_of dump t k statement))) []) (eq_not other table apart)

  -- one that writes none, or none
  pub no-changes : (found : Option Statement) → option_and_then target found ≡ None → f.statement_changes dump table is_asked version t k found ≡ []
  no-changes None none = refl
  no-changes (Some statement) none =
      ap (λ (found : Option ℕ). cond (option_map_or (λ (place : ℕ). place == table) found false) (f.rows_changes is_asked version t k statement table (map system_row (rows_of dump t k statement))) []) none

-- ---- a checked query

module _ (dump : Dump) (table : ℕ) (select : Select) (asked : Identity → Bool) (same : (id : Identity) → asked id ≡ f.dump_asked dump table select id) where
  abbrev rows : List (List Cell)
  rows = keyed_from 0 (few (f.versions_changes dump table asked (versions_in dump.entries)))

  -- the answer of what is found, or what it is refused for
  pub found-history : (refusal : Option Refusal) → {X : Type 0} (view : X → List (List Cell)) (found : X) → Looks view (Ok found) (given refusal rows)
      → listed History (view found) ≡ unless_refused refusal (s.history_of dump.entries (f.dump_asked dump table select) (f.dump_changed dump table))
  found-history None view found is =
      ap (listed History) is ∙ listed-is dump table asked ∙ (λ i. s.history_of dump.entries (λ id. same id i) (f.dump_changed dump table))
  found-history (Some refusal) view found is = absurd is

  pub refused-history : (refusal : Option Refusal) → {X : Type 0} (view : X → List (List Cell)) (own : Refusal) → Looks view (Err (stop.Refused own)) (given refusal rows)
      → Refused own ≡ unless_refused refusal (s.history_of dump.entries (f.dump_asked dump table select) (f.dump_changed dump table))
  refused-history None view own is = absurd is
  refused-history (Some refusal) view own is = ap Refused is

-- ---- the transaction that made a version

-- is known
pub maker-known : (entries : List Entry) → KeepsSessions entries → (u : ℕ) → u < versions_in entries → is_known (committer_of (suc u) entries) entries ≡ true
maker-known entries keeps u within =
    let own = (orderly entries keeps).makers u within in
    (λ i. lt-ltb 0 (committer_of (suc u) entries) (omega (arith, own.0)) i && le-leb (committer_of (suc u) entries) (transactions_in entries) own.1 i)

-- what a version is refused for, later ones are
pub stop-later : (dump : Dump) (refusal : Refusal) (u n : ℕ) → u ≤ n → f.stop_upto dump u ≡ Some refusal → f.stop_upto dump n ≡ Some refusal
stop-later dump refusal u zero within is = let same : u ≡ zero = omega arith in ap (f.stop_upto dump) (sym same) ∙ is
stop-later dump refusal u (suc n) within is = by (nat_le u n) refl (λ below. stop-later dump refusal u n below is)
  where
    by : (b : Bool) → nat_le u n ≡ b → (u ≤ n → f.stop_upto dump n ≡ Some refusal) → f.stop_upto dump (suc n) ≡ Some refusal
    by true own rest = ap (λ (found : Option Refusal). option_or found (own_stop unannotated parameters dump.entries (y.Point.commit (committer_of (suc n) dump.entries)) (as_of unannotated (table_spans dump.tables)))) (rest (leb-true u n own))
    by false own rest = let same : u ≡ suc n = omega (arith, leb-false u n own) in ap (f.stop_upto dump) (sym same) ∙ is
