-- The answer of a checked query to WHEN, by the answers over the versions: of a version that wrote no table of the query it is that of the version before.
use Rattle.std.proofs.Common.{◌≡◌, ℕ, zero, suc, ◌<◌, ◌≤◌, Bool, true, false, cond, List, [], ◌∷◌, ◌++◌, length, map, Option, None, Some, Result, Ok, Err, refl, sym, ap, ◌∙◌, subst, arith}
use Rattle.std.specs.Prelude.{◌&&◌, ◌==◌, filter, nat_le, nat_lt}
use Rattle.std.specs.List.{AllByRecursion, flat_map, list_all, list_any, zip}
use Rattle.std.specs.Option.{option_map_or, option_or}
use Rattle.std.specs.Result.{result_err, result_unwrap_or}
use Rattle.std.proofs.lemmas.List.{append-nil, length-append, map-append}
use Rattle.std.proofs.lemmas.Option.{same_Some}
use Rattle.std.proofs.lemmas.Bool.{and_parts, eqb-true, eqb-false, le-leb, leb-false, leb-true, lt-leb, lt-ltb, ltb-false, ltb-true, or_parts}
use Rattle.gp_base.proofs.OrderLemmas.{rows_sorted}
use Rattle.gp_base.proofs.SmallLemmas.{each_append, each_map, length-map, none_parts, some_none}
use Rattle.gp_base.specs.declared.cell.Cell.{Cell}
use Rattle.gp_base.specs.declared.limit.TheConstants.{MAX_ANSWER_ROWS}
use Rattle.gp_base.specs.declared.refusal.Refusal.{Refusal}
use Rattle.gp_base.specs.declared.refusal.Refusal.TheVariants.{E23, E27}
use Rattle.gp_base.specs.Annotated.{Annotated, Database, unannotated}
use Rattle.gp_base.specs.Order.{row_cmp, sorted_by}
use Rattle.gp_algebra.specs.Answers.{Element, answer, answer_from, cells_of, choices, chosen, joined, passes_where, values}
use Rattle.gp_base.specs.declared.table.Table.{Table}
use Rattle.gp_expr.specs.Values.{value}
use Rattle.gp_algebra.specs.Fitting.{branch_fits, is_countable, is_there, select_fits, select_width}
use Rattle.gp_algebra.specs.Statements.{Branch, Select}
use Rattle.gp_check.specs.Checking.{checked_query}
use Rattle.gp_dump.specs.Dumps.{Dump}
use Rattle.gp_grammar.specs.Syntax as y
use Rattle.gp_log.specs.LogFacts.{tables_in}
use Rattle.gp_log.specs.Parameters.{parameters}
use Rattle.gp_machine.specs.Entries.{versions_in}
use Rattle.gp_machine.specs.HistorySpans.{as_of}
use Rattle.gp_machine.specs.Questions.{answer_refusal, given, log_refusal, rows_answer}
use Rattle.gp_reenact.specs.Reenacting.{Reenacts}
use Rattle.gp_base.specs.declared.stop.Stop.{Stop}
use Rattle.gp_base.specs.declared.stop.Stop.TheVariants as stop
use Rattle.gp_versions.specs.declared.span.Span.{Span}
use Rattle.gp_versions.specs.Spans.{holds_at, is_before_end, row_of, spans_at}
use Rattle.gp_ask.specs.declared.answered.Answered.TheVariants.{Lines, Refused}
use Rattle.gp_ask.specs.declared.answered.Heading.TheVariants.{When}
use Rattle.gp_ask.specs.Asking.{asked, of_elements, table_spans}
use Rattle.gp_ask.specs.AskingForms.{dump_rows}
use Rattle.gp_ask.specs.ChangeForms.{ends_at}
use Rattle.gp_ask.specs.Differences.{rows_in}
use Rattle.gp_ask.specs.IntervalForms as f
use Rattle.gp_ask.specs.Intervals.{Interval, ending_before, ending_with, interval_cmp, interval_lines, interval_text, interval_upto, intervals, numbered, refusal_upto, times, version_rows}
use Rattle.gp_ask.specs.Printed.{query_to}
use Rattle.gp_ask.specs.RowLines.{listed}
use Rattle.gp_ask.specs.Values.{or_refused, unless_refused}
use Rattle.gp_ask.proofs.CarriedLemmas.{Ascends, all-made, ascends, closed-is, open-rows}
use Rattle.gp_ask.proofs.IntervalLemmas.{all-carried, none-closed, rows-of, zipped-again}
use Rattle.gp_ask.proofs.IntervalLines.{IsWide, all-sorted, listed-is}
use Rattle.gp_ask.proofs.ReenactedLemmas.{in-order, refused}

-- ---- a version that wrote no table of the query

untouched-end : (v : ℕ) (to : Option ℕ) → option_map_or (λ (end : ℕ). end == suc v) to false ≡ false → is_before_end (suc v) to ≡ is_before_end v to
untouched-end v None none = refl
untouched-end v (Some to) none = by (nat_lt v to) refl
  where
    by : (b : Bool) → nat_lt v to ≡ b → nat_lt (suc v) to ≡ nat_lt v to
    by true is = let other = eqb-false to (suc v) none in lt-ltb (suc v) to (omega (arith, ltb-true v to is, other)) ∙ sym is
    by false is = false-lt (ltb-false v to is) ∙ sym is
      where
        false-lt : to ≤ v → nat_lt (suc v) to ≡ false
        false-lt below = by-lt (nat_lt (suc v) to) refl
          where
            by-lt : (c : Bool) → nat_lt (suc v) to ≡ c → nat_lt (suc v) to ≡ false
            by-lt true e = absurd (omega (arith, ltb-true (suc v) to e))
            by-lt false e = e

untouched-from : (v from : ℕ) → (from == suc v) ≡ false → nat_le from (suc v) ≡ nat_le from v
untouched-from v from none = by (nat_le from v) refl
  where
    by : (b : Bool) → nat_le from v ≡ b → nat_le from (suc v) ≡ nat_le from v
    by true is = le-leb from (suc v) (omega (arith, leb-true from v is)) ∙ sym is
    by false is = let other = eqb-false from (suc v) none in lt-leb from (suc v) (omega (arith, leb-false from v is, other)) ∙ sym is

untouched : (v : ℕ) (span : Span) → f.is_touched (suc v) span ≡ false → holds_at (suc v) span ≡ holds_at v span
untouched v span none =
    let parts = or_parts (span.from == suc v) (ends_at (suc v) span) none in
    (λ i. untouched-from v span.from parts.0 i && untouched-end v span.to parts.1 i)

same-spans : (v : ℕ) (spans : List Span) → list_any (f.is_touched (suc v)) spans ≡ false → spans_at (suc v) spans ≡ spans_at v spans
same-spans v [] none = refl
same-spans v (span ∷ spans) none =
    let parts = or_parts (f.is_touched (suc v) span) (list_any (f.is_touched (suc v)) spans) none in
    (λ i. cond (untouched v span parts.0 i) (span ∷ same-spans v spans parts.1 i) (same-spans v spans parts.1 i))

-- ---- answers over alike tables

module _ {M : Type 0} (db other : Database M) where
  abbrev Alike : List ℕ → Type 0
  Alike tables = AllByRecursion (λ table. db table ≡ other table) tables

  abbrev AllAlike : Select → Type 0
  AllAlike select = AllByRecursion (λ (branch : Branch). Alike branch.from) select

module _ (db other : Database (Unit {0})) where
  same-choices : (number : ℕ) (tables : List ℕ) → Alike db other tables → choices unannotated number tables db ≡ choices unannotated number tables other
  same-choices number [] alike = refl
  same-choices number (table ∷ tables) alike =
      (λ i. flat_map (λ (row : Annotated (Unit {0})). map (joined unannotated number row) (same-choices number tables alike.1 i)) (alike.0 i))

  same-answer : (number : ℕ) (select : Select) → AllAlike db other select → answer_from unannotated number select db ≡ answer_from unannotated number select other
  same-answer number [] alike = refl
  same-answer number (branch ∷ branches) alike =
      (λ i. map (λ (element : Element (Unit {0})). record element { cells = values branch.items element.cells })
      (filter (λ (element : Element (Unit {0})). passes_where branch.cond element.cells) (same-choices number branch.from alike.0 i)) ++ same-answer (suc number) branches alike.1 i)

-- ---- the width of the rows

abbrev AreWide : ℕ → List (List Cell) → Type 0
AreWide width rows = AllByRecursion (λ (row : List Cell). length row ≡ width) rows

items-wide : (width : ℕ) (tables : List Table) (branch : Branch) → branch_fits tables width branch ≡ true → length branch.items ≡ width
items-wide width tables branch fits =
    let one = and_parts (nat_lt 0 (length branch.from)) _ fits in
    let two = and_parts (list_all (is_there tables) branch.from) _ one.1 in
    let three = and_parts (nat_lt 0 (length branch.items)) _ two.1 in
    let four = and_parts (length branch.items == width) _ three.1 in
    eqb-true (length branch.items) width four.0

wide-values : (width : ℕ) (branch : Branch) → length branch.items ≡ width → (elements : List (Element (Unit {0})))
    → AreWide width (map (λ (element : Element (Unit {0})). element.cells) (map (λ (element : Element (Unit {0})). record element { cells = values branch.items element.cells }) elements))
wide-values width branch is [] = tt
wide-values width branch is (element ∷ elements) = (length-map (λ e. value e element.cells) branch.items ∙ is, wide-values width branch is elements)

wide-from : (width number : ℕ) (tables : List Table) (select : Select) (db : Database (Unit {0})) → list_all (branch_fits tables width) select ≡ true
    → AreWide width (cells_of (answer_from unannotated number select db))
wide-from width number tables [] db fits = tt
wide-from width number tables (branch ∷ branches) db fits =
    let parts = and_parts (branch_fits tables width branch) (list_all (branch_fits tables width) branches) fits in
    subst (AreWide width)
    (sym (map-append (λ (element : Element (Unit {0})). element.cells) (chosen unannotated number branch db) (answer_from unannotated (suc number) branches db)))
    (each_append (λ (row : List Cell). length row ≡ width) (cells_of (chosen unannotated number branch db)) (cells_of (answer_from unannotated (suc number) branches db))
    (wide-values width branch (items-wide width tables branch parts.0) (filter (λ (element : Element (Unit {0})). passes_where branch.cond element.cells) (choices unannotated number branch.from db)))
    (wide-from width (suc number) tables branches db parts.1))

-- intervals are as wide as the rows of the answers
module _ (width : ℕ) (answers : ℕ → List (List Cell)) (wide : (version : ℕ) → AreWide width (answers version)) where
  wide-places : (done rows : List (List Cell)) → AreWide width rows → AllByRecursion (λ (own : List Cell × ℕ). length own.0 ≡ width) (numbered done rows)
  wide-places done [] all = tt
  wide-places done (row ∷ rows) all = (all.0, wide-places (row ∷ done) rows all.1)

  wide-kept : (p : List Cell × ℕ → Bool) (places : List (List Cell × ℕ)) → AllByRecursion (λ (own : List Cell × ℕ). length own.0 ≡ width) places
      → AllByRecursion (λ (own : List Cell × ℕ). length own.0 ≡ width) (filter p places)
  wide-kept p [] all = tt
  wide-kept p (own ∷ places) all =
      elim (p own) as (λ b. AllByRecursion (λ (own : List Cell × ℕ). length own.0 ≡ width) (cond b (own ∷ filter p places) (filter p places))) [
        | true ↦ (all.0, wide-kept p places all.1)
        | false ↦ wide-kept p places all.1
      ]

  wide-made : (version : ℕ) (to : Option ℕ) (places : List (List Cell × ℕ)) → AllByRecursion (λ (own : List Cell × ℕ). length own.0 ≡ width) places
      → AllByRecursion (IsWide width) (map (interval_upto answers version to) places)
  wide-made version to places all = each_map (IsWide width) (λ (own : List Cell × ℕ). length own.0 ≡ width) (interval_upto answers version to) (λ own is. is) places all

  wide-before : (n : ℕ) → AllByRecursion (IsWide width) (ending_before answers n)
  wide-before zero = tt
  wide-before (suc n) =
      each_append (IsWide width) (ending_before answers n) (ending_with answers n) (wide-before n)
      (wide-made n (Some (suc n)) (filter (λ (own : List Cell × ℕ). nat_lt (times own.0 (answers (suc n))) own.1) (numbered [] (answers n)))
      (wide-kept (λ (own : List Cell × ℕ). nat_lt (times own.0 (answers (suc n))) own.1) (numbered [] (answers n)) (wide-places [] (answers n) (wide n))))

  wide-intervals : (last : ℕ) → AllByRecursion (IsWide width) (intervals answers last)
  wide-intervals last =
      each_append (IsWide width) (ending_before answers last) (map (interval_upto answers last None) (numbered [] (answers last))) (wide-before last)
      (wide-made last None (numbered [] (answers last)) (wide-places [] (answers last) (wide last)))

-- ---- a checked query

module _ (dump : Dump) (select : Select) where
  abbrev last : ℕ
  last = versions_in dump.entries

  abbrev elements : ℕ → List (Element (Unit {0}))
  elements version = answer unannotated select (as_of unannotated (table_spans dump.tables) version)

  abbrev asked-at : ℕ → Option Refusal
  asked-at version = log_refusal dump.entries (y.as_of version)

  -- given what the log refuses
  abbrev answered-by : Option Refusal → List (Element (Unit {0})) → Result (List (List Cell)) Refusal
  answered-by refusal own = rows_in (of_elements (given (option_or refusal (answer_refusal unannotated parameters own)) own))

  there : (version : ℕ) → version ≤ last → asked-at version ≡ None
  there version within = ap (λ b. cond b None (Some (E23 last))) (le-leb version last within)

  ordered : (found : Result (List (Element (Unit {0}))) Refusal) → Ascends (result_unwrap_or (rows_in (of_elements found)) [])
  ordered (Ok own) = ascends (sorted_by row_cmp (cells_of own)) (rows_sorted (cells_of own))
  ordered (Err refusal) = tt

  pub sorted : (version : ℕ) → Ascends (f.rows_at dump select version)
  sorted version = ordered (rows_answer parameters dump.entries (table_spans dump.tables) (y.as_of version) select)

  wide-found : (width : ℕ) (refusal : Option Refusal) (own : List (Element (Unit {0}))) → AreWide width (cells_of own) → AreWide width (result_unwrap_or (rows_in (of_elements (given refusal own))) [])
  wide-found width None own wide = all-sorted row_cmp (λ (row : List Cell). length row ≡ width) (cells_of own) wide
  wide-found width (Some refusal) own wide = tt

  wide-at : select_fits (tables_in dump.entries) select ≡ true → (version : ℕ) → AreWide (select_width select) (f.rows_at dump select version)
  wide-at fits version =
      wide-found (select_width select) (option_or (asked-at version) (answer_refusal unannotated parameters (elements version))) (elements version)
      (wide-from (select_width select) 1 (tables_in dump.entries) select (as_of unannotated (table_spans dump.tables) version)
      (and_parts (is_countable select) (list_all (branch_fits (tables_in dump.entries) (select_width select)) select) fits).1)

  -- ---- refusals

  only-many : (own : List (Element (Unit {0}))) (refusal : Refusal) → answered-by None own ≡ Err refusal → refusal ≡ E27
  only-many own refusal = by (nat_lt MAX_ANSWER_ROWS (length own))
    where
      by : (b : Bool) → rows_in (of_elements (given (cond b (Some E27) None) own)) ≡ Err refusal → refusal ≡ E27
      by true is = cc
      by false is = absurd cc

  many-at : (version : ℕ) → version ≤ last → (refusal : Refusal) → f.answer_at dump select version ≡ Err refusal → refusal ≡ E27
  many-at version within refusal is = only-many (elements version) refusal (ap (λ (found : Option Refusal). answered-by found (elements version)) (sym (there version within)) ∙ is)

  many-upto : (n : ℕ) → n ≤ last → (refusal : Refusal) → f.refusal_of dump select n ≡ Some refusal → refusal ≡ E27
  many-upto n within refusal is = go n within is
    where
      err : (version : ℕ) → version ≤ last → (found : Result (List (List Cell)) Refusal) → f.answer_at dump select version ≡ found → result_err found ≡ Some refusal → refusal ≡ E27
      err version below (Ok rows) own same = absurd (some_none refusal (sym same))
      err version below (Err other) own same = sym (same_Some other refusal same) ∙ many-at version below other own

      go : (n : ℕ) → n ≤ last → f.refusal_of dump select n ≡ Some refusal → refusal ≡ E27
      go zero below same = err zero below (f.answer_at dump select zero) refl same
      go (suc n) below same = or-by (f.refusal_of dump select n) refl (go n (omega arith)) same
        where
          or-by : (first : Option Refusal) → f.refusal_of dump select n ≡ first → (f.refusal_of dump select n ≡ Some refusal → refusal ≡ E27)
              → option_or first (result_err (f.answer_at dump select (suc n))) ≡ Some refusal → refusal ≡ E27
          or-by None own before all = err (suc n) below (f.answer_at dump select (suc n)) refl all
          or-by (Some other) own before all = before (own ∙ all)

  -- the first refusal is that of all versions behind it
  first-refusal : (v n : ℕ) → v ≤ n → (refusal : Refusal) → f.refusal_of dump select v ≡ Some refusal → f.refusal_of dump select n ≡ Some refusal
  first-refusal v zero within refusal is = let same : v ≡ zero = omega arith in subst (λ n. f.refusal_of dump select n ≡ Some refusal) same is
  first-refusal v (suc n) within refusal is = by (nat_le v n) refl (λ below. first-refusal v n below refusal is)
    where
      by : (b : Bool) → nat_le v n ≡ b → (v ≤ n → f.refusal_of dump select n ≡ Some refusal) → f.refusal_of dump select (suc n) ≡ Some refusal
      by true e rest = ap (λ (found : Option Refusal). option_or found (result_err (f.answer_at dump select (suc n)))) (rest (leb-true v n e))
      by false e rest = let same : v ≡ suc n = omega (arith, leb-false v n e) in subst (λ m. f.refusal_of dump select m ≡ Some refusal) same is

  pub refused-when : (v : ℕ) → v ≤ last → (refusal : Refusal) → f.refusal_of dump select v ≡ Some refusal → Refused refusal ≡ f.checked_when dump select
  refused-when v within refusal is =
      ap (λ (found : Option Refusal). unless_refused found (interval_lines (intervals (f.rows_at dump select) last))) (sym (first-refusal v last within refusal is))

  -- what a version refuses where no version before refuses
  pub refused-next : (v : ℕ) → suc v ≤ last → (refusal : Refusal) → f.refusal_of dump select v ≡ None → f.answer_at dump select (suc v) ≡ Err refusal → Refused refusal ≡ f.checked_when dump select
  refused-next v within refusal none is = refused-when (suc v) within refusal (λ i. option_or (none i) (result_err (is i)))

  -- so many that end are too many
  longer : (v n : ℕ) → v ≤ n → length (ending_before (f.rows_at dump select) v) ≤ length (ending_before (f.rows_at dump select) n)
  longer v zero within = let same : v ≡ zero = omega arith in omega (arith, ap (λ m. length (ending_before (f.rows_at dump select) m)) same)
  longer v (suc n) within = by (nat_le v n) refl (λ below. longer v n below)
    where
      by : (b : Bool) → nat_le v n ≡ b → (v ≤ n → length (ending_before (f.rows_at dump select) v) ≤ length (ending_before (f.rows_at dump select) n))
          → length (ending_before (f.rows_at dump select) v) ≤ length (ending_before (f.rows_at dump select) (suc n))
      by true e rest = let below = rest (leb-true v n e) in omega (arith, length-append (ending_before (f.rows_at dump select) n) (ending_with (f.rows_at dump select) n))
      by false e rest = let same : v ≡ suc n = omega (arith, leb-false v n e) in omega (arith, ap (λ m. length (ending_before (f.rows_at dump select) m)) same)

  pub too-many : (v : ℕ) → v ≤ last → MAX_ANSWER_ROWS < length (f.closed_upto (f.rows_at dump select) v) → Refused E27 ≡ f.checked_when dump select
  too-many v within many = by (f.refusal_of dump select last) refl
    where
      more : MAX_ANSWER_ROWS < length (intervals (f.rows_at dump select) last)
      more =
          omega (
            arith,
            longer v last within,
            ap (λ (list : List Interval). length list) (closed-is (f.rows_at dump select) sorted v),
            length-append (ending_before (f.rows_at dump select) last) (map (interval_upto (f.rows_at dump select) last None) (numbered [] (f.rows_at dump select last))),
          )

      by : (found : Option Refusal) → f.refusal_of dump select last ≡ found → Refused E27 ≡ f.checked_when dump select
      by (Some refusal) is = ap Refused (sym (many-upto last (omega arith) refusal is)) ∙ refused-when last (omega arith) refusal is
      by None is =
          ap (λ b. cond b (Refused E27) (Lines When (map interval_text (sorted_by interval_cmp (intervals (f.rows_at dump select) last))))) (sym (lt-ltb MAX_ANSWER_ROWS (length (intervals (f.rows_at dump select) last)) more))
          ∙ ap (λ (found : Option Refusal). unless_refused found (interval_lines (intervals (f.rows_at dump select) last))) (sym is)

  -- ---- versions

  alike-tables : (v : ℕ) (tables : List ℕ) → list_any (f.is_written dump (suc v)) tables ≡ false → Alike (as_of unannotated (table_spans dump.tables) (suc v)) (as_of unannotated (table_spans dump.tables) v) tables
  alike-tables v [] none = tt
  alike-tables v (table ∷ tables) none =
      let parts = or_parts (f.is_written dump (suc v) table) (list_any (f.is_written dump (suc v)) tables) none in
      (ap (map (row_of unannotated)) (same-spans v (table_spans dump.tables table) parts.0), alike-tables v tables parts.1)

  alike-branches : (v : ℕ) (branches : Select) → f.is_changed dump branches (suc v) ≡ false → AllAlike (as_of unannotated (table_spans dump.tables) (suc v)) (as_of unannotated (table_spans dump.tables) v) branches
  alike-branches v [] none = tt
  alike-branches v (branch ∷ branches) none =
      let parts = or_parts (list_any (f.is_written dump (suc v)) branch.from) (f.is_changed dump branches (suc v)) none in
      (alike-tables v branch.from parts.0, alike-branches v branches parts.1)

  unchanged : (v : ℕ) → suc v ≤ last → f.is_changed dump select (suc v) ≡ false → f.answer_at dump select (suc v) ≡ f.answer_at dump select v
  unchanged v within none =
      let same : elements (suc v) ≡ elements v = same-answer (as_of unannotated (table_spans dump.tables) (suc v)) (as_of unannotated (table_spans dump.tables) v) 1 select (alike-branches v select none) in
      let alike : asked-at (suc v) ≡ asked-at v = there (suc v) within ∙ sym (there v (omega arith)) in
      (λ i. answered-by (alike i) (same i))

  none-at : (v : ℕ) → f.refusal_of dump select v ≡ None → result_err (f.answer_at dump select v) ≡ None
  none-at zero none = none
  none-at (suc v) none = (none_parts (f.refusal_of dump select v) (result_err (f.answer_at dump select (suc v))) none).1

  -- a version that wrote no table of the query
  pub swept-again : (v : ℕ) (old : List f.Open) (rows : List (List Cell)) → suc v ≤ last → f.is_changed dump select (suc v) ≡ false → f.IsSwept dump select v old rows → f.IsSwept dump select (suc v) old rows
  swept-again v old rows within none swept =
      let same : f.answer_at dump select (suc v) ≡ f.answer_at dump select v = unchanged v within none in
      let answers = f.rows_at dump select in
      let own : List f.Open = f.open_at answers v in
      let alike : answers (suc v) ≡ rows-of own = ap (λ (found : Result (List (List Cell)) Refusal). result_unwrap_or found []) same ∙ sym (open-rows answers sorted v) in
      record {
        answered = (λ i. option_or (swept.answered i) (result_err (same i))) ∙ none-at v swept.answered;
        opened =
            swept.opened
            ∙ sym (zipped-again own)
            ∙ ap (zip (rows-of own)) (sym (all-carried (suc v) own))
            ∙ ap (λ (list : List (List Cell)). zip list (f.carried (suc v) own list)) (sym alike);
        ended =
            swept.ended
            ∙ ap (map f.interval_row)
            (sym (append-nil (f.closed_upto answers v))
            ∙ ap (λ (list : List Interval). f.closed_upto answers v ++ list) (sym (none-closed (suc v) own))
            ∙ ap (λ (list : List (List Cell)). f.closed_upto answers v ++ f.closed (suc v) own list) (sym alike));
      }

  -- one that did
  pub swept-next : (v : ℕ) (old new : List f.Open) (rows after : List (List Cell)) → f.IsSwept dump select v old rows → result_err (f.answer_at dump select (suc v)) ≡ None
      → new ≡ zip (f.rows_at dump select (suc v)) (f.carried (suc v) old (f.rows_at dump select (suc v)))
      → after ≡ rows ++ map f.interval_row (f.closed (suc v) old (f.rows_at dump select (suc v))) → f.IsSwept dump select (suc v) new after
  swept-next v old new rows after swept answered opens over =
      let answers = f.rows_at dump select in
      record {
        answered = (λ i. option_or (swept.answered i) (answered i));
        opened = opens ∙ ap (λ (list : List f.Open). zip (answers (suc v)) (f.carried (suc v) list (answers (suc v)))) swept.opened;
        ended =
            over
            ∙ (λ i. swept.ended i ++ map f.interval_row (f.closed (suc v) (swept.opened i) (answers (suc v))))
            ∙ sym (map-append f.interval_row (f.closed_upto answers v) (f.closed (suc v) (f.open_at answers v) (answers (suc v))));
      }

  -- the first
  pub swept-first : (new : List f.Open) (after : List (List Cell)) → result_err (f.answer_at dump select zero) ≡ None → new ≡ zip (f.rows_at dump select zero) (f.carried zero [] (f.rows_at dump select zero))
      → after ≡ [] → f.IsSwept dump select zero new after
  swept-first new after answered opens over = record { answered = answered; opened = opens; ended = over }

  -- the last
  pub swept-last : select_fits (tables_in dump.entries) select ≡ true → (old : List f.Open) (rows : List (List Cell)) → f.IsSwept dump select last old rows
      → listed When (rows ++ map f.interval_row (map f.still_open old)) ≡ f.checked_when dump select
  swept-last fits old rows swept =
      let answers = f.rows_at dump select in
      ap (listed When)
      ((λ i. swept.ended i ++ map f.interval_row (map f.still_open (swept.opened i)))
      ∙ sym (map-append f.interval_row (f.closed_upto answers last) (map f.still_open (f.open_at answers last)))
      ∙ ap (map f.interval_row) (all-made answers sorted last))
      ∙ listed-is (select_width select) (intervals answers last) (wide-intervals (select_width select) answers (wide-at fits) last)
      ∙ ap (λ (found : Option Refusal). unless_refused found (interval_lines (intervals answers last))) (sym swept.answered)

  -- ---- one version

  module _ {X : Type 0} (view : X → List (List Cell)) (version : ℕ) where
    abbrev expected : Result (List (Element (Unit {0}))) Refusal
    expected = rows_answer parameters dump.entries (table_spans dump.tables) (y.as_of version) select

    pub found-at : (found : X) (rows : List (List Cell)) → rows ≡ sorted_by row_cmp (view found) → Reenacts view (Ok found) expected → f.answer_at dump select version ≡ Ok rows
    found-at found rows is gives = ap rows_in (sym (in-order view found expected gives)) ∙ ap (λ (own : List (List Cell)). Ok own) (sym is)

    pub refused-at : (refusal : Refusal) → Reenacts view (Err (stop.Refused refusal)) expected → f.answer_at dump select version ≡ Err refusal
    refused-at refusal gives = ap rows_in (sym (refused view refusal expected gives))

    pub rows-stopped : (stopped : Stop) → Reenacts view (Err stopped) expected → f.AreRowsAt dump select view version (Err stopped)
    rows-stopped (stop.Refused refusal) gives = refused-at refusal gives
    rows-stopped stop.NoMemory gives = tt

-- ---- steps

module _ (dump : Dump) (select : Select) where
  pub step-first : {X : Type 0} (done : X) (old new : List f.Open) (before after : List (List Cell)) → old ≡ [] → before ≡ [] → f.StepsTo dump select zero old before (Ok done) new after → f.IsSwept dump select zero new after
  step-first done old new before after none nothing steps =
      let rows = f.rows_at dump select zero in
      swept-first dump select new after steps.0 (steps.1.0 ∙ ap (λ (own : List f.Open). zip rows (f.carried zero own rows)) none) (steps.1.1 ∙ (λ i. nothing i ++ map f.interval_row (f.closed zero (none i) rows)))

  pub first-refused : {X : Type 0} (view : X → List (List Cell)) (stopped : Stop) (old new : List f.Open) (before after : List (List Cell)) → f.StepsTo dump select {X = Unit {0}} zero old before (Err stopped) new after
      → f.AreIntervals dump select view (Err stopped)
  first-refused view (stop.Refused refusal) old new before after is = refused-when dump select zero (omega arith) refusal (ap result_err is)
  first-refused view stop.NoMemory old new before after is = tt

  pub goes-refused : {X : Type 0} (view : X → List (List Cell)) (v : ℕ) (stopped : Stop) (new : List f.Open) (after : List (List Cell)) → f.GoesOn dump select {X = Unit {0}} v (Err stopped) new after
      → f.AreIntervals dump select view (Err stopped)
  goes-refused view v (stop.Refused refusal) new after is = is
  goes-refused view v stop.NoMemory new after is = tt

  module _ (v n : ℕ) (next : n ≡ suc v) (within : v < versions_in dump.entries) (old : List f.Open) (rows : List (List Cell)) (swept : f.IsSwept dump select v old rows) where
    pub step-again : f.is_changed dump select n ≡ false → f.IsSwept dump select (suc v) old rows
    step-again none = swept-again dump select v old rows (omega arith) (ap (f.is_changed dump select) (sym next) ∙ none) swept

    pub step-swept : {X : Type 0} (done : X) (new : List f.Open) (after : List (List Cell)) → f.StepsTo dump select n old rows (Ok done) new after → f.IsSwept dump select (suc v) new after
    step-swept done new after steps =
        let own : f.StepsTo dump select (suc v) old rows (Ok done) new after = subst (λ m. f.StepsTo dump select m old rows (Ok done) new after) next steps in
        swept-next dump select v old new rows after swept own.0 own.1.0 own.1.1

    pub step-refused : (stopped : Stop) (new : List f.Open) (after : List (List Cell)) → f.StepsTo dump select {X = Unit {0}} n old rows (Err stopped) new after → f.GoesOn dump select {X = Unit {0}} v (Err stopped) new after
    step-refused (stop.Refused refusal) new after is = refused-next dump select v (omega arith) refusal swept.answered (ap (f.answer_at dump select) (sym next) ∙ is)
    step-refused stop.NoMemory new after is = tt

    pub step-many : (new : List f.Open) (after : List (List Cell)) → f.IsSwept dump select (suc v) new after → MAX_ANSWER_ROWS < length after → Refused E27 ≡ f.checked_when dump select
    step-many new after done many =
        too-many dump select (suc v) (omega arith) (omega (arith, many, ap (λ (list : List (List Cell)). length list) done.ended, length-map f.interval_row (f.closed_upto (f.rows_at dump select) (suc v))))

-- ---- a query

module _ (dump : Dump) (query : y.Query) where
  abbrev own-checked : Result Select Refusal
  own-checked = checked_query (tables_in dump.entries) query

  version-same : (select : Select) → own-checked ≡ Ok select → (v : ℕ) → version_rows (query_to dump) query v ≡ f.answer_at dump select v
  version-same select is v =
      ap (λ (checked : Result Select Refusal). rows_in (or_refused (dump_rows dump (y.as_of v)) (asked (log_refusal dump.entries (y.as_of v)) checked))) is
      ∙ by (log_refusal dump.entries (y.as_of v)) refl
    where
      by : (found : Option Refusal) → log_refusal dump.entries (y.as_of v) ≡ found → rows_in (or_refused (dump_rows dump (y.as_of v)) (asked found (Ok select))) ≡ f.answer_at dump select v
      by None own = refl
      by (Some refusal) own = ap (λ (found : Option Refusal). answered-by dump select found (elements dump select v)) (sym own)

  refusal-same : (select : Select) → own-checked ≡ Ok select → (n : ℕ) → refusal_upto (query_to dump) query n ≡ f.refusal_of dump select n
  refusal-same select is zero = ap result_err (version-same select is zero)
  refusal-same select is (suc n) = (λ i. option_or (refusal-same select is n i) (result_err (version-same select is (suc n) i)))

  pub when-checked : (select : Select) → own-checked ≡ Ok select → f.checked_when dump select ≡ f.when_to dump query
  when-checked select is =
      (λ i. unless_refused (sym (refusal-same select is (versions_in dump.entries)) i)
      (interval_lines (intervals (λ v. result_unwrap_or (sym (version-same select is v) i) []) (versions_in dump.entries))))

  pub when-refused : (refusal : Refusal) → own-checked ≡ Err refusal → Refused refusal ≡ f.when_to dump query
  when-refused refusal is = ap (λ (found : Option Refusal). unless_refused found (interval_lines (intervals (λ v. result_unwrap_or (version_rows (query_to dump) query v) []) (versions_in dump.entries)))) (sym (upto (versions_in dump.entries)))
    where
      at-first : version_rows (query_to dump) query zero ≡ Err refusal
      at-first =
          ap (λ (checked : Result Select Refusal). rows_in (or_refused (dump_rows dump (y.as_of zero)) (asked (log_refusal dump.entries (y.as_of zero)) checked))) is
          ∙ ap (λ b. rows_in (or_refused (dump_rows dump (y.as_of zero)) (asked (cond b None (Some (E23 (versions_in dump.entries)))) (Err refusal)))) (le-leb zero (versions_in dump.entries) (omega arith))

      upto : (n : ℕ) → refusal_upto (query_to dump) query n ≡ Some refusal
      upto zero = ap result_err at-first
      upto (suc n) = ap (λ (found : Option Refusal). option_or found (result_err (version_rows (query_to dump) query (suc n)))) (upto n)

  -- where no version refuses, each has rows
  pub unrefused : (n v : ℕ) → v ≤ n → refusal_upto (query_to dump) query n ≡ None → version_rows (query_to dump) query v ≡ Ok (result_unwrap_or (version_rows (query_to dump) query v) [])
  unrefused n v within none = whole (version_rows (query_to dump) query v) (at n v within none)
    where
      whole : (found : Result (List (List Cell)) Refusal) → result_err found ≡ None → found ≡ Ok (result_unwrap_or found [])
      whole (Ok rows) is = refl
      whole (Err refusal) is = absurd (some_none refusal is)

      at : (n v : ℕ) → v ≤ n → refusal_upto (query_to dump) query n ≡ None → result_err (version_rows (query_to dump) query v) ≡ None
      at zero v within none = let same : zero ≡ v = omega arith in subst (λ m. result_err (version_rows (query_to dump) query m) ≡ None) same none
      at (suc n) v within none = by (nat_le v n) refl (λ below. at n v below)
        where
          parts : (refusal_upto (query_to dump) query n ≡ None) × (result_err (version_rows (query_to dump) query (suc n)) ≡ None)
          parts = none_parts (refusal_upto (query_to dump) query n) (result_err (version_rows (query_to dump) query (suc n))) none

          by : (b : Bool) → nat_le v n ≡ b → (v ≤ n → refusal_upto (query_to dump) query n ≡ None → result_err (version_rows (query_to dump) query v) ≡ None) → result_err (version_rows (query_to dump) query v) ≡ None
          by true e rest = rest (leb-true v n e) parts.0
          by false e rest = let same : suc n ≡ v = omega (arith, leb-false v n e) in subst (λ m. result_err (version_rows (query_to dump) query m) ≡ None) same parts.1
