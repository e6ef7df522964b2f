-- The dump of every history is well formed.
use Rattle.gp_dump.proofs.Prelude.{◌≡◌, ◌<◌, ◌≤◌, ℕ, zero, suc, ◌+◌, List, [], ◌∷◌, ◌++◌, length, map, take, Some, None, slice_get, get_or, refl, sym, ap, subst, ◌∙◌, arith, ◌⊎◌, inl, inr, option_or, AllByRecursion, map-append, take_all, slice_get_cases, Annotations, sorted_by, Table, Bytes, Command, first_refusal, query_tables_fault, table_fault, number_of_table, meant_statement, accepted, known, none_of, Span, span_cmp, counts_are_within, all_reached, versions_in, Line, after, IsReached, State, start, parameters, AreScriptLines, ltb-true}
use Rattle.std.specs.Prelude.{sum}
use Rattle.std.specs.List.{fold}
use Rattle.gp_base.specs.Annotated.{unannotated}
use Rattle.gp_grammar.specs.Syntax as y
use Rattle.gp_machine.proofs.CountLemmas.{all_counted}
use Rattle.gp_machine.proofs.SpanLaws.{each_span, spans_apart, spans_below, spans_whole}
use Rattle.gp_machine.specs.Entries.{log_of}
use Rattle.gp_machine.specs.HistorySpans.{state_spans}
use Rattle.gp_machine.specs.SpanCounts.{span_count}
use Rattle.gp_machine.specs.CheckedTargets.{ChecksTargets, HasTarget}
use Rattle.gp_dump.specs.Dumps.{dump_of, spans_in, spans_in_order}
use Rattle.gp_dump.specs.WholeDumps.{AreInPlace, AreOfTables, IsDump}
use Rattle.gp_dump.proofs.FittingRows.{Fitting, all_fitting}
use Rattle.gp_dump.proofs.LoggedLines.{all_logged}
use Rattle.gp_dump.proofs.RowPlaces.{all_in_place, sorted_length, spans_begin}
use Rattle.gp_dump.proofs.StepKinds.{Fits, FitsRow}
use Rattle.gp_dump.proofs.DisciplineLemmas.{take-one}

-- ---- the check passes only statements whose table is there

target : (tables : List Table) (name : Bytes) → table_fault tables name ≡ None → number_of_table tables name < length tables
target tables name none = ltb-true (number_of_table tables name) (length tables) (known tables name none)

has_target : (tables : List Table) (command : Command) → first_refusal tables command ≡ None → HasTarget (length tables) (meant_statement tables command)
has_target tables (y.insert name rows) none = target tables name (none_of (table_fault tables name) _ none).0
has_target tables (y.insert_select name query) none = target tables name (none_of (table_fault tables name) _ (none_of (option_or (table_fault tables name) (query_tables_fault tables query)) _ none).0).0
has_target tables (y.update name sets cond) none = target tables name (none_of (table_fault tables name) _ none).0
has_target tables (y.delete name cond) none = target tables name (none_of (table_fault tables name) _ none).0
has_target tables (y.select query) none = tt
has_target tables (y.create table) none = tt
has_target tables (y.begin read_committed) none = tt
has_target tables y.Command.commit none = tt
has_target tables y.rollback none = tt

pub checks_targets : ChecksTargets parameters
checks_targets tables command statement e =
    let c = accepted (first_refusal tables command) (meant_statement tables command) statement e in
    subst (HasTarget (length tables)) c.1 (has_target tables command c.0)

-- ---- the spans of all tables

sum_more : (numbers : List ℕ) (n before : ℕ) → fold ◌+◌ before (numbers ++ n ∷ []) ≡ fold ◌+◌ before numbers + n
sum_more [] n before = refl
sum_more (m ∷ numbers) n before = sum_more numbers n (before + m)

spans_more : (tables : List (List Span)) (spans : List Span) → spans_in (tables ++ spans ∷ []) ≡ spans_in tables + length spans
spans_more tables spans = ap sum (map-append (λ (spans : List Span). length spans) tables (spans ∷ [])) ∙ sum_more (map (λ (spans : List Span). length spans) tables) (length spans) 0

counted : {M : Type 0} (state : State M) (tables : ℕ) → spans_in (map (sorted_by span_cmp) (spans_in_order state tables)) ≡ span_count state tables
counted state zero = refl
counted state (suc table) =
    ap spans_in (map-append (sorted_by span_cmp) (spans_in_order state table) (state_spans state table ∷ []))
    ∙ spans_more (map (sorted_by span_cmp) (spans_in_order state table)) (sorted_by span_cmp (state_spans state table))
    ∙ (λ i. counted state table i + sorted_length span_cmp (state_spans state table) i)

tables_more : (versions : ℕ) (tables : List Table) (lists : List (List Span)) (table : Table) (spans : List Span) → AreOfTables tables versions lists → AreInPlace table.cols versions [] spans
    → AreOfTables (tables ++ table ∷ []) versions (lists ++ spans ∷ [])
tables_more versions [] [] table spans all one = (one, tt)
tables_more versions [] (other ∷ lists) table spans all one = absurd all
tables_more versions (other ∷ tables) [] table spans all one = absurd all
tables_more versions (other ∷ tables) (first ∷ lists) table spans all one = (all.0, tables_more versions tables lists table spans all.1 one)

module _ {M : Type 0} (domain : Annotations M) (state : State M) (reached : IsReached domain parameters state) (fitting : Fitting state) where
  spans_fit : (table : ℕ) → AllByRecursion (λ (span : Span). Fits state.catalogue table span.id span.row) (state_spans state table)
  spans_fit table =
      each_span (versions_in state.entries) state.committed state.written table (λ (span : Span). Fits state.catalogue table span.id span.row) (FitsRow state.catalogue table) (λ from row l f. f)
      (λ version l. fitting.committed version table) (versions_in state.entries) (omega arith)

  one_table : (place : ℕ) (table : Table) → slice_get state.catalogue place ≡ Some table → AreInPlace table.cols (versions_in state.entries) [] (sorted_by span_cmp (state_spans state place))
  one_table place table there =
      all_in_place state.catalogue place table there (versions_in state.entries) (state_spans state place)
      (spans_apart domain (log_of state.entries) state.committed state.written reached.history place) (spans_whole (versions_in state.entries) state.committed state.written place)
      (spans_below (versions_in state.entries) state.committed state.written place) (spans_begin (versions_in state.entries) state.committed state.written place (versions_in state.entries)) (spans_fit place)

  first_tables : (tables : ℕ) → tables ≤ length state.catalogue → AreOfTables (take tables state.catalogue) (versions_in state.entries) (map (sorted_by span_cmp) (spans_in_order state tables))
  first_tables zero l = tt
  first_tables (suc place) l = go (slice_get_cases state.catalogue place).1 (first_tables place (omega arith))
    where
      go : ((table : Table) × (place < length state.catalogue) × (slice_get state.catalogue place ≡ Some table) × (get_or state.catalogue place table ≡ table)) ⊎ ((length state.catalogue ≤ place) × (slice_get state.catalogue place ≡ None))
          → AreOfTables (take place state.catalogue) (versions_in state.entries) (map (sorted_by span_cmp) (spans_in_order state place))
          → AreOfTables (take (suc place) state.catalogue) (versions_in state.entries) (map (sorted_by span_cmp) (spans_in_order state (suc place)))
      go (inl there) before =
          subst (λ tables. AreOfTables tables (versions_in state.entries) (map (sorted_by span_cmp) (spans_in_order state (suc place)))) (sym (take-one state.catalogue place there.0 there.2))
          (subst (AreOfTables (take place state.catalogue ++ there.0 ∷ []) (versions_in state.entries)) (sym (map-append (sorted_by span_cmp) (spans_in_order state place) (state_spans state place ∷ [])))
          (tables_more (versions_in state.entries) (take place state.catalogue) (map (sorted_by span_cmp) (spans_in_order state place)) there.0 (sorted_by span_cmp (state_spans state place)) before (one_table place there.0 there.2)))
      go (inr past) before = let p = past.0 in absurd (omega arith)

  all_tables : AreOfTables state.catalogue (versions_in state.entries) (map (sorted_by span_cmp) (spans_in_order state (length state.catalogue)))
  all_tables =
      subst (λ tables. AreOfTables tables (versions_in state.entries) (map (sorted_by span_cmp) (spans_in_order state (length state.catalogue)))) (take_all (length state.catalogue) state.catalogue (omega arith))
      (first_tables (length state.catalogue) (omega arith))

pub dumps_are_well_formed : (lines : List Line) → AreScriptLines lines → IsDump (dump_of (after unannotated parameters start lines))
dumps_are_well_formed lines are =
    let state : State (Unit {0}) = after unannotated parameters start lines in
    let logged = (all_logged unannotated parameters lines are).1 in
    let within = counts_are_within unannotated parameters lines in
    let few = within.lines in
    let tables = within.tables in
    let transactions = within.transactions in
    let statements = within.statements in
    let rows = within.rows in
    let count = counted state (length state.catalogue) in
    let published = (all_counted unannotated parameters checks_targets lines).count in
    record {
      few_entries = omega (arith, few, tables, transactions, statements);
      log = logged.log;
      commands = logged.readable;
      few_spans = omega (arith, rows, count, published);
      spans = subst (λ tables. AreOfTables tables (versions_in state.entries) (map (sorted_by span_cmp) (spans_in_order state (length state.catalogue)))) (sym logged.tables)
          (all_tables unannotated state (all_reached unannotated parameters lines) (all_fitting unannotated lines are));
    }
