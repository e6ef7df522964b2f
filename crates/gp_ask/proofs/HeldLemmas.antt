-- The answers of the dump of a history are those that the history held.
use Rattle.std.proofs.Common.{◌≡◌, ℕ, zero, suc, nat_lt, Bool, true, false, cond, List, [], ◌++◌, ◌∷◌, length, map, Option, Some, None, Result, Ok, Err, refl, sym, ap, ◌∙◌, if◌then◌else◌}
use Rattle.std.specs.List.Sorted.{IsPermutation}
use Rattle.std.specs.Option.{option_map_or, option_or}
use Rattle.std.proofs.lemmas.List.{length-map}
use Rattle.std.proofs.lemmas.List.Sorted.{IsPermutation-map}
use Rattle.gp_base.specs.declared.cell.Cell.{Cell}
use Rattle.gp_base.specs.declared.refusal.Refusal.{Refusal}
use Rattle.gp_base.specs.declared.refusal.Refusal.TheVariants.{E27}
use Rattle.gp_base.specs.declared.table.Table.{Table}
use Rattle.gp_base.specs.Annotated.{Database, monomials, unannotated}
use Rattle.gp_base.specs.Catalogs.{place_of}
use Rattle.gp_base.specs.Order.{row_cmp, sorted_by}
use Rattle.gp_base.specs.Tokens.{Monomial}
use Rattle.gp_grammar.specs.declared.semiring_name.SemiringName.{SemiringName}
use Rattle.gp_grammar.specs.declared.semiring_name.SemiringName.TheVariants as named
use Rattle.gp_grammar.specs.Syntax as y
use Rattle.gp_algebra.specs.Answers.{Element, answer, cells_of}
use Rattle.gp_algebra.specs.Reannotation.{database_reannotated, element_reannotated, forgotten}
use Rattle.gp_algebra.specs.Statements.{Select}
use Rattle.gp_check.specs.Checking.{checked_query}
use Rattle.gp_log.specs.Parameters.{parameters}
use Rattle.gp_log.specs.LogFacts.{tables_in}
use Rattle.gp_machine.specs.Annotating.{annotated_versions}
use Rattle.gp_machine.specs.Entries.{version_of}
use Rattle.gp_machine.specs.HistorySpans.{state_spans}
use Rattle.gp_machine.specs.Points.{at_point, version_or_empty, held_at}
use Rattle.gp_machine.specs.Questions.{annotated_answer, given, held_answer, log_refusal, rows_answer, transaction_refusal}
use Rattle.gp_machine.specs.QuestionForms.{AreAlike}
use Rattle.gp_machine.specs.State.{State}
use Rattle.gp_machine.specs.StateReannotation.{state_reannotated}
use Rattle.gp_semiring.specs.declared.rules.Rule.{Rule}
use Rattle.gp_history.specs.ValueAnswers.{history_refusal}
use Rattle.gp_versions.specs.declared.span.Span.{Span}
use Rattle.gp_dump.specs.Dumps.{Dump, dump_of, spans_in_order}
use Rattle.gp_dump.specs.WholeDumps.{dump_with}
use Rattle.gp_history.specs.Agreement.{agree}
use Rattle.gp_history.specs.Agreement.{occurrence}
use Rattle.gp_ask.specs.Changes.{commit_changes}
use Rattle.gp_ask.specs.declared.answered.Answered.{Answered}
use Rattle.gp_ask.specs.declared.answered.Answered.TheVariants.{Checked, Lines, Listed, Program, Refused, Rows}
use Rattle.gp_ask.specs.declared.answered.Heading.TheVariants.{Changes}
use Rattle.gp_replay.specs.Differences.{difference}
use Rattle.gp_ask.specs.SerialAnswers.{serial_answer}
use Rattle.gp_ask.specs.Differences.{are_mixed}
use Rattle.gp_ask.specs.Hypothetical.{replayed_dump}
use Rattle.gp_ask.specs.Made.{unmade_refusal}
use Rattle.gp_ask.specs.Printed.{answer_to, held_to, query_held, query_to, what_if_held}
use Rattle.gp_ask.specs.Programs.{program_lines}
use Rattle.gp_ask.specs.Seeing.{seen_refusal}
use Rattle.gp_ask.specs.AnomalyAnswers.{anomaly_answer}
use Rattle.gp_ask.specs.Asking.{of_elements, query_answer, table_spans, with_monomials}
use Rattle.gp_ask.specs.AskingForms.{dump_program, dump_provenance, dump_query, dump_remaining, dump_rows, held_provenance, held_remaining, held_rows, rules_of, versions_answer}
use Rattle.gp_ask.specs.ValueForms.{dump_valued, dump_values, held_valued, held_values}
use Rattle.gp_ask.specs.Remaining.{has_left_out, is_left_out, remaining_answer}
use Rattle.gp_ask.specs.Operations.{evaluated, operations_of}
use Rattle.gp_ask.specs.Values.{rule_of, unless_refused}
use Rattle.gp_ask.proofs.DifferenceLemmas.{causes-same, diff-same}
use Rattle.gp_ask.proofs.GroupedRows.{listed-are}
use Rattle.gp_ask.proofs.IntervalLemmas.{when-same}
use Rattle.gp_ask.proofs.MovedLemmas.{remaining_moved}
use Rattle.gp_ask.proofs.ProvenanceLemmas.{same-list}
use Rattle.gp_ask.proofs.QueryLemmas.{query-same}
use Rattle.gp_ask.proofs.ValueLemmas.{AreHeld, found_in}
use Rattle.gp_base.proofs.SmallLemmas.{map-map}
use Rattle.gp_serial.proofs.RunningLemmas.{sorted_same}

-- ---- answers that are alike

alike : {M : Type 0} (found other : Result (List (Element M)) Refusal) → AreAlike found other → of_elements found ≡ of_elements other
alike (Ok elements) (Ok others) same = ap Rows (sorted_same (cells_of elements) (cells_of others) (IsPermutation-map (λ element. element.cells) elements others same))
alike (Err refusal) (Err other) same = ap Refused same
alike (Ok elements) (Err other) same = absurd same
alike (Err refusal) (Ok others) same = absurd same

alike-monomials : (found other : Result (List (Element Monomial)) Refusal) → AreAlike found other → with_monomials found ≡ with_monomials other
alike-monomials (Ok elements) (Ok others) same =
    ap Listed (sym (listed-are elements) ∙ same-list (map occurrence elements) (map occurrence others) (IsPermutation-map occurrence elements others same) ∙ listed-are others)
alike-monomials (Err refusal) (Err other) same = ap Refused same
alike-monomials (Ok elements) (Err other) same = absurd same
alike-monomials (Err refusal) (Ok others) same = absurd same

-- ---- a state without its annotations

abbrev pub forgetting : State Monomial → State (Unit {0})
forgetting state = state_reannotated forgotten state

held-forgotten : (state : State Monomial) (point : y.Point) → held_at (forgetting state) point ≡ database_reannotated forgotten (held_at state point)
held-forgotten state (y.as_of version) = refl
held-forgotten state (y.after t k) = refl
held-forgotten state (y.Point.commit t) = by (version_of t state.entries)
  where
    by : (version : Option ℕ) → version_or_empty version (forgetting state).committed ≡ database_reannotated forgotten (version_or_empty version state.committed)
    by None = refl
    by (Some version) = refl

-- the rows of elements do not depend on annotations, nor does their number
module _ (refusal : Option Refusal) (elements : List (Element Monomial)) where
  abbrev answered : List (Element (Unit {0})) → ℕ → Answered
  answered others count = of_elements (given (option_or refusal (if nat_lt parameters.answer count then Some E27 else None)) others)

  same-given : (own : Option Refusal) → of_elements (given own (map (element_reannotated forgotten) elements)) ≡ of_elements (given own elements)
  same-given None = ap (λ (rows : List (List Cell)). Rows (sorted_by row_cmp rows)) (map-map (λ (element : Element (Unit {0})). element.cells) (element_reannotated forgotten) elements)
  same-given (Some own) = refl

  pub same-rows : answered (map (element_reannotated forgotten) elements) (length (map (element_reannotated forgotten) elements))
      ≡ of_elements (given (option_or refusal (if nat_lt parameters.answer (length elements) then Some E27 else None)) elements)
  same-rows =
      ap (answered (map (element_reannotated forgotten) elements)) (length-map elements (element_reannotated forgotten))
      ∙ same-given (option_or refusal (if nat_lt parameters.answer (length elements) then Some E27 else None))

-- answering queries forgets annotations
abbrev pub Forgets : Type 0
Forgets = (select : Select) (db : Database Monomial) → answer unannotated select (database_reannotated forgotten db) ≡ map (element_reannotated forgotten) (answer monomials select db)

module _ (forgets : Forgets) (state : State Monomial) where
  held-rows-same : (point : y.Point) (select : Select) → of_elements (held_answer unannotated parameters (forgetting state) point select) ≡ held_rows state point select
  held-rows-same point select =
      let refusal = log_refusal state.entries point in
      let elements = answer monomials select (held_at state point) in
      let forgot : answer unannotated select (held_at (forgetting state) point) ≡ map (element_reannotated forgotten) elements =
      ap (answer unannotated select) (held-forgotten state point) ∙ forgets select (held_at state point) in
      ap (λ (others : List (Element (Unit {0}))). answered refusal elements others (length others)) forgot ∙ same-rows refusal elements

  -- ---- questions about the states of a history, over its log and its row versions

  module _ (kept : tables_in state.entries ≡ state.catalogue) (tables : List (List Span)) where
    abbrev dump : Dump
    dump = record { entries = state.entries; tables = tables }

    abbrev spans : ℕ → List Span
    spans = table_spans tables

    module _ (rows-alike : (point : y.Point) (select : Select) → AreAlike (rows_answer parameters state.entries spans point select) (held_answer unannotated parameters (forgetting state) point select))
        (provenance-alike : (point : y.Point) (select : Select)
        → AreAlike (annotated_answer monomials parameters agree state.catalogue state.entries spans point select) (held_answer monomials parameters state point select))
        (values-alike : (name : SemiringName) → AreHeld state spans name)
        (refusals : (point : y.Point) → history_refusal monomials parameters agree state.catalogue state.entries spans point ≡ log_refusal state.entries point)
        (elements-moved : (point : y.Point) (select : Select) → log_refusal state.entries point ≡ None
        → IsPermutation (answer monomials select (at_point monomials state.entries point (annotated_versions monomials state.entries spans))) (answer monomials select (held_at state point))) where
      rows-held : (point : y.Point) (select : Select) → dump_rows dump point select ≡ held_rows state point select
      rows-held point select =
          alike (rows_answer parameters state.entries spans point select) (held_answer unannotated parameters (forgetting state) point select) (rows-alike point select)
          ∙ held-rows-same point select

      provenance-held : (point : y.Point) (select : Select) → dump_provenance dump point select ≡ held_provenance state point select
      provenance-held point select =
          ap (λ (catalogue : List Table). with_monomials (annotated_answer monomials parameters agree catalogue state.entries spans point select)) kept
          ∙ alike-monomials (annotated_answer monomials parameters agree state.catalogue state.entries spans point select) (held_answer monomials parameters state point select) (provenance-alike point select)

      values-held : (name : SemiringName) (rules : List Rule × Option ℕ) (point : y.Point) (select : Select)
          → dump_values (operations_of name) name rules dump point select ≡ held_values (operations_of name) name rules state point select
      values-held name rules point select =
          ap (λ (catalogue : List Table). evaluated (operations_of name) rules name (found_in (operations_of name) rules state.entries catalogue spans point select)) kept
          ∙ ap (evaluated (operations_of name) rules name) (values-alike name rules point select)

      -- the elements over the row versions of the dump
      abbrev found-elements : y.Point → Select → List (Element Monomial)
      found-elements point select = answer monomials select (at_point monomials state.entries point (annotated_versions monomials state.entries spans))

      -- the refusals of the dump are those of the log
      refusals-held : (point : y.Point) → history_refusal monomials parameters agree (tables_in state.entries) state.entries spans point ≡ log_refusal state.entries point
      refusals-held point = ap (λ (catalogue : List Table). history_refusal monomials parameters agree catalogue state.entries spans point) kept ∙ refusals point

      valued-held : (name : SemiringName) (rules : List y.Rule) (other : Option ℕ) (point : y.Point) (select : Select)
          → dump_valued name rules other dump point select ≡ held_valued name rules other state point select
      valued-held named.Count rules other point select = values-held named.Count (rules_of rules other) point select
      valued-held named.Bool rules other point select = values-held named.Bool (rules_of rules other) point select
      valued-held named.Cost rules other point select = values-held named.Cost (rules_of rules other) point select
      valued-held named.Level rules other point select = values-held named.Level (rules_of rules other) point select
      valued-held named.Poly rules other point select = values-held named.Poly (rules_of rules other) point select
      valued-held named.Witness rules other point select = values-held named.Witness (rules_of rules other) point select

      remaining-held : (patterns : List Rule) (point : y.Point) (select : Select) → dump_remaining patterns dump point select ≡ held_remaining patterns state point select
      remaining-held patterns point select =
          ap (λ (refusal : Option Refusal). of_elements (remaining_answer (has_left_out patterns) select db refusal)) (refusals-held point) ∙ by (log_refusal state.entries point) refl
        where
          db : Database Monomial
          db = at_point monomials state.entries point (annotated_versions monomials state.entries spans)

          by : (refusal : Option Refusal) → log_refusal state.entries point ≡ refusal
              → of_elements (remaining_answer (has_left_out patterns) select db refusal) ≡ of_elements (remaining_answer (has_left_out patterns) select (held_at state point) refusal)
          by (Some refusal) known = refl
          by None known = remaining_moved (is_left_out patterns) select db (held_at state point) (elements-moved point select known) None

      query-held : (found held : Select → Answered) → ((select : Select) → found select ≡ held select) → (point : y.Point) (query : y.Query)
          → dump_query dump found point query ≡ query_answer held (log_refusal state.entries point) (checked_query state.catalogue query)
      query-held found held same point query =
          ap (λ (catalogue : List Table). query_answer found (log_refusal state.entries point) (checked_query catalogue query)) kept
          ∙ query-same found held same (log_refusal state.entries point) (checked_query state.catalogue query)

      pub asked : (how : y.How) (point : y.Point) (query : y.Query) → answer_to dump (y.ask (y.of_state how point) query) ≡ held_to state (y.ask (y.of_state how point) query)
      asked y.rows point query = query-held (dump_rows dump point) (held_rows state point) (rows-held point) point query
      asked y.provenance point query = query-held (dump_provenance dump point) (held_provenance state point) (provenance-held point) point query
      asked (y.explain prov) point query = query-held (dump_program dump prov point) (dump_program dump prov point) (λ select. refl) point query
      asked (y.value name rules other) point query = query-held (dump_valued name rules other dump point) (held_valued name rules other state point) (valued-held name rules other point) point query
      asked (y.without patterns) point query =
          query-held (dump_remaining (map rule_of patterns) dump point) (held_remaining (map rule_of patterns) state point) (remaining-held (map rule_of patterns) point) point query

-- ---- the dump of a history

module _ (state : State Monomial) (spans-kept : (table : ℕ) → state_spans (forgetting state) table ≡ state_spans state table) where
  spans-same : (count : ℕ) → spans_in_order (forgetting state) count ≡ spans_in_order state count
  spans-same zero = refl
  spans-same (suc count) =
      ap (λ (before : List (List Span)). before ++ state_spans (forgetting state) count ∷ []) (spans-same count)
      ∙ ap (λ (own : List Span). spans_in_order state count ++ own ∷ []) (spans-kept count)

  dump-same : dump_of (forgetting state) ≡ dump_of state
  dump-same = ap (dump_with state.entries) (spans-same (length state.catalogue))

  -- LOG, VERSIONS and CHANGES of a commit print the dump, and what would be with changes is told by the log. SAW, CHANGES of a statement and CONFLICTS tell what the
  -- machine held, of transactions whatever became of them, HISTORY of those that committed; WHEN is told by its answers.
  module _ (whole : tables_in state.entries ≡ state.catalogue) (sees : (t k : ℕ) (query : y.Query) → answer_to (dump_of (forgetting state)) (y.ask (y.saw t k) query) ≡ held_to state (y.ask (y.saw t k) query))
      (alters : (t k : ℕ) → answer_to (dump_of (forgetting state)) (y.bare (y.changes t k)) ≡ held_to state (y.bare (y.changes t k)))
      (meets : (t : ℕ) → answer_to (dump_of (forgetting state)) (y.bare (y.conflicts t)) ≡ held_to state (y.bare (y.conflicts t)))
      (lives : (name : y.Bytes) (cond : Option y.Term) → answer_to (dump_of (forgetting state)) (y.history name cond) ≡ held_to state (y.history name cond))
      (asks : (how : y.How) (point : y.Point) (query : y.Query) → answer_to (dump_of (forgetting state)) (y.ask (y.of_state how point) query) ≡ held_to state (y.ask (y.of_state how point) query))
      (made : unmade_refusal (dump_of (forgetting state)) ≡ None) (remade : replayed_dump state.entries ≡ dump_of (forgetting state)) (same : difference (dump_of (forgetting state)) ≡ None) where
    of-subject : (subject : y.Subject) (query : y.Query) → query_to (dump_of (forgetting state)) subject query ≡ query_held state subject query
    of-subject (y.of_state how point) query = asks how point query
    of-subject (y.saw t k) query = sees t k query

    of-remade : (subject : y.Subject) (query : y.Query) → query_to (replayed_dump state.entries) subject query ≡ query_held state subject query
    of-remade subject query = ap (λ (dump : Dump). query_to dump subject query) remade ∙ of-subject subject query

    beside : (mixed : Bool) (subject : y.Subject) (query : y.Query)
        → cond mixed (query_to (replayed_dump state.entries)) (query_to (dump_of (forgetting state))) subject query ≡ cond mixed (query_held state) (query_held state) subject query
    beside true = of-remade
    beside false = of-subject

    pub held : (question : y.Question) → answer_to (dump_of (forgetting state)) question ≡ held_to state question
    held (y.bare y.transactions) = refl
    held (y.bare (y.log t)) = refl
    held (y.bare (y.versions name)) =
        ap (λ (dump : Dump). answer_to dump (y.bare (y.versions name))) dump-same ∙ ap (λ (catalogue : List Table). versions_answer name (dump_of state).tables (place_of name catalogue)) whole
    held (y.bare (y.changes t k)) = alters t k
    held (y.bare (y.commit_changes t)) =
        ap (λ (dump : Dump). answer_to dump (y.bare (y.commit_changes t))) dump-same
        ∙ ap (λ (catalogue : List Table). unless_refused (transaction_refusal t state.entries) (option_map_or (commit_changes catalogue (dump_of state).tables) (version_of t state.entries) (Lines Changes []))) whole
    held (y.bare (y.conflicts t)) = meets t
    held (y.history name cond) = lives name cond
    held (y.when query) = when-same (query_to (dump_of (forgetting state))) (query_held state) of-subject state.entries query
    held (y.bare y.serial) = ap serial_answer dump-same
    held (y.bare y.anomalies) = ap anomaly_answer dump-same
    held (y.bare y.check) = ap Checked same
    held (y.diff first second query) =
        diff-same (cond (are_mixed first second) (query_to (replayed_dump state.entries)) (query_to (dump_of (forgetting state)))) (cond (are_mixed first second) (query_held state) (query_held state))
        (what_if_held state.entries) (what_if_held state.entries) (beside (are_mixed first second)) (λ changes subject own. refl) (unmade_refusal (dump_of (forgetting state))) None made state.entries first second query
    held (y.causes subject query) =
        causes-same (query_to (replayed_dump state.entries)) (query_held state) (what_if_held state.entries) (what_if_held state.entries) of-remade (λ changes other own. refl)
        (unmade_refusal (dump_of (forgetting state))) None made state.entries subject query
    held (y.ask subject query) = of-subject subject query
    held (y.what_if changes subject query) = refl
    held (y.explain_saw t k query) =
        ap
        (λ (catalogue : List Table). query_answer (λ (select : Select). Program (program_lines state.entries false (y.after t k) select)) (seen_refusal t k state.entries) (checked_query catalogue query))
        whole
