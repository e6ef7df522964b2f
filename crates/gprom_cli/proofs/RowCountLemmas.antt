-- No answer has more rows than an answer may have.
use Rattle.std.proofs.Common.{◌≡◌, ℕ, suc, ◌≤◌, Bool, true, false, cond, nat_lt, List, [], ◌∷◌, length, map, Option, Some, None, Result, Ok, Err, refl, arith}
use Rattle.std.specs.Prelude.{IfOk, ◌||◌, ◌-◌}
use Rattle.std.specs.List.{sum_by}
use Rattle.std.specs.Option.{option_map, option_map_or, option_or}
use Rattle.std.specs.Result.{result_unwrap_or}
use Rattle.std.specs.Ordering.{is_eq}
use Rattle.std.proofs.lemmas.Bool.Decides.{nat_tests}
use Rattle.std.proofs.lemmas.List.{length-map}
use Rattle.std.proofs.lemmas.List.Sums.{sum_by-cons}
use Rattle.gp_base.specs.declared.cell.Cell.{Cell}
use Rattle.gp_base.specs.declared.refusal.Refusal.{Refusal}
use Rattle.gp_base.specs.declared.refusal.Refusal.TheVariants.{E04, E27}
use Rattle.gp_base.specs.Order.{row_cmp, sorted_by}
use Rattle.gp_base.specs.Tokens.{Monomial}
use Rattle.gp_base.specs.Annotated.{monomials, unannotated}
use Rattle.gp_base.specs.declared.table.Table.{Table}
use Rattle.gp_base.specs.declared.token.Token.{Token}
use Rattle.gp_grammar.specs.declared.semiring_name.SemiringName.{SemiringName}
use Rattle.gp_grammar.specs.declared.semiring_name.SemiringName.TheVariants as named
use Rattle.gp_grammar.specs.LineReading.{Fault}
use Rattle.gp_grammar.specs.Reading.{question_of}
use Rattle.gp_grammar.specs.Syntax as y
use Rattle.gp_algebra.specs.Answers.{Element, answer, cells_of}
use Rattle.gp_algebra.specs.Statements.{Select, Statement, target}
use Rattle.gp_check.specs.Checking.{checked_query}
use Rattle.gp_base.specs.declared.limit.TheConstants.{MAX_ANSWER_ROWS}
use Rattle.gp_base.specs.Catalogs.{place_of}
use Rattle.gp_versions.specs.declared.span.Span.{Span}
use Rattle.gp_syntax.specs.Lines.{script_lines}
use Rattle.gp_machine.specs.Annotating.{annotated_versions}
use Rattle.gp_machine.specs.Entries.{Entry, log_of, statement_at, statement_count, version_of, versions_in}
use Rattle.gp_machine.specs.Event.{name_at}
use Rattle.gp_machine.specs.HistorySpans.{as_of}
use Rattle.gp_machine.specs.Points.{at_point, run_stop}
use Rattle.gp_machine.specs.Runs.{run}
use Rattle.gp_machine.specs.Questions.{annotated_answer, annotation_stop, answer_refusal, given, is_known, log_refusal, needed_version, own_stop, rows_answer, stop_refusal, transaction_refusal}
use Rattle.gp_log.specs.Parameters.{parameters}
use Rattle.gp_log.specs.LogFacts.{tables_in}
use Rattle.gp_whatif.specs.Changed.{changed_log}
use Rattle.gp_dump.specs.Dumps.{Dump}
use Rattle.gp_dump.proofs.RowPlaces.{sorted_length}
use Rattle.gp_semiring.specs.declared.listed.Listed.{Listed}
use Rattle.gp_semiring.specs.declared.rules.Rule.{Rule}
use Rattle.gp_semiring.specs.Rules.{first_outside}
use Rattle.gp_history.specs.DistinctRows.{distinct_rows}
use Rattle.gp_history.specs.ValueAnswers.{all_elements, history_refusal, limited, row_values}
use Rattle.gp_history.specs.ValueForms.{value_answer}
use Rattle.gp_history.specs.Agreement.{agree}
use Rattle.gp_ask.specs.declared.answered.Answered.{Answered}
use Rattle.gp_ask.specs.declared.answered.Answered.TheVariants.{Diff, Lines, Program, Refused}
use Rattle.gp_ask.specs.declared.answered.Heading.{Heading}
use Rattle.gp_ask.specs.declared.answered.Heading.TheVariants.{Changes, History, When}
use Rattle.gp_ask.specs.ChangeForms.{changes_over, version_changes}
use Rattle.gp_machine.specs.RowChanges.{tables_changes}
use Rattle.gp_serial.specs.Anomalies.{Anomalies, Found, Refused as NotFound, anomalies_of}
use Rattle.gp_serial.specs.Serializing.{InCycle, InOrder, Serial, Undecided, runs_refusal, serial_of}
use Rattle.gp_ask.specs.AnomalyAnswers.{answered_anomalies}
use Rattle.gp_ask.specs.SerialAnswers.{answered_serial}
use Rattle.gp_ask.specs.Changes.{Change, change_texts}
use Rattle.gp_ask.specs.HistoryForms.{dump_history}
use Rattle.gp_ask.specs.Made.{unmade_refusal}
use Rattle.gp_ask.specs.Intervals.{Interval, interval_cmp, interval_lines, interval_text, intervals, refusal_upto, version_rows}
use Rattle.gp_ask.specs.RowHistories.{all_of}
use Rattle.gp_ask.specs.Looked.{stop_at}
use Rattle.gp_ask.specs.Seeing.{dump_saw, seen_refusal, unknown_refusal}
use Rattle.gp_compose.specs.Seen.{changes_refusal, saw_refusal}
use Rattle.gp_reenact.specs.Looking.{saw_answer}
use Rattle.gp_ask.specs.Computed.{computed_answer, what_if_answer}
use Rattle.gp_ask.specs.Asking.{element_cmp, grouped, of_elements, put_first, query_answer, table_spans, with_monomials}
use Rattle.gp_ask.specs.Printed.{ask_to, changed_answer, query_to}
use Rattle.gp_ask.specs.Programs.{program_lines}
use Rattle.gp_ask.specs.AskingForms.{dump_program, dump_provenance, dump_remaining, dump_rows, rules_of, versions_answer}
use Rattle.gp_ask.specs.ValueForms.{dump_valued, dump_values}
use Rattle.gp_ask.specs.Deltas.{Signed, delta, with_sign}
use Rattle.gp_ask.specs.Differences as answers
use Rattle.gp_ask.specs.DifferenceForms.{causes_of, committed_writes, diff_of, history_of, without_in}
use Rattle.gp_ask.specs.Differences.{are_mixed, mixed_refusal, side_answer}
use Rattle.gp_ask.specs.Hypothetical.{asking_refusal, remaking_refusal, replayed_dump}
use Rattle.gp_ask.specs.Operations.{number_refusal, operations_of, value_of}
use Rattle.gp_ask.specs.Values.{or_refused, rule_of, unless_refused, valued, with_values}
use Rattle.gp_ask.specs.Questions.{answered}
use Rattle.gp_ask.specs.Remaining.{are_too_many, has_left_out, remaining, remaining_answer}
use Rattle.gp_ask.specs.Replays.{dump_in}
use Rattle.gprom_cli.specs.Summary.{row_count}
use Rattle.gprom_cli.specs.Summaries.{line_rows, rows_in}

abbrev HasFew : Answered → Type 0
HasFew answered = row_count answered ≤ MAX_ANSWER_ROWS

-- ---- elements that were not refused

abbrev AreFew : {A : Type 0} → Result (List A) Refusal → Type 0
AreFew result = IfOk result (λ items. length items ≤ MAX_ANSWER_ROWS)

module _ {A : Type 0} (items : List A) where
  counted : (many : Bool) → nat_lt MAX_ANSWER_ROWS (length items) ≡ many → AreFew (given (cond many (Some E27) None) items)
  counted true is = tt
  counted false is = grind (arith, nat_tests)

  behind : (refusal other : Option Refusal) → AreFew (given other items) → AreFew (given (option_or refusal other) items)
  behind (Some refusal) other few = tt
  behind None other few = few

  either : (all many : Bool) → nat_lt MAX_ANSWER_ROWS (length items) ≡ many → AreFew (given (cond (all || many) (Some E27) None) items)
  either true many is = tt
  either false many is = counted many is

  abbrev limit : AreFew (given (cond (nat_lt MAX_ANSWER_ROWS (length items)) (Some E27) None) items)
  limit = counted (nat_lt MAX_ANSWER_ROWS (length items)) refl

-- ---- their rows

few-elements : {M : Type 0} (result : Result (List (Element M)) Refusal) → AreFew result → HasFew (of_elements result)
few-elements (Ok elements) few = let same = sorted_length row_cmp (cells_of elements) in let cells = length-map elements (λ element. element.cells) in omega (arith, few, same, cells)
few-elements (Err refusal) few = omega arith

put-few : (element : Element Monomial) (groups : List Listed) → length (put_first element groups) ≤ suc (length groups)
put-few element [] = omega arith
put-few element (next ∷ others) =
    one (record { row = element.cells; monomials = element.annotation ∷ next.monomials }) (record { row = element.cells; monomials = element.annotation ∷ [] }) (is_eq (row_cmp element.cells next.row))
  where
    one : (joined own : Listed) (same : Bool) → length (cond same (joined ∷ others) (own ∷ next ∷ others)) ≤ suc (suc (length others))
    one joined own true = omega arith
    one joined own false = omega arith

grouped-all : (elements : List (Element Monomial)) → length (grouped elements) ≤ length elements
grouped-all [] = omega arith
grouped-all (element ∷ elements) = let first = put-few element (grouped elements) in let rest = grouped-all elements in omega (arith, first, rest)

few-listed : (result : Result (List (Element Monomial)) Refusal) → AreFew result → HasFew (with_monomials result)
few-listed (Ok elements) few =
    let groups = grouped-all (sorted_by element_cmp elements) in
    let same = sorted_length element_cmp elements in
    omega (arith, few, groups, same)
few-listed (Err refusal) few = omega arith

few-values : {K : Type 0} (text_of : K → List ℕ) (result : Result (List (List Cell × K)) Refusal) → AreFew result → HasFew (with_values text_of result)
few-values text_of (Ok rows) few = let same = length-map rows (valued text_of) in omega (arith, few, same)
few-values text_of (Err refusal) few = omega arith

few-limited : {M K : Type 0} (values : List (Element M) → List (List Cell × K)) (result : Result (List (Element M)) Refusal) → AreFew (limited MAX_ANSWER_ROWS values result)
few-limited values (Err refusal) = tt
few-limited values (Ok elements) = limit (values elements)

few-unless : (refusal : Option Refusal) (answered : Answered) → HasFew answered → HasFew (unless_refused refusal answered)
few-unless (Some refusal) answered few = omega arith
few-unless None answered few = few

-- ---- the answers of the history machine

module _ (entries : List Entry) (spans : ℕ → List Span) (point : y.Point) (query : Select) where
  few-plain : AreFew (rows_answer parameters entries spans point query)
  few-plain =
      let versions = as_of unannotated spans in
      let elements = answer unannotated query (at_point unannotated entries point versions) in
      let stop = own_stop unannotated parameters entries point versions in
      let over = answer_refusal unannotated parameters elements in
      behind elements (log_refusal entries point) (option_or stop over) (behind elements stop over (limit elements))

  few-annotated : (catalogue : List Table) → AreFew (annotated_answer monomials parameters agree catalogue entries spans point query)
  few-annotated catalogue =
      let versions = annotated_versions monomials entries spans in
      let elements = answer monomials query (at_point monomials entries point versions) in
      let annotation = annotation_stop monomials parameters agree catalogue (log_of entries) spans (needed_version entries point) in
      let stop = own_stop monomials parameters entries point versions in
      let over = answer_refusal monomials parameters elements in
      behind elements (log_refusal entries point) (option_or annotation (option_or stop over)) (behind elements annotation (option_or stop over) (behind elements stop over (limit elements)))

  few-valued : {K : Type 0} (plus : K → K → K) (zero_of one_of : K) (times : K → K → K) (value : Token → K) (catalogue : List Table)
      → AreFew (value_answer parameters plus zero_of one_of times value agree catalogue entries spans point query)
  few-valued plus zero_of one_of times value catalogue =
      few-limited (row_values plus zero_of one_of times value) (all_elements monomials parameters agree catalogue entries spans point query)

few-checked : (answers : Select → Answered) (refusal : Option Refusal) (checked : Result Select Refusal) → ((select : Select) → HasFew (answers select)) → HasFew (query_answer answers refusal checked)
few-checked answers (Some refusal) checked few = omega arith
few-checked answers None (Err refusal) few = omega arith
few-checked answers None (Ok select) few = few select

-- ---- every answer

few-log : (known : Bool) (a b : Answered) → row_count a ≡ 0 → row_count b ≡ 0 → HasFew (cond known a b)
few-log true a b none other = omega (arith, none)
few-log false a b none other = omega (arith, other)

few-versions : (name : List ℕ) (tables : List (List Span)) (place : Option ℕ) → HasFew (versions_answer name tables place)
few-versions name tables None = omega arith
few-versions name tables (Some place) = omega arith

module _ (dump : Dump) (point : y.Point) (select : Select) where
  few-semiring : (name : SemiringName) (rules : List Rule × Option ℕ) → HasFew (dump_values (operations_of name) name rules dump point select)
  few-semiring name rules =
      let semiring = operations_of name in
      let value = value_of semiring rules in
      let rows = value_answer parameters semiring.plus_of semiring.zero_of semiring.one_of semiring.times_of value agree (tables_in dump.entries) dump.entries (table_spans dump.tables) point select in
      few-unless (number_refusal name (first_outside semiring.number_of rules.0 rules.1)) (with_values semiring.text_of rows)
      (few-values semiring.text_of rows (few-valued dump.entries (table_spans dump.tables) point select semiring.plus_of semiring.zero_of semiring.one_of semiring.times_of value (tables_in dump.entries)))

  few-by-rules : (name : SemiringName) (rules : List y.Rule) (other : Option ℕ) → HasFew (dump_valued name rules other dump point select)
  few-by-rules named.Count rules other = few-semiring named.Count (rules_of rules other)
  few-by-rules named.Bool rules other = few-semiring named.Bool (rules_of rules other)
  few-by-rules named.Cost rules other = few-semiring named.Cost (rules_of rules other)
  few-by-rules named.Level rules other = few-semiring named.Level (rules_of rules other)
  few-by-rules named.Poly rules other = few-semiring named.Poly (rules_of rules other)
  few-by-rules named.Witness rules other = few-semiring named.Witness (rules_of rules other)

  few-remaining : (patterns : List Rule) → HasFew (dump_remaining patterns dump point select)
  few-remaining patterns =
      let db = at_point monomials dump.entries point (annotated_versions monomials dump.entries (table_spans dump.tables)) in
      let refusal = history_refusal monomials parameters agree (tables_in dump.entries) dump.entries (table_spans dump.tables) point in
      let rest = remaining (has_left_out patterns) select db in
      few-elements (remaining_answer (has_left_out patterns) select db refusal)
      (behind rest refusal (cond (are_too_many (has_left_out patterns) select db) (Some E27) None)
      (either rest (nat_lt parameters.answer (length (distinct_rows (cells_of (answer monomials select db))))) (nat_lt parameters.answer (length rest)) refl))

few-ask : (dump : Dump) (how : y.How) (point : y.Point) (query : y.Query) → HasFew (ask_to dump how point query)
few-ask dump y.rows point query =
    few-checked (dump_rows dump point) (log_refusal dump.entries point) (checked_query (tables_in dump.entries) query)
    (λ select. few-elements (rows_answer parameters dump.entries (table_spans dump.tables) point select) (few-plain dump.entries (table_spans dump.tables) point select))
few-ask dump y.provenance point query =
    few-checked (dump_provenance dump point) (log_refusal dump.entries point) (checked_query (tables_in dump.entries) query)
    (λ select. few-listed (annotated_answer monomials parameters agree (tables_in dump.entries) dump.entries (table_spans dump.tables) point select) (few-annotated dump.entries (table_spans dump.tables) point select (tables_in dump.entries)))
few-ask dump (y.explain prov) point query =
    few-checked (dump_program dump prov point) (log_refusal dump.entries point) (checked_query (tables_in dump.entries) query) (λ select. omega arith)
few-ask dump (y.value name rules other) point query =
    few-checked (dump_valued name rules other dump point) (log_refusal dump.entries point) (checked_query (tables_in dump.entries) query)
    (λ select. few-by-rules dump point select name rules other)
few-ask dump (y.without patterns) point query =
    few-checked (dump_remaining (map rule_of patterns) dump point) (log_refusal dump.entries point) (checked_query (tables_in dump.entries) query)
    (λ select. few-remaining dump point select (map rule_of patterns))

-- ---- what a transaction saw

few-saw : (entries : List Entry) (spans : ℕ → List Span) (t k : ℕ) (query : Select) → AreFew (saw_answer parameters entries spans t k query)
few-saw entries spans t k query =
    let elements = answer unannotated query (run unannotated (log_of entries) t k (as_of unannotated spans)) in
    let stop = option_map stop_refusal (run_stop unannotated parameters (log_of entries) t k (as_of unannotated spans)) in
    let over = answer_refusal unannotated parameters elements in
    behind elements (saw_refusal t k entries) (option_or stop over) (behind elements stop over (limit elements))

few-query : (dump : Dump) (subject : y.Subject) (query : y.Query) → HasFew (query_to dump subject query)
few-query dump (y.of_state how point) query = few-ask dump how point query
few-query dump (y.saw t k) query =
    few-checked (dump_saw dump t k) (saw_refusal t k dump.entries) (checked_query (tables_in dump.entries) query)
    (λ select. few-elements (saw_answer parameters dump.entries (table_spans dump.tables) t k select) (few-saw dump.entries (table_spans dump.tables) t k select))

-- ---- questions about changed logs

few-remade : (entries : List Entry) (subject : y.Subject) (query : y.Query)
    → HasFew (unless_refused (asking_refusal entries subject query) (unless_refused (remaking_refusal entries) (query_to (replayed_dump entries) subject query)))
few-remade entries subject query =
    few-unless (asking_refusal entries subject query) _ (few-unless (remaking_refusal entries) _ (few-query (replayed_dump entries) subject query))

few-changed : (found : Result (List Entry) Refusal) (subject : y.Subject) (query : y.Query) → HasFew (changed_answer (λ own. query_to (replayed_dump own)) found subject query)
few-changed (Err refusal) subject query = omega arith
few-changed (Ok entries) (y.of_state (y.explain prov) point) query = few-ask (dump_in entries []) (y.explain prov) point query
few-changed (Ok entries) (y.of_state y.rows point) query = few-remade entries (y.of_state y.rows point) query
few-changed (Ok entries) (y.of_state y.provenance point) query = few-remade entries (y.of_state y.provenance point) query
few-changed (Ok entries) (y.of_state (y.value name rules other) point) query = few-remade entries (y.of_state (y.value name rules other) point) query
few-changed (Ok entries) (y.of_state (y.without patterns) point) query = few-remade entries (y.of_state (y.without patterns) point) query
few-changed (Ok entries) (y.saw t k) query = few-remade entries (y.saw t k) query

-- ---- changes have no rows

few-changes : (tables : List Table) (own : Option ℕ) (changes : Result (List Change) Refusal)
    → HasFew (option_map_or (λ (place : ℕ). or_refused (λ (rows : List Change). Lines Changes (change_texts (name_at place tables) rows)) changes) own (Lines Changes []))
few-changes tables None changes = omega arith
few-changes tables (Some place) (Ok changes) = omega arith
few-changes tables (Some place) (Err refusal) = omega arith

few-any : (dump : Dump) (t k : ℕ) (statement : Option Statement) → HasFew (option_map_or (changes_over dump t k) statement (Lines Changes []))
few-any dump t k None = omega arith
few-any dump t k (Some statement) = few-changes (tables_in dump.entries) (target statement) _

few-version : (dump : Dump) (version : Option ℕ) → HasFew (version_changes dump version)
few-version dump None = omega arith
few-version dump (Some version) = omega arith

-- ---- differences have no rows

few-lines : (lines : List Signed) (over : Bool) → HasFew (cond over (Refused E27) (Diff (map with_sign lines)))
few-lines lines true = omega arith
few-lines lines false = omega arith

few-diff : (first second : Result (List (List Cell)) Refusal) → HasFew (diff_of first second)
few-diff (Err refusal) second = omega arith
few-diff (Ok rows) (Err refusal) = omega arith
few-diff (Ok rows) (Ok others) = few-lines (delta rows others) (nat_lt parameters.answer (length (delta rows others)))

few-causes : (without : ℕ × ℕ → Answered) (statements : List (ℕ × ℕ)) (own : Result (List (List Cell)) Refusal) → HasFew (causes_of without statements own)
few-causes without statements (Err refusal) = omega arith
few-causes without statements (Ok rows) = omega arith

few-serial : (tables : List Table) (entries : List Entry) (serial : Serial) → HasFew (answered_serial tables entries serial)
few-serial tables entries (InOrder order) = omega arith
few-serial tables entries (InCycle steps) = omega arith
few-serial tables entries Undecided = omega arith

few-anomalies : (tables : List Table) (entries : List Entry) (anomalies : Anomalies) → HasFew (answered_anomalies tables entries anomalies)
few-anomalies tables entries (Found found) = omega arith
few-anomalies tables entries (NotFound refusal) = omega arith

-- ---- what became of rows, and when they were there

few-texts : (heading : Heading) (texts : List (List ℕ)) (over : Bool) → HasFew (cond over (Refused E27) (Lines heading texts))
few-texts heading texts true = omega arith
few-texts heading texts false = omega arith

few-intervals : (own : List Interval) → HasFew (interval_lines own)
few-intervals own = few-texts When (map interval_text (sorted_by interval_cmp own)) (nat_lt parameters.answer (length own))

few-rows-of : (dump : Dump) (place : Option ℕ) (name : List ℕ) (checked : Result Select Refusal)
    → HasFew (or_refused (λ (select : Select). option_map_or (λ (own : ℕ). dump_history dump own select) place (Refused (E04 name))) checked)
few-rows-of dump place name (Err refusal) = omega arith
few-rows-of dump None name (Ok select) = omega arith
few-rows-of dump (Some place) name (Ok select) = few-unless (runs_refusal parameters dump.entries (table_spans dump.tables) (versions_in dump.entries)) _ (few-texts History _ _)

few-answer : (dump : Dump) (question : y.Question) → HasFew (computed_answer dump question)
few-answer dump (y.bare (y.log t)) = few-log (is_known t dump.entries) _ _ refl refl
few-answer dump (y.bare (y.versions name)) = few-versions name dump.tables (place_of name (tables_in dump.entries))
few-answer dump (y.bare y.transactions) = omega arith
few-answer dump (y.bare (y.changes t k)) = few-unless (changes_refusal t k dump.entries) _ (few-any dump t (k - 1) (statement_at t k dump.entries))
few-answer dump (y.bare (y.commit_changes t)) = few-unless (transaction_refusal t dump.entries) _ (few-version dump (version_of t dump.entries))
few-answer dump (y.bare (y.conflicts t)) = few-unless (unknown_refusal t dump.entries) _ (few-unless (stop_at dump t (statement_count t dump.entries)) _ (omega arith))
few-answer dump (y.history name cond) = few-rows-of dump (place_of name (tables_in dump.entries)) name (checked_query (tables_in dump.entries) (all_of name cond))
few-answer dump (y.when query) =
    few-unless (refusal_upto (query_to dump) query (versions_in dump.entries)) _
    (few-intervals (intervals (λ version. result_unwrap_or (version_rows (query_to dump) query version) []) (versions_in dump.entries)))
few-answer dump (y.bare y.serial) =
    few-unless (runs_refusal parameters dump.entries (table_spans dump.tables) (versions_in dump.entries)) _
    (few-serial (tables_in dump.entries) dump.entries
    (serial_of (tables_in dump.entries) dump.entries (tables_changes 0 dump.tables) parameters (table_spans dump.tables)))
few-answer dump (y.bare y.anomalies) =
    few-anomalies (tables_in dump.entries) dump.entries
    (anomalies_of (tables_in dump.entries) dump.entries (tables_changes 0 dump.tables) parameters (table_spans dump.tables))
few-answer dump (y.bare y.check) = omega arith
few-answer dump (y.diff first second query) =
    few-unless (mixed_refusal (unmade_refusal dump) dump.entries first second query) _
    (few-diff (answers.rows_in (side_answer (history_of (are_mixed first second) dump) (what_if_answer dump.entries) first query))
    (answers.rows_in (side_answer (history_of (are_mixed first second) dump) (what_if_answer dump.entries) second query)))
few-answer dump (y.causes subject query) =
    few-unless (option_or (asking_refusal dump.entries subject query) (unmade_refusal dump)) _
    (few-causes (without_in (what_if_answer dump.entries) subject query) (committed_writes dump.entries) (answers.rows_in (query_to (replayed_dump dump.entries) subject query)))
few-answer dump (y.ask subject query) = few-query dump subject query
few-answer dump (y.what_if changes subject query) = few-changed (changed_log parameters dump.entries changes) subject query
few-answer dump (y.explain_saw t k query) =
    few-checked (λ (select : Select). Program (program_lines dump.entries false (y.after t k) select)) (seen_refusal t k dump.entries) (checked_query (tables_in dump.entries) query) (λ select. omega arith)

few-read : (dump : Dump) (read : Result y.Question Fault) → HasFew (answered (computed_answer dump) read)
few-read dump (Err fault) = omega arith
few-read dump (Ok question) = few-answer dump question

pub few-rows : (dump : Dump) (line : ℕ × List ℕ) → line_rows (computed_answer dump) line ≤ MAX_ANSWER_ROWS
few-rows dump line = few-read dump (question_of line.1)

-- ---- answers with as many rows

module _ (answers others : y.Question → Answered) (same : (question : y.Question) → row_count (answers question) ≡ row_count (others question)) where
  same-read : (read : Result y.Question Fault) → row_count (answered answers read) ≡ row_count (answered others read)
  same-read (Err fault) = refl
  same-read (Ok question) = same question

  same-lines : (lines : List (ℕ × List ℕ)) → sum_by (line_rows answers) lines ≡ sum_by (line_rows others) lines
  same-lines [] = refl
  same-lines (line ∷ lines) =
      let first = same-read (question_of line.1) in
      let rest = same-lines lines in
      let one = sum_by-cons (line_rows answers) line lines in
      let other = sum_by-cons (line_rows others) line lines in
      omega (arith, first, rest, one, other)

  pub same-rows : (questions : List ℕ) → rows_in answers questions ≡ rows_in others questions
  same-rows questions = same-lines (script_lines questions)
