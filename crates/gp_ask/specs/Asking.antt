-- Part of the statement: the answer to a question about a state, from a dump alone, and the answer that a history held. It is refused by the
-- first that applies: its version, transaction or statement is not in the log, the check of its query, a number of its rules that is not in the
-- semiring, for provenance, values and what remains without some rows a version that the log does not give, a limit that the statements of a transaction
-- pass, the number of its rows.
use Rattle.std.specs.Prelude.{ℕ, Bool, List, [], ◌∷◌, map, Option, Result, Err, slice_index_or, if◌then◌else◌}
use Rattle.std.specs.Option.{option_map_or}
use Rattle.std.specs.Ordering.{is_eq}
use Rattle.std.specs.declared.cmp.Ordering.{Ordering}
use Rattle.gp_base.specs.declared.refusal.Refusal.{Refusal}
use Rattle.gp_base.specs.Annotated.{monomials}
use Rattle.gp_base.specs.Order.{row_cmp, sorted_by}
use Rattle.gp_base.specs.Tokens.{Monomial}
use Rattle.gp_grammar.specs.declared.semiring_name.SemiringName.{SemiringName}
use Rattle.gp_grammar.specs.Syntax as y
use Rattle.gp_versions.specs.declared.span.Span.{Span}
use Rattle.gp_algebra.specs.Answers.{Element, answer, cells_of}
use Rattle.gp_algebra.specs.Statements.{Select}
use Rattle.gp_machine.specs.Annotating.{annotated_versions}
use Rattle.gp_machine.specs.Entries.{Entry}
use Rattle.gp_machine.specs.Points.{at_point, held_at}
use Rattle.gp_machine.specs.Questions.{annotated_answer, given, held_answer, log_refusal, rows_answer}
use Rattle.gp_machine.specs.State.{State}
use Rattle.gp_log.specs.Parameters.{parameters}
use Rattle.gp_log.specs.LogFacts.{tables_in}
use Rattle.gp_dump.specs.Dumps.{Dump}
use Rattle.gp_semiring.specs.declared.rules.Rule.{Rule}
use Rattle.gp_semiring.specs.Values.{token_value}
use Rattle.gp_history.specs.ValueAnswers.{all_elements, history_refusal, limited, row_values}
use Rattle.gp_history.specs.Agreement.{agree, occurrence}
use Rattle.gp_semiring.specs.declared.listed.Listed as l
use Rattle.gp_ask.specs.declared.answered.Answered.{Answered}
use Rattle.gp_ask.specs.declared.answered.Answered.TheVariants.{Rows, Listed, Program}
use Rattle.gp_ask.specs.Remaining.{has_left_out, remaining_answer}
use Rattle.gp_ask.specs.Values.{Semiring, or_refused, outside_refusal, rule_of, semiring_of, semiring_with, unless_refused, with_values}

-- the row versions of a table of a dump
abbrev pub table_spans : List (List Span) → ℕ → List Span
table_spans tables place = slice_index_or tables place []

-- ---- queries

-- the rows, in row order, each as often as it occurs
abbrev pub of_elements : {M : Type 0} → Result (List (Element M)) Refusal → Answered
of_elements found = or_refused (λ elements. Rows (sorted_by row_cmp (cells_of elements))) found

-- in row order, those of one row in the order of their monomials
abbrev pub element_cmp : Element Monomial → Element Monomial → Ordering
element_cmp element other = row_cmp (occurrence element) (occurrence other)

-- an element put to the distinct rows of those behind it, of which the first may be its own
abbrev pub put_first : Element Monomial → List l.Listed → List l.Listed
put_first element [] = record { row = element.cells; monomials = element.annotation ∷ [] } ∷ []
put_first element (next ∷ others) =
    if is_eq (row_cmp element.cells next.row) then record { row = element.cells; monomials = element.annotation ∷ next.monomials } ∷ others
    else record { row = element.cells; monomials = element.annotation ∷ [] } ∷ next ∷ others

abbrev pub grouped : List (Element Monomial) → List l.Listed
grouped [] = []
grouped (element ∷ elements) = put_first element (grouped elements)

-- each distinct row in row order, with the monomials of all its occurrences in order
abbrev pub with_monomials : Result (List (Element Monomial)) Refusal → Answered
with_monomials found = or_refused (λ elements. Listed (grouped (sorted_by element_cmp elements))) found

-- the check of a query comes after the refusal of its version or transaction
abbrev pub asked : Option Refusal → Result Select Refusal → Result Select Refusal
asked refusal checked = option_map_or Err refusal checked

-- given what answers a query that was checked
abbrev pub query_answer : (Select → Answered) → Option Refusal → Result Select Refusal → Answered
query_answer answer refusal checked = or_refused answer (asked refusal checked)

-- the values of the rows in a semiring, by the monomials of the elements; distinct rows are counted
abbrev pub values_in : Semiring → List Rule × Option ℕ → Result (List (Element Monomial)) Refusal → Answered
values_in (semiring_with zero one plus times number itself text) rules elements =
    with_values text (limited parameters.answer (row_values plus zero one times (token_value one number itself rules)) elements)

-- values by rules
abbrev pub valued_answer : SemiringName → List y.Rule → Option ℕ → Result (List (Element Monomial)) Refusal → Answered
valued_answer name rules other elements =
    unless_refused (outside_refusal name (map rule_of rules) other) (values_in (semiring_of name) (map rule_of rules, other) elements)

-- ---- programs

-- what gives the lines of the program of a query over a state of a log, with provenance or without it; what they say is in `Explained`
abbrev pub Programs : Type 0
Programs = List Entry → Bool → y.Point → Select → List (List ℕ)

module _ (programs : Programs) where
  -- ---- the answer from a dump

  -- A query that was checked. Rows are those of the dump's own versions. Their provenance, the elements by which they have values, and the rows that remain
  -- without those that patterns leave out are over the versions as the log's transactions annotate them. An explained query is its program, whatever the rows are.
  abbrev pub dump_answer : Dump → y.How → y.Point → Select → Answered
  dump_answer dump y.rows point select = of_elements (rows_answer parameters dump.entries (table_spans dump.tables) point select)
  dump_answer dump y.provenance point select =
      with_monomials (annotated_answer monomials parameters agree (tables_in dump.entries) dump.entries (table_spans dump.tables) point select)
  dump_answer dump (y.explain prov) point select = Program (programs dump.entries prov point select)
  dump_answer dump (y.value name rules other) point select =
      valued_answer name rules other (all_elements monomials parameters agree (tables_in dump.entries) dump.entries (table_spans dump.tables) point select)
  dump_answer dump (y.without patterns) point select =
      of_elements
      (remaining_answer (has_left_out (map rule_of patterns)) select
      (at_point monomials dump.entries point (annotated_versions monomials dump.entries (table_spans dump.tables)))
      (history_refusal monomials parameters agree (tables_in dump.entries) dump.entries (table_spans dump.tables) point))

  -- ---- the answer that a history held

  -- The rows that a commit published, or that a transaction saw after one of its statements, their provenance, the elements by which they have values, and
  -- the rows that the query gives over the same database without some of its rows. Programs are made of the log alone.
  abbrev pub history_answer : State Monomial → y.How → y.Point → Select → Answered
  history_answer state y.rows point select = of_elements (held_answer monomials parameters state point select)
  history_answer state y.provenance point select = with_monomials (held_answer monomials parameters state point select)
  history_answer state (y.explain prov) point select = Program (programs state.entries prov point select)
  history_answer state (y.value name rules other) point select =
      valued_answer name rules other (given (log_refusal state.entries point) (answer monomials select (held_at state point)))
  history_answer state (y.without patterns) point select =
      of_elements (remaining_answer (has_left_out (map rule_of patterns)) select (held_at state point) (log_refusal state.entries point))
