-- Machinery: what answers a checked query, by the kind of its question, as contracts and lemmas speak of it.
use Rattle.std.specs.Prelude.{ℕ, Bool, List, Option, Result, map}
use Rattle.std.specs.Option.{option_map_or}
use Rattle.gp_base.specs.declared.refusal.Refusal.{Refusal}
use Rattle.gp_base.specs.declared.refusal.Refusal.TheVariants.{E04}
use Rattle.gp_base.specs.Annotated.{monomials}
use Rattle.gp_base.specs.Tokens.{Monomial}
use Rattle.gp_grammar.specs.Syntax as y
use Rattle.gp_algebra.specs.Answers.{Element, answer}
use Rattle.gp_algebra.specs.Statements.{Select}
use Rattle.gp_check.specs.Checking.{checked_query}
use Rattle.gp_compose.specs.Seen.{saw_refusal}
use Rattle.gp_machine.specs.Annotating.{annotated_versions}
use Rattle.gp_machine.specs.Points.{at_point, held_at}
use Rattle.gp_machine.specs.Questions.{given, log_refusal}
use Rattle.gp_machine.specs.State.{State}
use Rattle.gp_log.specs.Parameters.{parameters}
use Rattle.gp_log.specs.LogFacts.{tables_in}
use Rattle.gp_dump.specs.Dumps.{Dump}
use Rattle.gp_dumpline.specs.Texts.{span_text}
use Rattle.gp_semiring.specs.declared.rules.Rule.{Rule}
use Rattle.gp_versions.specs.declared.span.Span.{Span}
use Rattle.gp_history.specs.ValueAnswers.{all_elements, history_refusal}
use Rattle.gp_history.specs.Agreement.{agree}
use Rattle.gp_ask.specs.declared.answered.Answered.{Answered}
use Rattle.gp_ask.specs.declared.answered.Answered.TheVariants.{Lines, Refused}
use Rattle.gp_ask.specs.declared.answered.Heading.TheVariants.{Versions}
use Rattle.gp_ask.specs.Asking.{of_elements, query_answer, table_spans}
use Rattle.gp_ask.specs.Printed.{dump_answer, history_answer}
use Rattle.gp_ask.specs.Remaining.{has_left_out, remaining_answer}
use Rattle.gp_ask.specs.Seeing.{dump_saw}
use Rattle.gp_ask.specs.Values.{kind_of, rule_of}

-- the rules of a question, and the number of all other tokens
abbrev pub rules_of : List y.Rule → Option ℕ → List Rule × Option ℕ
rules_of rules other = (map rule_of rules, other)

-- a pattern of tokens, as a rule by which they count nothing
abbrev pub pattern_of : y.Rule → Rule
pattern_of rule = record { kind = kind_of rule.kind; t = rule.t; k = rule.k; n = rule.n; value = 0 }

-- ---- from a dump

-- the row versions of a table
abbrev pub versions_answer : List ℕ → List (List Span) → Option ℕ → Answered
versions_answer name tables found = option_map_or (λ (place : ℕ). Lines Versions (map span_text (table_spans tables place))) found (Refused (E04 name))

abbrev pub dump_rows : Dump → y.Point → Select → Answered
dump_rows dump = dump_answer dump y.rows

abbrev pub dump_provenance : Dump → y.Point → Select → Answered
dump_provenance dump = dump_answer dump y.provenance

abbrev pub dump_program : Dump → Bool → y.Point → Select → Answered
dump_program dump prov = dump_answer dump (y.explain prov)

-- the elements of the answer over the annotated versions, however many they are
abbrev pub dump_elements : Dump → y.Point → Select → Result (List (Element Monomial)) Refusal
dump_elements dump point select = all_elements monomials parameters agree (tables_in dump.entries) dump.entries (table_spans dump.tables) point select

-- the rows without those that these patterns leave out
abbrev pub dump_remaining : List Rule → Dump → y.Point → Select → Answered
dump_remaining patterns dump point select =
    of_elements
    (remaining_answer (has_left_out patterns) select (at_point monomials dump.entries point (annotated_versions monomials dump.entries (table_spans dump.tables)))
    (history_refusal monomials parameters agree (tables_in dump.entries) dump.entries (table_spans dump.tables) point))

-- a query over a state, given what answers it once it is checked
abbrev pub dump_query : Dump → (Select → Answered) → y.Point → y.Query → Answered
dump_query dump answer point query = query_answer answer (log_refusal dump.entries point) (checked_query (tables_in dump.entries) query)

-- a query over what a transaction saw
abbrev pub saw_to : Dump → ℕ → ℕ → y.Query → Answered
saw_to dump t k query = query_answer (dump_saw dump t k) (saw_refusal t k dump.entries) (checked_query (tables_in dump.entries) query)

-- ---- as a history held it

abbrev pub held_rows : State Monomial → y.Point → Select → Answered
held_rows state = history_answer state y.rows

abbrev pub held_provenance : State Monomial → y.Point → Select → Answered
held_provenance state = history_answer state y.provenance

abbrev pub held_elements : State Monomial → y.Point → Select → Result (List (Element Monomial)) Refusal
held_elements state point select = given (log_refusal state.entries point) (answer monomials select (held_at state point))

abbrev pub held_remaining : List Rule → State Monomial → y.Point → Select → Answered
held_remaining patterns state point select = of_elements (remaining_answer (has_left_out patterns) select (held_at state point) (log_refusal state.entries point))
