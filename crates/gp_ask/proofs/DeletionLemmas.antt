-- What is counted over the row versions of a dump is the answer without the rows that the patterns leave out.
use Rattle.std.proofs.Common.{◌≡◌, ℕ, Bool, List, map, Option, Some, Result, Ok, Err, subst}
use Rattle.gp_base.specs.declared.cell.Cell.{Cell}
use Rattle.gp_base.specs.declared.refusal.Refusal.{Refusal}
use Rattle.gp_base.specs.declared.token.Token.{Token}
use Rattle.gp_base.specs.Annotated.{Database, monomials}
use Rattle.gp_base.specs.Tokens.{Monomial, greatest_count}
use Rattle.gp_grammar.specs.Syntax as y
use Rattle.gp_algebra.specs.Answers.{answer}
use Rattle.gp_algebra.specs.Statements.{Select}
use Rattle.gp_history.specs.Agreement.{agree}
use Rattle.gp_history.specs.Values.{Gives}
use Rattle.gp_log.specs.Parameters.{parameters}
use Rattle.gp_log.specs.LogFacts.{tables_in}
use Rattle.gp_machine.specs.Annotating.{annotated_versions}
use Rattle.gp_machine.specs.Entries.{Entry}
use Rattle.gp_machine.specs.Points.{at_point}
use Rattle.gp_base.specs.declared.stop.Stop.{Stop}
use Rattle.gp_base.specs.declared.stop.Stop.TheVariants as stop
use Rattle.gp_semiring.specs.Sums.{plus_up_to, times_up_to}
use Rattle.gp_semiring.specs.declared.rules.Rule.{Rule}
use Rattle.gp_history.specs.ValueAnswers.{history_refusal}
use Rattle.gp_history.specs.ValueForms.{value_answer}
use Rattle.gp_versions.specs.declared.span.Span.{Span}
use Rattle.gp_dump.specs.Dumps.{Dump}
use Rattle.gp_ask.specs.declared.answered.Answered.TheVariants.{Refused}
use Rattle.gp_ask.specs.Asking.{table_spans}
use Rattle.gp_ask.specs.AskingForms.{dump_remaining, pattern_of}
use Rattle.gp_ask.specs.Counted.{counted_answer}
use Rattle.gp_ask.specs.Remaining.{is_left_out}
use Rattle.gp_ask.specs.Operations.{count}
use Rattle.gp_ask.specs.Values.{rule_of}
use Rattle.gp_ask.proofs.CountedLemmas.{EachCounts, answers_count}
use Rattle.gp_ask.proofs.RemainingLemmas.{by_patterns, expected, found_is, refused_is}
use Rattle.gp_ask.proofs.ValueLemmas.{found_in}

module _ (dump : Dump) (patterns : List y.Rule) (own : List Rule × Option ℕ) (by : own ≡ (map pattern_of patterns, Some 1)) (point : y.Point) (select : Select) where
  abbrev entries : List Entry
  entries = dump.entries

  abbrev spans : ℕ → List Span
  spans = table_spans dump.tables

  abbrev matches : Token → Bool
  matches = is_left_out (map rule_of patterns)

  abbrev db : Database Monomial
  db = at_point monomials entries point (annotated_versions monomials entries spans)

  counts : EachCounts (answer monomials select db)
  counts = answers_count (tables_in entries) entries spans point select

  abbrev refusal : Option Refusal
  refusal = history_refusal monomials parameters agree (tables_in entries) entries spans point

  abbrev found : Result (List (List Cell × ℕ)) Refusal
  found = found_in count own entries (tables_in entries) spans point select

  over_counts : {X : Type 0} (view : X → List (List Cell × ℕ)) (result : Result X Stop) → Gives view result found → Gives view result (expected matches select db counts refusal)
  over_counts view result gives =
      subst (λ (value : Token → ℕ). Gives view result (value_answer parameters (plus_up_to greatest_count) 0 1 (times_up_to greatest_count) value agree (tables_in entries) entries spans point select)) (by_patterns patterns)
      (subst (λ (rules : List Rule × Option ℕ). Gives view result (found_in count rules entries (tables_in entries) spans point select)) by gives)

  pub rows_remain : {X : Type 0} (view : X → List (List Cell × ℕ)) (rows : X) → Gives view (Ok rows) found → counted_answer (view rows) ≡ dump_remaining (map rule_of patterns) dump point select
  rows_remain view rows gives = found_is matches select db counts view rows refusal (over_counts view (Ok rows) gives)

  pub none_remain : {X : Type 0} (view : X → List (List Cell × ℕ)) (refused : Refusal) → Gives view (Err (stop.Refused refused)) found → Refused refused ≡ dump_remaining (map rule_of patterns) dump point select
  none_remain view refused gives = refused_is matches select db counts view refused refusal (over_counts view (Err (stop.Refused refused)) gives)
