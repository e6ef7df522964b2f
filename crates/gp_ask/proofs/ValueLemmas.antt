-- The rows with values that are found are the answer, and values by rules are elements.
use Rattle.std.proofs.Common.{◌≡◌, ℕ, List, map, Option, Some, None, Result, Ok, Err, ap, subst}
use Rattle.std.specs.Prelude.{unwrap_or}
use Rattle.gp_base.specs.declared.cell.Cell.{Cell}
use Rattle.gp_base.specs.declared.refusal.Refusal.{Refusal}
use Rattle.gp_base.specs.declared.token.Token.{Token}
use Rattle.gp_base.specs.declared.table.Table.{Table}
use Rattle.gp_base.specs.Tokens.{Monomial}
use Rattle.gp_grammar.specs.declared.semiring_name.SemiringName.{SemiringName}
use Rattle.gp_grammar.specs.declared.semiring_name.SemiringName.TheVariants as named
use Rattle.gp_grammar.specs.Syntax as y
use Rattle.gp_versions.specs.declared.span.Span.{Span}
use Rattle.gp_algebra.specs.Statements.{Select}
use Rattle.gp_history.specs.Agreement.{agree}
use Rattle.gp_history.specs.Values.{Gives}
use Rattle.gp_log.specs.Parameters.{parameters}
use Rattle.gp_machine.specs.Entries.{Entry}
use Rattle.gp_machine.specs.State.{State}
use Rattle.gp_log.specs.LogFacts.{tables_in}
use Rattle.gp_log.specs.Logs.{log_view}
use Rattle.gp_base.specs.declared.stop.Stop.{Stop}
use Rattle.gp_base.specs.declared.stop.Stop.TheVariants as stop
use Rattle.gp_reenact.specs.Reenacting.{spans_of}
use Rattle.gp_versions.specs.Spans.{Versions}
use Rattle.gp_dump.specs.declared.dump.Dump as code
use Rattle.gp_dump.specs.Views.{tables_view}
use Rattle.gp_semiring.specs.declared.rules.Rule.{Rule}
use Rattle.gp_semiring.specs.Rules.{number_by}
use Rattle.gp_semiring.specs.Values.{token_value, value_by}
use Rattle.gp_history.specs.ValueForms.{held_value_answer, value_answer}
use Rattle.gp_ask.specs.declared.answered.Answered.TheVariants.{Refused, Values}
use Rattle.gp_ask.specs.Asking.{table_spans}
use Rattle.gp_ask.specs.Operations.{Operations, operations_of, value_of}
use Rattle.gp_ask.specs.Values.{valued, with_values}
use Rattle.gp_ask.proofs.ProvenanceLemmas.{spans-are}

-- ---- the values of a log and its spans, and those of a history

module _ (semiring : Operations) (rules : List Rule × Option ℕ) where
  abbrev pub found_in : List Entry → List Table → (ℕ → List Span) → y.Point → Select → Result (List (List Cell × semiring.Element)) Refusal
  found_in entries catalogue spans point select =
      value_answer parameters semiring.plus_of semiring.zero_of semiring.one_of semiring.times_of (value_of semiring rules) agree catalogue entries spans point select

  abbrev pub held_in : State Monomial → y.Point → Select → Result (List (List Cell × semiring.Element)) Refusal
  held_in state point select = held_value_answer parameters semiring.plus_of semiring.zero_of semiring.one_of semiring.times_of (value_of semiring rules) state point select

abbrev pub AreHeld : State Monomial → (ℕ → List Span) → SemiringName → Type 0
AreHeld state spans name =
    (rules : List Rule × Option ℕ) (point : y.Point) (select : Select) → found_in (operations_of name) rules state.entries state.catalogue spans point select ≡ held_in (operations_of name) rules state point select

pub each-semiring : (Holds : SemiringName → Type 0) → Holds named.Count → Holds named.Bool → Holds named.Cost → Holds named.Level → Holds named.Poly → Holds named.Witness → (name : SemiringName) → Holds name
each-semiring Holds count truth cost level polynomial witness named.Count = count
each-semiring Holds count truth cost level polynomial witness named.Bool = truth
each-semiring Holds count truth cost level polynomial witness named.Cost = cost
each-semiring Holds count truth cost level polynomial witness named.Level = level
each-semiring Holds count truth cost level polynomial witness named.Poly = polynomial
each-semiring Holds count truth cost level polynomial witness named.Witness = witness

-- ---- what is found

-- over the row versions of a dump, by these rules
module _ (dump : code.Dump) (versions : List Versions) (same : versions ≡ dump.versions) (semiring : Operations) (kept rules : List Rule × Option ℕ) (by : kept ≡ rules) (point : y.Point) (select : Select) where
  abbrev entries : List Entry
  entries = log_view dump.log.entries

  pub moved : {X : Type 0} (view : X → List (List Cell × semiring.Element)) (found : Result X Stop) → Gives view found (found_in semiring kept entries (tables_in entries) (spans_of versions) point select)
      → Gives view found (found_in semiring rules entries (tables_in entries) (table_spans (tables_view dump.versions)) point select)
  moved view found gives =
      subst (λ (own : List Rule × Option ℕ). Gives view found (found_in semiring own entries (tables_in entries) (table_spans (tables_view dump.versions)) point select)) by
      (subst (λ (spans : ℕ → List Span). Gives view found (found_in semiring kept entries (tables_in entries) spans point select)) (spans-are dump versions same) gives)

module _ {K X : Type 0} (text_of : K → List ℕ) (view : X → List (List Cell × K)) where
  pub is-valued : (found : X) (expected : Result (List (List Cell × K)) Refusal) → Gives view (Ok found) expected → Values (map (valued text_of) (view found)) ≡ with_values text_of expected
  is-valued found (Ok rows) same = ap (λ (own : List (List Cell × K)). Values (map (valued text_of) own)) same
  is-valued found (Err refusal) none = absurd none

  pub is-unvalued : (refusal : Refusal) (expected : Result (List (List Cell × K)) Refusal) → Gives view (Err (stop.Refused refusal)) expected → Refused refusal ≡ with_values text_of expected
  is-unvalued refusal (Ok rows) none = absurd none
  is-unvalued refusal (Err expected) same = ap Refused same

-- ---- elements

module _ {K : Type 0} (is_element : K → Type 0) (one_of : K) (number_of : ℕ → Option K) (itself_of : Token → Option K) (number_in : (n : ℕ) → is_element (unwrap_or (number_of n) one_of))
    (itself_in : (token : Token) → is_element (unwrap_or (itself_of token) one_of)) where
  by-number : (number : Option ℕ) (token : Token) → is_element (value_by one_of number_of itself_of number token)
  by-number (Some n) token = number_in n
  by-number None token = itself_in token

  pub token-in : (rules : List Rule × Option ℕ) (token : Token) → is_element (token_value one_of number_of itself_of rules token)
  token-in rules token = by-number (number_by rules.0 rules.1 token) token
