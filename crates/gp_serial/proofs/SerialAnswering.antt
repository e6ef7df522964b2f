-- The answer, of what the functions give.
use Rattle.gp_serial.proofs.Prelude.{◌≡◌, ◌<◌, ◌≤◌, ℕ, Bool, List, length, None, Result, Ok, Err, refl, sym, ap, ◌∙◌, subst, arith, AllByRecursion, entries, tables, Logged, parameters, RowChange, spans_of, Versions}
use Rattle.gp_log.specs.Contents.{commits}
use Rattle.gp_machine.specs.RowChanges.{tables_changes}
use Rattle.gp_serial.specs.declared.error.SerialStop.{SerialStop}
use Rattle.gp_serial.specs.declared.error.SerialStop.TheVariants.{NoMemory, Refused}
use Rattle.gp_serial.specs.declared.serializing.Serial.{Serial}
use Rattle.gp_serial.specs.Changes.{tables_of}
use Rattle.gp_serial.specs.Graphs.{least_cycle, order_of}
use Rattle.gp_serial.specs.Preceding.{IsMadeBy, IsPrecedence}
use Rattle.gp_serial.specs.SerialLogs.{AreFew}
use Rattle.gp_serial.specs.SerialViews.{IsSerialOf, IsSerializable, IsTried, RunsWhole, cycle_answer}
use Rattle.gp_serial.specs.Serializing as s
use Rattle.gp_machine.specs.SerialForms.{committers}
use Rattle.gp_serial.specs.Serializing.{by_number, runs_refusal, serial_of}
use Rattle.gp_serial.proofs.SerializingLemmas.{made_by, order_few, order_whole, short_answer, whole_answer}

module _ (log : Logged) (versions : List Versions) (rules : IsSerializable log versions) (none : runs_refusal parameters (entries log) (spans_of versions) (commits log) ≡ None)
    (all : List ℕ) (all_is : all ≡ committers (entries log)) where
  pub committed : IsMadeBy (entries log) all
  committed = subst (IsMadeBy (entries log)) (sym all_is) (made_by (entries log) rules.sessions)

  abbrev answer_by : List RowChange → s.Serial
  answer_by changes = serial_of (tables log) (entries log) changes parameters (spans_of versions)

  abbrev answer : s.Serial
  answer = answer_by (tables_changes 0 (tables_of versions))

  module _ (changes : List RowChange) (changes_are : changes ≡ tables_changes 0 (tables_of versions)) (relation : ℕ → ℕ → Bool) (agrees : IsPrecedence (tables log) (entries log) changes all relation)
      (order : List ℕ) (order_is : order ≡ order_of relation all) where
    agree : IsPrecedence (tables log) (entries log) changes (committers (entries log)) relation
    agree = subst (λ own. IsPrecedence (tables log) (entries log) changes own relation) all_is agrees

    ordered : order ≡ order_of relation (committers (entries log))
    ordered = order_is ∙ ap (order_of relation) all_is

    -- an order that is not whole
    pub cycle_found : length order < length all → (found : s.Serial) → found ≡ cycle_answer (tables log) (entries log) changes (least_cycle relation (by_number (entries log))) → found ≡ answer
    cycle_found short found is =
        is ∙ short_answer (entries log) rules.sessions changes (spans_of versions) relation agree (omega (arith, short, ap length ordered, ap length all_is)) ∙ ap answer_by changes_are

    pub few_ordered : AreFew (entries log) order
    few_ordered = subst (AreFew (entries log)) (sym ordered) (order_few (entries log) rules.sessions changes (spans_of versions) relation agree (entries log) refl rules.few)

    pub whole_runs : AllByRecursion (λ t. RunsWhole log versions t) order
    whole_runs = subst (AllByRecursion (λ t. RunsWhole log versions t)) (sym ordered) (order_whole (entries log) rules.sessions changes (spans_of versions) relation agree none)

    -- a whole one
    pub order_tried : length all ≤ length order → (result : Result Serial SerialStop) → IsTried (entries log) (tables log) versions order result → IsSerialOf (entries log) versions answer result
    order_tried whole (Ok found) is = (
      none,
      subst (λ order. IsTried (entries log) (tables log) versions order (Ok found)) ordered is
          ∙ whole_answer (entries log) rules.sessions changes (spans_of versions) relation agree (omega (arith, whole, ap length ordered, ap length all_is)) ∙ ap answer_by changes_are,
    )
    order_tried whole (Err (Refused refusal)) is = absurd is
    order_tried whole (Err NoMemory) is = tt
