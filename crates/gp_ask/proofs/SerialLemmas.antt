-- An order that SERIAL answers for a history is that of a history in which its transactions run one after another.
use Rattle.std.proofs.Common.{◌≡◌, ◌<◌, ◌≤◌, ℕ, zero, suc, Bool, true, false, cond, List, [], ◌∷◌, ◌++◌, map, length, Option, Some, None, refl, sym, ap, ◌∙◌, subst, arith}
use Rattle.std.specs.Prelude.{◌==◌, ◌&&◌, ◌||◌, Contains}
use Rattle.std.specs.Fmt.{decimal}
use Rattle.std.specs.List.{list_any}
use Rattle.std.specs.List.Sorted.{IsPermutation}
use Rattle.std.specs.Option.{option_map, option_map_or, option_or}
use Rattle.std.proofs.lemmas.Bool.{and_parts, eqb-true}
use Rattle.gp_base.specs.declared.refusal.Refusal.{Refusal}
use Rattle.gp_base.specs.declared.table.Table.{Table}
use Rattle.gp_base.specs.Annotated.{Annotated, Database, unannotated}
use Rattle.gp_algebra.specs.Statements.{Statement, insert, insert_select, update, delete, read}
use Rattle.gp_log.specs.Parameters.{parameters}
use Rattle.gp_machine.specs.Entries.{Entry, committer_of, log_of, statement_count}
use Rattle.gp_machine.specs.HistorySpans.{as_of}
use Rattle.gp_machine.specs.Points.{run_stop}
use Rattle.gp_machine.specs.Precedence.{is_before}
use Rattle.gp_machine.specs.Questions.{stop_refusal}
use Rattle.gp_machine.specs.RowChanges.{RowChange}
use Rattle.gp_machine.specs.SerialRuns.{is_serial}
use Rattle.gp_serial.specs.Graphs.{least_cycle, order_of}
use Rattle.gp_machine.specs.SerialForms.{committers}
use Rattle.gp_serial.specs.Serializing.{InCycle, InOrder, Serial, Undecided, by_number, in_order, runs_refusal, serial_by, serial_of, steps_of}
use Rattle.gp_versions.specs.declared.span.Span.{Span}
use Rattle.gp_ask.specs.declared.answered.Answered.{Answered}
use Rattle.gp_ask.specs.declared.answered.Answered.TheVariants as answered
use Rattle.gp_ask.specs.declared.answered.Heading.TheVariants as heading
use Rattle.gp_ask.specs.Questions.{is_refused}
use Rattle.gp_ask.specs.SerialAnswers.{answered_serial, step_text}
use Rattle.gp_ask.specs.Values.{unless_refused}

-- an answer that is an order
pub record OrderOf (tables : List Table) (entries : List Entry) (changes : List RowChange) (spans : ℕ → List Span) (texts : List (List ℕ)) : Type 0 where
  pub numbers : texts ≡ map decimal (order_of (is_before tables entries changes) (committers entries))
  pub all : length (order_of (is_before tables entries changes) (committers entries)) ≡ length (committers entries)
  pub serial : is_serial parameters (log_of entries) (length tables) (as_of unannotated spans) (order_of (is_before tables entries changes) (committers entries)) ≡ true

module _ (tables : List Table) (entries : List Entry) (changes : List RowChange) (spans : ℕ → List Span) (texts : List (List ℕ)) where
  abbrev order : List ℕ
  order = order_of (is_before tables entries changes) (committers entries)

  tried : (b : Bool) → ((length order == length (committers entries)) && is_serial parameters (log_of entries) (length tables) (as_of unannotated spans) order) ≡ b
      → answered_serial tables entries (cond b (InOrder order) Undecided) ≡ answered.Lines heading.Serial texts → OrderOf tables entries changes spans texts
  tried true is e =
      let parts = and_parts (length order == length (committers entries)) (is_serial parameters (log_of entries) (length tables) (as_of unannotated spans) order) is in
      record { numbers = cc; all = eqb-true (length order) (length (committers entries)) parts.0; serial = parts.1 }
  tried false is e = absurd cc

  by_cycle : (cycle : List ℕ) → answered_serial tables entries (serial_by tables entries changes parameters spans cycle) ≡ answered.Lines heading.Serial texts → OrderOf tables entries changes spans texts
  by_cycle [] e = tried ((length order == length (committers entries)) && is_serial parameters (log_of entries) (length tables) (as_of unannotated spans) order) refl e
  by_cycle (first ∷ others) e = absurd cc

  pub order_given : (refusal : Option Refusal) (cycle : List ℕ)
      → unless_refused refusal (answered_serial tables entries (serial_by tables entries changes parameters spans cycle)) ≡ answered.Lines heading.Serial texts → OrderOf tables entries changes spans texts
  order_given (Some refusal) cycle e = absurd cc
  order_given None cycle e = by_cycle cycle e

-- an answer that is a cycle
pub record CycleOf (tables : List Table) (entries : List Entry) (changes : List RowChange) (texts : List (List ℕ)) : Type 0 where
  pub first : ℕ
  pub others : List ℕ
  pub is : least_cycle (is_before tables entries changes) (by_number entries) ≡ first ∷ others
  pub lines : texts ≡ map (step_text tables entries) (steps_of tables entries changes (first ∷ others))

module _ (tables : List Table) (entries : List Entry) (changes : List RowChange) (spans : ℕ → List Span) where
  -- the order that is tried is no cycle
  tried_order : (texts : List (List ℕ)) (b : Bool) → answered_serial tables entries (cond b (InOrder (order_of (is_before tables entries changes) (committers entries))) Undecided) ≡ answered.Lines heading.Cycle texts → ⊥
  tried_order texts true e = absurd cc
  tried_order texts false e = absurd cc

  cycle_by : (texts : List (List ℕ)) (cycle : List ℕ) → least_cycle (is_before tables entries changes) (by_number entries) ≡ cycle
      → answered_serial tables entries (serial_by tables entries changes parameters spans cycle) ≡ answered.Lines heading.Cycle texts → CycleOf tables entries changes texts
  cycle_by texts [] is e =
      absurd (tried_order texts ((length (order_of (is_before tables entries changes) (committers entries)) == length (committers entries))
      && is_serial parameters (log_of entries) (length tables) (as_of unannotated spans) (order_of (is_before tables entries changes) (committers entries))) e)
  cycle_by texts (first ∷ others) is e = record { first = first; others = others; is = is; lines = lines_of texts e }
    where
      lines_of : (texts : List (List ℕ)) → answered.Lines heading.Cycle (map (step_text tables entries) (steps_of tables entries changes (first ∷ others))) ≡ answered.Lines heading.Cycle texts
          → texts ≡ map (step_text tables entries) (steps_of tables entries changes (first ∷ others))
      lines_of texts e = cc

  pub cycle_given : (texts : List (List ℕ)) (refusal : Option Refusal)
      → unless_refused refusal (answered_serial tables entries (serial_of tables entries changes parameters spans)) ≡ answered.Lines heading.Cycle texts → CycleOf tables entries changes texts
  cycle_given texts (Some refusal) e = absurd cc
  cycle_given texts None e = cycle_by texts (least_cycle (is_before tables entries changes) (by_number entries)) refl e

  tried_answered : (b : Bool) → is_refused (answered_serial tables entries (cond b (InOrder (order_of (is_before tables entries changes) (committers entries))) Undecided)) ≡ false
  tried_answered true = refl
  tried_answered false = refl

  by_answered : (cycle : List ℕ) → is_refused (answered_serial tables entries (serial_by tables entries changes parameters spans cycle)) ≡ false
  by_answered [] =
      tried_answered ((length (order_of (is_before tables entries changes) (committers entries)) == length (committers entries))
      && is_serial parameters (log_of entries) (length tables) (as_of unannotated spans) (order_of (is_before tables entries changes) (committers entries)))
  by_answered (first ∷ others) = refl

  pub is_answered : (refusal : Option Refusal) → refusal ≡ None → is_refused (unless_refused refusal (answered_serial tables entries (serial_of tables entries changes parameters spans))) ≡ false
  is_answered refusal none =
      ap (λ found. is_refused (unless_refused found (answered_serial tables entries (serial_of tables entries changes parameters spans)))) none
      ∙ by_answered (least_cycle (is_before tables entries changes) (by_number entries))

-- where no transaction stops, none is refused
pub none_refused : (entries : List Entry) (spans : ℕ → List Span) (n : ℕ)
    → ((u : ℕ) → u < n → run_stop unannotated parameters (log_of entries) (committer_of (suc u) entries) (statement_count (committer_of (suc u) entries) entries) (as_of unannotated spans) ≡ None)
    → runs_refusal parameters entries spans n ≡ None
none_refused entries spans zero runs = refl
none_refused entries spans (suc n) runs = λ i. option_or (none_refused entries spans n (λ u l. runs u (omega (arith, l))) i) (option_map stop_refusal (runs n (omega arith) i))
