-- Each line of a cycle that ANOMALIES answers is true of the history: each transaction comes before the next one for that reason.
use Rattle.std.proofs.Common.{◌≡◌, ◌≢◌, ◌<◌, ◌≤◌, ℕ, Bool, true, false, cond, List, [], ◌∷◌, ◌++◌, length, map, Option, Some, None, refl, sym, ap, ◌∙◌, subst}
use Rattle.std.specs.Prelude.{◌==◌, ◌&&◌, filter, nat_lt, not, slice_get, is_some}
use Rattle.std.specs.List.{AllByRecursion, flat_map, list_any}
use Rattle.std.specs.Option.{option_map, option_map_or, option_or}
use Rattle.std.proofs.lemmas.Bool.{and_parts, false≢true}
use Rattle.std.proofs.lemmas.Option.{same_Some}
use Rattle.gp_base.specs.declared.table.Table.{Table}
use Rattle.gp_base.specs.Annotated.{unannotated}
use Rattle.gp_base.proofs.SmallLemmas.{eq_itself, some_none}
use Rattle.gp_algebra.specs.Reannotation.{forgotten, reannotated}
use Rattle.gp_versions.specs.Spans.{rows_at}
use Rattle.gp_versions.specs.TableSpans.{AreWhole, NoOverlap}
use Rattle.gp_machine.specs.Entries.{versions_in, version_of}
use Rattle.gp_machine.specs.HistorySpans.{state_spans}
use Rattle.gp_machine.specs.Precedence.{Reason, is_before, read_after, read_before, reasons, wrote_before}
use Rattle.gp_machine.specs.RowChanges.{RowChange}
use Rattle.gp_machine.specs.SeenRows.{HaveDifferentIdentities}
use Rattle.gp_machine.specs.State.{State}
use Rattle.gp_serial.specs.declared.anomaly.AnomalyName.TheVariants.{LostUpdate}
use Rattle.gp_serial.specs.Anomalies.{Facts, anomaly_of, by_steps, facts, lost, name_of, own_step, reads_written, steps_between, unseen}
use Rattle.gp_serial.specs.Graphs.{closes, is_cycle}
use Rattle.gp_serial.specs.LeastCycles.{IsCycleOf}
use Rattle.gp_serial.specs.PairCycles.{pairs_of, pairs_to}
use Rattle.gp_serial.specs.Serializing.{Step, by_number}
use Rattle.gp_serial.proofs.LeastLemmas.{each_from, each_in}
use Rattle.gp_ask.specs.SerialAnswers.{step_text}
use Rattle.gp_ask.specs.SerialHistories.{AreSteps, IsReason, IsStep, IsTrue, RunsInCycle}
use Rattle.gp_ask.proofs.SerialCycles.{IsMember, before_true, each_with, kept_each, mapped_each, numbered, step_true, wrote_true}

-- one before another is another one
before_apart : (tables : List Table) (state : State (Unit {0})) (changes : List RowChange) (a b : ℕ) → is_before tables state.entries changes a b ≡ true → a ≢ b
before_apart tables state changes a b e same =
    false≢true (ap (λ (own : Bool). nat_lt 0 (length (cond own [] (every a b)))) (sym (ap (λ x. a == x) (sym same) ∙ eq_itself a)) ∙ e)
  where
    every : ℕ → ℕ → List Reason
    every a b = read_before tables state.entries changes a b ++ (read_after tables state.entries changes a b ++ wrote_before tables state.entries changes a b)

module _ (state : State (Unit {0})) (rows : (version table : ℕ) → version ≤ versions_in state.entries → rows_at unannotated version (state_spans state table) ≡ map (reannotated forgotten) (state.committed version table))
    (apart : (table : ℕ) → NoOverlap (state_spans state table)) (whole : (table : ℕ) → AreWhole (state_spans state table))
    (different : (version table : ℕ) → version ≤ versions_in state.entries → HaveDifferentIdentities (state.committed version table)) (tables : List Table) (catalogue : tables ≡ state.catalogue)
    (changes : List RowChange) (all : AllByRecursion (IsTrue state) changes) where
  abbrev before : ℕ → ℕ → Bool
  before = is_before tables state.entries changes

  abbrev IsOne : ℕ → Type 0
  IsOne = IsMember state rows apart whole different tables catalogue changes all

  abbrev line : Step → List ℕ
  line = step_text tables state.entries

  -- ---- lost updates

  -- the read and the writes of a lost update
  abbrev AreReasons : ℕ → ℕ → Reason × Reason → Type 0
  AreReasons a b two = IsReason state a b two.0 × IsReason state b a two.1

  lost_true : (a b : ℕ) → 0 < a → 0 < b → AllByRecursion (AreReasons a b) (lost tables state.entries changes a b)
  lost_true a b some_a some_b =
      each_with (AreReasons a b) (IsReason state b a) (λ wrote. map (λ read. (read, wrote)) (filter (reads_written wrote) (read_before tables state.entries changes a b))) (unseen tables state.entries changes a b)
      (kept_each (IsReason state b a) (IsReason state b a) (λ wrote. not (list_any (reads_written wrote) (read_after tables state.entries changes b a))) (λ wrote own is. own)
      (wrote_before tables state.entries changes b a) (wrote_true state rows apart whole different tables catalogue changes all b a some_b some_a))
      (λ wrote own. mapped_each (AreReasons a b) (IsReason state a b) (λ read. (read, wrote)) (λ read is. (is, own)) _
      (kept_each (IsReason state a b) (IsReason state a b) (reads_written wrote) (λ read is passes. is) (read_before tables state.entries changes a b)
      (before_true state rows apart whole different tables catalogue changes all a b some_a some_b)))

  first_lost : (a b : ℕ) (two : Reason × Reason) → 0 < a → 0 < b → slice_get (lost tables state.entries changes a b) 0 ≡ Some two → AreReasons a b two
  first_lost a b two some_a some_b is = by (lost tables state.entries changes a b) (lost_true a b some_a some_b) is
    where
      by : (list : List (Reason × Reason)) → AllByRecursion (AreReasons a b) list → slice_get list 0 ≡ Some two → AreReasons a b two
      by [] each is = absurd (some_none two (sym is))
      by (own ∷ list) each is = subst (AreReasons a b) (same_Some own two is) each.0

  own_true : (a b : ℕ) → IsOne a → before a b ≡ true → (reason : Reason) → IsReason state a b reason → IsStep state a b (line (own_step a b reason))
  own_true a b one e reason is = record {
    two = before_apart tables state changes a b e;
    committed = one.1;
    reason = reason;
    is = is;
    text = λ i. step_text (catalogue i) state.entries (own_step a b reason);
  }

  -- ---- cycles

  abbrev own_facts : Facts
  own_facts = facts tables state.entries changes

  steps_true : (first : ℕ) (list : List ℕ) → IsOne first → AllByRecursion IsOne list → closes before first list ≡ true → AreSteps state first list (map line (steps_between own_facts (pairs_to first list)))
  steps_true first [] one each e = absurd (false≢true e)
  steps_true first (a ∷ []) one (own, each) e = step_true state rows apart whole different tables catalogue changes all a first own.0 one.0 own.1 e
  steps_true first (a ∷ b ∷ others) one (own, each) e =
      let parts = and_parts (before a b) (closes before first (b ∷ others)) e in
      (step_true state rows apart whole different tables catalogue changes all a b own.0 each.0.0 own.1 parts.0, steps_true first (b ∷ others) one each parts.1)

  -- by the first reason of each step
  by_reasons : (first : ℕ) (others : List ℕ) → AllByRecursion IsOne (first ∷ others) → is_cycle before (first ∷ others) ≡ true
      → RunsInCycle state (map line (steps_between own_facts (pairs_of (first ∷ others))))
  by_reasons first others each e = record { first = first; others = others; steps = steps_true first (first ∷ others) each.0 each e }

  -- a pair, by what is known of lost updates of both
  pair_true : (a b : ℕ) → AllByRecursion IsOne (a ∷ b ∷ []) → is_cycle before (a ∷ b ∷ []) ≡ true → (one other : Option (Reason × Reason))
      → slice_get (lost tables state.entries changes a b) 0 ≡ one → slice_get (lost tables state.entries changes b a) 0 ≡ other
      → RunsInCycle state (map line (option_map_or (by_steps own_facts LostUpdate)
      (option_or (option_map (λ (two : Reason × Reason). own_step a b two.0 ∷ own_step b a two.1 ∷ []) one) (option_map (λ (two : Reason × Reason). own_step a b two.1 ∷ own_step b a two.0 ∷ []) other))
      (by_steps own_facts (name_of own_facts (a ∷ b ∷ [])) (steps_between own_facts (pairs_of (a ∷ b ∷ []))))).steps)
  pair_true a b each e (Some two) other is also =
      let parts = and_parts (before a b) (before b a) e in
      let own = first_lost a b two each.0.0 each.1.0.0 is in
      record { first = a; others = b ∷ []; steps = (own_true a b each.0 parts.0 two.0 own.0, own_true b a each.1.0 parts.1 two.1 own.1) }
  pair_true a b each e None (Some two) is also =
      let parts = and_parts (before a b) (before b a) e in
      let own = first_lost b a two each.1.0.0 each.0.0 also in
      record { first = a; others = b ∷ []; steps = (own_true a b each.0 parts.0 two.1 own.1, own_true b a each.1.0 parts.1 two.0 own.0) }
  pair_true a b each e None None is also = by_reasons a (b ∷ []) each e

  -- a cycle of transactions that committed
  cycle_true : (cycle : List ℕ) → AllByRecursion IsOne cycle → is_cycle before cycle ≡ true → RunsInCycle state (map line (anomaly_of own_facts cycle).steps)
  cycle_true [] each e = absurd (false≢true e)
  cycle_true (a ∷ []) each e = by_reasons a [] each e
  cycle_true (a ∷ b ∷ []) each e =
      pair_true a b each e (slice_get (lost tables state.entries changes a b) 0) (slice_get (lost tables state.entries changes b a) 0) refl refl
  cycle_true (a ∷ b ∷ c ∷ others) each e = by_reasons a (b ∷ c ∷ others) each e

  pub anomaly_true : (cycle : List ℕ) → IsCycleOf before (by_number state.entries) cycle → RunsInCycle state (map line (anomaly_of own_facts cycle).steps)
  anomaly_true cycle own =
      cycle_true cycle (each_from IsOne cycle (λ t there. each_in IsOne (by_number state.entries) (numbered state rows apart whole different tables catalogue changes all) t (own.among t there))) own.closes
